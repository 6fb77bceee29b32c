pub mod WantOfMemory
