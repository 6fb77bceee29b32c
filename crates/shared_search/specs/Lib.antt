pub mod Counts
pub mod Rule
pub mod Boards
pub mod Picks
pub mod Worked
pub mod Gathered
pub mod Lent
pub mod Laws
