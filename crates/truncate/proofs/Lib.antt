mod Applied
mod Overruling
