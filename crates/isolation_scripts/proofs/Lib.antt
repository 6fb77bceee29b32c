mod Counting
mod EnginesStay
mod Fresh
mod GivenBack
mod Halves
mod Legality
mod SplitLists
mod Told
