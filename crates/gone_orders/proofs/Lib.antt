mod Arriving
mod Cut
mod Lists
mod Looks
mod Orders
