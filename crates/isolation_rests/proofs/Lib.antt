mod Events
mod Lookups
mod Telling
