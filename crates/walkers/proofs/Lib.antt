mod Places
mod Turns
mod Regions
mod Backs
