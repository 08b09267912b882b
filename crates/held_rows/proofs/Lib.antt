mod Lots
mod Tried
