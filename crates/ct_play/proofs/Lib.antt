mod Reading
mod Turns
