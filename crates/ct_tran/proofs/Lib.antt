mod Merging
mod Overlaying
mod Saves
