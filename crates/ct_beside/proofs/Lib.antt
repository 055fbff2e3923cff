mod Besides
mod Effects
mod Keeping
mod Staying
