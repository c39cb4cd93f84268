mod Growing
mod Drawing
mod Lengths
