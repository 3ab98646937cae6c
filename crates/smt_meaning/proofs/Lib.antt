mod Flat
mod Layers
