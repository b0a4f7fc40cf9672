mod Layers
mod Offers
