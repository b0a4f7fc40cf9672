mod Pairs
mod Patterns
mod Sizes
