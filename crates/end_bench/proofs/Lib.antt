mod Balance
mod Closings
mod Fairness
mod Givings
mod Lent
mod Placed
mod Takings
