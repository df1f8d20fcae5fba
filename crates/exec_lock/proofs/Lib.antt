mod CountLemmas
mod NumberLemmas
mod SeatLemmas
mod TurnLemmas
mod ShareLemmas
mod EndLemmas
pub mod PrefixLemmas
pub mod WorkLemmas
