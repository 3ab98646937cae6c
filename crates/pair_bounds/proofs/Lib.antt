pub mod Mapping
pub mod NormalLemmas
pub mod PairLemmas
pub mod TurningLemmas
pub mod RowLemmas
pub mod LargeDivisors
