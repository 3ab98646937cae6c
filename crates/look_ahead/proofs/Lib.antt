pub mod PartLemmas
mod MarkLemmas
mod LetLemmas
mod FreeLemmas
