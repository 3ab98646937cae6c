-- Chords among equalities.
use Rattle.std.specs.Prelude.{◌≡◌, ℕ, Bool, List, slice_index_or}
use Rattle.smt_meaning.specs.declared.values.Sort.{Sort}
use Rattle.smt_meaning.specs.declared.values.Sort.TheVariants.{Bool as Truths, Free}
use Rattle.check_atoms.specs.Parts.{IsMarked}

-- both are one declared sort
pub record HaveDeclaredSort (left right : Sort) : Type 0 where
  pub sort : ℕ
  pub left_is : left ≡ Free sort
  pub right_is : right ≡ Free sort

-- the terms at these places are parts of one declared sort
pub record MayCompare (sorts : List Sort) (marks : List Bool) (i j : ℕ) : Type 0 where
  pub left : IsMarked marks i
  pub right : IsMarked marks j
  pub sort : HaveDeclaredSort (slice_index_or sorts i Truths) (slice_index_or sorts j Truths)
