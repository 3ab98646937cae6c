-- The bounds that compare two terms.
use Rattle.std.specs.Prelude.{◌≡◌, ℕ, Bool, true, ◌&&◌, List, length, ℤ, pos, ◌-ℤ◌, neg_ℤ}
use Rattle.fraction128.specs.Whole.{InRange, is_in_range}
use Rattle.smt_meaning.specs.declared.clauses.Summand.{Summand}
use Rattle.smt_meaning.specs.declared.clauses.Atom.{Atom}
use Rattle.smt_meaning.specs.declared.clauses.Atom.TheVariants.{AtMost}
use Rattle.smt_meaning.specs.Term.{Tree, tree_at}
use Rattle.smt_meaning.specs.Linear.{Form, sum_fits}
use Rattle.smt_meaning.specs.Atoms.{difference_of, at_most_atom, below_atom}
use Rattle.linear_forms.specs.Sums.{IsSum}
use Rattle.linear_forms.specs.Differences.{difference_fits}

-- folding s <= t stays in the range where folding the difference does
abbrev pub at_most_fits : List Tree → Tree → Tree → Bool
at_most_fits ts s t = difference_fits ts s t

-- the number that the sum of a form below 0 is at most
abbrev pub threshold_below : Form → ℤ
threshold_below f = neg_ℤ f.constant -ℤ pos 1

-- for s < t that number is in the range, too
abbrev pub below_fits : List Tree → Tree → Tree → Bool
below_fits ts s t = difference_fits ts s t && is_in_range (threshold_below (difference_of ts s t))

-- a sum and its threshold are those of an atom, the sum in ascending order of places, and all numbers in the range
pub record IsBound (ts : List Tree) (a : Atom) (sum : List Summand) (threshold : ℤ) : Type 0 where
  pub atom : AtMost sum threshold ≡ a
  pub is_sum : IsSum (length ts) sum
  pub coefficients : sum_fits sum ≡ true
  pub in_range : InRange threshold

-- folding s <= t, of the terms at two places, stays in the range and gives this bound
pub record IsAtMost (ts : List Tree) (left right : ℕ) (sum : List Summand) (threshold : ℤ) : Type 0 where
  pub fits : at_most_fits ts (tree_at ts left) (tree_at ts right) ≡ true
  pub bound : IsBound ts (at_most_atom ts (tree_at ts left) (tree_at ts right)) sum threshold

-- folding s < t does
pub record IsBelow (ts : List Tree) (left right : ℕ) (sum : List Summand) (threshold : ℤ) : Type 0 where
  pub fits : below_fits ts (tree_at ts left) (tree_at ts right) ≡ true
  pub bound : IsBound ts (below_atom ts (tree_at ts left) (tree_at ts right)) sum threshold
