-- The difference of two terms, folded as the term that takes one from the other.
use Rattle.std.specs.Prelude.{◌≡◌, ◌⊎◌, ℕ, Bool, true, false, List, length}
use Rattle.smt_meaning.specs.declared.terms.Operator.TheVariants.{Subtract}
use Rattle.smt_meaning.specs.declared.terms.Head.TheVariants.{Theory}
use Rattle.smt_meaning.specs.Term.{Tree, node, none, more, tree_at}
use Rattle.smt_meaning.specs.Linear.{Form, form_fits, folding_fits}
use Rattle.smt_meaning.specs.Atoms.{difference_of}
use Rattle.linear_forms.specs.declared.differences.DifferenceError.{DifferenceError}
use Rattle.linear_forms.specs.declared.differences.DifferenceError.TheVariants.{Term, Pair, Memory}
use Rattle.linear_forms.specs.Sums.{IsSum}
use Rattle.linear_forms.specs.Table.{Known, AreForms, IsOutside}

abbrev pub difference_tree : Tree → Tree → Tree
difference_tree s t = node (Theory Subtract) (more s (more t none))

-- folding both terms, and then their difference, stays in the range
abbrev pub difference_fits : List Tree → Tree → Tree → Bool
difference_fits ts s t = folding_fits ts (difference_tree s t)

-- what is known is the forms of the terms of some list
pub record KnowsForms (known : List Known) : Type 0 where
  pub trees : List Tree
  pub forms : AreForms trees known

-- folding the difference of the terms at two places stays in the range and gives this form
pub record IsDifference (ts : List Tree) (left right : ℕ) (f : Form) : Type 0 where
  pub fits : difference_fits ts (tree_at ts left) (tree_at ts right) ≡ true
  pub form : f ≡ difference_of ts (tree_at ts left) (tree_at ts right)
  pub is_sum : IsSum (length ts) f.sum
  pub ranges : form_fits f ≡ true

-- folding each of the terms at two places stays in the range, and folding the pair doesn't
pub record LeavesRangeTogether (ts : List Tree) (fits : Tree → Tree → Bool) (left right : ℕ) : Type 0 where
  pub left_fits : folding_fits ts (tree_at ts left) ≡ true
  pub right_fits : folding_fits ts (tree_at ts right) ≡ true
  pub outside : fits (tree_at ts left) (tree_at ts right) ≡ false

-- why folding the pair of the terms at two places is refused
abbrev pub Refuses : List Tree → (Tree → Tree → Bool) → ℕ → ℕ → DifferenceError → Type 0
Refuses ts fits left right (Term part) = IsOutside ts left part ⊎ IsOutside ts right part
Refuses ts fits left right Pair = LeavesRangeTogether ts fits left right
Refuses ts fits left right Memory = Unit {0}
