-- Pairs of Ints whose equality is to get a number.
use Rattle.std.specs.Prelude.{◌≡◌, ℕ, ◌<◌, Bool, true, List, length, All, Contains, Some}
use Rattle.fraction128.specs.Whole.{InRange}
use Rattle.smt_meaning.specs.declared.values.Sort.TheVariants.{Int as Ints}
use Rattle.smt_meaning.specs.declared.clauses.Atom.{Atom}
use Rattle.smt_meaning.specs.declared.clauses.Atom.TheVariants.{AtMost, Same}
use Rattle.smt_meaning.specs.Stack.{signature_of}
use Rattle.smt_meaning.specs.StackCommand.{Stack}
use Rattle.smt_meaning.specs.Signature.{tree_sort}
use Rattle.smt_meaning.specs.Term.{Tree, tree_at}
use Rattle.atom_form.specs.AtomTableNumbers.{IsAt}
use Rattle.linear_forms.specs.Differences.{Refuses}
use Rattle.pair_bounds.specs.Pairs.{at_most_fits}
use Rattle.bound_clauses.specs.Laws.{IsReadable}
use Rattle.bound_log.specs.Growth.{IsProper}
use Rattle.model_eval.specs.Walk.{is_marked}
use Rattle.theory_combine.specs.declared.parts.Pair.{Pair}
use Rattle.theory_combine.specs.declared.pairs.Sought.{Sought}
use Rattle.theory_combine.specs.declared.pairs.Sought.TheVariants.{Number, New, Outside}

-- the marked places are of terms whose bounds have their values
abbrev pub AreReadable : List Tree → List Bool → Type 0
AreReadable trees marks = (p : ℕ) → is_marked marks p ≡ true → IsReadable trees p

-- a marked Int whose bounds have its value
pub record IsFit (s : Stack) (marks : List Bool) (p : ℕ) : Type 0 where
  pub within : p < length s.trees
  pub marked : is_marked marks p ≡ true
  pub is_int : tree_sort (signature_of s.frames) (tree_at s.trees p) ≡ Some Ints
  pub readable : IsReadable s.trees p

-- the number of a bound, or the bound, which has none; or why folding it is refused
abbrev pub IsSought : List Atom → Atom → Sought → Type 0
IsSought atoms a (Number n) = IsAt atoms n a
IsSought atoms a (New b) = (Contains atoms (AtMost b.sum.items b.threshold) → ⊥) × All IsProper b.sum.items × InRange b.threshold × (AtMost b.sum.items b.threshold ≡ a)
IsSought atoms a (Outside e) = Unit {0}

-- folding the bound of the terms at two places is refused where there is none
abbrev pub IsRefused : List Tree → ℕ → ℕ → Sought → Type 0
IsRefused ts left right (Number n) = Unit {0}
IsRefused ts left right (New b) = Unit {0}
IsRefused ts left right (Outside e) = Refuses ts (at_most_fits ts) left right e

-- two Ints whose equality has no number
pub record IsWanted (s : Stack) (marks : List Bool) (atoms : List Atom) (p : Pair) : Type 0 where
  pub left : IsFit s marks p.left
  pub right : IsFit s marks p.right
  pub new : Contains atoms (Same p.left p.right) → ⊥
