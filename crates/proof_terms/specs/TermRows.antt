-- Rows of divisions over the terms of a proof.
use Rattle.std.specs.Prelude.{◌≡◌, ◌⊎◌, ◌&&◌, ℕ, ℤ, Bool, true, false, List, [], ◌∷◌, map, slice_index, Option, Some, None}
use Rattle.fraction128.specs.Whole.{InRange}
use Rattle.smt_meaning.specs.Term.{Tree, tree_at}
use Rattle.smt_meaning.specs.Linear.{folding_fits, linear_form}
use Rattle.smt_meaning.specs.Division.{Limit, Row, limit, limit_fits}
use Rattle.term_store.specs.Terms.{IsPlace, IsNew}
use Rattle.linear_forms.specs.declared.multiples.Multiple.{Multiple}
use Rattle.pair_bounds.specs.declared.rows.RowLimit.{RowLimit}
use Rattle.proof_meaning.specs.Rules.{divisor_at}
use Rattle.proof_terms.specs.declared.terms_facts.Fact.{Fact}
use Rattle.proof_terms.specs.TermRenaming.{first_at}

-- ---- over trees

abbrev pub tree_multiples : List Tree → List (ℤ × ℕ) → List (ℤ × Tree)
tree_multiples ts ms = map (λ (m : ℤ × ℕ). (m.0, tree_at ts m.1)) ms

abbrev pub tree_limit : List Tree → Limit ℕ → Limit Tree
tree_limit ts l = limit (tree_multiples ts l.multiples) l.most

abbrev pub tree_row : List Tree → Row ℕ → Row Tree
tree_row ts r = record { truth = r.truth; limits = map (tree_limit ts) r.limits }

-- folding the trees of these multiples stays in the range
abbrev pub trees_fit : List Tree → List (ℤ × Tree) → Bool
trees_fit ts [] = true
trees_fit ts (m ∷ ms) = folding_fits ts m.1 && trees_fit ts ms

-- and so do the multiples
abbrev pub tree_limit_stays : List Tree → Limit Tree → Bool
tree_limit_stays ts l = trees_fit ts l.multiples && limit_fits (linear_form ts) l

-- ---- over places

abbrev pub multiple_at : List ℕ → Multiple → Multiple
multiple_at places m = record { factor = m.factor; term = slice_index places m.term }

abbrev pub third_at : List ℕ → Option Multiple → Option Multiple
third_at places None = None
third_at places (Some m) = Some (multiple_at places m)

-- the limit over the places of its terms
abbrev pub limit_at : List ℕ → RowLimit → RowLimit
limit_at places l = record { first = multiple_at places l.first; second = multiple_at places l.second; third = third_at places l.third; most = l.most }

-- the first term with a tree, if there is one
abbrev pub IsFirst : List Tree → List Fact → Tree → Option ℕ → Type 0
IsFirst us facts t None = IsNew us t
IsFirst us facts t (Some i) = (p : ℕ) × (IsPlace us p t × (i ≡ first_at facts p))

-- ---- divisors

pub record IsDivisor (ts : List Tree) (n : ℕ) (number : ℤ) : Type 0 where
  pub number_is : number ≡ divisor_at ts n
  pub in_range : InRange number

-- folding the divisor leaves the range, or its number isn't in it
abbrev pub DivisorLeaves : List Tree → ℕ → Type 0
DivisorLeaves ts n = (folding_fits ts (tree_at ts n) ≡ false) ⊎ (InRange (divisor_at ts n) → ⊥)
