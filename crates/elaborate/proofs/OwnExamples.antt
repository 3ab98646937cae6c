-- The terms of `(+ 1 x)` in the body `(+ 1 (d x))` of the next definition, and in others.
use Rattle.std.proofs.Common.{◌≡◌, ℕ, zero, suc, List, [], ◌∷◌, ap, refl, arith, true, false}
use Rattle.std.specs.Prelude.{pos}
use Rattle.smt_meaning.specs.declared.terms.Operator.TheVariants.{Add}
use Rattle.smt_meaning.specs.declared.terms.Head.TheVariants.{Numeral, Theory, Place}
use Rattle.smt_meaning.specs.Term.{Tree, node, none, more}
use Rattle.smt_meaning.specs.TreeShape.{tree_eq}
use Rattle.elaborate.specs.Own.{AreAlike, IsTakenBody}
use Rattle.elaborate.specs.Values.{IsLonger}

abbrev number : ℕ → Tree
number n = node (Numeral (pos n)) none

abbrev x : Tree
x = node (Place 0) none

abbrev sum : Tree
sum = node (Theory Add) (more (number 1) (more x none))

abbrev terms : List Tree
terms = x ∷ number 1 ∷ sum ∷ []

-- its parameter and its numeral are stored
two_alike : AreAlike 2 (x ∷ number 1 ∷ []) terms
two_alike zero h = refl
two_alike (suc zero) h = refl
two_alike (suc (suc i)) h = absurd (omega arith)

two_begin : IsLonger (x ∷ number 1 ∷ []) terms
two_begin = (sum ∷ [], refl)

-- another numeral is stored
not_alike : AreAlike 2 (x ∷ number 2 ∷ []) terms → ⊥
not_alike h = differ (ap (tree_eq (number 1)) (h 1 (omega arith)))
  where
    differ : false ≡ true → ⊥
    differ e = cc

-- what was taken is linear, and isn't built from numerals
is_body : IsTakenBody (record { id = 7; constant = false; linear = true }) terms (record { terms = terms; term = sum })
is_body = record { terms = refl; constant = refl; linear = refl }

no_body : IsTakenBody (record { id = 7; constant = true; linear = true }) terms (record { terms = terms; term = sum }) → ⊥
no_body h = differ h.constant
  where
    differ : true ≡ false → ⊥
    differ e = cc
