-- Clauses of `=` and `distinct` of more than two Bools, and of `xor` of three. No atom but the truth of the node and of its arguments is needed.
use Rattle.std.specs.Prelude.{ℕ, Bool, true, false, not, nat_eq, List, [], ◌∷◌, map, if◌then◌else◌}
use Rattle.smt_meaning.specs.declared.terms.Operator.{Operator}
use Rattle.smt_meaning.specs.declared.terms.Operator.TheVariants.{Equal, Distinct, Xor}
use Rattle.smt_meaning.specs.Term.{xor}
use Rattle.smt_meaning.specs.Forced.{Sign}
use Rattle.clause_form.specs.Signs.{sign, yes, negated, once}
use Rattle.clause_form.specs.NodeClauses.{never, conjunction}

-- where the first is true, each literal implies the next, and the last one the first of them
abbrev pub round : Sign → Sign → Sign → List Sign → List (List Sign)
round out first s [] = (negated out ∷ negated s ∷ first ∷ []) ∷ []
round out first s (u ∷ us) = (negated out ∷ negated s ∷ u ∷ []) ∷ round out first u us

-- the first is true exactly where the others have one truth value; none of these stands twice
abbrev pub alike : Sign → List Sign → List (List Sign)
alike out [] = []
alike out (s ∷ []) = (out ∷ []) ∷ []
alike out (s ∷ u ∷ us) = (out ∷ map negated (s ∷ u ∷ us)) ∷ (out ∷ s ∷ u ∷ us) ∷ round out s s (u ∷ us)

-- where the three places have these truth values, an odd number of which are true exactly where t is
abbrev pub excluding : ℕ → ℕ → ℕ → ℕ → Bool → Bool → Bool → List Sign
excluding t x y z a b c = sign x (not a) ∷ sign y (not b) ∷ sign z (not c) ∷ sign t (xor (xor a b) c) ∷ []

-- t is true exactly where an odd number of three different places is
abbrev pub parity_of_three : ℕ → ℕ → ℕ → ℕ → List (List Sign)
parity_of_three t x y z =
    excluding t x y z false false false ∷ excluding t x y z false false true ∷ excluding t x y z false true false ∷ excluding t x y z false true true
    ∷ excluding t x y z true false false ∷ excluding t x y z true false true ∷ excluding t x y z true true false ∷ excluding t x y z true true true ∷ []

-- the same where places may be the same: two that are leave the third
abbrev pub odd_of_three : ℕ → ℕ → ℕ → ℕ → List (List Sign)
odd_of_three t x y z =
    if nat_eq x y then conjunction (yes t) (yes z ∷ [])
    else if nat_eq x z then conjunction (yes t) (yes y ∷ [])
    else if nat_eq y z then conjunction (yes t) (yes x ∷ [])
    else parity_of_three t x y z

abbrev pub wide_clauses : Operator → ℕ → List ℕ → List (List Sign)
wide_clauses Equal t (x ∷ y ∷ z ∷ zs) = alike (yes t) (once (map yes (x ∷ y ∷ z ∷ zs)))
wide_clauses Distinct t (x ∷ y ∷ z ∷ zs) = never (yes t)
wide_clauses Xor t (x ∷ y ∷ z ∷ []) = odd_of_three t x y z
wide_clauses o t xs = []
