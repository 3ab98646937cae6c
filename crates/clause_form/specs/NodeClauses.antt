-- The clauses of a node, by operator: over the truth of its own place and of its arguments' places.
use Rattle.std.specs.Prelude.{ℕ, nat_eq, List, [], ◌∷◌, map, if◌then◌else◌}
use Rattle.smt_meaning.specs.declared.terms.Operator.{Operator}
use Rattle.smt_meaning.specs.declared.terms.Operator.TheVariants.{True, False, Not, And, Or, Xor, Implies, Equal, Distinct, Ite}
use Rattle.smt_meaning.specs.Forced.{Sign}
use Rattle.clause_form.specs.Signs.{yes, no, negated, once, clashes}

-- the first is true exactly where each of the others is; these have no literal twice, and no place with both signs
abbrev pub conjunction : Sign → List Sign → List (List Sign)
conjunction out ss = (out ∷ map negated ss) ∷ map (λ (s : Sign). negated out ∷ s ∷ []) ss

abbrev pub never : Sign → List (List Sign)
never out = (negated out ∷ []) ∷ []

-- the same of any literals
abbrev pub all_of : Sign → List Sign → List (List Sign)
all_of out ss = if clashes ss then never out else conjunction out (once ss)

-- the first is true exactly where one of the two places is
abbrev pub parity : Sign → ℕ → ℕ → List (List Sign)
parity out x y =
    (negated out ∷ yes x ∷ yes y ∷ []) ∷ (negated out ∷ no x ∷ no y ∷ []) ∷ (out ∷ no x ∷ yes y ∷ []) ∷ (out ∷ yes x ∷ no y ∷ []) ∷ []

abbrev pub one_of_two : Sign → ℕ → ℕ → List (List Sign)
one_of_two out x y = if nat_eq x y then never out else parity out x y

-- t is x where c is true, else y: the last two are those that propagation needs where c is open
abbrev pub choices : ℕ → ℕ → ℕ → ℕ → List (List Sign)
choices t c x y =
    (no c ∷ no x ∷ yes t ∷ []) ∷ (no c ∷ yes x ∷ no t ∷ []) ∷ (yes c ∷ no y ∷ yes t ∷ []) ∷ (yes c ∷ yes y ∷ no t ∷ [])
    ∷ (no x ∷ no y ∷ yes t ∷ []) ∷ (yes x ∷ yes y ∷ no t ∷ []) ∷ []

-- the same where places may be the same: x, then `c or y`, then `c and x`
abbrev pub chosen : ℕ → ℕ → ℕ → ℕ → List (List Sign)
chosen t c x y =
    if nat_eq x y then conjunction (yes t) (yes x ∷ [])
    else if nat_eq c x then conjunction (no t) (no c ∷ no y ∷ [])
    else if nat_eq c y then conjunction (yes t) (yes c ∷ yes x ∷ [])
    else choices t c x y

-- the premises, true, and the conclusion, false
abbrev pub premises_from : ℕ → List ℕ → List Sign
premises_from x [] = no x ∷ []
premises_from x (y ∷ ys) = yes x ∷ premises_from y ys

abbrev pub premises : List ℕ → List Sign
premises [] = []
premises (x ∷ xs) = premises_from x xs

-- the node of this operator at place t, of these arguments; none where it has no node clauses
abbrev pub node_clauses : Operator → ℕ → List ℕ → List (List Sign)
node_clauses True t xs = all_of (yes t) []
node_clauses False t xs = all_of (no t) []
node_clauses Not t (x ∷ []) = all_of (yes t) (no x ∷ [])
node_clauses And t (x ∷ xs) = all_of (yes t) (map yes (x ∷ xs))
node_clauses Or t (x ∷ xs) = all_of (no t) (map no (x ∷ xs))
node_clauses Implies t (x ∷ y ∷ ys) = all_of (no t) (premises (x ∷ y ∷ ys))
node_clauses Ite t (c ∷ x ∷ y ∷ []) = chosen t c x y
node_clauses Xor t (x ∷ y ∷ []) = one_of_two (yes t) x y
node_clauses Distinct t (x ∷ y ∷ []) = one_of_two (yes t) x y
node_clauses Equal t (x ∷ y ∷ []) = one_of_two (no t) x y
node_clauses o t xs = []
