-- Laws of the clauses of a node.
use Rattle.std.specs.Prelude.{ℕ, Bool, true, false, ◌≢◌, List, [], ◌∷◌, All, Contains, IsTrue}
use Rattle.smt_meaning.specs.declared.terms.Operator.{Operator}
use Rattle.smt_meaning.specs.declared.terms.Operator.TheVariants.{True, False, Not, And, Or, Xor, Implies, Equal, Distinct, Ite}
use Rattle.smt_meaning.specs.Forced.{Sign}
use Rattle.smt_meaning.specs.Forced.{IsTrueOfNode, IsNodeClause, Forces}
use Rattle.clause_form.specs.Signs.{negated}
use Rattle.clause_form.specs.NodeClauses.{node_clauses}
use Rattle.clause_form.specs.WideClauses.{wide_clauses}

-- an operator with so many arguments that has node clauses
abbrev pub fits_node : Operator → List ℕ → Bool
fits_node True xs = true
fits_node False xs = true
fits_node Not (x ∷ []) = true
fits_node And (x ∷ xs) = true
fits_node Or (x ∷ xs) = true
fits_node Implies (x ∷ y ∷ ys) = true
fits_node Ite (c ∷ x ∷ y ∷ []) = true
fits_node Xor (x ∷ y ∷ []) = true
fits_node Equal (x ∷ y ∷ []) = true
fits_node Distinct (x ∷ y ∷ []) = true
fits_node o xs = false

abbrev pub NodeClausesAreTrue : Type 0
NodeClausesAreTrue = (o : Operator) (t : ℕ) (xs : List ℕ) → All (IsTrueOfNode o t xs) (node_clauses o t xs)

-- each literal is on the node's own place or an argument's
abbrev pub NodeClausesAreOver : Type 0
NodeClausesAreOver = (o : Operator) (t : ℕ) (xs : List ℕ) → All (All (λ (s : Sign). Contains (t ∷ xs) s.place)) (node_clauses o t xs)

-- where the node isn't one of its own arguments
abbrev pub NodeClausesForce : Type 0
NodeClausesForce =
    (o : Operator) (t : ℕ) (xs : List ℕ) (ss : List Sign) → IsTrue (fits_node o xs) → (Contains xs t → ⊥)
    → IsNodeClause o t xs ss → Forces negated (node_clauses o t xs) ss

-- the clauses of `=` and `distinct` of more than two Bools, and of `xor` of three, are true of the node
abbrev pub WideClausesAreTrue : Type 0
WideClausesAreTrue = (o : Operator) (t : ℕ) (xs : List ℕ) → All (IsTrueOfNode o t xs) (wide_clauses o t xs)

abbrev pub WideClausesAreOver : Type 0
WideClausesAreOver = (o : Operator) (t : ℕ) (xs : List ℕ) → All (All (λ (s : Sign). Contains (t ∷ xs) s.place)) (wide_clauses o t xs)

-- ---- no place stands twice in a clause, with one sign or with both

abbrev pub HasNoPlaceTwice : List Sign → Type 0
HasNoPlaceTwice [] = Unit {0}
HasNoPlaceTwice (s ∷ ss) = All (λ (u : Sign). s.place ≢ u.place) ss × HasNoPlaceTwice ss

-- where the node isn't one of its own arguments
abbrev pub NodeClausesAreApart : Type 0
NodeClausesAreApart = (o : Operator) (t : ℕ) (xs : List ℕ) → (Contains xs t → ⊥) → All HasNoPlaceTwice (node_clauses o t xs)

abbrev pub WideClausesAreApart : Type 0
WideClausesAreApart = (o : Operator) (t : ℕ) (xs : List ℕ) → (Contains xs t → ⊥) → All HasNoPlaceTwice (wide_clauses o t xs)
