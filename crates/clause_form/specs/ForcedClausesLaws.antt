-- Laws of what clauses force, and of what they leave open.
use Rattle.std.specs.Prelude.{ℕ, Bool, true, List, [], ◌∷◌, ◌++◌, All, Contains, IsTrue}
use Rattle.smt_meaning.specs.declared.terms.Operator.{Operator}
use Rattle.smt_meaning.specs.declared.terms.Operator.TheVariants.{Xor, Equal, Distinct}
use Rattle.smt_meaning.specs.Forced.{Sign, some_sign_true, RespectsNode, Forces}
use Rattle.clause_form.specs.Signs.{negated}
use Rattle.clause_form.specs.NodeClauses.{node_clauses}
use Rattle.clause_form.specs.WideClauses.{wide_clauses}
use Rattle.clause_form.specs.NodeClausesLaws.{fits_node}

-- more clauses force what fewer force
abbrev pub MoreForceAsMuch : Type 0
MoreForceAsMuch =
    (cs ds : List (List Sign)) (c : List Sign) → ((d : List Sign) → Contains cs d → Contains ds d) → Forces negated cs c → Forces negated ds c

-- an operator with so many arguments whose clauses say all of it: those that have node clauses, `=` and `distinct` of more, and `xor` of three
abbrev pub fits_clauses : Operator → List ℕ → Bool
fits_clauses Equal (x ∷ y ∷ zs) = true
fits_clauses Distinct (x ∷ y ∷ zs) = true
fits_clauses Xor (x ∷ y ∷ z ∷ []) = true
fits_clauses o xs = fits_node o xs

-- truth values that make each clause of a node true give it the value of its operator
abbrev pub NodeClausesDecide : Type 0
NodeClausesDecide =
    (a : ℕ → Bool) (o : Operator) (t : ℕ) (xs : List ℕ) → IsTrue (fits_clauses o xs)
    → All (λ c. IsTrue (some_sign_true a c)) (node_clauses o t xs ++ wide_clauses o t xs) → RespectsNode a o t xs
