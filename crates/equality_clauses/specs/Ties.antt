-- The clauses that tie a term to the equalities of its arguments, and a Bool to what it equals, over numbered atoms.
use Rattle.std.specs.Prelude.{ℕ, Bool, true, false, not, nat_eq, List, [], ◌∷◌, map, if◌then◌else◌}
use Rattle.literals.specs.Signed.{Signed, opposite}
use Rattle.smt_meaning.specs.declared.terms.Operator.{Operator}
use Rattle.smt_meaning.specs.declared.terms.Operator.TheVariants.{Equal, Distinct}
use Rattle.equality_clauses.specs.Once.{once}

abbrev pub literal : Bool → ℕ → Signed
literal b n = record { atom = n; positive = b }

abbrev pub yes : ℕ → Signed
yes n = literal true n

abbrev pub no : ℕ → Signed
no n = literal false n

-- t is true exactly where each of the others, of which none stands twice, has this sign
abbrev pub joined : ℕ → Bool → List ℕ → List (List Signed)
joined t sign ns = (yes t ∷ map (literal (not sign)) ns) ∷ map (λ n. no t ∷ literal sign n ∷ []) ns

-- of `=`, t is true exactly where each equality of two neighbours is; of `distinct`, where no equality of two arguments is
abbrev pub comparison_clauses : Operator → ℕ → List ℕ → List (List Signed)
comparison_clauses Equal t pairs = joined t true (once pairs)
comparison_clauses Distinct t pairs = joined t false (once pairs)
comparison_clauses o t pairs = []

-- an `ite` equals its first branch where the condition is true, else its second
abbrev pub choice_clauses : ℕ → ℕ → ℕ → List (List Signed)
choice_clauses condition first second = (no condition ∷ yes first ∷ []) ∷ (yes condition ∷ yes second ∷ []) ∷ []

-- the first is true exactly where the others have one truth value
abbrev pub parity : Signed → Signed → Signed → List (List Signed)
parity same x y =
    (opposite same ∷ opposite x ∷ y ∷ []) ∷ (opposite same ∷ x ∷ opposite y ∷ []) ∷ (same ∷ x ∷ y ∷ []) ∷ (same ∷ opposite x ∷ opposite y ∷ []) ∷ []

-- the equality of two Bools is true exactly where both are true or both are false
abbrev pub sameness_clauses : ℕ → ℕ → ℕ → List (List Signed)
sameness_clauses same x y = if nat_eq x y then (yes same ∷ []) ∷ [] else parity (yes same) (yes x) (yes y)
