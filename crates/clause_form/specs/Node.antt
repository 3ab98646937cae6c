-- The clauses of a node over numbered atoms, and what holds of them.
use Rattle.std.specs.Prelude.{◌≡◌, ◌≢◌, ℕ, Bool, true, List, [], ◌∷◌, ◌++◌, map, All, Contains, IsTrue}
use Rattle.literals.specs.Signed.{Signed, opposite, some_true}
use Rattle.smt_meaning.specs.declared.values.Value.TheVariants.{Truth}
use Rattle.smt_meaning.specs.declared.terms.Operator.{Operator}
use Rattle.smt_meaning.specs.Term.{operate, truth_of}
use Rattle.smt_meaning.specs.Forced.{Sign}
use Rattle.clause_form.specs.NodeClauses.{node_clauses}
use Rattle.clause_form.specs.WideClauses.{wide_clauses}
use Rattle.clause_form.specs.ForcedClausesLaws.{fits_clauses}

-- a numbered atom with a sign, and a place with a sign whose number is the place
abbrev pub signed : Sign → Signed
signed s = record { atom = s.place; positive = s.positive }

abbrev pub plain : Signed → Sign
plain l = record { place = l.atom; positive = l.positive }

-- those of the node with this operator whose atom has the number t, of arguments whose atoms have these numbers; of `=`, `distinct` and `ite` on Bools
unfoldable pub literals_of_node : Operator → ℕ → List ℕ → List (List Signed)
literals_of_node o t xs = map (map signed) (node_clauses o t xs ++ wide_clauses o t xs)

-- each literal's atom differs from those after it
abbrev pub HasNoAtomTwice : List Signed → Type 0
HasNoAtomTwice [] = Unit {0}
HasNoAtomTwice (l ∷ ls) = All (λ (m : Signed). l.atom ≢ m.atom) ls × HasNoAtomTwice ls

-- a clause of this node
pub record IsOfNode (o : Operator) (t : ℕ) (xs : List ℕ) (ls : List Signed) : Type 0 where
  -- it is true whatever truth values the arguments have, where the node has the value of its operator
  pub true_of : (a : ℕ → Bool) → a t ≡ truth_of (operate o (map (λ i. Truth (a i)) xs)) → some_true a ls ≡ true
  -- it is over the node and its arguments
  pub over : All (λ (l : Signed). Contains (t ∷ xs) l.atom) ls
  -- it has no atom with both signs
  pub no_pair : (l : Signed) → Contains ls l → Contains ls (opposite l) → ⊥
  -- and none twice
  pub once : HasNoAtomTwice ls

-- where the node isn't one of its own arguments
abbrev pub NodeClausesHold : Type 0
NodeClausesHold = (o : Operator) (t : ℕ) (xs : List ℕ) → (Contains xs t → ⊥) → All (IsOfNode o t xs) (literals_of_node o t xs)

-- truth values that make each of these clauses true give the node the value of its operator
abbrev pub NodeClausesDecide : Type 0
NodeClausesDecide =
    (a : ℕ → Bool) (o : Operator) (t : ℕ) (xs : List ℕ) → IsTrue (fits_clauses o xs) → All (λ ls. some_true a ls ≡ true) (literals_of_node o t xs)
    → a t ≡ truth_of (operate o (map (λ i. Truth (a i)) xs))
