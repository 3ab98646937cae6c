-- The pairs of the arguments of a `distinct`: where each comes first in their list, and first in the list from its end.
use Rattle.std.specs.Prelude.{◌≡◌, ◌≢◌, ◌<◌, ◌+◌, ◌-◌, ◌*◌, ℕ, true, Option, Some, None, List, length, All, AllPairs, Contains, slice_index_or}
use Rattle.smt_meaning.specs.declared.clauses.Atom.{Atom}
use Rattle.smt_meaning.specs.declared.clauses.Atom.TheVariants.{Truth, AtMost, Same}
use Rattle.smt_meaning.specs.declared.clauses.Literal.{Literal}
use Rattle.proof_meaning.specs.Rules.{pairs, no_one}
use Rattle.proof_meaning.specs.Proof.{literal}
use Rattle.proof_terms.specs.declared.verdict.Verdict.{Verdict}
use Rattle.proof_terms.specs.declared.verdict.Verdict.TheVariants.{Good, Wrong, Range}
use Rattle.proof_terms.specs.Kept.{Kept, IsCodeOf, AreCodesOf}
use Rattle.proof_terms.specs.FormValues.{HasNoClash, IsClash, IsFree}
use Rattle.proof_terms.specs.FormParts.{IsTrueClause, KeepsClause}

-- a term comes first at a place
pub record IsFirstPlace (xs : List ℕ) (n : ℕ) (places : List ℕ) (x p : ℕ) : Type 0 where
  pub below : p < n
  pub here : slice_index_or xs p 0 ≡ x
  pub first : (k : ℕ) → k < p → slice_index_or xs k 0 ≢ x
  pub listed : Contains places p

-- of the first n terms
pub record AreFirstPlaces (xs : List ℕ) (n : ℕ) (look : ℕ → Option ℕ) (places : List ℕ) : Type 0 where
  pub found : (x p : ℕ) → look x ≡ Some p → IsFirstPlace xs n places x p
  pub missing : (x : ℕ) → look x ≡ None → (k : ℕ) → k < n → slice_index_or xs k 0 ≢ x
  pub ascending : AllPairs (λ (a b : ℕ). a < b) places
  pub within : All (λ p. p < n) places

-- two terms in their order, where the places of the second are counted from the end
pub record IsPairBy (look back : ℕ → Option ℕ) (n x y : ℕ) : Type 0 where
  pub front : ℕ
  pub rear : ℕ
  pub front_is : look x ≡ Some front
  pub rear_is : back y ≡ Some rear
  pub order : front + (rear + 1) < n

-- an atom has a positive literal
pub record IsPositive (atoms : List Atom) (codes : List ℕ) (a : Atom) : Type 0 where
  pub code : ℕ
  pub is_code : IsCodeOf atoms code (literal true a)
  pub inside : Contains codes code

-- or it has a number, and no positive literal
pub record IsNotPositive (atoms : List Atom) (codes : List ℕ) (a : Atom) : Type 0 where
  pub code : ℕ
  pub is_code : IsCodeOf atoms code (literal true a)
  pub outside : Contains codes code → ⊥

-- a pair by its places lacks a positive literal
pub record LacksPair (atoms : List Atom) (codes xs ys : List ℕ) (front : ℕ) (rears : List ℕ) : Type 0 where
  pub rear : ℕ
  pub listed : Contains rears rear
  pub order : front + (rear + 1) < length xs
  pub lacks : IsNotPositive atoms codes (Same (slice_index_or xs front 0) (slice_index_or ys rear 0))

-- some pair does
pub record LacksSome (atoms : List Atom) (codes xs ys : List ℕ) (fronts rears : List ℕ) : Type 0 where
  pub front : ℕ
  pub listed : Contains fronts front
  pub pair : LacksPair atoms codes xs ys front rears

-- the pairs of the term at a place have positive literals
abbrev pub HasPairs : List Atom → List ℕ → List ℕ → List ℕ → ℕ → List ℕ → Type 0
HasPairs atoms codes xs ys front rears = (rear : ℕ) → Contains rears rear → front + (rear + 1) < length xs → IsPositive atoms codes (Same (slice_index_or xs front 0) (slice_index_or ys rear 0))

-- a negative literal on another atom
pub record HasNegative (codes : List ℕ) (own : ℕ) : Type 0 where
  pub atom : ℕ
  pub other : atom ≢ own
  pub inside : Contains codes (atom * 2)

-- an atom is a term's own truth, or the equality of a pair
abbrev pub IsOnPair : (ℕ → Option ℕ) → (ℕ → Option ℕ) → ℕ → ℕ → Atom → Type 0
IsOnPair look back n i (Truth j) = j ≡ i
IsOnPair look back n i (Same x y) = IsPairBy look back n x y
IsOnPair look back n i (AtMost ps k) = ⊥

-- one list is the other from its end
pub record IsBackward (xs ys : List ℕ) : Type 0 where
  pub count : length ys ≡ length xs
  pub turned : (k : ℕ) → k < length xs → slice_index_or ys k 0 ≡ slice_index_or xs (length xs - 1 - k) 0

-- one of the literals is always true
pub data AreTruePairs (atoms : List Atom) (codes : List ℕ) (own : ℕ) (xs ys fronts rears : List ℕ) : Type 0 where
  by_clash : IsClash codes → AreTruePairs atoms codes own xs ys fronts rears
  by_pairs : Contains codes (own * 2 + 1) → ((front : ℕ) → Contains fronts front → HasPairs atoms codes xs ys front rears) → AreTruePairs atoms codes own xs ys fronts rears
  by_negative : Contains codes (own * 2) → HasNegative codes own → AreTruePairs atoms codes own xs ys fronts rears

-- all may be false
pub data AreFalsePairs (atoms : List Atom) (codes : List ℕ) (own : ℕ) (xs ys fronts rears : List ℕ) : Type 0 where
  lacking : HasNoClash codes → Contains codes (own * 2 + 1) → LacksSome atoms codes xs ys fronts rears → AreFalsePairs atoms codes own xs ys fronts rears
  no_negative : HasNoClash codes → Contains codes (own * 2) → ((n : ℕ) → n ≢ own → Contains codes (n * 2) → ⊥) → AreFalsePairs atoms codes own xs ys fronts rears
  without : HasNoClash codes → IsFree codes own → AreFalsePairs atoms codes own xs ys fronts rears

-- by verdict
abbrev pub IsConcludedPairs : Kept → Kept → List ℕ → ℕ → List ℕ → List Literal → Verdict → Type 0
IsConcludedPairs old new codes i is ls Good = AreCodesOf old.atoms codes ls → IsTrueClause i (pairs is) (λ v. no_one v (pairs is)) ls × KeepsClause old new ls
IsConcludedPairs old new codes i is ls Wrong = AreCodesOf old.atoms codes ls → IsTrueClause i (pairs is) (λ v. no_one v (pairs is)) ls → ⊥
IsConcludedPairs old new codes i is ls Range = ⊥
