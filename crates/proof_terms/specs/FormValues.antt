-- Truth values of atoms by their numbers, and the clauses that they make false.
use Rattle.std.specs.Prelude.{◌≡◌, ◌*◌, ◌+◌, ◌/◌, ◌<◌, ◌++◌, ◌⊎◌, ℕ, Bool, true, false, not, ◌||◌, nat_eq, List, [], ◌∷◌, Option, Some, None, map, All, Contains, if◌then◌else◌}
use Rattle.std.specs.List.{list_all, list_any}
use Rattle.std.specs.List.Sorted.{IsNonDecreasing, IsPermutation}
use Rattle.smt_meaning.specs.Term.{xor, implies}
use Rattle.proof_terms.specs.declared.form_values.Connective.{Connective}
use Rattle.proof_terms.specs.declared.form_values.Connective.TheVariants.{And, Or, Nor, Xor, Implies, Equal, Ite, False}
use Rattle.proof_terms.specs.Kept.{sign_code}

-- ---- connectives

-- a test of truth values
abbrev pub itself : Bool → Bool
itself b = b

-- an odd number of them are true
abbrev pub is_odd : List Bool → Bool
is_odd [] = false
is_odd (b ∷ bs) = xor b (is_odd bs)

-- b implies (.. implies the last)
abbrev pub implied_from : Bool → List Bool → Bool
implied_from b [] = b
implied_from b (c ∷ bs) = implies b (implied_from c bs)

-- the first implies (.. implies the last)
abbrev pub implied : List Bool → Bool
implied [] = false
implied (b ∷ bs) = implied_from b bs

-- the second where the first is true, else the third
abbrev pub choice_of : List Bool → Bool
choice_of (c ∷ a ∷ b ∷ []) = if c then a else b
choice_of bs = false

-- the truth value of a term whose parts have these
abbrev pub connective_value : Connective → List Bool → Bool
connective_value And bs = list_all itself bs
connective_value Or bs = list_any itself bs
connective_value Nor bs = not (list_any itself bs)
connective_value Xor bs = is_odd bs
connective_value Implies bs = implied bs
connective_value Equal bs = list_all itself bs || not (list_any itself bs)
connective_value Ite bs = choice_of bs
connective_value False bs = false

-- ---- truth values by which the literals of a clause are false

-- a number is in a list
abbrev pub is_in : List ℕ → ℕ → Bool
is_in codes c = list_any (λ x. nat_eq x c) codes

-- one truth value for all atoms, turned for one of them
abbrev pub on_rest : Bool → Option ℕ → ℕ → Bool
on_rest rest None n = rest
on_rest rest (Some p) n = if nat_eq p n then not rest else rest

-- the one that makes an atom's literal false; without a literal one of those
unfoldable pub chosen : List ℕ → Bool → Option ℕ → ℕ → Bool
chosen codes rest turned n = if is_in codes (n * 2) then true else (if is_in codes (n * 2 + 1) then false else on_rest rest turned n)

-- the truth value of a term whose parts have the chosen ones
abbrev pub value_by : Connective → List ℕ → List ℕ → Bool → Option ℕ → Bool
value_by o codes parts rest turned = connective_value o (map (chosen codes rest turned) parts)

-- the truth values make each literal false
abbrev pub AreFalse : (ℕ → Bool) → List ℕ → Type 0
AreFalse u codes = (n : ℕ) (b : Bool) → Contains codes (n * 2 + sign_code b) → u n ≡ not b

-- no atom has literals of both signs
abbrev pub HasNoClash : List ℕ → Type 0
HasNoClash codes = (n : ℕ) → Contains codes (n * 2) → Contains codes (n * 2 + 1) → ⊥

-- an atom has literals of both signs
pub record IsClash (codes : List ℕ) : Type 0 where
  pub atom : ℕ
  pub negative : Contains codes (atom * 2)
  pub positive : Contains codes (atom * 2 + 1)

-- an atom with a literal
abbrev pub IsGiven : List ℕ → ℕ → Type 0
IsGiven codes n = (b : Bool) × Contains codes (n * 2 + sign_code b)

-- an atom without a literal
abbrev pub IsFree : List ℕ → ℕ → Type 0
IsFree codes n = (b : Bool) → Contains codes (n * 2 + sign_code b) → ⊥

-- so small that twice the number and one more is a code
abbrev pub AreNumbers : List ℕ → Type 0
AreNumbers parts = All (λ n. n < 2147483648) parts

-- their numbers in order, and ascending
pub record AreParts (parts sorted : List ℕ) : Type 0 where
  pub numbers : AreNumbers parts
  pub permutation : IsPermutation parts sorted
  pub ascending : IsNonDecreasing sorted

-- a literal is on a term's own atom or on a part
abbrev pub IsAmong : ℕ → List ℕ → ℕ → Type 0
IsAmong own parts c = (c / 2 ≡ own) ⊎ Contains parts (c / 2)

-- ---- the parts for which another truth value tells most

-- truth values that are false but for atoms without a literal
abbrev pub IsOnFree : List ℕ → (ℕ → Bool) → Type 0
IsOnFree codes d = (n : ℕ) (b : Bool) → Contains codes (n * 2 + sign_code b) → d n ≡ false

-- an atom without a literal that stands an odd number of times among the parts, or that each stands an even number of times
abbrev pub IsOddPart : List ℕ → List ℕ → Option ℕ → Type 0
IsOddPart codes parts None = (d : ℕ → Bool) → IsOnFree codes d → is_odd (map d parts) ≡ false
IsOddPart codes parts (Some p) = IsFree codes p × (is_odd (map (nat_eq p) parts) ≡ true)

-- the value at the atom that waits
abbrev pub value_at_waiting : (ℕ → Bool) → Option ℕ → Bool
value_at_waiting d None = false
value_at_waiting d (Some p) = d p

-- the atom that waits has no literal and is among the parts
abbrev pub IsFreeAmong : List ℕ → List ℕ → Option ℕ → Type 0
IsFreeAmong codes parts None = Unit {0}
IsFreeAmong codes parts (Some p) = IsFree codes p × Contains parts p

-- of the atoms without a literal among these parts only this one stands an odd number of times
pub record IsWaiting (codes parts : List ℕ) (p : Option ℕ) : Type 0 where
  pub free : IsFreeAmong codes parts p
  pub parity : (d : ℕ → Bool) → IsOnFree codes d → is_odd (map d parts) ≡ value_at_waiting d p

-- what waits after one more
abbrev pub toggled : Option ℕ → ℕ → Option ℕ
toggled None n = Some n
toggled (Some p) n = None

-- a part without a literal, or that each has one
abbrev pub IsFreePart : List ℕ → List ℕ → Option ℕ → Type 0
IsFreePart codes parts None = All (λ n. IsFree codes n → ⊥) parts
IsFreePart codes parts (Some p) = IsFree codes p × Contains parts p

-- the last part, or that there is none
abbrev pub IsLastPart : List ℕ → Option ℕ → Type 0
IsLastPart parts None = parts ≡ []
IsLastPart parts (Some p) = (before : List ℕ) × (parts ≡ before ++ p ∷ [])

-- by connective
abbrev pub IsPickOf : Connective → List ℕ → List ℕ → Option ℕ → Type 0
IsPickOf Xor codes parts p = IsOddPart codes parts p
IsPickOf Implies codes parts p = IsLastPart parts p
IsPickOf Equal codes parts p = IsFreePart codes parts p
IsPickOf o codes parts p = Unit {0}

-- the value is this one where a part differs from the other atoms without a literal
abbrev pub GivesAt : Connective → List ℕ → List ℕ → Bool → ℕ → Type 0
GivesAt o codes parts b p = (rest : Bool) → value_by o codes parts rest (Some p) ≡ b

-- ---- what the literals say of a term's truth value

-- where all literals are false, the parts make the value so
abbrev pub IsForced : Connective → List ℕ → List ℕ → Bool → Type 0
IsForced o codes parts b = (u : ℕ → Bool) → AreFalse u codes → connective_value o (map u parts) ≡ b

-- some truth values of atoms without a literal don't
abbrev pub IsOpen : Connective → List ℕ → List ℕ → Bool → Type 0
IsOpen o codes parts b = (rest : Bool) × (turned : Option ℕ) × (value_by o codes parts rest turned ≡ not b)

-- never are all literals false where the atom has the value of its parts
abbrev pub IsAlways : Connective → List ℕ → ℕ → List ℕ → Type 0
IsAlways o codes own parts = (u : ℕ → Bool) → u own ≡ connective_value o (map u parts) → AreFalse u codes → ⊥

-- they may be
abbrev pub IsSometimesFalse : Connective → List ℕ → ℕ → List ℕ → Type 0
IsSometimesFalse o codes own parts = (u : ℕ → Bool) × (u own ≡ connective_value o (map u parts)) × AreFalse u codes
