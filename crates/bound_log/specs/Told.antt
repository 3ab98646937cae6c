-- Literals told in order, and the bounds on sums that they say.
use Rattle.std.specs.Prelude.{◌≡◌, ◌≢◌, ℕ, ◌<◌, ◌≤◌, ◌^◌, List, [], ◌∷◌, ◌++◌, map, length, take, slice_index_or, All, AllPairs}
use Rattle.fraction128.specs.declared.Summand.{Summand}
use Rattle.fraction128.specs.declared.Column.{Column}
use Rattle.fraction128.specs.Whole.{InRange}
use Rattle.tableau.specs.declared.failure.Failure.{Failure}
use Rattle.literals.specs.Signed.{Signed}
use Rattle.simplex.specs.State.{KeepsValues}
use Rattle.sum_bounds.specs.Bounds as Bounds
use Rattle.sum_bounds.specs.Bounds.{Told, told_bound, IsPastEnd}
use Rattle.bound_log.specs.declared.said.Said.{Said}
use Rattle.bound_log.specs.declared.said.Said.TheVariants.{Nothing, Bound}

pub record State : Type 0 where
  -- the variables of terms and sums, and the bounds told of them
  pub bounds : Bounds.State
  -- what the atom of each number says of sums
  pub said : List Said
  -- the literals told, oldest first
  pub log : List Signed

-- the sums of the variables, in order
abbrev pub column_sums : State → List (List Summand)
column_sums s = map (λ (c : Column). c.sum) s.bounds.columns

abbrev pub said_at : List Said → ℕ → Said
said_at said n = slice_index_or said n Nothing

-- ---- the bounds that literals say

-- of one literal: its atom's bound, or that it doesn't hold
abbrev pub told_by : Said → Signed → List Told
told_by Nothing l = []
told_by (Bound v k) l = told_bound l v.variable v.turned k ∷ []

-- of literals, in order
abbrev pub all_told : List Said → List Signed → List Told
all_told said [] = []
all_told said (l ∷ ls) = told_by (said_at said l.atom) l ++ all_told said ls

-- a variable among so many, and a threshold of the range
abbrev pub IsKnown : ℕ → Said → Type 0
IsKnown n Nothing = Unit {0}
IsKnown n (Bound v k) = (v.variable < n) × InRange k

-- the literal says that the sum is at least the number after the threshold, which leaves the range
abbrev pub IsPast : Said → Signed → Failure → Type 0
IsPast Nothing l e = ⊥
IsPast (Bound v k) l e = IsPastEnd l k e

abbrev pub AreNumbered : ℕ → List Signed → Type 0
AreNumbered n log = All (λ (l : Signed). l.atom < n) log

-- the bounds told are those that the literals say, in order
pub record IsState (s : State) : Type 0 where
  pub bounds : Bounds.IsState s.bounds
  pub few : length s.said ≤ 2 ^ 31
  pub known : All (IsKnown (length s.bounds.columns)) s.said
  pub numbered : AreNumbered (length s.said) s.log
  pub told : s.bounds.told ≡ all_told s.said s.log

-- no sum has two variables
abbrev pub SumsAreApart : Type 0
SumsAreApart = (s : State) → IsState s → AllPairs (λ (ps qs : List Summand). ps ≢ qs) (column_sums s)

-- ---- how they are kept

-- how many bounds the literals before each one say
pub record AreStarts (said : List Said) (log : List Signed) (starts : List ℕ) : Type 0 where
  pub as_many : length starts ≡ length log
  pub each : (k : ℕ) → k < length log → slice_index_or starts k 0 ≡ length (all_told said (take k log))

pub record IsCore (b : Bounds.State) (said : List Said) (log : List Signed) (starts : List ℕ) : Type 0 where
  pub few : length said ≤ 2 ^ 31
  pub known : All (IsKnown (length b.columns)) said
  pub numbered : AreNumbered (length said) log
  pub told : b.told ≡ all_told said log
  pub counted : AreStarts said log starts

-- ---- changes

-- a literal more is told: values stay
pub record IsTold (old : State) (l : Signed) (new : State) : Type 0 where
  pub said : new.said ≡ old.said
  pub log : new.log ≡ old.log ++ l ∷ []
  pub table : new.bounds.table ≡ old.bounds.table
  pub values : KeepsValues old.bounds.columns new.bounds.columns

-- the first so many literals are left: values stay
pub record IsUndone (old : State) (count : ℕ) (new : State) : Type 0 where
  pub said : new.said ≡ old.said
  pub log : new.log ≡ take count old.log
  pub table : new.bounds.table ≡ old.bounds.table
  pub values : KeepsValues old.bounds.columns new.bounds.columns
