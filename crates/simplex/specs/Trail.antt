-- The bounds that were set, and the tightest of them.
use Rattle.std.specs.Prelude.{◌≡◌, ℕ, ◌<◌, ◌==◌, ◌&&◌, Bool, true, false, List, [], ◌∷◌, map, take, length, slice_index_or, int_lt, pos, ℤ, Option, Some, None, if◌then◌else◌}
use Rattle.fraction128.specs.declared.Side.{Side}
use Rattle.fraction128.specs.declared.Side.TheVariants.{Lower, Upper}
use Rattle.simplex.specs.declared.trail.Set.{Set}
use Rattle.simplex.specs.declared.trail.Held.{Held}
use Rattle.simplex.specs.declared.trail.Mark.{Mark}
use Rattle.simplex.specs.declared.trail.Standing.{Standing}

abbrev pub same_side : Side → Side → Bool
same_side Lower Lower = true
same_side Lower Upper = false
same_side Upper Lower = false
same_side Upper Upper = true

-- the bound is of this variable, on this side
abbrev pub is_on : Set → ℕ → Side → Bool
is_on b i s = b.variable == i && same_side b.side s

abbrev pub held_by : Set → Held
held_by b = record { number = b.number; tag = b.tag }

-- the tighter of a bound that stands and a new one; of equal ones that which stands
abbrev pub tighter : Side → Option Held → Set → Option Held
tighter Lower (Some h) b = if int_lt h.number b.number then Some (held_by b) else Some h
tighter Upper (Some h) b = if int_lt b.number h.number then Some (held_by b) else Some h
tighter s None b = Some (held_by b)

abbrev pub held_next : Option Held → Set → ℕ → Side → Option Held
held_next h b i s = if is_on b i s then tighter s h b else h

abbrev pub held_after : Option Held → List Set → ℕ → Side → Option Held
held_after h [] i s = h
held_after h (b ∷ bs) i s = held_after (held_next h b i s) bs i s

-- of bounds in order the tightest of a variable on a side
abbrev pub tightest : List Set → ℕ → Side → Option Held
tightest bs i s = held_after None bs i s

abbrev pub number_of : Option Held → Option ℤ
number_of (Some h) = Some h.number
number_of None = None

-- the variables and the bounds set
pub record Trail : Type 0 where
  pub count : ℕ
  pub bounds : List Set

abbrev pub set_of : Mark → Set
set_of m = m.set

abbrev pub no_set : Set
no_set = record { variable = 0; side = Lower; number = pos 0; tag = 0 }

abbrev pub set_at : List Set → ℕ → Set
set_at bs k = slice_index_or bs k no_set

abbrev pub no_mark : Mark
no_mark = record { set = no_set; before = None }

abbrev pub mark_at : List Mark → ℕ → Mark
mark_at ms k = slice_index_or ms k no_mark

abbrev pub nothing : Standing
nothing = record { lower = None; upper = None }

abbrev pub standing_at : List Standing → ℕ → Standing
standing_at hs i = slice_index_or hs i nothing

abbrev pub held_on : Standing → Side → Option Held
held_on h Lower = h.lower
held_on h Upper = h.upper

-- what stands is the tightest of the bounds set, and each mark keeps what stood before it
pub record IsTrail (held : List Standing) (marks : List Mark) : Type 0 where
  pub standing : (i : ℕ) (s : Side) → i < length held → held_on (standing_at held i) s ≡ tightest (map set_of marks) i s
  pub known : (k : ℕ) → k < length marks → (mark_at marks k).set.variable < length held
  pub before : (k : ℕ) → k < length marks → (mark_at marks k).before ≡ tightest (map set_of (take k marks)) (mark_at marks k).set.variable (mark_at marks k).set.side

abbrev pub with_held : Standing → Side → Option Held → Standing
with_held h Lower o = record { lower = o; upper = h.upper }
with_held h Upper o = record { lower = h.lower; upper = o }

abbrev pub is_tighter : Side → ℤ → ℤ → Bool
is_tighter Lower a b = int_lt a b
is_tighter Upper a b = int_lt b a
