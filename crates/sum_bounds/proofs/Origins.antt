-- Where the bounds of variables come from, and that they are the tightest of those told.
use Rattle.std.proofs.Common.{◌≡◌, ◌∙◌, ℕ, ◌<◌, List, length, map, ℤ, Some, refl, sym, ap, subst, arith}
use Rattle.std.specs.Prelude.{All}
use Rattle.std.proofs.lemmas.List.{length-map, get_or-map}
use Rattle.fraction128.specs.declared.Bound.{Bound}
use Rattle.fraction128.specs.declared.Column.{Column}
use Rattle.fraction128.specs.declared.Side.{Side}
use Rattle.fraction128.specs.declared.Side.TheVariants.{Lower, Upper}
use Rattle.simplex_steps.specs.State.{column_in}
use Rattle.simplex_steps.specs.Conflict.{Stands}
use Rattle.simplex.specs.declared.trail.Set.{Set}
use Rattle.simplex.specs.declared.trail.Held.{Held}
use Rattle.simplex.specs.Trail.{tightest, number_of, set_at, no_set}
use Rattle.simplex.specs.State as Simplex
use Rattle.simplex.specs.State.{HasBounds}
use Rattle.sum_bounds.specs.Bounds.{told_of, bound_on, IsToldOn, HoldsOn, IsTakenIn}
use Rattle.sum_bounds.specs.Origins.{IsOfTold}
use Rattle.sum_bounds.proofs.Tightest.{AtLeast, tightest_least, holds_on}
use Rattle.sum_bounds.proofs.Conflicts.{told_in, state_of, stood}

stands : (cs : List Column) (i : ℕ) (side : Side) (k : ℤ) → i < length cs → bound_on (column_in cs i) side ≡ Some k → Stands cs (record { variable = i; side = side; number = k })
stands cs i Lower k lt e = (lt, e)
stands cs i Upper k lt e = (lt, e)

pub told_on : (s : Simplex.State) → Simplex.IsState s → (i : ℕ) (side : Side) (k : ℤ) → i < length s.columns → bound_on (column_in s.columns i) side ≡ Some k → IsToldOn (map told_of s.bounds) i side k
unfolding told_in
told_on s state i side k lt e =
    let b : Bound = record { variable = i; side = side; number = k } in
    record { bound = told_in s.bounds b; among = stood s.columns s.bounds b state.bounded (stands s.columns i side k lt e); variable = refl; on = refl; number = refl }

pub of_told : (s : Simplex.State) → Simplex.IsState s → IsOfTold (state_of s)
of_told s state = record { table = state.table; told = told_on s state }

-- ---- the tightest

held_on : (bs : List Set) (i : ℕ) (side : Side) (k : ℤ) (h : Held) (c : Column) → HasBounds bs i c → tightest bs i side ≡ Some h → AtLeast side h.number k → HoldsOn side k (bound_on c side)
held_on bs i Lower k h c has is tight = subst (HoldsOn Lower k) (sym (has.lower ∙ ap number_of is)) (holds_on Lower h.number k tight)
held_on bs i Upper k h c has is tight = subst (HoldsOn Upper k) (sym (has.upper ∙ ap number_of is)) (holds_on Upper h.number k tight)

pub all_taken : (s : Simplex.State) → Simplex.IsState s → All (IsTakenIn s.columns) (map told_of s.bounds)
all_taken s state k d lt =
    let short : k < length s.bounds = omega (arith, lt, length-map s.bounds told_of) in
    let b = set_at s.bounds k in
    let t = tightest_least s.bounds k short in
    subst (IsTakenIn s.columns) (sym (get_or-map told_of s.bounds k no_set d short))
    (held_on s.bounds b.variable b.side b.number t.held (column_in s.columns b.variable) (state.bounded b.variable (state.known k short).0) t.is t.tight)
