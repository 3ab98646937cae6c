-- Bounds that can't be taken in: their numbers leave the range.
use Rattle.std.proofs.Common.{◌≡◌, ◌<◌, Bool, true, false, ◌&&◌, List, length, ℤ, ◌+ℤ◌, pos, None, refl, sym, ap, ◌∙◌, subst, arith}
use Rattle.std.specs.Prelude.{Result, Ok, Err, IfErr, IsErrAnd}
use Rattle.fraction128.specs.Whole.{InRange, is_in_range}
use Rattle.fraction128.specs.declared.Grid.{Grid}
use Rattle.fraction128.specs.declared.Summand.{Summand as GridSummand}
use Rattle.fraction128.specs.declared.Pending.{Pending}
use Rattle.fraction128.specs.Grid.{take, take_fits, number_fits, column_of, turned}
use Rattle.fraction128.specs.Lines.{Bounding, IsSoundGrid}
use Rattle.smt_meaning.specs.declared.clauses.Summand.{Summand}
use Rattle.smt_meaning.specs.declared.clauses.Atom.TheVariants.{AtMost}
use Rattle.smt_meaning.specs.CheckAtoms.{told}
use Rattle.literals.specs.Signed.{Signed}
use Rattle.search_port.specs.State.{atom_at}
use Rattle.tableau.specs.declared.failure.Failure.{Failure}
use Rattle.sum_bounds.specs.Bounds.{sum_fits}
use Rattle.sum_bounds.specs.Clauses.{plain}
use Rattle.bound_log.specs.declared.said.Said.{Said}
use Rattle.bound_log.specs.declared.said.Said.TheVariants.{Nothing, Bound}
use Rattle.bound_log.specs.Told.{State, said_at, IsPast}
use Rattle.bound_log.specs.Atoms.{Says, SaysBound}
use Rattle.bound_log.specs.Pending.{plain_grid, with_pending, FailsToTake, FailsToTell}

-- an error that is passed on
pub err_is : {T E : Type 0} (r : Result T E) (x : E) (P : E → Type 0) → IsErrAnd r (λ y. y ≡ x) → P x → IfErr r P
err_is (Ok t) x P q h = tt
err_is (Err e) x P q h = subst P (sym q) h

-- ---- a sum whose row doesn't fit

and_false : (b : Bool) → (b && false) ≡ false
and_false true = refl
and_false false = refl

pub fails_to_take : (s : State) (ps : List Summand) (k : ℤ) (holds : Bool) → column_of s.bounds.columns (turned (plain ps)) ≡ None → sum_fits s.bounds.table s.bounds.columns (turned (plain ps)) ≡ false → FailsToTake s ps k holds
fails_to_take s ps k holds none unfit = record { step = take p; next = refl; fails = fails }
  where
    p : Pending
    p = told ps k holds

    fails : take_fits (with_pending (plain_grid s) (told ps k holds)) (told ps k holds) ≡ false
    fails = rw none (ap (λ b. number_fits (told ps k holds) && b) unfit ∙ and_false (number_fits (told ps k holds)))

-- ---- a number past the range

outside_range : (z : ℤ) → (InRange z → ⊥) → is_in_range z ≡ false
outside_range z outside = by (is_in_range z) refl
  where
    by : (b : Bool) → is_in_range z ≡ b → is_in_range z ≡ false
    by false e = e
    by true e = absurd (outside (grind arith))

past_take : (g : Grid) (ps : List Summand) (k : ℤ) → (InRange (k +ℤ pos 1) → ⊥) → take_fits g (told ps k false) ≡ false
past_take g ps k outside = let h = outside_range (k +ℤ pos 1) outside in rw h refl

past : (s : State) (ps : List Summand) (k : ℤ) (holds : Bool) → (InRange (k +ℤ pos 1) → ⊥) → holds ≡ false → FailsToTake s ps k holds
past s ps k holds outside is =
    subst (λ b. FailsToTake s ps k b) (sym is) (record { step = take (told ps k false); next = refl; fails = past_take (with_pending (plain_grid s) (told ps k false)) ps k outside })

same_number : (ps qs : List Summand) (j k : ℤ) → AtMost ps j ≡ AtMost qs k → j ≡ k
same_number ps qs j k e = cc

pub fails_to_tell : (s : State) (l : Signed) (e : Failure) → l.atom < length s.said → IsPast (said_at s.said l.atom) l e → FailsToTell s l
fails_to_tell s l e less is_past table ps k knows is = by (said_at s.said l.atom) refl
  where
    number : l.atom < length table
    number = omega (arith, less, knows.as_many)

    by : (d : Said) → said_at s.said l.atom ≡ d → FailsToTake s ps k l.positive
    by Nothing w = absurd (subst (λ d. IsPast d l e) w is_past)
    by (Bound v n) w =
        let h = subst (λ d. IsPast d l e) w is_past in
        let says : SaysBound s.bounds (atom_at table l.atom) v n = subst (Says s.bounds (atom_at table l.atom)) w (knows.each l.atom number) in
        let same : n ≡ k = same_number says.sum ps n k (sym says.atom ∙ is) in
        past s ps k l.positive (subst (λ z. InRange (z +ℤ pos 1) → ⊥) same h.outside) h.negative

-- ---- a bound pending

pub sound_pending : (sums : List (List GridSummand)) (B : Bounding) (g : Grid) (p : Pending) → IsSoundGrid sums B g → IsSoundGrid sums B (with_pending g p)
sound_pending sums B g p h = record {
  columns = h.columns;
  rows = record {
    each = λ m d lt. let r = h.rows.each m d lt in record {
      known = r.known;
      ascending = r.ascending;
      entries = λ n e ln. let w = r.entries n e ln in record { fraction = w.fraction; nonzero = w.nonzero; known = w.known; free = w.free };
    };
    apart = h.rows.apart;
  };
  identities = h.identities;
  independent = h.independent;
  fractions = h.fractions;
  meets = h.meets;
  bounded = h.bounded;
  resting = h.resting;
}
