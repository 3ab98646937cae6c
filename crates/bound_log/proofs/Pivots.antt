-- The lines of a check's pivots are over known atoms.
use Rattle.std.proofs.Common.{◌≡◌, ◌∙◌, ℕ, ◌<◌, ◌≤◌, ◌⊎◌, inl, inr, ℤ, Bool, true, false, List, [], ◌∷◌, length, Option, Some, None, refl, sym, ap, subst}
use Rattle.std.specs.Prelude.{Contains}
use Rattle.std.proofs.lemmas.Bool.{cases_lt}
use Rattle.std.proofs.lemmas.List.{get_or_past}
use Rattle.std.proofs.lemmas.List.Elements.{All-contains}
use Rattle.fraction128.specs.Whole.{InRange}
use Rattle.fraction128.specs.declared.Column.{Column}
use Rattle.fraction128.specs.declared.Grid.{Grid}
use Rattle.fraction128.specs.declared.Line.{Line}
use Rattle.fraction128.specs.declared.Side.{Side}
use Rattle.fraction128.specs.declared.Side.TheVariants.{Lower, Upper}
use Rattle.fraction128.specs.Grid.{Step, any_crossed, next_step}
use Rattle.fraction128.specs.Lines.{HasBasis, basis_along}
use Rattle.fraction128.specs.Chain.{ComesFrom, begins, PivotsLead}
use Rattle.simplex_steps.specs.Law.{Runs, RunsFit, lines_of}
use Rattle.smt_meaning.specs.declared.clauses.Atom.{Atom}
use Rattle.smt_meaning.specs.CheckAtoms.{IsBoundOf}
use Rattle.tableau.specs.Table.{Table}
use Rattle.simplex_steps.specs.State.{grid_of, column_in, no_column, IsRanged, AreRanged}
use Rattle.simplex_steps.specs.Run.{KeepsLines, kept_lines}
use Rattle.simplex_steps.proofs.Sound.{lawful}
use Rattle.sum_bounds.specs.Bounds as Bounds
use Rattle.sum_bounds.specs.Bounds.{Told, bound_on}
use Rattle.sum_bounds.specs.Origins.{IsOfTold}
use Rattle.bound_log.specs.Told.{State, IsState, column_sums}
use Rattle.bound_log.specs.Pending.{plain_grid}
use Rattle.bound_log.specs.Atoms.{Knows}
use Rattle.bound_log.specs.Resting.{AreResting}
use Rattle.bound_log.specs.Pivots.{AddsPivots}
use Rattle.bound_log.proofs.Lines.{sound_grid}
use Rattle.bound_log.proofs.Runs.{pivots_lead, as_many_lines}

-- ---- bounds in the range

ranged_told : (b : Bounds.State) (i : ℕ) (side : Side) (o : Option ℤ) → Bounds.IsState b → IsOfTold b → i < length b.columns → bound_on (column_in b.columns i) side ≡ o → IsRanged o
ranged_told b i side None state origins lt e = tt
ranged_told b i side (Some k) state origins lt e =
    let t = origins.told i side k lt e in
    subst InRange t.number (All-contains (λ (x : Told). (x.variable < length b.columns) × InRange x.number) b.told t.bound state.known t.among).1

are_ranged : (b : Bounds.State) → Bounds.IsState b → IsOfTold b → AreRanged b.columns
are_ranged b state origins i = by_order (cases_lt i (length b.columns))
  where
    by_order : (i < length b.columns) ⊎ (length b.columns ≤ i) → IsRanged (column_in b.columns i).lower × IsRanged (column_in b.columns i).upper
    by_order (inl lt) = (ranged_told b i Lower (column_in b.columns i).lower state origins lt refl, ranged_told b i Upper (column_in b.columns i).upper state origins lt refl)
    by_order (inr le) = subst (λ (c : Column). IsRanged c.lower × IsRanged c.upper) (sym (get_or_past b.columns i no_column le)) (tt, tt)

-- ---- runs from a state

-- where bounds cross there is no next step
none_next : (t : Table) (cs : List Column) (s : Step) → any_crossed cs ≡ true → next_step (grid_of t cs) ≡ Some s → ⊥
none_next t cs s e next = let none : next_step (grid_of t cs) ≡ None = rw e refl in let z : None ≡ Some s = sym none ∙ next in absurd (cc)

pivots_over : (table : List Atom) (s : State) (h : Grid) (ss : List Step) (is : ℕ → Bool) → IsState s → IsOfTold s.bounds → AreResting s.bounds s.said → Knows table s → Runs (plain_grid s) ss h → RunsFit (plain_grid s) ss
    → HasBasis is (plain_grid s) → PivotsLead (column_sums s) (IsBoundOf (Contains table)) is (Some (plain_grid s)) (lines_of (plain_grid s) ss) (Some h)
pivots_over table s h [] is state origins rests knows runs fits basis = subst (ComesFrom (plain_grid s)) runs begins
pivots_over table s h (z ∷ zs) is state origins rests knows runs fits basis = by_crossing (any_crossed s.bounds.columns) refl
  where
    by_crossing : (v : Bool) → any_crossed s.bounds.columns ≡ v → PivotsLead (column_sums s) (IsBoundOf (Contains table)) is (Some (plain_grid s)) (lines_of (plain_grid s) (z ∷ zs)) (Some h)
    by_crossing true e = absurd (none_next s.bounds.table s.bounds.columns z e runs.0)
    by_crossing false e =
        let ranged = are_ranged s.bounds state.bounds origins in
        pivots_lead (column_sums s) (IsBoundOf (Contains table)) (plain_grid s) (plain_grid s) h (z ∷ zs) is
        (lawful s.bounds.table s.bounds.columns origins.table (record { solution = state.bounds.solution; ranged = ranged; uncrossed = e })) ranged (sound_grid table s state origins rests knows) runs fits basis begins

lines_kept : (keep : Bool) (g : Grid) (ss : List Step) → keep ≡ true → kept_lines keep g ss ≡ lines_of g ss
lines_kept true g ss e = refl
lines_kept false g ss e = absurd (cc)

kept_none : (keep : Bool) (g : Grid) (ss : List Step) → keep ≡ false → kept_lines keep g ss ≡ []
kept_none true g ss e = absurd (cc)
kept_none false g ss e = refl

pub adds_pivots : (s u : State) (keep : Bool) (made : ℕ) (before now : List Line) → IsState s → IsOfTold s.bounds → AreResting s.bounds s.said → KeepsLines keep made (plain_grid s) (plain_grid u) before now
    → AddsPivots s u keep made before now
adds_pivots s u keep made before now state origins rests lines =
    let g : Grid = plain_grid s in
    record {
      added = kept_lines keep g lines.steps;
      is = lines.kept;
      count = λ e. ap length (lines_kept keep g lines.steps e) ∙ as_many_lines g lines.steps ∙ lines.count;
      none = λ e. kept_none keep g lines.steps e;
      pivots = λ e table is knows basis.
          subst (λ ls. PivotsLead (column_sums s) (IsBoundOf (Contains table)) is (Some (plain_grid s)) ls (Some (plain_grid u))) (sym (lines_kept keep g lines.steps e))
          (pivots_over table s (plain_grid u) lines.steps is state origins rests knows lines.runs lines.fits basis);
      basis = λ e is basis. subst (λ ls. HasBasis (basis_along is ls) (plain_grid u)) (sym (lines_kept keep g lines.steps e)) (lines.basis is basis);
    }
