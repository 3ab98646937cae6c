-- Bounds that are set and taken back, in columns whose values stay; and what a check makes of the state.
use Rattle.std.proofs.Common.{◌≡◌, ◌≢◌, ℕ, zero, suc, ◌<◌, ◌≤◌, ◌⊎◌, inl, inr, sym, ap, ◌∙◌, subst, refl, arith, List, [], ◌∷◌, ◌++◌, length, take, get_or, get_or-set_other, get_or-set_same, length-append, Bool, true, false, cond, eqb, eqb-true, eq-eqb, Option, Some, None, All}
use Rattle.std.proofs.lemmas.List.{get_or_append_left, get_or_push, length-set, get_or_past}
use Rattle.std.proofs.lemmas.Bool.{cases_lt}
use Rattle.std.specs.Prelude.{ℤ, int_lt, IfSome}
use Rattle.fraction128.specs.Whole.{InRange}
use Rattle.fraction128.specs.Ratio.{IsFraction}
use Rattle.fraction128.specs.Number.{SameNumber}
use Rattle.fraction128.specs.declared.TableRow.{TableRow}
use Rattle.fraction128.specs.declared.Column.{Column}
use Rattle.fraction128.specs.declared.Bound.{Bound}
use Rattle.fraction128.specs.declared.Side.{Side}
use Rattle.fraction128.specs.declared.Side.TheVariants.{Lower, Upper}
use Rattle.tableau.specs.Table.{Table, IsTable}
use Rattle.simplex.specs.declared.trail.Set.{Set}
use Rattle.simplex.specs.declared.trail.Held.{Held}
use Rattle.simplex.specs.Trail.{Trail, tightest, number_of, set_at, no_set, held_next, held_after, tighter, is_on, held_by}
use Rattle.simplex.proofs.TrailLemmas.{tightest_more, next_elsewhere}
use Rattle.simplex_steps.specs.declared.run.Outcome.{Outcome}
use Rattle.simplex_steps.specs.declared.run.Outcome.TheVariants.{Fits as AllFit, Conflict as Clash, Range as NoFit, UnitsSpent as Spent, Memory as NoMemory}
use Rattle.simplex_steps.specs.State.{column_in, no_column, values, IsRanged, AreRanged, IsSolution}
use Rattle.simplex_steps.specs.Conflict.{Stands, IsConflict}
use Rattle.simplex_steps.specs.Run.{IsRun, Ends}
use Rattle.simplex_steps.specs.Run as Steps
use Rattle.fraction128.specs.Lines.{sum_value}
use Rattle.simplex.specs.Sums.{column_values, IsMeant}
use Rattle.simplex.proofs.Meaning.{runs_keep}
use Rattle.simplex.specs.declared.state.Verdict.{Verdict}
use Rattle.simplex.specs.declared.state.Verdict.TheVariants.{Fits, Conflict, Range, UnitsSpent, Memory}
use Rattle.simplex.specs.State.{IsState, IsCore, HasBounds, FixedAt, AreKnown, SameValues, KeepsValues, refreshed, KnownBounds, IsVerdict, IsConflictOf, Judges, SpendsRoom}
use Rattle.simplex_steps.proofs.Independent.{rows_same}

-- ---- values that stay

pub same_values : (cs : List Column) → KeepsValues cs cs
same_values cs = record { count = refl; each = λ i. record { sum = refl; value = refl } }

pub values_through : (cs ds es : List Column) → KeepsValues cs ds → KeepsValues ds es → KeepsValues cs es
values_through cs ds es p q = record { count = q.count ∙ p.count; each = λ i. record { sum = (q.each i).sum ∙ (p.each i).sum; value = (q.each i).value ∙ (p.each i).value } }

pub solution_kept : (t : Table) (cs ds : List Column) → IsSolution t cs → KeepsValues cs ds → IsSolution t ds
solution_kept t cs ds s keeps =
    record {
      count = keeps.count ∙ s.count;
      fractions = λ i. subst IsFraction (sym (keeps.each i).value) (s.fractions i);
      meets = rows_same t.rows (values cs) (values ds) (λ i. sym (keeps.each i).value) s.meets;
    }

pub meant_kept : (rows : List TableRow) (cs ds : List Column) → IsMeant rows cs → KeepsValues cs ds → IsMeant rows ds
meant_kept rows cs ds h keeps =
    record {
      solved = λ w fw. rows_same rows (column_values w cs) (column_values w ds) (λ i. ap (sum_value w) (sym (keeps.each i).sum)) (h.solved w fw);
      determined = λ v w fv fw met agree i lt.
          subst (λ ps. SameNumber (v i) (sum_value w ps)) (sym (keeps.each i).sum)
          (h.determined v w fv fw met (λ j term lj e. agree j term (let q = keeps.count in omega (arith, lj, q)) ((keeps.each j).sum ∙ e)) i (let q = keeps.count in omega (arith, lt, q)));
    }

-- ---- one column with new bounds

differs : (j i : ℕ) → eqb j i ≡ false → j ≢ i
differs j i e w = let z : true ≡ false = sym (eq-eqb j i w) ∙ e in absurd (cc)

fresh : List Set → List Column → ℕ → Column
fresh bs cs i = record { sum = (column_in cs i).sum; lower = number_of (tightest bs i Lower); upper = number_of (tightest bs i Upper); value = (column_in cs i).value }

pub refreshed_values : (bs : List Set) (cs : List Column) (i : ℕ) → i < length cs → KeepsValues cs (refreshed bs cs i)
unfolding fresh
refreshed_values bs cs i lt = record { count = length-set cs i (fresh bs cs i); each = λ j. by_test j (eqb j i) refl }
  where
    by_test : (j : ℕ) (z : Bool) → eqb j i ≡ z → SameValues (column_in (refreshed bs cs i) j) (column_in cs j)
    by_test j true e =
        let is : j ≡ i = eqb-true j i e in
        subst (λ n. SameValues (column_in (refreshed bs cs i) n) (column_in cs n)) (sym is)
        (subst (λ c. SameValues c (column_in cs i)) (sym (get_or-set_same cs i (fresh bs cs i) no_column lt)) (record { sum = refl; value = refl }))
    by_test j false e = subst (λ c. SameValues c (column_in cs j)) (sym (get_or-set_other cs i j (fresh bs cs i) no_column (differs j i e))) (record { sum = refl; value = refl })

-- where only this variable's bounds changed, all columns have the tightest bounds again
refreshed_bounds : (old bs : List Set) (cs : List Column) (i : ℕ) → i < length cs → ((j : ℕ) → j < length cs → HasBounds old j (column_in cs j))
    → ((j : ℕ) (s : Side) → j ≢ i → tightest bs j s ≡ tightest old j s) → (j : ℕ) → j < length cs → HasBounds bs j (column_in (refreshed bs cs i) j)
unfolding fresh
refreshed_bounds old bs cs i lt h same j lj = by_test (eqb j i) refl
  where
    by_test : (z : Bool) → eqb j i ≡ z → HasBounds bs j (column_in (refreshed bs cs i) j)
    by_test true e =
        subst (λ n. HasBounds bs n (column_in (refreshed bs cs i) n)) (sym (eqb-true j i e))
        (subst (HasBounds bs i) (sym (get_or-set_same cs i (fresh bs cs i) no_column lt)) (record { lower = refl; upper = refl }))
    by_test false e =
        let ne = differs j i e in
        subst (HasBounds bs j) (sym (get_or-set_other cs i j (fresh bs cs i) no_column ne))
        (record { lower = (h j lj).lower ∙ ap number_of (sym (same j Lower ne)); upper = (h j lj).upper ∙ ap number_of (sym (same j Upper ne)) })

elsewhere : (bs : List Set) (b : Set) (j : ℕ) (s : Side) → j ≢ b.variable → tightest (bs ++ b ∷ []) j s ≡ tightest bs j s
elsewhere bs b j s ne = tightest_more bs b j s ∙ next_elsewhere (tightest bs j s) b j s (by_test (eqb b.variable j) refl)
  where
    by_test : (z : Bool) → eqb b.variable j ≡ z → z ≡ false
    by_test true e = absurd (ne (sym (eqb-true b.variable j e)))
    by_test false e = refl

known_more : (n : ℕ) (bs : List Set) (b : Set) → AreKnown n bs → b.variable < n → InRange b.number → AreKnown n (bs ++ b ∷ [])
known_more n bs b h lt r k lk = by_order (cases_lt k (length bs))
  where
    by_order : (k < length bs) ⊎ (length bs ≤ k) → ((set_at (bs ++ b ∷ []) k).variable < n) × InRange (set_at (bs ++ b ∷ []) k).number
    by_order (inl l) = subst (λ (x : Set). (x.variable < n) × InRange x.number) (sym (get_or_append_left bs (b ∷ []) no_set k l)) (h k l)
    by_order (inr le) =
        subst (λ (x : Set). (x.variable < n) × InRange x.number) (sym (get_or_push bs b no_set k (let e : length bs ≡ k = omega (arith, lk, le, length-append bs (b ∷ [])) in e))) (lt, r)

known_less : (n : ℕ) (bs : List Set) (b : Set) → AreKnown n (bs ++ b ∷ []) → AreKnown n bs
known_less n bs b h k lk =
    subst (λ (x : Set). (x.variable < n) × InRange x.number) (get_or_append_left bs (b ∷ []) no_set k lk) (h k (omega (arith, lk, length-append bs (b ∷ []))))

pub core_set : (t : Table) (cs : List Column) (old now : Trail) (b : Set) → IsCore t cs old → now.count ≡ old.count → now.bounds ≡ old.bounds ++ b ∷ [] → b.variable < length cs → InRange b.number
    → IsCore t (refreshed now.bounds cs b.variable) now
core_set t cs old now b core count bounds lt r =
    let keeps = refreshed_values now.bounds cs b.variable lt in
    record {
      solution = solution_kept t cs (refreshed now.bounds cs b.variable) core.solution keeps;
      count = let e = keeps.count in let f = core.count in omega (arith, count, e, f);
      bounded = λ j lj.
          refreshed_bounds old.bounds now.bounds cs b.variable lt core.bounded (λ i s ne. ap (λ bs. tightest bs i s) bounds ∙ elsewhere old.bounds b i s ne) j (let e = keeps.count in omega (arith, lj, e));
      known = subst (λ n. AreKnown n now.bounds) (sym keeps.count) (subst (AreKnown (length cs)) (sym bounds) (known_more (length cs) old.bounds b core.known lt r));
      meant = meant_kept t.rows cs (refreshed now.bounds cs b.variable) core.meant keeps;
    }

pub core_undone : (t : Table) (cs : List Column) (old now : Trail) (b : Set) → IsCore t cs old → now.count ≡ old.count → old.bounds ≡ now.bounds ++ b ∷ [] → b.variable < length cs
    → IsCore t (refreshed now.bounds cs b.variable) now
core_undone t cs old now b core count bounds lt =
    let keeps = refreshed_values now.bounds cs b.variable lt in
    record {
      solution = solution_kept t cs (refreshed now.bounds cs b.variable) core.solution keeps;
      count = let e = keeps.count in let f = core.count in omega (arith, count, e, f);
      bounded = λ j lj.
          refreshed_bounds old.bounds now.bounds cs b.variable lt core.bounded (λ i s ne. sym (elsewhere now.bounds b i s ne) ∙ ap (λ bs. tightest bs i s) (sym bounds)) j (let e = keeps.count in omega (arith, lj, e));
      known = subst (λ n. AreKnown n now.bounds) (sym keeps.count) (known_less (length cs) now.bounds b (subst (AreKnown (length cs)) bounds core.known));
      meant = meant_kept t.rows cs (refreshed now.bounds cs b.variable) core.meant keeps;
    }

-- ---- bounds in the range

ranged_held : Option Held → Type 0
ranged_held (Some h) = InRange h.number
ranged_held None = Unit {0}

ranged_tighter : (s : Side) (h : Option Held) (b : Set) → ranged_held h → InRange b.number → ranged_held (tighter s h b)
unfolding ranged_held
ranged_tighter Lower (Some h) b p q = by_test (int_lt h.number b.number)
  where
    by_test : (z : Bool) → ranged_held (cond z (Some (held_by b)) (Some h))
    by_test true = q
    by_test false = p
ranged_tighter Upper (Some h) b p q = by_test (int_lt b.number h.number)
  where
    by_test : (z : Bool) → ranged_held (cond z (Some (held_by b)) (Some h))
    by_test true = q
    by_test false = p
ranged_tighter Lower None b p q = q
ranged_tighter Upper None b p q = q

ranged_next : (h : Option Held) (b : Set) (i : ℕ) (s : Side) → ranged_held h → InRange b.number → ranged_held (held_next h b i s)
ranged_next h b i s p q = by_test (is_on b i s)
  where
    by_test : (z : Bool) → ranged_held (cond z (tighter s h b) h)
    by_test true = ranged_tighter s h b p q
    by_test false = p

ranged_after : (bs : List Set) (h : Option Held) (i : ℕ) (s : Side) → ranged_held h → ((k : ℕ) → k < length bs → InRange (set_at bs k).number) → ranged_held (held_after h bs i s)
ranged_after [] h i s p q = p
ranged_after (b ∷ bs) h i s p q = ranged_after bs (held_next h b i s) i s (ranged_next h b i s p (q zero (omega arith))) (λ k lt. q (suc k) (omega (arith, lt)))

ranged_number : (h : Option Held) → ranged_held h → IsRanged (number_of h)
unfolding ranged_held
ranged_number (Some h) p = p
ranged_number None p = tt

pub ranged_of : (t : Table) (cs : List Column) (trail : Trail) → IsCore t cs trail → AreRanged cs
unfolding ranged_held
ranged_of t cs trail core i = by_order (cases_lt i (length cs))
  where
    by_order : (i < length cs) ⊎ (length cs ≤ i) → IsRanged (column_in cs i).lower × IsRanged (column_in cs i).upper
    by_order (inl lt) =
        let all = λ (k : ℕ) (l : k < length trail.bounds). (core.known k l).1 in
        let h = core.bounded i lt in (
          subst IsRanged (sym h.lower) (ranged_number (tightest trail.bounds i Lower) (ranged_after trail.bounds None i Lower tt all)),
          subst IsRanged (sym h.upper) (ranged_number (tightest trail.bounds i Upper) (ranged_after trail.bounds None i Upper tt all)),
        )
    by_order (inr le) = subst (λ (c : Column). IsRanged c.lower × IsRanged c.upper) (sym (get_or_past cs i no_column le)) (tt, tt)

-- the number that is left alone lies in the range
pub fixed_ranged : (o : Option ℤ) (c : Column) → IfSome o (FixedAt c) → IsRanged c.lower → IfSome o InRange
fixed_ranged None c h r = tt
fixed_ranged (Some k) c h r = subst IsRanged h.0 r

-- ---- what a check makes of the state

pub core_run : (t : Table) (cs : List Column) (u : Table) (ds : List Column) (n : ℕ) (trail : Trail) → IsCore t cs trail → IsRun t cs u ds n → IsCore u ds trail
core_run t cs u ds n trail core run =
    record {
      solution = run.solution;
      count = let e = run.bounds.count in let f = core.count in omega (arith, e, f);
      bounded = λ i lt. let h = core.bounded i (let e = run.bounds.count in omega (arith, lt, e)) in record { lower = (run.bounds.each i).lower ∙ h.lower; upper = (run.bounds.each i).upper ∙ h.upper };
      known = subst (λ m. AreKnown m trail.bounds) (sym run.bounds.count) core.known;
      meant = runs_keep t cs u ds n core.meant run;
    }

stand_known : (cs : List Column) (bs : List Bound) → All (Stands cs) bs → (k : ℕ) (d : Bound) → k < length bs → (get_or bs k d).variable < length cs
stand_known cs bs h k d lt = (h k d lt).0

pub known_bounds : (t : Table) (cs : List Column) (n : ℕ) (o : Outcome) → length cs ≤ n → Ends t cs o → KnownBounds n o
known_bounds t cs n (Clash bounds) e h = by_kind h.1
  where
    by_kind : IsConflict t.rows cs bounds.items → (k : ℕ) (d : Bound) → k < length bounds.items → (get_or bounds.items k d).variable < n
    by_kind (inl r) k d lt = let l = stand_known cs bounds.items r.stand k d lt in omega (arith, l, e)
    by_kind (inr r) k d lt = let l = stand_known cs bounds.items r.stand k d lt in omega (arith, l, e)
known_bounds t cs n AllFit e h = tt
known_bounds t cs n (NoFit number) e h = tt
known_bounds t cs n Spent e h = tt
known_bounds t cs n NoMemory e h = tt

pub judges_of : (t : Table) (cs : List Column) (bs : List Set) (o : Outcome) (v : Verdict) → Ends t cs o → IsVerdict bs o v → Judges (record { table = t; columns = cs; bounds = bs }) v
judges_of t cs bs (Clash bounds) v h (inl e) = subst (Judges (record { table = t; columns = cs; bounds = bs })) (sym e) tt
judges_of t cs bs (Clash bounds) v h (inr c) = by_verdict v c
  where
    by_verdict : (w : Verdict) → IsConflictOf bs bounds.items w → Judges (record { table = t; columns = cs; bounds = bs }) w
    by_verdict (Conflict tags) e = (h.0, record { bounds = bounds.items; conflict = h.1; exact = e })
    by_verdict Fits e = absurd e
    by_verdict (Range number) e = absurd e
    by_verdict UnitsSpent e = absurd e
    by_verdict Memory e = absurd e
judges_of t cs bs AllFit v h e = subst (Judges (record { table = t; columns = cs; bounds = bs })) (sym e) h
judges_of t cs bs (NoFit number) v h e = subst (Judges (record { table = t; columns = cs; bounds = bs })) (sym e) h
judges_of t cs bs Spent v h e = subst (Judges (record { table = t; columns = cs; bounds = bs })) (sym e) h
judges_of t cs bs NoMemory v h e = subst (Judges (record { table = t; columns = cs; bounds = bs })) (sym e) tt

pub room_of : (room made : ℕ) (bs : List Set) (o : Outcome) (v : Verdict) → Steps.SpendsRoom room made o → IsVerdict bs o v → SpendsRoom room made v
room_of room made bs (Clash bounds) v h (inl e) = subst (SpendsRoom room made) (sym e) tt
room_of room made bs (Clash bounds) v h (inr c) = by_verdict v c
  where
    by_verdict : (w : Verdict) → IsConflictOf bs bounds.items w → SpendsRoom room made w
    by_verdict (Conflict tags) e = tt
    by_verdict Fits e = absurd e
    by_verdict (Range number) e = absurd e
    by_verdict UnitsSpent e = absurd e
    by_verdict Memory e = absurd e
room_of room made bs AllFit v h e = subst (SpendsRoom room made) (sym e) tt
room_of room made bs (NoFit number) v h e = subst (SpendsRoom room made) (sym e) tt
room_of room made bs Spent v h e = subst (SpendsRoom room made) (sym e) h
room_of room made bs NoMemory v h e = subst (SpendsRoom room made) (sym e) tt

pub state_of : (t : Table) (cs : List Column) (trail : Trail) → IsTable t → IsCore t cs trail → IsState (record { table = t; columns = cs; bounds = trail.bounds })
state_of t cs trail facts core = record { table = facts; solution = core.solution; bounded = core.bounded; known = core.known; meant = core.meant }

pub take_none : (n : ℕ) → take {A = Set} n [] ≡ []
take_none zero = refl
take_none (suc n) = refl

pub take_shorter : (m n : ℕ) (bs : List Set) → m ≤ n → take m (take n bs) ≡ take m bs
take_shorter zero n bs le = refl
take_shorter (suc m) zero bs le = absurd (omega (arith, le))
take_shorter (suc m) (suc n) [] le = refl
take_shorter (suc m) (suc n) (b ∷ bs) le = ap (λ xs. b ∷ xs) (take_shorter m n bs (omega (arith, le)))

pub last_known : (n : ℕ) (old bs : List Set) (b : Set) → AreKnown n old → old ≡ bs ++ b ∷ [] → b.variable < n
last_known n old bs b h e =
    subst (λ (x : Set). x.variable < n) (get_or_push bs b no_set (length bs) refl)
    ((subst (AreKnown n) e h (length bs) (omega (arith, length-append bs (b ∷ [])))).0)
