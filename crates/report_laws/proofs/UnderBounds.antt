-- Pivots under bounds that stay are one run of next steps.
use Rattle.std.proofs.Common.{◌≡◌, ◌≢◌, ℕ, ℤ, zero, suc, ◌+◌, ◌<◌, ◌≤◌, ◌^◌, ◌⊎◌, inl, inr, sym, ap, ◌∙◌, subst, refl, arith, List, [], ◌∷◌, ◌++◌, map, length, get_or, Bool, true, false, cond, eqb, eqb-true, eq-eqb, Option, Some, None}
use Rattle.std.proofs.lemmas.Int.{ints}
use Rattle.std.proofs.Math.Nat.{pow-suc}
use Rattle.std.proofs.lemmas.List.{ext_get_or, append_assoc, append-nil, length-map, length-append, get_or_append_left}
use Rattle.fraction128.specs.declared.ratio.Ratio.{Ratio}
use Rattle.fraction128.specs.Number.{is_zero}
use Rattle.fraction128.specs.declared.Summand.{Summand}
use Rattle.fraction128.specs.declared.Entry.{Entry}
use Rattle.fraction128.specs.declared.TableRow.{TableRow}
use Rattle.fraction128.specs.declared.Column.{Column}
use Rattle.fraction128.specs.declared.Pending.{Pending}
use Rattle.fraction128.specs.declared.Line.{Line}
use Rattle.fraction128.specs.declared.Grid.{Grid}
use Rattle.fraction128.specs.Grid.{Step, take, move, pivot, any_crossed, coefficient, column_at, value_at, is_basic, is_some, row_of, missed, next_step, with_values, moved_value, pivoted_value}
use Rattle.fraction128.specs.Lines.{Bounding, AscendFrom, IsEntry, IsRow, IsSoundGrid, IsPivotIn, HasBasis, exchanged}
use Rattle.fraction128.specs.Chain.{StaysOrRises, StaysOrFalls, IsTightened, ComesFrom, begins, taken, moved, left_by}
use Rattle.simplex_steps.specs.Law.{row_at, no_row, AreFrom, ArePositive, IsGrid, IsLawful, IsSettledTo, Runs, pivots}
use Rattle.simplex_steps.proofs.NextStep.{col, no_col, step_facts}
use Rattle.simplex_steps.proofs.Moments.{length_with}
use Rattle.simplex_steps.proofs.Pivots.{basic_at, basic_or_free}
use Rattle.simplex_steps.proofs.Keeping.{pivots_settle}
use Rattle.simplex_steps.proofs.Independent.{pivots_exchange}
use Rattle.simplex_steps.proofs.Short.{runs_are_short}
use Rattle.smt_meaning.specs.declared.reports.Unit.{Unit as Spent}
use Rattle.smt_meaning.specs.declared.reports.Unit.TheVariants.{Learnt, Numbered, Pivot}
use Rattle.smt_meaning.specs.CheckAtoms.{IsBoundOf, IsCheckAtom}
use Rattle.smt_meaning.specs.Report.{AreChained}
use Rattle.report_laws.specs.UnderBounds.{Bounds, column_bounds, bounds_of, StayUnder, PivotsUnderBoundsAreFew}
use Rattle.report_laws.proofs.OneLeaf.{plain}

-- ---- sound grids are lawful

entries_from : (n i : ℕ) (g : Grid) (es : List Entry) → AscendFrom i (map (λ (e : Entry). e.variable) es) → ((k : ℕ) (d : Entry) → k < length es → IsEntry g (get_or es k d)) → n ≡ length g.columns → AreFrom i n es
entries_from n i g [] up each e = tt
entries_from n i g (x ∷ es) up each e =
    (up.0, (let lt = (each 0 x (omega arith)).known in omega (arith, lt, e)), entries_from n (x.variable + 1) g es up.1 (λ k d lt. each (suc k) d (omega (arith, lt))) e)

entries_positive : (g : Grid) (es : List Entry) → ((k : ℕ) (d : Entry) → k < length es → IsEntry g (get_or es k d)) → ArePositive es
entries_positive g [] each = tt
entries_positive g (x ∷ es) each = (
  (each 0 x (omega arith)).fraction.positive,
  entries_positive g es (λ k d lt. each (suc k) d (omega (arith, lt))),
)

-- a basic variable is in no row
none_of_basic : (g : Grid) (es : List Entry) (b : ℕ) → is_basic g.rows b ≡ true → ((k : ℕ) (d : Entry) → k < length es → IsEntry g (get_or es k d)) → is_zero (coefficient es b) ≡ true
none_of_basic g [] b basic each = refl
none_of_basic g (x ∷ es) b basic each = by (eqb x.variable b) refl (none_of_basic g es b basic (λ k d lt. each (suc k) d (omega (arith, lt))))
  where
    by : (z : Bool) → eqb x.variable b ≡ z → is_zero (coefficient es b) ≡ true → is_zero (cond z x.coefficient (coefficient es b)) ≡ true
    by true e rest =
        let free : is_basic g.rows b ≡ false = subst (λ j. is_basic g.rows j ≡ false) (eqb-true x.variable b e) (each 0 x (omega arith)).free in
        let z : true ≡ false = sym basic ∙ free in absurd (cc)
    by false e rest = rest

has_row : (rows : List TableRow) (k : ℕ) → k < length rows → is_basic rows (row_at rows k).basic ≡ true
has_row [] k lt = absurd (omega (arith, lt))
has_row (r ∷ rows) zero lt = by (eqb r.basic r.basic) refl
  where
    by : (z : Bool) → eqb r.basic r.basic ≡ z → is_some (cond z (Some r) (row_of rows r.basic)) ≡ true
    by true e = refl
    by false e = let z : true ≡ false = sym (eq-eqb r.basic r.basic refl) ∙ e in absurd (cc)
has_row (r ∷ rows) (suc k) lt = by (eqb r.basic (row_at rows k).basic) (has_row rows k (omega (arith, lt)))
  where
    by : (z : Bool) → is_basic rows (row_at rows k).basic ≡ true → is_some (cond z (Some r) (row_of rows (row_at rows k).basic)) ≡ true
    by true h = refl
    by false h = h

module _ (sums : List (List Summand)) (B : Bounding) (g : Grid) (sound : IsSoundGrid sums B g) where
  row : (k : ℕ) → k < length g.rows → IsRow g (row_at g.rows k)
  row k lt = sound.rows.each k no_row lt

  one_row : (j k : ℕ) → j < length g.rows → k < length g.rows → (row_at g.rows j).basic ≡ (row_at g.rows k).basic → j ≡ k
  one_row j k lj lk e = by (less_or_more j k)
    where
      less_or_more : (m n : ℕ) → (m < n) ⊎ ((n < m) ⊎ (m ≡ n))
      less_or_more zero zero = inr (inr refl)
      less_or_more zero (suc n) = inl (omega arith)
      less_or_more (suc m) zero = inr (inl (omega arith))
      less_or_more (suc m) (suc n) = elim (less_or_more m n) [ inl l ↦ inl (omega (arith, l)) | inr o ↦ elim o [ inl l ↦ inr (inl (omega (arith, l))) | inr q ↦ inr (inr (ap suc q)) ] ]

      by : (j < k) ⊎ ((k < j) ⊎ (j ≡ k)) → j ≡ k
      by (inl l) = absurd (sound.rows.apart j k no_row l lk e)
      by (inr (inl l)) = absurd (sound.rows.apart k j no_row l lj (sym e))
      by (inr (inr q)) = q

  values_positive : (i : ℕ) → 0 < (value_at g i).denominator
  values_positive i = by_known (known_or_not i (length g.columns))
    where
      known_or_not : (m n : ℕ) → (m < n) ⊎ (n ≤ m)
      known_or_not m zero = inr (omega arith)
      known_or_not zero (suc n) = inl (omega arith)
      known_or_not (suc m) (suc n) = elim (known_or_not m n) [ inl l ↦ inl (omega (arith, l)) | inr l ↦ inr (omega (arith, l)) ]

      past : (cs : List Column) (j : ℕ) → length cs ≤ j → 0 < (col cs j).value.denominator
      past [] j h = omega arith
      past (c ∷ cs) zero h = absurd (omega (arith, h))
      past (c ∷ cs) (suc j) h = past cs j (omega (arith, h))

      by_known : (i < length g.columns) ⊎ (length g.columns ≤ i) → 0 < (value_at g i).denominator
      by_known (inl lt) = (sound.fractions i lt).positive
      by_known (inr le) = past g.columns i le

  is_grid : IsGrid g
  is_grid = record {
    distinct = one_row;
    basics = λ k lt. (row k lt).known;
    entries = λ k lt. entries_from (length g.columns) 0 g (row_at g.rows k).entries (row k lt).ascending (row k lt).entries refl;
    positive = λ k lt. entries_positive g (row_at g.rows k).entries (row k lt).entries;
    separate = λ j k lj lk. none_of_basic g (row_at g.rows k).entries (row_at g.rows j).basic (has_row g.rows j lj) (row k lk).entries;
    values = values_positive;
  }

  lawful : (b : ℕ) (k : ℤ) (c : ℕ) → next_step g ≡ Some (pivot b k c) → IsLawful g
  lawful b k c next = by (plain g (pivot b k c) next)
    where
      by : ((p : Pending) × (g.pending ≡ Some p) × (pivot b k c ≡ take p)) ⊎ ((g.pending ≡ None) × (any_crossed g.columns ≡ false)) → IsLawful g
      by (inl (p, e, is)) = absurd (cc)
      by (inr h) = record { grid = is_grid; pending = h.0; meets = sound.meets; uncrossed = h.1 }

-- ---- bounds only tighten

risen : (o p q : Option ℤ) → StaysOrRises o p → StaysOrRises p q → StaysOrRises o q
risen None p q h k = tt
risen (Some a) (Some b) (Some c) h k = grind (arith, ints, h, k)
risen (Some a) (Some b) None h k = k
risen (Some a) None q h k = absurd h

fallen : (o p q : Option ℤ) → StaysOrFalls o p → StaysOrFalls p q → StaysOrFalls o q
fallen None p q h k = tt
fallen (Some a) (Some b) (Some c) h k = grind (arith, ints, h, k)
fallen (Some a) (Some b) None h k = k
fallen (Some a) None q h k = absurd h

stands : (o : Option ℤ) → StaysOrRises o o × StaysOrFalls o o
stands None = (tt, tt)
stands (Some k) = (grind (arith, ints), grind (arith, ints))

rises_back : (o p : Option ℤ) → StaysOrRises o p → StaysOrRises p o → p ≡ o
rises_back None None h k = refl
rises_back None (Some b) h k = absurd k
rises_back (Some a) None h k = absurd h
rises_back (Some a) (Some b) h k = let same : b ≡ a = grind (arith, ints, h, k) in ap Some same

falls_back : (o p : Option ℤ) → StaysOrFalls o p → StaysOrFalls p o → p ≡ o
falls_back None None h k = refl
falls_back None (Some b) h k = absurd k
falls_back (Some a) None h k = absurd h
falls_back (Some a) (Some b) h k = let same : b ≡ a = grind (arith, ints, h, k) in ap Some same

-- no bound of the first is loosened in the second
pub record AreNoLooser (g h : Grid) : Type 0 where
  pub count : length g.columns ≤ length h.columns
  pub lower : (i : ℕ) → i < length g.columns → StaysOrRises (column_at g i).lower (column_at h i).lower
  pub upper : (i : ℕ) → i < length g.columns → StaysOrFalls (column_at g i).upper (column_at h i).upper

pub bounds_with : (f : ℕ → Ratio) (i : ℕ) (cs : List Column) (j : ℕ) → ((col (with_values f i cs) j).lower ≡ (col cs j).lower) × ((col (with_values f i cs) j).upper ≡ (col cs j).upper)
bounds_with f i [] j = (refl, refl)
bounds_with f i (c ∷ cs) zero = (refl, refl)
bounds_with f i (c ∷ cs) (suc j) = bounds_with f (i + 1) cs j

pub no_looser : (g h : Grid) → ComesFrom g h → AreNoLooser g h
no_looser g h begins = record { count = omega arith; lower = λ i lt. (stands (column_at g i).lower).0; upper = λ i lt. (stands (column_at g i).upper).1 }
no_looser g l (taken h k c t) =
    let b : AreNoLooser g h = no_looser g h c in
    let inside : (i : ℕ) → i < length g.columns → i < length h.columns = λ i lt. let n = b.count in omega (arith, n, lt) in
    record {
      count = let n = b.count in let m = t.count in omega (arith, n, m);
      lower = λ i lt. risen (column_at g i).lower (column_at h i).lower (column_at k i).lower (b.lower i lt) (t.each i (inside i lt)).lower;
      upper = λ i lt. fallen (column_at g i).upper (column_at h i).upper (column_at k i).upper (b.upper i lt) (t.each i (inside i lt)).upper;
    }
no_looser g l (moved h j n c next) =
    let b : AreNoLooser g h = no_looser g h c in
    record {
      count = let m = b.count in omega (arith, m, length_with (moved_value h j n) 0 h.columns);
      lower = λ i lt. subst (λ o. StaysOrRises (column_at g i).lower o) (sym (bounds_with (moved_value h j n) 0 h.columns i).0) (b.lower i lt);
      upper = λ i lt. subst (λ o. StaysOrFalls (column_at g i).upper o) (sym (bounds_with (moved_value h j n) 0 h.columns i).1) (b.upper i lt);
    }

-- the same variables have the same bounds
record AreBoundedAlike (g h : Grid) : Type 0 where
  count : length h.columns ≡ length g.columns
  lower : (i : ℕ) → i < length g.columns → (column_at h i).lower ≡ (column_at g i).lower
  upper : (i : ℕ) → i < length g.columns → (column_at h i).upper ≡ (column_at g i).upper

bounds_at : (cs : List Column) (j : ℕ) → get_or (map column_bounds cs) j (column_bounds no_col) ≡ column_bounds (col cs j)
bounds_at [] j = refl
bounds_at (c ∷ cs) zero = refl
bounds_at (c ∷ cs) (suc j) = bounds_at cs j

bounded_alike : (g h : Grid) → bounds_of h ≡ bounds_of g → AreBoundedAlike g h
bounded_alike g h e = record {
  count = sym (length-map h.columns column_bounds) ∙ ap (λ bs. length bs) e ∙ length-map g.columns column_bounds;
  lower = λ i lt. ap (λ (b : Bounds). b.0) (at i);
  upper = λ i lt. ap (λ (b : Bounds). b.1) (at i);
}
  where
    at : (i : ℕ) → column_bounds (col h.columns i) ≡ column_bounds (col g.columns i)
    at i = sym (bounds_at h.columns i) ∙ ap (λ bs. get_or bs i (column_bounds no_col)) e ∙ bounds_at g.columns i

bounds_left : (f : ℕ → Ratio) (i : ℕ) (cs : List Column) → map column_bounds (with_values f i cs) ≡ map column_bounds cs
bounds_left f i [] = refl
bounds_left f i (c ∷ cs) = ap (λ bs. column_bounds c ∷ bs) (bounds_left f (i + 1) cs)

-- ---- where no bound is tightened and no variable is taken in, nothing moves

front_free : (rs more : List TableRow) (j : ℕ) → is_basic (rs ++ more) j ≡ false → is_basic rs j ≡ false
front_free [] more j h = refl
front_free (r ∷ rs) more j h = by (eqb r.basic j) h (λ k. front_free rs more j k)
  where
    by : (z : Bool) → is_some (cond z (Some r) (row_of (rs ++ more) j)) ≡ false → (is_basic (rs ++ more) j ≡ false → is_basic rs j ≡ false) → is_some (cond z (Some r) (row_of rs j)) ≡ false
    by true e rest = e
    by false e rest = rest e

same_column : (c d : Column) → d.sum ≡ c.sum → d.lower ≡ c.lower → d.upper ≡ c.upper → d.value ≡ c.value → d ≡ c
same_column c d s l u v =
    ap (λ x. record { sum = x; lower = d.lower; upper = d.upper; value = d.value }) s ∙ ap (λ x. record { sum = c.sum; lower = x; upper = d.upper; value = d.value }) l
    ∙ ap (λ x. record { sum = c.sum; lower = c.lower; upper = x; value = d.value }) u ∙ ap (λ x. record { sum = c.sum; lower = c.lower; upper = c.upper; value = x }) v

-- the same but for rows at the end
record IsSameBut (g h : Grid) : Type 0 where
  columns : h.columns ≡ g.columns
  more : List TableRow
  rows : h.rows ≡ g.rows ++ more
  pending : h.pending ≡ g.pending

module _ (g : Grid) (settled : IsSettledTo g (length g.columns)) where
  same_but : (h : Grid) → ComesFrom g h → AreBoundedAlike g h → IsSameBut g h
  same_but h begins alike = record { columns = refl; more = []; rows = sym (append-nil g.rows); pending = refl }
  same_but l (taken h k c t) alike =
      let b : AreNoLooser g h = no_looser g h c in
      let count : length h.columns ≡ length g.columns = (let m = b.count in let n = t.count in let e = alike.count in omega (arith, m, n, e)) in
      let inside : (i : ℕ) → i < length g.columns → i < length h.columns = λ i lt. omega (arith, count, lt) in
      let before : IsSameBut g h = same_but h c (record {
        count = count;
        lower = λ i lt. rises_back (column_at g i).lower (column_at h i).lower (b.lower i lt) (subst (λ o. StaysOrRises (column_at h i).lower o) (alike.lower i lt) (t.each i (inside i lt)).lower);
        upper = λ i lt. falls_back (column_at g i).upper (column_at h i).upper (b.upper i lt) (subst (λ o. StaysOrFalls (column_at h i).upper o) (alike.upper i lt) (t.each i (inside i lt)).upper);
      }) in
      let at : (i : ℕ) → column_at h i ≡ column_at g i = λ i. ap (λ cs. col cs i) before.columns in
      record {
        columns = ext_get_or no_col k.columns g.columns alike.count (λ i lt.
            let le : i < length g.columns = (let e = alike.count in omega (arith, e, lt)) in
            let t_at : IsTightened (column_at h i) (column_at k i) = t.each i (inside i le) in
            same_column (column_at g i) (column_at k i) (t_at.sum ∙ ap (λ (x : Column). x.sum) (at i)) (alike.lower i le) (alike.upper i le) (t_at.value ∙ ap (λ (x : Column). x.value) (at i)));
        more = before.more ++ t.more;
        rows = t.rows ∙ ap (λ rs. rs ++ t.more) before.rows ∙ append_assoc g.rows before.more t.more;
        pending = t.pending ∙ before.pending;
      }
  same_but l (moved h j n c next) alike =
      let before : IsSameBut g h = same_but h c (record {
        count = sym (length_with (moved_value h j n) 0 h.columns) ∙ alike.count;
        lower = λ i lt. sym (bounds_with (moved_value h j n) 0 h.columns i).0 ∙ alike.lower i lt;
        upper = λ i lt. sym (bounds_with (moved_value h j n) 0 h.columns i).1 ∙ alike.upper i lt;
      }) in
      absurd (still before (plain h (move j n) next))
    where
      still : IsSameBut g h → ((p : Pending) × (h.pending ≡ Some p) × (move j n ≡ take p)) ⊎ ((h.pending ≡ None) × (any_crossed h.columns ≡ false)) → ⊥
      still before (inl (p, e, is)) = absurd (cc)
      still before (inr q) =
          let facts = step_facts h (move j n) q.0 q.1 next in
          let known : j < length g.columns = subst (λ cs. j < length cs) before.columns facts.known in
          let free : is_basic g.rows j ≡ false = front_free g.rows before.more j (subst (λ rs. is_basic rs j ≡ false) before.rows facts.free) in
          let outside : missed (col g.columns j) ≡ Some n = subst (λ cs. missed (col cs j) ≡ Some n) before.columns facts.outside in
          let z : None ≡ Some n = sym (settled j known known free) ∙ outside in absurd (cc)

  -- nor are there rows more, where the same variables are basic
  module _ (sums : List (List Summand)) (B : Bounding) (is : ℕ → Bool) (h : Grid) (sound : IsSoundGrid sums B h) (basis : HasBasis is g) (later : HasBasis is h) (same : IsSameBut g h) where
    at_end : (rs more : List TableRow) (r : TableRow) (d : TableRow) → get_or (rs ++ r ∷ more) (length rs) d ≡ r
    at_end [] more r d = refl
    at_end (q ∷ rs) more r d = at_end rs more r d

    no_rows_more : (more : List TableRow) → h.rows ≡ g.rows ++ more → more ≡ []
    no_rows_more [] e = refl
    no_rows_more (r ∷ more) e =
        let place : length g.rows < length h.rows = (let n = ap (λ (xs : List TableRow). length xs) e in let m : length (g.rows ++ r ∷ more) ≡ length g.rows + length (r ∷ more) = length-append g.rows (r ∷ more) in omega (arith, n, m)) in
        let is_it : row_at h.rows (length g.rows) ≡ r = ap (λ rs. row_at rs (length g.rows)) e ∙ at_end g.rows more r no_row in
        let known : (row_at h.rows (length g.rows)).basic < length h.columns = (sound.rows.each (length g.rows) no_row place).known in
        let was_known : (row_at h.rows (length g.rows)).basic < length g.columns = subst (λ cs. (row_at h.rows (length g.rows)).basic < length cs) same.columns known in
        let basic : is_basic g.rows (row_at h.rows (length g.rows)).basic ≡ true = basis (row_at h.rows (length g.rows)).basic was_known ∙ sym (later (row_at h.rows (length g.rows)).basic known) ∙ has_row h.rows (length g.rows) place in
        absurd (twice place basic (basic_or_free g.rows (row_at h.rows (length g.rows)).basic))
      where
        twice : length g.rows < length h.rows → is_basic g.rows (row_at h.rows (length g.rows)).basic ≡ true
            → ((k : ℕ) × (k < length g.rows) × (basic_at g.rows k ≡ (row_at h.rows (length g.rows)).basic)) ⊎ ((k : ℕ) → k < length g.rows → basic_at g.rows k ≢ (row_at h.rows (length g.rows)).basic) → ⊥
        twice place basic (inl (k, lt, q)) =
            let stays : row_at h.rows k ≡ row_at g.rows k = ap (λ rs. row_at rs k) e ∙ get_or_append_left g.rows (r ∷ more) no_row k lt in
            sound.rows.apart k (length g.rows) no_row lt place (ap (λ (x : TableRow). x.basic) stays ∙ q)
        twice place basic (inr free) = let z : true ≡ false = sym basic ∙ lacks g.rows _ free in absurd (cc)
          where
            lacks : (rows : List TableRow) (j : ℕ) → ((k : ℕ) → k < length rows → basic_at rows k ≢ j) → is_basic rows j ≡ false
            lacks [] j none = refl
            lacks (q ∷ rows) j none = by (eqb q.basic j) refl (lacks rows j (λ k lt. none (suc k) (omega (arith, lt))))
              where
                by : (z : Bool) → eqb q.basic j ≡ z → is_basic rows j ≡ false → is_some (cond z (Some q) (row_of rows j)) ≡ false
                by true w rest = absurd (none 0 (omega arith) (eqb-true q.basic j w))
                by false w rest = rest

    same_grid : h ≡ g
    same_grid =
        ap (λ cs. record { columns = cs; rows = h.rows; pending = h.pending }) same.columns
        ∙ ap (λ rs. record { columns = g.columns; rows = rs; pending = h.pending }) (same.rows ∙ ap (λ more. g.rows ++ more) (no_rows_more same.more same.rows) ∙ append-nil g.rows)
        ∙ ap (λ p. record { columns = g.columns; rows = g.rows; pending = p }) same.pending

-- ---- one run

-- so many pivots from the grid on
pub record IsRunOf (n : ℕ) (g : Grid) : Type 0 where
  pub steps : List Step
  pub end : Grid
  pub runs : Runs g steps end
  pub count : pivots steps ≡ n

module _ (sums : List (List Summand)) (B : Bounding) where
  pub law_of : (is : ℕ → Bool) (l : Line) (p : IsPivotIn sums B is l) → IsLawful p.grid
  law_of is l p = lawful sums B p.grid p.sound p.leaves p.number p.enters p.next

  -- the next pivot begins with what this one left
  pub next_grid : (is : ℕ → Bool) (l m : Line) (p : IsPivotIn sums B is l) (q : IsPivotIn sums B (exchanged l is) m) → bounds_of q.grid ≡ bounds_of p.grid → ComesFrom (left_by p) q.grid → q.grid ≡ left_by p
  next_grid is l m p q e comes =
      let count : length (left_by p).columns ≡ length p.grid.columns = length_with (pivoted_value p.grid p.leaves p.number p.enters) 0 p.grid.columns in
      let settled : IsSettledTo (left_by p) (length (left_by p).columns) =
      subst (λ n. IsSettledTo (left_by p) n) (sym count) (pivots_settle p.grid p.leaves p.number p.enters (law_of is l p) p.next) in
      let left : bounds_of (left_by p) ≡ bounds_of p.grid = bounds_left (pivoted_value p.grid p.leaves p.number p.enters) 0 p.grid.columns in
      let basis : HasBasis (exchanged l is) (left_by p) =
      subst (λ (x : Line). HasBasis (exchanged x is) (left_by p)) (sym p.line) (pivots_exchange p.grid p.leaves p.number p.enters is (law_of is l p) p.next p.basis) in
      same_grid (left_by p) settled sums B (exchanged l is) q.grid q.sound basis q.basis (same_but (left_by p) settled q.grid comes (bounded_alike (left_by p) q.grid (e ∙ sym left)))

  -- one pivot more in front of a run
  pub run_before : (is : ℕ → Bool) (l m : Line) (p : IsPivotIn sums B is l) (q : IsPivotIn sums B (exchanged l is) m) → bounds_of q.grid ≡ bounds_of p.grid → ComesFrom (left_by p) q.grid
      → (n : ℕ) → IsRunOf n q.grid → IsRunOf (suc n) p.grid
  run_before is l m p q e comes n r = record {
    steps = pivot p.leaves p.number p.enters ∷ r.steps;
    end = r.end;
    runs = (p.next, subst (λ g. Runs g r.steps r.end) (next_grid is l m p q e comes) r.runs);
    count = ap suc r.count;
  }

  pub run_of_one : (is : ℕ → Bool) (l : Line) (p : IsPivotIn sums B is l) → IsRunOf 1 p.grid
  run_of_one is l p = record { steps = pivot p.leaves p.number p.enters ∷ []; end = left_by p; runs = (p.next, refl); count = refl }

module _ (bounds : List Bounds) (sums : List (List Summand)) (B : Bounding) where
  one_run : (n : ℕ) (is : ℕ → Bool) (here : Option Grid) (l : Line) (us : List Spent) (c : AreChained sums B is here (Pivot l ∷ us)) → StayUnder bounds sums B (suc n) is here (Pivot l ∷ us) c → IsRunOf (suc n) c.0.grid
  one_run zero is here l us c s = run_of_one sums B is l c.0
  one_run (suc n) is here l [] c s = absurd s.1
  one_run (suc n) is here l (Learnt d ∷ us) c s = absurd s.1
  one_run (suc n) is here l (Numbered a ∷ us) c s = absurd s.1
  one_run (suc n) is here l (Pivot m ∷ us) c s =
      run_before sums B is l m c.0 c.2.0 (s.1.0 ∙ sym s.0) c.2.1 (suc n) (one_run n (exchanged l is) (Some (left_by c.0)) m us c.2 s.1)

pub power : (n : ℕ) → 0 < 3 ^ n
power zero = omega arith
power (suc n) = let h = power n in omega (arith, h, pow-suc 3 n)

-- a run that begins with a pivot is short
pub run_is_short : (sums : List (List Summand)) (B : Bounding) (is : ℕ → Bool) (l : Line) (p : IsPivotIn sums B is l) (n : ℕ) → IsRunOf n p.grid → n < 3 ^ length p.grid.columns
run_is_short sums B is l p n r =
    let law : IsLawful p.grid = law_of sums B is l p in
    subst (λ m. m < 3 ^ length p.grid.columns) r.count (runs_are_short p.grid r.end r.steps law.grid law.pending law.meets law.uncrossed r.runs)

pub pivots_under_bounds : PivotsUnderBoundsAreFew
pivots_under_bounds ts frames branches bounds sums zero is here us c s = power (length bounds)
pivots_under_bounds ts frames branches bounds sums (suc n) is here [] c s = absurd s
pivots_under_bounds ts frames branches bounds sums (suc n) is here (Learnt d ∷ us) c s = absurd s
pivots_under_bounds ts frames branches bounds sums (suc n) is here (Numbered a ∷ us) c s = absurd s
pivots_under_bounds ts frames branches bounds sums (suc n) is here (Pivot l ∷ us) c s =
    let B : Bounding = IsBoundOf (IsCheckAtom ts frames branches) in
    let count : length c.0.grid.columns ≡ length bounds = sym (length-map c.0.grid.columns column_bounds) ∙ ap (λ (bs : List Bounds). length bs) s.0 in
    subst (λ m. suc n < 3 ^ m) count (run_is_short sums B is l c.0 (suc n) (one_run bounds sums B n is here l us c s))
