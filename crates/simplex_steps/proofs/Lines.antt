-- The lines of a run.
use Rattle.std.proofs.Common.{◌≡◌, ◌≢◌, ℕ, ℤ, zero, suc, ◌+◌, ◌<◌, ◌≤◌, ◌⊎◌, inl, inr, pos, sym, ap, ap₂, ◌∙◌, subst, refl, arith, List, [], ◌∷◌, ◌++◌, map, length, get_or, Bool, true, false, cond, eqb, eqb-true, eq-eqb, Some, unsigned_abs}
use Rattle.std.specs.Prelude.{All}
use Rattle.std.proofs.lemmas.List.{get_or-map, length-map, append_assoc}
use Rattle.fraction128.specs.declared.ratio.Ratio.{Ratio}
use Rattle.fraction128.specs.Number.{whole, is_less, SameNumber, unreduced_sum, unreduced_product}
use Rattle.fraction128.specs.declared.Entry.{Entry}
use Rattle.fraction128.specs.declared.TableRow.{TableRow}
use Rattle.fraction128.specs.declared.Grid.{Grid}
use Rattle.fraction128.specs.declared.Member.{Member}
use Rattle.fraction128.specs.declared.Line.{Line}
use Rattle.fraction128.specs.Grid.{take, move, pivot, coefficient, column_at, value_at, cell, is_basic, entries_of, row_of, row_value, helps, next_step, after, after_pivot, pivoted_rows, is_above, is_below, MeetsRows}
use Rattle.fraction128.specs.Lines.{sum_value, member_of, basic_member, line_of, pivot_line, members_value, IsIdentity, IsOutside, Helps, IsLeastHelping, IsPivotLine, HaveOthers, IsSeries}
use Rattle.simplex_steps.specs.Law.{row_at, no_row, AreFrom, IsLawful, lines_of, LinesArePivots, LinesGoOn, LinesAreRows, IsNonzeroEntry, IsFreeMember}
use Rattle.simplex_steps.proofs.Spans.{not_same}
use Rattle.simplex_steps.proofs.Bland.{missed_cases, less_is_most, zero_back}
use Rattle.simplex_steps.proofs.Pivots.{basic_at, basic_or_free, row_is}
use Rattle.simplex_steps.proofs.NextStep.{PivotFacts, step_facts}
use Rattle.simplex_steps.proofs.Moments.{Good, IsFree, free_is, cell_is, Turning, turning, left_after}
use Rattle.simplex_steps.proofs.Keeping.{good_of, steps_keep}
use Rattle.simplex_steps.proofs.Spans.{coefficient_positive}

-- ---- entries

pub no_entry : Entry
no_entry = record { variable = 0; coefficient = whole (pos 0) }

-- an entry of a coefficient that isn't 0
found : (es : List Entry) (j : ℕ) → (coefficient es j).numerator ≢ pos 0 → (i : ℕ) × (i < length es) × ((get_or es i no_entry).variable ≡ j) × ((get_or es i no_entry).coefficient ≡ coefficient es j)
found [] j h = absurd (h refl)
found (e ∷ es) j h = by_test (eqb e.variable j) refl (λ w. found es j w) h
  where
    by_test : (z : Bool) → eqb e.variable j ≡ z
        → ((coefficient es j).numerator ≢ pos 0 → (i : ℕ) × (i < length es) × ((get_or es i no_entry).variable ≡ j) × ((get_or es i no_entry).coefficient ≡ coefficient es j))
        → (cond z e.coefficient (coefficient es j)).numerator ≢ pos 0
        → (i : ℕ) × (i < length (e ∷ es)) × ((get_or (e ∷ es) i no_entry).variable ≡ j) × ((get_or (e ∷ es) i no_entry).coefficient ≡ cond z e.coefficient (coefficient es j))
    by_test true w ih p = (zero, omega arith, eqb-true e.variable j w, refl)
    by_test false w ih p = let r = ih p in (suc r.0, let l = r.1 in omega (arith, l), r.2, r.3)

from_at : (i n : ℕ) (es : List Entry) (k : ℕ) → AreFrom i n es → k < length es → (i ≤ (get_or es k no_entry).variable) × ((get_or es k no_entry).variable < n)
from_at i n [] k h lt = absurd (omega (arith, lt))
from_at i n (e ∷ es) zero h lt = (h.0, h.1)
from_at i n (e ∷ es) (suc k) h lt = let r = from_at (e.variable + 1) n es k h.2 (omega (arith, lt)) in (let a = r.0 in let b = h.0 in omega (arith, a, b), r.1)

-- in ascending entries each has the coefficient of its variable
own : (i n : ℕ) (es : List Entry) (k : ℕ) → AreFrom i n es → k < length es → coefficient es (get_or es k no_entry).variable ≡ (get_or es k no_entry).coefficient
own i n [] k h lt = absurd (omega (arith, lt))
own i n (e ∷ es) zero h lt = ap (λ z. cond z e.coefficient (coefficient es e.variable)) (eq-eqb e.variable e.variable refl)
own i n (e ∷ es) (suc k) h lt =
    let r = from_at (e.variable + 1) n es k h.2 (omega (arith, lt)) in
    let apart : eqb e.variable (get_or es k no_entry).variable ≡ false = not_same e.variable (get_or es k no_entry).variable (λ q. let a = r.0 in absurd (omega (arith, a, q))) in
    ap (λ z. cond z e.coefficient (coefficient es (get_or es k no_entry).variable)) apart ∙ own (e.variable + 1) n es k h.2 (omega (arith, lt))

-- ---- the line of a pivot

member_at : (g : Grid) (es : List Entry) (k : ℕ) (d : Member) → k < length es → get_or (map (member_of g) es) k d ≡ member_of g (get_or es k no_entry)
member_at g es k d lt = get_or-map (member_of g) es k no_entry d lt

least_of : (g : Grid) (rises : Bool) (es : List Entry) (c n : ℕ) → AreFrom 0 n es → (coefficient es c).numerator ≢ pos 0 → helps rises (coefficient es c) (column_at g c) ≡ true
    → ((j : ℕ) → j < c → helps rises (coefficient es j) (column_at g j) ≡ false) → IsLeastHelping rises (map (member_of g) es) c
least_of g rises es c n from some willing idle =
    let f = found es c some in
    let i = f.0 in
    let m = member_of g (get_or es i no_entry) in
    record {
      member = m;
      in_row = (i, let e = length-map es (member_of g) in let l = f.1 in omega (arith, e, l), member_at g es i m f.1);
      is = f.2;
      can = ap₂ (λ (x : Ratio) (j : ℕ). helps rises x (column_at g j)) f.3 f.2 ∙ willing;
      least = λ k d lt. later k d (let e = length-map es (member_of g) in omega (arith, e, lt));
    }
  where
    later : (k : ℕ) (d : Member) → k < length es → (get_or (map (member_of g) es) k d).variable < c → Helps rises (get_or (map (member_of g) es) k d) → ⊥
    later k d lt =
        subst (λ (m : Member). m.variable < c → Helps rises m → ⊥) (sym (member_at g es k d lt))
        (λ below h. let j = (get_or es k no_entry).variable in
        let e : helps rises (get_or es k no_entry).coefficient (column_at g j) ≡ false = ap (λ (x : Ratio). helps rises x (column_at g j)) (sym (own 0 n es k from lt)) ∙ idle j below in
        let z : true ≡ false = sym h ∙ e in absurd (cc))

pivot_is : (g : Grid) (b : ℕ) (k : ℤ) (c : ℕ) → IsLawful g → next_step g ≡ Some (pivot b k c) → IsPivotLine (pivot_line g b c)
pivot_is g b k c law next = (basic_member g b, c, refl, refl, (rises, outside, in_line))
  where
    good : Good (length g.columns) g
    good = good_of g law

    f : PivotFacts g b k c
    f = step_facts g (pivot b k c) law.pending law.uncrossed next

    t : Turning (length g.columns) g b c
    t = turning (length g.columns) g b k c good f

    rises : Bool
    rises = is_less (value_at g b) (whole k)

    outside : IsOutside (is_less (value_at g b) (whole k)) (column_at g b)
    outside = by_side (missed_cases (column_at g b) k f.outside)
      where
        by_side : (((column_at g b).lower ≡ Some k) × (is_less (value_at g b) (whole k) ≡ true)) ⊎ (((column_at g b).upper ≡ Some k) × (is_less (whole k) (value_at g b) ≡ true)) → IsOutside (is_less (value_at g b) (whole k)) (column_at g b)
        by_side (inl h) = subst (λ r. IsOutside r (column_at g b)) (sym h.1) (ap (is_below (value_at g b)) h.0 ∙ h.1)
        by_side (inr h) = subst (λ r. IsOutside r (column_at g b)) (sym (less_is_most (whole k) (value_at g b) h.1)) (ap (is_above (value_at g b)) h.0 ∙ h.1)

    es : List Entry
    es = (row_at g.rows t.place).entries

    cell_as : (j : ℕ) → cell g.rows b j ≡ coefficient (row_at g.rows t.place).entries j
    cell_as j = ap (λ q. cell g.rows q j) (sym t.is_place) ∙ cell_is (length g.columns) g.rows t.place j good.shape t.pivot.in_rows

    entries_as : entries_of (row_of g.rows b) ≡ (row_at g.rows t.place).entries
    entries_as = ap (λ q. entries_of (row_of g.rows q)) (sym t.is_place) ∙ ap entries_of (row_is (length g.columns) g.rows t.place good.shape t.pivot.in_rows)

    in_line : IsLeastHelping (is_less (value_at g b) (whole k)) (map (member_of g) (entries_of (row_of g.rows b))) c
    in_line =
        subst (λ xs. IsLeastHelping (is_less (value_at g b) (whole k)) (map (member_of g) xs) c) (sym entries_as)
        (least_of g (is_less (value_at g b) (whole k)) (row_at g.rows t.place).entries c (length g.columns) (good.shape.entries t.place t.pivot.in_rows) t.pivot.some
        (ap (λ x. helps (is_less (value_at g b) (whole k)) x (column_at g c)) (sym (cell_as c)) ∙ f.willing)
        (λ j lt. ap (λ x. helps (is_less (value_at g b) (whole k)) x (column_at g j)) (sym (cell_as j)) ∙ f.idle j lt))

pub lines_are_pivots : LinesArePivots
lines_are_pivots g h [] law runs = λ k d lt. absurd (omega (arith, lt))
lines_are_pivots g h (take p ∷ ss) law runs = absurd (step_facts g (take p) law.pending law.uncrossed runs.0)
lines_are_pivots g h (move i k ∷ ss) law runs = lines_are_pivots (after g (move i k)) h ss (steps_keep g (move i k) law runs.0) runs.1
lines_are_pivots g h (pivot b k c ∷ ss) law runs = each (lines_are_pivots (after g (pivot b k c)) h ss (steps_keep g (pivot b k c) law runs.0) runs.1)
  where
    each : All IsPivotLine (lines_of (after g (pivot b k c)) ss) → (m : ℕ) (d : Line) → m < length (lines_of g (pivot b k c ∷ ss)) → IsPivotLine (get_or (lines_of g (pivot b k c ∷ ss)) m d)
    each ih zero d lt = pivot_is g b k c law runs.0
    each ih (suc m) d lt = ih m d (omega (arith, lt))

-- ---- neighbours

some_back : {A : Type 0} (x y : A) → Some x ≡ Some y → x ≡ y
some_back x y e = cc

one_more : (rows rows' : List TableRow) (ls : List Line) (l : Line) (b : Member) → l.basic ≡ Some b → is_basic rows b.variable ≡ true → is_basic rows' b.variable ≡ false → IsSeries rows ls → IsSeries rows' (ls ++ l ∷ [])
one_more rows rows' [] l b e was isnt h = (λ x q. ap (λ (m : Member). is_basic rows' m.variable) (some_back x b (sym q ∙ e)) ∙ isnt, tt)
one_more rows rows' (m ∷ []) l b e was isnt h = (last, one_more rows rows' [] l b e was isnt tt)
  where
    last : HaveOthers m l
    last x y p q s =
        let is : y ≡ b = some_back y b (sym q ∙ e) in
        let z : true ≡ false = sym was ∙ ap (λ (w : Member). is_basic rows w.variable) (sym is) ∙ ap (is_basic rows) (sym s) ∙ h.0 x p in absurd (cc)
one_more rows rows' (m ∷ o ∷ ls) l b e was isnt h = (h.0, one_more rows rows' (o ∷ ls) l b e was isnt h.1)

-- what leaves isn't basic afterwards
left : (g : Grid) (b : ℕ) (k : ℤ) (c : ℕ) → IsLawful g → next_step g ≡ Some (pivot b k c) → is_basic (after_pivot g b k c).rows b ≡ false
left g b k c law next = free_is (pivoted_rows (length g.columns) g.rows b c) b (left_after (length g.columns) g b c good (turning (length g.columns) g b k c good f))
  where
    good : Good (length g.columns) g
    good = good_of g law

    f : PivotFacts g b k c
    f = step_facts g (pivot b k c) law.pending law.uncrossed next

pub lines_go_on : LinesGoOn
lines_go_on g h [] ls law runs series = subst (IsSeries h.rows) (sym (nothing_after ls)) (subst (λ (x : Grid). IsSeries x.rows ls) runs series)
  where
    nothing_after : (xs : List Line) → xs ++ [] ≡ xs
    nothing_after [] = refl
    nothing_after (x ∷ xs) = ap (λ ys. x ∷ ys) (nothing_after xs)
lines_go_on g h (take p ∷ ss) ls law runs series = absurd (step_facts g (take p) law.pending law.uncrossed runs.0)
lines_go_on g h (move i k ∷ ss) ls law runs series = lines_go_on (after g (move i k)) h ss ls (steps_keep g (move i k) law runs.0) runs.1 series
lines_go_on g h (pivot b k c ∷ ss) ls law runs series =
    subst (IsSeries h.rows) (append_assoc ls (pivot_line g b c ∷ []) (lines_of (after g (pivot b k c)) ss))
    (lines_go_on (after g (pivot b k c)) h ss (ls ++ pivot_line g b c ∷ []) (steps_keep g (pivot b k c) law runs.0) runs.1
    (one_more g.rows (after g (pivot b k c)).rows ls (pivot_line g b c) (basic_member g b) refl (step_facts g (pivot b k c) law.pending law.uncrossed runs.0).basic (left g b k c law runs.0) series))

-- ---- lines as rows

sum_along : (g : Grid) (v : ℕ → Ratio) (f : Member → Ratio) → ((e : Entry) → f (member_of g e) ≡ v e.variable) → (es : List Entry) → members_value f (map (member_of g) es) ≡ row_value v es
sum_along g v f h [] = refl
sum_along g v f h (e ∷ es) = ap₂ (λ x y. unreduced_sum (unreduced_product e.coefficient x) y) (h e) (sum_along g v f h es)

pub lines_are_rows : LinesAreRows
lines_are_rows g b moves law basic identities nonzero = by_kind (basic_or_free g.rows b)
  where
    good : Good (length g.columns) g
    good = good_of g law

    met : (v : ℕ → Ratio) (m : ℕ) → m < length g.rows → basic_at g.rows m ≡ b → MeetsRows g.rows v → SameNumber (v b) (row_value v (entries_of (row_of g.rows b)))
    met v m lt is h =
        subst (λ xs. SameNumber (v b) (row_value v xs)) (sym (ap (λ q. entries_of (row_of g.rows q)) (sym is) ∙ ap entries_of (row_is (length g.columns) g.rows m good.shape lt)))
        (subst (λ q. SameNumber (v q) (row_value v (row_at g.rows m).entries)) is (h m no_row lt))

    free_entry : (m : ℕ) (es : List Entry) → m < length g.rows → es ≡ (row_at g.rows m).entries → All IsNonzeroEntry es → (k : ℕ) → k < length es → IsFree g.rows (get_or es k no_entry).variable
    free_entry m es lm is some k lt j lj e =
        let from = subst (AreFrom 0 (length g.columns)) (sym is) (good.shape.entries m lm) in
        let none : (coefficient (row_at g.rows m).entries (basic_at g.rows j)).numerator ≡ pos 0 =
        zero_back (coefficient (row_at g.rows m).entries (basic_at g.rows j)) (coefficient_positive (row_at g.rows m).entries (basic_at g.rows j) (good.shape.positive m lm)) (good.shape.separate j m lj lm) in
        let same : coefficient es (get_or es k no_entry).variable ≡ coefficient (row_at g.rows m).entries (basic_at g.rows j) = ap₂ coefficient is (sym e) in
        let zero_here : (get_or es k no_entry).coefficient.numerator ≡ pos 0 = ap (λ (x : Ratio). x.numerator) (sym (own 0 (length g.columns) es k from lt) ∙ same) ∙ none in
        let z : true ≡ false = sym (eq-eqb _ 0 (ap unsigned_abs zero_here)) ∙ some k no_entry lt in absurd (cc)

    by_kind : ((m : ℕ) × (m < length g.rows) × (basic_at g.rows m ≡ b)) ⊎ IsFree g.rows b → IsIdentity (basic_member g b) (line_of g b moves).entries × All (IsFreeMember g) (line_of g b moves).entries
    by_kind (inr free) = absurd (let z : true ≡ false = sym basic ∙ free_is g.rows b free in cc)
    by_kind (inl m) = (
      record {
        identity = λ w p. subst (SameNumber (sum_value w (column_at g b).sum)) (sym (sum_along g (λ i. sum_value w (column_at g i).sum) (λ x. sum_value w x.column.sum) (λ e. refl) (entries_of (row_of g.rows b))))
            (met (λ i. sum_value w (column_at g i).sum) m.0 m.1 m.2 (identities w p));
        meets = subst (SameNumber (value_at g b)) (sym (sum_along g (value_at g) (λ x. x.column.value) (λ e. refl) (entries_of (row_of g.rows b)))) (met (value_at g) m.0 m.1 m.2 law.meets);
      },
      members,
    )
      where
        as_row : entries_of (row_of g.rows b) ≡ (row_at g.rows m.0).entries
        as_row = ap (λ q. entries_of (row_of g.rows q)) (sym m.2) ∙ ap entries_of (row_is (length g.columns) g.rows m.0 good.shape m.1)

        members : (k : ℕ) (d : Member) → k < length (map (member_of g) (entries_of (row_of g.rows b))) → IsFreeMember g (get_or (map (member_of g) (entries_of (row_of g.rows b))) k d)
        members k d lt' =
            let es = entries_of (row_of g.rows b) in
            let lt : k < length es = let e = length-map es (member_of g) in omega (arith, e, lt') in
            subst (IsFreeMember g) (sym (member_at g es k d lt))
            (record {
              known = (from_at 0 (length g.columns) es k (subst (AreFrom 0 (length g.columns)) (sym as_row) (good.shape.entries m.0 m.1)) lt).1;
              free = free_is g.rows (get_or es k no_entry).variable (free_entry m.0 es m.1 as_row nonzero k lt);
              column = refl;
            })
