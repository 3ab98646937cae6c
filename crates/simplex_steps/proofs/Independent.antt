-- Sums of variables that aren't basic: independent exactly where each solution of the rows comes from values of the terms.
use Rattle.std.proofs.Common.{◌≡◌, ◌≢◌, ℕ, zero, suc, ◌+◌, ◌*◌, ◌<◌, ◌⊎◌, inl, inr, sym, ap, ap₂, ◌∙◌, subst, refl, arith, List, [], ◌∷◌, length, get_or, Bool, true, false, cond, eqb, eqb-true, Option, Some, None}
use Rattle.std.proofs.lemmas.List.{get_or_default}
use Rattle.fraction128.specs.declared.ratio.Ratio.{Ratio}
use Rattle.fraction128.specs.Number.{SameNumber, unreduced_sum, unreduced_product}
use Rattle.fraction128.proofs.LowestTerms.{pos_times}
use Rattle.fraction128.proofs.RingEquations.{var, product, nothing, solve}
use Rattle.fraction128.proofs.RationalRing.{Rational, number, number_eq, number_back, rational_product, rational_zero, rationals}
use Rattle.fraction128.specs.declared.Entry.{Entry}
use Rattle.fraction128.specs.declared.TableRow.{TableRow}
use Rattle.fraction128.specs.declared.Column.{Column}
use Rattle.fraction128.specs.declared.Grid.{Grid}
use Rattle.fraction128.specs.declared.Summand.{Summand}
use Rattle.fraction128.specs.Grid.{take, move, pivot, column_at, is_basic, is_some, row_of, row_value, after_pivot, after_move, pivoted_rows, pivoted_value, moved_value, with_values, MeetsRow, MeetsRows}
use Rattle.fraction128.specs.Lines.{sum_value, IsPositive, AreIndependent, HasBasis, exchanged, pivot_line}
use Rattle.fraction128.proofs.RowValue as RowValue
use Rattle.simplex_steps.specs.Law.{row_at, no_row, AreIdentities, ComeFromTerms, SolutionsAreFree, FreeAreSolutions, PivotsKeepFree, MovesKeepFree, PivotsExchange, RunsExchange}
use Rattle.simplex_steps.proofs.Spans.{span_same, dot_coefficients, differs}
use Rattle.simplex_steps.proofs.Pivots.{entry_at, basic_at, Shape, Solves, row_is, row_lacks, basic_or_free, length_after, solves_after, solves_before}
use Rattle.simplex_steps.proofs.NextStep.{col, step_facts}
use Rattle.simplex_steps.proofs.Moments.{Good, IsFree, free_is, is_free, Turning, entered_at, others_stay, free_after, turning, good_after, length_with}
use Rattle.simplex_steps.proofs.Keeping.{good_of, steps_keep}
use Rattle.simplex_steps.proofs.Short.{shape_of}

-- ---- values and rows

pub sum_positive : (w : ℕ → Ratio) (ps : List Summand) → IsPositive w → 0 < (sum_value w ps).denominator
sum_positive w [] h = omega arith
sum_positive w (p ∷ ps) h = pos_times (1 * (w p.term).denominator) (sum_value w ps).denominator (pos_times 1 (w p.term).denominator (omega arith) (h p.term)) (sum_positive w ps h)

-- rows met by values are solved by their numbers, and the other way round
pub to_solves : (n : ℕ) (rows : List TableRow) (v : ℕ → Ratio) → Shape n rows → IsPositive v → MeetsRows rows v → Solves n rows (λ i. number (v i))
to_solves n rows v s fv met k lk =
    RowValue.meets_to v (row_at rows k) fv (s.positive k lk) (met k no_row lk) ∙ dot_coefficients 0 n (row_at rows k).entries (λ i. number (v i)) (s.entries k lk)

from_solves : (n : ℕ) (rows : List TableRow) (v : ℕ → Ratio) → Shape n rows → IsPositive v → Solves n rows (λ i. number (v i)) → MeetsRows rows v
from_solves n rows v s fv solves k d lk =
    subst (MeetsRow v) (get_or_default rows k no_row d lk)
    (RowValue.meets_from v (row_at rows k) fv (s.positive k lk) (solves k lk ∙ sym (dot_coefficients 0 n (row_at rows k).entries (λ i. number (v i)) (s.entries k lk))))

-- ---- values of what isn't basic, and by the rows of the rest

abbrev by_row : (ℕ → Ratio) → Option TableRow → ℕ → Ratio
by_row v (Some r) i = row_value v r.entries
by_row v None i = v i

abbrev extended : List TableRow → (ℕ → Ratio) → ℕ → Ratio
extended rows v i = by_row v (row_of rows i) i

module _ (n : ℕ) (rows : List TableRow) (v : ℕ → Ratio) (s : Shape n rows) (fv : IsPositive v) where
  at_basic : (k : ℕ) → k < length rows → extended rows v (basic_at rows k) ≡ row_value v (row_at rows k).entries
  at_basic k lk = ap (λ o. by_row v o (basic_at rows k)) (row_is n rows k s lk)

  at_free : (i : ℕ) → IsFree rows i → extended rows v i ≡ v i
  at_free i free = ap (λ o. by_row v o i) (row_lacks rows i free)

  extended_positive : IsPositive (extended rows v)
  extended_positive i = by (basic_or_free rows i)
    where
      by : ((k : ℕ) × (k < length rows) × (basic_at rows k ≡ i)) ⊎ IsFree rows i → 0 < (extended rows v i).denominator
      by (inl m) =
          subst (λ j. 0 < (extended rows v j).denominator) m.2
          (subst (λ (x : Ratio). 0 < x.denominator) (sym (at_basic m.0 m.1)) (RowValue.row_value_positive v (row_at rows m.0).entries fv (s.positive m.0 m.1)))
      by (inr free) = subst (λ (x : Ratio). 0 < x.denominator) (sym (at_free i free)) (fv i)

  extended_solves : Solves n rows (λ i. number (extended rows v i))
  extended_solves k lk =
      ap number (at_basic k lk) ∙ RowValue.number_row_value v (row_at rows k).entries fv (s.positive k lk) ∙ dot_coefficients 0 n (row_at rows k).entries (λ i. number (v i)) (s.entries k lk)
      ∙ span_same 0 n (λ j. rational_product (entry_at rows k j) (number (v j))) (λ j. rational_product (entry_at rows k j) (number (extended rows v j))) (λ j l h. same j (basic_or_free rows j))
    where
      same : (j : ℕ) → ((m : ℕ) × (m < length rows) × (basic_at rows m ≡ j)) ⊎ IsFree rows j → rational_product (entry_at rows k j) (number (v j)) ≡ rational_product (entry_at rows k j) (number (extended rows v j))
      same j (inl m) =
          let gone : entry_at rows k j ≡ rational_zero = ap (entry_at rows k) (sym m.2) ∙ s.separate m.0 k m.1 lk in
          ap (λ x. rational_product x (number (v j))) gone
          ∙ solve rationals (number (v j) ∷ number (extended rows v j) ∷ []) (product nothing (var 0)) (product nothing (var 1)) refl
          ∙ ap (λ x. rational_product x (number (extended rows v j))) (sym gone)
      same j (inr free) = ap (λ x. rational_product (entry_at rows k j) (number x)) (sym (at_free j free))

free_of_shape : (g : Grid) → Shape (length g.columns) g.rows → ComeFromTerms g → AreIndependent g
free_of_shape g s come v fv =
    let c = come (extended g.rows v) (extended_positive (length g.columns) g.rows v s fv) (from_solves (length g.columns) g.rows (extended g.rows v) s (extended_positive (length g.columns) g.rows v s fv) (extended_solves (length g.columns) g.rows v s fv)) in
    (c.0, c.1, λ i lt free. subst (SameNumber (sum_value c.0 (column_at g i).sum)) (at_free (length g.columns) g.rows v s fv i (is_free (length g.columns) g.rows i s free)) (c.2 i lt))

pub solutions_are_free : SolutionsAreFree
solutions_are_free g is come = free_of_shape g (shape_of g is) come

-- ---- solutions from independent sums

-- solutions of the rows that agree on what isn't basic are the same
agree : (n : ℕ) (rows : List TableRow) (U V : ℕ → Rational) → Shape n rows → Solves n rows U → Solves n rows V → ((j : ℕ) → j < n → IsFree rows j → U j ≡ V j) → (i : ℕ) → i < n → U i ≡ V i
agree n rows U V s us vs same i lt = by (basic_or_free rows i)
  where
    by : ((k : ℕ) × (k < length rows) × (basic_at rows k ≡ i)) ⊎ IsFree rows i → U i ≡ V i
    by (inr free) = same i lt free
    by (inl m) =
        subst (λ j. U j ≡ V j) m.2
        (us m.0 m.1
        ∙ span_same 0 n (λ j. rational_product (entry_at rows m.0 j) (U j)) (λ j. rational_product (entry_at rows m.0 j) (V j)) (λ j l h. each j (omega (arith, h)) (basic_or_free rows j))
        ∙ sym (vs m.0 m.1))
      where
        each : (j : ℕ) → j < n → ((k : ℕ) × (k < length rows) × (basic_at rows k ≡ j)) ⊎ IsFree rows j → rational_product (entry_at rows m.0 j) (U j) ≡ rational_product (entry_at rows m.0 j) (V j)
        each j lj (inl o) =
            let gone : entry_at rows m.0 j ≡ rational_zero = ap (entry_at rows m.0) (sym o.2) ∙ s.separate o.0 m.0 o.1 m.1 in
            ap (λ x. rational_product x (U j)) gone ∙ solve rationals (U j ∷ V j ∷ []) (product nothing (var 0)) (product nothing (var 1)) refl ∙ ap (λ x. rational_product x (V j)) (sym gone)
        each j lj (inr free) = ap (rational_product (entry_at rows m.0 j)) (same j lj free)

come_of_shape : (g : Grid) → Shape (length g.columns) g.rows → AreIdentities g → AreIndependent g → ComeFromTerms g
come_of_shape g s identities free v fv met =
    let n = length g.columns in
    let w = free v fv in
    let u : ℕ → Ratio = λ i. sum_value w.0 (column_at g i).sum in
    let fu : IsPositive u = λ i. sum_positive w.0 (column_at g i).sum w.1 in
    let same : (i : ℕ) → i < n → number (u i) ≡ number (v i) =
    agree n g.rows (λ i. number (u i)) (λ i. number (v i)) s (to_solves n g.rows u s fu (identities w.0 w.1)) (to_solves n g.rows v s fv met)
    (λ j lj f. number_eq (u j) (v j) (fu j) (fv j) (w.2 j lj (free_is g.rows j f))) in
    (w.0, w.1, λ i lt. number_back (u i) (v i) (fu i) (fv i) (same i lt))

pub free_are_solutions : FreeAreSolutions
free_are_solutions g is identities free = come_of_shape g (shape_of g is) identities free

-- ---- next steps

sum_with : (f : ℕ → Ratio) (i : ℕ) (cs : List Column) (j : ℕ) → (col (with_values f i cs) j).sum ≡ (col cs j).sum
sum_with f i [] j = refl
sum_with f i (c ∷ cs) zero = refl
sum_with f i (c ∷ cs) (suc j) = sum_with f (i + 1) cs j

row_same : (v w : ℕ → Ratio) (es : List Entry) → ((i : ℕ) → v i ≡ w i) → row_value v es ≡ row_value w es
row_same v w [] h = refl
row_same v w (e ∷ es) h = ap₂ (λ x y. unreduced_sum (unreduced_product e.coefficient x) y) (h e.variable) (row_same v w es h)

pub rows_same : (rows : List TableRow) (v w : ℕ → Ratio) → ((i : ℕ) → v i ≡ w i) → MeetsRows rows v → MeetsRows rows w
rows_same rows v w h met k d lt =
    let r = get_or rows k d in
    subst (λ x. SameNumber x (row_value w r.entries)) (h r.basic) (subst (SameNumber (v r.basic)) (row_same v w r.entries h) (met k d lt))

module _ (g : Grid) (f : ℕ → Ratio) (rows : List TableRow) where
  -- other values and rows
  abbrev changed : Grid
  changed = record { columns = with_values f 0 g.columns; rows = rows; pending = g.pending }

  sums_stay : (w : ℕ → Ratio) (i : ℕ) → sum_value w (column_at g i).sum ≡ sum_value w (column_at changed i).sum
  sums_stay w i = ap (sum_value w) (sym (sum_with f 0 g.columns i))

  inside : (i : ℕ) → i < length changed.columns → i < length g.columns
  inside i lt = subst (λ n. i < n) (length_with f 0 g.columns) lt

  identities_changed : ((v : ℕ → Ratio) → IsPositive v → MeetsRows g.rows v → MeetsRows rows v) → AreIdentities g → AreIdentities changed
  identities_changed keeps identities w fw =
      rows_same rows (λ i. sum_value w (column_at g i).sum) (λ i. sum_value w (column_at changed i).sum) (sums_stay w)
      (keeps (λ i. sum_value w (column_at g i).sum) (λ i. sum_positive w (column_at g i).sum fw) (identities w fw))

  come_changed : ((v : ℕ → Ratio) → IsPositive v → MeetsRows rows v → MeetsRows g.rows v) → ComeFromTerms g → ComeFromTerms changed
  come_changed keeps come v fv met =
      let c = come v fv (keeps v fv met) in (c.0, c.1, λ i lt. subst (λ x. SameNumber x (v i)) (sums_stay c.0 i) (c.2 i (inside i lt)))

pub moves_keep_free : MovesKeepFree
moves_keep_free g i k identities free = (
  identities_changed g (moved_value g i k) g.rows (λ v fv met. met) identities,
  λ v fv. let w = free v fv in
      (w.0, w.1, λ j lt f. subst (λ x. SameNumber x (v j)) (sums_stay g (moved_value g i k) g.rows w.0 j) (w.2 j (inside g (moved_value g i k) g.rows j lt) f)),
)

pub pivots_keep_free : PivotsKeepFree
pivots_keep_free g b k c law next identities free = (
  identities_changed g (pivoted_value g b k c) (pivoted_rows n g.rows b c) forth identities,
  free_of_shape (after_pivot g b k c) (subst (λ m. Shape m (after_pivot g b k c).rows) (sym later.count) later.shape)
      (come_changed g (pivoted_value g b k c) (pivoted_rows n g.rows b c) back (come_of_shape g good.shape identities free)),
)
  where
    n : ℕ
    n = length g.columns

    good : Good n g
    good = good_of g law

    t : Turning n g b c
    t = turning n g b k c good (step_facts g (pivot b k c) law.pending law.uncrossed next)

    later : Good n (after_pivot g b k c)
    later = good_after n g b k c good t

    forth : (v : ℕ → Ratio) → IsPositive v → MeetsRows g.rows v → MeetsRows (pivoted_rows n g.rows b c) v
    forth v fv met =
        from_solves n (pivoted_rows n g.rows b c) v later.shape fv
        (subst (λ i. Solves n (pivoted_rows n g.rows i c) (λ j. number (v j))) t.is_place (solves_after n g.rows t.place c (λ j. number (v j)) good.shape t.pivot (to_solves n g.rows v good.shape fv met)))

    back : (v : ℕ → Ratio) → IsPositive v → MeetsRows (pivoted_rows n g.rows b c) v → MeetsRows g.rows v
    back v fv met =
        from_solves n g.rows v good.shape fv
        (solves_before n g.rows t.place c (λ j. number (v j)) good.shape t.pivot
        (subst (λ i. Solves n (pivoted_rows n g.rows i c) (λ j. number (v j))) (sym t.is_place) (to_solves n (pivoted_rows n g.rows b c) v later.shape fv met)))

-- ---- which variables are basic

pub basic_is : (n : ℕ) (rows : List TableRow) (k : ℕ) → Shape n rows → k < length rows → is_basic rows (basic_at rows k) ≡ true
basic_is n rows k s lt = ap is_some (row_is n rows k s lt)

pub pivots_exchange : PivotsExchange
pivots_exchange g b k c is law next has i lt = by_entering (eqb i c) refl
  where
    n : ℕ
    n = length g.columns

    good : Good n g
    good = good_of g law

    t : Turning n g b c
    t = turning n g b k c good (step_facts g (pivot b k c) law.pending law.uncrossed next)

    later : Good n (after_pivot g b k c)
    later = good_after n g b k c good t

    rows : List TableRow
    rows = pivoted_rows n g.rows b c

    inside : i < n
    inside = subst (λ m. i < m) later.count lt

    place : t.place < length (pivoted_rows n g.rows b c)
    place = subst (λ m. t.place < m) (sym (length_after n g.rows b c)) t.pivot.in_rows

    by_leaving : (z : Bool) → eqb i b ≡ z → i ≢ c → is_basic (pivoted_rows n g.rows b c) i ≡ cond z false (is i)
    by_leaving true e other = free_is (pivoted_rows n g.rows b c) i (free_after n g b c i good t other (λ m lm ne w. ne (w ∙ eqb-true i b e)))
    by_leaving false e other = by (basic_or_free g.rows i) ∙ has i inside
      where
        by : ((m : ℕ) × (m < length g.rows) × (basic_at g.rows m ≡ i)) ⊎ IsFree g.rows i → is_basic (pivoted_rows n g.rows b c) i ≡ is_basic g.rows i
        by (inl m) =
            let ne : basic_at g.rows m.0 ≢ b = λ q. differs i b e (sym m.2 ∙ q) in
            ap (is_basic (pivoted_rows n g.rows b c)) (sym (others_stay n g b c t m.0 m.1 ne ∙ m.2))
            ∙ basic_is n (pivoted_rows n g.rows b c) m.0 later.shape (subst (λ q. m.0 < q) (sym (length_after n g.rows b c)) m.1)
            ∙ sym (ap (is_basic g.rows) (sym m.2) ∙ basic_is n g.rows m.0 good.shape m.1)
        by (inr free) = free_is (pivoted_rows n g.rows b c) i (free_after n g b c i good t other (λ m lm ne. free m lm)) ∙ sym (free_is g.rows i free)

    by_entering : (z : Bool) → eqb i c ≡ z → is_basic (pivoted_rows n g.rows b c) i ≡ cond (eqb i c) true (cond (eqb i b) false (is i))
    by_entering true e =
        ap (is_basic (pivoted_rows n g.rows b c)) (eqb-true i c e ∙ sym (entered_at n g b c t)) ∙ basic_is n (pivoted_rows n g.rows b c) t.place later.shape place
        ∙ ap (λ z. cond z true (cond (eqb i b) false (is i))) (sym e)
    by_entering false e = by_leaving (eqb i b) refl (differs i c e) ∙ ap (λ z. cond z true (cond (eqb i b) false (is i))) (sym e)

pub runs_exchange : RunsExchange
runs_exchange g h [] is law runs has = subst (HasBasis is) runs has
runs_exchange g h (take p ∷ ss) is law runs has = absurd (step_facts g (take p) law.pending law.uncrossed runs.0)
runs_exchange g h (move i k ∷ ss) is law runs has =
    runs_exchange (after_move g i k) h ss is (steps_keep g (move i k) law runs.0) runs.1 (λ j lt. has j (subst (λ n. j < n) (length_with (moved_value g i k) 0 g.columns) lt))
runs_exchange g h (pivot b k c ∷ ss) is law runs has =
    runs_exchange (after_pivot g b k c) h ss (exchanged (pivot_line g b c) is) (steps_keep g (pivot b k c) law runs.0) runs.1 (pivots_exchange g b k c is law runs.0 has)
