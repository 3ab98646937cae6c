-- Columns keep the meaning of their sums.
use Rattle.std.proofs.Common.{◌≡◌, ℕ, zero, suc, ◌<◌, ◌≤◌, ◌⊎◌, inl, inr, sym, ap, ap₂, ◌∙◌, subst, refl, arith, List, [], ◌∷◌, ◌++◌, length, get_or, length-append}
use Rattle.std.proofs.lemmas.List.{get_or_append_left, get_or_push, get_or_default}
use Rattle.std.proofs.lemmas.Bool.{cases_lt}
use Rattle.fraction128.specs.declared.ratio.Ratio.{Ratio}
use Rattle.fraction128.specs.Number.{whole, SameNumber, unreduced_sum, unreduced_product}
use Rattle.fraction128.proofs.RationalRing.{Rational, number, number_eq, number_back, rational_sum, rational_product}
use Rattle.fraction128.specs.declared.Entry.{Entry}
use Rattle.fraction128.specs.declared.Summand.{Summand}
use Rattle.fraction128.specs.declared.TableRow.{TableRow}
use Rattle.fraction128.specs.declared.Column.{Column}
use Rattle.fraction128.specs.Grid.{row_value, MeetsRow, MeetsRows, leaf}
use Rattle.fraction128.proofs.RowValue.{meets_to, meets_from}
use Rattle.tableau.specs.declared.sum.Part.{Part}
use Rattle.tableau.specs.Table.{Table, IsTable, row_at, no_row}
use Rattle.tableau.specs.Written.{AreParts, parts_row}
use Rattle.tableau.proofs.Coefficients.{Below}
use Rattle.tableau.proofs.PivotedRows.{below_all}
use Rattle.simplex_steps.specs.State.{column_in, no_column}
use Rattle.fraction128.specs.Lines.{sum_value, IsPositive}
use Rattle.simplex.specs.Sums.{column_values, AgreeOnLeaves, IsMeant, AreMatched, NoneMean, LeavesKeep, RowsKeep, RunsKeep}
use Rattle.fraction128.proofs.SumValues.{terms_dot, sum_positive_value, number_sum_value, number_leaf}
use Rattle.simplex.proofs.WrittenSums.{parts_dot, row_positive, row_dot}
use Rattle.simplex_steps.proofs.Independent.{rows_same}

-- ---- rows whose variables have the same values

row_below : (v w : ℕ → Ratio) (n : ℕ) (es : List Entry) → Below n es → ((i : ℕ) → i < n → v i ≡ w i) → row_value v es ≡ row_value w es
row_below v w n [] b h = refl
row_below v w n (e ∷ es) b h = ap₂ (λ x y. unreduced_sum (unreduced_product e.coefficient x) y) (h e.variable b.0) (row_below v w n es b.1 h)

rows_below : (t : Table) (v w : ℕ → Ratio) → IsTable t → ((i : ℕ) → i < t.count → v i ≡ w i) → MeetsRows t.rows v → MeetsRows t.rows w
rows_below t v w facts same met k d lt =
    let r = row_at t.rows k in
    subst (MeetsRow w) (get_or_default t.rows k no_row d lt)
    (subst (λ x. SameNumber x (row_value w r.entries)) (same r.basic (facts.basics k lt))
    (subst (SameNumber (v r.basic)) (row_below v w t.count r.entries (below_all t.count r.entries (λ j le. facts.known j k le lt)) same) (met k no_row lt)))

-- ---- one more column

before_end : (cs : List Column) (c : Column) (i : ℕ) → i < length cs → column_in (cs ++ c ∷ []) i ≡ column_in cs i
before_end cs c i lt = get_or_append_left cs (c ∷ []) no_column i lt

at_end : (cs : List Column) (c : Column) (i : ℕ) → length cs ≡ i → column_in (cs ++ c ∷ []) i ≡ c
at_end cs c i e = get_or_push cs c no_column i e

column_positive : (w : ℕ → Ratio) (cs : List Column) → IsPositive w → IsPositive (column_values w cs)
column_positive w cs h i = sum_positive_value w (column_in cs i).sum h

old_solved : (t : Table) (cs : List Column) (c : Column) (w : ℕ → Ratio) → IsTable t → length cs ≡ t.count → IsMeant t.rows cs → IsPositive w → MeetsRows t.rows (column_values w (cs ++ c ∷ []))
old_solved t cs c w facts count h fw =
    rows_below t (column_values w cs) (column_values w (cs ++ c ∷ [])) facts
    (λ i lt. ap (λ (x : Column). sum_value w x.sum) (sym (before_end cs c i (omega (arith, lt, count))))) (h.solved w fw)

old_leaves : (cs : List Column) (c : Column) (v w : ℕ → Ratio) → AgreeOnLeaves (cs ++ c ∷ []) v w → AgreeOnLeaves cs v w
old_leaves cs c v w agree j term lt e =
    agree j term (omega (arith, lt, length-append cs (c ∷ []))) (ap (λ (x : Column). x.sum) (before_end cs c j lt) ∙ e)

pub none_mean : NoneMean
none_mean = record { solved = λ w fw k d lt. absurd (omega (arith, lt)); determined = λ v w fv fw met agree i lt. absurd (omega (arith, lt)) }

pub leaves_keep : LeavesKeep
leaves_keep t cs c term facts count h is =
    record {
      solved = λ w fw. old_solved t cs c w facts count h fw;
      determined = λ v w fv fw met agree i lt. by_order v w fv fw met agree i lt (cases_lt i (length cs));
    }
  where
    by_order : (v w : ℕ → Ratio) → IsPositive v → IsPositive w → MeetsRows t.rows v → AgreeOnLeaves (cs ++ c ∷ []) v w → (i : ℕ) → i < length (cs ++ c ∷ []) → (i < length cs) ⊎ (length cs ≤ i)
        → SameNumber (v i) (column_values w (cs ++ c ∷ []) i)
    by_order v w fv fw met agree i lt (inl l) =
        subst (λ (x : Column). SameNumber (v i) (sum_value w x.sum)) (sym (before_end cs c i l)) (h.determined v w fv fw met (old_leaves cs c v w agree) i l)
    by_order v w fv fw met agree i lt (inr le) =
        let e : length cs ≡ i = omega (arith, lt, le, length-append cs (c ∷ [])) in
        let same : SameNumber (v i) (w term) = agree i term lt (ap (λ (x : Column). x.sum) (at_end cs c i e) ∙ is) in
        subst (λ (x : Column). SameNumber (v i) (sum_value w x.sum)) (sym (at_end cs c i e))
        (subst (λ ps. SameNumber (v i) (sum_value w ps)) (sym is)
        (number_back (v i) (sum_value w (leaf term)) (fv i) (sum_positive_value w (leaf term) fw) (number_eq (v i) (w term) (fv i) (fw term) same ∙ sym (number_leaf w term fw))))

-- ---- one more row

matched_dot : (cs : List Column) (n : ℕ) (V W : ℕ → Rational) (ps : List Summand) (qs : List Part) → AreMatched cs ps qs → AreParts n qs → ((j term : ℕ) → j < n → (column_in cs j).sum ≡ leaf term → V j ≡ W term)
    → parts_dot V qs ≡ terms_dot W ps
matched_dot cs n V W [] [] m parts h = refl
matched_dot cs n V W [] (q ∷ qs) m parts h = absurd m
matched_dot cs n V W (p ∷ ps) [] m parts h = absurd m
matched_dot cs n V W (p ∷ ps) (q ∷ qs) m parts h =
    ap₂ rational_sum (ap₂ rational_product (ap (λ z. number (whole z)) m.0) (h q.variable p.term (parts zero (omega arith)).known m.1))
    (matched_dot cs n V W ps qs m.2 (λ k lt. parts (suc k) (omega (arith, lt))) h)

pub rows_keep : RowsKeep
rows_keep t cs c parts facts count h are matched =
    record {
      solved = λ w fw k d lt. by_place w fw k d lt (cases_lt k (length t.rows));
      determined = λ v w fv fw met agree i lt. by_order v w fv fw met agree i lt (cases_lt i (length cs));
    }
  where
    r : TableRow
    r = parts_row t.count t.rows parts

    all : List Column
    all = cs ++ c ∷ []

    new_row : (w : ℕ → Ratio) → IsPositive w → MeetsRow (column_values w all) r
    new_row w fw =
        let v = column_values w all in
        let fv = column_positive w all fw in
        meets_from v r fv (row_positive t parts facts)
        (ap number (ap (λ (x : Column). sum_value w x.sum) (at_end cs c t.count count)) ∙ number_sum_value w c.sum fw
        ∙ sym (matched_dot cs t.count (λ i. number (v i)) (λ i. number (w i)) c.sum parts matched are
        (λ j term lt e. ap number (ap (λ (x : Column). sum_value w x.sum) (before_end cs c j (omega (arith, lt, count))) ∙ ap (sum_value w) e) ∙ number_leaf w term fw))
        ∙ sym (row_dot t v parts facts fv (old_solved t cs c w facts count h fw) are))

    by_place : (w : ℕ → Ratio) → IsPositive w → (k : ℕ) (d : TableRow) → k < length (t.rows ++ r ∷ []) → (k < length t.rows) ⊎ (length t.rows ≤ k) → MeetsRow (column_values w all) (get_or (t.rows ++ r ∷ []) k d)
    by_place w fw k d lt (inl l) = subst (MeetsRow (column_values w all)) (sym (get_or_append_left t.rows (r ∷ []) d k l)) (old_solved t cs c w facts count h fw k d l)
    by_place w fw k d lt (inr le) =
        subst (MeetsRow (column_values w all)) (sym (get_or_push t.rows r d k (let e : length t.rows ≡ k = omega (arith, lt, le, length-append t.rows (r ∷ [])) in e))) (new_row w fw)

    old_met : (v : ℕ → Ratio) → MeetsRows (t.rows ++ r ∷ []) v → MeetsRows t.rows v
    old_met v met k d lt = subst (MeetsRow v) (get_or_append_left t.rows (r ∷ []) d k lt) (met k d (omega (arith, lt, length-append t.rows (r ∷ []))))

    row_met : (v : ℕ → Ratio) → MeetsRows (t.rows ++ r ∷ []) v → MeetsRow v r
    row_met v met = subst (MeetsRow v) (get_or_push t.rows r no_row (length t.rows) refl) (met (length t.rows) no_row (omega (arith, length-append t.rows (r ∷ []))))

    by_order : (v w : ℕ → Ratio) → IsPositive v → IsPositive w → MeetsRows (t.rows ++ r ∷ []) v → AgreeOnLeaves all v w → (i : ℕ) → i < length all → (i < length cs) ⊎ (length cs ≤ i)
        → SameNumber (v i) (column_values w all i)
    by_order v w fv fw met agree i lt (inl l) =
        subst (λ (x : Column). SameNumber (v i) (sum_value w x.sum)) (sym (before_end cs c i l)) (h.determined v w fv fw (old_met v met) (old_leaves cs c v w agree) i l)
    by_order v w fv fw met agree i lt (inr le) =
        let e : length cs ≡ i = omega (arith, lt, le, length-append cs (c ∷ [])) in
        let at : t.count ≡ i = sym count ∙ e in
        subst (λ (x : Column). SameNumber (v i) (sum_value w x.sum)) (sym (at_end cs c i e))
        (number_back (v i) (sum_value w c.sum) (fv i) (sum_positive_value w c.sum fw)
        (ap (λ n. number (v n)) (sym at) ∙ meets_to v r fv (row_positive t parts facts) (row_met v met) ∙ row_dot t v parts facts fv (old_met v met) are
        ∙ matched_dot cs t.count (λ n. number (v n)) (λ n. number (w n)) c.sum parts matched are
        (λ j term lj q. number_eq (v j) (w term) (fv j) (fw term) (old_leaves cs c v w agree j term (omega (arith, lj, count)) q))
        ∙ sym (number_sum_value w c.sum fw)))

-- ---- runs

pub runs_keep : RunsKeep
runs_keep t cs u ds n h run =
    record {
      solved = λ w fw. (run.keeps (column_values w ds) (column_positive w ds fw)).1 (rows_same t.rows (column_values w cs) (column_values w ds) (λ i. ap (sum_value w) (sym (run.bounds.each i).sum)) (h.solved w fw));
      determined = λ v w fv fw met agree i lt.
          subst (λ ps. SameNumber (v i) (sum_value w ps)) (sym (run.bounds.each i).sum)
          (h.determined v w fv fw ((run.keeps v fv).0 met) (λ j term lj e. agree j term (let q = run.bounds.count in omega (arith, lj, q)) ((run.bounds.each j).sum ∙ e)) i (let q = run.bounds.count in omega (arith, lt, q)));
    }
