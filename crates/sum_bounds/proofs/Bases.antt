-- A variable of a term isn't basic at first, and one of another sum is.
use Rattle.std.proofs.Common.{◌≡◌, ◌≢◌, ℕ, zero, suc, ◌<◌, ◌≤◌, ◌⊎◌, inl, inr, Bool, true, false, cond, not, eqb, eqb-true, eq-eqb, List, [], ◌∷◌, ◌++◌, map, length, Some, refl, sym, ap, ◌∙◌, subst, arith, length-append}
use Rattle.std.proofs.lemmas.Bool.{cases_lt}
use Rattle.std.proofs.lemmas.List.{get_or_append_left, get_or_push}
use Rattle.fraction128.specs.declared.Summand.{Summand}
use Rattle.fraction128.specs.declared.TableRow.{TableRow}
use Rattle.fraction128.specs.declared.Column.{Column}
use Rattle.fraction128.specs.Grid.{is_basic, is_some, row_of, same_sum, leaf, sum_row}
use Rattle.fraction128.specs.Lines.{is_leaf_sum}
use Rattle.tableau.specs.Table.{Table, IsTable, row_at}
use Rattle.simplex_steps.specs.State.{column_in, no_column}
use Rattle.simplex.proofs.Leaves.{same_sum-is, same_sum-itself}
use Rattle.simplex.specs.State as Simplex
use Rattle.sum_bounds.specs.Bounds.{State, Told, IsSum, sums, leaf_table, leaf_columns, sum_columns, sum_table, told_of}
use Rattle.sum_bounds.specs.Kept.{IsGrownByLeaf, IsGrownBySum}
use Rattle.sum_bounds.specs.Bases.{AddsBases}
use Rattle.sum_bounds.proofs.Conflicts.{state_of}

-- ---- sums that are no term alone

-- each term of the sum has a variable, and the sum has none
pub not_leaf : (cs : List Column) (ps : List Summand) → IsSum cs ps → ((i : ℕ) → i < length cs → (column_in cs i).sum ≢ ps) → is_leaf_sum ps ≡ false
not_leaf cs [] known lacks = refl
not_leaf cs (p ∷ ps) known lacks = by (same_sum (p ∷ ps) (leaf p.term)) refl
  where
    by : (z : Bool) → same_sum (p ∷ ps) (leaf p.term) ≡ z → z ≡ false
    by true e = let l = (known zero p (omega arith)).leaf in absurd (lacks l.0 l.1 (l.2 ∙ sym (same_sum-is (p ∷ ps) (leaf p.term) e)))
    by false e = refl

leaf_is : (term : ℕ) → is_leaf_sum (leaf term) ≡ true
leaf_is term = same_sum-itself (leaf term)

-- ---- basic variables

not_basic : (rows : List TableRow) (i : ℕ) → ((k : ℕ) → k < length rows → (row_at rows k).basic ≢ i) → is_basic rows i ≡ false
not_basic [] i h = refl
not_basic (r ∷ rs) i h = by (eqb r.basic i) refl (not_basic rs i (λ k lt. h (suc k) (omega (arith, lt))))
  where
    by : (z : Bool) → eqb r.basic i ≡ z → is_basic rs i ≡ false → is_some (cond z (Some r) (row_of rs i)) ≡ false
    by true e later = absurd (h zero (omega arith) (eqb-true r.basic i e))
    by false e later = later

basic_push : (rows : List TableRow) (r : TableRow) → is_basic (rows ++ r ∷ []) r.basic ≡ true
basic_push [] r = ap (λ z. is_some (cond z (Some r) (row_of [] r.basic))) (eq-eqb r.basic r.basic refl)
basic_push (q ∷ qs) r = by (eqb q.basic r.basic) (basic_push qs r)
  where
    by : (z : Bool) → is_basic (qs ++ r ∷ []) r.basic ≡ true → is_some (cond z (Some q) (row_of (qs ++ r ∷ []) r.basic)) ≡ true
    by true later = refl
    by false later = later

others_push : (rows : List TableRow) (r : TableRow) (i : ℕ) → eqb r.basic i ≡ false → is_basic (rows ++ r ∷ []) i ≡ is_basic rows i
others_push [] r i e = ap (λ z. is_some (cond z (Some r) (row_of [] i))) e
others_push (q ∷ qs) r i e = by (eqb q.basic i) (others_push qs r i e)
  where
    by : (z : Bool) → is_basic (qs ++ r ∷ []) i ≡ is_basic qs i → is_some (cond z (Some q) (row_of (qs ++ r ∷ []) i)) ≡ is_some (cond z (Some q) (row_of qs i))
    by true later = refl
    by false later = later

isnt : (i j : ℕ) → i ≢ j → eqb i j ≡ false
isnt i j ne = by (eqb i j) refl
  where
    by : (z : Bool) → eqb i j ≡ z → z ≡ false
    by true e = absurd (ne (eqb-true i j e))
    by false e = refl

-- ---- one variable more

column_kept : (cs : List Column) (c : Column) (i : ℕ) → i < length cs → (i < length (cs ++ c ∷ [])) × ((column_in (cs ++ c ∷ []) i).sum ≡ (column_in cs i).sum)
column_kept cs c i lt = (omega (arith, lt, length-append cs (c ∷ [])), ap (λ (x : Column). x.sum) (get_or_append_left cs (c ∷ []) no_column i lt))

column_last : (cs : List Column) (c : Column) (i : ℕ) → length cs ≡ i → (column_in (cs ++ c ∷ []) i).sum ≡ c.sum
column_last cs c i e = ap (λ (x : Column). x.sum) (get_or_push cs c no_column i e)

last_is : (cs : List Column) (c : Column) (i : ℕ) → length cs ≤ i → i < length (cs ++ c ∷ []) → length cs ≡ i
last_is cs c i le lt = omega (arith, le, lt, length-append cs (c ∷ []))

pub bases_same : (old new : State) → new ≡ old → AddsBases old new
bases_same old new e = subst (AddsBases old) (sym e) (record { kept = λ i lt. (lt, refl); stay = λ i lt. refl; added = λ i le lt. absurd (omega (arith, le, lt)) })

bases_leaf : (s : State) (told : List Told) (term : ℕ) → IsTable s.table → length s.columns ≡ s.table.count
    → AddsBases s (record { table = leaf_table s.table; columns = leaf_columns s.columns term; told = told })
bases_leaf s told term table count = record {
  kept = λ i lt. column_kept s.columns _ i lt;
  stay = λ i lt. refl;
  added = λ i le lt.
      let last = last_is s.columns _ i le lt in
      not_basic s.table.rows i (λ k lk e. let known = table.basics k lk in absurd (omega (arith, known, e, count, le)))
      ∙ sym (ap (λ ps. not (is_leaf_sum ps)) (column_last s.columns _ i last) ∙ ap not (leaf_is term));
}

bases_sum : (s : State) (told : List Told) (ps : List Summand) → is_leaf_sum ps ≡ false
    → AddsBases s (record { table = sum_table s.table s.columns ps; columns = sum_columns s.table s.columns ps; told = told })
bases_sum s told ps none = record {
  kept = λ i lt. column_kept s.columns _ i lt;
  stay = λ i lt. others_push s.table.rows (sum_row s.columns s.table.rows ps) i (isnt (length s.columns) i (λ e. absurd (omega (arith, lt, e))));
  added = λ i le lt.
      let last = last_is s.columns _ i le lt in
      subst (λ n. is_basic (s.table.rows ++ sum_row s.columns s.table.rows ps ∷ []) n ≡ true) last (basic_push s.table.rows (sum_row s.columns s.table.rows ps))
      ∙ sym (ap (λ qs. not (is_leaf_sum qs)) (column_last s.columns _ i last) ∙ ap not none);
}

pub grown_by_leaf : (s u : Simplex.State) (keys : List ℕ) (term : ℕ) → IsGrownByLeaf s u keys term → IsTable s.table → length s.columns ≡ s.table.count → AddsBases (state_of s) (state_of u)
grown_by_leaf s u keys term h table count =
    subst (λ (t : Table). AddsBases (state_of s) (record { table = t; columns = u.columns; told = map told_of u.bounds })) (sym h.table)
    (subst (λ (cs : List Column). AddsBases (state_of s) (record { table = leaf_table s.table; columns = cs; told = map told_of u.bounds })) (sym h.columns)
    (bases_leaf (state_of s) (map told_of u.bounds) term table count))

pub grown_by_sum : (s u : Simplex.State) (keys : List ℕ) (ps : List Summand) → IsGrownBySum s u keys ps → is_leaf_sum ps ≡ false → AddsBases (state_of s) (state_of u)
grown_by_sum s u keys ps h none =
    subst (λ (t : Table). AddsBases (state_of s) (record { table = t; columns = u.columns; told = map told_of u.bounds })) (sym h.table)
    (subst (λ (cs : List Column). AddsBases (state_of s) (record { table = sum_table s.table s.columns ps; columns = cs; told = map told_of u.bounds })) (sym h.columns)
    (bases_sum (state_of s) (map told_of u.bounds) ps none))

-- ---- one after the other

pub bases_through : (a b c : State) → AddsBases a b → AddsBases b c → AddsBases a c
bases_through a b c p q = record {
  kept = λ i lt. let k = p.kept i lt in let l = q.kept i k.0 in (l.0, l.1 ∙ k.1);
  stay = λ i lt. q.stay i (p.kept i lt).0 ∙ p.stay i lt;
  added = λ i le lt. by_order i le lt (cases_lt i (length b.columns));
}
  where
    by_order : (i : ℕ) → length a.columns ≤ i → i < length c.columns → (i < length b.columns) ⊎ (length b.columns ≤ i) → is_basic c.table.rows i ≡ not (is_leaf_sum (sums c i))
    by_order i le lt (inl less) = q.stay i less ∙ p.added i le less ∙ ap (λ ps. not (is_leaf_sum ps)) (sym (q.kept i less).1)
    by_order i le lt (inr past) = q.added i past lt
