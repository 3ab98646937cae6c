-- Columns whose values change, and that they are those of the definitions.
use Rattle.std.proofs.Common.{◌≡◌, ◌≢◌, ℕ, ℤ, zero, suc, ◌<◌, ◌≤◌, ◌⊎◌, inl, inr, pos, negsuc, sym, ap, ap₂, ◌∙◌, subst, refl, arith, List, [], ◌∷◌, ◌++◌, length, get_or, set, get_or-set_other, get_or-set_same, Bool, true, false, cond, eqb, eqb-true, eq-eqb, unsigned_abs, Option, Some, None, ◌&&◌, Result, Ok, Err, OnOk, OnErr}
use Rattle.std.proofs.lemmas.List.{length-set, ext_get_or, get_or_default}
use Rattle.std.proofs.lemmas.Bool.{cases_lt}
use Rattle.fraction128.specs.declared.ratio.Ratio.{Ratio}
use Rattle.fraction128.specs.Number.{whole, is_zero}
use Rattle.fraction128.specs.Ratio.{IsFraction}
use Rattle.fraction128.specs.Listed.{negation_of, reciprocal_of, sum_of, product_of, fused}
use Rattle.fraction128.proofs.ExactSteps.{sum_positive, product_positive, reciprocal_positive}
use Rattle.fraction128.specs.declared.Entry.{Entry}
use Rattle.fraction128.specs.declared.TableRow.{TableRow}
use Rattle.fraction128.specs.declared.Column.{Column}
use Rattle.fraction128.specs.Grid.{every_row, fused_fits, coefficient, row_of, entries_of, is_some, is_basic, cell, distance, moved_value, pivot_distance, pivoted_value, with_values, after_move, after_pivot}
use Rattle.simplex_steps.proofs.Moments.{length_with, col_with}
use Rattle.tableau.specs.Rows.{IsAscending}
use Rattle.tableau.specs.Staged.{HasEntry, Lacks}
use Rattle.tableau.specs.Table.{Table, IsTable, row_at, AreNonzero}
use Rattle.tableau.proofs.Absent.{fused_none, fused_none_fits}
use Rattle.tableau.proofs.Places.{row_first, row_none, row_some, row_lacks}
use Rattle.tableau.proofs.Shape.{coefficient_found, coefficient_free, places_free}
use Rattle.simplex_steps.specs.declared.moves.Moved.{Moved}
use Rattle.simplex_steps.specs.Moved.{shift, shifts, shift_fits, applied, with_value, landed, moved_to, row_distance, pivoted_to}
use Rattle.simplex_steps.specs.State.{grid_of, column_in, no_column, values, SameBounds, KeepsBounds, IsSolution}

-- ---- one column

pub column_other : (cs : List Column) (i j : ℕ) (c : Column) → j ≢ i → column_in (set cs i c) j ≡ column_in cs j
column_other cs i j c ne = get_or-set_other cs i j c no_column ne

pub column_same : (cs : List Column) (i : ℕ) (c : Column) → i < length cs → column_in (set cs i c) i ≡ c
column_same cs i c lt = get_or-set_same cs i c no_column lt

differs : (j i : ℕ) → eqb j i ≡ false → j ≢ i
differs j i e w = let z : true ≡ false = sym (eq-eqb j i w) ∙ e in absurd (cc)

-- ---- bounds stay

same_bounds : (c : Column) → SameBounds c c
same_bounds c = record { sum = refl; lower = refl; upper = refl }

bounds_through : (c d e : Column) → SameBounds c d → SameBounds d e → SameBounds c e
bounds_through c d e p q = record { sum = p.sum ∙ q.sum; lower = p.lower ∙ q.lower; upper = p.upper ∙ q.upper }

pub keeps_none : (cs : List Column) → KeepsBounds cs cs
keeps_none cs = record { count = refl; each = λ i. same_bounds (column_in cs i) }

pub keeps_through : (cs ds es : List Column) → KeepsBounds cs ds → KeepsBounds ds es → KeepsBounds cs es
keeps_through cs ds es p q = record { count = q.count ∙ p.count; each = λ i. bounds_through (column_in es i) (column_in ds i) (column_in cs i) (q.each i) (p.each i) }

set_out : (cs : List Column) (i : ℕ) (c : Column) → length cs ≤ i → set cs i c ≡ cs
set_out [] i c h = refl
set_out (x ∷ xs) zero c h = absurd (omega (arith, h))
set_out (x ∷ xs) (suc i) c h = ap (λ ys. x ∷ ys) (set_out xs i c (omega (arith, h)))

pub set_keeps : (cs : List Column) (i : ℕ) (x : Ratio) → KeepsBounds cs (set cs i (with_value (column_in cs i) x))
set_keeps cs i x = record { count = length-set cs i (with_value (column_in cs i) x); each = λ j. by_order j (cases_lt i (length cs)) (eqb j i) refl }
  where
    by_order : (j : ℕ) → (i < length cs) ⊎ (length cs ≤ i) → (t : Bool) → eqb j i ≡ t → SameBounds (column_in (set cs i (with_value (column_in cs i) x)) j) (column_in cs j)
    by_order j (inr h) t e = subst (λ ds. SameBounds (column_in ds j) (column_in cs j)) (sym (set_out cs i (with_value (column_in cs i) x) h)) (same_bounds (column_in cs j))
    by_order j (inl h) true e =
        let is : j ≡ i = eqb-true j i e in
        subst (λ n. SameBounds (column_in (set cs i (with_value (column_in cs i) x)) n) (column_in cs n)) (sym is)
        (subst (λ c. SameBounds c (column_in cs i)) (sym (column_same cs i (with_value (column_in cs i) x) h)) (record { sum = refl; lower = refl; upper = refl }))
    by_order j (inl h) false e =
        subst (λ c. SameBounds c (column_in cs j)) (sym (column_other cs i j (with_value (column_in cs i) x) (differs j i e))) (same_bounds (column_in cs j))

pub applied_keeps : (ms : List Moved) (cs : List Column) → KeepsBounds cs (applied ms cs)
applied_keeps [] cs = keeps_none cs
applied_keeps (m ∷ ms) cs =
    keeps_through cs (set cs m.variable (with_value (column_in cs m.variable) m.value)) (applied (m ∷ ms) cs) (set_keeps cs m.variable m.value) (applied_keeps ms (set cs m.variable (with_value (column_in cs m.variable) m.value)))

pub landed_keeps : (ms : List Moved) (cs : List Column) (i : ℕ) (x : Ratio) → KeepsBounds cs (landed ms cs i x)
landed_keeps ms cs i x = keeps_through cs (applied ms cs) (landed ms cs i x) (applied_keeps ms cs) (set_keeps (applied ms cs) i x)

-- ---- columns are determined by bounds and values

pub with_its_value : (c d : Column) → SameBounds c d → c ≡ with_value d c.value
with_its_value c d s =
    ap (λ z. let r : Column = record { sum = z; lower = c.lower; upper = c.upper; value = c.value } in r) s.sum
    ∙ ap (λ z. let r : Column = record { sum = d.sum; lower = z; upper = c.upper; value = c.value } in r) s.lower
    ∙ ap (λ z. let r : Column = record { sum = d.sum; lower = d.lower; upper = z; value = c.value } in r) s.upper

pub exact_by : (cs ds : List Column) (f : ℕ → Ratio) → KeepsBounds cs ds → ((j : ℕ) → j < length cs → values ds j ≡ f j) → ds ≡ with_values f 0 cs
exact_by cs ds f keeps h =
    ext_get_or no_column ds (with_values f 0 cs) (keeps.count ∙ sym (length_with f 0 cs))
    (λ j lt. with_its_value (column_in ds j) (column_in cs j) (keeps.each j) ∙ ap (with_value (column_in cs j)) (h j (omega (arith, lt, keeps.count))) ∙ sym (col_with f 0 cs j j (omega arith) (omega (arith, lt, keeps.count))))

-- ---- the values of the basic variables

abbrev pub VariablesOf : (ℕ → Type 0) → List Moved → Type 0
VariablesOf P [] = Unit {0}
VariablesOf P (m ∷ ms) = P m.variable × VariablesOf P ms

variables_append : (P : ℕ → Type 0) (xs ys : List Moved) → VariablesOf P xs → VariablesOf P ys → VariablesOf P (xs ++ ys)
variables_append P [] ys h g = g
variables_append P (x ∷ xs) ys h g = (h.0, variables_append P xs ys h.1 g)

pub applied_other : (ms : List Moved) (cs : List Column) (j : ℕ) → VariablesOf (λ i. i ≢ j) ms → column_in (applied ms cs) j ≡ column_in cs j
applied_other [] cs j h = refl
applied_other (m ∷ ms) cs j h =
    applied_other ms (set cs m.variable (with_value (column_in cs m.variable) m.value)) j h.1
    ∙ column_other cs m.variable j (with_value (column_in cs m.variable) m.value) (λ e. h.0 (sym e))

abbrev pub Basics : (ℕ → Type 0) → List TableRow → Type 0
Basics P [] = Unit {0}
Basics P (r ∷ rs) = P r.basic × Basics P rs

-- no variable is basic twice
abbrev pub Distinct : List TableRow → Type 0
Distinct [] = Unit {0}
Distinct (r ∷ rs) = Basics (λ b. b ≢ r.basic) rs × Distinct rs

shifts_of : (P : ℕ → Type 0) (cs : List Column) (i : ℕ) (t : Ratio) (rows : List TableRow) → Basics P rows → VariablesOf P (shifts cs i t rows)
shifts_of P cs i t [] h = tt
shifts_of P cs i t (r ∷ rs) h = variables_append P (shift cs i t r) (shifts cs i t rs) (one (is_zero (coefficient r.entries i))) (shifts_of P cs i t rs h.1)
  where
    one : (z : Bool) → VariablesOf P (cond z [] (record { variable = r.basic; value = fused (values cs r.basic) (coefficient r.entries i) t } ∷ []))
    one true = tt
    one false = (h.0, tt)

-- what the value of the basic variable becomes
abbrev pub becomes : List Column → ℕ → Ratio → TableRow → Ratio → Ratio
becomes cs i t r x = cond (is_zero (coefficient r.entries i)) x (fused (values cs r.basic) (coefficient r.entries i) t)

basic_at : (P : ℕ → Type 0) (rows : List TableRow) (k : ℕ) → Basics P rows → k < length rows → P (row_at rows k).basic
basic_at P [] k h lt = absurd (omega (arith, lt))
basic_at P (r ∷ rs) zero h lt = h.0
basic_at P (r ∷ rs) (suc k) h lt = basic_at P rs k h.1 (omega (arith, lt))

shifted_rows : (cs0 : List Column) (i : ℕ) (t : Ratio) (rows : List TableRow) (cs : List Column) (k : ℕ) → Distinct rows → k < length rows → (row_at rows k).basic < length cs
    → values (applied (shifts cs0 i t rows) cs) (row_at rows k).basic ≡ becomes cs0 i t (row_at rows k) (values cs (row_at rows k).basic)
shifted_rows cs0 i t [] cs k d lt known = absurd (omega (arith, lt))
shifted_rows cs0 i t (r ∷ rs) cs k d lt known =
    by_zero (λ ds n l h. shifted_rows cs0 i t rs ds n d.1 l h) (is_zero (coefficient r.entries i)) refl k lt known
  where
    x : Ratio
    x = fused (values cs0 r.basic) (coefficient r.entries i) t

    cs' : List Column
    cs' = set cs r.basic (with_value (column_in cs r.basic) x)

    by_zero : ((ds : List Column) (n : ℕ) → n < length rs → (row_at rs n).basic < length ds
        → values (applied (shifts cs0 i t rs) ds) (row_at rs n).basic ≡ becomes cs0 i t (row_at rs n) (values ds (row_at rs n).basic))
        → (z : Bool) → is_zero (coefficient r.entries i) ≡ z → (n : ℕ) → n < length (r ∷ rs) → (row_at (r ∷ rs) n).basic < length cs
        → values (applied (cond z [] (record { variable = r.basic; value = x } ∷ []) ++ shifts cs0 i t rs) cs) (row_at (r ∷ rs) n).basic
        ≡ becomes cs0 i t (row_at (r ∷ rs) n) (values cs (row_at (r ∷ rs) n).basic)
    by_zero ih true e zero l h =
        ap (λ (c : Column). c.value) (applied_other (shifts cs0 i t rs) cs r.basic (shifts_of (λ b. b ≢ r.basic) cs0 i t rs d.0))
        ∙ ap (λ w. cond w (values cs r.basic) x) (sym e)
    by_zero ih true e (suc n) l h = ih cs n (omega (arith, l)) h
    by_zero ih false e zero l h =
        ap (λ (c : Column). c.value)
        (applied_other (shifts cs0 i t rs) cs' r.basic (shifts_of (λ b. b ≢ r.basic) cs0 i t rs d.0) ∙ column_same cs r.basic (with_value (column_in cs r.basic) x) h)
        ∙ ap (λ w. cond w (values cs r.basic) x) (sym e)
    by_zero ih false e (suc n) l h =
        ih cs' n (omega (arith, l)) (omega (arith, h, length-set {A = Column}))
        ∙ ap (λ (c : Column). becomes cs0 i t (row_at rs n) c.value)
        (column_other cs r.basic (row_at rs n).basic (with_value (column_in cs r.basic) x) (basic_at (λ b. b ≢ r.basic) rs n d.0 (omega (arith, l))))

-- the same by places
basics_from : (P : ℕ → Type 0) (rows : List TableRow) → ((k : ℕ) → k < length rows → P (row_at rows k).basic) → Basics P rows
basics_from P [] h = tt
basics_from P (r ∷ rs) h = (h zero (omega arith), basics_from P rs (λ k lt. h (suc k) (omega (arith, lt))))

distinct_from : (rows : List TableRow) → ((j k : ℕ) → j < length rows → k < length rows → (row_at rows j).basic ≡ (row_at rows k).basic → j ≡ k) → Distinct rows
distinct_from [] h = tt
distinct_from (r ∷ rs) h = (
  basics_from (λ b. b ≢ r.basic) rs (λ k lt e. let z : suc k ≡ zero = h (suc k) zero (omega (arith, lt)) (omega arith) e in absurd (omega (arith, z))),
  distinct_from rs (λ j k lj lk e. let z : suc j ≡ suc k = h (suc j) (suc k) (omega (arith, lj)) (omega (arith, lk)) e in omega (arith, z)),
)

abs_zero : (z : ℤ) → unsigned_abs z ≡ 0 → z ≡ pos 0
abs_zero (pos n) e = ap pos e
abs_zero (negsuc n) e = absurd (omega (arith, e))

-- an entry that isn't 0 has a coefficient that isn't 0
pub entry_nonzero : (c : ℕ) (es : List Entry) → IsAscending es → HasEntry c es → (coefficient es c).numerator ≢ pos 0
entry_nonzero c es asc h = subst (λ (x : Ratio). x.numerator ≢ pos 0) (coefficient_found es h.place c asc h.in_row h.is) h.nonzero

pub entry_not_zero : (c : ℕ) (es : List Entry) → IsAscending es → HasEntry c es → is_zero (coefficient es c) ≡ false
entry_not_zero c es asc h = by_test (is_zero (coefficient es c)) refl
  where
    by_test : (t : Bool) → is_zero (coefficient es c) ≡ t → t ≡ false
    by_test true e = absurd (entry_nonzero c es asc h (abs_zero (coefficient es c).numerator (eqb-true (unsigned_abs (coefficient es c).numerator) 0 e)))
    by_test false e = refl

-- a coefficient of 0 is absent
absent : (es : List Entry) (i : ℕ) → AreNonzero es → is_zero (coefficient es i) ≡ true → coefficient es i ≡ whole (pos 0)
absent [] i h z = refl
absent (e ∷ es) i h z = by_test (λ w. absent es i h.1 w) (eqb e.variable i) z
  where
    by_test : (is_zero (coefficient es i) ≡ true → coefficient es i ≡ whole (pos 0)) → (t : Bool) → is_zero (cond t e.coefficient (coefficient es i)) ≡ true → cond t e.coefficient (coefficient es i) ≡ whole (pos 0)
    by_test rest true w = absurd (h.0.1 (abs_zero e.coefficient.numerator (eqb-true (unsigned_abs e.coefficient.numerator) 0 w)))
    by_test rest false w = rest w

-- ---- the row of a basic variable

pub row_of_basic : (t : Table) (k : ℕ) → IsTable t → k < length t.rows → row_of t.rows (row_at t.rows k).basic ≡ Some (row_at t.rows k)
row_of_basic t k facts lt = row_first t.rows k (row_at t.rows k).basic lt refl (λ i l e. let z : i ≡ k = facts.distinct i k (omega (arith, l, lt)) lt e in absurd (omega (arith, z, l)))

pub basic_is : (t : Table) (k : ℕ) → IsTable t → k < length t.rows → is_basic t.rows (row_at t.rows k).basic ≡ true
basic_is t k facts lt = ap is_some (row_of_basic t k facts lt)

pub cell_is : (t : Table) (k j : ℕ) → IsTable t → k < length t.rows → cell t.rows (row_at t.rows k).basic j ≡ coefficient (row_at t.rows k).entries j
cell_is t k j facts lt = ap (λ o. coefficient (entries_of o) j) (row_of_basic t k facts lt)

pub free_is : (t : Table) (j : ℕ) → ((k : ℕ) → k < length t.rows → (row_at t.rows k).basic ≢ j) → is_basic t.rows j ≡ false
free_is t j h = ap is_some (row_none t.rows j h)

pub free_rows : (t : Table) (j : ℕ) → is_basic t.rows j ≡ false → (k : ℕ) → k < length t.rows → (row_at t.rows k).basic ≢ j
free_rows t j h = by_row (row_of t.rows j) refl
  where
    by_row : (o : Option TableRow) → row_of t.rows j ≡ o → (k : ℕ) → k < length t.rows → (row_at t.rows k).basic ≢ j
    by_row (Some r) e = absurd (let z : true ≡ false = sym (ap is_some e) ∙ h in cc)
    by_row None e = row_lacks t.rows j e

pub basic_place : (t : Table) (j : ℕ) → is_basic t.rows j ≡ true → (k : ℕ) × (k < length t.rows) × ((row_at t.rows k).basic ≡ j)
basic_place t j h = by_row (row_of t.rows j) refl
  where
    by_row : (o : Option TableRow) → row_of t.rows j ≡ o → (k : ℕ) × (k < length t.rows) × ((row_at t.rows k).basic ≡ j)
    by_row (Some r) e = let q = row_some t.rows j r e in (q.0, q.1, q.3)
    by_row None e = absurd (let z : true ≡ false = sym h ∙ ap is_some e in cc)

-- ---- values after a variable moved by a distance, and the basic ones with it

-- what the definitions say of a variable that isn't the one that moves
abbrev followed : Table → List Column → ℕ → Ratio → ℕ → Ratio
followed t cs i dist j = cond (is_basic t.rows j) (fused (values cs j) (cell t.rows j i) dist) (values cs j)

landed_itself : (ms : List Moved) (cs : List Column) (i : ℕ) (x : Ratio) → i < length cs → values (landed ms cs i x) i ≡ x
landed_itself ms cs i x lt =
    ap (λ (c : Column). c.value) (column_same (applied ms cs) i (with_value (column_in (applied ms cs) i) x) (let e = (applied_keeps ms cs).count in omega (arith, lt, e)))

landed_other : (t : Table) (cs : List Column) (i : ℕ) (dist x : Ratio) (j : ℕ) → IsTable t → length cs ≡ t.count → 0 < dist.denominator → j ≢ i
    → values (landed (shifts cs i dist t.rows) cs i x) j ≡ followed t cs i dist j
landed_other t cs i dist x j facts count fd ne =
    ap (λ (c : Column). c.value) (column_other (applied ms cs) i j (with_value (column_in (applied ms cs) i) x) ne) ∙ by_row (row_of t.rows j) refl
  where
    ms : List Moved
    ms = shifts cs i dist t.rows

    by_row : (o : Option TableRow) → row_of t.rows j ≡ o → values (applied ms cs) j ≡ followed t cs i dist j
    by_row None e =
        ap (λ (c : Column). c.value) (applied_other ms cs j (shifts_of (λ b. b ≢ j) cs i dist t.rows (basics_from (λ b. b ≢ j) t.rows (row_lacks t.rows j e))))
        ∙ ap (λ o. cond (is_some o) (fused (values cs j) (coefficient (entries_of o) i) dist) (values cs j)) (sym e)
    by_row (Some r) e =
        let q = row_some t.rows j r e in
        let a = coefficient (row_at t.rows q.0).entries i in
        subst (λ b. values (applied ms cs) b ≡ becomes cs i dist (row_at t.rows q.0) (values cs b)) q.3
        (shifted_rows cs i dist t.rows cs q.0 (distinct_from t.rows facts.distinct) q.1 (let b = facts.basics q.0 q.1 in omega (arith, b, count)))
        ∙ ap (λ b. cond (is_zero a) (values cs j) (fused (values cs b) a dist)) q.3
        ∙ by_zero a (is_zero a) refl (absent (row_at t.rows q.0).entries i (facts.nonzero q.0 q.1))
        ∙ ap (λ (y : TableRow). fused (values cs j) (coefficient y.entries i) dist) q.2
        ∙ ap (λ o. cond (is_some o) (fused (values cs j) (coefficient (entries_of o) i) dist) (values cs j)) (sym e)
      where
        by_zero : (a : Ratio) (z : Bool) → is_zero a ≡ z → (is_zero a ≡ true → a ≡ whole (pos 0)) → cond z (values cs j) (fused (values cs j) a dist) ≡ fused (values cs j) a dist
        by_zero a true w h = sym (fused_none (values cs j) dist fd) ∙ ap (λ b. fused (values cs j) b dist) (sym (h w))
        by_zero a false w h = refl

-- ---- the columns after a step

pub moved_exact : (t : Table) (cs : List Column) (i : ℕ) (k : ℤ) → IsTable t → IsSolution t cs → i < t.count → moved_to t.rows cs i k ≡ (after_move (grid_of t cs) i k).columns
moved_exact t cs i k facts s lt =
    exact_by cs (moved_to t.rows cs i k) (moved_value (grid_of t cs) i k) (landed_keeps (shifts cs i dist t.rows) cs i (whole k)) (λ j lj. by_test j (eqb j i) refl)
  where
    dist : Ratio
    dist = distance k (values cs i)

    fd : 0 < dist.denominator
    fd = sum_positive (whole k) (negation_of (values cs i)) (omega arith) (s.fractions i).positive

    by_test : (j : ℕ) (z : Bool) → eqb j i ≡ z → values (moved_to t.rows cs i k) j ≡ moved_value (grid_of t cs) i k j
    by_test j true e =
        let is : j ≡ i = eqb-true j i e in
        ap (values (moved_to t.rows cs i k)) is ∙ landed_itself (shifts cs i dist t.rows) cs i (whole k) (let c = s.count in omega (arith, lt, c))
        ∙ ap (λ z. cond z (whole k) (followed t cs i dist j)) (sym e)
    by_test j false e =
        landed_other t cs i dist (whole k) j facts s.count fd (differs j i e) ∙ ap (λ z. cond z (whole k) (followed t cs i dist j)) (sym e)

pub moved_keeps : (rows : List TableRow) (cs : List Column) (i : ℕ) (k : ℤ) → KeepsBounds cs (moved_to rows cs i k)
moved_keeps rows cs i k = landed_keeps (shifts cs i (distance k (values cs i)) rows) cs i (whole k)

pub pivoted_keeps : (rows : List TableRow) (cs : List Column) (place : ℕ) (k : ℤ) (c : ℕ) → KeepsBounds cs (pivoted_to rows cs place k c)
pivoted_keeps rows cs place k c =
    let t = row_distance rows cs place k c in
    let ds = landed (shifts cs c t rows) cs c (sum_of (values cs c) t) in
    keeps_through cs ds (pivoted_to rows cs place k c) (landed_keeps (shifts cs c t rows) cs c (sum_of (values cs c) t)) (set_keeps ds (row_at rows place).basic (whole k))

pub pivoted_exact : (t : Table) (cs : List Column) (place : ℕ) (k : ℤ) (c : ℕ) → IsTable t → IsSolution t cs → place < length t.rows → c < t.count → HasEntry c (row_at t.rows place).entries
    → pivoted_to t.rows cs place k c ≡ (after_pivot (grid_of t cs) (row_at t.rows place).basic k c).columns
pivoted_exact t cs place k c facts s lt known h =
    exact_by cs (pivoted_to t.rows cs place k c) (pivoted_value (grid_of t cs) b k c) (pivoted_keeps t.rows cs place k c) (λ j lj. by_test j lj (eqb j b) refl)
  where
    b : ℕ
    b = (row_at t.rows place).basic

    a : Ratio
    a = coefficient (row_at t.rows place).entries c

    dist : Ratio
    dist = row_distance t.rows cs place k c

    ds : List Column
    ds = landed (shifts cs c dist t.rows) cs c (sum_of (values cs c) dist)

    fd : 0 < dist.denominator
    fd =
        product_positive (distance k (values cs b)) (reciprocal_of a) (sum_positive (whole k) (negation_of (values cs b)) (omega arith) (s.fractions b).positive)
        (reciprocal_positive a (entry_nonzero c (row_at t.rows place).entries (facts.ascending place lt) h))

    same_distance : dist ≡ pivot_distance (grid_of t cs) b k c
    same_distance = ap (λ x. product_of (distance k (values cs b)) (reciprocal_of x)) (sym (cell_is t place c facts lt))

    in_ds : b < length ds
    in_ds = let e = (landed_keeps (shifts cs c dist t.rows) cs c (sum_of (values cs c) dist)).count in let f = facts.basics place lt in let g = s.count in omega (arith, e, f, g)

    by_second : (j : ℕ) → j ≢ b → (z : Bool) → eqb j c ≡ z → values ds j ≡ cond z (sum_of (values cs c) dist) (followed t cs c dist j)
    by_second j nb true e =
        ap (values ds) (eqb-true j c e) ∙ landed_itself (shifts cs c dist t.rows) cs c (sum_of (values cs c) dist) (let g = s.count in omega (arith, known, g))
    by_second j nb false e = landed_other t cs c dist (sum_of (values cs c) dist) j facts s.count fd (differs j c e)

    by_test : (j : ℕ) → j < length cs → (z : Bool) → eqb j b ≡ z → values (pivoted_to t.rows cs place k c) j ≡ pivoted_value (grid_of t cs) b k c j
    by_test j lj true e =
        ap (values (pivoted_to t.rows cs place k c)) (eqb-true j b e)
        ∙ ap (λ (x : Column). x.value) (column_same ds b (with_value (column_in ds b) (whole k)) in_ds)
        ∙ ap (λ z. cond z (whole k) (cond (eqb j c) (sum_of (values cs c) (pivot_distance (grid_of t cs) b k c)) (followed t cs c (pivot_distance (grid_of t cs) b k c) j))) (sym e)
    by_test j lj false e =
        ap (λ (x : Column). x.value) (column_other ds b j (with_value (column_in ds b) (whole k)) (differs j b e))
        ∙ by_second j (differs j b e) (eqb j c) refl
        ∙ ap (λ z. cond z (whole k) (cond (eqb j c) (sum_of (values cs c) dist) (followed t cs c dist j))) (sym e)
        ∙ ap (λ d. cond (eqb j b) (whole k) (cond (eqb j c) (sum_of (values cs c) d) (followed t cs c d j))) same_distance

-- ---- a row that lacks the variable

pub value_in : (t : Table) (cs : List Column) (place b : ℕ) (x : Column) → length cs ≡ t.count → b ≡ (row_at t.rows place).basic → b < t.count → (get_or cs b x).value ≡ values cs (row_at t.rows place).basic
value_in t cs place b x count is known = ap (λ (c : Column). c.value) (get_or_default cs b x no_column (omega (arith, known, count))) ∙ ap (values cs) is

pub column_at_basic : (t : Table) (cs : List Column) (place b : ℕ) (x : Column) → length cs ≡ t.count → b ≡ (row_at t.rows place).basic → b < t.count → x ≡ get_or cs b x → x ≡ column_in cs (row_at t.rows place).basic
column_at_basic t cs place b x count is known at = at ∙ get_or_default cs b x no_column (omega (arith, known, count)) ∙ ap (column_in cs) is

pub lacking_fits : (rows : List TableRow) (cs : List Column) (place i : ℕ) (t : Ratio) → IsFraction (values cs (row_at rows place).basic) → IsFraction t → Lacks i (row_at rows place).entries
    → shift_fits cs i t (row_at rows place) ≡ true
lacking_fits rows cs place i t fx ft lacks =
    let x = values cs (row_at rows place).basic in
    let es = (row_at rows place).entries in
    ap (λ a. fused_fits x a t) (coefficient_free i es (places_free i es lacks)) ∙ fused_none_fits x t fx ft.positive

-- ---- tests of every row

pub every_all : (rows : List TableRow) (p : TableRow → Bool) → ((k : ℕ) → k < length rows → p (row_at rows k) ≡ true) → every_row rows p ≡ true
every_all [] p h = refl
every_all (r ∷ rs) p h = ap₂ ◌&&◌ (h zero (omega arith)) (every_all rs p (λ k lt. h (suc k) (omega (arith, lt))))

never : (p : Bool) → (p && false) ≡ false
never true = refl
never false = refl

pub row_false : (rows : List TableRow) (p : TableRow → Bool) (k : ℕ) → k < length rows → p (row_at rows k) ≡ false → every_row rows p ≡ false
row_false [] p k lt h = absurd (omega (arith, lt))
row_false (r ∷ rs) p zero lt h = ap (λ z. z && every_row rs p) h
row_false (r ∷ rs) p (suc k) lt h = ap (λ z. p r && z) (row_false rs p k (omega (arith, lt)) h) ∙ never (p r)

-- ---- tests that both must pass

pub both_true : (p q : Bool) → p ≡ true → q ≡ true → (p && q) ≡ true
both_true p q e f = ap (λ z. z && q) e ∙ f

pub left_false : (p q : Bool) → p ≡ false → (p && q) ≡ false
left_false p q e = ap (λ z. z && q) e

pub right_false : (p q : Bool) → q ≡ false → (p && q) ≡ false
right_false p q e = ap (λ z. p && z) e ∙ never p

pub not_zero : (x : Ratio) → is_zero x ≡ false → x.numerator ≢ pos 0
not_zero x h e = let z : true ≡ false = sym (ap (λ n. eqb (unsigned_abs n) 0) e) ∙ h in absurd (cc)

-- ---- results

pub on_three : {T E P Q R G : Type 0} (r : Result T E) → OnOk r P → OnOk r Q → OnOk r R → (P → Q → R → G) → OnOk r G
on_three (Ok x) p q w f = f p q w
on_three (Err e) p q w f = p

pub either : {T E G P Q : Type 0} (r : Result T E) → OnOk r P → OnErr r Q → (P → G) → (Q → G) → G
either (Ok x) p q f g = f p
either (Err e) p q f g = g q
