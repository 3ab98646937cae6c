-- A pivot fits, by coefficients, exactly where the numbers of the form and of each row's merge stay in the range.
use Rattle.std.proofs.Common.{◌≡◌, ◌≢◌, ℕ, zero, suc, ◌+◌, ◌<◌, ◌≤◌, ◌⊎◌, inl, inr, pos, negsuc, sym, ap, ap₂, ◌∙◌, subst, refl, arith, List, [], ◌∷◌, length, map, get_or, Bool, true, false, cond, nat_lt, eqb, eqb-true, eq-eqb, ◌&&◌, ◌||◌, Result, OnOk, IfErr}
use Rattle.std.proofs.lemmas.Bool.Decides.{nat_tests}
use Rattle.std.proofs.lemmas.Result.{on_ok_weaker}
use Rattle.std.proofs.lemmas.List.{get_or-map}
use Rattle.fraction128.specs.declared.ratio.Ratio.{Ratio}
use Rattle.fraction128.specs.Ratio.{IsFraction}
use Rattle.fraction128.specs.Listed.{product_steps, negation_of, reciprocal_of}
use Rattle.fraction128.specs.Number.{whole}
use Rattle.fraction128.specs.declared.Entry.{Entry}
use Rattle.fraction128.specs.declared.TableRow.{TableRow}
use Rattle.fraction128.specs.Grid.{coefficient, row_of, entries_of, factor, form_entry, scaled_entry, fit, fused_fits, every, every_row, pivot_fits}
use Rattle.tableau.specs.declared.rows.Row.{Row}
use Rattle.tableau.specs.Fitting.{scaled_fits, multiplied_fits, onto_fits, merged_fits}
use Rattle.tableau.specs.Rows.{IsAscending, scaled, zero_form, variable_at, coefficient_at}
use Rattle.tableau.specs.Staged.{Lacks, IsForm, IsRefused, RowFits, IsFitting, IsPivoted, IsTriedPivot, IsSameRow}
use Rattle.tableau.specs.Table.{IsTableau, AreNonzero, AreFractions, plain}
use Rattle.tableau.proofs.Absent.{fused_absent_fits, fused_none_fits, absent_fused_fits, none_product_in}
use Rattle.tableau.proofs.Fractions.{fraction_at, fraction_coefficient}
use Rattle.tableau.proofs.Shape.{From, from_weaker, from_zero, places_free, coefficient_free, coefficient_found, nonzero_positive}
use Rattle.tableau.proofs.Kept.{FormFacts, form_facts, form_fractions, from_zero_form}
use Rattle.tableau.proofs.Coefficients.{Below, decide, coefficient_head, coefficient_tail, coefficient_below, coefficient_zero_form}
use Rattle.tableau.proofs.PivotedRows.{below_all, coefficient_positive, form_coefficient, row_entries}
use Rattle.tableau.proofs.TableLemmas.{place_in}
use Rattle.tableau.proofs.PivotLemmas.{pivoted_fitting, tried_fitting}
use Rattle.tableau.proofs.RowLemmas.{if_err_then}
use Rattle.tableau.specs.declared.failure.Failure.{Failure}
use Rattle.tableau.specs.Failing.{IsRange}

-- ---- tests of every variable, and of every entry

abbrev pub all_entries : (ℕ → Ratio → Bool) → List Entry → Bool
all_entries p [] = true
all_entries p (e ∷ es) = p e.variable e.coefficient && all_entries p es

pub every_same : (n : ℕ) (p q : ℕ → Bool) → ((j : ℕ) → j < n → p j ≡ q j) → every n p ≡ every n q
every_same zero p q h = refl
every_same (suc n) p q h = ap₂ ◌&&◌ (every_same n p q (λ j lt. h j (omega (arith, lt)))) (h n (omega arith))

every_all : (n : ℕ) (p : ℕ → Bool) → ((j : ℕ) → p j ≡ true) → every n p ≡ true
every_all zero p h = refl
every_all (suc n) p h = ap₂ ◌&&◌ (every_all n p h) (h n)

swap : (s t : Bool) → (s && t) ≡ (t && (s && true))
swap true true = refl
swap true false = refl
swap false true = refl
swap false false = refl

assoc : (p q r : Bool) → ((p && q) && r) ≡ (p && (q && r))
assoc true q r = refl
assoc false q r = refl

never : (p : Bool) → (p && false) ≡ false
never true = refl
never false = refl

-- of two tests that differ at one place alone
every_one : (n i : ℕ) (p q : ℕ → Bool) → i < n → q i ≡ true → ((j : ℕ) → j ≢ i → p j ≡ q j) → every n p ≡ (p i && every n q)
every_one zero i p q lt e h = absurd (omega (arith, lt))
every_one (suc n) i p q lt e h = by_place (decide i n) (λ less. every_one n i p q less e h)
  where
    by_place : (i ≡ n) ⊎ (i ≢ n) → (i < n → every n p ≡ (p i && every n q)) → (every n p && p n) ≡ (p i && (every n q && q n))
    by_place (inl is) rest =
        ap₂ ◌&&◌ (every_same n p q (λ j less. h j (λ w. absurd (omega (arith, less, w, is))))) (ap p (sym is))
        ∙ swap (every n q) (p i) ∙ ap (λ z. p i && (every n q && z)) (sym (ap q (sym is) ∙ e))
    by_place (inr ne) rest = ap₂ ◌&&◌ (rest (omega (arith, lt, ne))) (h n (λ w. ne (sym w))) ∙ assoc (p i) (every n q) (q n)

-- a test that passes what is absent
every_entries : (n : ℕ) (p : ℕ → Ratio → Bool) (m : ℕ) (es : List Entry) → From m es → Below n es → ((j : ℕ) → p j (whole (pos 0)) ≡ true)
    → every n (λ j. p j (coefficient es j)) ≡ all_entries p es
every_entries n p m [] h b none = every_all n (λ j. p j (whole (pos 0))) none
every_entries n p m (e ∷ es) h b none =
    every_one n e.variable (λ j. p j (coefficient (e ∷ es) j)) (λ j. p j (coefficient es j)) b.0
    (ap (p e.variable) (coefficient_below (e.variable + 1) es e.variable h.1 (omega arith)) ∙ none e.variable)
    (λ j ne. ap (p j) (coefficient_tail e es j (λ w. ne (sym w))))
    ∙ ap₂ ◌&&◌ (ap (p e.variable) (coefficient_head e es e.variable refl)) (every_entries n p (e.variable + 1) es h.1 b.1 none)

all_same : (p q : ℕ → Ratio → Bool) (m : ℕ) (es : List Entry) → From m es → ((j : ℕ) → m ≤ j → (x : Ratio) → p j x ≡ q j x) → all_entries p es ≡ all_entries q es
all_same p q m [] h f = refl
all_same p q m (e ∷ es) h f = ap₂ ◌&&◌ (f e.variable h.0 e.coefficient) (all_same p q (e.variable + 1) es h.1 (λ j le x. f j (omega (arith, le, h.0)) x))

-- ---- multiples and merges

scaled_all : (t : Ratio) (es : List Entry) → scaled_fits t es ≡ all_entries (λ j x. fit (product_steps x t)) es
scaled_all t [] = refl
scaled_all t (e ∷ es) = ap (λ z. fit (product_steps e.coefficient t) && z) (scaled_all t es)

scaled_every : (n : ℕ) (t : Ratio) (es : List Entry) → From 0 es → Below n es → 0 < t.denominator → every n (λ j. fit (product_steps (coefficient es j) t)) ≡ scaled_fits t es
scaled_every n t es h b f = every_entries n (λ j x. fit (product_steps x t)) 0 es h b (λ j. none_product_in t f) ∙ sym (scaled_all t es)

fused_at : Ratio → List Entry → ℕ → Ratio → Bool
fused_at a xs j z = fused_fits (coefficient xs j) a z

multiplied_all : (a : Ratio) (zs : List Entry) → IsFraction a → AreFractions zs → multiplied_fits a zs ≡ all_entries (fused_at a []) zs
unfolding fused_at
multiplied_all a [] fa h = refl
multiplied_all a (z ∷ zs) fa h = ap₂ ◌&&◌ (sym (absent_fused_fits a z.coefficient fa h.0)) (multiplied_all a zs fa h.1)

onto_all : (a : Ratio) (x : Entry) (xs : List Entry) → IsFraction a → From (x.variable + 1) xs
    → ((m : ℕ) (ws : List Entry) → From m xs → From m ws → AreFractions ws → merged_fits a xs ws ≡ all_entries (fused_at a xs) ws)
    → (n : ℕ) (zs : List Entry) → From n zs → AreFractions zs → onto_fits a x (merged_fits a xs) zs ≡ all_entries (fused_at a (x ∷ xs)) zs
unfolding fused_at
onto_all a x xs fa hx ih n [] hz fz = ih (x.variable + 1) [] hx tt tt
onto_all a x xs fa hx ih n (z ∷ zs) hz fz =
    by_test (onto_all a x xs fa hx ih (z.variable + 1) zs hz.1 fz.1) (nat_lt x.variable z.variable) refl (nat_lt z.variable x.variable) refl
  where
    above : (j : ℕ) → x.variable + 1 ≤ j → (y : Ratio) → fused_at a xs j y ≡ fused_at a (x ∷ xs) j y
    above j le y = ap (λ c. fused_fits c a y) (sym (coefficient_tail x xs j (λ w. absurd (omega (arith, w, le)))))

    by_test : onto_fits a x (merged_fits a xs) zs ≡ all_entries (fused_at a (x ∷ xs)) zs → (t : Bool) → nat_lt x.variable z.variable ≡ t → (u : Bool) → nat_lt z.variable x.variable ≡ u
        → cond t (merged_fits a xs (z ∷ zs)) (cond u (fit (product_steps a z.coefficient) && onto_fits a x (merged_fits a xs) zs) (fused_fits x.coefficient a z.coefficient && merged_fits a xs zs))
        ≡ all_entries (fused_at a (x ∷ xs)) (z ∷ zs)
    by_test rest true p u q =
        let lt : x.variable < z.variable = grind (arith, nat_tests) in
        ih (x.variable + 1) (z ∷ zs) hx (omega (arith, lt), hz.1) fz ∙ all_same (fused_at a xs) (fused_at a (x ∷ xs)) (x.variable + 1) (z ∷ zs) (omega (arith, lt), hz.1) above
    by_test rest false p true q =
        let lt : z.variable < x.variable = grind (arith, nat_tests) in
        ap₂ ◌&&◌
        (sym (ap (λ c. fused_fits c a z.coefficient) (coefficient_below x.variable (x ∷ xs) z.variable (omega arith, hx) lt) ∙ absent_fused_fits a z.coefficient fa fz.0))
        rest
    by_test rest false p false q =
        let same : x.variable ≡ z.variable = grind (arith, nat_tests) in
        let hz' : From (x.variable + 1) zs = from_weaker (x.variable + 1) (z.variable + 1) zs (omega (arith, same)) hz.1 in
        ap₂ ◌&&◌ (ap (λ c. fused_fits c a z.coefficient) (sym (coefficient_head x xs z.variable same)))
        (ih (x.variable + 1) zs hx hz' fz.1 ∙ all_same (fused_at a xs) (fused_at a (x ∷ xs)) (x.variable + 1) zs hz' above)

merged_all : (a : Ratio) (xs : List Entry) (n : ℕ) (zs : List Entry) → IsFraction a → From n xs → From n zs → AreFractions zs → merged_fits a xs zs ≡ all_entries (fused_at a xs) zs
merged_all a [] n zs fa hx hz fz = multiplied_all a zs fa fz
merged_all a (x ∷ xs) n zs fa hx hz fz = onto_all a x xs fa hx.1 (λ m ws p q r. merged_all a xs m ws fa p q r) n zs hz fz

pub merged_every : (n : ℕ) (a : Ratio) (xs zs : List Entry) → IsFraction a → AreFractions xs → AreFractions zs → From 0 xs → From 0 zs → Below n zs
    → every n (λ j. fused_fits (coefficient xs j) a (coefficient zs j)) ≡ merged_fits a xs zs
unfolding fused_at
merged_every n a xs zs fa fx fz hx hz b =
    every_entries n (fused_at a xs) 0 zs hz b (λ j. fused_absent_fits (coefficient xs j) a (fraction_coefficient xs j fx) fa.positive) ∙ sym (merged_all a xs 0 zs fa hx hz fz)

-- ---- the form

below_zero_form : (n p b : ℕ) (es : List Entry) → b < n → Below n es → Below n (zero_form p b es)
below_zero_form n zero b es lt h = (lt, h)
below_zero_form n (suc p) b [] lt h = (lt, tt)
below_zero_form n (suc p) b (e ∷ es) lt h = (h.0, below_zero_form n p b es lt h.1)

below_scaled : (n : ℕ) (t : Ratio) (es : List Entry) → Below n es → Below n (scaled t es)
below_scaled n t [] h = tt
below_scaled n t (e ∷ es) h = (h.0, below_scaled n t es h.1)

form_every : (n : ℕ) (rows : List TableRow) (b c : ℕ) (es : List Entry) (place before : ℕ) (reciprocal : Ratio) → entries_of (row_of rows b) ≡ es → IsAscending es → Lacks b es → Below n es → b < n
    → place < length es → variable_at es place ≡ c → before ≤ length es → ((k : ℕ) → k < before → variable_at es k < b) → ((k : ℕ) → before ≤ k → k < length es → b ≤ variable_at es k)
    → reciprocal ≡ reciprocal_of (coefficient_at es place) → 0 < reciprocal.denominator
    → every n (λ j. fit (product_steps (form_entry rows b j) (factor rows b c))) ≡ scaled_fits (negation_of reciprocal) (zero_form before b es)
form_every n rows b c es place before reciprocal is asc lacks below known in_row entering within lower upper exact positive =
    every_same n (λ j. fit (product_steps (form_entry rows b j) (factor rows b c))) (λ j. fit (product_steps (coefficient (zero_form before b es) j) (negation_of reciprocal)))
    (λ j lt. ap₂ (λ x t. fit (product_steps x t)) (entry_is j) (sym factor_is))
    ∙ scaled_every n (negation_of reciprocal) (zero_form before b es)
    (from_zero_form 0 before b es (from_zero es asc) (omega arith) within lower
    (λ k le lt. let b_le : b ≤ variable_at es k = upper k le lt in let ne : variable_at es k ≢ b = lacks k lt in omega (arith, b_le, ne)))
    (below_zero_form n before b es known below) positive
  where
    factor_is : negation_of reciprocal ≡ factor rows b c
    factor_is = ap negation_of (exact ∙ ap reciprocal_of (coefficient_found es place c asc in_row entering ∙ ap (λ xs. coefficient xs c) (sym is)))

    entry_is : (j : ℕ) → form_entry rows b j ≡ coefficient (zero_form before b es) j
    entry_is j = sym (coefficient_zero_form before b es j (places_free b es lacks) ∙ ap (λ xs. cond (eqb j b) (whole (negsuc 0)) (coefficient xs j)) (sym is))

-- ---- every row

every_rows : (rows : List Row) (p : TableRow → Bool) → ((k : ℕ) (d : Row) → k < length rows → p (plain (get_or rows k d)) ≡ true) → every_row (map plain rows) p ≡ true
every_rows [] p h = refl
every_rows (r ∷ rs) p h = ap₂ ◌&&◌ (h zero r (omega arith)) (every_rows rs p (λ k d lt. h (suc k) d (omega arith)))

row_fails : (rows : List Row) (p : TableRow → Bool) (k : ℕ) (d : Row) → k < length rows → p (plain (get_or rows k d)) ≡ false → every_row (map plain rows) p ≡ false
row_fails [] p k d lt e = absurd (omega arith)
row_fails (r ∷ rs) p zero d lt e = ap (λ z. z && every_row (map plain rs) p) e
row_fails (r ∷ rs) p (suc k) d lt e = ap (λ z. p (plain r) && z) (row_fails rs p k d (omega arith) e) ∙ never (p (plain r))

-- a row's numbers of the pivot
row_test : ℕ → List TableRow → ℕ → ℕ → TableRow → Bool
row_test n rows b c r = every n (λ j. fused_fits (coefficient r.entries j) (coefficient r.entries c) (scaled_entry rows b c j))

-- by the form and the row that it is of
record FormRow (n : ℕ) (rows : List TableRow) (b c : ℕ) (form : List Entry) : Type 0 where
  pub from : From 0 form
  pub below : Below n form
  pub nonzero : AreNonzero form
  pub fractions : AreFractions form
  pub is : (j : ℕ) → coefficient form j ≡ scaled_entry rows b c j

row_merged : (n : ℕ) (rows : List TableRow) (b c : ℕ) (form : List Entry) (r : Row) (i : ℕ) → FormRow n rows b c form → IsAscending r.entries.items → AreFractions r.entries.items
    → i < length r.entries.items → variable_at r.entries.items i ≡ c → row_test n rows b c (plain r) ≡ merged_fits (coefficient_at r.entries.items i) r.entries.items form
unfolding row_test
row_merged n rows b c form r i f asc fr lt is =
    let a = coefficient_at r.entries.items i in
    let a_is : a ≡ coefficient r.entries.items c = coefficient_found r.entries.items i c asc lt is in
    every_same n (λ j. fused_fits (coefficient r.entries.items j) (coefficient r.entries.items c) (scaled_entry rows b c j)) (λ j. fused_fits (coefficient r.entries.items j) a (coefficient form j))
    (λ j l. ap₂ (fused_fits (coefficient r.entries.items j)) (sym a_is) (sym (f.is j)))
    ∙ merged_every n a r.entries.items form (fraction_at r.entries.items i fr lt) fr f.fractions (from_zero r.entries.items asc) f.from f.below

row_lacks : (n : ℕ) (rows : List TableRow) (b c : ℕ) (form : List Entry) (r : Row) → FormRow n rows b c form → AreFractions r.entries.items → Lacks c r.entries.items → row_test n rows b c (plain r) ≡ true
unfolding row_test
row_lacks n rows b c form r f fr lacks =
    every_all n (λ j. fused_fits (coefficient r.entries.items j) (coefficient r.entries.items c) (scaled_entry rows b c j))
    (λ j. ap₂ (fused_fits (coefficient r.entries.items j)) (coefficient_free c r.entries.items (places_free c r.entries.items lacks)) (sym (f.is j))
    ∙ fused_none_fits (coefficient r.entries.items j) (coefficient form j) (fraction_coefficient r.entries.items j fr) (coefficient_positive form j (nonzero_positive form f.nonzero)))

-- ---- the pivot

either_is : (s t : Bool) → t ≡ true → (s || t) ≡ true
either_is true t e = refl
either_is false t e = e

elsewhere : (m b : ℕ) → m ≢ b → eqb m b ≡ false
elsewhere m b ne = by_test (eqb m b) refl
  where
    by_test : (t : Bool) → eqb m b ≡ t → t ≡ false
    by_test true e = absurd (ne (eqb-true m b e))
    by_test false e = refl

form_row : (before : List Row) (n c place : ℕ) (d : Row) (form : List Entry) (q : ℕ) → IsTableau n before → place < length before
    → IsForm (get_or before place d).basic c (get_or before place d).entries.items form q → FormRow n (map plain before) (get_or before place d).basic c form
form_row before n c place d form q t lt f =
    let b = (get_or before place d).basic in
    let es = (get_or before place d).entries.items in
    let facts : FormFacts b c es form q = form_facts b c es form q (t.ascending place d lt) (t.nonzero place d lt) (t.separate place place d lt lt) f in
    record {
      from = facts.from;
      below =
          subst (Below n) (sym f.form_is)
          (below_scaled n (negation_of f.reciprocal) (zero_form f.before b es) (below_zero_form n f.before b es (t.basics place d lt) (below_all n es (λ j le. t.known j place d le lt))));
      nonzero = facts.nonzero;
      fractions = form_fractions b c es form q (t.fractions place d lt) f;
      is = λ j. form_coefficient (map plain before) b c es form q j (row_entries before n place d t lt) (t.ascending place d lt) (t.nonzero place d lt) (t.separate place place d lt lt) f;
    }

pub fitting_fits : (before : List Row) (n c place : ℕ) (d : Row) → IsTableau n before → place < length before → IsFitting c place before d
    → pivot_fits n (map plain before) (get_or before place d).basic c ≡ true
unfolding row_test
fitting_fits before n c place d t lt p =
    ap₂ ◌&&◌
    (form_every n rows b c es f.place f.before f.reciprocal (row_entries before n place d t lt) (t.ascending place d lt) (t.separate place place d lt lt) (below_all n es (λ j le. t.known j place d le lt))
    (t.basics place d lt) f.in_row f.is_entering f.within f.lower f.upper f.exact f.lowest.positive ∙ f.fits)
    (every_rows before (λ r. eqb r.basic b || row_test n rows b c r) row)
  where
    b : ℕ
    b = (get_or before place d).basic

    es : List Entry
    es = (get_or before place d).entries.items

    rows : List TableRow
    rows = map plain before

    f : IsForm b c es p.form p.q
    f = p.is_form

    by_kind : (r : Row) → IsAscending r.entries.items → AreFractions r.entries.items → RowFits c p.form r.entries.items → row_test n rows b c (plain r) ≡ true
    by_kind r asc fr (inl (i, l, is, e)) = row_merged n rows b c p.form r i (form_row before n c place d p.form p.q t lt f) asc fr l is ∙ e
    by_kind r asc fr (inr l) = row_lacks n rows b c p.form r (form_row before n c place d p.form p.q t lt f) fr l

    by_basic : (k : ℕ) → k < length before → ((get_or before k d).basic ≡ b) ⊎ ((get_or before k d).basic ≢ b) → (eqb (get_or before k d).basic b || row_test n rows b c (plain (get_or before k d))) ≡ true
    by_basic k h (inl e) = ap (λ z. z || row_test n rows b c (plain (get_or before k d))) (eq-eqb (get_or before k d).basic b e)
    by_basic k h (inr ne) = either_is (eqb (get_or before k d).basic b) (row_test n rows b c (plain (get_or before k d))) (by_kind (get_or before k d) (t.ascending k d h) (t.fractions k d h) (p.others k h ne))

    row : (k : ℕ) (e : Row) → k < length before → (eqb (get_or before k e).basic b || row_test n rows b c (plain (get_or before k e))) ≡ true
    row k e h =
        subst (λ (r : Row). (eqb r.basic b || row_test n rows b c (plain r)) ≡ true) (default_in before k d e h)
        (by_basic k h (decide (get_or before k d).basic b))
      where
        default_in : (rs : List Row) (i : ℕ) (x y : Row) → i < length rs → get_or rs i x ≡ get_or rs i y
        default_in [] i x y g = absurd (omega arith)
        default_in (r ∷ rs) zero x y g = refl
        default_in (r ∷ rs) (suc i) x y g = default_in rs i x y (omega arith)

pub refused_fails : (before : List Row) (n c place : ℕ) (d : Row) → IsTableau n before → place < length before → IsRefused c place before d
    → pivot_fits n (map plain before) (get_or before place d).basic c ≡ false
unfolding row_test
refused_fails before n c place d t lt (inl f) =
    let b = (get_or before place d).basic in
    let es = (get_or before place d).entries.items in
    let rows = map plain before in
    ap (λ z. z && every_row rows (λ r. eqb r.basic b || row_test n rows b c r))
    (form_every n rows b c es f.place f.before f.reciprocal (row_entries before n place d t lt) (t.ascending place d lt) (t.separate place place d lt lt) (below_all n es (λ j le. t.known j place d le lt))
    (t.basics place d lt) f.in_row f.is_entering f.within f.lower f.upper f.exact f.lowest.positive ∙ f.refused)
refused_fails before n c place d t lt (inr (form, q, f, o)) =
    let b = (get_or before place d).basic in
    let rows = map plain before in
    let r = get_or before o.row d in
    let fails : row_test n rows b c (plain r) ≡ false =
    row_merged n rows b c form r o.refused.place (form_row before n c place d form q t lt f) (t.ascending o.row d o.in_rows) (t.fractions o.row d o.in_rows) o.refused.in_row o.refused.is_entering
    ∙ o.refused.refused in
    ap (λ z. every n (λ j. fit (product_steps (form_entry rows b j) (factor rows b c))) && z)
    (row_fails before (λ w. eqb w.basic b || row_test n rows b c w) o.row d o.in_rows
    (ap (λ z. z || row_test n rows b c (plain r)) (elsewhere r.basic b o.other) ∙ fails))
    ∙ never (every n (λ j. fit (product_steps (form_entry rows b j) (factor rows b c))))

-- through the view, as the methods see it
pub seen : (items before : List Row) (rows : List TableRow) (row : TableRow) (n m c place : ℕ) (v : Bool) → IsTableau n items → map plain items ≡ rows → n ≡ m → place < length rows → before ≡ items
    → ((d : Row) → pivot_fits n (map plain before) (get_or before place d).basic c ≡ v) → pivot_fits m rows (get_or rows place row).basic c ≡ v
seen items before rows row n m c place v t view count lt same h =
    by_first before inside same h
  where
    inside : place < length before
    inside = place_in rows before place (ap (map plain) same ∙ view) lt

    by_first : (bs : List Row) → place < length bs → bs ≡ items → ((d : Row) → pivot_fits n (map plain bs) (get_or bs place d).basic c ≡ v) → pivot_fits m rows (get_or rows place row).basic c ≡ v
    by_first [] l e g = absurd (omega arith)
    by_first (w ∷ ws) l e g =
        let is : map plain (w ∷ ws) ≡ rows = ap (map plain) e ∙ view in
        subst (λ rs. pivot_fits m rs (get_or rs place row).basic c ≡ v) is
        (subst (λ k. pivot_fits k (map plain (w ∷ ws)) (get_or (map plain (w ∷ ws)) place row).basic c ≡ v) count
        (subst (λ (r : TableRow). pivot_fits n (map plain (w ∷ ws)) r.basic c ≡ v) (sym (get_or-map plain (w ∷ ws) place w row l)) (g w)))

here : (items before : List Row) (rows : List TableRow) (n place : ℕ) → IsTableau n items → map plain items ≡ rows → place < length rows → before ≡ items → IsTableau n before × (place < length before)
here items before rows n place t view lt same = (subst (IsTableau n) (sym same) t, place_in rows before place (ap (map plain) same ∙ view) lt)

pub pivot_fits_so : {T E : Type 0} (r : Result T E) (items before new : List Row) (rows : List TableRow) (row : TableRow) (n m c place : ℕ) → IsTableau n items → map plain items ≡ rows → n ≡ m → place < length rows
    → before ≡ items → OnOk r ((d : Row) → IsPivoted c place before new d) → OnOk r (pivot_fits m rows (get_or rows place row).basic c ≡ true)
pivot_fits_so r items before new rows row n m c place t view count lt same ok =
    let h = here items before rows n place t view lt same in
    on_ok_weaker r (λ p. seen items before rows row n m c place true t view count lt same (λ d. fitting_fits before n c place d h.0 h.1 (pivoted_fitting before new c place d (p d)))) ok

pub tried_fits_so : {T E : Type 0} (r : Result T E) (items before new : List Row) (rows : List TableRow) (row : TableRow) (n m c place : ℕ) (ks : List ℕ) → IsTableau n items → map plain items ≡ rows → n ≡ m → place < length rows
    → before ≡ items → ((k : ℕ) (e : Row) → k < length before → IsSameRow (get_or before k e) (get_or new k e)) → OnOk r ((d : Row) → IsTriedPivot c place ks before new d)
    → OnOk r (pivot_fits m rows (get_or rows place row).basic c ≡ true)
tried_fits_so r items before new rows row n m c place ks t view count lt same kept ok =
    let h = here items before rows n place t view lt same in
    on_ok_weaker r (λ p. seen items before rows row n m c place true t view count lt same (λ d. fitting_fits before n c place d h.0 h.1 (tried_fitting before new c place ks d kept (p d)))) ok

pub refused_so : {T : Type 0} (r : Result T Failure) (items before : List Row) (rows : List TableRow) (row : TableRow) (n m c place : ℕ) → IsTableau n items → map plain items ≡ rows → n ≡ m → place < length rows
    → before ≡ items → IfErr r (λ e. IsRange e → (d : Row) → IsRefused c place before d) → IfErr r (λ e. IsRange e → pivot_fits m rows (get_or rows place row).basic c ≡ false)
refused_so r items before rows row n m c place t view count lt same err =
    let h = here items before rows n place t view lt same in
    if_err_then r (λ e p q. seen items before rows row n m c place false t view count lt same (λ d. refused_fails before n c place d h.0 h.1 (p q d))) err
