-- The rows after a pivot are those of the definition.
use Rattle.std.proofs.Common.{◌≡◌, ◌≢◌, ℕ, zero, suc, ◌+◌, ◌<◌, ◌≤◌, ◌⊎◌, inl, inr, pos, negsuc, sym, ap, ap₂, ◌∙◌, subst, refl, arith, List, [], ◌∷◌, length, map, get_or, take, drop, Bool, true, false, cond, eqb, eqb-true, eq-eqb, Some, Result, OnOk, ◌++◌}
use Rattle.std.proofs.lemmas.Bool.Decides.{nat_tests}
use Rattle.std.proofs.lemmas.Result.{on_ok_weaker}
use Rattle.std.proofs.lemmas.List.{get_or-map, length-map}
use Rattle.fraction128.specs.Listed.{product_of, fused, negation_of, reciprocal_of}
use Rattle.fraction128.specs.Number.{whole}
use Rattle.fraction128.specs.declared.Entry.{Entry}
use Rattle.fraction128.specs.declared.TableRow.{TableRow}
use Rattle.fraction128.specs.Grid.{coefficient, row_of, entries_of, entries_from, factor, scaled_entry, pivoted_entry, pivoted_rows}
use Rattle.fraction128.proofs.RowValue.{ArePositive}
use Rattle.tableau.specs.declared.rows.Row.{Row}
use Rattle.tableau.specs.Rows.{IsAscending, zero_form, without, coefficient_at}
use Rattle.tableau.specs.Staged.{Lacks, IsForm, IsPivoted, IsChanged, IsReplaced}
use Rattle.tableau.specs.Table.{IsTableau, AreNonzero, plain}
use Rattle.tableau.proofs.Absent.{fused_none}
use Rattle.tableau.proofs.Coefficients.{Agrees, Below, coefficient_scaled, coefficient_zero_form, coefficient_without, coefficient_merged, entries_are}
use Rattle.tableau.proofs.Shape.{from_zero, places_free, coefficient_free, coefficient_found, nonzero_positive}
use Rattle.tableau.proofs.Kept.{FormFacts, form_facts, tableau_kept}
use Rattle.tableau.proofs.TableLemmas.{items_back, place_in}

-- ---- the row of a basic variable

row_here : (rs : List TableRow) (k : ℕ) (d : TableRow) (b : ℕ) → k < length rs → (get_or rs k d).basic ≡ b → ((i : ℕ) → i < length rs → (get_or rs i d).basic ≡ b → i ≡ k) → row_of rs b ≡ Some (get_or rs k d)
row_here [] k d b lt is only = absurd (omega arith)
row_here (r ∷ rs) zero d b lt is only = ap (λ t. cond t (Some r) (row_of rs b)) (eq-eqb r.basic b is)
row_here (r ∷ rs) (suc k) d b lt is only =
    by_test (row_here rs k d b (omega arith) is (λ i h f. let z : suc i ≡ suc k = only (suc i) (omega arith) f in omega (arith, z))) (eqb r.basic b) refl
  where
    by_test : row_of rs b ≡ Some (get_or rs k d) → (t : Bool) → eqb r.basic b ≡ t → cond t (Some r) (row_of rs b) ≡ Some (get_or rs k d)
    by_test rest true e = absurd (let z : 0 ≡ suc k = only 0 (omega arith) (eqb-true r.basic b e) in omega (arith, z))
    by_test rest false e = rest

map_same : (f : TableRow → TableRow) (before now : List Row) → length now ≡ length before → ((k : ℕ) (d : Row) → k < length before → plain (get_or now k d) ≡ f (plain (get_or before k d))) → map plain now ≡ map f (map plain before)
map_same f [] [] len same = refl
map_same f [] (r ∷ rs) len same = absurd (omega arith)
map_same f (r ∷ rs) [] len same = absurd (omega arith)
map_same f (b ∷ bs) (n ∷ ns) len same = ap₂ ◌∷◌ (same 0 b (omega arith)) (map_same f bs ns (omega arith) (λ k d h. same (suc k) d (omega arith)))

pub below_all : (n : ℕ) (es : List Entry) → ((j : ℕ) → n ≤ j → Lacks j es) → Below n es
below_all n [] h = tt
below_all n (e ∷ es) h = (less (order e.variable n), below_all n es (λ j le k lt. h j le (suc k) (omega arith)))
  where
    less : (e.variable < n) ⊎ (n ≤ e.variable) → e.variable < n
    less (inl lt) = lt
    less (inr le) = absurd (h e.variable le 0 (omega arith) refl)

    order : (m k : ℕ) → (m < k) ⊎ (k ≤ m)
    order m zero = inr (omega arith)
    order zero (suc k) = inl (omega arith)
    order (suc m) (suc k) = on (order m k)
      where
        on : (m < k) ⊎ (k ≤ m) → (suc m < suc k) ⊎ (suc k ≤ suc m)
        on (inl lt) = inl (omega arith)
        on (inr le) = inr (omega arith)

below_from : (n : ℕ) (es : List Entry) → Below n es → Below (0 + n) es
below_from n [] h = tt
below_from n (e ∷ es) h = (omega (arith, h.0), below_from n es h.1)

pub coefficient_positive : (es : List Entry) (j : ℕ) → ArePositive es → 0 < (coefficient es j).denominator
coefficient_positive [] j p = omega arith
coefficient_positive (e ∷ es) j p = by_test (coefficient_positive es j p.1) (eqb e.variable j)
  where
    by_test : 0 < (coefficient es j).denominator → (t : Bool) → 0 < (cond t e.coefficient (coefficient es j)).denominator
    by_test rest true = p.0
    by_test rest false = rest

-- ---- the form of the row that is left

pub form_coefficient : (rows : List TableRow) (b c : ℕ) (es form : List Entry) (q j : ℕ) → entries_of (row_of rows b) ≡ es → IsAscending es → AreNonzero es → Lacks b es → IsForm b c es form q
    → coefficient form j ≡ scaled_entry rows b c j
form_coefficient rows b c es form q j is asc full lacks f =
    let t = negation_of f.reciprocal in
    let at : coefficient_at es f.place ≡ coefficient (entries_of (row_of rows b)) c = coefficient_found es f.place c asc f.in_row f.is_entering ∙ ap (λ xs. coefficient xs c) (sym is) in
    let factor_is : t ≡ factor rows b c = ap negation_of (f.exact ∙ ap reciprocal_of at) in
    ap (λ xs. coefficient xs j) f.form_is
    ∙ coefficient_scaled t (zero_form f.before b es) j f.lowest.positive
    ∙ ap₂ product_of (coefficient_zero_form f.before b es j (places_free b es lacks) ∙ ap (λ xs. cond (eqb j b) (whole (negsuc 0)) (coefficient xs j)) (sym is)) factor_is

-- ---- one row

solved_is : (n : ℕ) (rows : List TableRow) (b c : ℕ) (es form : List Entry) (q : ℕ) (r : Row) (now : Row) → r.basic ≡ b → r.entries.items ≡ es → entries_of (row_of rows b) ≡ es → IsAscending es → AreNonzero es → Lacks b es
    → (f : IsForm b c es form q) → now.basic ≡ c → now.entries.items ≡ without q form → IsAscending now.entries.items → AreNonzero now.entries.items → ((j : ℕ) → n ≤ j → Lacks j now.entries.items)
    → plain now ≡ (record { basic = cond (eqb r.basic b) c r.basic; entries = entries_from 0 n (pivoted_entry rows b c (plain r)) })
solved_is n rows b c es form q r now rb re is asc full lacks f nb ne nasc nfull known =
    ap₂ (λ i xs. let w : TableRow = record { basic = i; entries = xs } in w)
    (nb ∙ sym (ap (λ t. cond t c r.basic) here))
    (sym (entries_are n 0 (pivoted_entry rows b c (plain r)) now.entries.items (from_zero now.entries.items nasc) nfull (below_from n now.entries.items (below_all n now.entries.items known)) agrees))
  where
    here : eqb r.basic b ≡ true
    here = eq-eqb r.basic b rb

    facts : FormFacts b c es form q
    facts = form_facts b c es form q asc full lacks f

    agrees : (j : ℕ) → 0 ≤ j → Agrees (coefficient now.entries.items j) (pivoted_entry rows b c (plain r) j)
    agrees j le =
        inl
        (ap (λ xs. coefficient xs j) ne ∙ coefficient_without q 0 c form j facts.from facts.q_in facts.variable
        ∙ ap (cond (eqb j c) (whole (pos 0))) (form_coefficient rows b c es form q j is asc full lacks f)
        ∙ sym (ap (λ t. cond t (cond (eqb j c) (whole (pos 0)) (scaled_entry rows b c j)) (fused (coefficient r.entries.items j) (coefficient r.entries.items c) (scaled_entry rows b c j))) here))

changed_is : (n : ℕ) (rows : List TableRow) (b c : ℕ) (es form : List Entry) (q : ℕ) (r : Row) (now : Row) → r.basic ≢ b → IsAscending r.entries.items → AreNonzero r.entries.items
    → entries_of (row_of rows b) ≡ es → IsAscending es → AreNonzero es → Lacks b es
    → (f : IsForm b c es form q) → IsChanged c form r now → IsAscending now.entries.items → AreNonzero now.entries.items → ((j : ℕ) → n ≤ j → Lacks j now.entries.items)
    → plain now ≡ (record { basic = cond (eqb r.basic b) c r.basic; entries = entries_from 0 n (pivoted_entry rows b c (plain r)) })
changed_is n rows b c es form q r now other rasc rfull is asc full lacks f ch nasc nfull known =
    ap₂ (λ i xs. let w : TableRow = record { basic = i; entries = xs } in w)
    (ch.0 ∙ sym (ap (λ t. cond t c r.basic) elsewhere))
    (sym (entries_are n 0 (pivoted_entry rows b c (plain r)) now.entries.items (from_zero now.entries.items nasc) nfull (below_from n now.entries.items (below_all n now.entries.items known))
    (λ j le. subst (Agrees (coefficient now.entries.items j)) (sym (target j)) (by_change j ch.1))))
  where
    elsewhere : eqb r.basic b ≡ false
    elsewhere = by_test (eqb r.basic b) refl
      where
        by_test : (t : Bool) → eqb r.basic b ≡ t → t ≡ false
        by_test true e = absurd (other (eqb-true r.basic b e))
        by_test false e = refl

    facts : FormFacts b c es form q
    facts = form_facts b c es form q asc full lacks f

    target : (j : ℕ) → pivoted_entry rows b c (plain r) j ≡ fused (coefficient r.entries.items j) (coefficient r.entries.items c) (coefficient form j)
    target j =
        ap (λ t. cond t (cond (eqb j c) (whole (pos 0)) (scaled_entry rows b c j)) (fused (coefficient r.entries.items j) (coefficient r.entries.items c) (scaled_entry rows b c j))) elsewhere
        ∙ ap (fused (coefficient r.entries.items j) (coefficient r.entries.items c)) (sym (form_coefficient rows b c es form q j is asc full lacks f))

    by_change : (j : ℕ) → IsReplaced c form r.entries.items now.entries.items ⊎ (Lacks c r.entries.items × (now.entries.items ≡ r.entries.items))
        → Agrees (coefficient now.entries.items j) (fused (coefficient r.entries.items j) (coefficient r.entries.items c) (coefficient form j))
    by_change j (inl (i, lt, at, e, fits)) =
        let a = coefficient_at r.entries.items i in
        let a_is : a ≡ coefficient r.entries.items c = coefficient_found r.entries.items i c rasc lt at in
        subst (λ x. Agrees (coefficient now.entries.items j) (fused (coefficient r.entries.items j) x (coefficient form j))) a_is
        (subst (λ xs. Agrees (coefficient xs j) (fused (coefficient r.entries.items j) a (coefficient form j))) (sym e)
        (coefficient_merged a r.entries.items 0 form (subst (λ x. 0 < x.denominator) (sym a_is) (coefficient_positive r.entries.items c (nonzero_positive r.entries.items rfull))) (from_zero r.entries.items rasc) facts.from j))
    by_change j (inr (l, e)) =
        inl
        (ap (λ xs. coefficient xs j) e
        ∙ sym (ap (λ x. fused (coefficient r.entries.items j) x (coefficient form j)) (coefficient_free c r.entries.items (places_free c r.entries.items l))
        ∙ fused_none (coefficient r.entries.items j) (coefficient form j) (coefficient_positive form j (nonzero_positive form facts.nonzero))))

-- ---- all rows

decide_place : (k place : ℕ) → (k ≡ place) ⊎ (k ≢ place)
decide_place k place = by_test (eqb k place) refl
  where
    by_test : (t : Bool) → eqb k place ≡ t → (k ≡ place) ⊎ (k ≢ place)
    by_test true e = inl (eqb-true k place e)
    by_test false e = inr (λ q. grind (arith, nat_tests))

-- the entries of the row at a place are those of its basic variable
pub row_entries : (before : List Row) (n place : ℕ) (d : Row) → IsTableau n before → place < length before
    → entries_of (row_of (map plain before) (get_or before place d).basic) ≡ (get_or before place d).entries.items
row_entries before n place d t lt =
    ap entries_of
    (row_here (map plain before) place (plain d) (get_or before place d).basic (omega (arith, lt, length-map before plain)) (ap (λ (r : TableRow). r.basic) (at place lt))
    (λ i h e. t.distinct i place d (omega (arith, h, length-map before plain)) lt (ap (λ (r : TableRow). r.basic) (sym (at i (omega (arith, h, length-map before plain)))) ∙ e)))
    ∙ ap (λ (r : TableRow). r.entries) (at place lt)
  where
    at : (k : ℕ) → k < length before → get_or (map plain before) k (plain d) ≡ plain (get_or before k d)
    at k h = get_or-map plain before k d (plain d) h

pub rows_are : (before now : List Row) (n c place : ℕ) (d : Row) → IsTableau n before → place < length before → length now ≡ length before → ((e : Row) → IsPivoted c place before now e)
    → map plain now ≡ pivoted_rows n (map plain before) (get_or before place d).basic c
rows_are before now n c place d t lt len pivoted =
    map_same (λ r. record { basic = cond (eqb r.basic b) c r.basic; entries = entries_from 0 n (pivoted_entry rows b c r) }) before now len row
  where
    b : ℕ
    b = (get_or before place d).basic

    rows : List TableRow
    rows = map plain before

    es : List Entry
    es = (get_or before place d).entries.items

    now_is : IsTableau n now
    now_is = tableau_kept before now n c place t lt len pivoted

    row_is : entries_of (row_of rows b) ≡ es
    row_is = row_entries before n place d t lt

    same : (k : ℕ) (e : Row) → k < length before → get_or before k e ≡ get_or before k d
    same k e h = default_in before k e d h
      where
        default_in : (rs : List Row) (i : ℕ) (x y : Row) → i < length rs → get_or rs i x ≡ get_or rs i y
        default_in [] i x y g = absurd (omega arith)
        default_in (r ∷ rs) zero x y g = refl
        default_in (r ∷ rs) (suc i) x y g = default_in rs i x y (omega arith)

    same_now : (k : ℕ) (e : Row) → k < length before → get_or now k e ≡ get_or now k d
    same_now k e h = default_in now k e d (omega arith)
      where
        default_in : (rs : List Row) (i : ℕ) (x y : Row) → i < length rs → get_or rs i x ≡ get_or rs i y
        default_in [] i x y g = absurd (omega arith)
        default_in (r ∷ rs) zero x y g = refl
        default_in (r ∷ rs) (suc i) x y g = default_in rs i x y (omega arith)

    p : IsPivoted c place before now d
    p = pivoted d

    at_place : (k : ℕ) → k < length before → (k ≡ place) ⊎ (k ≢ place)
        → plain (get_or now k d) ≡ (record { basic = cond (eqb (get_or before k d).basic b) c (get_or before k d).basic; entries = entries_from 0 n (pivoted_entry rows b c (plain (get_or before k d))) })
    at_place k h (inl e) =
        solved_is n rows b c es p.form p.q (get_or before k d) (get_or now k d) (ap (λ i. (get_or before i d).basic) e) (ap (λ i. (get_or before i d).entries.items) e) row_is
        (t.ascending place d lt) (t.nonzero place d lt) (t.separate place place d lt lt) p.is_form (ap (λ i. (get_or now i d).basic) e ∙ p.basic) (ap (λ i. (get_or now i d).entries.items) e ∙ p.solved)
        (now_is.ascending k d (omega arith)) (now_is.nonzero k d (omega arith)) (λ j le. now_is.known j k d le (omega arith))
    at_place k h (inr ne) =
        changed_is n rows b c es p.form p.q (get_or before k d) (get_or now k d) (λ e. ne (t.distinct k place d h lt e)) (t.ascending k d h) (t.nonzero k d h) row_is
        (t.ascending place d lt) (t.nonzero place d lt) (t.separate place place d lt lt) p.is_form (p.others k h ne)
        (now_is.ascending k d (omega arith)) (now_is.nonzero k d (omega arith)) (λ j le. now_is.known j k d le (omega arith))

    row : (k : ℕ) (e : Row) → k < length before
        → plain (get_or now k e) ≡ (record { basic = cond (eqb (get_or before k e).basic b) c (get_or before k e).basic; entries = entries_from 0 n (pivoted_entry rows b c (plain (get_or before k e))) })
    row k e h =
        ap plain (same_now k e h) ∙ at_place k h (decide_place k place)
        ∙ ap (λ (r : Row). let w : TableRow = record { basic = cond (eqb r.basic b) c r.basic; entries = entries_from 0 n (pivoted_entry rows b c (plain r)) } in w) (sym (same k e h))

-- through the view, as the method sees it
pub pivot_rows_are : {T E : Type 0} (r : Result T E) (len n c place : ℕ) (items before new : List Row) (rows : List TableRow) (row : TableRow) → IsTableau n items → map plain items ≡ rows → place < length rows → before ≡ items
    → len ≡ length items → length new ≡ length before → OnOk r ((d : Row) → IsPivoted c place before new d)
    → OnOk r (map plain (take len (new ++ drop (length new) items)) ≡ pivoted_rows n rows (get_or rows place row).basic c)
pivot_rows_are r len n c place items before new rows row t view lt same is l ok = on_ok_weaker r by_rows ok
  where
    inside : place < length before
    inside = place_in rows before place (ap (map plain) same ∙ view) lt

    by_rows : ((d : Row) → IsPivoted c place before new d) → map plain (take len (new ++ drop (length new) items)) ≡ pivoted_rows n rows (get_or rows place row).basic c
    by_rows p =
        let d = first before inside in
        ap (map plain) (items_back len new items is (l ∙ ap length same))
        ∙ rows_are before new n c place d (subst (IsTableau n) (sym same) t) inside l p
        ∙ ap₂ (λ rs b. pivoted_rows n rs b c) (ap (map plain) same ∙ view)
        (ap (λ (w : TableRow). w.basic) (sym (get_or-map plain before place d row inside)) ∙ ap (λ rs. (get_or rs place row).basic) (ap (map plain) same ∙ view))
      where
        first : (rs : List Row) → place < length rs → Row
        first [] h = absurd (omega arith)
        first (w ∷ ws) h = w
