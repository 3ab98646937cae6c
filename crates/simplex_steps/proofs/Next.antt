-- The next step of a grid, from what its variables show.
use Rattle.std.proofs.Common.{◌≡◌, ◌≢◌, ℕ, ℤ, zero, suc, ◌+◌, ◌<◌, ◌≤◌, ◌⊎◌, inl, inr, pos, sym, ap, ◌∙◌, subst, refl, arith, List, [], ◌∷◌, length, get_or, Bool, true, false, cond, not, eqb, eqb-true, eq-eqb, Option, Some, None}
use Rattle.std.proofs.lemmas.List.{get_or_default}
use Rattle.std.proofs.lemmas.Bool.{cases_lt}
use Rattle.std.proofs.lemmas.Int.{ints}
use Rattle.fraction128.specs.declared.ratio.Ratio.{Ratio}
use Rattle.fraction128.specs.Number.{whole, is_less}
use Rattle.fraction128.specs.Whole.{InRange}
use Rattle.fraction128.specs.declared.Summand.{Summand}
use Rattle.fraction128.specs.declared.Entry.{Entry}
use Rattle.fraction128.specs.declared.Column.{Column}
use Rattle.fraction128.specs.Grid.{move, pivot, cell, is_basic, is_below, is_above, missed, is_crossed, any_crossed, helps, first_place, only_if, with_place, least_outside, least_broken, entering, next_step}
use Rattle.tableau.specs.Rows.{variable_at}
use Rattle.tableau.specs.Staged.{HasEntry, Lacks}
use Rattle.tableau.specs.Table.{Table, IsTable, row_at}
use Rattle.tableau.proofs.Shape.{coefficient_found, coefficient_free, places_free, nonzero_at}
use Rattle.simplex_steps.specs.State.{grid_of, column_in, values, SettledBelow, IsSettled, IsLeastBroken, IsRanged, IsSound}
use Rattle.simplex_steps.specs.declared.find.Turn.{Turn}
use Rattle.simplex_steps.specs.Conflict.{NoneHelps, KnownEntries, IsTarget}
use Rattle.simplex_steps.specs.Run.{IsTurn, AreWithin}
use Rattle.simplex_steps.proofs.Columns.{cell_is, basic_is, basic_place}

-- ---- places

first_is : {A : Type 0} (f : ℕ → Column → Option A) (i : ℕ) (cs : List Column) (j n : ℕ) (x : A) → n ≡ i + j → j < length cs → f n (column_in cs j) ≡ Some x
    → ((m k : ℕ) → k ≡ i + m → m < j → f k (column_in cs m) ≡ None) → first_place f i cs ≡ Some x
first_is f i [] j n x e lt is before = absurd (omega (arith, lt))
first_is f i (c ∷ cs) zero n x e lt is before =
    let at : n ≡ i = omega (arith, e) in
    let here : f i c ≡ Some x = ap (λ m. f m c) (sym at) ∙ is in rw here refl
first_is f i (c ∷ cs) (suc j) n x e lt is before =
    let none : f i c ≡ None = before zero i (omega arith) (omega arith) in
    rw none (first_is f (i + 1) cs j n x (omega (arith, e)) (omega (arith, lt)) is (λ m k q l. before (suc m) k (omega (arith, q)) (omega (arith, l))))

none_is : {A : Type 0} (f : ℕ → Column → Option A) (i : ℕ) (cs : List Column) → ((m k : ℕ) → k ≡ i + m → m < length cs → f k (column_in cs m) ≡ None) → first_place f i cs ≡ None
none_is f i [] h = refl
none_is f i (c ∷ cs) h =
    let none : f i c ≡ None = h zero i (omega arith) (omega arith) in
    rw none (none_is f (i + 1) cs (λ m k q l. h (suc m) k (omega (arith, q)) (omega (arith, l))))

by_bool : {P : Type 0} (z : Bool) → (z ≡ true → P) → (z ≡ false → P) → P
by_bool true f g = f refl
by_bool false f g = g refl

only_none : {A : Type 0} (z : Bool) (o : Option A) → (z ≡ true → o ≡ None) → only_if z o ≡ None
only_none true o h = h refl
only_none false o h = refl

only_true : {A : Type 0} (z : Bool) (o : Option A) → z ≡ true → only_if z o ≡ o
only_true true o e = refl
only_true false o e = absurd (cc)

place_none : {A B : Type 0} (f : A → B) (o : Option A) → o ≡ None → with_place f o ≡ None
place_none f (Some x) h = absurd (cc)
place_none f None h = refl

not_true : (z : Bool) → not z ≡ true → z ≡ false
not_true true h = absurd (cc)
not_true false h = refl

not_false : (z : Bool) → z ≡ false → not z ≡ true
not_false true h = absurd (cc)
not_false false h = refl

-- ---- crossing

pub none_crossed : (cs : List Column) → ((j : ℕ) → j < length cs → is_crossed (column_in cs j) ≡ false) → any_crossed cs ≡ false
none_crossed [] h = refl
none_crossed (c ∷ cs) h =
    let here : is_crossed c ≡ false = h zero (omega arith) in
    rw here (none_crossed cs (λ j lt. h (suc j) (omega (arith, lt))))

pub one_crossed : (cs : List Column) (i : ℕ) → i < length cs → is_crossed (column_in cs i) ≡ true → any_crossed cs ≡ true
one_crossed [] i lt e = absurd (omega (arith, lt))
one_crossed (c ∷ cs) zero lt e = let here : is_crossed c ≡ true = e in rw here refl
one_crossed (c ∷ cs) (suc i) lt e = by_bool (is_crossed c) (λ h. rw h refl) (λ h. rw h (one_crossed cs i (omega (arith, lt)) e))

pub crossed_next : (t : Table) (cs : List Column) (i : ℕ) → i < length cs → is_crossed (column_in cs i) ≡ true → next_step (grid_of t cs) ≡ None
crossed_next t cs i lt e = let h = one_crossed cs i lt e in rw h refl

-- ---- moves

pub next_move : (t : Table) (cs : List Column) (i : ℕ) (k : ℤ) → any_crossed cs ≡ false → SettledBelow t cs i → i < length cs → is_basic t.rows i ≡ false → missed (column_in cs i) ≡ Some k
    → next_step (grid_of t cs) ≡ Some (move i k)
next_move t cs i k uncrossed settled lt free out =
    let outside : least_outside (grid_of t cs) ≡ Some (move i k) =
    first_is (λ j c. only_if (not (is_basic t.rows j)) (with_place (move j) (missed c))) 0 cs i i (move i k) (omega arith) lt
    (only_true (not (is_basic t.rows i)) (with_place (move i) (missed (column_in cs i))) (not_false (is_basic t.rows i) free) ∙ ap (with_place (move i)) out)
    (λ m n e l. let same : n ≡ m = omega (arith, e) in
    only_none (not (is_basic t.rows n)) (with_place (move n) (missed (column_in cs m)))
    (λ w. place_none (move n) (missed (column_in cs m)) (settled m l (ap (is_basic t.rows) (sym same) ∙ not_true (is_basic t.rows n) w)))) in
    rw uncrossed (rw outside refl)

pub none_outside : (t : Table) (cs : List Column) → IsSettled t cs → least_outside (grid_of t cs) ≡ None
none_outside t cs settled =
    none_is (λ j c. only_if (not (is_basic t.rows j)) (with_place (move j) (missed c))) 0 cs
    (λ m n e l. let same : n ≡ m = omega (arith, e) in
    only_none (not (is_basic t.rows n)) (with_place (move n) (missed (column_in cs m)))
    (λ w. place_none (move n) (missed (column_in cs m)) (settled m l (ap (is_basic t.rows) (sym same) ∙ not_true (is_basic t.rows n) w))))

-- ---- pivots

is_none_or : {P : Type 0} (o : Option ℤ) → (o ≡ None → P) → ((k : ℤ) → o ≡ Some k → P) → P
is_none_or (Some k) f g = g k refl
is_none_or None f g = f refl

some_not_none : (o : Option ℤ) (k : ℤ) → o ≡ Some k → o ≢ None
some_not_none (Some x) k e w = absurd (cc)
some_not_none None k e w = absurd (cc)

pub broken_none : (t : Table) (cs : List Column) → IsTable t → IsLeastBroken t.rows cs (length t.rows) None → least_broken (grid_of t cs) ≡ None
broken_none t cs facts h =
    none_is (λ j c. only_if (is_basic t.rows j) (with_place (λ k. (j, k)) (missed c))) 0 cs
    (λ m n e l. let same : n ≡ m = omega (arith, e) in
    only_none (is_basic t.rows n) (with_place (λ k. (n, k)) (missed (column_in cs m)))
    (λ w. place_none (λ k. let p : ℕ × ℤ = (n, k) in p) (missed (column_in cs m))
    (let q = basic_place t n w in subst (λ b. missed (column_in cs b) ≡ None) (q.2 ∙ same) (h q.0 q.1))))

pub broken_some : (t : Table) (cs : List Column) (place : ℕ) (k : ℤ) → IsTable t → length cs ≡ t.count → IsLeastBroken t.rows cs (length t.rows) (Some place) → missed (column_in cs (row_at t.rows place).basic) ≡ Some k
    → least_broken (grid_of t cs) ≡ Some ((row_at t.rows place).basic, k)
broken_some t cs place k facts count h out =
    let b = (row_at t.rows place).basic in
    first_is (λ j c. only_if (is_basic t.rows j) (with_place (λ q. (j, q)) (missed c))) 0 cs b b (b, k) (omega arith) (let l = facts.basics place h.0 in omega (arith, l, count))
    (only_true (is_basic t.rows b) (with_place (λ q. (b, q)) (missed (column_in cs b))) (basic_is t place facts h.0) ∙ ap (with_place (λ q. let p : ℕ × ℤ = (b, q) in p)) out)
    (λ m n e l. let same : n ≡ m = omega (arith, e) in
    only_none (is_basic t.rows n) (with_place (λ q. (n, q)) (missed (column_in cs m)))
    (λ w. place_none (λ q. let p : ℕ × ℤ = (n, q) in p) (missed (column_in cs m))
    (let q = basic_place t n w in
    let at : (row_at t.rows q.0).basic ≡ m = q.2 ∙ same in
    is_none_or (missed (column_in cs m)) (λ v. v)
    (λ x v. let le = h.2 q.0 q.1 (some_not_none (missed (column_in cs (row_at t.rows q.0).basic)) x (ap (λ z. missed (column_in cs z)) at ∙ v)) in absurd (omega (arith, le, l, at))))))

pub next_none : (t : Table) (cs : List Column) → IsTable t → any_crossed cs ≡ false → IsSettled t cs → IsLeastBroken t.rows cs (length t.rows) None → next_step (grid_of t cs) ≡ None
next_none t cs facts uncrossed settled h =
    let outside = none_outside t cs settled in
    let broken = broken_none t cs facts h in
    rw uncrossed (rw outside (rw broken refl))

pub next_stuck : (t : Table) (cs : List Column) (place : ℕ) (k : ℤ) → IsTable t → length cs ≡ t.count → any_crossed cs ≡ false → IsSettled t cs → IsLeastBroken t.rows cs (length t.rows) (Some place)
    → missed (column_in cs (row_at t.rows place).basic) ≡ Some k
    → entering (grid_of t cs) (row_at t.rows place).basic (is_less (values cs (row_at t.rows place).basic) (whole k)) ≡ None → next_step (grid_of t cs) ≡ None
next_stuck t cs place k facts count uncrossed settled h out stuck =
    let outside = none_outside t cs settled in
    let broken = broken_some t cs place k facts count h out in
    rw uncrossed (rw outside (rw broken (rw stuck refl)))

pub next_pivot : (t : Table) (cs : List Column) (place : ℕ) (k : ℤ) (c : ℕ) → IsTable t → length cs ≡ t.count → any_crossed cs ≡ false → IsSettled t cs → IsLeastBroken t.rows cs (length t.rows) (Some place)
    → missed (column_in cs (row_at t.rows place).basic) ≡ Some k
    → entering (grid_of t cs) (row_at t.rows place).basic (is_less (values cs (row_at t.rows place).basic) (whole k)) ≡ Some c → next_step (grid_of t cs) ≡ Some (pivot (row_at t.rows place).basic k c)
next_pivot t cs place k c facts count uncrossed settled h out found =
    let outside = none_outside t cs settled in
    let broken = broken_some t cs place k facts count h out in
    rw uncrossed (rw outside (rw broken (rw found refl)))

-- ---- the variable that enters

has_or_lacks : (es : List Entry) (m : ℕ) → ((q : ℕ) × (q < length es) × (variable_at es q ≡ m)) ⊎ Lacks m es
has_or_lacks [] m = inr (λ k lt e. absurd (omega (arith, lt)))
has_or_lacks (e ∷ es) m = by_test (eqb e.variable m) refl (has_or_lacks es m)
  where
    by_test : (z : Bool) → eqb e.variable m ≡ z → ((q : ℕ) × (q < length es) × (variable_at es q ≡ m)) ⊎ Lacks m es → ((q : ℕ) × (q < length (e ∷ es)) × (variable_at (e ∷ es) q ≡ m)) ⊎ Lacks m (e ∷ es)
    by_test true w rest = inl (zero, omega arith, eqb-true e.variable m w)
    by_test false w (inl p) = inl (suc p.0, let l = p.1 in omega (arith, l), p.2)
    by_test false w (inr lacks) = inr (λ k. here k)
      where
        here : (k : ℕ) → k < length (e ∷ es) → variable_at (e ∷ es) k ≢ m
        here zero lt q = let z : true ≡ false = sym (eq-eqb e.variable m q) ∙ w in absurd (cc)
        here (suc k) lt q = lacks k (omega (arith, lt)) q

-- an entry by its place
abbrev at_entry : List Entry → ℕ → Entry
at_entry es i = get_or es i (record { variable = 0; coefficient = whole (pos 0) })

helps_at : (t : Table) (cs : List Column) (place : ℕ) (rises : Bool) (i : ℕ) → IsTable t → place < length t.rows → i < length (row_at t.rows place).entries
    → helps rises (cell t.rows (row_at t.rows place).basic (variable_at (row_at t.rows place).entries i)) (column_in cs (variable_at (row_at t.rows place).entries i))
    ≡ helps rises (at_entry (row_at t.rows place).entries i).coefficient (column_in cs (at_entry (row_at t.rows place).entries i).variable)
helps_at t cs place rises i facts lt li =
    let es = (row_at t.rows place).entries in
    ap (λ a. helps rises a (column_in cs (variable_at es i))) (cell_is t place (variable_at es i) facts lt ∙ sym (coefficient_found es i (variable_at es i) (facts.ascending place lt) li refl))

lacking : (t : Table) (cs : List Column) (place : ℕ) (rises : Bool) (m : ℕ) → IsTable t → place < length t.rows → Lacks m (row_at t.rows place).entries
    → helps rises (cell t.rows (row_at t.rows place).basic m) (column_in cs m) ≡ false
lacking t cs place rises m facts lt lacks =
    ap (λ a. helps rises a (column_in cs m)) (cell_is t place m facts lt ∙ coefficient_free m (row_at t.rows place).entries (places_free m (row_at t.rows place).entries lacks))

only_false : (z : Bool) (j : ℕ) → z ≡ false → only_if z (Some j) ≡ None
only_false true j e = absurd (cc)
only_false false j e = refl

pub entering_none : (t : Table) (cs : List Column) (place : ℕ) (rises : Bool) → IsTable t → place < length t.rows → NoneHelps cs rises (row_at t.rows place).entries
    → entering (grid_of t cs) (row_at t.rows place).basic rises ≡ None
entering_none t cs place rises facts lt none =
    none_is (λ j c. only_if (helps rises (cell t.rows (row_at t.rows place).basic j) c) (Some j)) 0 cs
    (λ m n e l. let same : n ≡ m = omega (arith, e) in
    only_false (helps rises (cell t.rows (row_at t.rows place).basic n) (column_in cs m)) n
    (ap (λ q. helps rises (cell t.rows (row_at t.rows place).basic q) (column_in cs m)) same ∙ by_kind m (has_or_lacks (row_at t.rows place).entries m)))
  where
    by_kind : (m : ℕ) → ((q : ℕ) × (q < length (row_at t.rows place).entries) × (variable_at (row_at t.rows place).entries q ≡ m)) ⊎ Lacks m (row_at t.rows place).entries
        → helps rises (cell t.rows (row_at t.rows place).basic m) (column_in cs m) ≡ false
    by_kind m (inr lacks) = lacking t cs place rises m facts lt lacks
    by_kind m (inl p) =
        subst (λ q. helps rises (cell t.rows (row_at t.rows place).basic q) (column_in cs q) ≡ false) p.2
        (helps_at t cs place rises p.0 facts lt p.1 ∙ none p.0 (record { variable = 0; coefficient = whole (pos 0) }) p.1)

pub entering_some : (t : Table) (cs : List Column) (place : ℕ) (rises : Bool) (i : ℕ) → IsTable t → length cs ≡ t.count → place < length t.rows → i < length (row_at t.rows place).entries
    → variable_at (row_at t.rows place).entries i < t.count
    → ((d : Entry) → helps rises (get_or (row_at t.rows place).entries i d).coefficient (column_in cs (get_or (row_at t.rows place).entries i d).variable) ≡ true)
    → ((k : ℕ) (d : Entry) → k < i → helps rises (get_or (row_at t.rows place).entries k d).coefficient (column_in cs (get_or (row_at t.rows place).entries k d).variable) ≡ false)
    → entering (grid_of t cs) (row_at t.rows place).basic rises ≡ Some (variable_at (row_at t.rows place).entries i)
entering_some t cs place rises i facts count lt li known yes_ first =
    first_is (λ j c. only_if (helps rises (cell t.rows (row_at t.rows place).basic j) c) (Some j)) 0 cs v v v (omega arith) (omega (arith, known, count))
    (only_true (helps rises (cell t.rows (row_at t.rows place).basic v) (column_in cs v)) (Some v) (helps_at t cs place rises i facts lt li ∙ yes_ (record { variable = 0; coefficient = whole (pos 0) })))
    (λ m n e l. let same : n ≡ m = omega (arith, e) in
    only_false (helps rises (cell t.rows (row_at t.rows place).basic n) (column_in cs m)) n
    (ap (λ q. helps rises (cell t.rows (row_at t.rows place).basic q) (column_in cs m)) same ∙ by_kind m l (has_or_lacks (row_at t.rows place).entries m)))
  where
    v : ℕ
    v = variable_at (row_at t.rows place).entries i

    by_kind : (m : ℕ) → m < v → ((q : ℕ) × (q < length (row_at t.rows place).entries) × (variable_at (row_at t.rows place).entries q ≡ m)) ⊎ Lacks m (row_at t.rows place).entries
        → helps rises (cell t.rows (row_at t.rows place).basic m) (column_in cs m) ≡ false
    by_kind m l (inr lacks) = lacking t cs place rises m facts lt lacks
    by_kind m l (inl p) = by_order (cases_lt p.0 i) (cases_lt i p.0)
      where
        earlier : p.0 < i → helps rises (cell t.rows (row_at t.rows place).basic m) (column_in cs m) ≡ false
        earlier less =
            subst (λ q. helps rises (cell t.rows (row_at t.rows place).basic q) (column_in cs q) ≡ false) p.2
            (helps_at t cs place rises p.0 facts lt p.1 ∙ first p.0 (record { variable = 0; coefficient = whole (pos 0) }) less)

        by_order : (p.0 < i) ⊎ (i ≤ p.0) → (i < p.0) ⊎ (p.0 ≤ i) → helps rises (cell t.rows (row_at t.rows place).basic m) (column_in cs m) ≡ false
        by_order (inl less) w = earlier less
        by_order (inr le) (inl more_) =
            absurd (let up = (facts.ascending place lt).ascends i p.0 more_ p.1 in let e = p.2 in omega (arith, up, e, l))
        by_order (inr le) (inr most) =
            absurd (let same : p.0 ≡ i = omega (arith, le, most) in let e : v ≡ m = ap (variable_at (row_at t.rows place).entries) (sym same) ∙ p.2 in omega (arith, e, l))

-- ---- facts of entries

pub known_entries : (t : Table) (k : ℕ) → IsTable t → k < length t.rows → KnownEntries t.count (row_at t.rows k).entries
known_entries t k facts lt n d ln = by_order (cases_lt (get_or (row_at t.rows k).entries n d).variable t.count)
  where
    by_order : ((get_or (row_at t.rows k).entries n d).variable < t.count) ⊎ (t.count ≤ (get_or (row_at t.rows k).entries n d).variable) → (get_or (row_at t.rows k).entries n d).variable < t.count
    by_order (inl h) = h
    by_order (inr h) =
        absurd (facts.known (get_or (row_at t.rows k).entries n d).variable k h lt n ln (ap (λ (e : Entry). e.variable) (get_or_default (row_at t.rows k).entries n (record { variable = 0; coefficient = whole (pos 0) }) d ln)))

pub has_entry : (t : Table) (place i : ℕ) → IsTable t → place < length t.rows → i < length (row_at t.rows place).entries → HasEntry (variable_at (row_at t.rows place).entries i) (row_at t.rows place).entries
has_entry t place i facts lt li = record { place = i; in_row = li; is = refl; nonzero = (nonzero_at (row_at t.rows place).entries i (facts.nonzero place lt) li).1 }

-- ---- what the search finds

pub record IsChosen (t : Table) (cs : List Column) (place : ℕ) (rises : Bool) (c : ℕ) : Type 0 where
  pub known : c < t.count
  pub entry : HasEntry c (row_at t.rows place).entries
  pub found : entering (grid_of t cs) (row_at t.rows place).basic rises ≡ Some c

pub chosen : (t : Table) (cs : List Column) (place : ℕ) (rises : Bool) (i : ℕ) (es : List Entry) (d : Entry) → IsTable t → length cs ≡ t.count → place < length t.rows → es ≡ (row_at t.rows place).entries → i < length es
    → ((e : Entry) → helps rises (get_or es i e).coefficient (column_in cs (get_or es i e).variable) ≡ true)
    → ((k : ℕ) (e : Entry) → k < i → helps rises (get_or es k e).coefficient (column_in cs (get_or es k e).variable) ≡ false)
    → IsChosen t cs place rises (get_or es i d).variable
chosen t cs place rises i es d facts count lt is li yes_ first =
    let row = (row_at t.rows place).entries in
    let li' : i < length row = subst (λ xs. i < length xs) is li in
    let same : variable_at row i ≡ (get_or es i d).variable =
    ap (λ (e : Entry). e.variable) (get_or_default row i (record { variable = 0; coefficient = whole (pos 0) }) d li' ∙ ap (λ xs. get_or xs i d) (sym is)) in
    let known : variable_at row i < t.count = known_entries t place facts lt i (record { variable = 0; coefficient = whole (pos 0) }) li' in
    subst (IsChosen t cs place rises) same
    (record {
      known = known;
      entry = has_entry t place i facts lt li';
      found = entering_some t cs place rises i facts count lt li' known
          (subst (λ xs. (e : Entry) → helps rises (get_or xs i e).coefficient (column_in cs (get_or xs i e).variable) ≡ true) is yes_)
          (subst (λ xs. (k : ℕ) (e : Entry) → k < i → helps rises (get_or xs k e).coefficient (column_in cs (get_or xs k e).variable) ≡ false) is first);
    })

pub known_row : (t : Table) (cs : List Column) (place : ℕ) (es : List Entry) → IsTable t → length cs ≡ t.count → place < length t.rows → es ≡ (row_at t.rows place).entries → KnownEntries (length cs) es
known_row t cs place es facts count lt is =
    subst (KnownEntries (length cs)) (sym is) (subst (λ n. KnownEntries n (row_at t.rows place).entries) (sym count) (known_entries t place facts lt))

pub none_helps : (t : Table) (cs : List Column) (place : ℕ) (rises : Bool) (es : List Entry) → es ≡ (row_at t.rows place).entries → NoneHelps cs rises es → NoneHelps cs rises (row_at t.rows place).entries
none_helps t cs place rises es is h = subst (NoneHelps cs rises) is h

pub turn_found : (t : Table) (cs : List Column) (turn : Turn) (rises : Bool) → IsTable t → IsSound t cs → IsSettled t cs → IsLeastBroken t.rows cs (length t.rows) (Some turn.place)
    → IsTarget (column_in cs (row_at t.rows turn.place).basic) turn.number rises → turn.entering < t.count → HasEntry turn.entering (row_at t.rows turn.place).entries
    → entering (grid_of t cs) (row_at t.rows turn.place).basic rises ≡ Some turn.entering → IsTurn t cs turn
turn_found t cs turn rises facts s settled h target known entry found =
    record {
      in_rows = h.0;
      known = known;
      entry = entry;
      in_range = target.in_range;
      next = next_pivot t cs turn.place turn.number turn.entering facts s.solution.count s.uncrossed settled h target.outside (ap (entering (grid_of t cs) (row_at t.rows turn.place).basic) target.side ∙ found);
    }

pub stuck_next : (t : Table) (cs : List Column) (place : ℕ) (k : ℤ) (rises : Bool) → IsTable t → IsSound t cs → IsSettled t cs → IsLeastBroken t.rows cs (length t.rows) (Some place)
    → IsTarget (column_in cs (row_at t.rows place).basic) k rises → entering (grid_of t cs) (row_at t.rows place).basic rises ≡ None → next_step (grid_of t cs) ≡ None
stuck_next t cs place k rises facts s settled h target stuck =
    next_stuck t cs place k facts s.solution.count s.uncrossed settled h target.outside (ap (entering (grid_of t cs) (row_at t.rows place).basic) target.side ∙ stuck)

pub all_within : (t : Table) (cs : List Column) → IsSettled t cs → IsLeastBroken t.rows cs (length t.rows) None → AreWithin cs
all_within t cs settled h j lt = by_bool (is_basic t.rows j) (λ w. let q = basic_place t j w in subst (λ b. missed (column_in cs b) ≡ None) q.2 (h q.0 q.1)) (λ w. settled j lt w)

-- ---- the bound that a value misses

below_outside : (s : List Summand) (l u : Option ℤ) (x : Ratio) (k : ℤ) → l ≡ Some k → is_less x (whole k) ≡ true → missed (record { sum = s; lower = l; upper = u; value = x }) ≡ Some k
below_outside s (Some a) u x k e less =
    let same : a ≡ k = cc in
    let w : is_less x (whole a) ≡ true = ap (λ z. is_less x (whole z)) same ∙ less in
    ap (λ z. cond z (Some a) (cond (is_above x u) u None)) w ∙ ap Some same
below_outside s None u x k e less = absurd (cc)

above_outside : (s : List Summand) (l u : Option ℤ) (x : Ratio) (k : ℤ) → is_below x l ≡ false → u ≡ Some k → missed (record { sum = s; lower = l; upper = u; value = x }) ≢ None
    → (is_less (whole k) x ≡ true) × (missed (record { sum = s; lower = l; upper = u; value = x }) ≡ Some k)
above_outside s l (Some b) x k low e out = by_test (is_less (whole b) x) refl
  where
    same : b ≡ k
    same = cc

    step : missed (record { sum = s; lower = l; upper = Some b; value = x }) ≡ cond (is_less (whole b) x) (Some b) None
    step = ap (λ z. cond z l (cond (is_less (whole b) x) (Some b) None)) low

    by_test : (z : Bool) → is_less (whole b) x ≡ z → (is_less (whole k) x ≡ true) × (missed (record { sum = s; lower = l; upper = Some b; value = x }) ≡ Some k)
    by_test true w = (ap (λ z. is_less (whole z) x) (sym same) ∙ w, step ∙ ap (λ z. cond z (Some b) None) w ∙ ap Some same)
    by_test false w = absurd (out (step ∙ ap (λ z. cond z (Some b) None) w))
above_outside s l None x k low e out = absurd (cc)

not_both : (x y : Ratio) → is_less x y ≡ true → is_less y x ≡ false
not_both x y h = grind (arith, ints)

pub target_below : (c : Column) (k : ℤ) → IsRanged c.lower → c.lower ≡ Some k → is_less c.value (whole k) ≡ true → IsTarget c k true
target_below c k r e less =
    record {
      outside = below_outside c.sum c.lower c.upper c.value k e less;
      in_range = subst IsRanged e r;
      side = less;
      below = λ _. e;
      above = λ w. absurd (cc);
    }

pub target_above : (c : Column) (k : ℤ) → missed c ≢ None → IsRanged c.upper → is_below c.value c.lower ≡ false → c.upper ≡ Some k → IsTarget c k false
target_above c k out r low e =
    let q = above_outside c.sum c.lower c.upper c.value k low e out in
    record {
      outside = q.1;
      in_range = subst IsRanged e r;
      side = not_both (whole k) c.value q.0;
      below = λ w. absurd (cc);
      above = λ _. (e, q.0);
    }

pub missed_ranged : (c : Column) (k : ℤ) → IsRanged c.lower → IsRanged c.upper → missed c ≡ Some k → InRange k
missed_ranged c k rl ru m = by_bounds c.value c.lower c.upper rl ru m
  where
    by_upper : (o : Option ℤ) (t : Bool) → IsRanged o → cond t o None ≡ Some k → InRange k
    by_upper (Some u) true r e = let same : u ≡ k = cc in subst InRange same r
    by_upper (Some u) false r e = absurd (cc)
    by_upper None true r e = absurd (cc)
    by_upper None false r e = absurd (cc)

    by_lower : (o p : Option ℤ) (t w : Bool) → IsRanged o → IsRanged p → cond t o (cond w p None) ≡ Some k → InRange k
    by_lower o p true w r q e = by_upper o true r e
    by_lower o p false w r q e = by_upper p w q e

    by_bounds : (x : Ratio) (o p : Option ℤ) → IsRanged o → IsRanged p → missed (record { sum = c.sum; lower = o; upper = p; value = x }) ≡ Some k → InRange k
    by_bounds x o p r q e = by_lower o p (is_below x o) (is_above x p) r q e
