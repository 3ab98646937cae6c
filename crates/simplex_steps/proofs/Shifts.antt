-- Moves of rows, listed in any order.
use Rattle.std.proofs.Common.{◌≡◌, ◌≢◌, ℕ, zero, suc, ◌+◌, ◌<◌, ◌≤◌, ◌⊎◌, inl, inr, ℤ, sym, ap, ap₂, ◌∙◌, subst, refl, arith, List, [], ◌∷◌, ◌++◌, length, get_or, take, set, Contains, Bool, true, false, cond}
use Rattle.std.proofs.lemmas.List.{ext_get_or, length-set, get_or_default}
use Rattle.std.proofs.lemmas.List.Elements.{Contains-append_left, Contains-append_right, Contains-append_cases, Contains-get_or}
use Rattle.std.proofs.lemmas.Bool.{cases_eq}
use Rattle.fraction128.specs.declared.ratio.Ratio.{Ratio}
use Rattle.fraction128.specs.Number.{whole, is_zero}
use Rattle.fraction128.specs.Ratio.{IsFraction}
use Rattle.fraction128.specs.Listed.{fused}
use Rattle.fraction128.specs.declared.TableRow.{TableRow}
use Rattle.fraction128.specs.declared.Column.{Column}
use Rattle.fraction128.specs.Grid.{cell, coefficient, every_row}
use Rattle.tableau.specs.Staged.{HasVariable, Lacks}
use Rattle.tableau.specs.Table.{Table, IsTable, row_at}
use Rattle.tableau.proofs.Lists.{in_list, taken_all, one_more}
use Rattle.tableau.proofs.Shape.{coefficient_free, places_free}
use Rattle.simplex_steps.specs.declared.moves.Moved.{Moved}
use Rattle.simplex_steps.specs.Moved.{shift, shifts, AreShifts, shift_fits, applied, with_value, landed}
use Rattle.simplex_steps.specs.State.{column_in, no_column, values}
use Rattle.simplex_steps.proofs.Columns.{VariablesOf, applied_other, applied_keeps, column_same, with_its_value, cell_is, every_all, lacking_fits}

-- ---- the moves of the rows

pub shift_in : (cs : List Column) (i : ℕ) (t : Ratio) (rows : List TableRow) (k : ℕ) (m : Moved) → k < length rows → Contains (shift cs i t (row_at rows k)) m → Contains (shifts cs i t rows) m
shift_in cs i t [] k m lt h = absurd (omega (arith, lt))
shift_in cs i t (r ∷ rs) zero m lt h = Contains-append_left (shift cs i t r) (shifts cs i t rs) m h
shift_in cs i t (r ∷ rs) (suc k) m lt h = Contains-append_right (shift cs i t r) (shifts cs i t rs) m (shift_in cs i t rs k m (omega (arith, lt)) h)

pub shift_of : (cs : List Column) (i : ℕ) (t : Ratio) (rows : List TableRow) (m : Moved) → Contains (shifts cs i t rows) m → (k : ℕ) × (k < length rows) × Contains (shift cs i t (row_at rows k)) m
shift_of cs i t [] m h = let l = h.1 in absurd (omega (arith, l))
shift_of cs i t (r ∷ rs) m h = by_side (λ g. shift_of cs i t rs m g) (Contains-append_cases (shift cs i t r) (shifts cs i t rs) m h)
  where
    by_side : (Contains (shifts cs i t rs) m → (k : ℕ) × (k < length rs) × Contains (shift cs i t (row_at rs k)) m) → Contains (shift cs i t r) m ⊎ Contains (shifts cs i t rs) m
        → (k : ℕ) × (k < length (r ∷ rs)) × Contains (shift cs i t (row_at (r ∷ rs) k)) m
    by_side rest (inl g) = (zero, omega arith, g)
    by_side rest (inr g) = let q = rest g in (suc q.0, let l = q.1 in omega (arith, l), q.2)

single : (z : Bool) (x m : Moved) → Contains (cond z [] (x ∷ [])) m → (z ≡ false) × (x ≡ m)
single true x m h = let l = h.1 in absurd (omega (arith, l))
single false x m (zero, l, e) = (refl, e)
single false x m (suc n, l, e) = absurd (omega (arith, l))

-- the move of the basic variable of a row
abbrev move_of : List Column → ℕ → Ratio → TableRow → Moved
move_of cs i t r = record { variable = r.basic; value = fused (values cs r.basic) (coefficient r.entries i) t }

one_move : (cs : List Column) (i : ℕ) (t : Ratio) (r : TableRow) (m : Moved) → Contains (shift cs i t r) m → (is_zero (coefficient r.entries i) ≡ false) × (move_of cs i t r ≡ m)
one_move cs i t r m h = single (is_zero (coefficient r.entries i)) (move_of cs i t r) m h

-- what a variable that moves gets
abbrev gets : Table → List Column → ℕ → Ratio → ℕ → Ratio
gets t cs i dist b = fused (values cs b) (cell t.rows b i) dist

shift_gets : (t : Table) (cs : List Column) (i : ℕ) (dist : Ratio) (m : Moved) → IsTable t → Contains (shifts cs i dist t.rows) m → m.value ≡ gets t cs i dist m.variable
shift_gets t cs i dist m facts h =
    let q = shift_of cs i dist t.rows m h in
    let e : move_of cs i dist (row_at t.rows q.0) ≡ m = (one_move cs i dist (row_at t.rows q.0) m q.2).1 in
    ap (λ (x : Moved). x.value) (sym e)
    ∙ ap (λ a. fused (values cs (row_at t.rows q.0).basic) a dist) (sym (cell_is t q.0 i facts q.1))
    ∙ ap (λ (x : Moved). gets t cs i dist x.variable) e

pub moves_known : (t : Table) (cs : List Column) (i : ℕ) (dist : Ratio) (ms : List Moved) → IsTable t → length cs ≡ t.count → AreShifts cs i dist t.rows ms → (k : ℕ) (d : Moved) → k < length ms
    → (get_or ms k d).variable < length cs
moves_known t cs i dist ms facts count s k d lt =
    let q = shift_of cs i dist t.rows (get_or ms k d) (s.only (get_or ms k d) (Contains-get_or ms k d lt)) in
    let e = (one_move cs i dist (row_at t.rows q.0) (get_or ms k d) q.2).1 in
    subst (λ n. n < length cs) (ap (λ (x : Moved). x.variable) e) (let b = facts.basics q.0 q.1 in omega (arith, b, count))

-- ---- which variables are listed

abbrev Moves : ℕ → List Moved → Type 0
Moves j ms = (m : Moved) × Contains ms m × (m.variable ≡ j)

later : (x m : Moved) (ms : List Moved) → Contains (x ∷ ms) m → (x ≡ m) ⊎ Contains ms m
later x m ms (zero, l, e) = inl e
later x m ms (suc n, l, e) = inr (n, omega (arith, l), e)

moves_or : (ms : List Moved) (j : ℕ) → Moves j ms ⊎ (Moves j ms → ⊥)
moves_or [] j = inr (λ h. let l = h.1.1 in absurd (omega (arith, l)))
moves_or (x ∷ ms) j = by_case (cases_eq x.variable j) (moves_or ms j)
  where
    by_first : (x.variable ≡ j → ⊥) → (Moves j ms → ⊥) → (m : Moved) → m.variable ≡ j → (x ≡ m) ⊎ Contains ms m → ⊥
    by_first ne none m e (inl w) = ne (ap (λ (y : Moved). y.variable) w ∙ e)
    by_first ne none m e (inr h) = none (m, h, e)

    by_case : (x.variable ≡ j) ⊎ (x.variable ≡ j → ⊥) → Moves j ms ⊎ (Moves j ms → ⊥) → Moves j (x ∷ ms) ⊎ (Moves j (x ∷ ms) → ⊥)
    by_case (inl e) h = inl (x, Contains-append_left (x ∷ []) ms x (zero, omega arith, refl), e)
    by_case (inr ne) (inl h) = inl (h.0, Contains-append_right (x ∷ []) ms h.0 h.1, h.2)
    by_case (inr ne) (inr none) = inr (λ h. by_first ne none h.0 h.2 (later x h.0 ms h.1))

none_moves : (ms : List Moved) (j : ℕ) → (Moves j ms → ⊥) → VariablesOf (λ i. i ≢ j) ms
none_moves [] j h = tt
none_moves (x ∷ ms) j h = (λ e. h (x, Contains-append_left (x ∷ []) ms x (zero, omega arith, refl), e), none_moves ms j (λ g. h (g.0, Contains-append_right (x ∷ []) ms g.0 g.1, g.2)))

-- ---- the columns with the listed values

applied_value : (f : ℕ → Ratio) (ms : List Moved) (cs : List Column) (j : ℕ) → ((m : Moved) → Contains ms m → m.value ≡ f m.variable) → j < length cs → Moves j ms → values (applied ms cs) j ≡ f j
applied_value f [] cs j gives lt h = let l = h.1.1 in absurd (omega (arith, l))
applied_value f (x ∷ ms) cs j gives lt h =
    by_rest (λ g. applied_value f ms ds j (λ m c. gives m (Contains-append_right (x ∷ []) ms m c)) (let e = length-set cs x.variable new in omega (arith, lt, e)) g) (moves_or ms j)
  where
    new : Column
    new = with_value (column_in cs x.variable) x.value

    ds : List Column
    ds = set cs x.variable new

    first : (Moves j ms → ⊥) → (x ≡ h.0) ⊎ Contains ms h.0 → x.variable ≡ j
    first none (inl e) = ap (λ (y : Moved). y.variable) e ∙ h.2
    first none (inr c) = absurd (none (h.0, c, h.2))

    by_rest : (Moves j ms → values (applied ms ds) j ≡ f j) → Moves j ms ⊎ (Moves j ms → ⊥) → values (applied ms ds) j ≡ f j
    by_rest rest (inl g) = rest g
    by_rest rest (inr none) =
        let is : x.variable ≡ j = first none (later x h.0 ms h.1) in
        ap (λ (c : Column). c.value) (applied_other ms ds j (none_moves ms j none))
        ∙ ap (values ds) (sym is)
        ∙ ap (λ (c : Column). c.value) (column_same cs x.variable new (omega (arith, is, lt)))
        ∙ gives x (Contains-append_left (x ∷ []) ms x (zero, omega arith, refl))
        ∙ ap f is

same_applied : (f : ℕ → Ratio) (ms ns : List Moved) (cs : List Column) → ((m : Moved) → Contains ns m → m.value ≡ f m.variable) → ((m : Moved) → Contains ms m → Contains ns m) → ((m : Moved) → Contains ns m → Contains ms m)
    → applied ms cs ≡ applied ns cs
same_applied f ms ns cs gives only each =
    ext_get_or no_column (applied ms cs) (applied ns cs) ((applied_keeps ms cs).count ∙ sym (applied_keeps ns cs).count)
    (λ j lt. let l = (applied_keeps ms cs).count in
    with_its_value (column_in (applied ms cs) j) (column_in cs j) ((applied_keeps ms cs).each j)
    ∙ ap (with_value (column_in cs j)) (by_case j (omega (arith, lt, l)) (moves_or ms j))
    ∙ sym (with_its_value (column_in (applied ns cs) j) (column_in cs j) ((applied_keeps ns cs).each j)))
  where
    by_case : (j : ℕ) → j < length cs → Moves j ms ⊎ (Moves j ms → ⊥) → values (applied ms cs) j ≡ values (applied ns cs) j
    by_case j lt (inl h) =
        applied_value f ms cs j (λ m c. gives m (only m c)) lt h ∙ sym (applied_value f ns cs j gives lt (h.0, only h.0 h.1, h.2))
    by_case j lt (inr none) =
        ap (λ (c : Column). c.value)
        (applied_other ms cs j (none_moves ms j none) ∙ sym (applied_other ns cs j (none_moves ns j (λ h. none (h.0, each h.0 h.1, h.2)))))

pub shifts_landed : (t : Table) (cs : List Column) (i : ℕ) (dist : Ratio) (ms : List Moved) (j : ℕ) (x : Ratio) → IsTable t → AreShifts cs i dist t.rows ms → landed ms cs j x ≡ landed (shifts cs i dist t.rows) cs j x
shifts_landed t cs i dist ms j x facts s =
    ap (λ ds. set ds j (with_value (column_in ds j) x)) (same_applied (gets t cs i dist) ms (shifts cs i dist t.rows) cs (λ m h. shift_gets t cs i dist m facts h) s.only s.each)

-- and then the basic variable gets its bound
pub pivot_landed : (ds es : List Column) (b i : ℕ) (c : Column) (x : Ratio) (k : ℤ) → ds ≡ es → b ≡ i → b < length ds → x ≡ whole k → set ds b (with_value (get_or ds b c) x) ≡ set es i (with_value (column_in es i) (whole k))
pivot_landed ds es b i c x k e f lt g =
    ap (λ y. set ds b (with_value y x)) (get_or_default ds b c no_column lt) ∙ ap (λ z. set ds b (with_value (column_in ds b) z)) g
    ∙ ap₂ (λ zs n. set zs n (with_value (column_in zs n) (whole k))) e f

-- ---- steps of the loop over the rows listed

pub only_more : (cs : List Column) (i : ℕ) (t : Ratio) (rows : List TableRow) (p : ℕ) (before now : List Moved) → p < length rows → now ≡ before ++ shift cs i t (row_at rows p)
    → ((m : Moved) → Contains before m → Contains (shifts cs i t rows) m) → (m : Moved) → Contains now m → Contains (shifts cs i t rows) m
only_more cs i t rows p before now lt e only m h = by_side (Contains-append_cases before (shift cs i t (row_at rows p)) m (subst (λ ms. Contains ms m) e h))
  where
    by_side : Contains before m ⊎ Contains (shift cs i t (row_at rows p)) m → Contains (shifts cs i t rows) m
    by_side (inl c) = only m c
    by_side (inr c) = shift_in cs i t rows p m lt c

-- the moves of the first so many listed rows are listed
abbrev pub HasMoves : List Column → ℕ → Ratio → List TableRow → List ℕ → List Moved → Type 0
HasMoves cs i t rows ks ms = (k : ℕ) → k < length rows → Contains ks k → (m : Moved) → Contains (shift cs i t (row_at rows k)) m → Contains ms m

abbrev pub AllFit : List Column → ℕ → Ratio → List TableRow → List ℕ → Type 0
AllFit cs i t rows ks = (k : ℕ) → k < length rows → Contains ks k → shift_fits cs i t (row_at rows k) ≡ true

pub each_more : (cs : List Column) (i : ℕ) (t : Ratio) (rows : List TableRow) (ks : List ℕ) (n : ℕ) (before now : List Moved) → n < length ks → now ≡ before ++ shift cs i t (row_at rows (get_or ks n 0))
    → HasMoves cs i t rows (take n ks) before → HasMoves cs i t rows (take (n + 1) ks) now
each_more cs i t rows ks n before now ln e each k lk h =
    one_more {D = Unit {0}} {P = λ (j : ℕ) (d : Unit {0}). (m : Moved) → Contains (shift cs i t (row_at rows j)) m → Contains before m} {Q = λ (j : ℕ) (d : Unit {0}). (m : Moved) → Contains (shift cs i t (row_at rows j)) m → Contains now m}
    ks n (length rows) ln
    (λ j d ne g m c. subst (λ ms. Contains ms m) (sym e) (Contains-append_left before (shift cs i t (row_at rows (get_or ks n 0))) m (g m c)))
    (λ l d m c. subst (λ ms. Contains ms m) (sym e) (Contains-append_right before (shift cs i t (row_at rows (get_or ks n 0))) m c))
    (λ j d lj c. each j lj c) k tt lk h

pub each_past : (cs : List Column) (i : ℕ) (t : Ratio) (rows : List TableRow) (ks : List ℕ) (n : ℕ) (ms : List Moved) → n < length ks → (get_or ks n 0 < length rows → ⊥)
    → HasMoves cs i t rows (take n ks) ms → HasMoves cs i t rows (take (n + 1) ks) ms
each_past cs i t rows ks n ms ln past each k lk h =
    one_more {D = Unit {0}} {P = λ (j : ℕ) (d : Unit {0}). (m : Moved) → Contains (shift cs i t (row_at rows j)) m → Contains ms m} {Q = λ (j : ℕ) (d : Unit {0}). (m : Moved) → Contains (shift cs i t (row_at rows j)) m → Contains ms m}
    ks n (length rows) ln (λ j d ne g. g) (λ l d. absurd (past l)) (λ j d lj c. each j lj c) k tt lk h

pub fits_more : (cs : List Column) (i : ℕ) (t : Ratio) (rows : List TableRow) (ks : List ℕ) (n : ℕ) → n < length ks → shift_fits cs i t (row_at rows (get_or ks n 0)) ≡ true
    → AllFit cs i t rows (take n ks) → AllFit cs i t rows (take (n + 1) ks)
fits_more cs i t rows ks n ln new fits k lk h =
    one_more {D = Unit {0}} {P = λ (j : ℕ) (d : Unit {0}). shift_fits cs i t (row_at rows j) ≡ true} {Q = λ (j : ℕ) (d : Unit {0}). shift_fits cs i t (row_at rows j) ≡ true}
    ks n (length rows) ln (λ j d ne g. g) (λ l d. new) (λ j d lj c. fits j lj c) k tt lk h

pub fits_past : (cs : List Column) (i : ℕ) (t : Ratio) (rows : List TableRow) (ks : List ℕ) (n : ℕ) → n < length ks → (get_or ks n 0 < length rows → ⊥)
    → AllFit cs i t rows (take n ks) → AllFit cs i t rows (take (n + 1) ks)
fits_past cs i t rows ks n ln past fits k lk h =
    one_more {D = Unit {0}} {P = λ (j : ℕ) (d : Unit {0}). shift_fits cs i t (row_at rows j) ≡ true} {Q = λ (j : ℕ) (d : Unit {0}). shift_fits cs i t (row_at rows j) ≡ true}
    ks n (length rows) ln (λ j d ne g. g) (λ l d. absurd (past l)) (λ j d lj c. fits j lj c) k tt lk h

-- ---- the rows that aren't listed lack the variable

unlisted : (rows : List TableRow) (ks : List ℕ) (i k : ℕ) → ((n : ℕ) → n < length rows → HasVariable i (row_at rows n).entries → Contains ks n) → k < length rows → (Contains ks k → ⊥) → Lacks i (row_at rows k).entries
unlisted rows ks i k listed lt none n ln is = none (listed k lt (n, ln, is))

pub shifts_done : (cs : List Column) (i : ℕ) (t : Ratio) (rows : List TableRow) (ks : List ℕ) (n : ℕ) (ms : List Moved) → length ks ≤ n
    → ((k : ℕ) → k < length rows → HasVariable i (row_at rows k).entries → Contains ks k)
    → ((m : Moved) → Contains ms m → Contains (shifts cs i t rows) m)
    → ((k : ℕ) → k < length rows → Contains (take n ks) k → (m : Moved) → Contains (shift cs i t (row_at rows k)) m → Contains ms m)
    → AreShifts cs i t rows ms
shifts_done cs i t rows ks n ms end listed only each =
    record { only = only; each = λ m h. let q = shift_of cs i t rows m h in by_list m q.0 q.1 q.2 (in_list ks q.0) }
  where
    by_list : (m : Moved) (k : ℕ) → k < length rows → Contains (shift cs i t (row_at rows k)) m → Contains ks k ⊎ (Contains ks k → ⊥) → Contains ms m
    by_list m k lt h (inl is) = each k lt (taken_all ks n k end is) m h
    by_list m k lt h (inr none) =
        let es = (row_at rows k).entries in
        let z : is_zero (coefficient es i) ≡ false = (one_move cs i t (row_at rows k) m h).0 in
        let w : true ≡ false = sym (ap is_zero (coefficient_free i es (places_free i es (unlisted rows ks i k listed lt none)))) ∙ z in absurd (cc)

pub fits_done : (cs : List Column) (i : ℕ) (t : Ratio) (rows : List TableRow) (ks : List ℕ) (n : ℕ) → length ks ≤ n
    → ((k : ℕ) → k < length rows → HasVariable i (row_at rows k).entries → Contains ks k)
    → ((k : ℕ) → k < length rows → IsFraction (values cs (row_at rows k).basic)) → IsFraction t
    → ((k : ℕ) → k < length rows → Contains (take n ks) k → shift_fits cs i t (row_at rows k) ≡ true)
    → every_row rows (shift_fits cs i t) ≡ true
fits_done cs i t rows ks n end listed fx ft fits = every_all rows (shift_fits cs i t) (λ k lt. by_list k lt (in_list ks k))
  where
    by_list : (k : ℕ) → k < length rows → Contains ks k ⊎ (Contains ks k → ⊥) → shift_fits cs i t (row_at rows k) ≡ true
    by_list k lt (inl is) = fits k lt (taken_all ks n k end is)
    by_list k lt (inr none) = lacking_fits rows cs k i t (fx k lt) ft (unlisted rows ks i k listed lt none)
