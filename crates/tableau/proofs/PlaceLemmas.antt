-- The places of basic variables, as rows change.
use Rattle.std.proofs.Common.{◌≡◌, ◌≢◌, ℕ, ◌+◌, ◌<◌, ◌≤◌, ◌⊎◌, inl, inr, sym, ap, ◌∙◌, subst, refl, arith, List, [], ◌∷◌, ◌++◌, length, get_or, map, set, get_or-set_other, get_or-set_same, Bool, true, false, eqb, eqb-true, eq-eqb, Option, Some, None, IfSome, IfNone, Result, Ok, Err, OnOk, OnErr, take, drop, length-append}
use Rattle.std.proofs.Math.ListN.{length-set}
use Rattle.std.proofs.lemmas.List.{get_or_append_left, get_or_push, get_or-map, length-map, get_or_past, get_or_default}
use Rattle.std.proofs.lemmas.Bool.{cases_lt}
use Rattle.fraction128.specs.declared.TableRow.{TableRow}
use Rattle.fraction128.specs.Grid.{row_of}
use Rattle.tableau.specs.declared.rows.Row.{Row}
use Rattle.tableau.specs.Staged.{IsPivoted, IsSameRow, HasEntry}
use Rattle.tableau.specs.Table.{IsTableau, plain, row_at, no_row}
use Rattle.tableau.specs.Places.{placed, IsPlaced}
use Rattle.tableau.proofs.Kept.{tableau_kept}
use Rattle.tableau.proofs.TableLemmas.{same_kept, items_back, place_in}
use Rattle.tableau.proofs.Places.{row_first, row_none}

-- more variables
pub more : (m n : ℕ) (rows : List Row) → m ≤ n → IsTableau m rows → IsTableau n rows
more m n rows le t =
    record {
      ascending = t.ascending;
      nonzero = t.nonzero;
      fractions = t.fractions;
      distinct = t.distinct;
      separate = t.separate;
      known = λ j k d h lt. t.known j k d (omega (arith, le, h)) lt;
      basics = λ k d lt. let b = t.basics k d lt in omega (arith, b, le);
    }

pub placed_more : (n : ℕ) (rows : List Row) (places : List (Option ℕ)) → IsPlaced n rows places → IsPlaced (n + 1) rows places
placed_more n rows places p = record { within = let w = p.within in omega (arith, w); listed = p.listed; some = p.some; each = p.each }

pub placed_same : (n : ℕ) (rows now : List Row) (places : List (Option ℕ)) → length now ≡ length rows → ((k : ℕ) (d : Row) → k < length rows → IsSameRow (get_or rows k d) (get_or now k d)) → IsPlaced n rows places → IsPlaced n now places
placed_same n rows now places len same p =
    record {
      within = p.within;
      listed = same_kept rows now (length places) p.listed len same;
      some = λ i k e. let r = p.some i k e in (let l = r.0 in omega (arith, l, len), λ d. (same k d r.0).basic ∙ r.1 d);
      each = λ k d lt. let l : k < length rows = omega (arith, lt, len) in subst (λ b. placed places b ≡ Some k) (sym (same k d l).basic) (p.each k d l);
    }

pub placed_unmade : (n : ℕ) (rows now : List Row) (places later : List (Option ℕ)) → now ≡ rows → length places ≤ length later → length later ≤ n + 1 → ((i : ℕ) → placed later i ≡ placed places i) → IsPlaced n rows places → IsPlaced n now later
placed_unmade n rows now places later is least within same p =
    subst (λ rs. IsPlaced n rs later) (sym is)
    (record {
      within = within;
      listed = more (length places) (length later) rows least p.listed;
      some = λ i k e. p.some i k (sym (same i) ∙ e);
      each = λ k d lt. same (get_or rows k d).basic ∙ p.each k d lt;
    })

pub placed_added : (n : ℕ) (rows : List Row) (r : Row) (places later : List (Option ℕ)) → IsTableau n rows → r.basic ≡ n → IsTableau (n + 1) (rows ++ r ∷ []) → length later ≡ r.basic + 1
    → placed later r.basic ≡ Some (length rows) → ((i : ℕ) → i < r.basic → placed later i ≡ placed places i) → IsPlaced n rows places → IsPlaced (n + 1) (rows ++ r ∷ []) later
placed_added n rows r places later t is added len here others p =
    record {
      within = omega (arith, len, is);
      listed = subst (λ m. IsTableau m (rows ++ r ∷ [])) (let e : n + 1 ≡ length later = omega (arith, len, is) in e) added;
      some = λ i k e. by_order i k e (cases_lt i r.basic);
      each = λ k d lt. by_end k d lt (cases_lt k (length rows));
    }
  where
    by_order : (i k : ℕ) → placed later i ≡ Some k → (i < r.basic) ⊎ (r.basic ≤ i) → (k < length (rows ++ r ∷ [])) × ((d : Row) → (get_or (rows ++ r ∷ []) k d).basic ≡ i)
    by_order i k e (inl lt) =
        let q = p.some i k (sym (others i lt) ∙ e) in
        (let l = q.0 in omega (arith, l, length-append rows (r ∷ [])), λ d. ap (λ (x : Row). x.basic) (get_or_append_left rows (r ∷ []) d k q.0) ∙ q.1 d)
    by_order i k e (inr le) = by_same (cases_lt r.basic i)
      where
        by_same : (r.basic < i) ⊎ (i ≤ r.basic) → (k < length (rows ++ r ∷ [])) × ((d : Row) → (get_or (rows ++ r ∷ []) k d).basic ≡ i)
        by_same (inl lt) = absurd (let z : Some k ≡ None = sym e ∙ get_or_past later i None (omega (arith, lt, len)) in cc)
        by_same (inr ge) =
            let at : i ≡ r.basic = omega (arith, le, ge) in
            let place : Some (length rows) ≡ Some k = sym here ∙ ap (placed later) (sym at) ∙ e in
            let same : length rows ≡ k = cc in
            (omega (arith, same, length-append rows (r ∷ [])), λ d. ap (λ (x : Row). x.basic) (get_or_push rows r d k same) ∙ sym at)

    by_end : (k : ℕ) (d : Row) → k < length (rows ++ r ∷ []) → (k < length rows) ⊎ (length rows ≤ k) → placed later (get_or (rows ++ r ∷ []) k d).basic ≡ Some k
    by_end k d lt (inl l) =
        subst (λ (x : Row). placed later x.basic ≡ Some k) (sym (get_or_append_left rows (r ∷ []) d k l))
        (others (get_or rows k d).basic (let b = t.basics k d l in omega (arith, b, is)) ∙ p.each k d l)
    by_end k d lt (inr ge) =
        let same : length rows ≡ k = omega (arith, lt, ge, length-append rows (r ∷ [])) in
        subst (λ (x : Row). placed later x.basic ≡ Some k) (sym (get_or_push rows r d k same)) (here ∙ ap Some same)

-- ---- a pivot

pub entry_listed : (m c : ℕ) (rows : List Row) (place : ℕ) (d : Row) → IsTableau m rows → place < length rows → HasEntry c (get_or rows place d).entries.items → c < m
entry_listed m c rows place d t lt h = by_order (cases_lt c m)
  where
    by_order : (c < m) ⊎ (m ≤ c) → c < m
    by_order (inl l) = l
    by_order (inr ge) = absurd (t.known c place d ge lt h.place h.in_row h.is)

pub entry_within : (n c : ℕ) (rows : List Row) (places : List (Option ℕ)) (place : ℕ) (d : Row) → IsPlaced n rows places → place < length rows → HasEntry c (get_or rows place d).entries.items → c < length places
entry_within n c rows places place d p lt h = entry_listed (length places) c rows place d p.listed lt h

set_here : (xs : List (Option ℕ)) (i : ℕ) (x : Option ℕ) → i < length xs → placed (set xs i x) i ≡ x
set_here xs i x lt = get_or-set_same xs i x None lt

set_there : (xs : List (Option ℕ)) (i j : ℕ) (x : Option ℕ) → j ≢ i → placed (set xs i x) j ≡ placed xs j
set_there xs i j x ne = get_or-set_other xs i j x None ne

differ : (i j : ℕ) → eqb i j ≡ false → i ≢ j
differ i j e q = let z : true ≡ false = sym (eq-eqb i j q) ∙ e in absurd (cc)

-- b leaves, and c takes its place
pub placed_pivoted : (n b c place : ℕ) (rows now : List Row) (places : List (Option ℕ)) (r : Row) → place < length rows → length now ≡ length rows → ((d : Row) → b ≡ (get_or rows place d).basic)
    → HasEntry c (get_or rows place r).entries.items → ((d : Row) → IsPivoted c place rows now d) → IsPlaced n rows places → IsPlaced n now (set (set places b None) c (Some place))
placed_pivoted n b c place rows now places r lt len is entry pivoted p =
    record {
      within = subst (λ m. m ≤ n + 1) (sym same_length) p.within;
      listed = subst (λ m. IsTableau m now) (sym same_length) (tableau_kept rows now (length places) c place p.listed lt len pivoted);
      some = λ i k e. by_entering i k e (eqb i c) refl;
      each = λ k d lk. by_place k d (omega (arith, lk, len)) (eqb k place) refl;
    }
  where
    same_length : length (set (set places b None) c (Some place)) ≡ length places
    same_length = length-set (set places b None) c (Some place) ∙ length-set places b None

    c_within : c < length (set places b None)
    c_within = let l = entry_within n c rows places place r p lt entry in let e = length-set places b None in omega (arith, l, e)

    by_leaving : (i k : ℕ) → i ≢ c → placed (set places b None) i ≡ Some k → (z : Bool) → eqb i b ≡ z → (k < length now) × ((d : Row) → (get_or now k d).basic ≡ i)
    by_leaving i k nc e true w =
        let at : i ≡ b = eqb-true i b w in
        let b_within : b < length places = let l = p.listed.basics place r lt in let q = is r in omega (arith, l, q) in
        absurd (let z : Some k ≡ None = sym e ∙ ap (placed (set places b None)) at ∙ set_here places b None b_within in cc)
    by_leaving i k nc e false w =
        let q = p.some i k (sym (set_there places b i None (differ i b w)) ∙ e) in
        let apart : k ≢ place = (λ same. differ i b w (sym (q.1 r) ∙ ap (λ m. (get_or rows m r).basic) same ∙ sym (is r))) in
        (let l = q.0 in omega (arith, l, len), λ d. ((pivoted d).others k q.0 apart).0 ∙ q.1 d)

    by_entering : (i k : ℕ) → placed (set (set places b None) c (Some place)) i ≡ Some k → (z : Bool) → eqb i c ≡ z → (k < length now) × ((d : Row) → (get_or now k d).basic ≡ i)
    by_entering i k e true w =
        let at : i ≡ c = eqb-true i c w in
        let here : Some place ≡ Some k = sym (set_here (set places b None) c (Some place) c_within) ∙ ap (placed (set (set places b None) c (Some place))) (sym at) ∙ e in
        let same : place ≡ k = cc in
        (omega (arith, lt, len, same), λ d. ap (λ m. (get_or now m d).basic) (sym same) ∙ (pivoted d).basic ∙ sym at)
    by_entering i k e false w = by_leaving i k (differ i c w) (sym (set_there (set places b None) c i (Some place) (differ i c w)) ∙ e) (eqb i b) refl

    by_place : (k : ℕ) (d : Row) → k < length rows → (z : Bool) → eqb k place ≡ z → placed (set (set places b None) c (Some place)) (get_or now k d).basic ≡ Some k
    by_place k d lk true w =
        let at : k ≡ place = eqb-true k place w in
        ap (placed (set (set places b None) c (Some place))) (ap (λ m. (get_or now m d).basic) at ∙ (pivoted d).basic) ∙ set_here (set places b None) c (Some place) c_within ∙ ap Some (sym at)
    by_place k d lk false w =
        let apart : k ≢ place = differ k place w in
        let j = (get_or rows k d).basic in
        let not_c : (get_or rows k d).basic ≢ c = (λ e. p.listed.separate k place r lk lt entry.place entry.in_row (entry.is ∙ sym e ∙ ap (λ (x : Row). x.basic) (get_or_default rows k d r lk))) in
        let not_b : (get_or rows k d).basic ≢ b = (λ e. apart (p.listed.distinct k place d lk lt (e ∙ is d))) in
        ap (placed (set (set places b None) c (Some place))) ((pivoted d).others k lk apart).0
        ∙ set_there (set places b None) c j (Some place) not_c ∙ set_there places b j None not_b ∙ p.each k d lk

pub entry_of : (items : List Row) (rows : List TableRow) (c place : ℕ) → map plain items ≡ rows → place < length rows → HasEntry c (row_at rows place).entries → (d : Row) → HasEntry c (get_or items place d).entries.items
entry_of items rows c place view lt h d =
    subst (λ (r : TableRow). HasEntry c r.entries) (ap (λ rs. row_at rs place) (sym view) ∙ get_or-map plain items place d no_row (place_in rows items place view lt)) h

-- the basic variable and the entering one are listed
pub basic_listed : (n b place : ℕ) (items : List Row) (rows : List TableRow) (places : List (Option ℕ)) (x : Row) → IsPlaced n items places → map plain items ≡ rows → place < length rows → x ≡ get_or items place x → b ≡ x.basic → b < length places
basic_listed n b place items rows places x p view lt is e =
    let l = p.listed.basics place x (place_in rows items place view lt) in
    let same = e ∙ ap (λ (r : Row). r.basic) is in omega (arith, l, same)

pub entering_listed : (n c place : ℕ) (items : List Row) (rows : List TableRow) (places : List (Option ℕ)) (x : Row) → IsPlaced n items places → map plain items ≡ rows → place < length rows → HasEntry c (row_at rows place).entries → c < length places
entering_listed n c place items rows places x p view lt h = entry_within n c items places place x p (place_in rows items place view lt) (entry_of items rows c place view lt h x)

pub pivot_placed : {T E : Type 0} (r : Result T E) (len n b c place : ℕ) (items before new : List Row) (rows : List TableRow) (places later : List (Option ℕ)) (x : Row) → IsPlaced n items places → map plain items ≡ rows
    → place < length rows → before ≡ items → len ≡ length items → length new ≡ length before → x ≡ get_or items place x → b ≡ x.basic → HasEntry c (row_at rows place).entries
    → OnOk r ((d : Row) → IsPivoted c place before new d) → OnErr r ((k : ℕ) (d : Row) → k < length before → IsSameRow (get_or before k d) (get_or new k d))
    → OnOk r (later ≡ set (set places b None) c (Some place)) → OnErr r (later ≡ places) → IsPlaced n (take len (new ++ drop (length new) items)) later
pivot_placed r len n b c place items before new rows places later x p view lt same is l x_is b_is entry ok err moved kept =
    subst (λ rs. IsPlaced n rs later) (sym (items_back len new items is (l ∙ ap length same))) (by_result r ok err moved kept)
  where
    inside : place < length items
    inside = place_in rows items place view lt

    by_result : {T E : Type 0} (q : Result T E) → OnOk q ((d : Row) → IsPivoted c place before new d) → OnErr q ((k : ℕ) (d : Row) → k < length before → IsSameRow (get_or before k d) (get_or new k d))
        → OnOk q (later ≡ set (set places b None) c (Some place)) → OnErr q (later ≡ places) → IsPlaced n new later
    by_result (Ok z) o e m k =
        subst (IsPlaced n new) (sym m)
        (placed_pivoted n b c place items new places x inside (l ∙ ap length same) (λ d. b_is ∙ ap (λ (y : Row). y.basic) (x_is ∙ get_or_default items place x d inside)) (entry_of items rows c place view lt entry x)
        (subst (λ rs. (d : Row) → IsPivoted c place rs new d) same o) p)
    by_result (Err z) o e m k = subst (IsPlaced n new) (sym k) (placed_same n items new places (l ∙ ap length same) (subst (λ rs. (i : ℕ) (d : Row) → i < length rs → IsSameRow (get_or rs i d) (get_or new i d)) same e) p)

pub tried_placed : (len n : ℕ) (items before new : List Row) (places : List (Option ℕ)) → IsPlaced n items places → before ≡ items → len ≡ length items → length new ≡ length before
    → ((k : ℕ) (d : Row) → k < length before → IsSameRow (get_or before k d) (get_or new k d)) → IsPlaced n (take len (new ++ drop (length new) items)) places
tried_placed len n items before new places p same is l h =
    subst (λ rs. IsPlaced n rs places) (sym (items_back len new items is (l ∙ ap length same)))
    (placed_same n items new places (l ∙ ap length same) (subst (λ rs. (i : ℕ) (d : Row) → i < length rs → IsSameRow (get_or rs i d) (get_or new i d)) same h) p)

-- ---- where a row is

abbrev pub IsPlaceOf : List TableRow → ℕ → Option ℕ → Type 0
IsPlaceOf rows v (Some k) = (k < length rows) × ((row_at rows k).basic ≡ v) × (row_of rows v ≡ Some (row_at rows k))
IsPlaceOf rows v None = ((k : ℕ) → k < length rows → (row_at rows k).basic ≢ v) × (row_of rows v ≡ None)

row_basic : (items : List Row) (k : ℕ) (d : Row) → k < length items → (row_at (map plain items) k).basic ≡ (get_or items k d).basic
row_basic items k d lt = ap (λ (r : TableRow). r.basic) (get_or-map plain items k d no_row lt)

place_with : (first : Row) (n : ℕ) (items : List Row) (places : List (Option ℕ)) (v : ℕ) (o : Option ℕ) → IsPlaced n items places → placed places v ≡ o → IsPlaceOf (map plain items) v o
place_with first n items places v (Some k) p e =
    let q = p.some v k e in
    let lt : k < length (map plain items) = let l = q.0 in omega (arith, l, length-map items plain) in
    let is = row_basic items k first q.0 ∙ q.1 first in
    (lt, is, row_first (map plain items) k v lt is (λ i li same. earlier i k q.0 li same (q.1 first)))
  where
    earlier : (i k : ℕ) → k < length items → i < k → (row_at (map plain items) i).basic ≡ v → (get_or items k first).basic ≡ v → ⊥
    earlier i k lk li same at =
        let l : i < length items = omega (arith, li, lk) in
        let z : i ≡ k = p.listed.distinct i k first l lk (sym (row_basic items i first l) ∙ same ∙ sym at) in absurd (omega (arith, z, li))
place_with first n items places v None p e = (none, row_none (map plain items) v none)
  where
    none : (k : ℕ) → k < length (map plain items) → (row_at (map plain items) k).basic ≢ v
    none k lt same =
        let l : k < length items = omega (arith, lt, length-map items plain) in
        let z : Some k ≡ None = sym (p.each k first l) ∙ ap (placed places) (sym (row_basic items k first l) ∙ same) ∙ e in absurd (cc)

place_plain : (n : ℕ) (items : List Row) (places : List (Option ℕ)) (v : ℕ) (o : Option ℕ) → IsPlaced n items places → placed places v ≡ o → IsPlaceOf (map plain items) v o
place_plain n (r ∷ rs) places v o p e = place_with r n (r ∷ rs) places v o p e
place_plain n [] places v (Some k) p e = absurd (let l = (p.some v k e).0 in omega (arith, l))
place_plain n [] places v None p e = (λ k lt. absurd (omega (arith, lt)), refl)

pub place_facts : (n : ℕ) (items : List Row) (rows : List TableRow) (places xs : List (Option ℕ)) (v : ℕ) (o : Option ℕ) → IsPlaced n items places → map plain items ≡ rows → xs ≡ places → o ≡ placed xs v → IsPlaceOf rows v o
place_facts n items rows places xs v o p view same e = subst (λ rs. IsPlaceOf rs v o) view (place_plain n items places v o p (sym (e ∙ ap (λ ys. placed ys v) same)))

pub is_inside : (rows : List TableRow) (v : ℕ) (o : Option ℕ) → IsPlaceOf rows v o → IfSome o (λ k. k < length rows)
is_inside rows v (Some k) h = h.0
is_inside rows v None h = tt

pub is_of : (rows : List TableRow) (v : ℕ) (o : Option ℕ) → IsPlaceOf rows v o → IfSome o (λ k. (row_at rows k).basic ≡ v)
is_of rows v (Some k) h = h.1
is_of rows v None h = tt

pub is_row : (rows : List TableRow) (v : ℕ) (o : Option ℕ) → IsPlaceOf rows v o → IfSome o (λ k. row_of rows v ≡ Some (row_at rows k))
is_row rows v (Some k) h = h.2
is_row rows v None h = tt

pub is_none : (rows : List TableRow) (v : ℕ) (o : Option ℕ) → IsPlaceOf rows v o → IfNone o ((k : ℕ) → k < length rows → (row_at rows k).basic ≢ v)
is_none rows v (Some k) h = tt
is_none rows v None h = h.0

pub is_lacking : (rows : List TableRow) (v : ℕ) (o : Option ℕ) → IsPlaceOf rows v o → IfNone o (row_of rows v ≡ None)
is_lacking rows v (Some k) h = tt
is_lacking rows v None h = h.1
