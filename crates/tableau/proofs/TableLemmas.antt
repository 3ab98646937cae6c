-- A pivot as a whole.
use Rattle.std.proofs.Common.{◌⊎◌, inl, inr, ◌≡◌, ◌≢◌, ℕ, suc, ◌+◌, ◌<◌, ◌≤◌, sym, ap, ap₂, ◌∙◌, subst, refl, arith, List, [], ◌∷◌, ◌++◌, length, take, drop, get_or, map, ◌↔◌, Result, Ok, Err, OnOk, OnErr, length-append}
use Rattle.std.proofs.lemmas.List.{get_or_append_left, get_or_push, get_or-map, length-map, take-append-le, take_all}
use Rattle.std.proofs.lemmas.List.Elements.{All-map}
use Rattle.std.proofs.lemmas.Bool.{cases_lt}
use Rattle.std.proofs.lemmas.Result.{on_ok_weaker, on_err_weaker}
use Rattle.fraction128.specs.declared.ratio.Ratio.{Ratio}
use Rattle.fraction128.specs.declared.TableRow.{TableRow}
use Rattle.fraction128.specs.declared.Entry.{Entry}
use Rattle.fraction128.specs.Grid.{MeetsRow, MeetsRows}
use Rattle.fraction128.proofs.RationalRing.{number}
use Rattle.fraction128.proofs.RowValue.{dot, meets_to, meets_from}
use Rattle.tableau.specs.declared.rows.Row.{Row}
use Rattle.tableau.specs.Rows.{IsAscending}
use Rattle.tableau.specs.Staged.{IsPivoted, IsSameRow, Lacks}
use Rattle.tableau.specs.Table.{Table, IsTable, IsTableau, AreNonzero, AreFractions, plain, row_at, no_row}
use Rattle.tableau.proofs.Shape.{nonzero_positive}
use Rattle.tableau.proofs.Kept.{tableau_kept, met_before, met_after}

-- a slice written back into its vector
pub items_back : (n : ℕ) (new old : List Row) → n ≡ length old → length new ≡ length old → take n (new ++ drop (length new) old) ≡ new
items_back n new old is len =
    ap (λ m. take m (new ++ drop (length new) old)) (is ∙ sym len) ∙ take-append-le (length new) new (drop (length new) old) (omega arith) ∙ take_all (length new) new (omega arith)

pub either : {T E G P Q : Type 0} (r : Result T E) → OnOk r P → OnErr r Q → (P → G) → (Q → G) → G
either (Ok x) p q f g = f p
either (Err e) p q f g = g q

pub same_kept : (before now : List Row) (n : ℕ) → IsTableau n before → length now ≡ length before
    → ((k : ℕ) (d : Row) → k < length before → IsSameRow (get_or before k d) (get_or now k d)) → IsTableau n now
same_kept before now n t len same =
    record {
      ascending = λ k d h. subst IsAscending (sym (same k d (omega arith)).entries) (t.ascending k d (omega arith));
      nonzero = λ k d h. subst AreNonzero (sym (same k d (omega arith)).entries) (t.nonzero k d (omega arith));
      fractions = λ k d h. subst AreFractions (sym (same k d (omega arith)).entries) (t.fractions k d (omega arith));
      distinct = λ j k d hj hk e.
          t.distinct j k d (omega arith) (omega arith) (sym (same j d (omega arith)).basic ∙ e ∙ (same k d (omega arith)).basic);
      separate = λ j k d hj hk.
          subst (λ es. Lacks (get_or now j d).basic es) (sym (same k d (omega arith)).entries)
          (subst (λ b. Lacks b (get_or before k d).entries.items) (sym (same j d (omega arith)).basic) (t.separate j k d (omega arith) (omega arith)));
      known = λ j k d le hk. subst (Lacks j) (sym (same k d (omega arith)).entries) (t.known j k d le (omega arith));
      basics = λ k d hk. subst (λ b. b < n) (sym (same k d (omega arith)).basic) (t.basics k d (omega arith));
    }

pub pivot_invariant : {T E : Type 0} (r : Result T E) (len n c place : ℕ) (before new now : List Row) → IsTableau n before → place < length before → now ≡ new → length new ≡ length before
    → OnOk r ((d : Row) → IsPivoted c place before new d)
    → OnErr r ((k : ℕ) (d : Row) → k < length before → IsSameRow (get_or before k d) (get_or new k d)) → IsTableau n now
pivot_invariant r len n c place before new now t lt back l ok err =
    subst (IsTableau n) (sym back)
    (either r ok err (tableau_kept before new n c place t lt l) (same_kept before new n t l))

meets_all : (v : ℕ → Ratio) (n : ℕ) (rows : List Row) → IsTableau n rows → ((i : ℕ) → 0 < (v i).denominator) → MeetsRows (map plain rows) v
    → (k : ℕ) (d : Row) → k < length rows → number (v (get_or rows k d).basic) ≡ dot (λ i. number (v i)) (get_or rows k d).entries.items
meets_all v n rows t pos m k d h =
    meets_to v (plain (get_or rows k d)) pos (nonzero_positive (get_or rows k d).entries.items (t.nonzero k d h))
    (subst (MeetsRow v) (get_or-map plain rows k d (plain d) h) (m k (plain d) (omega (arith, length-map rows plain))))

all_meet : (v : ℕ → Ratio) (n : ℕ) (rows : List Row) → IsTableau n rows → ((i : ℕ) → 0 < (v i).denominator)
    → ((k : ℕ) (d : Row) → k < length rows → number (v (get_or rows k d).basic) ≡ dot (λ i. number (v i)) (get_or rows k d).entries.items) → MeetsRows (map plain rows) v
all_meet v n rows t pos m =
    All-map (MeetsRow v) plain rows (λ k d h. meets_from v (plain (get_or rows k d)) pos (nonzero_positive (get_or rows k d).entries.items (t.nonzero k d h)) (m k d h))

pub solutions_kept : (before now : List Row) (n c place : ℕ) → IsTableau n before → place < length before → length now ≡ length before → ((d : Row) → IsPivoted c place before now d)
    → (v : ℕ → Ratio) → ((i : ℕ) → 0 < (v i).denominator) → MeetsRows (map plain now) v ↔ MeetsRows (map plain before) v
solutions_kept before now n c place t lt len pivoted v pos =
    let t' : IsTableau n now = tableau_kept before now n c place t lt len pivoted in (
      λ m. all_meet v n before t pos (met_before before now n c place t lt len pivoted (λ i. number (v i)) (λ k d h. meets_all v n now t' pos m k d (omega arith))),
      λ m. all_meet v n now t' pos
          (λ k d h. met_after before now n c place t lt len pivoted (λ i. number (v i)) (λ j e g. meets_all v n before t pos m j e g) k d (omega arith)),
    )

-- the same rows have one view
pub same_view : (before now : List Row) → length now ≡ length before → ((k : ℕ) (d : Row) → k < length before → IsSameRow (get_or before k d) (get_or now k d))
    → map plain now ≡ map plain before
same_view [] [] len same = refl
same_view [] (r ∷ rs) len same = absurd (omega arith)
same_view (r ∷ rs) [] len same = absurd (omega arith)
same_view (b ∷ bs) (n ∷ ns) len same =
    let one : IsSameRow b n = same 0 b (omega arith) in
    ap₂ ◌∷◌ (ap₂ (λ i es. let r : TableRow = record { basic = i; entries = es } in r) one.basic one.entries)
    (same_view bs ns (omega arith) (λ k d h. same (suc k) d (omega arith)))

pub keeps_solutions : {T E : Type 0} (r : Result T E) (before new now : List Row) (rows : List TableRow) (n c place : ℕ) → IsTableau n before → place < length before → now ≡ new → map plain before ≡ rows
    → length new ≡ length before → OnOk r ((d : Row) → IsPivoted c place before new d)
    → OnOk r ((v : ℕ → Ratio) → ((i : ℕ) → 0 < (v i).denominator) → MeetsRows (map plain now) v ↔ MeetsRows rows v)
keeps_solutions r before new now rows n c place t lt back view len ok =
    on_ok_weaker r
    (λ p v pos. subst (λ rs. MeetsRows (map plain now) v ↔ MeetsRows rs v) view
    (subst (λ rs. MeetsRows (map plain rs) v ↔ MeetsRows (map plain before) v) (sym back) (solutions_kept before new n c place t lt len p v pos)))
    ok

pub place_in : (rows : List TableRow) (before : List Row) (place : ℕ) → map plain before ≡ rows → place < length rows → place < length before
place_in rows before place view lt = omega (arith, lt, ap length view, length-map before plain)

pub pivot_kept : {T E : Type 0} (r : Result T E) (len n c place : ℕ) (items before new : List Row) (rows : List TableRow) → IsTableau n items → map plain items ≡ rows → place < length rows → before ≡ items
    → len ≡ length items → length new ≡ length before → OnOk r ((d : Row) → IsPivoted c place before new d)
    → OnErr r ((k : ℕ) (d : Row) → k < length before → IsSameRow (get_or before k d) (get_or new k d))
    → IsTableau n (take len (new ++ drop (length new) items))
pivot_kept r len n c place items before new rows t view lt same is l ok err =
    pivot_invariant r len n c place before new (take len (new ++ drop (length new) items)) (subst (IsTableau n) (sym same) t)
    (place_in rows before place (ap (map plain) same ∙ view) lt) (items_back len new items is (l ∙ ap length same)) l ok err

pub pivot_keeps : {T E : Type 0} (r : Result T E) (len n c place : ℕ) (items before new : List Row) (rows : List TableRow) → IsTableau n items → map plain items ≡ rows → place < length rows → before ≡ items
    → len ≡ length items → length new ≡ length before → OnOk r ((d : Row) → IsPivoted c place before new d)
    → OnOk r ((v : ℕ → Ratio) → ((i : ℕ) → 0 < (v i).denominator) → MeetsRows (map plain (take len (new ++ drop (length new) items))) v ↔ MeetsRows rows v)
pivot_keeps r len n c place items before new rows t view lt same is l ok =
    keeps_solutions r before new (take len (new ++ drop (length new) items)) rows n c place (subst (IsTableau n) (sym same) t)
    (place_in rows before place (ap (map plain) same ∙ view) lt) (items_back len new items is (l ∙ ap length same)) (ap (map plain) same ∙ view) l ok

pub pivot_same : {T E : Type 0} (r : Result T E) (len : ℕ) (items before new : List Row) → before ≡ items → len ≡ length items → length new ≡ length before
    → OnErr r ((k : ℕ) (d : Row) → k < length before → IsSameRow (get_or before k d) (get_or new k d))
    → OnErr r (map plain (take len (new ++ drop (length new) items)) ≡ map plain items)
pivot_same r len items before new same is l err =
    on_err_weaker r (λ h. ap (map plain) (items_back len new items is (l ∙ ap length same)) ∙ same_view before new l h ∙ ap (map plain) same) err

pub separate_rows : (items : List Row) (rows : List TableRow) (n place : ℕ) (r : Row) (es : List Entry) → IsTableau n items → map plain items ≡ rows → place < length rows
    → r ≡ get_or items place r → es ≡ r.entries.items → (k : ℕ) → k < length rows → Lacks (row_at rows k).basic es
separate_rows items rows n place r es t view hp is es_is k hk =
    let hp' : place < length items = omega (arith, hp, ap length view, length-map items plain) in
    let hk' : k < length items = omega (arith, hk, ap length view, length-map items plain) in
    subst (λ b. Lacks b es) (ap (λ (x : TableRow). x.basic) (sym (get_or-map plain items k r no_row hk') ∙ ap (λ rs. row_at rs k) view))
    (subst (Lacks (get_or items k r).basic) (sym (es_is ∙ ap (λ (x : Row). x.entries.items) is)) (t.separate k place r hk' hp'))

facts_with : (first : Row) (items : List Row) (t : Table) (n : ℕ) → IsTableau n items → (let u : Table = record { count = n; rows = map plain items } in u ≡ t) → IsTable t
facts_with first items t n h e = subst IsTable e
    (record {
      ascending = λ k lt. subst (λ (r : TableRow). IsAscending r.entries) (at k (inside lt)) (h.ascending k first (inside lt));
      nonzero = λ k lt. subst (λ (r : TableRow). AreNonzero r.entries) (at k (inside lt)) (h.nonzero k first (inside lt));
      fractions = λ k lt. subst (λ (r : TableRow). AreFractions r.entries) (at k (inside lt)) (h.fractions k first (inside lt));
      distinct = λ j k lj lk same. h.distinct j k first (inside lj) (inside lk) (ap (λ (r : TableRow). r.basic) (at j (inside lj)) ∙ same ∙ sym (ap (λ (r : TableRow). r.basic) (at k (inside lk))));
      separate = λ j k lj lk. subst (λ (r : TableRow). Lacks r.basic (row_at (map plain items) k).entries) (at j (inside lj))
          (subst (λ (r : TableRow). Lacks (get_or items j first).basic r.entries) (at k (inside lk)) (h.separate j k first (inside lj) (inside lk)));
      known = λ j k le lk. subst (λ (r : TableRow). Lacks j r.entries) (at k (inside lk)) (h.known j k first le (inside lk));
      basics = λ k lk. subst (λ (r : TableRow). r.basic < n) (at k (inside lk)) (h.basics k first (inside lk));
    })
  where
    inside : {k : ℕ} → k < length (map plain items) → k < length items
    inside lt = omega (arith, lt, length-map items plain)

    at : (k : ℕ) → k < length items → plain (get_or items k first) ≡ row_at (map plain items) k
    at k lt = sym (get_or-map plain items k first no_row lt)

pub table_facts : (items : List Row) (t : Table) (n : ℕ) → IsTableau n items → (let u : Table = record { count = n; rows = map plain items } in u ≡ t) → IsTable t
table_facts (r ∷ rs) t n h e = facts_with r (r ∷ rs) t n h e
table_facts [] t n h e = subst IsTable e
    (record {
      ascending = λ k lt. absurd (omega arith);
      nonzero = λ k lt. absurd (omega arith);
      fractions = λ k lt. absurd (omega arith);
      distinct = λ j k lj lk same. absurd (omega arith);
      separate = λ j k lj lk. absurd (omega arith);
      known = λ j k le lk. absurd (omega arith);
      basics = λ k lk. absurd (omega arith);
    })

-- a row with a new basic variable is added
pub row_added : (items : List Row) (n : ℕ) (r : Row) → IsTableau n items → r.basic ≡ n → IsAscending r.entries.items → AreNonzero r.entries.items → AreFractions r.entries.items → ((j : ℕ) → n ≤ j → Lacks j r.entries.items)
    → ((k : ℕ) → k < length (map plain items) → Lacks (row_at (map plain items) k).basic r.entries.items) → IsTableau (n + 1) (items ++ r ∷ [])
row_added items n r t is asc full fractions known open_ =
    record {
      ascending = λ k d lt. by_end k d lt (λ (x : Row). IsAscending x.entries.items) (t.ascending k d) (λ _. asc);
      nonzero = λ k d lt. by_end k d lt (λ (x : Row). AreNonzero x.entries.items) (t.nonzero k d) (λ _. full);
      fractions = λ k d lt. by_end k d lt (λ (x : Row). AreFractions x.entries.items) (t.fractions k d) (λ _. fractions);
      distinct = λ j k d lj lk.
          by_end j d lj (λ (x : Row). x.basic ≡ (get_or (items ++ r ∷ []) k d).basic → j ≡ k)
          (λ hj. by_end k d lk (λ (y : Row). (get_or items j d).basic ≡ y.basic → j ≡ k) (λ hk e. t.distinct j k d hj hk e)
          (λ _ e. let b = t.basics j d hj in absurd (omega (arith, b, e, is))))
          (λ ej. by_end k d lk (λ (y : Row). r.basic ≡ y.basic → j ≡ k) (λ hk e. let b = t.basics k d hk in absurd (omega (arith, b, e, is)))
          (λ ek _. omega (arith, lj, lk, ej, ek, length-append items (r ∷ []))));
      separate = λ j k d lj lk.
          by_end j d lj (λ (x : Row). Lacks x.basic (get_or (items ++ r ∷ []) k d).entries.items)
          (λ hj. by_end k d lk (λ (y : Row). Lacks (get_or items j d).basic y.entries.items) (t.separate j k d hj)
          (λ _. subst (λ (x : TableRow). Lacks x.basic r.entries.items) (get_or-map plain items j d no_row hj) (open_ j (omega (arith, hj, length-map items plain)))))
          (λ _. subst (λ b. Lacks b (get_or (items ++ r ∷ []) k d).entries.items) (sym is)
          (by_end k d lk (λ (y : Row). Lacks n y.entries.items) (λ hk. t.known n k d (omega arith) hk) (λ _. known n (omega arith))));
      known = λ j k d le lk. by_end k d lk (λ (y : Row). Lacks j y.entries.items) (λ hk. t.known j k d (omega arith) hk) (λ _. known j (omega arith));
      basics = λ k d lk. by_end k d lk (λ (y : Row). y.basic < n + 1) (λ hk. let b = t.basics k d hk in omega (arith, b)) (λ _. omega (arith, is));
    }
  where
    by_end : (k : ℕ) (d : Row) → k < length (items ++ r ∷ []) → (P : Row → Type 0) → (k < length items → P (get_or items k d)) → (length items ≤ k → P r) → P (get_or (items ++ r ∷ []) k d)
    by_end k d lt P before last = by_order (cases_lt k (length items))
      where
        by_order : (k < length items) ⊎ (length items ≤ k) → P (get_or (items ++ r ∷ []) k d)
        by_order (inl h) = subst P (sym (get_or_append_left items (r ∷ []) d k h)) (before h)
        by_order (inr h) = subst P (sym (get_or_push items r d k (let e : length items ≡ k = omega (arith, lt, h, length-append items (r ∷ [])) in e))) (last h)

pub pivot_len : (len : ℕ) (items before new : List Row) (rows : List TableRow) → map plain items ≡ rows → before ≡ items → len ≡ length items → length new ≡ length before
    → length (map plain (take len (new ++ drop (length new) items))) ≡ length rows
pivot_len len items before new rows view same is l =
    length-map (take len (new ++ drop (length new) items)) plain ∙ ap length (items_back len new items is (l ∙ ap length same)) ∙ l ∙ ap length same ∙ sym (length-map items plain) ∙ ap length view

basic_of : (items : List Row) (k : ℕ) (d : Row) → k < length items → (row_at (map plain items) k).basic ≡ (get_or items k d).basic
basic_of items k d lt = ap (λ (r : TableRow). r.basic) (get_or-map plain items k d no_row lt)

first_basic : (ns : List Row) (c place : ℕ) → place < length ns → ((d : Row) → (get_or ns place d).basic ≡ c) → (row_at (map plain ns) place).basic ≡ c
first_basic [] c place h p = absurd (omega arith)
first_basic (n ∷ ns) c place h p = basic_of (n ∷ ns) place n h ∙ p n

same_basic : (ns bs : List Row) (k : ℕ) → k < length ns → k < length bs → ((d : Row) → (get_or ns k d).basic ≡ (get_or bs k d).basic) → (row_at (map plain ns) k).basic ≡ (row_at (map plain bs) k).basic
same_basic [] bs k h g p = absurd (omega arith)
same_basic (n ∷ ns) bs k h g p = basic_of (n ∷ ns) k n h ∙ p n ∙ sym (basic_of bs k n g)

pub pivot_entered : {T E : Type 0} (r : Result T E) (len c place : ℕ) (items before new : List Row) (rows : List TableRow) → map plain items ≡ rows → place < length rows → before ≡ items → len ≡ length items
    → length new ≡ length before → OnOk r ((d : Row) → IsPivoted c place before new d)
    → OnOk r ((row_at (map plain (take len (new ++ drop (length new) items))) place).basic ≡ c)
pivot_entered r len c place items before new rows view lt same is l ok =
    let lt' : place < length before = place_in rows before place (ap (map plain) same ∙ view) lt in
    on_ok_weaker r
    (λ p. ap (λ rs. (row_at (map plain rs) place).basic) (items_back len new items is (l ∙ ap length same)) ∙ first_basic new c place (omega (arith, l, lt')) (λ d. (p d).basic))
    ok

pub pivot_others : {T E : Type 0} (r : Result T E) (len c place : ℕ) (items before new : List Row) (rows : List TableRow) → map plain items ≡ rows → before ≡ items → len ≡ length items
    → length new ≡ length before → OnOk r ((d : Row) → IsPivoted c place before new d)
    → OnOk r ((k : ℕ) → k < length rows → k ≢ place → (row_at (map plain (take len (new ++ drop (length new) items))) k).basic ≡ (row_at rows k).basic)
pivot_others r len c place items before new rows view same is l ok =
    on_ok_weaker r
    (λ p k h ne. let lt : k < length before = place_in rows before k (ap (map plain) same ∙ view) h in
    ap (λ rs. (row_at (map plain rs) k).basic) (items_back len new items is (l ∙ ap length same))
    ∙ same_basic new before k (omega (arith, l, lt)) lt (λ d. ((p d).others k lt ne).0)
    ∙ ap (λ rs. (row_at rs k).basic) (ap (map plain) same ∙ view))
    ok

-- rows that were only tried
pub tried_kept : (len n : ℕ) (items before new : List Row) → IsTableau n items → before ≡ items → len ≡ length items → length new ≡ length before
    → ((k : ℕ) (d : Row) → k < length before → IsSameRow (get_or before k d) (get_or new k d)) → IsTableau n (take len (new ++ drop (length new) items))
tried_kept len n items before new t same is l h =
    subst (IsTableau n) (sym (items_back len new items is (l ∙ ap length same))) (same_kept before new n (subst (IsTableau n) (sym same) t) l h)

pub tried_same : (len : ℕ) (items before new : List Row) → before ≡ items → len ≡ length items → length new ≡ length before
    → ((k : ℕ) (d : Row) → k < length before → IsSameRow (get_or before k d) (get_or new k d)) → map plain (take len (new ++ drop (length new) items)) ≡ map plain items
tried_same len items before new same is l h = ap (map plain) (items_back len new items is (l ∙ ap length same)) ∙ same_view before new l h ∙ ap (map plain) same
