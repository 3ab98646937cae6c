-- The lists of the rows that have a variable, as rows change.
use Rattle.std.proofs.Common.{◌≡◌, ◌≢◌, ℕ, ◌<◌, ◌≤◌, ◌⊎◌, inl, inr, true, sym, ap, ◌∙◌, subst, arith, List, [], ◌∷◌, ◌++◌, length, length-append, get_or, map, take, drop, Contains, Vec}
use Rattle.std.proofs.lemmas.Bool.{cases_eq, cases_lt}
use Rattle.std.proofs.lemmas.List.{get_or_append_left, get_or_push, get_or-map, length-map}
use Rattle.fraction128.specs.declared.TableRow.{TableRow}
use Rattle.tableau.specs.declared.rows.Row.{Row}
use Rattle.tableau.specs.declared.holders.Change.{Change}
use Rattle.tableau.specs.Rows.{variable_at, IsAscending}
use Rattle.tableau.specs.Staged.{IsPivoted, IsSameRow, IsCommitted, IsTriedPivot, HasVariable, HasEntry}
use Rattle.tableau.specs.Table.{IsTableau, plain, row_at, no_row}
use Rattle.tableau.specs.Holders.{items_at, IsIndexed, IsNoted, KeepsListed}
use Rattle.tableau.proofs.Kept.{tableau_kept}
use Rattle.tableau.proofs.TableLemmas.{same_kept, items_back}
use Rattle.tableau.proofs.PlaceLemmas.{more, entry_listed}
use Rattle.tableau.proofs.PivotLemmas.{pivoted_is}
use Rattle.tableau.proofs.Lists.{in_list, items_get}

-- the same rows, with more listed
pub indexed_same : {Z : Type 0} (before now : List Row) (vs ws : List (Vec ℕ Z)) → length now ≡ length before → ((k : ℕ) (d : Row) → k < length before → IsSameRow (get_or before k d) (get_or now k d))
    → length vs ≤ length ws → ((j k : ℕ) → Contains (items_at vs j) k → Contains (items_at ws j) k) → IsIndexed before vs → IsIndexed now ws
indexed_same before now vs ws len same least keeps p =
    record {
      listed = more (length vs) (length ws) now least (same_kept before now (length vs) p.listed len same);
      each = λ j k d lk has. keeps j k (p.each j k d (omega (arith, lk, len)) (subst (HasVariable j) (same k d (omega (arith, lk, len))).entries has));
    }

pub indexed_more : {Z : Type 0} (rows : List Row) (vs ws : List (Vec ℕ Z)) → length vs ≤ length ws → ((j k : ℕ) → Contains (items_at vs j) k → Contains (items_at ws j) k) → IsIndexed rows vs → IsIndexed rows ws
indexed_more rows vs ws least keeps p =
    record { listed = more (length vs) (length ws) rows least p.listed; each = λ j k d lk has. keeps j k (p.each j k d lk has) }

-- one more row, listed with its variables
pub indexed_added : {Z : Type 0} (rows : List Row) (r : Row) (n : ℕ) (vs ws : List (Vec ℕ Z)) → IsTableau n (rows ++ r ∷ []) → n ≤ length ws
    → ((j k : ℕ) → Contains (items_at vs j) k → Contains (items_at ws j) k)
    → ((i : ℕ) → i < length r.entries.items → variable_at r.entries.items i < length ws → Contains (items_at ws (variable_at r.entries.items i)) (length rows))
    → IsIndexed rows vs → IsIndexed (rows ++ r ∷ []) ws
indexed_added rows r n vs ws added least keeps listed p =
    record { listed = wide; each = λ j k d lk has. by_end j k d lk has (cases_lt k (length rows)) }
  where
    wide : IsTableau (length ws) (rows ++ r ∷ [])
    wide = more n (length ws) (rows ++ r ∷ []) least added

    here : (j : ℕ) → HasVariable j r.entries.items → j < length ws → Contains (items_at ws j) (length rows)
    here j (i, li, is) lt = subst (λ m. Contains (items_at ws m) (length rows)) is (listed i li (subst (λ m. m < length ws) (sym is) lt))

    inside : (j k : ℕ) (d : Row) → k < length (rows ++ r ∷ []) → HasVariable j (get_or (rows ++ r ∷ []) k d).entries.items → (j < length ws) ⊎ (length ws ≤ j) → j < length ws
    inside j k d lk has (inl lt) = lt
    inside j k d lk has (inr ge) = absurd (wide.known j k d ge lk has.0 has.1 has.2)

    by_end : (j k : ℕ) (d : Row) → k < length (rows ++ r ∷ []) → HasVariable j (get_or (rows ++ r ∷ []) k d).entries.items → (k < length rows) ⊎ (length rows ≤ k) → Contains (items_at ws j) k
    by_end j k d lk has (inl l) = keeps j k (p.each j k d l (subst (λ (x : Row). HasVariable j x.entries.items) (get_or_append_left rows (r ∷ []) d k l) has))
    by_end j k d lk has (inr ge) =
        let same : length rows ≡ k = omega (arith, lk, ge, length-append rows (r ∷ [])) in
        subst (λ m. Contains (items_at ws j) m) same
        (here j (subst (λ (x : Row). HasVariable j x.entries.items) (get_or_push rows r d k same) has) (inside j k d lk has (cases_lt j (length ws))))

-- ---- a pivot

pub entering_within : {Z : Type 0} (rows : List Row) (vs : List (Vec ℕ Z)) (c place : ℕ) → IsIndexed rows vs → place < length rows → ((d : Row) → HasEntry c (get_or rows place d).entries.items) → c < length vs
entering_within [] vs c place p lt h = absurd (omega (arith, lt))
entering_within (r ∷ rs) vs c place p lt h = entry_listed (length vs) c (r ∷ rs) place r p.listed lt (h r)

pub list_at : {Z : Type 0} (vs : List (Vec ℕ Z)) (a : ℕ) (v : Vec ℕ Z) (ks : List ℕ) → a < length vs → v ≡ get_or vs a v → ks ≡ v.items → ks ≡ items_at vs a
list_at vs a v ks lt is e = e ∙ ap (λ (w : Vec ℕ _). w.items) is ∙ sym (items_get vs a v lt)

pub listed_at : {Z : Type 0} (rows : List Row) (vs : List (Vec ℕ Z)) (c : ℕ) (ks : List ℕ) → IsIndexed rows vs → ks ≡ items_at vs c → (k : ℕ) (d : Row) → k < length rows → HasVariable c (get_or rows k d).entries.items → Contains ks k
listed_at rows vs c ks p e k d lk has = subst (λ ls. Contains ls k) (sym e) (p.each c k d lk has)

-- the rows that were tried are made
pub made_pivot : {Z : Type 0} (before mid now : List Row) (vs : List (Vec ℕ Z)) (ks ls : List ℕ) (c place : ℕ) → place < length before → length mid ≡ length before → IsIndexed before vs → ks ≡ items_at vs c → ls ≡ items_at vs c
    → ((k : ℕ) (d : Row) → k < length before → IsSameRow (get_or before k d) (get_or mid k d))
    → ((d : Row) → IsTriedPivot c place ks before mid d)
    → ((k : ℕ) (d : Row) → k < length mid → Contains ls k → IsCommitted (get_or mid k d) (get_or now k d))
    → ((k : ℕ) (d : Row) → (Contains ls k → ⊥) → get_or now k d ≡ get_or mid k d)
    → (d : Row) → IsPivoted c place before now d
made_pivot before mid now vs ks ls c place lt len p e f same tried made rest d =
    pivoted_is before mid now c place ks d lt (λ k x lk w. p.listed.distinct k place x lk lt w) (listed_at before vs c ks p e) same (tried d)
    (λ k x lk h. made k x lk (subst (λ ms. Contains ms k) (e ∙ sym f) h)) (λ k x none. rest k x (λ h. none (subst (λ ms. Contains ms k) (f ∙ sym e) h))) len

pub made_ascending : {Z : Type 0} (before now : List Row) (vs : List (Vec ℕ Z)) (c place : ℕ) → place < length before → length now ≡ length before → IsIndexed before vs → ((d : Row) → IsPivoted c place before now d)
    → (k : ℕ) (d : Row) → k < length now → IsAscending (get_or now k d).entries.items
made_ascending before now vs c place lt len p pivoted k d lk = (tableau_kept before now (length vs) c place p.listed lt len pivoted).ascending k d lk

-- the rows that were tried are made, and what they gained is listed
pub indexed_pivoted : {Z : Type 0} (before mid now : List Row) (vs ws us xs : List (Vec ℕ Z)) (changes : List Change) (c place : ℕ) → place < length before → length mid ≡ length before → length now ≡ length mid
    → IsIndexed before vs
    → ((d : Row) → IsPivoted c place before now d)
    → ((k : ℕ) (d : Row) → k < length before → IsSameRow (get_or before k d) (get_or mid k d))
    → ((k : ℕ) (d : Row) → k < length mid → Contains (items_at vs c) k → IsNoted changes k (get_or mid k d))
    → ((j k : ℕ) → Contains (items_at vs j) k → Contains (items_at ws j) k)
    → ((j k : ℕ) → Contains changes (let x : Change = record { variable = j; place = k; gained = true } in x) → j ≢ c → j < length vs → Contains (items_at ws j) k)
    → ((k : ℕ) (d : Row) → k < length mid → Contains (items_at vs c) k → IsCommitted (get_or mid k d) (get_or now k d))
    → ((k : ℕ) (d : Row) → (Contains (items_at vs c) k → ⊥) → get_or now k d ≡ get_or mid k d)
    → KeepsListed now ws us
    → length xs ≡ length vs → ((j : ℕ) → j ≢ c → items_at xs j ≡ items_at us j)
    → IsIndexed now xs
indexed_pivoted before mid now vs ws us xs changes c place lt len len' p pivoted same noted keeps filed made rest forgot count others =
    record { listed = subst (λ n. IsTableau n now) (sym count) kept; each = λ j k d lk has. by_variable j k d lk has (cases_eq j c) }
  where
    kept : IsTableau (length vs) now
    kept = tableau_kept before now (length vs) c place p.listed lt (omega (arith, len, len')) pivoted

    inside : (j k : ℕ) (d : Row) → k < length now → HasVariable j (get_or now k d).entries.items → (j < length vs) ⊎ (length vs ≤ j) → j < length vs
    inside j k d lk has (inl l) = l
    inside j k d lk has (inr ge) = absurd (kept.known j k d ge lk has.0 has.1 has.2)

    -- the row had the variable before
    old : (j k : ℕ) (d : Row) → k < length now → HasVariable j (get_or mid k d).entries.items → Contains (items_at ws j) k
    old j k d lk has =
        let l : k < length before = omega (arith, lk, len, len') in
        keeps j k (p.each j k d l (subst (HasVariable j) (same k d l).entries has))

    gained : (j k : ℕ) (d : Row) → k < length now → j ≢ c → j < length vs → (i : ℕ) → variable_at (get_or mid k d).next.items i ≡ j
        → HasVariable (variable_at (get_or mid k d).next.items i) (get_or mid k d).entries.items
        ⊎ Contains changes (let x : Change = record { variable = variable_at (get_or mid k d).next.items i; place = k; gained = true } in x)
        → Contains (items_at ws j) k
    gained j k d lk ne lj i is (inl had) = old j k d lk (subst (λ n. HasVariable n (get_or mid k d).entries.items) is had)
    gained j k d lk ne lj i is (inr new) = filed j k (subst (λ n. Contains changes (let x : Change = record { variable = n; place = k; gained = true } in x)) is new) ne lj

    by_made : (j k : ℕ) (d : Row) → k < length now → j ≢ c → j < length vs → HasVariable j (get_or now k d).entries.items → IsNoted changes k (get_or mid k d) → IsCommitted (get_or mid k d) (get_or now k d)
        → Contains (items_at ws j) k
    by_made j k d lk ne lj has note (inl m) =
        let next : HasVariable j (get_or mid k d).next.items = subst (HasVariable j) m.2 has in
        gained j k d lk ne lj next.0 next.2 (note m.0 next.0 next.1)
    by_made j k d lk ne lj has note (inr m) = old j k d lk (subst (HasVariable j) m.2 has)

    by_list : (j k : ℕ) (d : Row) → k < length now → j ≢ c → HasVariable j (get_or now k d).entries.items → Contains (items_at vs c) k ⊎ (Contains (items_at vs c) k → ⊥) → Contains (items_at ws j) k
    by_list j k d lk ne has (inl is) =
        let l : k < length mid = omega (arith, lk, len') in
        by_made j k d lk ne (inside j k d lk has (cases_lt j (length vs))) has (noted k d l is) (made k d l is)
    by_list j k d lk ne has (inr none) = old j k d lk (subst (λ (x : Row). HasVariable j x.entries.items) (rest k d none) has)

    by_variable : (j k : ℕ) (d : Row) → k < length now → HasVariable j (get_or now k d).entries.items → (j ≡ c) ⊎ (j ≡ c → ⊥) → Contains (items_at xs j) k
    by_variable j k d lk has (inl e) = absurd (kept.separate place k d (omega (arith, lt, len, len')) lk has.0 has.1 (has.2 ∙ e ∙ sym (pivoted d).basic))
    by_variable j k d lk has (inr ne) =
        subst (λ ks. Contains ks k) (sym (others j ne)) (forgot j k d lk has (by_list j k d lk ne has (in_list (items_at vs c) k)))

-- ---- a slice written back

pub indexed_back : {Z : Type 0} (len : ℕ) (items before new : List Row) (ws : List (Vec ℕ Z)) → before ≡ items → len ≡ length items → length new ≡ length before → IsIndexed new ws
    → IsIndexed (take len (new ++ drop (length new) items)) ws
indexed_back len items before new ws same is l p = subst (λ rs. IsIndexed rs ws) (sym (items_back len new items is (l ∙ ap length same))) p

pub indexed_tried : {Z : Type 0} (len : ℕ) (items before new : List Row) (vs : List (Vec ℕ Z)) → before ≡ items → len ≡ length items → length new ≡ length before
    → ((k : ℕ) (d : Row) → k < length before → IsSameRow (get_or before k d) (get_or new k d)) → IsIndexed items vs
    → IsIndexed (take len (new ++ drop (length new) items)) vs
indexed_tried len items before new vs same is l h p =
    indexed_back len items before new vs same is l
    (indexed_same before new vs vs l h (omega arith) (λ j k c. c) (subst (λ rs. IsIndexed rs vs) (sym same) p))

-- the rows that have a variable, as they are seen
pub holders_listed : {Z : Type 0} (items : List Row) (rows : List TableRow) (vs : List (Vec ℕ Z)) (j : ℕ) → IsIndexed items vs → map plain items ≡ rows
    → (k : ℕ) → k < length rows → HasVariable j (row_at rows k).entries → Contains (items_at vs j) k
holders_listed items rows vs j p view = subst (λ rs. (k : ℕ) → k < length rs → HasVariable j (row_at rs k).entries → Contains (items_at vs j) k) view (plainly items p)
  where
    plainly : (xs : List Row) → IsIndexed xs vs → (k : ℕ) → k < length (map plain xs) → HasVariable j (row_at (map plain xs) k).entries → Contains (items_at vs j) k
    plainly [] q k lt has = absurd (omega arith)
    plainly (x ∷ xs) q k lt has =
        let l : k < length (x ∷ xs) = omega (arith, lt, length-map (x ∷ xs) plain) in
        q.each j k x l (subst (λ (r : TableRow). HasVariable j r.entries) (get_or-map plain (x ∷ xs) k x no_row l) has)
