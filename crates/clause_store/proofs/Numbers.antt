-- Lists of numbers, none twice: how many there can be.
use Rattle.std.proofs.Common.{◌≡◌, ◌≢◌, ℕ, ◌+◌, ◌-◌, ◌<◌, ◌≤◌, zero, suc, true, List, [], ◌∷◌, ◌++◌, All, Contains, length, get_or, set, take, subst, sym, ap, ◌∙◌, refl, inl, inr, ◌⊎◌, arith}
use Rattle.std.specs.List.{swap_remove}
use Rattle.std.proofs.lemmas.List.{length-set, length_push, map-append, length-map, length-take-le, map-set, take-map, get_or-map, get_or-take, get_or-set_same, get_or-set_other, get_or_default}
use Rattle.std.proofs.lemmas.List.Elements.{All-head, All-cons, All-nil, All-weaker, All-push, All-contains, Contains-get_or}
use Rattle.clause_store.specs.Looks.{AreApart}
use Rattle.clause_store.specs.Room.{rows_of}
use Rattle.clause_store.specs.declared.waits.Wait.{Wait}
use Rattle.clause_store.proofs.Watches.{same_or_apart, below_or_at}
use Rattle.clause_store.proofs.Counting.{AreApart-push}

-- ---- the first number and the rest

pub apart_tail : (x : ℕ) (xs : List ℕ) → AreApart (x ∷ xs) → AreApart xs
apart_tail x xs h = λ i j in-i in-j e. let s : suc i ≡ suc j = h (suc i) (suc j) (omega (arith, in-i)) (omega (arith, in-j)) e in omega arith

pub apart_head : (x : ℕ) (xs : List ℕ) → AreApart (x ∷ xs) → Contains xs x → ⊥
apart_head x xs h c =
    let lt : c.0 < length xs = c.1 in
    let e : 0 ≡ suc c.0 = h 0 (suc c.0) (omega arith) (omega (arith, lt)) (sym (get_or_default xs c.0 0 x lt ∙ c.2)) in
    omega arith

pub apart_cons : (x : ℕ) (xs : List ℕ) → (Contains xs x → ⊥) → AreApart xs → AreApart (x ∷ xs)
apart_cons x xs fresh h zero zero in-i in-j e = refl
apart_cons x xs fresh h zero (suc j) in-i in-j e = let lt : j < length xs = omega (arith, in-j) in absurd (fresh (j, lt, get_or_default xs j x 0 lt ∙ sym e))
apart_cons x xs fresh h (suc i) zero in-i in-j e = let lt : i < length xs = omega (arith, in-i) in absurd (fresh (i, lt, get_or_default xs i x 0 lt ∙ e))
apart_cons x xs fresh h (suc i) (suc j) in-i in-j e = let s : i ≡ j = h i j (omega (arith, in-i)) (omega (arith, in-j)) e in omega arith

-- ---- without one number

pub record Without (ns : List ℕ) (m : ℕ) : Type 0 where
  pub rest : List ℕ
  pub count : length ns ≤ length rest + 1
  pub apart : AreApart rest
  pub from : All (λ i. (i ≡ m → ⊥) × Contains ns i) rest

contains_after : (x : ℕ) (xs : List ℕ) (y : ℕ) → Contains xs y → Contains (x ∷ xs) y
contains_after x xs y c = let lt : c.0 < length xs = c.1 in (suc c.0, omega (arith, lt), c.2)

without_cons : (x : ℕ) (xs : List ℕ) (m : ℕ) → AreApart (x ∷ xs) → Without xs m → (x ≡ m) ⊎ (x ≢ m) → Without (x ∷ xs) m
without_cons x xs m apart w (inl same) = record {
  rest = xs;
  count = omega arith;
  apart = apart_tail x xs apart;
  from = λ k d lt. (λ e. apart_head x xs apart (k, lt, get_or_default xs k x d lt ∙ (e ∙ sym same)), contains_after x xs (get_or xs k d) (k, lt, get_or_default xs k (get_or xs k d) d lt));
}
without_cons x xs m apart w (inr ne) = record {
  rest = x ∷ w.rest;
  count = omega (arith, w.count);
  apart = apart_cons x w.rest (λ c. apart_head x xs apart (All-contains (λ i. (i ≡ m → ⊥) × Contains xs i) w.rest x w.from c).1) w.apart;
  from = All-cons (λ i. (i ≡ m → ⊥) × Contains (x ∷ xs) i) x w.rest (ne, (0, omega arith, refl))
      (All-weaker (λ i. (i ≡ m → ⊥) × Contains xs i) (λ i. (i ≡ m → ⊥) × Contains (x ∷ xs) i) (λ i p. (p.0, contains_after x xs i p.1)) w.rest w.from);
}

pub without : (ns : List ℕ) (m : ℕ) → AreApart ns → Without ns m
without [] m apart = record { rest = []; count = omega arith; apart = apart; from = All-nil (λ i. (i ≡ m → ⊥) × Contains [] i) }
without (x ∷ xs) m apart = without_cons x xs m apart (without xs m (apart_tail x xs apart)) (same_or_apart x m)

-- ---- no more numbers than this

abbrev pub AtMost : (ℕ → Type 0) → ℕ → Type 0
AtMost P n = (ns : List ℕ) → AreApart ns → All P ns → length ns ≤ n

pub at_most_more : (P Q : ℕ → Type 0) (m n : ℕ) → ((i : ℕ) → Q i → (i ≡ m → ⊥) → P i) → AtMost P n → AtMost Q (n + 1)
at_most_more P Q m n back h ns apart all =
    let w : Without ns m = without ns m apart in
    let le : length w.rest ≤ n = h w.rest w.apart (All-weaker (λ i. (i ≡ m → ⊥) × Contains ns i) P (λ i p. back i (All-contains Q ns i all p.1) p.0) w.rest w.from) in
    omega (arith, w.count)

none_below : (ns : List ℕ) → All (λ i. i < 0) ns → length ns ≤ 0
none_below [] all = omega arith
none_below (x ∷ xs) all = let lt : x < 0 = All-head (λ i. i < 0) x xs all in absurd (omega arith)

pub at_most_below : (n : ℕ) → AtMost (λ i. i < n) n
at_most_below zero ns apart all = none_below ns all
at_most_below (suc n) ns apart all =
    let le : length ns ≤ n + 1 = at_most_more (λ i. i < n) (λ i. i < suc n) n n (λ i lt ne. elim (below_or_at i n (omega (arith, lt))) [ inl b ↦ b | inr e ↦ absurd (ne e) ]) (at_most_below n) ns apart all in
    omega arith

-- ---- clauses that wait

pub row_at : (ws : List Wait) (k : ℕ) (w : Wait) → k < length ws → get_or (rows_of ws) k 0 ≡ (get_or ws k w).row
row_at ws k w lt = get_or-map (λ (x : Wait). x.row) ws k w 0 lt

pub rows_count : (ws : List Wait) → length (rows_of ws) ≡ length ws
rows_count ws = length-map ws (λ (x : Wait). x.row)

rows_below : (ws : List Wait) (n : ℕ) → All (λ (w : Wait). w.row < n) ws → All (λ i. i < n) (rows_of ws)
rows_below ws n all k d lt =
    let lt' : k < length ws = omega (arith, rows_count ws) in
    let w : Wait = record { row = 0; literal = record { atom = 0; positive = true }; depth = 0 } in
    subst (λ i. i < n) (sym (get_or_default (rows_of ws) k d 0 lt ∙ row_at ws k w lt')) (all k w lt')

pub few_wait : (ws : List Wait) (n : ℕ) → AreApart (rows_of ws) → All (λ (w : Wait). w.row < n) ws → length ws ≤ n
few_wait ws n apart all = let le : length (rows_of ws) ≤ n = at_most_below n (rows_of ws) apart (rows_below ws n all) in omega (arith, rows_count ws)

pub apart_fresh : (ws : List Wait) (w : Wait) → AreApart (rows_of ws) → ((x : Wait) → Contains ws x → x.row ≡ w.row → ⊥) → AreApart (rows_of (ws ++ w ∷ []))
apart_fresh ws w apart fresh =
    subst AreApart (sym (map-append (λ (x : Wait). x.row) ws (w ∷ [])))
    (AreApart-push (rows_of ws) w.row (λ j lt e. let lt' : j < length ws = omega (arith, rows_count ws) in fresh (get_or ws j w) (Contains-get_or ws j w lt') (sym (row_at ws j w lt') ∙ e)) apart)

-- one more waits, of a clause that doesn't
pub few_fresh : (ws : List Wait) (w : Wait) (n : ℕ) → AreApart (rows_of ws) → All (λ (x : Wait). x.row < n) ws → w.row < n → ((x : Wait) → Contains ws x → x.row ≡ w.row → ⊥) → length ws < n
few_fresh ws w n apart all lt fresh =
    let le : length (ws ++ w ∷ []) ≤ n = few_wait (ws ++ w ∷ []) n (apart_fresh ws w apart fresh) (All-push (λ (x : Wait). x.row < n) ws w all lt) in
    omega (arith, length_push ws w)

-- one is taken out; the last comes to its place
rows_removed : (ws : List Wait) (k : ℕ) (d : Wait) → 0 < length ws → rows_of (swap_remove ws k d) ≡ swap_remove (rows_of ws) k d.row
rows_removed ws k d some =
    let row : Wait → ℕ = λ x. x.row in
    let last : get_or (rows_of ws) (length ws - 1) d.row ≡ (get_or ws (length ws - 1) d).row = get_or-map row ws (length ws - 1) d d.row (omega arith) in
    sym (take-map row (length ws - 1) (set ws k (get_or ws (length ws - 1) d)))
    ∙ (ap (λ xs. take (length ws - 1) xs) (map-set row ws k (get_or ws (length ws - 1) d) ∙ ap (λ n. set (rows_of ws) k n) (sym last))
    ∙ ap (λ n. take (n - 1) (set (rows_of ws) k (get_or (rows_of ws) (n - 1) d.row))) (sym (rows_count ws)))

removed_from : (ns : List ℕ) (k j d : ℕ) → k < length ns → j < length ns - 1 → (p : ℕ) × (p < length ns) × (get_or (swap_remove ns k d) j 0 ≡ get_or ns p 0) × (((j ≡ k) × (p + 1 ≡ length ns)) ⊎ ((j ≢ k) × (p ≡ j)))
removed_from ns k j d lt in' = elim (same_or_apart j k) [
  | inl same ↦ (
    length ns - 1,
    omega arith,
    get_or-take (length ns - 1) (set ns k (get_or ns (length ns - 1) d)) j 0 in' ∙ (ap (λ n. get_or (set ns k (get_or ns (length ns - 1) d)) n 0) same ∙ (get_or-set_same ns k (get_or ns (length ns - 1) d) 0 lt ∙ get_or_default ns (length ns - 1) d 0 (omega arith))),
    inl (same, omega arith),
  )
  | inr ne ↦ (
    j,
    omega arith,
    get_or-take (length ns - 1) (set ns k (get_or ns (length ns - 1) d)) j 0 in' ∙ get_or-set_other ns k j (get_or ns (length ns - 1) d) 0 ne,
    inr (ne, refl),
  )
]

removed_count : (ns : List ℕ) (k d : ℕ) → k < length ns → length (swap_remove ns k d) ≡ length ns - 1
removed_count ns k d lt = length-take-le (length ns - 1) (set ns k (get_or ns (length ns - 1) d)) (omega (arith, length-set ns k (get_or ns (length ns - 1) d)))

apart_without : (ns : List ℕ) (k d : ℕ) → k < length ns → AreApart ns → AreApart (swap_remove ns k d)
apart_without ns k d lt apart = λ i j in-i in-j same.
    let len : length (swap_remove ns k d) ≡ length ns - 1 = removed_count ns k d lt in
    let a = removed_from ns k i d lt (omega arith) in
    let b = removed_from ns k j d lt (omega arith) in
    let e : a.0 ≡ b.0 = apart a.0 b.0 a.1 b.1 (sym a.2 ∙ (same ∙ b.2)) in
    elim a.3 [
      | inl p ↦ let p0 : i ≡ k = p.0 in let p1 : a.0 + 1 ≡ length ns = p.1 in elim b.3 [
        | inl q ↦ p.0 ∙ sym q.0
        | inr q ↦ let q1 : b.0 ≡ j = q.1 in absurd (omega arith)
      ]
      | inr p ↦ let p1 : a.0 ≡ i = p.1 in elim b.3 [
        | inl q ↦ let q1 : b.0 + 1 ≡ length ns = q.1 in absurd (omega arith)
        | inr q ↦ sym p.1 ∙ (e ∙ q.1)
      ]
    ]

pub apart_removed : (ws : List Wait) (k : ℕ) (d : Wait) → k < length ws → AreApart (rows_of ws) → AreApart (rows_of (swap_remove ws k d))
apart_removed ws k d lt apart = subst AreApart (sym (rows_removed ws k d (omega arith))) (apart_without (rows_of ws) k d.row (omega (arith, rows_count ws)) apart)
