-- Lists of watches with no clause twice, each of clauses that the list's literal watches.
use Rattle.std.proofs.Common.{◌≡◌, ◌≢◌, ℕ, ◌+◌, ◌-◌, ◌<◌, List, [], ◌∷◌, ◌++◌, All, Contains, length, get_or, set, subst, sym, ap, ◌∙◌, refl, inl, inr, ◌⊎◌, arith}
use Rattle.std.specs.List.{swap_remove}
use Rattle.std.proofs.lemmas.List.{length-set, set-set, length_push, get_or-set_same, get_or-set_other, get_or_append_left, get_or_push, get_or_default}
use Rattle.std.proofs.lemmas.List.Elements.{All-set, All-push, All-get_or}
use Rattle.literals.specs.Signed.{Signed, packed}
use Rattle.clause_store.specs.Entries.{Entry, entry_at, watches_of, IsOther}
use Rattle.clause_store.specs.Watching.{IsOwn, IsOnce, IsTidy, no_watch}
use Rattle.clause_store.specs.declared.lists.Watch.{Watch}
use Rattle.clause_store.proofs.Watches.{same_or_apart, below_or_at, removed_other, removed_here, removed_length, All-removed}
use Rattle.clause_store.proofs.Sweeping.{entry_at-same, entry_at-other, watches_of-same, watches_of-other, equal_or_apart, watched}

-- ---- a list with no clause twice

abbrev pub row_at : List Watch → ℕ → ℕ
row_at ws k = (get_or ws k no_watch).row

row_set : (ws : List Watch) (k i : ℕ) (w : Watch) → k < length ws → w.row ≡ row_at ws k → row_at (set ws k w) i ≡ row_at ws i
row_set ws k i w lt e = elim (same_or_apart i k) [
  | inl same ↦ subst (λ n. row_at (set ws k w) n ≡ row_at ws n) (sym same) (ap (λ (x : Watch). x.row) (get_or-set_same ws k w no_watch lt) ∙ e)
  | inr apart ↦ ap (λ (x : Watch). x.row) (get_or-set_other ws k i w no_watch apart)
]

pub IsOnce-set : (ws : List Watch) (k : ℕ) (w : Watch) → k < length ws → w.row ≡ row_at ws k → IsOnce ws → IsOnce (set ws k w)
IsOnce-set ws k w lt e once = λ i j in-i in-j same.
    once i j (omega (arith, length-set ws k w, in-i)) (omega (arith, length-set ws k w, in-j)) (sym (row_set ws k i w lt e) ∙ (same ∙ row_set ws k j w lt e))

-- where an element that is left stood before one was taken out
pub record CameFrom (ws : List Watch) (k j : ℕ) (x : Watch) : Type 0 where
  pub place : ℕ
  pub within : place < length ws
  pub apart : place ≡ k → ⊥
  pub is : x ≡ get_or ws place no_watch
  pub from : ((j ≡ k) × (place + 1 ≡ length ws)) ⊎ ((j ≢ k) × (place ≡ j))

pub came_from : (ws : List Watch) (k j : ℕ) (d : Watch) → k < length ws → j < length (swap_remove ws k d) → CameFrom ws k j (get_or (swap_remove ws k d) j no_watch)
came_from ws k j d lt in' =
    let len : length (swap_remove ws k d) ≡ length ws - 1 = removed_length ws k d lt in
    elim (same_or_apart j k) [
      | inl same ↦ record {
        place = length ws - 1;
        within = omega arith;
        apart = λ e. omega arith;
        is = subst (λ n. get_or (swap_remove ws k d) n no_watch ≡ get_or ws (length ws - 1) no_watch) (sym same) (removed_here ws k d (omega arith) ∙ get_or_default ws (length ws - 1) d no_watch (omega arith));
        from = inl (same, omega arith);
      }
      | inr ne ↦ record {
        place = j;
        within = omega arith;
        apart = λ e. ne e;
        is = removed_other ws k j d lt (omega arith) ne;
        from = inr (ne, refl);
      }
    ]

pub IsOnce-removed : (ws : List Watch) (k : ℕ) (d : Watch) → k < length ws → IsOnce ws → IsOnce (swap_remove ws k d)
IsOnce-removed ws k d lt once = λ i j in-i in-j same.
    let len : length (swap_remove ws k d) ≡ length ws - 1 = removed_length ws k d lt in
    let a : CameFrom ws k i (get_or (swap_remove ws k d) i no_watch) = came_from ws k i d lt in-i in
    let b : CameFrom ws k j (get_or (swap_remove ws k d) j no_watch) = came_from ws k j d lt in-j in
    let e : a.place ≡ b.place = once a.place b.place a.within b.within (sym (ap (λ (x : Watch). x.row) a.is) ∙ (same ∙ ap (λ (x : Watch). x.row) b.is)) in
    elim a.from [
      | inl p ↦ let p0 : i ≡ k = p.0 in let p1 : a.place + 1 ≡ length ws = p.1 in elim b.from [
        | inl q ↦ p.0 ∙ sym q.0
        | inr q ↦ let q1 : b.place ≡ j = q.1 in absurd (omega arith)
      ]
      | inr p ↦ let p1 : a.place ≡ i = p.1 in elim b.from [
        | inl q ↦ let q1 : b.place + 1 ≡ length ws = q.1 in absurd (omega arith)
        | inr q ↦ sym p.1 ∙ (e ∙ q.1)
      ]
    ]

-- what was taken out stands there no longer
pub removed_apart : (ws : List Watch) (k j : ℕ) (d : Watch) → k < length ws → IsOnce ws → j < length (swap_remove ws k d) → row_at (swap_remove ws k d) j ≡ row_at ws k → ⊥
removed_apart ws k j d lt once in' e =
    let a : CameFrom ws k j (get_or (swap_remove ws k d) j no_watch) = came_from ws k j d lt in' in
    a.apart (once a.place k a.within lt (sym (ap (λ (x : Watch). x.row) a.is) ∙ e))

row_old : (ws : List Watch) (w : Watch) (i : ℕ) → i < length ws → row_at (ws ++ w ∷ []) i ≡ row_at ws i
row_old ws w i lt = ap (λ (x : Watch). x.row) (get_or_append_left ws (w ∷ []) no_watch i lt)

row_new : (ws : List Watch) (w : Watch) (i : ℕ) → i ≡ length ws → row_at (ws ++ w ∷ []) i ≡ w.row
row_new ws w i is = ap (λ (x : Watch). x.row) (get_or_push ws w no_watch i (sym is))

pub IsOnce-push : (ws : List Watch) (w : Watch) → ((j : ℕ) → j < length ws → row_at ws j ≡ w.row → ⊥) → IsOnce ws → IsOnce (ws ++ w ∷ [])
IsOnce-push ws w fresh once = λ i j in-i in-j same.
    let len : length (ws ++ w ∷ []) ≡ length ws + 1 = length_push ws w in
    elim (below_or_at i (length ws) (omega arith)) [
      | inl bi ↦ elim (below_or_at j (length ws) (omega arith)) [
        | inl bj ↦ once i j bi bj (sym (row_old ws w i bi) ∙ (same ∙ row_old ws w j bj))
        | inr aj ↦ absurd (fresh i bi (sym (row_old ws w i bi) ∙ (same ∙ row_new ws w j aj)))
      ]
      | inr ai ↦ elim (below_or_at j (length ws) (omega arith)) [
        | inl bj ↦ absurd (fresh j bj (sym (row_old ws w j bj) ∙ (sym same ∙ row_new ws w i ai)))
        | inr aj ↦ ai ∙ sym aj
      ]
    ]

-- ---- the lists of a store

IsOwn-row : (es : List Entry) (l : Signed) (v w : Watch) → v.row ≡ w.row → IsOwn es l w → IsOwn es l v
IsOwn-row es l v w e h = record { pair = subst (λ n. ((entry_at es n).first ≡ l) ⊎ ((entry_at es n).second ≡ l)) (sym e) h.pair; contained = subst (λ n. Contains (entry_at es n).literals l) (sym e) h.contained }

pub own_in : (es : List Entry) (lists : List (List Watch)) (f : Signed) (ws : List Watch) → packed f < length lists → IsTidy es (set lists (packed f) ws) → All (IsOwn es f) ws
own_in es lists f ws lt h = subst (All (IsOwn es f)) (watches_of-same lists f ws lt) (h.own f)

pub once_in : (es : List Entry) (lists : List (List Watch)) (f : Signed) (ws : List Watch) → packed f < length lists → IsTidy es (set lists (packed f) ws) → IsOnce ws
once_in es lists f ws lt h = subst IsOnce (watches_of-same lists f ws lt) (h.once f)

IsTidy-set : (es : List Entry) (lists : List (List Watch)) (f : Signed) (ws : List Watch) → packed f < length lists → IsTidy es lists → All (IsOwn es f) ws → IsOnce ws → IsTidy es (set lists (packed f) ws)
IsTidy-set es lists f ws lt h own once = record {
  own = λ l. elim (equal_or_apart l f) [
    | inl same ↦ subst (λ x. All (IsOwn es x) (watches_of (set lists (packed f) ws) x)) (sym same) (rw (watches_of-same lists f ws lt) own)
    | inr apart ↦ rw (watches_of-other lists f l ws apart) (h.own l)
  ];
  once = λ l. elim (equal_or_apart l f) [
    | inl same ↦ subst (λ x. IsOnce (watches_of (set lists (packed f) ws) x)) (sym same) (rw (watches_of-same lists f ws lt) once)
    | inr apart ↦ rw (watches_of-other lists f l ws apart) (h.once l)
  ];
}

IsTidy-relist : (es : List Entry) (lists : List (List Watch)) (f : Signed) (ws ws' : List Watch) → packed f < length lists → IsTidy es (set lists (packed f) ws) → All (IsOwn es f) ws' → IsOnce ws' → IsTidy es (set lists (packed f) ws')
IsTidy-relist es lists f ws ws' lt h own once =
    subst (IsTidy es) (set-set lists (packed f) ws ws') (IsTidy-set es (set lists (packed f) ws) f ws' (omega (arith, length-set lists (packed f) ws)) h own once)

-- one watch gets another blocker
pub IsTidy-keep : (es : List Entry) (lists : List (List Watch)) (f : Signed) (ws : List Watch) (k : ℕ) (v : Watch) → packed f < length lists → k < length ws → v.row ≡ row_at ws k
    → IsTidy es (set lists (packed f) ws) → IsTidy es (set lists (packed f) (set ws k v))
IsTidy-keep es lists f ws k v lt at e h =
    let own : All (IsOwn es f) ws = own_in es lists f ws lt h in
    IsTidy-relist es lists f ws (set ws k v) lt h (All-set (IsOwn es f) ws k v (IsOwn-row es f v (get_or ws k no_watch) e (All-get_or (IsOwn es f) ws k no_watch at own)) own)
    (IsOnce-set ws k v at e (once_in es lists f ws lt h))

-- one watch goes
pub IsTidy-drop : (es : List Entry) (lists : List (List Watch)) (f : Signed) (ws : List Watch) (k : ℕ) (d : Watch) → packed f < length lists → k < length ws
    → IsTidy es (set lists (packed f) ws) → IsTidy es (set lists (packed f) (swap_remove ws k d))
IsTidy-drop es lists f ws k d lt at h =
    IsTidy-relist es lists f ws (swap_remove ws k d) lt h (All-removed (IsOwn es f) ws k d at (own_in es lists f ws lt h)) (IsOnce-removed ws k d at (once_in es lists f ws lt h))

-- ---- a clause that other literals watch from now on

own_elsewhere : (es : List Entry) (row : ℕ) (a b l : Signed) (x : Watch) → (x.row ≡ row → ⊥) → IsOwn es l x → IsOwn (set es row (watched (entry_at es row) a b)) l x
own_elsewhere es row a b l x ne h =
    record {
      pair = subst (λ (e : Entry). (e.first ≡ l) ⊎ (e.second ≡ l)) (sym (entry_at-other es row x.row (watched (entry_at es row) a b) ne)) h.pair;
      contained = subst (λ (e : Entry). Contains e.literals l) (sym (entry_at-other es row x.row (watched (entry_at es row) a b) ne)) h.contained;
    }

-- neither of the two watched literals is this
not_of_pair : (e : Entry) (f kept l : Signed) → IsOther e f kept → (l ≡ f → ⊥) → (l ≡ kept → ⊥) → (e.first ≡ l) ⊎ (e.second ≡ l) → ⊥
not_of_pair e f kept l other nf nk h = elim other.pair [
  | inl p ↦ elim h [ inl a ↦ nf (sym a ∙ p.0) | inr b ↦ nk (sym b ∙ p.1) ]
  | inr p ↦ elim h [ inl a ↦ nk (sym a ∙ p.1) | inr b ↦ nf (sym b ∙ p.0) ]
]

own_moved : (es : List Entry) (f kept found l : Signed) (row : ℕ) (x : Watch) → row < length es → IsOther (entry_at es row) f kept → (l ≡ f → ⊥) → IsOwn es l x → IsOwn (set es row (watched (entry_at es row) kept found)) l x
own_moved es f kept found l row x lt other nf h = elim (same_or_apart x.row row) [
  | inl same ↦
      let e : Entry = entry_at es row in
      let was : (e.first ≡ l) ⊎ (e.second ≡ l) = subst (λ n. ((entry_at es n).first ≡ l) ⊎ ((entry_at es n).second ≡ l)) same h.pair in
      let changed : entry_at (set es row (watched e kept found)) row ≡ watched e kept found = entry_at-same es row (watched e kept found) lt in
      let is : kept ≡ l = elim (equal_or_apart l kept) [ inl y ↦ sym y | inr n ↦ absurd (not_of_pair e f kept l other nf n was) ] in
      record {
        pair = subst (λ n. ((entry_at (set es row (watched e kept found)) n).first ≡ l) ⊎ ((entry_at (set es row (watched e kept found)) n).second ≡ l)) (sym same)
            (subst (λ (y : Entry). (y.first ≡ l) ⊎ (y.second ≡ l)) (sym changed) (inl is));
        contained = subst (λ n. Contains (entry_at (set es row (watched e kept found)) n).literals l) (sym same)
            (subst (λ (y : Entry). Contains y.literals l) (sym changed) (subst (λ n. Contains (entry_at es n).literals l) same h.contained));
      }
  | inr apart ↦ own_elsewhere es row kept found l x apart h
]

pub IsTidy-move : (es : List Entry) (lists : List (List Watch)) (f : Signed) (ws : List Watch) (k : ℕ) (d : Watch) (row : ℕ) (kept found : Signed) (more : Watch) → packed f < length lists → packed found < length lists → k < length ws
    → row_at ws k ≡ row → row < length es → IsOther (entry_at es row) f kept → (found ≡ kept → ⊥) → (found ≡ f → ⊥) → Contains (entry_at es row).literals found → more.row ≡ row → IsTidy es (set lists (packed f) ws)
    → IsTidy (set es row (watched (entry_at es row) kept found)) (set (set lists (packed found) (watches_of lists found ++ more ∷ [])) (packed f) (swap_remove ws k d))
IsTidy-move es lists f ws k d row kept found more lt lt' at is within other nk nf in-row more_row h =
    let e : Entry = entry_at es row in
    let es' : List Entry = set es row (watched e kept found) in
    let ws' : List Watch = swap_remove ws k d in
    let grown : List Watch = watches_of lists found ++ more ∷ [] in
    let lists' : List (List Watch) = set lists (packed found) grown in
    let lt'' : packed f < length lists' = omega (arith, length-set lists (packed found) grown) in
    let once : IsOnce ws = once_in es lists f ws lt h in
    let changed : entry_at es' row ≡ watched e kept found = entry_at-same es row (watched e kept found) within in
    let own_f : All (IsOwn es' f) ws' = λ j x in'.
    own_elsewhere es row kept found f (get_or ws' j x) (λ y. removed_apart ws k j d at once in' (sym (ap (λ (z : Watch). z.row) (get_or_default ws' j x no_watch in')) ∙ (y ∙ sym is)))
    (All-removed (IsOwn es f) ws k d at (own_in es lists f ws lt h) j x in') in
    let old_own : All (IsOwn es found) (watches_of lists found) = subst (All (IsOwn es found)) (watches_of-other lists f found ws nf) (h.own found) in
    let old_once : IsOnce (watches_of lists found) = subst IsOnce (watches_of-other lists f found ws nf) (h.once found) in
    let fresh : (j : ℕ) → j < length (watches_of lists found) → row_at (watches_of lists found) j ≡ more.row → ⊥ = λ j in' y.
    not_of_pair e f kept found other nf nk
    (subst (λ n. ((entry_at es n).first ≡ found) ⊎ ((entry_at es n).second ≡ found)) (y ∙ more_row) (All-get_or (IsOwn es found) (watches_of lists found) j no_watch in' old_own).pair) in
    let own_more : IsOwn es' found more = record {
      pair = subst (λ n. ((entry_at es' n).first ≡ found) ⊎ ((entry_at es' n).second ≡ found)) (sym more_row) (subst (λ (y : Entry). (y.first ≡ found) ⊎ (y.second ≡ found)) (sym changed) (inr refl));
      contained = subst (λ n. Contains (entry_at es' n).literals found) (sym more_row) (subst (λ (y : Entry). Contains y.literals found) (sym changed) in-row);
    } in
    let own_found : All (IsOwn es' found) grown = All-push (IsOwn es' found) (watches_of lists found) more (λ j x in'. own_moved es f kept found found row (get_or (watches_of lists found) j x) within other nf (old_own j x in')) own_more in
    record {
      own = λ l. elim (equal_or_apart l f) [
        | inl same ↦ subst (λ x. All (IsOwn es' x) (watches_of (set lists' (packed f) ws') x)) (sym same) (rw (watches_of-same lists' f ws' lt'') own_f)
        | inr apart ↦ rw (watches_of-other lists' f l ws' apart) (elim (equal_or_apart l found) [
          | inl same ↦ subst (λ x. All (IsOwn es' x) (watches_of lists' x)) (sym same) (rw (watches_of-same lists found grown lt') own_found)
          | inr other_l ↦ rw (watches_of-other lists found l grown other_l)
              (let was : All (IsOwn es l) (watches_of lists l) = subst (All (IsOwn es l)) (watches_of-other lists f l ws apart) (h.own l) in
              λ j x in'. own_moved es f kept found l row (get_or (watches_of lists l) j x) within other apart (was j x in'))
        ])
      ];
      once = λ l. elim (equal_or_apart l f) [
        | inl same ↦ subst (λ x. IsOnce (watches_of (set lists' (packed f) ws') x)) (sym same) (rw (watches_of-same lists' f ws' lt'') (IsOnce-removed ws k d at once))
        | inr apart ↦ rw (watches_of-other lists' f l ws' apart) (elim (equal_or_apart l found) [
          | inl same ↦ subst (λ x. IsOnce (watches_of lists' x)) (sym same) (rw (watches_of-same lists found grown lt') (IsOnce-push (watches_of lists found) more fresh old_once))
          | inr other_l ↦ rw (watches_of-other lists found l grown other_l) (subst IsOnce (watches_of-other lists f l ws apart) (h.once l))
        ])
      ];
    }
