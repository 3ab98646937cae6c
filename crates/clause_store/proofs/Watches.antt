-- Lists of watches as they change.
use Rattle.std.proofs.Common.{◌≡◌, ◌≢◌, ℕ, ◌+◌, ◌-◌, ◌<◌, ◌≤◌, Bool, true, false, not, List, [], ◌∷◌, ◌++◌, All, length, get_or, set, subst, sym, ap, ◌∙◌, refl, inl, inr, ◌⊎◌, arith}
use Rattle.std.specs.List.{swap_remove}
use Rattle.std.proofs.lemmas.List.{length-set, get_or-set_same, get_or-set_other, get_or-take, length-take-le, length_push, get_or_append_left, get_or_push, get_or_default}
use Rattle.std.proofs.lemmas.List.Elements.{All-take, All-set, All-get_or}
use Rattle.literals.specs.Signed.{Signed, opposite, packed}
use Rattle.clause_store.specs.Watching.{IsListed, no_watch}
use Rattle.clause_store.specs.declared.lists.Watch.{Watch}

-- ---- numbers

pub same_or_apart : (a b : ℕ) → (a ≡ b) ⊎ (a ≢ b)
same_or_apart a b = grind arith

pub below_or_at : (k n : ℕ) → k < n + 1 → (k < n) ⊎ (k ≡ n)
below_or_at k n h = grind arith

by_signs : (a b : ℕ) (p q : Bool) → let l : Signed = record { atom = a; positive = p } in let m : Signed = record { atom = b; positive = q } in packed l ≡ packed m → l ≡ m
by_signs a b true true e = let s : a ≡ b = omega arith in ap (λ (n : ℕ). let l : Signed = record { atom = n; positive = true } in l) s
by_signs a b false false e = let s : a ≡ b = omega arith in ap (λ (n : ℕ). let l : Signed = record { atom = n; positive = false } in l) s
by_signs a b true false e = absurd (omega arith)
by_signs a b false true e = absurd (omega arith)

pub packed-injective : (l m : Signed) → packed l ≡ packed m → l ≡ m
packed-injective l m e = by_signs l.atom m.atom l.positive m.positive e

not_not : (b : Bool) → not (not b) ≡ b
not_not true = refl
not_not false = refl

pub opposite-injective : (l m : Signed) → opposite l ≡ opposite m → l ≡ m
opposite-injective l m e =
    let a : l.atom ≡ m.atom = ap (λ (x : Signed). x.atom) e in
    let p : not l.positive ≡ not m.positive = ap (λ (x : Signed). x.positive) e in
    let q : l.positive ≡ m.positive = sym (not_not l.positive) ∙ (ap not p ∙ not_not m.positive) in
    ap (λ (n : ℕ). let x : Signed = record { atom = n; positive = l.positive } in x) a ∙ ap (λ (b : Bool). let x : Signed = record { atom = m.atom; positive = b } in x) q

-- ---- a clause in a list

pub IsListed-set : (ws : List Watch) (k start i : ℕ) (w : Watch) → k < length ws → w.row ≡ (get_or ws k no_watch).row → IsListed ws start i → IsListed (set ws k w) start i
IsListed-set ws k start i w lt e h = record {
  place = h.place;
  at_least = h.at_least;
  within = omega (arith, length-set ws k w, h.within);
  row = elim (same_or_apart h.place k) [
    | inl same ↦ subst (λ n. (get_or (set ws k w) n no_watch).row ≡ i) (sym same) (rw (get_or-set_same ws k w no_watch lt) (e ∙ subst (λ n. (get_or ws n no_watch).row ≡ i) same h.row))
    | inr apart ↦ rw (get_or-set_other ws k h.place w no_watch apart) h.row
  ];
}

-- the next place, for another clause than that at this place
pub IsListed-next : (ws : List Watch) (k i : ℕ) → ((get_or ws k no_watch).row ≡ i → ⊥) → IsListed ws k i → IsListed ws (k + 1) i
IsListed-next ws k i ne h =
    let least : k ≤ h.place = h.at_least in
    elim (same_or_apart h.place k) [
      | inl same ↦ absurd (ne (subst (λ n. (get_or ws n no_watch).row ≡ i) same h.row))
      | inr apart ↦ record { place = h.place; at_least = omega arith; within = h.within; row = h.row }
    ]

pub IsListed-from : (ws : List Watch) (a b i : ℕ) → a ≤ b → IsListed ws b i → IsListed ws a i
IsListed-from ws a b i le h = let least : b ≤ h.place = h.at_least in record { place = h.place; at_least = omega arith; within = h.within; row = h.row }

pub IsListed-push : (ws : List Watch) (w : Watch) (start i : ℕ) → IsListed ws start i → IsListed (ws ++ w ∷ []) start i
IsListed-push ws w start i h = record {
  place = h.place;
  at_least = h.at_least;
  within = omega (arith, length_push ws w, h.within);
  row = rw (get_or_append_left ws (w ∷ []) no_watch h.place h.within) h.row;
}

pub IsListed-new : (ws : List Watch) (w : Watch) → IsListed (ws ++ w ∷ []) 0 w.row
IsListed-new ws w = record {
  place = length ws;
  at_least = omega arith;
  within = omega (arith, length_push ws w);
  row = rw (get_or_push ws w no_watch (length ws) refl) refl;
}

-- what `swap_remove` leaves
pub removed_other : (ws : List Watch) (k j : ℕ) (d : Watch) → k < length ws → j + 1 < length ws → j ≢ k → get_or (swap_remove ws k d) j no_watch ≡ get_or ws j no_watch
removed_other ws k j d lt in' ne =
    get_or-take (length ws - 1) (set ws k (get_or ws (length ws - 1) d)) j no_watch (omega arith) ∙ get_or-set_other ws k j (get_or ws (length ws - 1) d) no_watch ne

pub removed_here : (ws : List Watch) (k : ℕ) (d : Watch) → k + 1 < length ws → get_or (swap_remove ws k d) k no_watch ≡ get_or ws (length ws - 1) d
removed_here ws k d in' =
    get_or-take (length ws - 1) (set ws k (get_or ws (length ws - 1) d)) k no_watch (omega arith) ∙ get_or-set_same ws k (get_or ws (length ws - 1) d) no_watch (omega arith)

pub removed_length : (ws : List Watch) (k : ℕ) (d : Watch) → k < length ws → length (swap_remove ws k d) ≡ length ws - 1
removed_length ws k d lt =
    length-take-le (length ws - 1) (set ws k (get_or ws (length ws - 1) d)) (omega (arith, length-set ws k (get_or ws (length ws - 1) d)))

pub IsListed-removed : (ws : List Watch) (k start i : ℕ) (d : Watch) → k < length ws → start ≤ k → ((get_or ws k no_watch).row ≡ i → ⊥) → IsListed ws start i → IsListed (swap_remove ws k d) start i
IsListed-removed ws k start i d lt le ne h =
    let len : length (swap_remove ws k d) ≡ length ws - 1 = removed_length ws k d lt in
    let at : h.place < length ws = h.within in
    let apart : h.place ≢ k = λ e. ne (subst (λ n. (get_or ws n no_watch).row ≡ i) e h.row) in
    elim (same_or_apart (h.place + 1) (length ws)) [
      | inl last ↦ record {
        place = k;
        at_least = le;
        within = omega arith;
        row =
            let e : length ws - 1 ≡ h.place = omega arith in
            let here : get_or (swap_remove ws k d) k no_watch ≡ get_or ws (length ws - 1) d = removed_here ws k d (omega arith) in
            let same : get_or ws (length ws - 1) d ≡ get_or ws h.place no_watch = ap (λ n. get_or ws n d) e ∙ get_or_default ws h.place d no_watch h.within in
            rw (here ∙ same) h.row;
      }
      | inr inner ↦ record {
        place = h.place;
        at_least = h.at_least;
        within = omega arith;
        row = rw (removed_other ws k h.place d lt (omega arith) apart) h.row;
      }
    ]

pub All-removed : (P : Watch → Type 0) (ws : List Watch) (k : ℕ) (d : Watch) → k < length ws → All P ws → All P (swap_remove ws k d)
All-removed P ws k d lt h =
    All-take P (length ws - 1) (set ws k (get_or ws (length ws - 1) d)) (All-set P ws k (get_or ws (length ws - 1) d) (All-get_or P ws (length ws - 1) d (omega arith) h) h)
