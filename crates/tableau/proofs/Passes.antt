-- Passes over the rows at listed places.
use Rattle.std.proofs.Common.{◌≡◌, ◌≢◌, ℕ, ◌+◌, ◌<◌, ◌⊎◌, inl, inr, true, false, List, length, take, get_or, set, get_or-set_other, get_or-set_same, Contains, sym, ap, ◌∙◌, subst, arith}
use Rattle.std.proofs.lemmas.Bool.{cases_eq}
use Rattle.std.proofs.lemmas.List.{get_or_default, length-set}
use Rattle.fraction128.specs.declared.Entry.{Entry}
use Rattle.tableau.specs.declared.rows.Row.{Row}
use Rattle.tableau.specs.Staged.{IsSameRow, IsTried, IsCommitted, IsRowRefused, IsOtherRefused}
use Rattle.tableau.proofs.Lists.{in_list, one_more, taken_here, taken_before}

abbrev row_after : List Row → ℕ → Row → ℕ → Row → Row
row_after rows p x k d = get_or (set rows p x) k d

after_other : (P : Row → Type 0) (rows : List Row) (p k : ℕ) (x d : Row) → k ≢ p → P (get_or rows k d) → P (row_after rows p x k d)
after_other P rows p k x d ne h = subst P (sym (get_or-set_other rows p k x d ne)) h

after_here : (P : Row → Type 0) (rows : List Row) (p : ℕ) (x d : Row) → p < length rows → P x → P (row_after rows p x p d)
after_here P rows p x d lt h = subst P (sym (get_or-set_same rows p x d lt)) h

same_through : (a b x : Row) → IsSameRow a b → IsSameRow b x → IsSameRow a x
same_through a b x h g = record { basic = g.basic ∙ h.basic; entries = g.entries ∙ h.entries }

-- one row was tried
pub same_more : (before rows : List Row) (p : ℕ) (r x : Row) → p < length rows → IsSameRow (get_or rows p r) x
    → ((k : ℕ) (d : Row) → k < length rows → IsSameRow (get_or before k d) (get_or rows k d))
    → (k : ℕ) (d : Row) → k < length (set rows p x) → IsSameRow (get_or before k d) (row_after rows p x k d)
same_more before rows p r x lt now same k d lk = by_case (cases_eq k p)
  where
    by_case : (k ≡ p) ⊎ (k ≡ p → ⊥) → IsSameRow (get_or before k d) (row_after rows p x k d)
    by_case (inr ne) = after_other (IsSameRow (get_or before k d)) rows p k x d ne (same k d (let l = length-set rows p x in omega (arith, lk, l)))
    by_case (inl e) =
        subst (λ m. IsSameRow (get_or before m d) (row_after rows p x m d)) (sym e)
        (after_here (IsSameRow (get_or before p d)) rows p x d lt
        (same_through (get_or before p d) (get_or rows p d) x (same p d lt) (subst (λ (y : Row). IsSameRow y x) (get_or_default rows p r d lt) now)))

pub tried_more : (b c : ℕ) (form : List Entry) (q : ℕ) (rows : List Row) (ks : List ℕ) (n : ℕ) (x : Row) → n < length ks → get_or ks n 0 < length rows → IsTried b c form q x
    → ((k : ℕ) (d : Row) → k < length rows → Contains (take n ks) k → IsTried b c form q (get_or rows k d))
    → (k : ℕ) (d : Row) → k < length (set rows (get_or ks n 0) x) → Contains (take (n + 1) ks) k → IsTried b c form q (row_after rows (get_or ks n 0) x k d)
tried_more b c form q rows ks n x ln lt now tried k d lk =
    one_more {P = λ (k : ℕ) (d : Row). IsTried b c form q (get_or rows k d)} {Q = λ (k : ℕ) (d : Row). IsTried b c form q (row_after rows (get_or ks n 0) x k d)}
    ks n (length rows) ln (λ k d ne h. after_other (IsTried b c form q) rows (get_or ks n 0) k x d ne h) (λ l d. after_here (IsTried b c form q) rows (get_or ks n 0) x d lt now) tried
    k d (let l = length-set rows (get_or ks n 0) x in omega (arith, lk, l))

pub tried_past : (b c : ℕ) (form : List Entry) (q : ℕ) (rows : List Row) (ks : List ℕ) (n : ℕ) → n < length ks → (get_or ks n 0 < length rows → ⊥)
    → ((k : ℕ) (d : Row) → k < length rows → Contains (take n ks) k → IsTried b c form q (get_or rows k d))
    → (k : ℕ) (d : Row) → k < length rows → Contains (take (n + 1) ks) k → IsTried b c form q (get_or rows k d)
tried_past b c form q rows ks n ln past tried =
    one_more {P = λ (k : ℕ) (d : Row). IsTried b c form q (get_or rows k d)} {Q = λ (k : ℕ) (d : Row). IsTried b c form q (get_or rows k d)}
    ks n (length rows) ln (λ k d ne h. h) (λ l d. absurd (past l)) tried

pub refused_here : (b c : ℕ) (form : List Entry) (before rows : List Row) (p : ℕ) (r d : Row) → p < length rows → length rows ≡ length before
    → ((k : ℕ) (e : Row) → k < length rows → IsSameRow (get_or before k e) (get_or rows k e))
    → (get_or rows p r).basic ≢ b → IsRowRefused c form (get_or rows p r).entries.items → IsOtherRefused b c form before d
refused_here b c form before rows p r d lt len same other refused =
    let at = get_or_default rows p r d lt in
    let s : IsSameRow (get_or before p d) (get_or rows p d) = same p d lt in
    record {
      row = p;
      in_rows = omega (arith, lt, len);
      other = λ e. other (ap (λ (y : Row). y.basic) at ∙ s.basic ∙ e);
      refused = subst (IsRowRefused c form) (ap (λ (y : Row). y.entries.items) at ∙ s.entries) refused;
    }

-- ---- rows are made

committed_twice : (a b x : Row) → IsCommitted a b → b.changes ≡ false → IsCommitted b x → IsCommitted a x
committed_twice a b x m done (inl h) = absurd (let e : true ≡ false = sym h.0 ∙ done in cc)
committed_twice a b x (inl m) done (inr h) = inl (m.0, h.1 ∙ m.1, h.2 ∙ m.2)
committed_twice a b x (inr m) done (inr h) = inr (m.0, h.1 ∙ m.1, h.2 ∙ m.2)

abbrev pub IsMade : List Row → List Row → ℕ → Row → Type 0
IsMade before rows k d = IsCommitted (get_or before k d) (get_or rows k d) × ((get_or rows k d).changes ≡ false)

pub made_more : (before rows : List Row) (ks : List ℕ) (n : ℕ) (r x : Row) → n < length ks → get_or ks n 0 < length rows → IsCommitted (get_or rows (get_or ks n 0) r) x → x.changes ≡ false
    → ((k : ℕ) (d : Row) → k < length rows → Contains (take n ks) k → IsMade before rows k d)
    → ((k : ℕ) (d : Row) → (Contains (take n ks) k → ⊥) → get_or rows k d ≡ get_or before k d)
    → (k : ℕ) (d : Row) → k < length (set rows (get_or ks n 0) x) → Contains (take (n + 1) ks) k → IsMade before (set rows (get_or ks n 0) x) k d
made_more before rows ks n r x ln lt now done made others k d lk =
    one_more {P = λ (k : ℕ) (d : Row). IsMade before rows k d} {Q = λ (k : ℕ) (d : Row). IsMade before (set rows p x) k d}
    ks n (length rows) ln
    (λ k d ne h. after_other (λ (y : Row). IsCommitted (get_or before k d) y × (y.changes ≡ false)) rows p k x d ne h)
    (λ l d. after_here (λ (y : Row). IsCommitted (get_or before p d) y × (y.changes ≡ false)) rows p x d lt (first d (in_list (take n ks) p), done))
    made k d (let l = length-set rows p x in omega (arith, lk, l))
  where
    p : ℕ
    p = get_or ks n 0

    here : (d : Row) → IsCommitted (get_or rows p d) x
    here d = subst (λ (y : Row). IsCommitted y x) (get_or_default rows p r d lt) now

    first : (d : Row) → Contains (take n ks) p ⊎ (Contains (take n ks) p → ⊥) → IsCommitted (get_or before p d) x
    first d (inl seen) = let m = made p d lt seen in committed_twice (get_or before p d) (get_or rows p d) x m.0 m.1 (here d)
    first d (inr unseen) = subst (λ (y : Row). IsCommitted y x) (others p d unseen) (here d)

pub others_more : (before rows : List Row) (ks : List ℕ) (n : ℕ) (x : Row) → n < length ks
    → ((k : ℕ) (d : Row) → (Contains (take n ks) k → ⊥) → get_or rows k d ≡ get_or before k d)
    → (k : ℕ) (d : Row) → (Contains (take (n + 1) ks) k → ⊥) → get_or (set rows (get_or ks n 0) x) k d ≡ get_or before k d
others_more before rows ks n x ln others k d none =
    get_or-set_other rows (get_or ks n 0) k x d (λ e. none (subst (Contains (take (n + 1) ks)) (sym e) (taken_here ks n (get_or ks n 0) ln at)))
    ∙ others k d (λ h. none (taken_before ks n (get_or ks n 0) k ln at h))
  where
    at : get_or ks n 0 ≡ get_or ks n (get_or ks n 0)
    at = get_or_default ks n 0 (get_or ks n 0) ln

pub made_past : (before rows : List Row) (ks : List ℕ) (n : ℕ) → n < length ks → (get_or ks n 0 < length rows → ⊥)
    → ((k : ℕ) (d : Row) → k < length rows → Contains (take n ks) k → IsMade before rows k d)
    → (k : ℕ) (d : Row) → k < length rows → Contains (take (n + 1) ks) k → IsMade before rows k d
made_past before rows ks n ln past made =
    one_more {P = λ (k : ℕ) (d : Row). IsMade before rows k d} {Q = λ (k : ℕ) (d : Row). IsMade before rows k d} ks n (length rows) ln (λ k d ne h. h) (λ l d. absurd (past l)) made

pub others_past : (before rows : List Row) (ks : List ℕ) (n : ℕ) → n < length ks
    → ((k : ℕ) (d : Row) → (Contains (take n ks) k → ⊥) → get_or rows k d ≡ get_or before k d)
    → (k : ℕ) (d : Row) → (Contains (take (n + 1) ks) k → ⊥) → get_or rows k d ≡ get_or before k d
others_past before rows ks n ln others k d none =
    others k d (λ h. none (taken_before ks n (get_or ks n 0) k ln (get_or_default ks n 0 (get_or ks n 0) ln) h))
