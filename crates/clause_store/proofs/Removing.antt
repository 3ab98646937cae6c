-- Fewer waiting clauses.
use Rattle.std.proofs.Common.{◌≡◌, ◌≢◌, ℕ, ◌+◌, ◌-◌, ◌<◌, List, Contains, length, take, get_or, set, sym, ap, ◌∙◌, inl, inr, arith}
use Rattle.std.proofs.lemmas.List.{get_or-take, length-take-le, take-take, length-set, get_or-set_same, get_or-set_other, get_or_default, take-set-le}
use Rattle.std.proofs.lemmas.List.Elements.{All-contains, All-take, All-set, All-contains_itself, Contains-get_or}
use Rattle.std.specs.List.{swap_remove}
use Rattle.clause_store.proofs.Watches.{same_or_apart}
use Rattle.clause_store.specs.declared.waits.Wait.{Wait}

removed_length : (xs : List Wait) (k : ℕ) (d : Wait) → k < length xs → length (swap_remove xs k d) ≡ length xs - 1
removed_length xs k d lt = length-take-le (length xs - 1) (set xs k (get_or xs (length xs - 1) d)) (omega (arith, length-set xs k (get_or xs (length xs - 1) d)))

pub removed_keeps : (xs : List Wait) (k : ℕ) (d y : Wait) → k < length xs → (y ≡ get_or xs k y → ⊥) → Contains xs y → Contains (swap_remove xs k d) y
removed_keeps xs k d y lt ne h =
    let len : length (swap_remove xs k d) ≡ length xs - 1 = removed_length xs k d lt in
    let within : h.0 < length xs = h.1 in
    let apart : h.0 ≢ k = λ e. ne (sym h.2 ∙ ap (λ n. get_or xs n y) e) in
    elim (same_or_apart (h.0 + 1) (length xs)) [
      | inl last ↦
          let e : length xs - 1 ≡ h.0 = omega arith in (
            k,
            omega arith,
            get_or-take (length xs - 1) (set xs k (get_or xs (length xs - 1) d)) k y (omega arith) ∙ (get_or-set_same xs k (get_or xs (length xs - 1) d) y lt ∙ (ap (λ n. get_or xs n d) e ∙ (get_or_default xs h.0 d y within ∙ h.2))),
          )
      | inr inner ↦ (
        h.0,
        omega arith,
        get_or-take (length xs - 1) (set xs k (get_or xs (length xs - 1) d)) h.0 y (omega arith) ∙ (get_or-set_other xs k h.0 (get_or xs (length xs - 1) d) y apart ∙ h.2),
      )
    ]

pub removed_only : (xs : List Wait) (k : ℕ) (d y : Wait) → k < length xs → Contains (swap_remove xs k d) y → Contains xs y
removed_only xs k d y lt h =
    All-contains (Contains xs) (swap_remove xs k d) y
    (All-take (Contains xs) (length xs - 1) (set xs k (get_or xs (length xs - 1) d)) (All-set (Contains xs) xs k (get_or xs (length xs - 1) d) (Contains-get_or xs (length xs - 1) d (omega arith)) (All-contains_itself xs))) h

pub removed_front : (xs : List Wait) (k : ℕ) (d : Wait) → k < length xs → take k (swap_remove xs k d) ≡ take k xs
removed_front xs k d lt = take-take k (length xs - 1) (set xs k (get_or xs (length xs - 1) d)) (omega arith) ∙ take-set-le k xs k (get_or xs (length xs - 1) d) (omega arith)
