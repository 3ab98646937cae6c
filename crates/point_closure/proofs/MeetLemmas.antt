-- Watched pairs that are met.
use Rattle.std.proofs.Common.{◌≡◌, ℕ, ◌+◌, ◌<◌, ◌≤◌, List, [], ◌∷◌, ◌++◌, length, get_or, sym, ap, ◌∙◌, subst, inl, inr, arith}
use Rattle.std.specs.Prelude.{Contains}
use Rattle.std.proofs.lemmas.Bool.{cases_lt}
use Rattle.std.proofs.lemmas.List.{get_or_default}
use Rattle.std.proofs.lemmas.List.Elements.{Contains-append_left, Contains-push, Contains-push_cases}
use Rattle.point_closure.specs.declared.classes.Union.{Union}
use Rattle.point_closure.specs.declared.watch.Watch.{Watch}
use Rattle.point_closure.specs.Rest.{Meets, MeetsOne, IsAcross, watch_at}

pub met_pushed : (ws : List Watch) (us : List Union) (kept gone : ℕ) (met : List ℕ) (i : ℕ) → IsAcross us kept gone (watch_at ws i) → MeetsOne ws us kept gone met (met ++ i ∷ []) i
met_pushed ws us kept gone met i across = record {
  before = λ k has. Contains-append_left met (i ∷ []) k has;
  each = λ k has. elim (Contains-push_cases met i k has) [ inl old ↦ inl old | inr e ↦ inr (sym e, across) ];
  here = λ is. Contains-push met i;
}

pub met_kept : (ws : List Watch) (us : List Union) (kept gone : ℕ) (met : List ℕ) (i : ℕ) → (IsAcross us kept gone (watch_at ws i) → ⊥) → MeetsOne ws us kept gone met met i
met_kept ws us kept gone met i other = record { before = λ k has. has; each = λ k has. inl has; here = λ is. absurd (other is) }

pub meets_start : (ws : List Watch) (us : List Union) (kept gone : ℕ) (met : List ℕ) → Meets ws us kept gone met met
meets_start ws us kept gone met = record { before = λ k has. has; each = λ k has. inl has }

pub meets_step : (ws : List Watch) (us : List Union) (kept gone : ℕ) (xs ys zs : List ℕ) (i : ℕ) → i < length ws → Meets ws us kept gone xs ys → MeetsOne ws us kept gone ys zs i → Meets ws us kept gone xs zs
meets_step ws us kept gone xs ys zs i within meets one = record {
  before = λ k has. one.before k (meets.before k has);
  each = λ k has. elim (one.each k has) [
    | inl old ↦ meets.each k old
    | inr new ↦ inr (subst (λ n. n < length ws) (sym new.0) within, subst (λ n. IsAcross us kept gone (watch_at ws n)) (sym new.0) new.1)
  ];
}

pub all_step : (ws : List Watch) (us : List Union) (kept gone : ℕ) (ys zs slots : List ℕ) (n i : ℕ) → i ≡ get_or slots n 0 → MeetsOne ws us kept gone ys zs i
    → ((j : ℕ) → j < n → IsAcross us kept gone (watch_at ws (get_or slots j 0)) → Contains ys (get_or slots j 0))
    → (j : ℕ) → j < n + 1 → IsAcross us kept gone (watch_at ws (get_or slots j 0)) → Contains zs (get_or slots j 0)
all_step ws us kept gone ys zs slots n i e one all j less across = elim (cases_lt j n) [
  | inl before ↦ one.before (get_or slots j 0) (all j before across)
  | inr above ↦
      let here : get_or slots j 0 ≡ i = ap (λ m. get_or slots m 0) (let last : j ≡ n = omega arith in last) ∙ sym e in
      subst (Contains zs) (sym here) (one.here (subst (λ m. IsAcross us kept gone (watch_at ws m)) here across))
]

pub all_end : (ws : List Watch) (us : List Union) (kept gone : ℕ) (met slots : List ℕ) (n : ℕ) → length slots ≤ n
    → ((j : ℕ) → j < n → IsAcross us kept gone (watch_at ws (get_or slots j 0)) → Contains met (get_or slots j 0))
    → (k : ℕ) → Contains slots k → IsAcross us kept gone (watch_at ws k) → Contains met k
all_end ws us kept gone met slots n le all k has across =
    let less : has.0 < length slots = has.1 in
    let here : get_or slots has.0 0 ≡ k = get_or_default slots has.0 0 k has.1 ∙ has.2 in
    subst (Contains met) here (all has.0 (omega arith) (subst (λ m. IsAcross us kept gone (watch_at ws m)) (sym here) across))
