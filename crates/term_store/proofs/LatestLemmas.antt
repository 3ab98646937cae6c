-- The last place below a bound that a function sends to a number.
use Rattle.std.proofs.Common.{◌≡◌, ◌≢◌, ℕ, zero, suc, ◌<◌, ◌≤◌, refl, sym, ap, ◌∙◌, inl, inr, arith}
use Rattle.std.proofs.lemmas.Bool.Decides.{nat_tests}
use Rattle.std.proofs.lemmas.Bool.{cases_eq, cases_lt}
use Rattle.term_store.specs.Latest.{latest}

pub latest_here : (f : ℕ → ℕ) (b m : ℕ) → f m ≡ b → latest f b (suc m) ≡ suc m
latest_here f b m h = grind (arith, nat_tests)

pub latest_skips : (f : ℕ → ℕ) (b m : ℕ) → f m ≢ b → latest f b (suc m) ≡ latest f b m
latest_skips f b m h = grind (arith, nat_tests)

pub latest_le : (f : ℕ → ℕ) (b m : ℕ) → latest f b m ≤ m
latest_le f b zero = omega arith
latest_le f b (suc m) =
    elim (cases_eq (f m) b) [
      | inl h ↦ rw (latest_here f b m h) (omega arith)
      | inr h ↦ rw (latest_skips f b m h) (omega (arith, latest_le f b m))
    ]

pub latest_finds : (f : ℕ → ℕ) (b m k : ℕ) → k < m → f k ≡ b → k < latest f b m
latest_finds f b zero k less e = absurd (omega arith)
latest_finds f b (suc m) k less e =
    elim (cases_eq (f m) b) [
      | inl h ↦ rw (latest_here f b m h) less
      | inr h ↦ rw (latest_skips f b m h)
          (elim (cases_lt k m) [
            | inl below ↦ latest_finds f b m k below e
            | inr above ↦ let same : k ≡ m = omega arith in absurd (h (ap f (sym same) ∙ e))
          ])
    ]

pub latest_sent : (f : ℕ → ℕ) (b m j : ℕ) → latest f b m ≡ suc j → f j ≡ b
latest_sent f b zero j e = cc
latest_sent f b (suc m) j e =
    elim (cases_eq (f m) b) [
      | inl h ↦ let same : j ≡ m = omega (arith, sym (latest_here f b m h) ∙ e) in ap f same ∙ h
      | inr h ↦ latest_sent f b m j (sym (latest_skips f b m h) ∙ e)
    ]

pub latest_again : (f : ℕ → ℕ) (b m : ℕ) → latest f b (latest f b m) ≡ latest f b m
latest_again f b zero = refl
latest_again f b (suc m) =
    elim (cases_eq (f m) b) [
      | inl h ↦ rw (latest_here f b m h) (latest_here f b m h)
      | inr h ↦ rw (latest_skips f b m h) (latest_again f b m)
    ]

-- a place that g sends to h is one that f sends to b
pub latest_within : (f g : ℕ → ℕ) (b h m : ℕ) → ((k : ℕ) → g k ≡ h → f k ≡ b) → latest g h (latest f b m) ≡ latest g h m
latest_within f g b h zero sends = refl
latest_within f g b h (suc m) sends =
    elim (cases_eq (f m) b) [
      | inl e ↦ ap (latest g h) (latest_here f b m e)
      | inr e ↦ ap (latest g h) (latest_skips f b m e) ∙ latest_within f g b h m sends ∙ sym (latest_skips g h m (λ k. e (sends m k)))
    ]

pub latest_same : (f g : ℕ → ℕ) (b m : ℕ) → ((k : ℕ) → k < m → f k ≡ g k) → latest f b m ≡ latest g b m
latest_same f g b zero same = refl
latest_same f g b (suc m) same =
    elim (cases_eq (f m) b) [
      | inl e ↦ latest_here f b m e ∙ sym (latest_here g b m (sym (same m (omega arith)) ∙ e))
      | inr e ↦ latest_skips f b m e ∙ latest_same f g b m (λ k less. same k (omega arith)) ∙ sym (latest_skips g b m (λ k. e (same m (omega arith) ∙ k)))
    ]
