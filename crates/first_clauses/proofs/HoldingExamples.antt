-- A negation that a log decides, and one that it doesn't.
use Rattle.std.proofs.Common.{◌≡◌, inl, inr, Bool, true, false, not, List, [], ◌∷◌, refl, sym, ap, subst, arith}
use Rattle.std.proofs.lemmas.List.Elements.{All-nil, All-cons, All-head, Contains-append_cases}
use Rattle.literals.specs.Signed.{Signed}
use Rattle.smt_meaning.specs.declared.terms.Operator.TheVariants.{Not}
use Rattle.search_port.specs.State.{truth_atoms}
use Rattle.equality_clauses.specs.Ties.{literal}
use Rattle.order_clauses.specs.Numbers.{number_in}
use Rattle.order_clauses.specs.Clauses.{truth_number}
use Rattle.order_clauses.specs.Decided.{IsGiven}
use Rattle.first_clauses.specs.Holding.{DecidesNode}
use Rattle.first_clauses.proofs.Turning.{in_first, in_second, only}

abbrev log_of : Bool → List Signed
log_of b = literal true 0 ∷ literal b 1 ∷ []

first_given : (b c : Bool) → IsGiven (log_of b) 0 c → c ≡ true
first_given b c g = elim (Contains-append_cases (literal true 0 ∷ []) (literal b 1 ∷ []) (literal c 0) g) [
  | inl here ↦ sym (ap (λ (l : Signed). l.positive) (only (literal true 0) (literal c 0) here))
  | inr later ↦ absurd (apart (only (literal b 1) (literal c 0) later))
]
  where
    apart : literal b 1 ≡ literal c 0 → ⊥
    apart e = let n : 1 ≡ 0 = ap (λ (l : Signed). l.atom) e in omega (arith, n)

second_given : (b c : Bool) → IsGiven (log_of b) 1 c → c ≡ b
second_given b c g = elim (Contains-append_cases (literal true 0 ∷ []) (literal b 1 ∷ []) (literal c 1) g) [
  | inl here ↦ absurd (apart (only (literal true 0) (literal c 1) here))
  | inr later ↦ sym (ap (λ (l : Signed). l.positive) (only (literal b 1) (literal c 1) later))
]
  where
    apart : literal true 0 ≡ literal c 1 → ⊥
    apart e = let n : 0 ≡ 1 = ap (λ (l : Signed). l.atom) e in omega (arith, n)

pub decided : DecidesNode (log_of false) (truth_atoms (0 ∷ 1 ∷ [])) Not 1 (0 ∷ [])
unfolding number_in
decided a fits given =
    let here : a 0 ≡ true = first_given false (a 0) (All-head (λ i. IsGiven (log_of false) (truth_number (truth_atoms (0 ∷ 1 ∷ [])) i) (a i)) 0 [] given) in
    subst (λ b. IsGiven (log_of false) 1 (not b)) (sym here) (in_second (literal true 0) (literal false 1) [])

pub not_decided : DecidesNode (log_of true) (truth_atoms (0 ∷ 1 ∷ [])) Not 1 (0 ∷ []) → ⊥
unfolding number_in
not_decided h =
    let given : IsGiven (log_of true) 0 true = in_first (literal true 0) (literal true 1 ∷ []) in
    let told : false ≡ true =
    second_given true false (h (λ i. true) refl (All-cons (λ i. IsGiven (log_of true) (truth_number (truth_atoms (0 ∷ 1 ∷ [])) i) true) 0 [] given
    (All-nil (λ i. IsGiven (log_of true) (truth_number (truth_atoms (0 ∷ 1 ∷ [])) i) true)))) in
    absurd cc
