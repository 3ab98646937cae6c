-- Codes that join those of a clause, and loops over the coefficients of a bound.
use Rattle.std.proofs.Common.{◌≡◌, ◌↔◌, ℕ, ◌+◌, ◌<◌, ◌≤◌, ◌%◌, List, [], ◌∷◌, ◌++◌, length, get_or, drop, nat_eq, sym, subst, append_assoc, eqb-true, eq-eqb}
use Rattle.std.specs.Prelude.{IsTrue, unsigned_abs}
use Rattle.std.specs.Int.{◌∣◌}
use Rattle.std.proofs.lemmas.Nat.Gcd.{dvd_of_mod-eq-zero, mod-eq-zero_of_dvd}
use Rattle.std.proofs.lemmas.List.{drop_more, drop_all}
use Rattle.smt_meaning.specs.declared.clauses.Literal.{Literal}
use Rattle.smt_meaning.specs.declared.clauses.Summand.{Summand}
use Rattle.smt_meaning.specs.Atoms.{DividesEach}
use Rattle.proof_terms.specs.Kept.{Kept, KeepsAll, AreCodesOf, IsCodeOf}
use Rattle.proof_terms.specs.BoundCodes.{HaveJoined}
use Rattle.proof_terms.proofs.ClausesCodes.{no_codes, codes_joined}

pub joined_one : (old new : Kept) (cs more : List ℕ) (c : ℕ) (l : Literal) → ((d : ℕ) (m : Literal) → IsCodeOf old.atoms d m → IsCodeOf new.atoms d m) → IsCodeOf new.atoms c l → more ≡ cs ++ c ∷ []
    → ((before : List (List Literal)) → KeepsAll old before → KeepsAll new before) → HaveJoined old new cs more (l ∷ [])
joined_one old new cs more c l keeps one e kept = record { codes_are = codes_joined old.atoms new.atoms cs more c l keeps one e; kept = kept }

pub joined_two : (old mid new : Kept) (cs ds es : List ℕ) (ls ms : List Literal) → HaveJoined old mid cs ds ls → HaveJoined mid new ds es ms → HaveJoined old new cs es (ls ++ ms)
joined_two old mid new cs ds es ls ms h k = record {
  codes_are = λ ns x. subst (AreCodesOf new.atoms es) (append_assoc ns ls ms) (k.codes_are (ns ++ ls) (h.codes_are ns x));
  kept = λ before x. k.kept before (h.kept before x);
}

-- from no codes on, they are those of a clause
pub joined_all : (old new : Kept) (cs es : List ℕ) (ls : List Literal) → cs ≡ [] → HaveJoined old new cs es ls → AreCodesOf new.atoms es ls
joined_all old new cs es ls e h = h.codes_are [] (subst (λ xs. AreCodesOf old.atoms xs []) (sym e) (no_codes old.atoms))

-- ---- divisors

pub divides_by : (d n m : ℕ) → m ≡ n → IsTrue (nat_eq (m % d) 0) ↔ (d ∣ n)
divides_by d n m e = (
  λ t. subst (λ k. d ∣ k) e (dvd_of_mod-eq-zero d (eqb-true (m % d) 0 t)),
  λ h. eq-eqb (m % d) 0 (mod-eq-zero_of_dvd d (subst (λ k. d ∣ k) (sym e) h)),
)

-- whether a number divides each coefficient depends on those that are left
pub record AreDividing (g : ℕ) (ps : List Summand) (i : ℕ) : Type 0 where
  pub forth : DividesEach g ps → DividesEach g (drop i ps)
  pub back : DividesEach g (drop i ps) → DividesEach g ps

pub dividing_step : (g : ℕ) (ps : List Summand) (i : ℕ) (d : Summand) → AreDividing g ps i → i < length ps → g ∣ unsigned_abs (get_or ps i d).coefficient → AreDividing g ps (i + 1)
dividing_step g ps i d so within h = record {
  forth = λ all. (subst (DividesEach g) (drop_more ps i d within) (so.forth all)).1;
  back = λ rest. so.back (subst (DividesEach g) (sym (drop_more ps i d within)) (h, rest));
}

pub dividing_fails : (g : ℕ) (ps : List Summand) (i : ℕ) (d : Summand) → AreDividing g ps i → i < length ps → (g ∣ unsigned_abs (get_or ps i d).coefficient → ⊥) → DividesEach g ps → ⊥
dividing_fails g ps i d so within h all = h (subst (DividesEach g) (drop_more ps i d within) (so.forth all)).0

pub dividing_end : (g : ℕ) (ps : List Summand) (i : ℕ) → AreDividing g ps i → length ps ≤ i → DividesEach g ps
dividing_end g ps i so h = so.back (subst (DividesEach g) (sym (drop_all i ps h)) tt)
