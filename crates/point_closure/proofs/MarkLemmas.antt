-- Marks of earlier rounds are off, and a mark of this round is set.
use Rattle.std.proofs.Common.{◌≡◌, ℕ, zero, suc, ◌<◌, true, List, [], ◌∷◌, get_or, set, nat_eq, refl, ap, ◌∙◌, inl, inr, arith}
use Rattle.std.proofs.lemmas.Bool.{eq-eqb}
use Rattle.std.proofs.lemmas.Bool.Decides.{eqb_tells}
use Rattle.std.proofs.lemmas.List.{map-set}
use Rattle.point_closure.specs.Marks.{AreOff, AreUpTo, AreEarlier, marks_of}

pub earlier_off : (round : ℕ) (rounds : List ℕ) → AreEarlier round rounds → AreOff (marks_of round rounds)
earlier_off round [] earlier k = refl
earlier_off round (n ∷ ns) earlier zero = elim (eqb_tells n round) [
  | inl equal ↦ let less : n < round = earlier 0 0 (omega arith) in let e : n ≡ round = equal.1 in absurd (omega arith)
  | inr unequal ↦ unequal.0
]
earlier_off round (n ∷ ns) earlier (suc k) = earlier_off round ns (λ j d less. earlier (suc j) d (omega arith)) k

pub earlier_up_to : (round : ℕ) (rounds : List ℕ) → AreEarlier round rounds → AreUpTo round rounds
earlier_up_to round rounds earlier k d less = let h : get_or rounds k d < round = earlier k d less in omega arith

pub marked_now : (round : ℕ) (rounds : List ℕ) (k : ℕ) → marks_of round (set rounds k round) ≡ set (marks_of round rounds) k true
marked_now round rounds k = map-set (λ n. nat_eq n round) rounds k round ∙ ap (set (marks_of round rounds) k) (eq-eqb round round refl)
