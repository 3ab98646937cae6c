-- Summands and sums that are read.
use Rattle.std.proofs.Common.{◌≡◌, ℕ, ℤ, zero, suc, pos, negsuc, ◌+◌, List, ap, ◌∙◌, refl, true, false, Some, None, if◌then◌else◌}
use Rattle.fraction128.specs.Whole.{is_in_range}
use Rattle.smt_meaning.specs.declared.tokens.Token.{Token}
use Rattle.smt_meaning.specs.declared.clauses.Summand.{Summand}
use Rattle.smt_meaning.specs.Sexp.{Sexp, group, end, ◌▸◌}
use Rattle.smt_meaning.specs.Linear.{is_zero, summand}
use Rattle.proof_meaning.specs.Reading.{with, integer, number}
use Rattle.look_ahead.specs.Ahead.{ahead, IsList}
use Rattle.proof_read.specs.declared.read_parts.Progress.{Progress}
use Rattle.proof_read.specs.Reads.{is_term_number}
use Rattle.proof_read.specs.ReadParts.{Takes, any, stepped, first_by, is_end}
use Rattle.proof_read.specs.ReadSums.{summand_in, summand_fits, summand_near}
use Rattle.proof_read.proofs.ReadLemmas.{notes_two, and_true}
use Rattle.proof_read.proofs.ReadForms.{into_list, at_end, first_read}

not_zero : (k : ℤ) → (k ≡ pos 0 → ⊥) → is_zero k ≡ false
not_zero (pos zero) h = absurd (h refl)
not_zero (pos (suc n)) h = refl
not_zero (negsuc n) h = refl

summand_is : (x y : Sexp) (k : ℤ) (p : ℕ) → integer x ≡ Some k → number y ≡ Some p → is_zero k ≡ false → summand_in (group (x ▸ y ▸ end)) ≡ Some (summand p k)
summand_is x y k p e f g =
    ap (λ o. with (with o (λ m. with (number y) (λ q. Some (summand q m)))) (λ (s : Summand). if is_zero s.coefficient then None else Some s)) e
    ∙ ap (λ o. with (with o (λ q. Some (summand q k))) (λ (s : Summand). if is_zero s.coefficient then None else Some s)) f
    ∙ ap (λ b. if b then None else Some (summand p k)) g

pub takes_summand : (ts : List Token) (old mid next last : Progress) (close : ℕ) (v : ℤ) (w : ℕ) → IsList ts old.place close → mid ≡ stepped old → (h : Takes ts integer is_in_range any mid v next)
    → Takes ts number any is_term_number next w last → is_end (ahead ts last.place) ≡ true → (first_by integer (ahead ts mid.place) ≡ Some (pos 0) → ⊥)
    → Takes ts summand_in summand_fits summand_near old (summand w v) (record last { place = close + 1 })
takes_summand ts old mid next last close v w l s h k e z =
    let shape : ahead ts mid.place ≡ h.part ▸ k.part ▸ end = h.is ∙ ap (λ ss. h.part ▸ ss) (k.is ∙ ap (λ ss. k.part ▸ ss) (at_end (ahead ts last.place) e)) in
    into_list ts summand_in summand_fits summand_near old mid last close (summand w v) (summand k.written h.written) l s
    (ap (λ ss. summand_in (group ss)) shape
    ∙ summand_is h.part k.part h.written k.written h.read k.read (not_zero h.written (λ g. z (first_read ts integer is_in_range any mid next v h ∙ ap Some g))))
    (notes_two is_in_range any any is_term_number summand_fits summand_near (λ m q. summand q m) mid next last v h.written w k.written h.notes k.notes (and_true (is_in_range h.written)) refl)
