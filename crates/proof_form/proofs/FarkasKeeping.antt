-- The codes of weighted literals, one after the other.
use Rattle.std.proofs.Common.{◌≡◌, ℕ, ◌+◌, ◌<◌, ◌≤◌, List, [], ◌∷◌, ◌++◌, length, get_or, take, sym, ap, subst, ◌∙◌}
use Rattle.std.proofs.lemmas.List.{take_more, take_all, map-append}
use Rattle.smt_meaning.specs.declared.clauses.Literal.{Literal}
use Rattle.proof_meaning.specs.declared.proof.Weighted.{Weighted}
use Rattle.proof_terms.specs.Kept.{Kept, KeepsAll, IsCodeOf, AreCodesOf}
use Rattle.proof_terms.proofs.ClausesCodes.{no_codes, codes_joined}
use Rattle.proof_form.specs.FarkasSums.{literals_of}

-- the codes of the first literals, and the clauses so far still kept
pub record AreKeeping (old new : Kept) (ws : List Weighted) (i : ℕ) (cs : List ℕ) : Type 0 where
  pub codes : AreCodesOf new.atoms cs (literals_of (take i ws))
  pub kept : (before : List (List Literal)) → KeepsAll old before → KeepsAll new before

pub keeping_start : (old : Kept) (ws : List Weighted) (cs : List ℕ) → cs ≡ [] → AreKeeping old old ws 0 cs
keeping_start old ws cs e = record { codes = subst (λ xs. AreCodesOf old.atoms xs []) (sym e) (no_codes old.atoms); kept = λ before h. h }

pub keeping_step : (old mid new : Kept) (ws : List Weighted) (i : ℕ) (cs more : List ℕ) (w : Weighted) (c : ℕ) → AreKeeping old mid ws i cs → i < length ws → w ≡ get_or ws i w
    → ((d : ℕ) (m : Literal) → IsCodeOf mid.atoms d m → IsCodeOf new.atoms d m) → IsCodeOf new.atoms c w.literal → more ≡ cs ++ c ∷ []
    → ((before : List (List Literal)) → KeepsAll mid before → KeepsAll new before) → AreKeeping old new ws (i + 1) more
keeping_step old mid new ws i cs more w c so within at keeps one e all = record {
  codes =
      subst (AreCodesOf new.atoms more)
      (sym (ap literals_of (take_more ws i w within ∙ ap (λ v. take i ws ++ v ∷ []) (sym at)) ∙ map-append (λ (v : Weighted). v.literal) (take i ws) (w ∷ [])))
      (codes_joined mid.atoms new.atoms cs more c w.literal keeps one e (literals_of (take i ws)) so.codes);
  kept = λ before h. all before (so.kept before h);
}

pub keeping_end : (old new : Kept) (ws : List Weighted) (i : ℕ) (cs : List ℕ) → AreKeeping old new ws i cs → length ws ≤ i → AreCodesOf new.atoms cs (literals_of ws)
keeping_end old new ws i cs so h = subst (λ vs. AreCodesOf new.atoms cs (literals_of vs)) (take_all i ws h) so.codes
