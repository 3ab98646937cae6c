-- What a step that adds multiples of bounds comes to.
use Rattle.std.proofs.Common.{◌≡◌, inl, inr, ℕ, true, false, List, [], ◌∷◌, ◌++◌, All, sym, subst, ◌∙◌, refl, Option, Some, None}
use Rattle.std.proofs.lemmas.List.Elements.{All-nil, All-cons, All-head, All-tail}
use Rattle.smt_meaning.specs.declared.clauses.Literal.{Literal}
use Rattle.proof_meaning.specs.declared.proof.Weighted.{Weighted}
use Rattle.proof_meaning.specs.declared.proof.Step.TheVariants.{Farkas}
use Rattle.smt_meaning.specs.Declaration.{Declaration}
use Rattle.smt_meaning.specs.Term.{Tree}
use Rattle.smt_meaning.specs.Linear.{Form}
use Rattle.proof_meaning.specs.Proof.{IsLiteral}
use Rattle.proof_meaning.specs.Rules.{add_times, total, AreScaled, IsFarkas}
use Rattle.proof_terms.specs.declared.verdict.Verdict.TheVariants.{Good, Wrong, Range}
use Rattle.proof_terms.specs.Comes.{Comes, Stays}
use Rattle.proof_terms.specs.Kept.{Kept, KeepsAll}
use Rattle.proof_read.specs.Written.{numbers_fit}
use Rattle.proof_terms.specs.Range.{IsWeighted, form_of_weighted, FarkasLeaves}
use Rattle.proof_terms.specs.Terms.{ProofTerms}
use Rattle.proof_form.specs.FarkasSums.{ComeTo, literals_of}

-- ---- the rule speaks of weighted literals alone

first_form : (n : ℕ) (o p : Option Form) (f : Form) → add_times n o p ≡ Some f → (g : Form) × (o ≡ Some g)
first_form n (Some g) (Some h) f e = (g, refl)
first_form n (Some g) None f e = absurd (cc)
first_form n None p f e = absurd (cc)

other_form : (n : ℕ) (o p : Option Form) (f : Form) → add_times n o p ≡ Some f → (g : Form) × (p ≡ Some g)
other_form n (Some g) (Some h) f e = (h, refl)
other_form n (Some g) None f e = absurd (cc)
other_form n None p f e = absurd (cc)

weighted_all : (ds : List Declaration) (ts : List Tree) (scale : ℕ) (ws : List Weighted) (ns : List ℕ) (f : Form) → AreScaled scale ws ns → total ws ns ≡ Some f → All (IsLiteral ds ts) (literals_of ws)
    → All (IsWeighted ds ts) ws
weighted_all ds ts scale [] ns f s e all = All-nil (IsWeighted ds ts)
weighted_all ds ts scale (w ∷ ws) [] f s e all = absurd s
weighted_all ds ts scale (w ∷ ws) (n ∷ ns) f s e all =
    let here = first_form n (form_of_weighted w) (total ws ns) f e in
    let rest = other_form n (form_of_weighted w) (total ws ns) f e in
    All-cons (IsWeighted ds ts) w ws
    (record { numerator_above = s.0; denominator_above = s.1; literal = All-head (IsLiteral ds ts) w.literal (literals_of ws) all; form = here.0; bound = here.1 })
    (weighted_all ds ts scale ws ns rest.0 s.3 rest.1 (All-tail (IsLiteral ds ts) w.literal (literals_of ws) all))

literals_all : (ds : List Declaration) (ts : List Tree) (ws : List Weighted) → All (IsWeighted ds ts) ws → All (IsLiteral ds ts) (literals_of ws)
literals_all ds ts [] all = All-nil (IsLiteral ds ts)
literals_all ds ts (w ∷ ws) all =
    All-cons (IsLiteral ds ts) w.literal (literals_of ws) (All-head (IsWeighted ds ts) w ws all).literal (literals_all ds ts ws (All-tail (IsWeighted ds ts) w ws all))

module _ (t : ProofTerms) (asserted : List Tree) (old new : Kept) (ws : List Weighted) (fit : numbers_fit (Farkas ws) ≡ true) where
  stays : (FarkasLeaves t.declared t.trees ws → ⊥) → Stays t (Farkas ws)
  stays h (inl e) = let x : true ≡ false = sym fit ∙ e in cc
  stays h (inr leaves) = h leaves

  pub not_weighted : (All (IsWeighted t.declared t.trees) ws → ⊥) → Comes t asserted old new (Farkas ws) Wrong
  not_weighted h = (
    stays (λ leaves. h leaves.weighted),
    λ before ls kept literals gives.
        (let rule : IsFarkas ws ls = gives.by_rule in
        h (weighted_all t.declared t.trees rule.scale ws rule.weights _ rule.scaled rule.sums (subst (All (IsLiteral t.declared t.trees)) rule.clause gives.literals))),
  )

  pub comes_good : All (IsWeighted t.declared t.trees) ws → ComeTo ws Good → ((before : List (List Literal)) → KeepsAll old before → KeepsAll new (before ++ literals_of ws ∷ []))
      → Comes t asserted old new (Farkas ws) Good
  comes_good all h keeps = (
    stays (λ leaves. leaves.outside h.0),
    λ before kept literals.
        record { clause = literals_of ws; gives = record { by_rule = h.1; literals = literals_all t.declared t.trees ws all }; keeps = keeps before kept },
  )

  pub comes_wrong : ComeTo ws Wrong → Comes t asserted old new (Farkas ws) Wrong
  comes_wrong h = (stays (λ leaves. leaves.outside h.0), λ before ls kept literals gives. h.1 ls gives.by_rule)

  pub comes_range : All (IsWeighted t.declared t.trees) ws → ComeTo ws Range → Comes t asserted old new (Farkas ws) Range
  comes_range all h = inr (record { weighted = all; outside = h })
