use Rattle.std.proofs.Common.{ℕ, zero, suc, ◌+◌, ◌<◌, List, [], ◌∷◌, length, get_or, arith, subst, sym}
use Rattle.std.specs.Prelude.{pos}
use Rattle.smt_meaning.specs.declared.clauses.Summand.{Summand}
use Rattle.linear_forms.specs.Sums.{IsSumWithin}
use Rattle.pair_bounds.proofs.Mapping.{mapping_same, mapping_step}
use Rattle.proof_terms.proofs.terms_bounds.rename.Goals as goal

abbrev blank : Summand
blank = record { coefficient = pos 0; term = 0 }

term_at : (low high : ℕ) (ps : List Summand) (k : ℕ) (d : Summand) → IsSumWithin low high ps → k < length ps → (get_or ps k d).term < high
term_at low high [] k d s h = absurd (omega arith)
term_at low high (p ∷ ps) zero d s h = s.1
term_at low high (p ∷ ps) (suc k) d s h = term_at (p.term + 1) high ps k d s.3 (omega arith)

pub renamed-requires : goal.renamed-requires
renamed-requires c =
    subst (λ (p : Summand). p.term < length c.args.facts.now) (sym (mapping_same _ _ c.loop-summand.summand-index c.loop-summand.sum c.loop-summand.invariant blank c.loop-summand-test.true))
    (term_at 0 (length c.args.facts.now) c.args.sum.now c.loop-summand.summand-index blank c.requires c.loop-summand-test.true)

pub loop-summand-preserved : goal.loop-summand-preserved
loop-summand-preserved c = mapping_step _ _ c.loop-summand.summand-index c.loop-summand.sum c.loop-summand.invariant blank _ c.loop-summand-test.true c.renamed.ensures
