use Rattle.std.proofs.Common.{◌≡◌, ◌∙◌, true, false, sym, subst}
use Rattle.sum_bounds.specs.declared.finding.Finding.TheVariants.{Fits}
use Rattle.sum_bounds.specs.Bounds.{State, Judges}
use Rattle.sum_bounds.proofs.Checks.{checked, clean_fits}
use Rattle.sum_bounds.proofs.state.SumBounds.check.Goals as goal
use Rattle.sum_bounds.proofs.state.SumBounds.check.Goals.{in-Fits, in_default}

pub returns-then-self-clause-judges : goal.returns-then-self-clause-judges
returns-then-self-clause-judges c =
    subst (λ (s : State). Judges s Fits) c.self.view_is (clean_fits c.self.inside.simplex c.facts.ensures c.self.invariant.apart (c.self.invariant.clean c.if-self.true))

pub invariant_of-self : goal.invariant_of-self
invariant_of-self c =
    let fits : c.match-matches.self ≡ true → c.finding_of-finding.result ≡ Fits = λ e.
    elim c.match-matches.branch [ in-Fits w ↦ w.in-Fits.is | in_default w ↦ absurd (let z : true ≡ false = sym e ∙ w.self-is in cc) ]
    in
    (checked c.self.inside.simplex c.check-answer.new.self c.self.inside.keys c.self.inside.count c.self.inside.is_clean c.match-matches.self c.check-answer.result.verdict c.finding_of-finding.result
    c.self.invariant c.facts-2.ensures c.check-answer.ensures.search.run.bounds c.check-answer.ensures.judges c.finding_of-finding.ensures fits).1

pub returns-clause-judges : goal.returns-clause-judges
returns-clause-judges c =
    let fits : false ≡ true → c.finding_of-finding.result ≡ Fits = λ e. absurd (cc) in
    (checked c.self.inside.simplex c.check-answer.new.self c.self.inside.keys c.self.inside.count c.self.inside.is_clean false c.check-answer.result.verdict c.finding_of-finding.result
    c.self.invariant c.facts-2.ensures c.check-answer.ensures.search.run.bounds c.check-answer.ensures.judges c.finding_of-finding.ensures fits).0
