use Rattle.std.proofs.Common.{◌∙◌, ap, sym}
use Rattle.fraction128.specs.declared.ratio.Ratio.{Ratio}
use Rattle.fraction128.specs.Listed.{reciprocal_of}
use Rattle.fraction128.proofs.ListedAnswers.{reciprocal-exact}
use Rattle.fraction128.proofs.fraction.Fraction.recip.Goals as goal

pub returns-clause-exact : goal.returns-clause-exact
returns-clause-exact c =
    reciprocal-exact c.self.inside.ratio c.reciprocal-ratio.result c.self.invariant (λ e. c.requires (sym (ap (λ (x : Ratio). x.numerator) c.self.view_is) ∙ e)) c.reciprocal-ratio.ensures.value c.reciprocal-ratio.ensures.lowest
    ∙ ap reciprocal_of c.self.view_is
