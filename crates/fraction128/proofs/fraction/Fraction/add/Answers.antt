use Rattle.std.proofs.Common.{◌≡◌, ap₂, subst}
use Rattle.fraction128.specs.Listed.{sum_of}
use Rattle.fraction128.proofs.ListedAnswers.{sum-exact}
use Rattle.fraction128.proofs.fraction.Fraction.add.Goals as goal

pub returns-clause-exact : goal.returns-clause-exact
returns-clause-exact c =
    let h = c.in_ok-ratio.ensures.ok in
    let e : sum_of c.self.inside.ratio c.other.inside.ratio ≡ sum_of c.args.self c.args.other = ap₂ sum_of c.self.view_is c.other.view_is in
    subst (λ x. c.in_ok-ratio.ratio ≡ x) e (sum-exact c.self.inside.ratio c.other.inside.ratio c.in_ok-ratio.ratio c.self.invariant c.other.invariant h.0 h.1 h.2)
