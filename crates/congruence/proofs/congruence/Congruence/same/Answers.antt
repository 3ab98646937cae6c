use Rattle.std.proofs.Common.{◌+◌, sym, ap, ◌∙◌}
use Rattle.smt_meaning.specs.Term.{value}
use Rattle.point_closure.specs.Explained.{merged}
use Rattle.congruence.proofs.ReadingLemmas.{skip_truths}
use Rattle.congruence.proofs.congruence.Congruence.same.Goals as goal

pub returns-clause-values : goal.returns-clause-values
returns-clause-values c = λ is ts read I pairs.
    let s = c.args.self.now.closure in
    ap (value I) (sym (skip_truths ts c.args.left))
    ∙ c.equal_points_have_one_value.ensures ts s.graph (merged s.steps.items) I (c.args.left + 2) (c.args.right + 2) read pairs (c.same.ensures.0 is)
    ∙ ap (value I) (skip_truths ts c.args.right)
