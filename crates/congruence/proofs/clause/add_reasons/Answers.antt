use Rattle.std.proofs.Common.{rules, ◌≡◌, ◌++◌, map, sym, subst}
use Rattle.std.specs.Prelude.{List}
use Rattle.literals.specs.Signed.{Signed, opposite}
use Rattle.congruence.specs.Clauses.{AddsReasons}
use Rattle.congruence.proofs.Clausing.{reasons_added}
use Rattle.congruence.proofs.clause.add_reasons.Goals as goal

pub returns : goal.returns
returns c = λ ds ts table read justified.
    let now : c.add_negations.new.clause.items ≡ c.args.clause.now.items ++ map opposite c.explain.new.explanation.reasons.items = search rules in
    subst (λ (ls : List Signed). AddsReasons ds ts table c.args.congruence.now.reasons.items c.args.clause.now.items ls c.args.left c.args.right) (sym now)
    (reasons_added c.reasons_make_equal.ensures ds ts table c.args.congruence.now.closure.graph c.args.congruence.now.closure.steps.items c.args.congruence.now.reasons.items c.args.clause.now.items
    c.explain.new.explanation.reasons.items c.args.left c.args.right read justified c.in_ok-explain.ensures)
