use Rattle.std.proofs.Common.{◌≡◌, ap, ◌∙◌, subst, sym}
use Rattle.std.specs.Prelude.{All}
use Rattle.std.proofs.lemmas.Result.{IfOk-weaker}
use Rattle.search_port.specs.Calls.{IsLemma}
use Rattle.bound_log.specs.Clauses.{tie_clauses}
use Rattle.bound_log.proofs.Lemmas.{ties_are_lemmas}
use Rattle.bound_log.proofs.ties.tie_lemmas.Goals as goal

pub returns-then-below-above-clause-lemmas : goal.returns-then-below-above-clause-lemmas
returns-then-below-above-clause-lemmas c =
    IfOk-weaker c.one_bound.result (λ cs. cs ≡ tie_clauses c.args.same c.args.below c.args.below) _
    (λ cs e ds t i j told h.
    subst (All (IsLemma t.reading)) (sym (e ∙ ap (tie_clauses c.args.same c.args.below) c.if-below-above.true))
    (ties_are_lemmas c.equality_clauses_are_true.ensures c.equality_is_over.ensures ds t c.args.same c.args.below c.args.above i j told h))
    c.one_bound.ensures

pub returns-clause-lemmas : goal.returns-clause-lemmas
returns-clause-lemmas c =
    IfOk-weaker c.two_bounds.result (λ cs. cs ≡ tie_clauses c.args.same c.args.below c.args.above) _
    (λ cs e ds t i j told h.
    subst (All (IsLemma t.reading)) (sym e)
    (ties_are_lemmas c.equality_clauses_are_true.ensures c.equality_is_over.ensures ds t c.args.same c.args.below c.args.above i j told h))
    c.two_bounds.ensures
