use Rattle.std.proofs.Common.{ap, sym, refl, ◌∙◌}
use Rattle.smt_meaning.specs.declared.values.Sort.{Sort}
use Rattle.smt_meaning.specs.Sorts.{done}
use Rattle.elaborate.specs.Judged.{scope_of}
use Rattle.elaborate.proofs.Bodied.{body_done, body_refused}
use Rattle.elaborate.proofs.bodies.body.Goals as goal

pub returns-in-Ok-judged_body-clause-ok : goal.returns-in-Ok-judged_body-clause-ok
returns-in-Ok-judged_body-clause-ok c = λ ts.
    body_done c.args.table.now c.args.parameters.now c.args.term.now c.judge_apart.new.store.trees c.judge_apart.new.store.trees c.in-Ok-judge_apart.value c.in-Ok-judged_body.body.body c.in-Ok-judge_apart.ensures.comes refl c.in-Ok-judged_body.ensures.body ts
    ∙ ap (λ (s : Sort). done (record { body = c.in-Ok-judged_body.body.body; sort = s }) (scope_of c.args.table.now ts)) (sym c.in-Ok-judged_body.ensures.sort)

pub returns-in-Err-clause-refused : goal.returns-in-Err-clause-refused
returns-in-Err-clause-refused c = body_refused c.args.table.now c.args.parameters.now c.args.term.now c.judge_apart.new.store.trees c.in-Err.error c.in-Err.ensures.comes
