use Rattle.std.proofs.Common.{◌∙◌, sym, ap, subst, length}
use Rattle.smt_meaning.specs.StackCommand.{Stack}
use Rattle.scope_stack.specs.Carries.{IsAssumed}
use Rattle.goal_search.specs.Asks.{asked_texts}
use Rattle.goal_search.proofs.Questions.{error_never_refused, verdict_under}
use Rattle.goal_search.proofs.question.ask.Goals as goal

pub unreachable-requires : goal.unreachable-requires
unreachable-requires g c =
    let judges = c.asks_are_assumed.ensures c.args.stack.now c.args.text.now c.args.term c.args.ask c.requires.goal c.requires.range in
    error_never_refused (asked_texts c.args.text.now c.args.ask) _ c.args.stack.now _ judges c.as_slice.result.now (c.as_slice.ensures ∙ c.in_ok-texts.ensures) c.in-Err-Refused.field-0
    c.in-Err-Refused.field-0-0 c.assume.new.self c.in-Err-Refused.field-0-is c.in-Err-Refused.ensures

pub returns-clause-stays : goal.returns-clause-stays
returns-clause-stays g c =
    let h : IsAssumed c.as_slice.result.now c.in-Ok.ensures.0 c.args.stack.now c.found-verdict.new.stack =
    subst (λ (s : Stack). IsAssumed c.as_slice.result.now c.in-Ok.ensures.0 c.args.stack.now s) (sym c.found-verdict.ensures.stays) c.in-Ok.ensures.1 in
    c.take_back.ensures c.as_slice.result.now c.in-Ok.ensures.0 c.args.stack.now (sym (c.len-count.ensures.value ∙ ap length c.terms.ensures.trees)) h

pub returns-clause-verdict : goal.returns-clause-verdict
returns-clause-verdict g c =
    let judges = c.asks_are_assumed.ensures c.args.stack.now c.args.text.now c.args.term c.args.ask c.requires.goal c.requires.range in
    verdict_under (asked_texts c.args.text.now c.args.ask) _ c.args.stack.now _ judges c.as_slice.result.now (c.as_slice.ensures ∙ c.in_ok-texts.ensures) c.in-Ok.ensures.0 c.assume.new.self
    c.in-Ok.ensures.1 c.args.settings.now.workers c.args.settings.now.units c.found-verdict.result c.found-verdict.ensures.found
