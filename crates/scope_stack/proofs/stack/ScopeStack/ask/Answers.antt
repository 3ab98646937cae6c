use Rattle.std.proofs.Common.{◌≤◌, length, subst, sym}
use Rattle.std.proofs.lemmas.Result.{err_from_is_err_and}
use Rattle.smt_sorts.specs.Names.{Names}
use Rattle.scope_stack.proofs.GainLemmas.{failed_answers, asked_keeps, asked_answers}
use Rattle.scope_stack.proofs.FactLemmas.{asked_before}
use Rattle.scope_stack.proofs.LawLemmas.{reached_given}
use Rattle.scope_stack.proofs.LevelSteps.{asked_levels}
use Rattle.scope_stack.proofs.TermSteps.{still_within}
use Rattle.scope_stack.proofs.stack.ScopeStack.ask.Goals as goal

pub returns-in_err-asked : goal.returns-in_err-asked
returns-in_err-asked c =
    let p = err_from_is_err_and c.from_residual.result c.from_residual.ensures.1 in
    rw (← c.self.view_is, p.1, p.2)
    (failed_answers c.self.inside.global c.args.terms.now c.self.inside.table c.judge_questions.new.table c.self.inside.terms c.judge_questions.new.terms c.self.inside.asserted _ c.in_err-asked.ensures.causes
    c.in_err-asked.ensures.table c.in_err-asked.ensures.err)

pub extend-requires : goal.extend-requires
extend-requires c = record {
  within = still_within c.self.inside.terms c.judge_questions.new.terms c.len-count.result c.in_ok-asked.ensures.longer c.len-count.ensures.value;
  few = subst (λ (t : Names). length t.levels ≤ 65536) (sym c.in_ok-asked.ensures.table) c.self.invariant.stack.few;
  given =
      let after =
      asked_keeps c.self.inside.global c.args.terms.now c.self.inside.table c.judge_questions.new.table c.self.inside.terms c.judge_questions.new.terms c.self.inside.asserted c.in_ok-asked.asked c.self.invariant.stack
      c.in_ok-asked.ensures.gives c.in_ok-asked.ensures.table c.in_ok-asked.ensures.longer c.in_ok-asked.ensures.limit in
      reached_given _ after.reached c.symbols_are_given.ensures;
  facts =
      asked_before c.self.inside.table c.judge_questions.new.table c.self.inside.terms c.judge_questions.new.terms c.len-count.result c.self.inside.facts.sorts.items c.len-count.ensures.value
      c.in_ok-asked.ensures.table c.in_ok-asked.ensures.longer c.self.invariant.facts;
  levels =
      asked_levels c.self.inside.table c.judge_questions.new.table c.self.inside.terms c.judge_questions.new.terms c.len-count.result c.self.inside.facts.levels.items c.len-count.ensures.value
      c.in_ok-asked.ensures.table c.in_ok-asked.ensures.longer c.self.invariant.levels;
}

pub invariant_of-self-in-Ok : goal.invariant_of-self-in-Ok
invariant_of-self-in-Ok c =
    record {
      facts = c.in-Ok.ensures.extended.facts;
      levels = c.in-Ok.ensures.extended.levels;
      stack =
          asked_keeps c.self.inside.global c.args.terms.now c.self.inside.table c.judge_questions.new.table c.self.inside.terms c.judge_questions.new.terms c.self.inside.asserted c.in_ok-asked.asked c.self.invariant.stack
          c.in_ok-asked.ensures.gives c.in_ok-asked.ensures.table c.in_ok-asked.ensures.longer c.in_ok-asked.ensures.limit;
    }

pub returns-in-Ok : goal.returns-in-Ok
returns-in-Ok c =
    rw (← c.self.view_is)
    (asked_answers c.self.inside.global c.args.terms.now c.self.inside.table c.judge_questions.new.table c.self.inside.terms c.judge_questions.new.terms c.self.inside.asserted c.in_ok-asked.asked c.self.invariant.stack
    c.in_ok-asked.ensures.gives c.in_ok-asked.ensures.table c.in_ok-asked.ensures.longer)
