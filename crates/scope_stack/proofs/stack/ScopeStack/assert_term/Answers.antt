use Rattle.std.proofs.Common.{◌∙◌, sym}
use Rattle.std.proofs.lemmas.Result.{err_from_is_err_and}
use Rattle.smt_meaning.specs.StackCommand.{assert_term}
use Rattle.scope_stack.proofs.GainLemmas.{few_still, failed_carries, asserted_keeps, asserted_is}
use Rattle.scope_stack.proofs.FactLemmas.{facts_before, kept_again}
use Rattle.scope_stack.proofs.LawLemmas.{reached_given}
use Rattle.scope_stack.proofs.LevelSteps.{levels_before}
use Rattle.scope_stack.proofs.TermSteps.{cut_back, still_within}
use Rattle.scope_stack.proofs.stack.ScopeStack.assert_term.Goals as goal

pub returns-in_err-term : goal.returns-in_err-term
returns-in_err-term c =
    let p = err_from_is_err_and c.from_residual-in_err-term.result c.from_residual-in_err-term.ensures.1 in
    rw (← c.self.view_is, p.1, p.2)
    (failed_carries c.self.inside.global (assert_term c.args.term.now) c.self.inside.table c.judge_assertion.new.table c.self.inside.terms c.judge_assertion.new.terms c.self.inside.asserted _ c.in_err-term.ensures.causes
    c.in_err-term.ensures.err.0 c.in_err-term.ensures.err.1)

pub invariant_of-self-in-Ok : goal.invariant_of-self-in-Ok
invariant_of-self-in-Ok c =
    rw (c.in-Ok.ensures.ok, c.in_ok-text.ensures)
    (record {
      stack =
          asserted_keeps c.self.inside.global c.self.inside.table c.judge_assertion.new.table c.self.inside.terms c.judge_assertion.new.terms (record { text = c.args.term.now; term = c.in_ok-term.term }) c.self.inside.asserted
          c.self.invariant.stack c.in_ok-term.ensures.gained c.in_ok-term.ensures.longer c.in_ok-term.ensures.limit c.in_ok-term.ensures.place c.in_ok-term.ensures.gives;
      facts = c.in-Ok.ensures.extended.facts;
      levels = c.in-Ok.ensures.extended.levels;
    })

pub add_assertion-requires : goal.add_assertion-requires
add_assertion-requires c = record {
  within = still_within c.self.inside.terms c.judge_assertion.new.terms c.len-count.result c.in_ok-term.ensures.longer c.len-count.ensures.value;
  few = few_still c.self.inside.table c.judge_assertion.new.table c.in_ok-term.ensures.gained c.self.invariant.stack.few;
  given =
      let after =
      asserted_keeps c.self.inside.global c.self.inside.table c.judge_assertion.new.table c.self.inside.terms c.judge_assertion.new.terms (record { text = c.args.term.now; term = c.in_ok-term.term }) c.self.inside.asserted
      c.self.invariant.stack c.in_ok-term.ensures.gained c.in_ok-term.ensures.longer c.in_ok-term.ensures.limit c.in_ok-term.ensures.place c.in_ok-term.ensures.gives in
      reached_given _ after.reached c.symbols_are_given.ensures;
  facts =
      facts_before c.self.inside.table c.judge_assertion.new.table c.self.inside.terms c.judge_assertion.new.terms c.len-count.result c.self.inside.facts.sorts.items c.len-count.ensures.value
      c.in_ok-term.ensures.gained c.in_ok-term.ensures.longer c.self.invariant.facts;
  levels =
      levels_before c.self.inside.table c.judge_assertion.new.table c.self.inside.terms c.judge_assertion.new.terms c.len-count.result c.self.inside.facts.levels.items c.len-count.ensures.value
      c.in_ok-term.ensures.gained c.in_ok-term.ensures.longer c.self.invariant.facts.given c.self.invariant.levels;
}

pub invariant_of-self-in-Err : goal.invariant_of-self-in-Err
invariant_of-self-in-Err c =
    kept_again c.self.inside.table c.cut_ids.new.self c.self.inside.terms c.cut.new.self c.self.inside.asserted c.add_assertion.new.asserted c.self.inside.facts.sorts.items _
    c.self.inside.facts.levels.items _ c.self.invariant
    (c.cut_ids.ensures.restored c.self.inside.table (sym c.ids-ids.ensures.value) c.in_ok-term.ensures.gained)
    (c.cut.ensures ∙ cut_back c.self.inside.terms c.judge_assertion.new.terms c.len-count.result c.in_ok-term.ensures.limit c.in_ok-term.ensures.longer c.len-count.ensures.value)
    c.in-Err.ensures.err (c.cut-in-Err.ensures.sorts ∙ c.add_assertion.ensures.kept.sorts) (c.cut-in-Err.ensures.levels ∙ c.add_assertion.ensures.kept.levels)

pub returns-in-Ok : goal.returns-in-Ok
returns-in-Ok c =
    rw (c.in-Ok.ensures.ok, c.in_ok-text.ensures, ← c.self.view_is)
    (asserted_is c.self.inside.global c.self.inside.table c.judge_assertion.new.table c.self.inside.terms c.judge_assertion.new.terms (record { text = c.args.term.now; term = c.in_ok-term.term }) c.self.inside.asserted
    c.self.invariant.stack c.in_ok-term.ensures.gained c.in_ok-term.ensures.longer c.in_ok-term.ensures.gives)
