use Rattle.search_port.specs.Calls.{CheckedBy}
use Rattle.search_port.specs.declared.theory.Checked.{Checked}
use Rattle.theory_combine.specs.Progress.{state}
use Rattle.theory_combine.proofs.Answering.{last_after, left_then}
use Rattle.theory_combine.proofs.Spending.{checked_before}
use Rattle.theory_combine.proofs.judge.judge_sums.Goals as goal

pub meet_sums-requires : goal.meet_sums-requires
meet_sums-requires c = c.requires.ready

pub returns-in-Some : goal.returns-in-Some
returns-in-Some c = record {
  went = c.meet_sums.ensures.went;
  found = c.checked.ensures (state c.args.parts.now c.meet_sums.new.progress) c.args.budget.now c.meet_sums.new.budget c.in-Some.ensures.some;
}

pub judge_values-requires-clause-at_last : goal.judge_values-requires-clause-at_last
judge_values-requires-clause-at_last c =
    let none = c.in-None.ensures.none in
    last_after c.args.parts.now c.args.progress.now c.meet_sums.new.progress none.same none.ready c.requires

pub judge_values-requires-clause-fits : goal.judge_values-requires-clause-fits
judge_values-requires-clause-fits c = c.in-None.ensures.none.met

pub returns-in-None : goal.returns-in-None
returns-in-None c =
    let sums = c.meet_sums in
    let values = c.judge_values in
    left_then Checked CheckedBy c.args.parts.now checked_before c.args.progress.now sums.new.progress values.new.progress c.args.budget.now sums.new.budget values.new.budget values.result c.in-None.ensures.none.same sums.ensures.went values.ensures
