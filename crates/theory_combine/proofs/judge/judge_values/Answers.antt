use Rattle.theory_combine.specs.Progress.{state}
use Rattle.theory_combine.proofs.judge.judge_values.Goals as goal

pub returns-in-Some : goal.returns-in-Some
returns-in-Some c = record {
  went = c.make_whole.ensures.went;
  found = c.checked.ensures (state c.args.parts.now c.make_whole.new.progress) c.args.budget.now c.make_whole.new.budget c.make_whole.ensures.found;
}
