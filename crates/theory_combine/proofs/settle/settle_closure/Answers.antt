use Rattle.theory_combine.specs.Progress.{state}
use Rattle.theory_combine.proofs.settle.settle_closure.Goals as goal

pub returns-in-Some : goal.returns-in-Some
returns-in-Some c = record {
  went = c.stop_seeing.ensures.went;
  found = c.checked.ensures (state c.args.parts.now c.stop_seeing.new.progress) c.args.budget.now c.args.budget.now c.stop_seeing.ensures.found;
}
