use Rattle.theory_combine.specs.Progress.{state}
use Rattle.theory_combine.proofs.judge.go_on_from.Goals as goal

pub returns-in-Ok-Some : goal.returns-in-Ok-Some
returns-in-Ok-Some c = record {
  went = c.go_on_with_pair.ensures.went;
  found = c.checked.ensures (state c.args.parts.now c.go_on_with_pair.new.progress) c.args.budget.now c.go_on_with_pair.new.budget c.go_on_with_pair.ensures.found;
}
