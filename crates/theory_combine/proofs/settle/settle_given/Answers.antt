use Rattle.theory_combine.specs.Progress.{state}
use Rattle.theory_combine.proofs.settle.settle_given.Goals as goal

pub returns-in-Ok-Some : goal.returns-in-Ok-Some
returns-in-Ok-Some c =
    let pair = c.go_on_with_pair in
    record { went = pair.ensures.went; found = c.checked.ensures (state c.args.parts.now pair.new.progress) c.args.budget.now pair.new.budget pair.ensures.found }
