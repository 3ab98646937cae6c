use Rattle.theory_combine.specs.Progress.{state}
use Rattle.theory_combine.proofs.settle.settle.Goals as goal

pub returns-in-Some : goal.returns-in-Some
returns-in-Some c = record {
  went = c.in-Some.ensures.some.went;
  found = c.checked.ensures (state c.args.parts.now c.settle_atoms.new.progress) c.args.budget.now c.settle_atoms.new.budget c.in-Some.ensures.some.found;
}

pub settle_closure-requires-clause-told : goal.settle_closure-requires-clause-told
settle_closure-requires-clause-told c = rw c.in_default.ensures.same c.in_default.ensures.none
