use Rattle.std.proofs.Common.{List, Bool, subst, sym}
use Rattle.check_atoms.specs.Marks.{AreMarked}
use Rattle.check_atoms.proofs.Taking.{taken}
use Rattle.check_atoms.proofs.stack_atoms.takes.Goals as goal

pub returns : goal.returns
returns c =
    let s = c.args.stack.now in
    let xs = c.assertions.result.now in
    taken s xs c.deref.result.now c.laws.ensures c.assertions.ensures (subst (λ (bs : List Bool). AreMarked s xs 0 bs) (sym c.deref.ensures.value) c.in_ok-marks.ensures) c.sorts.result.now c.sorts.ensures c.are_no_integers.result c.are_no_integers.ensures.yes
    c.are_no_integers.ensures.no
