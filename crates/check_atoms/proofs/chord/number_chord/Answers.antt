use Rattle.std.proofs.Common.{rules}
use Rattle.check_atoms.specs.Chords.{MayCompare}
use Rattle.check_atoms.proofs.Stacks.{chord_more}
use Rattle.check_atoms.proofs.chord.number_chord.Goals as goal

pub returns : goal.returns
returns c =
    let may : MayCompare c.sorts.result.now c.args.marks.now c.args.left c.args.right = c.may_compare.ensures (search rules) in
    chord_more c.args.stack.now c.args.marks.now c.laws.ensures c.requires.parts c.symbols_are_declared.ensures c.sorts.result.now c.args.left c.args.right c.in_ok-number.number c.args.atoms.now.atoms
    c.number.new.self.atoms c.sorts.ensures may c.in_ok-number.ensures.ok c.are_few.ensures c.are_apart.ensures c.requires.atoms
