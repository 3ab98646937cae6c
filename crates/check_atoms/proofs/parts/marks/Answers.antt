use Rattle.std.proofs.Common.{◌≡◌, ◌≤◌, false, length, replicate, rules}
use Rattle.check_atoms.specs.Marks.{AreMarked}
use Rattle.check_atoms.proofs.Marking.{marks_begun}
use Rattle.check_atoms.proofs.parts.marks.Goals as goal

pub loop-id-init : goal.loop-id-init
loop-id-init c =
    let first : c.resize.new.self.items ≡ replicate (length c.args.stack.now.trees) false = search rules in
    let all : c.len-id.result ≡ length c.args.stack.now.trees = search rules in
    let begun : (c.len-id.result ≤ length c.args.stack.now.trees) × AreMarked c.args.stack.now c.args.assertions.now c.len-id.result c.mark_assertions.new.marks.items =
    marks_begun c.args.stack.now c.args.assertions.now c.len-id.result c.resize.new.self.items c.mark_assertions.new.marks.items all first c.requires c.mark_assertions.ensures in
    record { within = begun.0; marked = begun.1 }
