use Rattle.std.proofs.Common.{map}
use Rattle.std.proofs.lemmas.Option.{IfSome_then}
use Rattle.sum_bounds.specs.Bounds.{told_of}
use Rattle.sum_bounds.proofs.SplitLaws.{extends_kept, copy_extended, whole_split}
use Rattle.sum_bounds.proofs.splits.split_conflict.Goals as goal

pub returns : goal.returns
returns c =
    let cs = c.args.simplex.now.columns in
    let told = map told_of c.args.simplex.now.bounds in
    let copy = c.in_ok-copy.copy in
    let settled = c.settles.new.copy in
    let last = c.first_split.new.copy in
    let first = copy_extended cs told copy settled c.in_ok-copy.ensures (extends_kept copy settled c.settles.ensures.keeps c.settles.ensures.told) in
    IfSome_then c.first_split.result c.first_split.ensures.some (λ ls h. whole_split cs told last ls.items (copy_extended cs told settled last first c.first_split.ensures.extends) h)
