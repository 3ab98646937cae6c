use Rattle.std.proofs.Common.{rules, ◌≤◌, length}
use Rattle.closure_log.proofs.Wide.{all_below}
use Rattle.closure_log.proofs.list.wide_xors.Goals as goal

pub returns : goal.returns
returns c =
    let past : length c.args.stack.now.trees ≤ c.loop-place.place = search rules in
    all_below c.args.stack.now.trees c.args.marks.now c.loop-place.place c.loop-place.parts.items past c.loop-place.invariant
