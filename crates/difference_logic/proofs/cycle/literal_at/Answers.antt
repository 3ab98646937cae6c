use Rattle.std.proofs.Common.{rules, ◌≡◌, get_or}
use Rattle.difference_logic.proofs.cycle.literal_at.Goals as goal

pub returns : goal.returns
returns c =
    let is : get_or c.args.literals.now c.args.place c.index-literals-place.result ≡ c.index-literals-place.result = search (rules, c.index-literals-place.is) in
    (c.args.place, c.requires, is)
