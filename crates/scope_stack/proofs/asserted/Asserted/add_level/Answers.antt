use Rattle.std.proofs.Common.{◌≡◌, ◌+◌, ◌++◌, length, arith}
use Rattle.std.proofs.lemmas.List.{length-append}
use Rattle.scope_stack.proofs.PieceLemmas.{pieces-above, cuts-cut, cuts-more}
use Rattle.scope_stack.proofs.asserted.Asserted.add_level.Goals as goal

pub invariant_of-self-2 : goal.invariant_of-self-2
invariant_of-self-2 c =
    let all : length c.self.inside.items.items ≡ c.len-start.result = omega (arith, c.len-start.ensures, c.self.inside.items.ok) in
    let more' : length (c.self.inside.items.items ++ c.args.assertions.items) ≡ length c.self.inside.items.items + length c.args.assertions.items = length-append c.self.inside.items.items c.args.assertions.items in
    rw (c.push_reserved.ensures.items, c.in_ok-reserve.ensures.items, c.in_ok-append.ensures.items, ← all)
    (cuts-more 0 _ _ _ (cuts-cut 0 _ 1 c.self.inside.starts.items c.self.invariant) (omega (arith, more')))

pub returns-clause-ok : goal.returns-clause-ok
returns-clause-ok c =
    let all : length c.self.inside.items.items ≡ c.len-start.result = omega (arith, c.len-start.ensures, c.self.inside.items.ok) in
    rw (c.push_reserved.ensures.items, c.in_ok-reserve.ensures.items, c.in_ok-append.ensures.items, ← all, ← c.self.view_is)
    (pieces-above 0 c.self.inside.items.items c.args.assertions.items c.self.inside.starts.items _ (omega arith) c.self.invariant)
