use Rattle.std.proofs.Common.{◌≡◌, length, arith}
use Rattle.scope_stack.proofs.PieceLemmas.{pieces-cut, cuts-cut}
use Rattle.scope_stack.proofs.asserted.Asserted.push.Goals as goal

pub invariant_of-self-2 : goal.invariant_of-self-2
invariant_of-self-2 c =
    let all : length c.self.inside.items.items ≡ c.len.result = omega (arith, c.len.ensures, c.self.inside.items.ok) in
    rw (c.in_ok-extend.ensures.ok, ← all) (cuts-cut 0 _ c.args.levels c.self.inside.starts.items c.self.invariant)

pub returns-clause-ok : goal.returns-clause-ok
returns-clause-ok c =
    let all : length c.self.inside.items.items ≡ c.len.result = omega (arith, c.len.ensures, c.self.inside.items.ok) in
    rw (c.in_ok-extend.ensures.ok, ← all, ← c.self.view_is)
    (pieces-cut 0 c.self.inside.items.items c.self.inside.starts.items _ c.args.levels (omega arith) c.self.invariant)
