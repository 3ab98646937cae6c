use Rattle.std.proofs.Common.{length, ap, arith}
use Rattle.smt_meaning.proofs.Flat.{place_within}
use Rattle.smt_meaning.proofs.tokens.Tokens.room_for.Goals as goal

pub start_at-requires : goal.start_at-requires
start_at-requires c =
    let t = c.self.inside in
    let w = place_within t.kinds.items t.ends.items t.bytes.items c.args.self.now c.args.to c.self.invariant c.self.view_is c.requires.within in
    omega (arith, w.1, ap length c.as_slice-ends.ensures.value)

pub start_at-requires-2 : goal.start_at-requires-2
start_at-requires-2 c =
    let t = c.self.inside in
    let w = place_within t.kinds.items t.ends.items t.bytes.items c.args.self.now c.args.to c.self.invariant c.self.view_is c.requires.within in
    omega (arith, w.1, c.requires.order, ap length c.as_slice-ends.ensures.value)
