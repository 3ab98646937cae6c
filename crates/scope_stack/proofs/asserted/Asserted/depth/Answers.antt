use Rattle.std.proofs.Common.{◌≡◌, ◌+◌, length, arith}
use Rattle.scope_stack.proofs.PieceLemmas.{length-pieces}
use Rattle.scope_stack.specs.Pieces.{pieces}
use Rattle.scope_stack.proofs.asserted.Asserted.depth.Goals as goal

pub returns : goal.returns
returns c =
    let n : length (pieces 0 c.self.inside.items.items c.self.inside.starts.items) ≡ length c.self.inside.starts.items + 1 = length-pieces 0 _ _ in
    rw (← c.self.view_is) (omega (arith, n, c.len.ensures, c.self.inside.starts.ok))
