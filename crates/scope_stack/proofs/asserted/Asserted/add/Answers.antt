use Rattle.std.proofs.Common.{◌≡◌, ◌+◌, ◌++◌, ◌∷◌, [], length, arith}
use Rattle.std.proofs.lemmas.List.{length_push}
use Rattle.scope_stack.proofs.PieceLemmas.{pieces-more, cuts-more}
use Rattle.scope_stack.proofs.asserted.Asserted.add.Goals as goal

pub invariant_of-self-2 : goal.invariant_of-self-2
invariant_of-self-2 c =
    let more : length (c.self.inside.items.items ++ c.args.assertion ∷ []) ≡ length c.self.inside.items.items + 1 = length_push c.self.inside.items.items c.args.assertion in
    rw c.in_ok-push.ensures.items (cuts-more 0 _ _ c.self.inside.starts.items c.self.invariant (omega (arith, more)))

pub returns-clause-ok : goal.returns-clause-ok
returns-clause-ok c =
    rw (c.in_ok-push.ensures.items, ← c.self.view_is)
    (pieces-more 0 c.self.inside.items.items (c.args.assertion ∷ []) c.self.inside.starts.items _ (omega arith) c.self.invariant)
