use Rattle.std.proofs.Common.{◌≡◌}
use Rattle.scope_stack.specs.Seen.{AreCopies}
use Rattle.scope_stack.proofs.copy.copy_terms.Given as goal

abbrev pub invariant-loop : goal.invariant-loop
invariant-loop l = (l.copies.limit ≡ 4294967295) × AreCopies l.terms.trees l.copies.trees l.needed.members.items
