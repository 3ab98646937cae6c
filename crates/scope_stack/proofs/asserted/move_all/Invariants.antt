use Rattle.std.proofs.Common.{◌≡◌, take, map, All}
use Rattle.scope_stack.specs.Inside.{asserted_by, IsWithin}
use Rattle.scope_stack.proofs.asserted.move_all.Given as goal

abbrev pub invariant-loop-assertion : goal.invariant-loop-assertion
invariant-loop-assertion l = (map (asserted_by l.copies.trees) l.moved.items ≡ map (asserted_by l.terms.trees) (take l.assertion-index l.assertions)) × All (IsWithin l.copies.trees) l.moved.items
