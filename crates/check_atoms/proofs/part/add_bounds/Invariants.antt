use Rattle.std.proofs.Common.{◌≡◌, ◌++◌, map, drop}
use Rattle.check_atoms.specs.declared.part.PartAtom.TheVariants.{Bound}
use Rattle.check_atoms.proofs.part.add_bounds.Given as goal

abbrev pub invariant-loop-order : goal.invariant-loop-order
invariant-loop-order l = (l.atoms.items ++ map Bound (drop l.order-index l.orders)) ≡ (l.fn.atoms.items ++ map Bound l.orders)
