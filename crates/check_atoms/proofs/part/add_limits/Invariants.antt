use Rattle.std.proofs.Common.{◌≡◌, ◌++◌, map, flat_map, drop}
use Rattle.pair_bounds.specs.Rows.{limits}
use Rattle.check_atoms.specs.declared.part.PartAtom.TheVariants.{Limit}
use Rattle.check_atoms.proofs.part.add_limits.Given as goal

abbrev pub invariant-loop-row : goal.invariant-loop-row
invariant-loop-row l = (l.atoms.items ++ map Limit (flat_map limits (drop l.row-index l.rows))) ≡ (l.fn.atoms.items ++ map Limit (flat_map limits l.rows))
