use Rattle.std.proofs.Common.{◌≡◌, [], take}
use Rattle.fraction128.specs.Lines.{HasBasis, first_basis}
use Rattle.bound_log.specs.Told.{column_sums}
use Rattle.bound_log.specs.Atoms.{Knows}
use Rattle.bound_log.specs.Pending.{plain_grid}
use Rattle.bound_log.specs.Columns.{HasColumnsOf}
use Rattle.theory_combine.proofs.start.bounds_of.Given as goal

abbrev pub invariant-loop-number : goal.invariant-loop-number
invariant-loop-number l = record { knows : Knows (take l.number l.atoms.atoms) l.bounds; columns : HasColumnsOf (take l.number l.atoms.atoms) l.bounds; basis : HasBasis (first_basis (column_sums l.bounds)) (plain_grid l.bounds); log : l.bounds.log ≡ [] }
