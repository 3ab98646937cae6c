use Rattle.std.proofs.Common.{◌≡◌, [], drop}
use Rattle.equality_clauses.specs.Once.{taken_all, IsPlaced}
use Rattle.equality_clauses.proofs.once.keep_once.Given as goal

abbrev pub invariant-loop-number : goal.invariant-loop-number
invariant-loop-number l = record { placed : IsPlaced l.places.items l.kept.items; kept : taken_all l.kept.items (drop l.number-index l.numbers) ≡ taken_all [] l.numbers }
