use Rattle.std.proofs.Common.{◌∷◌, take}
use Rattle.closure_log.specs.Read.{IsRead}
use Rattle.closure_log.proofs.read.read_part.Given as goal

abbrev pub invariant-loop-argument : goal.invariant-loop-argument
invariant-loop-argument l = IsRead l.atoms.atoms l.log (l.place ∷ take l.argument-index l.arguments) l.read.clause.items l.read.open_truth l.read.is_odd
