use Rattle.std.proofs.Common.{◌≡◌, drop}
use Rattle.smt_meaning.specs.Signature.{is_one_of}
use Rattle.look_ahead.specs.Lets.{names_of}
use Rattle.look_ahead.proofs.lets.is_one_of.Given as goal

abbrev pub invariant-loop-other : goal.invariant-loop-other
invariant-loop-other l = is_one_of l.name (names_of l.names) ≡ is_one_of l.name (names_of (drop l.other-index l.names))
