use Rattle.std.proofs.Common.{◌≡◌, drop, map}
use Rattle.smt_meaning.specs.Signature.{all_of}
use Rattle.elaborate.specs.Values.{sort_of}
use Rattle.elaborate.proofs.operators.all_have.Given as goal

abbrev pub invariant-loop-argument : goal.invariant-loop-argument
invariant-loop-argument l = all_of l.sort (map sort_of l.arguments) ≡ all_of l.sort (map sort_of (drop l.argument-index l.arguments))
