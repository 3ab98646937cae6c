use Rattle.std.proofs.Common.{◌≡◌, drop, map}
use Rattle.smt_meaning.specs.Signature.{sorts_eq}
use Rattle.elaborate.specs.Values.{sort_of}
use Rattle.elaborate.proofs.apply.have_sorts.Given as goal

abbrev pub invariant-loop-place : goal.invariant-loop-place
invariant-loop-place l = sorts_eq (map sort_of l.arguments) l.sorts ≡ sorts_eq (map sort_of (drop l.place l.arguments)) (drop l.place l.sorts)
