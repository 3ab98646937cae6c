use Rattle.std.proofs.Common.{◌≡◌, drop}
use Rattle.smt_meaning.specs.TreeShape.{are_divisors}
use Rattle.smt_meaning.specs.Nodes.{pick}
use Rattle.proof_terms.proofs.terms_divisions.are_divisors.Given as goal

abbrev pub invariant-loop-place : goal.invariant-loop-place
invariant-loop-place l = are_divisors (pick l.store.trees l.places) ≡ are_divisors (pick l.store.trees (drop l.place-index l.places))
