use Rattle.std.proofs.Common.{◌≡◌, ◌<◌, length, drop}
use Rattle.smt_meaning.specs.Term.{tree_at}
use Rattle.smt_meaning.specs.TreeShape.{divided_from}
use Rattle.smt_meaning.specs.Nodes.{pick}
use Rattle.proof_terms.proofs.terms_held.find_divided.Given as goal

abbrev pub invariant-loop-divisor : goal.invariant-loop-divisor
invariant-loop-divisor l = record {
  same : l.terms ≡ l.fn.terms;
  within : l.place < length l.fn.terms.trees;
  divided : divided_from (tree_at l.fn.terms.trees l.dividend) (pick l.fn.terms.trees l.divisors) ≡ divided_from (tree_at l.fn.terms.trees l.place) (pick l.fn.terms.trees (drop l.divisor-index l.divisors));
}
