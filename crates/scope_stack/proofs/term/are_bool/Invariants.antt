use Rattle.std.proofs.Common.{◌≡◌, length, map}
use Rattle.smt_meaning.specs.declared.values.Sort.TheVariants.{Bool as Truths}
use Rattle.smt_meaning.specs.Signature.{all_of}
use Rattle.scope_stack.specs.Judged.{sort_asked}
use Rattle.scope_stack.proofs.term.are_bool.Given as goal

abbrev pub invariant-loop-first : goal.invariant-loop-first
invariant-loop-first l = all_of Truths (map sort_asked l.fn.asked) ≡ all_of Truths (map sort_asked l.rest)

abbrev pub decreases-loop-first : goal.decreases-loop-first
decreases-loop-first l = length l.rest
