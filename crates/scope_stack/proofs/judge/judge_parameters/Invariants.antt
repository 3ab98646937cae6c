use Rattle.std.proofs.Common.{◌≡◌, length}
use Rattle.term_store.specs.Newest.{hashes_of}
use Rattle.scope_stack.specs.Judged.{Continues, parameter_name}
use Rattle.scope_stack.proofs.judge.judge_parameters.Given as goal

abbrev pub invariant-loop-first : goal.invariant-loop-first
invariant-loop-first l = record {
  continues : Continues l.table l.parameters l.judged.items l.rest;
  filed : l.filed ≡ hashes_of parameter_name l.judged.items;
}

abbrev pub decreases-loop-first : goal.decreases-loop-first
decreases-loop-first l = length l.rest
