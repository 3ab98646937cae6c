use Rattle.std.proofs.Common.{◌≡◌, drop}
use Rattle.smt_sorts.specs.Listed.{is_named, first_that}
use Rattle.smt_sorts.proofs.entries.look_through.Given as goal

abbrev pub invariant-loop-declaration : goal.invariant-loop-declaration
invariant-loop-declaration l = first_that (is_named l.kind l.name) (drop l.declaration-index l.declarations) ≡ first_that (is_named l.kind l.name) l.declarations
