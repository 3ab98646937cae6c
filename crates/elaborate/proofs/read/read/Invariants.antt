use Rattle.elaborate.specs.Judged.{scope_of, rules_of}
use Rattle.elaborate.specs.Frames.{walk_of}
use Rattle.smt_sorts.specs.Names.{signature}
use Rattle.elaborate.specs.Own.{IsApart}
use Rattle.elaborate.specs.Values.{HasGrown}
use Rattle.elaborate.proofs.Runs.{IsAt}
use Rattle.elaborate.proofs.read.read.Given as goal

abbrev pub invariant-loop-place : goal.invariant-loop-place
invariant-loop-place l =
    IsAt (rules_of l.rules) l.term (scope_of l.table l.initial.store.trees) (walk_of l.term (scope_of l.table l.initial.store.trees) l.initial.walk) l.place l.walk l.store.trees × (HasGrown l.initial.store l.store × IsApart (signature l.table) l.store.trees l.apart)
