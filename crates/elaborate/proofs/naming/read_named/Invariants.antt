use Rattle.smt_sorts.specs.Names.{Names, HasGained}
use Rattle.elaborate.specs.Judged.{scope_of, rules_of}
use Rattle.elaborate.specs.Frames.{walk_of}
use Rattle.elaborate.specs.Values.{HasGrown}
use Rattle.elaborate.proofs.Named.{IsIn}
use Rattle.elaborate.proofs.naming.read_named.Given as goal

abbrev pub invariant-loop-place : goal.invariant-loop-place
invariant-loop-place l =
    IsIn (rules_of l.rules) l.term (scope_of l.initial.table l.initial.store.trees) (walk_of l.term (scope_of l.initial.table l.initial.store.trees) l.initial.walk) l.place l.walk (scope_of l.table l.store.trees)
    × (HasGrown l.initial.store l.store × ((t : Names) → HasGained t l.initial.table → HasGained t l.table))
