use Rattle.std.proofs.Common.{◌≡◌, take}
use Rattle.model_build.specs.Filling.{tables_of}
use Rattle.model_build.proofs.tables.tables_of.Given as goal

abbrev pub invariant-loop-declaration : goal.invariant-loop-declaration
invariant-loop-declaration l = l.tables.items ≡ tables_of l.store.trees l.given l.firsts (take l.declaration-index l.declarations)
