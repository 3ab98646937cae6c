use Rattle.std.proofs.Common.{◌≡◌, map, take}
use Rattle.model_build.specs.Keys.{symbol_at}
use Rattle.model_build.proofs.tables.symbols_of.Given as goal

abbrev pub invariant-loop-place : goal.invariant-loop-place
invariant-loop-place l = l.symbols ≡ map (symbol_at l.store.trees) (take l.place-index l.firsts)
