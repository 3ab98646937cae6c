use Rattle.proof_read.proofs.SymbolLemmas.{files_more}
use Rattle.proof_read.proofs.symbols.Symbols.new.Goals as goal

pub loop-declaration-preserved : goal.loop-declaration-preserved
loop-declaration-preserved c = files_more _ _ _ _ _ _ _ c.loop-declaration-test.true c.declaration-item.is c.loop-declaration.invariant c.in_ok-file.ensures
