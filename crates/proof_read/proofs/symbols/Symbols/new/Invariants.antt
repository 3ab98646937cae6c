use Rattle.std.proofs.Common.{take}
use Rattle.proof_read.specs.SymbolTable.{Files}
use Rattle.proof_read.proofs.symbols.Symbols.new.Given as goal

abbrev pub invariant-loop-declaration : goal.invariant-loop-declaration
invariant-loop-declaration l = Files (take l.declaration-index l.declared) l.functions.items l.index
