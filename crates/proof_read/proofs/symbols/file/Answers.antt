use Rattle.std.proofs.Common.{sym, ◌∙◌}
use Rattle.proof_read.proofs.SymbolLemmas.{files_sort, files_found_at}
use Rattle.proof_read.proofs.symbols.file.Goals as goal

pub returns-then-is_sort : goal.returns-then-is_sort
returns-then-is_sort c = files_sort _ _ _ c.requires (sym c.if-is_sort.ensures)

pub returns-in-Some : goal.returns-in-Some
returns-in-Some c = files_found_at _ _ _ _ _ _ c.requires c.deref.ensures.value (c.as_slice.ensures ∙ c.name.ensures) c.in-Some.ensures.some
