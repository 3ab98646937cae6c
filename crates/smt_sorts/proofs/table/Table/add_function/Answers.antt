use Rattle.std.proofs.Common.{sym, ◌∙◌}
use Rattle.smt_sorts.proofs.PlaceLemmas.{found_function}
use Rattle.smt_sorts.specs.Names.{signature}
use Rattle.smt_sorts.proofs.table.Table.add_function.Goals as goal

pub add-requires-clause-new : goal.add-requires-clause-new
add-requires-clause-new c = rw (c.function.ensures, c.in_ok-name.ensures) (sym (found_function c.args.name.now (signature c.args.self.now)) ∙ c.requires)
