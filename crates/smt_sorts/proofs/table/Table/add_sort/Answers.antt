use Rattle.std.proofs.Common.{sym, ◌∙◌}
use Rattle.smt_sorts.proofs.PlaceLemmas.{found_sort}
use Rattle.smt_sorts.specs.Names.{signature}
use Rattle.smt_sorts.proofs.table.Table.add_sort.Goals as goal

pub add-requires-clause-new : goal.add-requires-clause-new
add-requires-clause-new c = rw (c.sort.ensures, c.in_ok-name.ensures) (sym (found_sort c.args.name.now (signature c.args.self.now)) ∙ c.requires)
