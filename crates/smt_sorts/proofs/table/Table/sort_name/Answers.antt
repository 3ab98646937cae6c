use Rattle.std.proofs.Common.{sym, ap, ◌∙◌}
use Rattle.smt_sorts.proofs.PlaceLemmas.{name_by_id, sort_name_of}
use Rattle.smt_sorts.specs.Names.{signature}
use Rattle.smt_sorts.proofs.table.Table.sort_name.Goals as goal

pub returns-in-Some : goal.returns-in-Some
returns-in-Some c = c.name_if_sort.ensures ∙ sym (name_by_id c.args.id (signature c.args.self.now) c.in-Some.ensures.apart ∙ ap sort_name_of c.in-Some.ensures.some)

pub returns-in-None : goal.returns-in-None
returns-in-None c = c.as_slice.ensures ∙ sym (name_by_id c.args.id (signature c.args.self.now) c.in-None.ensures.apart ∙ ap sort_name_of c.in-None.ensures.none)
