use Rattle.std.proofs.Common.{sym, ◌∙◌}
use Rattle.clause_store.proofs.TrailLemmas.{on_where_marked, off_where_unmarked}
use Rattle.clause_store.proofs.trail.has_mark.Goals as goal

pub returns-clause-yes : goal.returns-clause-yes
returns-clause-yes c = λ e steps h. on_where_marked steps c.args.literal c.args.mark (c.is_same.ensures.yes e ∙ c.mark_of.ensures) h

pub returns-clause-no : goal.returns-clause-no
returns-clause-no c = λ e steps h on. off_where_unmarked steps c.args.literal c.args.mark (λ same. c.is_same.ensures.no e (same ∙ sym c.mark_of.ensures)) h on
