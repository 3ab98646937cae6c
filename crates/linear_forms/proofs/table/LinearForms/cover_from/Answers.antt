use Rattle.linear_forms.proofs.TableLemmas.{on_ok}
use Rattle.linear_forms.proofs.Growing.{covered}
use Rattle.linear_forms.proofs.table.LinearForms.cover_from.Goals as goal

pub returns-clause-ok : goal.returns-clause-ok
returns-clause-ok g c =
    on_ok c.cover_counted.result _ _ c.cover_counted.ensures.ok (λ e. covered c.args.store.now.trees c.args.self.now c.cover_counted.new.self c.len.result c.len.ensures.value c.requires.known c.cover_counted.ensures.kept e)
