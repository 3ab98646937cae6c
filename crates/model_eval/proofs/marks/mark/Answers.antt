use Rattle.std.proofs.Common.{length, refl}
use Rattle.model_eval.proofs.MarkLemmas.{started, by_size}
use Rattle.model_eval.proofs.marks.mark.Goals as goal

pub mark_parts-requires-clause-start : goal.mark_parts-requires-clause-start
mark_parts-requires-clause-start c =
    by_size c.args.store.now.trees c.args.terms.now _ c.mark_all.new.marks
    (started c.args.store.now.trees c.args.terms.now (length c.args.marks.now) c.args.marks.now c.mark_all.new.marks c.mark_all.new.marks c.requires.fresh refl c.mark_all.ensures)
