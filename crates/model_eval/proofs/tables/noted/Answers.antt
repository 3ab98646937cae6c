use Rattle.std.proofs.Common.{◌∙◌, ap, nat_eq}
use Rattle.model_eval.specs.Tables.{place_with}
use Rattle.model_eval.proofs.TableLemmas.{place_more}
use Rattle.model_eval.proofs.tables.noted.Goals as goal

pub loop-i-preserved : goal.loop-i-preserved
loop-i-preserved c q =
    c.in_ok-note.ensures q ∙ ap (λ o. place_with o (nat_eq c.table_at.result.now.symbol q) c.loop-i.i) (c.loop-i.invariant q)
    ∙ place_more c.args.tables.now c.loop-i.i c.table_at.result.now q c.table_at.ensures
