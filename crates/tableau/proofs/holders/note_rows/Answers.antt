use Rattle.std.proofs.Common.{ℕ, ◌∙◌, subst, arith, get_or}
use Rattle.std.proofs.lemmas.List.{get_or_default}
use Rattle.tableau.specs.declared.rows.Row.{Row}
use Rattle.tableau.specs.Holders.{IsNoted}
use Rattle.tableau.proofs.Lists.{one_more, taken_all, noted_later}
use Rattle.tableau.proofs.holders.note_rows.Goals as goal

pub loop-here-preserved-then-here-rows : goal.loop-here-preserved-then-here-rows
loop-here-preserved-then-here-rows c =
    one_more {P = λ (k : ℕ) (d : Row). IsNoted c.loop-here.changes.items k (get_or c.args.rows.now k d)} {Q = λ (k : ℕ) (d : Row). IsNoted c.loop-here.changes.items k (get_or c.args.rows.now k d)}
    c.args.list.now c.loop-here.here-index _ (omega arith) (λ k d ne h. h) (λ lt d. absurd (omega arith)) c.loop-here.invariant

pub loop-here-preserved : goal.loop-here-preserved
loop-here-preserved c =
    one_more {P = λ (k : ℕ) (d : Row). IsNoted c.loop-here.changes.items k (get_or c.args.rows.now k d)} {Q = λ (k : ℕ) (d : Row). IsNoted c.note_row.new.changes.items k (get_or c.args.rows.now k d)}
    c.args.list.now c.loop-here.here-index _ (omega arith) (λ k d ne. noted_later (get_or c.args.rows.now k d) k c.loop-here.changes.items c.note_row.new.changes.items c.in_ok-note_row.ensures.keeps)
    (λ lt d. subst (λ (r : Row). IsNoted c.note_row.new.changes.items (get_or c.args.list.now c.loop-here.here-index 0) r) (c.index-rows-here.is ∙ get_or_default c.args.rows.now (get_or c.args.list.now c.loop-here.here-index 0) c.index-rows-here.result d lt) c.in_ok-note_row.ensures.ok)
    c.loop-here.invariant

pub returns-clause-ok : goal.returns-clause-ok
returns-clause-ok c = λ k d lk h. c.loop-here.invariant k d lk (taken_all c.args.list.now c.loop-here.here-index k (omega arith) h)
