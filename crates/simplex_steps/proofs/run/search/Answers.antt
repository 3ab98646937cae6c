use Rattle.std.proofs.Common.{◌∙◌, sym, subst, List}
use Rattle.fraction128.specs.declared.Column.{Column}
use Rattle.tableau.specs.Table.{Table}
use Rattle.simplex_steps.specs.State.{grid_of}
use Rattle.simplex_steps.specs.Run.{Ends}
use Rattle.simplex_steps.proofs.Sound.{run_through}
use Rattle.simplex_steps.proofs.LineLemmas.{records_same, records_more}
use Rattle.simplex_steps.proofs.run.search.Goals as goal

pub advance-requires-clause-sound : goal.advance-requires-clause-sound
advance-requires-clause-sound c = c.loop-pivots.invariant.1

pub advance-requires-clause-settled : goal.advance-requires-clause-settled
advance-requires-clause-settled c = c.loop-pivots.invariant.2

pub advance-requires-clause-covers : goal.advance-requires-clause-covers
advance-requires-clause-covers c = c.loop-pivots.invariant.5

pub returns-in-Ended-clause-ends : goal.returns-in-Ended-clause-ends
returns-in-Ended-clause-ends c =
    let r = c.in-Ended.ensures.advances in
    subst (λ (w : Table). Ends w c.advance.new.columns c.in-Ended.outcome) (sym r.0) (subst (λ (es : List Column). Ends c.loop-pivots.tableau es c.in-Ended.outcome) (sym r.1) r.3)

pub returns-in-Ended-clause-lines : goal.returns-in-Ended-clause-lines
returns-in-Ended-clause-lines c =
    let r = c.in-Ended.ensures.advances in
    records_same c.args.kept.now.keep c.loop-pivots.pivots (grid_of c.args.tableau.now c.args.columns.now) c.loop-pivots.tableau c.advance.new.tableau c.loop-pivots.columns c.advance.new.columns
    c.args.kept.now.lines.items c.loop-pivots.kept.lines.items c.advance.new.kept.lines.items c.loop-pivots.invariant.3 r.0 r.1 r.2

pub loop-pivots-preserved : goal.loop-pivots-preserved
loop-pivots-preserved c =
    let r = c.in-Pivoted.ensures.advances in (
      run_through c.args.tableau.now c.args.columns.now c.loop-pivots.tableau c.loop-pivots.columns c.advance.new.tableau c.advance.new.columns c.loop-pivots.pivots 1 c.loop-pivots.invariant.0 r.0.run,
      r.0.sound,
      r.0.settled,
      records_more c.args.kept.now.keep c.loop-pivots.kept.keep c.loop-pivots.pivots (grid_of c.args.tableau.now c.args.columns.now) (grid_of c.loop-pivots.tableau c.loop-pivots.columns) (grid_of c.advance.new.tableau c.advance.new.columns)
          c.args.kept.now.lines.items c.loop-pivots.kept.lines.items c.advance.new.kept.lines.items c.loop-pivots.invariant.4 c.loop-pivots.invariant.3 r.1,
      c.advance.ensures.keep ∙ c.loop-pivots.invariant.4,
      c.advance.ensures.covers,
    )
