use Rattle.std.proofs.Common.{refl, rules}
use Rattle.simplex_steps.specs.State.{grid_of}
use Rattle.simplex_steps.proofs.Sound.{lawful, kept_run, run_after, failed_ends, failed_unspent, unspent_room}
use Rattle.simplex_steps.proofs.LineLemmas.{records_reach, records_after, keeps_lines, rests}
use Rattle.simplex_steps.proofs.run.check_uncrossed.Goals as goal

pub returns-in-Ok-clause-checked : goal.returns-in-Ok-clause-checked
returns-in-Ok-clause-checked c =
    let t = c.args.tableau.now in
    let cs = c.args.columns.now in
    let h = grid_of c.search.new.tableau c.search.new.columns in
    let law = lawful t cs c.facts.ensures c.requires.sound in
    let lines = records_after c.args.kept.now.keep c.search.result.pivots (grid_of t cs) (grid_of t c.settle.new.columns) h c.args.kept.now.lines.items c.search.new.kept.lines.items c.settle.ensures.settles.kept.reaches c.search.ensures.lines in
    record {
      search = record {
        run = run_after t cs t c.settle.new.columns c.search.new.tableau c.search.new.columns c.search.result.pivots (kept_run t cs c.settle.new.columns c.settle.ensures.settles.kept) c.search.ensures.run;
        lines = keeps_lines c.args.kept.now.keep c.search.result.pivots (grid_of t cs) h c.args.kept.now.lines.items c.search.new.kept.lines.items law lines;
        rests = rests c.args.kept.now.keep c.search.result.pivots (grid_of t cs) h c.args.kept.now.lines.items c.search.new.kept.lines.items law lines;
        keep = c.search.ensures.keep;
        most = c.search.ensures.most;
      };
      ends = c.search.ensures.ends;
      spent = c.search.ensures.room;
    }

pub returns-in-Err-clause-checked : goal.returns-in-Err-clause-checked
returns-in-Err-clause-checked c =
    let t = c.args.tableau.now in
    let cs = c.args.columns.now in
    let h = grid_of t c.settle.new.columns in
    let law = lawful t cs c.facts.ensures c.requires.sound in
    let lines = records_reach c.args.kept.now.keep (grid_of t cs) h c.args.kept.now.lines.items c.settle.ensures.settles.kept.reaches in
    record {
      search = record {
        run = kept_run t cs c.settle.new.columns c.settle.ensures.settles.kept;
        lines = keeps_lines c.args.kept.now.keep 0 (grid_of t cs) h c.args.kept.now.lines.items c.args.kept.now.lines.items law lines;
        rests = rests c.args.kept.now.keep 0 (grid_of t cs) h c.args.kept.now.lines.items c.args.kept.now.lines.items law lines;
        keep = refl;
        most = search rules;
      };
      ends = failed_ends t c.settle.new.columns c.in-Err.failure c.failed.result c.failed.ensures c.in-Err.ensures.settles.range;
      spent = unspent_room c.args.room 0 c.failed.result (failed_unspent c.in-Err.failure c.failed.result c.failed.ensures);
    }
