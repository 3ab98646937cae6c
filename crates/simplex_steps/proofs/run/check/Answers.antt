use Rattle.std.proofs.Common.{inr, refl, rules}
use Rattle.simplex_steps.specs.State.{grid_of}
use Rattle.simplex_steps.proofs.Sound.{run_none, unspent_room}
use Rattle.simplex_steps.proofs.LineLemmas.{keeps_none}
use Rattle.simplex_steps.proofs.run.check.Goals as goal

pub returns-in-Some-clause-checked : goal.returns-in-Some-clause-checked
returns-in-Some-clause-checked c =
    record {
      search = record {
        run = run_none c.args.tableau.now c.args.columns.now c.requires.solution;
        lines = keeps_none c.args.kept.now.keep (grid_of c.args.tableau.now c.args.columns.now) c.args.kept.now.lines.items;
        rests = λ j lt free. inr (free, refl);
        keep = refl;
        most = search rules;
      };
      ends = c.crossing.ensures.ends c.args.tableau.now;
      spent = unspent_room c.args.room 0 c.crossing.result c.crossing.ensures.unspent;
    }
