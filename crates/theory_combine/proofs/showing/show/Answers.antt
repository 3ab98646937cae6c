use Rattle.theory_combine.proofs.Own.{own_numbers}
use Rattle.theory_combine.proofs.showing.show.Goals as goal

pub returns : goal.returns
returns c =
    let shown = c.requires.2 in
    record {
      sums = shown.sums_known;
      branches = shown.branches;
      atoms = shown.atoms;
      different = own_numbers c.args.progress.stopped_at c.args.progress.atoms.atoms c.are_apart.ensures;
      seen = shown.seen;
    }
