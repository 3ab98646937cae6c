use Rattle.std.proofs.Common.{All, sym, subst}
use Rattle.fraction128.specs.declared.Grid.{Grid}
use Rattle.fraction128.specs.Grid.{WithinBounds}
use Rattle.theory_combine.proofs.Clashing.{all_within}
use Rattle.theory_combine.proofs.Leaving.{argument_left}
use Rattle.theory_combine.proofs.clashes.stop_at_argument.Goals as goal

pub stop_seeing-requires-clause-seen : goal.stop_seeing-requires-clause-seen
stop_seeing-requires-clause-seen c =
    let w = c.args.progress.now in
    let under_way = c.requires.under_way in
    argument_left c.args.parts.now.stack.now w.held.bounds w.branches w.seen w.atoms.atoms under_way.3 c.args.place c.in-Ok.grid c.facts.ensures.bounds.apart c.in-Ok.ensures.exact
    (c.in-Ok.ensures.sound w.atoms.atoms under_way.1.held.knows)
    (subst (λ (g : Grid). All WithinBounds g.columns) (sym c.in-Ok.ensures.exact) (all_within w.held.bounds.bounds.columns c.requires.fits.0)) c.requires.argument
