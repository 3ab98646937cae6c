use Rattle.theory_combine.proofs.Settling.{all_told}
use Rattle.theory_combine.proofs.SettleSteps.{truth_told}
use Rattle.theory_combine.proofs.listing.truth_of.Goals as goal

pub truth_told-requires-clause-told : goal.truth_told-requires-clause-told
truth_told-requires-clause-told c = all_told c.args.parts.now c.args.progress.now c.requires

pub returns-in-None : goal.returns-in-None
returns-in-None c = λ l told at. absurd (c.in-None.ensures.none (l.atom, at.0, at.1 _))

pub returns-in-Some : goal.returns-in-Some
returns-in-Some c =
    let w = c.args.progress.now in
    truth_told w.atoms.atoms w.held.closure.log.items c.args.place c.in-Some.number c.truth_told.result c.are_apart.ensures c.requires.ready.under_way.1.held.told.consistent c.in-Some.ensures.some c.truth_told.ensures
