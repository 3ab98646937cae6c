use Rattle.std.proofs.Common.{subst}
use Rattle.theory_combine.specs.Settled.{IsTiedIn, IsToldWhereEmpty}
use Rattle.theory_combine.proofs.Settling.{is_told}
use Rattle.theory_combine.proofs.settled.untrue_clause.Goals as goal

pub returns : goal.returns
returns c =
    let p = c.args.parts.now in
    let w = c.args.progress.now in
    let i = c.args.pair.left in
    let j = c.args.pair.right in
    let low : IsToldWhereEmpty w.atoms.atoms w.held.closure.log.items c.args.low = rw c.in_default.is at c.in_ok-clause.ensures in
    let high : IsToldWhereEmpty w.atoms.atoms w.held.closure.log.items c.args.high = rw c.in_default-2.is at c.in_ok-clause-2.ensures in
    let same : IsTiedIn w.atoms.atoms w.held.closure.log.items i j c.args.low c.args.high = rw c.in_default-3.is at c.in_ok-clause-3.ensures in
    let other = c.other_way.result in
    let other_tied : IsTiedIn w.atoms.atoms w.held.closure.log.items other.left other.right c.args.high c.args.low = rw c.in_default-4.is at c.in_ok-clause-4.ensures in
    let turned : IsTiedIn w.atoms.atoms w.held.closure.log.items j i c.args.high c.args.low =
    subst (λ m. IsTiedIn w.atoms.atoms w.held.closure.log.items j m c.args.high c.args.low) c.other_way.ensures.right
    (subst (λ m. IsTiedIn w.atoms.atoms w.held.closure.log.items m other.right c.args.high c.args.low) c.other_way.ensures.left other_tied) in
    let told = is_told p w c.requires.met.at_last c.equality_is_decided.ensures c.wholes_hold.ensures c.facts.ensures c.requires.met.fits c.requires.met.whole in
    record {
      same = told i j c.args.low c.args.high c.requires.low c.requires.high low high same;
      turned = told j i c.args.high c.args.low c.requires.high c.requires.low high low turned;
    }
