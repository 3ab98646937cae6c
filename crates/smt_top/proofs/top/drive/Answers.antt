use Rattle.std.proofs.Common.{arith, ◌+◌, ◌≡◌, refl, []}
use Rattle.std.proofs.lemmas.Result.{err_from_is_err_and}
use Rattle.smt_top.proofs.Turns.{cut_at_start, cut_later, over_later}
use Rattle.smt_top.proofs.Servings.{Gains-none}
use Rattle.smt_top.proofs.Driving.{counts_fit, driven_first, driven_more, driven_off, driven_by}
use Rattle.smt_top.proofs.top.drive.Goals as goal
use Rattle.smt_top.proofs.top.drive.Goals.{else-loop-turn-test, then-loop-turn-test+in-Complete}

pub returns-in_err-buf : goal.returns-in_err-buf
returns-in_err-buf g c =
    let p = err_from_is_err_and c.from_residual.result c.from_residual.ensures.1 in
    rw (p.1, p.2) (record {
      journal = [];
      gained = Gains-none _;
      tally = c.requires.tally;
      silent = λ none. refl;
      stands = cut_later _ _ _ 0 c.args.budget _ (omega arith) (cut_at_start _ _ 0 _ c.requires.begun);
    })

pub advance-requires-clause-may : goal.advance-requires-clause-may
advance-requires-clause-may g c = c.requires.may

pub advance-requires-clause-numbered : goal.advance-requires-clause-numbered
advance-requires-clause-numbered g c = counts_fit _ _ 0 c.args.server.now [] c.requires.tally c.requires.begun

pub advance-requires-clause-room : goal.advance-requires-clause-room
advance-requires-clause-room g c = omega (arith, c.requires.begun.few)

pub returns-in_err-stage : goal.returns-in_err-stage
returns-in_err-stage g c =
    let p = err_from_is_err_and c.from_residual-in_err-stage.result c.from_residual-in_err-stage.ensures.1 in
    let d = driven_first _ _ _ _ _ _ _ _ _ _ _ c.requires.begun c.requires.tally refl c.in_err-stage.ensures.advances in
    rw (p.1, p.2) (driven_by _ _ _ 0 c.args.budget _ _ _ _ _ d (cut_later _ _ _ 0 c.args.budget _ (omega arith) d.stands))

pub loop-turn-init : goal.loop-turn-init
loop-turn-init g c = record {
  buffer = omega (arith, c.in_ok-buf.ensures.len);
  driven = driven_first _ _ _ _ _ _ _ _ _ _ _ c.requires.begun c.requires.tally refl c.in_ok-stage.ensures.advances;
  may = c.in_ok-stage.ensures.still;
}

pub take_more-requires-clause-going : goal.take_more-requires-clause-going
take_more-requires-clause-going g c = let d = rw c.in-Asks.is at c.loop-turn.invariant.driven in d.stands.1

pub take_more-requires-clause-settled : goal.take_more-requires-clause-settled
take_more-requires-clause-settled g c = let d = rw c.in-Asks.is at c.loop-turn.invariant.driven in d.stands.2

pub take_more-requires-clause-buffer : goal.take_more-requires-clause-buffer
take_more-requires-clause-buffer g c = omega (arith, c.loop-turn.invariant.buffer, c.as_mut_slice.ensures.len)

pub take_more-requires-clause-room : goal.take_more-requires-clause-room
take_more-requires-clause-room g c = let d = rw c.in-Asks.is at c.loop-turn.invariant.driven in omega (arith, d.stands.0.few, c.requires.budget)

pub returns-in_err-take_more-in-Asks : goal.returns-in_err-take_more-in-Asks
returns-in_err-take_more-in-Asks g c =
    let p = err_from_is_err_and c.from_residual-in_err-take_more-in-Asks.result c.from_residual-in_err-take_more-in-Asks.ensures.1 in
    let d = rw c.in-Asks.is at c.loop-turn.invariant.driven in
    let off = c.in_err-take_more-in-Asks.ensures.err _ _ _ d.journal d.stands.0 refl in
    rw (p.1, p.2)
    (driven_off _ _ _ _ _ _ _ _ _ d (c.in_err-take_more-in-Asks.ensures.tally d.journal d.tally) _ c.args.budget _
    (cut_later _ _ _ (c.loop-turn.turn + 1) c.args.budget _ (omega arith) off))

pub advance-requires-in-loop-turn-clause-may : goal.advance-requires-in-loop-turn-clause-may
advance-requires-in-loop-turn-clause-may g c = c.loop-turn.invariant.may

pub advance-requires-in-loop-turn-clause-numbered : goal.advance-requires-in-loop-turn-clause-numbered
advance-requires-in-loop-turn-clause-numbered g c =
    let d = rw c.in-Asks.is at c.loop-turn.invariant.driven in
    let so = c.in_ok-take_more-in-Asks.ensures.ok _ _ _ d.journal d.stands.0 refl in
    counts_fit _ _ _ _ d.journal (c.in_ok-take_more-in-Asks.ensures.tally d.journal d.tally) so

pub advance-requires-in-loop-turn-clause-room : goal.advance-requires-in-loop-turn-clause-room
advance-requires-in-loop-turn-clause-room g c =
    let d = rw c.in-Asks.is at c.loop-turn.invariant.driven in
    let so = c.in_ok-take_more-in-Asks.ensures.ok _ _ _ d.journal d.stands.0 refl in
    omega (arith, so.few, c.requires.budget)

pub returns-in_err-stage-2 : goal.returns-in_err-stage-2
returns-in_err-stage-2 g c =
    let p = err_from_is_err_and c.from_residual-in_err-stage-2.result c.from_residual-in_err-stage-2.ensures.1 in
    let d = rw c.in-Asks.is at c.loop-turn.invariant.driven in
    let so = c.in_ok-take_more-in-Asks.ensures.ok _ _ _ d.journal d.stands.0 refl in
    let e = driven_more _ _ _ _ _ _ _ _ _ d (c.in_ok-take_more-in-Asks.ensures.tally d.journal d.tally) _ _ _ _ _ _ _ _ so refl c.in_err-stage-2.ensures.advances in
    rw (p.1, p.2) (driven_by _ _ _ (c.loop-turn.turn + 1) c.args.budget _ _ _ _ _ e (cut_later _ _ _ (c.loop-turn.turn + 1) c.args.budget _ (omega arith) e.stands))

pub loop-turn-preserved : goal.loop-turn-preserved
loop-turn-preserved g c =
    let d = rw c.in-Asks.is at c.loop-turn.invariant.driven in
    let so = c.in_ok-take_more-in-Asks.ensures.ok _ _ _ d.journal d.stands.0 refl in
    record {
      buffer = c.loop-turn.invariant.buffer;
      driven = driven_more _ _ _ _ _ _ _ _ _ d (c.in_ok-take_more-in-Asks.ensures.tally d.journal d.tally) _ _ _ _ _ _ _ _ so refl c.in_ok-stage-2.ensures.advances;
      may = c.in_ok-stage-2.ensures.still;
    }

pub returns : goal.returns
returns g c = elim c.loop-turn-test.branch [
  | else-loop-turn-test w ↦ let same : c.loop-turn.turn ≡ c.args.budget = omega arith in rw (← same) c.loop-turn.invariant.driven
  | then-loop-turn-test+in-Complete w ↦
      let d = rw w.in-Complete.is at c.loop-turn.invariant.driven in
      rw w.in-Complete.is (driven_by _ _ _ c.loop-turn.turn c.args.budget _ _ _ _ _ d (over_later _ _ c.loop-turn.turn c.args.budget _ (omega arith) d.stands))
]
