use Rattle.std.proofs.Common.{ap, length, subst, sym, arith, ◌<◌}
use Rattle.simplex.specs.Trail.{Trail}
use Rattle.simplex.specs.State.{State, IsWatched}
use Rattle.simplex_steps.proofs.SuspectLemmas.{covers_added}
use Rattle.simplex.proofs.WatchLemmas.{covers_set_bound}
use Rattle.simplex.proofs.BoundLemmas.{core_set}
use Rattle.simplex.proofs.state.Simplex.set_bound.Goals as goal

pub invariant_of-self-in_err-set : goal.invariant_of-self-in_err-set
invariant_of-self-in_err-set c =
    subst (λ (r : Trail). IsWatched c.self.inside.tableau c.self.inside.columns.items r c.add.new.self) (sym c.in_err-set.ensures.err)
    (record {
      core = c.self.invariant.core;
      covers = covers_added c.self.inside.suspects c.add.new.self c.self.inside.columns.items c.args.set.variable c.self.invariant.covers (subst (λ cs. c.args.set.variable < length cs) (sym (ap (λ (s : State). s.columns) c.self.view_is)) c.requires.known) c.in_ok-add.ensures.ok;
    })

pub add-requires : goal.add-requires
add-requires c =
    let lt = subst (λ cs. c.args.set.variable < length cs) (sym (ap (λ (s : State). s.columns) c.self.view_is)) c.requires.known in
    let room = c.self.invariant.covers.room in omega (arith, lt, room)

pub invariant_of-self-2 : goal.invariant_of-self-2
invariant_of-self-2 c =
    let lt = subst (λ cs. c.args.set.variable < length cs) (sym (ap (λ (s : State). s.columns) c.self.view_is)) c.requires.known in
    subst (λ cs. IsWatched c.self.inside.tableau cs c.set.new.self c.add.new.self) (sym c.refresh.ensures)
    (record {
      core = core_set c.self.inside.tableau c.self.inside.columns.items c.self.inside.trail c.set.new.self c.args.set c.self.invariant.core c.in_ok-set.ensures.count c.in_ok-set.ensures.ok lt c.requires.number;
      covers = covers_set_bound c.add.new.self c.self.inside.columns.items c.set.new.self.bounds c.args.set.variable
          (covers_added c.self.inside.suspects c.add.new.self c.self.inside.columns.items c.args.set.variable c.self.invariant.covers lt c.in_ok-add.ensures.ok) c.in_ok-add.ensures.ok.has;
    })
