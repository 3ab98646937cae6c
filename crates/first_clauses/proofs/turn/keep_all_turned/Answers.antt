use Rattle.std.proofs.Common.{◌<◌, ◌≤◌, All, [], rules, length, take, subst}
use Rattle.std.proofs.lemmas.List.{take_all}
use Rattle.std.proofs.lemmas.List.Elements.{All-more}
use Rattle.first_clauses.specs.Turned.{IsKeptTurned}
use Rattle.first_clauses.proofs.PartClausesKeeping.{all_turned_stay}
use Rattle.first_clauses.proofs.turn.keep_all_turned.Goals as goal

pub loop-i-preserved : goal.loop-i-preserved
loop-i-preserved c =
    let inside : c.loop-i.i < length c.args.clauses.now = search rules in
    record {
      begun = c.in_ok-keep_turned.ensures.begun;
      stay = λ k among. c.keep_turned.ensures.stay k (c.loop-i.invariant.stay k among);
      has =
          All-more (IsKeptTurned c.args.stack.now.trees c.args.atoms.now.atoms c.keep_turned.new.store.clauses) c.args.clauses.now c.loop-i.i [] inside
          (all_turned_stay c.args.stack.now.trees c.args.atoms.now.atoms c.loop-i.store.clauses c.keep_turned.new.store.clauses (take c.loop-i.i c.args.clauses.now) c.keep_turned.ensures.stay c.loop-i.invariant.has)
          (subst (IsKeptTurned c.args.stack.now.trees c.args.atoms.now.atoms c.keep_turned.new.store.clauses) c.clause.ensures c.in_ok-keep_turned.ensures.has);
    }

pub returns-clause-has : goal.returns-clause-has
returns-clause-has c =
    let past : length c.args.clauses.now ≤ c.loop-i.i = search rules in
    subst (All (IsKeptTurned c.args.stack.now.trees c.args.atoms.now.atoms c.loop-i.store.clauses)) (take_all c.loop-i.i c.args.clauses.now past) c.loop-i.invariant.has
