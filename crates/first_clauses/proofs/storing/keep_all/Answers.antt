use Rattle.std.proofs.Common.{◌<◌, ◌≤◌, All, List, [], rules, length, take, subst, sym, ◌∙◌}
use Rattle.std.proofs.lemmas.List.{take_all}
use Rattle.std.proofs.lemmas.List.Elements.{All-more, All-weaker}
use Rattle.literals.specs.Signed.{Signed}
use Rattle.first_clauses.specs.PartClausesFirst.{HasClause, IsClause}
use Rattle.first_clauses.proofs.PartClausesKeeping.{clause_stays}
use Rattle.first_clauses.proofs.storing.keep_all.Goals as goal

pub loop-i-preserved : goal.loop-i-preserved
loop-i-preserved c =
    let inside : c.loop-i.i < length c.args.clauses.now = search rules in
    record {
      atoms = c.keep.ensures.atoms ∙ c.loop-i.invariant.atoms;
      begun = λ q b all.
          c.in_ok-keep.ensures.begun q (c.loop-i.invariant.begun q b all) (subst (λ (ls : List Signed). IsClause q 0 ls) (sym c.clause.ensures) (all c.loop-i.i [] inside));
      stay = λ k among. c.keep.ensures.stay k (c.loop-i.invariant.stay k among);
      has =
          All-more (HasClause c.keep.new.store.clauses) c.args.clauses.now c.loop-i.i [] inside
          (All-weaker (HasClause c.loop-i.store.clauses) (HasClause c.keep.new.store.clauses) (clause_stays c.loop-i.store.clauses c.keep.new.store.clauses c.keep.ensures.stay) (take c.loop-i.i c.args.clauses.now) c.loop-i.invariant.has)
          (subst (λ (ls : List Signed). HasClause c.keep.new.store.clauses ls) c.clause.ensures c.in_ok-keep.ensures.has);
    }

pub returns-clause-has : goal.returns-clause-has
returns-clause-has c =
    let past : length c.args.clauses.now ≤ c.loop-i.i = search rules in
    subst (All (HasClause c.loop-i.store.clauses)) (take_all c.loop-i.i c.args.clauses.now past) c.loop-i.invariant.has
