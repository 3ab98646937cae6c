use Rattle.std.proofs.Common.{◌<◌, All, Contains, take, subst, sym, arith, inl, inr}
use Rattle.std.proofs.lemmas.List.Elements.{All-weaker, All-contains}
use Rattle.literals.specs.Signed.{Signed}
use Rattle.clause_store.specs.Choosing.{Outlasts}
use Rattle.clause_store.proofs.Loops.{take_whole, All-grown, item_in}
use Rattle.clause_store.proofs.choose.last.Goals as goal

pub later-best-requires-clause-best : goal.later-best-requires-clause-best
later-best-requires-clause-best c = All-contains (λ (l : Signed). l.atom < c.args.trail.now.atoms) c.args.literals.now c.loop-literal.best c.requires.known c.loop-literal.invariant.contained

pub loop-literal-preserved : goal.loop-literal-preserved
loop-literal-preserved c =
    let steps = c.args.trail.now.steps in
    let ls = c.args.literals.now in
    let r = c.later-best.result in
    record {
      contained = elim c.later-best.ensures.of [
        | inl same ↦ subst (Contains ls) (sym same) c.loop-literal.invariant.contained
        | inr new ↦ subst (Contains ls) (sym new) (item_in ls c.loop-literal.literal-index c.literal-item.result (omega arith) c.literal-item.is)
      ];
      last = All-grown (Outlasts steps r) ls c.loop-literal.literal-index c.literal-item.result (omega arith) c.literal-item.is
          (All-weaker (Outlasts steps c.loop-literal.best) (Outlasts steps r) (λ m o d f. o d (c.later-best.ensures.best d f)) (take c.loop-literal.literal-index ls) c.loop-literal.invariant.last)
          c.later-best.ensures.literal;
    }

pub returns-clause-last : goal.returns-clause-last
returns-clause-last c =
    take_whole (All (Outlasts c.args.trail.now.steps c.loop-literal.best)) c.args.literals.now c.loop-literal.literal-index (omega arith) (omega arith) c.loop-literal.invariant.last
