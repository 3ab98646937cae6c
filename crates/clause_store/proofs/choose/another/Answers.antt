use Rattle.std.proofs.Common.{◌≡◌, ◌<◌, ◌⊎◌, All, Contains, take, subst, sym, arith, inl, inr}
use Rattle.std.proofs.lemmas.List.Elements.{All-weaker, All-contains}
use Rattle.literals.specs.Signed.{Signed}
use Rattle.clause_store.specs.Choosing.{Outlasts}
use Rattle.clause_store.proofs.Loops.{take_whole, All-grown, item_in}
use Rattle.clause_store.proofs.choose.another.Goals as goal

pub later_other-best-requires-clause-best : goal.later_other-best-requires-clause-best
later_other-best-requires-clause-best c = All-contains (λ (l : Signed). l.atom < c.args.trail.now.atoms) c.args.literals.now c.loop-literal.best c.requires.known c.loop-literal.invariant.contained

pub loop-literal-preserved : goal.loop-literal-preserved
loop-literal-preserved c =
    let steps = c.args.trail.now.steps in
    let ls = c.args.literals.now in
    let first = c.args.first in
    let r = c.later_other-best.result in
    let i = c.loop-literal.literal-index in
    record {
      contained = elim c.later_other-best.ensures.of [
        | inl same ↦ subst (Contains ls) (sym same) c.loop-literal.invariant.contained
        | inr new ↦ subst (Contains ls) (sym new) (item_in ls i c.literal-item.result (omega arith) c.literal-item.is)
      ];
      single = λ e.
          let both = c.later_other-best.ensures.single e in
          All-grown (λ (m : Signed). m ≡ first) ls i c.literal-item.result (omega arith) c.literal-item.is (c.loop-literal.invariant.single both.0) both.1;
      last = All-grown (λ (m : Signed). (m ≡ first) ⊎ Outlasts steps r m) ls i c.literal-item.result (omega arith) c.literal-item.is
          (elim c.later_other-best.ensures.best [
            | inl same ↦ All-weaker (λ (m : Signed). m ≡ first) (λ (m : Signed). (m ≡ first) ⊎ Outlasts steps r m) (λ m e. inl e) (take i ls) (c.loop-literal.invariant.single same)
            | inr o ↦ All-weaker (λ (m : Signed). (m ≡ first) ⊎ Outlasts steps c.loop-literal.best m) (λ (m : Signed). (m ≡ first) ⊎ Outlasts steps r m)
                (λ m p. elim p [ inl e ↦ inl e | inr q ↦ inr (λ d f. q d (o d f)) ]) (take i ls) c.loop-literal.invariant.last
          ])
          c.later_other-best.ensures.literal;
    }

pub returns-clause-single : goal.returns-clause-single
returns-clause-single c = λ e.
    take_whole (All (λ (m : Signed). m ≡ c.args.first)) c.args.literals.now c.loop-literal.literal-index (omega arith) (omega arith) (c.loop-literal.invariant.single e)

pub returns-clause-last : goal.returns-clause-last
returns-clause-last c =
    take_whole (All (λ (m : Signed). (m ≡ c.args.first) ⊎ Outlasts c.args.trail.now.steps c.loop-literal.best m)) c.args.literals.now c.loop-literal.literal-index (omega arith) (omega arith) c.loop-literal.invariant.last
