use Rattle.std.proofs.Common.{◌≡◌, ◌⊎◌, ◌∙◌, Some, subst, sym, inl, inr, arith}
use Rattle.literals.specs.Signed.{Signed}
use Rattle.conflict_learn.specs.Analysing.{IsFalseBelow}
use Rattle.conflict_learn.proofs.Taking.{Taking, taking-start, taking-skip, taking-more, taking-end}
use Rattle.conflict_learn.proofs.analysis.Analysis.take_in.Goals as goal
use Rattle.conflict_learn.proofs.analysis.Analysis.take_in.Goals.{then-not-is_it+in_ok-see, else-not-is_it}

pub loop-literal-init : goal.loop-literal-init
loop-literal-init c =
    let e = c.in_ok-add_premise.ensures in
    taking-start c.args.store.now.clauses c.args.store.now.trail.steps c.args.id c.args.below e.0 c.args.but c.args.literals.now c.args.self.now c.add_premise.new.self c.steps-steps.ensures.unique c.requires.sound e.1 e.2

pub place_of-place-requires-clause-is_false : goal.place_of-place-requires-clause-is_false
place_of-place-requires-clause-is_false c =
    let here : (c.args.but ≡ Some c.literal-item.result) ⊎ IsFalseBelow c.args.store.now.trail.steps c.args.below c.args.self.now.deepest c.literal-item.result =
    subst (λ (m : Signed). (c.args.but ≡ Some m) ⊎ IsFalseBelow c.args.store.now.trail.steps c.args.below c.args.self.now.deepest m) (sym c.literal-item.is) (c.requires.others c.loop-literal.literal-index c.literal-item.result (omega arith)) in
    elim here [
      | inl same ↦ absurd (c.is_it.ensures.other c.if-not-is_it.true same)
      | inr f ↦ subst (λ n. IsFalseBelow c.args.store.now.trail.steps c.args.below n c.literal-item.result) (sym c.deepest-depth.ensures) f
    ]

pub loop-literal-preserved : goal.loop-literal-preserved
loop-literal-preserved c = elim c.if-not-is_it.branch [
  | then-not-is_it+in_ok-see w ↦
      taking-more c.args.store.now.clauses c.args.store.now.trail.steps c.args.id c.args.below c.loop-literal.literal-index c.args.but c.args.literals.now c.args.self.now c.loop-literal.self c.if-not-is_it.self c.literal-item.result w.place_of-place.result
      (omega arith) c.literal-item.is c.requires.within c.requires.kept w.place_of-place.ensures.below w.place_of-place.ensures.is (let le = w.place_of-place.ensures.shallow in omega (arith, le, c.deepest-depth.ensures, c.loop-literal.invariant.grew.deepest)) c.loop-literal.invariant (w.self-is ∙ w.in_ok-see.ensures)
  | else-not-is_it w ↦
      subst (Taking c.args.store.now.clauses c.args.store.now.trail.steps c.args.id c.args.below _ c.args.but c.args.literals.now c.args.self.now) (sym w.self-is)
      (taking-skip c.args.store.now.clauses c.args.store.now.trail.steps c.args.id c.args.below c.loop-literal.literal-index c.args.but c.args.literals.now c.args.self.now c.loop-literal.self c.literal-item.result
      (omega arith) c.literal-item.is (c.is_it.ensures.same w.if-not-is_it.false) c.loop-literal.invariant)
]

pub returns : goal.returns
returns c =
    taking-end c.args.store.now.clauses c.args.store.now.trail.steps c.args.id c.args.below c.loop-literal.literal-index c.args.but c.args.literals.now c.args.self.now c.loop-literal.self (omega arith) c.requires.kept c.loop-literal.invariant
