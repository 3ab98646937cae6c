use Rattle.std.proofs.Common.{All, Contains, subst, ap, ◌∙◌}
use Rattle.std.proofs.lemmas.List.{take_all}
use Rattle.std.proofs.lemmas.List.Elements.{All-contains, All-more}
use Rattle.literals.specs.Signed.{Signed, opposite}
use Rattle.worker.proofs.Carried.{not_among}
use Rattle.worker.proofs.import.has_pair.Goals as goal

pub loop-literal-preserved : goal.loop-literal-preserved
loop-literal-preserved c =
    All-more (λ (x : Signed). Contains c.args.literals.now (opposite x) → ⊥) c.args.literals.now c.loop-literal.literal-index c.literal-item.result c.loop-literal-test.true c.loop-literal.invariant
    (not_among c.args.literals.now _ c.negated.result (c.negated.ensures ∙ ap opposite c.literal-item.is) c.if-contains.ensures.cases)

pub returns : goal.returns
returns c = λ l k o.
    All-contains (λ (x : Signed). Contains c.args.literals.now (opposite x) → ⊥) c.args.literals.now l
    (subst (λ xs. All (λ (x : Signed). Contains c.args.literals.now (opposite x) → ⊥) xs) (take_all c.loop-literal.literal-index c.args.literals.now c.loop-literal-test.false) c.loop-literal.invariant) k o
