use Rattle.std.proofs.lemmas.List.Elements.{All-more, Contains-get_or}
use Rattle.proof_terms.specs.FormValues.{IsFree}
use Rattle.proof_terms.proofs.FormLists.{all_taken}
use Rattle.proof_terms.proofs.FormChosen.{not_free}
use Rattle.proof_terms.proofs.form_values.free_part.Goals as goal

pub returns-then-is_free : goal.returns-then-is_free
returns-then-is_free c = (c.is_free.ensures.free c.if-is_free.true, Contains-get_or c.args.parts.now c.loop-part.part-index 0 c.loop-part-test.true)

pub loop-part-preserved : goal.loop-part-preserved
loop-part-preserved c =
    All-more (λ n. IsFree c.args.codes.now n → ⊥) c.args.parts.now c.loop-part.part-index 0 c.loop-part-test.true c.loop-part.invariant
    (not_free c.args.codes.now _ (c.is_free.ensures.given c.if-is_free.false))

pub returns : goal.returns
returns c = all_taken (λ n. IsFree c.args.codes.now n → ⊥) c.args.parts.now c.loop-part.part-index c.loop-part-test.false c.loop-part.invariant
