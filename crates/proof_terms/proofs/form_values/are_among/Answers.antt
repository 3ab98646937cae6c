use Rattle.std.proofs.lemmas.List.Elements.{All-more}
use Rattle.proof_terms.specs.FormValues.{IsAmong}
use Rattle.proof_terms.proofs.FormLists.{all_taken}
use Rattle.proof_terms.proofs.form_values.are_among.Goals as goal

pub loop-code-preserved : goal.loop-code-preserved
loop-code-preserved c =
    All-more (IsAmong c.args.own c.args.sorted.now) c.args.codes.now c.loop-code.code-index 0 c.loop-code-test.true c.loop-code.invariant (c.is_among.ensures.yes c.if-not-is_among.false)

pub returns-clause-yes : goal.returns-clause-yes
returns-clause-yes c = λ _. all_taken (IsAmong c.args.own c.args.sorted.now) c.args.codes.now c.loop-code.code-index c.loop-code-test.false c.loop-code.invariant
