use Rattle.proof_terms.specs.FormValues.{GivesAt}
use Rattle.proof_terms.proofs.FormLists.{all_taken}
use Rattle.proof_terms.proofs.form_values.each_gives.Goals as goal

pub returns-clause-yes : goal.returns-clause-yes
returns-clause-yes c =
    λ _. all_taken (GivesAt c.args.connective c.args.codes.now c.args.parts.now c.args.sign) c.args.parts.now c.loop-part.part-index c.loop-part-test.false c.loop-part.invariant
