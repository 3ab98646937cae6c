use Rattle.std.proofs.Common.{not, ◌||◌, ap, sym, ◌∙◌}
use Rattle.std.specs.List.{list_all}
use Rattle.proof_terms.specs.FormValues.{implied, itself}
use Rattle.proof_terms.proofs.FormLists.{implied_last}
use Rattle.proof_terms.proofs.form_values.implied.Goals as goal

pub returns-then-last : goal.returns-then-last
returns-then-last c =
    let e = ap implied c.in-Some.ensures.cases.0 ∙ implied_last c.in-Some.before.now c.in-Some.last.now in
    c.if-last.true ∙ sym (e ∙ ap (λ b. b || not (list_all itself c.in-Some.before.now)) c.if-last.true)

pub returns-else-last : goal.returns-else-last
returns-else-last c =
    let e = ap implied c.in-Some.ensures.cases.0 ∙ implied_last c.in-Some.before.now c.in-Some.last.now in
    ap not c.all.ensures ∙ sym (e ∙ ap (λ b. b || not (list_all itself c.in-Some.before.now)) c.if-last.false)
