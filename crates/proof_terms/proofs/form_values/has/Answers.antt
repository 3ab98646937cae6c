use Rattle.std.proofs.Common.{◌≡◌, ◌∙◌, is_ok}
use Rattle.proof_terms.specs.FormValues.{is_in}
use Rattle.proof_terms.proofs.FormLists.{found}
use Rattle.proof_terms.proofs.form_values.has.Goals as goal

pub returns : goal.returns
returns c =
    let f : is_ok c.binary_search.result ≡ is_in c.args.numbers.now c.args.number =
    found c.args.numbers.now c.args.number c.binary_search.result c.binary_search.ensures.position c.requires in
    c.is_ok.ensures.value ∙ f
