use Rattle.std.proofs.Common.{ℕ, Bool, false, List, take, get_or, sym, ap, ◌∙◌}
use Rattle.std.proofs.lemmas.List.{take_more}
use Rattle.smt_meaning.specs.Term.{xor}
use Rattle.proof_terms.specs.FormValues.{is_odd}
use Rattle.proof_terms.proofs.FormLists.{odd_more, as_xor}
use Rattle.proof_terms.proofs.form_values.odd.Goals as goal

pub loop-value-preserved : goal.loop-value-preserved
loop-value-preserved c =
    let i : ℕ = c.loop-value.value-index in
    let xs : List Bool = c.args.values.now in
    as_xor c.loop-value.odd (get_or xs i false) ∙ ap (λ b. xor b (get_or xs i false)) c.loop-value.invariant
    ∙ sym (ap is_odd (take_more xs i false c.loop-value-test.true) ∙ odd_more (take i xs) (get_or xs i false))
