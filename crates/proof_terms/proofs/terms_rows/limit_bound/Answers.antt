use Rattle.std.proofs.Common.{◌≡◌, ◌∙◌, is_err, false, sym}
use Rattle.fraction128.proofs.Integers.{same_bits}
use Rattle.smt_meaning.specs.Atoms.{limit_atom}
use Rattle.smt_laws.specs.Rows.{place_form}
use Rattle.term_store.proofs.StoreLemmas.{at_ok}
use Rattle.linear_forms.specs.Table.{AreForms}
use Rattle.pair_bounds.specs.Rows.{limit_of_row}
use Rattle.proof_terms.specs.Range.{limit_stays}
use Rattle.proof_terms.proofs.TermBounds.{bound_renamed}
use Rattle.proof_terms.proofs.TermRowForms.{bound_stays}
use Rattle.proof_terms.proofs.terms_rows.limit_bound.Goals as goal
use Rattle.proof_terms.proofs.terms_rows.limit_bound.Goals.{In-Ok}

covered : (c : In-Ok) → AreForms c.args.distinct.now.store.trees c.cover.new.self
covered c =
    let fine : is_err c.cover.result ≡ false = sym c.is_err.ensures.value ∙ c.if-is_err.false in
    at_ok c.cover.result _ fine c.cover.ensures.ok

pub returns-in-Ok-clause-ok : goal.returns-in-Ok-clause-ok
returns-in-Ok-clause-ok c =
    let us = c.args.distinct.now.store.trees in
    let b = c.in-Ok.ensures.ok us (covered (goal.at.returns-in-Ok-clause-ok c).In-Ok) in
    bound_renamed c.args.distinct.now.facts.items c.deref.result.now us (limit_stays us (limit_of_row c.args.limit)) (limit_atom (place_form us) (limit_of_row c.args.limit)) c.row_bound.new.sum.items _ c.in-Ok.most _ c.deref.ensures.value
    c.rename_all.ensures (same_bits c.in-Ok.most b.bound.in_range) (bound_stays us c.args.limit c.row_bound.new.sum.items c.in-Ok.most b) b.bound
