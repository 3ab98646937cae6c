use Rattle.std.proofs.Common.{◌≡◌, ◌∙◌, is_err, false, sym}
use Rattle.fraction128.proofs.Integers.{same_bits}
use Rattle.term_store.proofs.StoreLemmas.{at_ok}
use Rattle.linear_forms.specs.Table.{AreForms}
use Rattle.proof_terms.specs.Comparing.{compared, compared_fits}
use Rattle.proof_terms.proofs.TermBounds.{bound_renamed}
use Rattle.proof_terms.proofs.terms_bounds.compared.Goals as goal
use Rattle.proof_terms.proofs.terms_bounds.compared.Goals.{In-Ok}

covered : (c : In-Ok) → AreForms c.args.distinct.now.store.trees c.cover.new.self
covered c =
    let fine : is_err c.cover.result ≡ false = sym c.is_err.ensures.value ∙ c.if-is_err.false in
    at_ok c.cover.result _ fine c.cover.ensures.ok

pub returns-in-Ok-clause-ok : goal.returns-in-Ok-clause-ok
returns-in-Ok-clause-ok c =
    let us = c.args.distinct.now.store.trees in
    let b = c.in-Ok.ensures.ok us (covered (goal.at.returns-in-Ok-clause-ok c).In-Ok) in
    bound_renamed c.args.distinct.now.facts.items c.deref.result.now us (compared_fits c.args.comparison us c.args.left c.args.right) (compared c.args.comparison us c.args.left c.args.right) c.bound.new.sum.items _ c.in-Ok.limit _
    c.deref.ensures.value c.rename_all.ensures (same_bits c.in-Ok.limit b.bound.in_range) b.fits b.bound
