use Rattle.std.proofs.Common.{◌<◌, ◌∙◌, length, All, sym, subst}
use Rattle.proof_terms.proofs.TermRowForms.{places_within}
use Rattle.proof_terms.proofs.terms_rows.term_with.Goals as goal

pub first_with-requires-clause-places : goal.first_with-requires-clause-places
first_with-requires-clause-places c =
    let n = length c.args.distinct.now.store.trees in
    subst (All (λ p. p < n)) (sym (c.deref-2.ensures.value ∙ c.in_ok-gather.ensures.places))
    (places_within n c.args.places.now c.args.terms.now (subst (λ m. All (λ p. p < m) c.args.places.now) c.requires.count c.requires.placed) c.requires.inside)
