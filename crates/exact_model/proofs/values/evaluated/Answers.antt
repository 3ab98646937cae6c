use Rattle.std.proofs.Common.{◌≡◌, ◌<◌, ℕ, length, map, All, List, subst, sym, ap, ◌∙◌, arith}
use Rattle.std.specs.Prelude.{IsTrue}
use Rattle.smt_meaning.specs.Term.{tree_at, value, fits}
use Rattle.smt_meaning.specs.Interpretation.{meaning}
use Rattle.exact_model.specs.Places.{value_at, AreValues}
use Rattle.exact_model.proofs.Spreading.{marked_within, are_values, marked_fit}
use Rattle.exact_model.proofs.values.evaluated.Goals as goal

pub values-requires : goal.values-requires
values-requires c =
    let size : length c.args.marks.now ≡ length c.args.store.now.trees = c.requires in
    subst (λ (ps : List ℕ). All (λ p. p < length c.args.store.now.trees) ps) (sym (c.deref.ensures.value ∙ c.in_ok-places.ensures))
    (marked_within 0 (length c.args.store.now.trees) c.args.marks.now (omega arith))

pub by_place-requires-clause-within : goal.by_place-requires-clause-within
by_place-requires-clause-within c =
    let size : length c.args.marks.now ≡ c.len-count.result = c.requires ∙ sym c.len-count.ensures.value in
    subst (λ (ps : List ℕ). All (λ p. p < c.len-count.result) ps) (sym (c.deref-2.ensures.value ∙ c.in_ok-places.ensures))
    (marked_within 0 c.len-count.result c.args.marks.now (omega arith))

pub returns-clause-values : goal.returns-clause-values
returns-clause-values c =
    let found : c.as_slice.result.now ≡ map (λ t. value (meaning c.args.tables.now) (tree_at c.args.store.now.trees t)) c.deref-2.result.now =
    c.as_slice.ensures ∙ c.in_ok-found.ensures.values ∙ ap (map (λ t. value (meaning c.args.tables.now) (tree_at c.args.store.now.trees t))) (c.deref.ensures.value ∙ sym c.deref-2.ensures.value) in
    let size : length c.in_ok-all.all.items ≡ length c.args.store.now.trees = c.in_ok-all.ensures.size ∙ c.len-count.ensures.value in
    subst (AreValues c.args.store.now.trees c.args.marks.now (meaning c.args.tables.now)) (sym c.from_vec.ensures)
    (are_values c.args.store.now.trees c.args.marks.now (meaning c.args.tables.now) c.in_ok-all.all.items size
    (subst (λ (ps : List ℕ). All (λ p. value_at c.in_ok-all.all.items p ≡ value (meaning c.args.tables.now) (tree_at c.args.store.now.trees p)) ps) (c.deref-2.ensures.value ∙ c.in_ok-places.ensures)
    (c.in_ok-all.ensures.each (λ t. value (meaning c.args.tables.now) (tree_at c.args.store.now.trees t)) found)))

pub returns-clause-fits : goal.returns-clause-fits
returns-clause-fits c =
    marked_fit c.args.store.now.trees c.args.marks.now (meaning c.args.tables.now)
    (subst (λ (ps : List ℕ). All (λ p. IsTrue (fits (meaning c.args.tables.now) (tree_at c.args.store.now.trees p))) ps) (c.deref.ensures.value ∙ c.in_ok-places.ensures) c.in_ok-found.ensures.fits)
