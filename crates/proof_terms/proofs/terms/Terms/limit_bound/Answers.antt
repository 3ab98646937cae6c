use Rattle.std.proofs.Common.{◌≡◌, ◌∙◌, length, List, ℕ, sym, subst, ap, true, false}
use Rattle.smt_meaning.specs.Stack.{signature_of}
use Rattle.smt_meaning.specs.Atoms.{limit_atom}
use Rattle.smt_laws.specs.Rows.{place_form}
use Rattle.pair_bounds.specs.declared.rows.RowLimit.{RowLimit}
use Rattle.pair_bounds.specs.Rows.{limit_of_row, IsRowLimit}
use Rattle.proof_terms.specs.Range.{limit_stays}
use Rattle.proof_terms.specs.Terms.{ProofTerms, IsBoundOf}
use Rattle.proof_terms.specs.TermTable.{IsRenamedBound}
use Rattle.proof_terms.specs.TermRows.{limit_at}
use Rattle.proof_terms.proofs.TermBounds.{if_ok}
use Rattle.proof_terms.proofs.TermRowForms.{at_places, stays_same, limit_lifted}
use Rattle.proof_terms.proofs.terms.Terms.limit_bound.Goals as goal

pub limit_bound-requires-clause-limit : goal.limit_bound-requires-clause-limit
limit_bound-requires-clause-limit c =
    let t = c.self.inside.table in
    let us = t.distinct.store.trees in
    let inside : IsRowLimit (length t.nodes) c.args.limit = subst (λ (s : ProofTerms). IsRowLimit (length s.nodes) c.args.limit) (sym c.self.view_is) c.requires in
    let same = c.limit_at-limit.ensures ∙ ap (λ (ps : List ℕ). limit_at ps c.args.limit) c.deref.ensures.value in
    subst (IsRowLimit (length us)) (sym same)
    (at_places (signature_of c.self.inside.stack.now.frames) c.self.inside.stack.now.trees t.nodes t.places.items us t.distinct.facts.items c.self.invariant.filed c.args.limit inside)

pub returns-clause-ok : goal.returns-clause-ok
returns-clause-ok c =
    let t = c.self.inside.table in
    let us = t.distinct.store.trees in
    let inside : IsRowLimit (length t.nodes) c.args.limit = subst (λ (s : ProofTerms). IsRowLimit (length s.nodes) c.args.limit) (sym c.self.view_is) c.requires in
    let same = c.limit_at-limit.ensures ∙ ap (λ (ps : List ℕ). limit_at ps c.args.limit) c.deref.ensures.value in
    if_ok c.limit_bound.result _ _ c.limit_bound.ensures.ok (λ k r.
    subst (λ (s : ProofTerms). (limit_stays s.trees (limit_of_row c.args.limit) ≡ true) × IsBoundOf (limit_atom (place_form s.trees) (limit_of_row c.args.limit)) c.limit_bound.new.sum.items k) c.self.view_is
    (limit_lifted (signature_of c.self.inside.stack.now.frames) c.self.inside.stack.now.trees t.nodes t.places.items us t.distinct.facts.items c.self.invariant.filed c.args.limit inside c.limit_bound.new.sum.items k
    (subst (λ (l : RowLimit). IsRenamedBound t.distinct.facts.items (limit_stays us (limit_of_row l)) (limit_atom (place_form us) (limit_of_row l)) c.limit_bound.new.sum.items k) same r)))

pub returns-clause-range : goal.returns-clause-range
returns-clause-range c = λ e.
    (let t = c.self.inside.table in
    let us = t.distinct.store.trees in
    let inside : IsRowLimit (length t.nodes) c.args.limit = subst (λ (s : ProofTerms). IsRowLimit (length s.nodes) c.args.limit) (sym c.self.view_is) c.requires in
    let same = c.limit_at-limit.ensures ∙ ap (λ (ps : List ℕ). limit_at ps c.args.limit) c.deref.ensures.value in
    subst (λ (s : ProofTerms). limit_stays s.trees (limit_of_row c.args.limit) ≡ false) c.self.view_is
    (stays_same (signature_of c.self.inside.stack.now.frames) c.self.inside.stack.now.trees t.nodes t.places.items us t.distinct.facts.items c.self.invariant.filed c.args.limit inside
    ∙ ap (λ (l : RowLimit). limit_stays us (limit_of_row l)) (sym same) ∙ c.limit_bound.ensures.range e))
