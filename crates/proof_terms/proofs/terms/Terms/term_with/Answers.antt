use Rattle.std.proofs.Common.{◌<◌, length, List, ℕ, All, sym, subst}
use Rattle.std.specs.Prelude.{MatchOption}
use Rattle.smt_meaning.specs.Stack.{signature_of}
use Rattle.term_store.specs.Terms.{tree_with, IsPlace, IsNew}
use Rattle.proof_terms.specs.Terms.{ProofTerms}
use Rattle.proof_terms.specs.TermFacts.{places_at}
use Rattle.proof_terms.specs.TermRows.{IsFirst}
use Rattle.proof_terms.proofs.TermBounds.{if_ok}
use Rattle.proof_terms.proofs.TermRowForms.{first_lifted}
use Rattle.proof_terms.proofs.terms.Terms.term_with.Goals as goal

pub returns-clause-ok : goal.returns-clause-ok
returns-clause-ok c =
    let t = c.self.inside.table in
    let us = t.distinct.store.trees in
    let head = c.args.head in
    let is = c.args.arguments.now in
    let below : All (λ i. i < length t.nodes) is = subst (λ (s : ProofTerms). All (λ i. i < length s.nodes) is) (sym c.self.view_is) c.requires in
    if_ok c.term_with.result _ _ c.term_with.ensures.ok (λ o f.
    subst (λ (s : ProofTerms). MatchOption o (IsNew s.trees (tree_with s.trees head is)) (λ i. IsPlace s.trees i (tree_with s.trees head is))) c.self.view_is
    (first_lifted (signature_of c.self.inside.stack.now.frames) c.self.inside.stack.now.trees t.nodes t.places.items us t.distinct.facts.items c.self.invariant.filed head is o below
    (subst (λ (ps : List ℕ). IsFirst us t.distinct.facts.items (tree_with us head (places_at ps is)) o) c.deref.ensures.value f)))
