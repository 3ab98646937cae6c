use Rattle.std.proofs.Common.{◌≡◌, ◌<◌, length, sym, subst, arith}
use Rattle.std.specs.Prelude.{slice_index}
use Rattle.std.proofs.lemmas.List.{get_or_read}
use Rattle.smt_meaning.specs.Stack.{signature_of}
use Rattle.proof_terms.specs.Terms.{ProofTerms}
use Rattle.proof_terms.specs.TermRows.{IsDivisor, DivisorLeaves}
use Rattle.proof_terms.proofs.TermBounds.{if_ok}
use Rattle.proof_terms.proofs.TermRowForms.{divisor_lifted, divisor_leaves}
use Rattle.proof_terms.proofs.terms.Terms.divisor.Goals as goal

pub returns-clause-ok : goal.returns-clause-ok
returns-clause-ok c =
    let t = c.self.inside.table in
    let filed = c.self.invariant.filed in
    let count = filed.places_count in
    let inside : c.args.divisor < length t.nodes = subst (λ (s : ProofTerms). c.args.divisor < length s.nodes) (sym c.self.view_is) c.requires.divisor in
    let at : c.index-divisor.result.now ≡ slice_index t.places.items c.args.divisor = get_or_read t.places.items c.args.divisor c.index-divisor.result.now (omega arith) c.index-divisor.ensures 0 in
    if_ok c.divisor.result _ _ c.divisor.ensures.ok (λ n d.
    subst (λ (s : ProofTerms). IsDivisor s.trees c.args.divisor n) c.self.view_is
    (divisor_lifted (signature_of c.self.inside.stack.now.frames) c.self.inside.stack.now.trees t.nodes t.places.items t.distinct.store.trees t.distinct.facts.items filed c.args.divisor c.index-divisor.result.now n inside at d))

pub returns-clause-range : goal.returns-clause-range
returns-clause-range c = λ e.
    (let t = c.self.inside.table in
    let filed = c.self.invariant.filed in
    let count = filed.places_count in
    let inside : c.args.divisor < length t.nodes = subst (λ (s : ProofTerms). c.args.divisor < length s.nodes) (sym c.self.view_is) c.requires.divisor in
    let at : c.index-divisor.result.now ≡ slice_index t.places.items c.args.divisor = get_or_read t.places.items c.args.divisor c.index-divisor.result.now (omega arith) c.index-divisor.ensures 0 in
    subst (λ (s : ProofTerms). DivisorLeaves s.trees c.args.divisor) c.self.view_is
    (divisor_leaves (signature_of c.self.inside.stack.now.frames) c.self.inside.stack.now.trees t.nodes t.places.items t.distinct.store.trees t.distinct.facts.items filed c.args.divisor c.index-divisor.result.now inside at (c.divisor.ensures.range e)))
