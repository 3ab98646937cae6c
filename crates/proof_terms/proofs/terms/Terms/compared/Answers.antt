use Rattle.std.proofs.Common.{◌≡◌, ◌<◌, length, sym, subst, true, false, arith}
use Rattle.std.specs.Prelude.{slice_index}
use Rattle.std.proofs.lemmas.List.{get_or_read}
use Rattle.smt_meaning.specs.Stack.{signature_of}
use Rattle.proof_terms.specs.Comparing.{compared, compared_fits}
use Rattle.proof_terms.specs.Terms.{ProofTerms, IsBoundOf}
use Rattle.proof_terms.proofs.TermBounds.{compared_lifted, compared_unfit, if_ok}
use Rattle.proof_terms.proofs.terms.Terms.compared.Goals as goal

pub returns-clause-ok : goal.returns-clause-ok
returns-clause-ok c =
    let t = c.self.inside.table in
    let filed = c.self.invariant.filed in
    let count = filed.places_count in
    let left : c.args.left < length t.nodes = subst (λ (s : ProofTerms). c.args.left < length s.nodes) (sym c.self.view_is) c.requires.left in
    let right : c.args.right < length t.nodes = subst (λ (s : ProofTerms). c.args.right < length s.nodes) (sym c.self.view_is) c.requires.right in
    let first : c.index-left.result.now ≡ slice_index t.places.items c.args.left = get_or_read t.places.items c.args.left c.index-left.result.now (omega arith) c.index-left.ensures 0 in
    let second : c.index-right.result.now ≡ slice_index t.places.items c.args.right = get_or_read t.places.items c.args.right c.index-right.result.now (omega arith) c.index-right.ensures 0 in
    if_ok c.compared.result _ _ c.compared.ensures.ok (λ k r.
    subst (λ (s : ProofTerms). (compared_fits c.args.comparison s.trees c.args.left c.args.right ≡ true) × IsBoundOf (compared c.args.comparison s.trees c.args.left c.args.right) c.compared.new.sum.items k) c.self.view_is
    (compared_lifted (signature_of c.self.inside.stack.now.frames) c.self.inside.stack.now.trees t.nodes t.places.items t.distinct.store.trees t.distinct.facts.items filed c.args.left c.args.right left right c.args.comparison c.index-left.result.now c.index-right.result.now
    c.compared.new.sum.items k first second r))

pub returns-clause-range : goal.returns-clause-range
returns-clause-range c = λ e.
    (let t = c.self.inside.table in
    let filed = c.self.invariant.filed in
    let count = filed.places_count in
    let left : c.args.left < length t.nodes = subst (λ (s : ProofTerms). c.args.left < length s.nodes) (sym c.self.view_is) c.requires.left in
    let right : c.args.right < length t.nodes = subst (λ (s : ProofTerms). c.args.right < length s.nodes) (sym c.self.view_is) c.requires.right in
    let first : c.index-left.result.now ≡ slice_index t.places.items c.args.left = get_or_read t.places.items c.args.left c.index-left.result.now (omega arith) c.index-left.ensures 0 in
    let second : c.index-right.result.now ≡ slice_index t.places.items c.args.right = get_or_read t.places.items c.args.right c.index-right.result.now (omega arith) c.index-right.ensures 0 in
    subst (λ (s : ProofTerms). compared_fits c.args.comparison s.trees c.args.left c.args.right ≡ false) c.self.view_is
    (compared_unfit (signature_of c.self.inside.stack.now.frames) c.self.inside.stack.now.trees t.nodes t.places.items t.distinct.store.trees t.distinct.facts.items filed c.args.left c.args.right left right c.args.comparison c.index-left.result.now c.index-right.result.now first second
    (c.compared.ensures.range e)))
