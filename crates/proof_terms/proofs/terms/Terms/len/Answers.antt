use Rattle.std.proofs.Common.{◌≡◌, length, subst}
use Rattle.smt_meaning.specs.Stack.{signature_of}
use Rattle.proof_terms.specs.Terms.{ProofTerms}
use Rattle.proof_terms.proofs.TermFiling.{trees_count}
use Rattle.proof_terms.proofs.terms.Terms.len.Goals as goal

pub returns-clause-trees : goal.returns-clause-trees
returns-clause-trees c =
    let t = c.self.inside.table in
    subst (λ (s : ProofTerms). length s.trees ≡ length s.nodes) c.self.view_is
    (trees_count (signature_of c.self.inside.stack.now.frames) c.self.inside.stack.now.trees t.nodes t.places.items t.distinct.store.trees t.distinct.facts.items c.self.invariant.filed)
