use Rattle.std.proofs.Common.{◌≡◌, List, ℕ, [], ◌∷◌, ◌++◌, ap, subst, ◌∙◌}
use Rattle.smt_meaning.specs.declared.nodes.Node.{Node}
use Rattle.smt_meaning.specs.Declaration.{Declaration}
use Rattle.smt_meaning.specs.Stack.{signature_of}
use Rattle.smt_meaning.specs.Term.{Tree}
use Rattle.smt_meaning.specs.Nodes.{trees_of}
use Rattle.proof_meaning.specs.Proof.{IsTerm}
use Rattle.term_store.proofs.NodeLemmas.{trees_of-push}
use Rattle.proof_terms.specs.Terms.{ProofTerms, with_term}
use Rattle.proof_terms.proofs.terms.Terms.add.Goals as goal

abbrev terms_of : List Declaration → List Tree → List Node → ProofTerms
terms_of ds hs ns = record { declared = ds; held = hs; nodes = ns; trees = trees_of ns }

with_node : (ds : List Declaration) (hs : List Tree) (ns ms : List Node) (n : Node) → ms ≡ ns ++ n ∷ [] → terms_of ds hs ms ≡ with_term (terms_of ds hs ns) n
with_node ds hs ns ms n e =
    ap (terms_of ds hs) e
    ∙ ap (λ (ts : List Tree). let t : ProofTerms = record { declared = ds; held = hs; nodes = ns ++ n ∷ []; trees = ts } in t) (trees_of-push ns n)

pub returns-clause-term : goal.returns-clause-term
returns-clause-term c = λ e.
    (let t = c.self.inside.table in
    let ds = signature_of c.self.inside.stack.now.frames in
    let hs = c.self.inside.stack.now.trees in
    let same : (let n : Node = record { head = c.args.node.now.head; arguments = c.as_slice.result.now } in n) ≡ c.args.node.now =
    ap (λ (is : List ℕ). let n : Node = record { head = c.args.node.now.head; arguments = is } in n) c.as_slice.ensures in
    let h = c.add.ensures.term e in
    let term : IsTerm ds (trees_of t.nodes) c.args.node.now = subst (IsTerm ds (trees_of t.nodes)) same h.0 in
    let nodes : c.add.new.self.nodes ≡ t.nodes ++ c.args.node.now ∷ [] = h.1 ∙ ap (λ (n : Node). t.nodes ++ n ∷ []) same in (
      subst (λ (s : ProofTerms). IsTerm s.declared s.trees c.args.node.now) c.self.view_is term,
      with_node ds hs t.nodes c.add.new.self.nodes c.args.node.now nodes ∙ ap (λ (s : ProofTerms). with_term s c.args.node.now) c.self.view_is,
    ))
