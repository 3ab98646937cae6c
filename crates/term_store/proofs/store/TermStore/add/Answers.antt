use Rattle.std.proofs.Common.{◌≡◌, ◌<◌, ◌∷◌, [], ◌++◌, length, false, is_err, All, arith, sym, ap, ◌∙◌, subst}
use Rattle.std.proofs.lemmas.List.{length-map}
use Rattle.term_store.specs.Terms.{Terms, tree_with, IsNew}
use Rattle.term_store.specs.Nodes.{nodes_of, plain_hash}
use Rattle.term_store.proofs.NodeLemmas.{length-trees_of}
use Rattle.term_store.proofs.StoreLemmas.{length-nodes, IsStore-push, at_ok, on_ok}
use Rattle.term_store.proofs.store.TermStore.add.Goals as goal

pub push-requires : goal.push-requires
push-requires c =
    let room = subst (λ (s : Terms). length s.trees < s.limit) (sym c.self.view_is) c.requires.room in
    let bounded = c.self.invariant.bounded in
    let ns = nodes_of c.self.inside.rows in
    omega (arith, length-trees_of ns, ap length c.self.invariant.hashed, length-map ns plain_hash)

pub invariant_of-self-else-is_err : goal.invariant_of-self-else-is_err
invariant_of-self-else-is_err c =
    let rows = c.self.inside.rows in
    let ok' : is_err c.push-added.result ≡ false = sym c.is_err.ensures.value ∙ c.if-is_err.false in
    let added : c.push-added.new.self ≡ rows ++ (c.args.head, c.args.arguments.now) ∷ [] = at_ok c.push-added.result _ ok' c.push-added.ensures.ok in
    let room = subst (λ (s : Terms). length s.trees < s.limit) (sym c.self.view_is) c.requires.room in
    let below = subst (λ (s : Terms). All (λ i. i < length s.trees) c.args.arguments.now) (sym c.self.view_is) c.requires.below in
    let new = subst (λ (s : Terms). IsNew s.trees (tree_with s.trees c.args.head c.args.arguments.now)) (sym c.self.view_is) c.requires.new in
    let few : length rows < c.self.inside.limit = omega (arith, length-trees_of (nodes_of rows), length-nodes rows) in
    rw (added, c.in_ok-push.ensures.ok)
    (IsStore-push c.self.inside.limit rows c.self.inside.index c.args.head c.args.arguments.now c.args.hash c.self.invariant few below new c.requires.hash).store

pub returns-else-is_err-clause-ok : goal.returns-else-is_err-clause-ok
returns-else-is_err-clause-ok c =
    let rows = c.self.inside.rows in
    let ok' : is_err c.push-added.result ≡ false = sym c.is_err.ensures.value ∙ c.if-is_err.false in
    let added : c.push-added.new.self ≡ rows ++ (c.args.head, c.args.arguments.now) ∷ [] = at_ok c.push-added.result _ ok' c.push-added.ensures.ok in
    let room = subst (λ (s : Terms). length s.trees < s.limit) (sym c.self.view_is) c.requires.room in
    let below = subst (λ (s : Terms). All (λ i. i < length s.trees) c.args.arguments.now) (sym c.self.view_is) c.requires.below in
    let new = subst (λ (s : Terms). IsNew s.trees (tree_with s.trees c.args.head c.args.arguments.now)) (sym c.self.view_is) c.requires.new in
    let few : length rows < c.self.inside.limit = omega (arith, length-trees_of (nodes_of rows), length-nodes rows) in
    let view = (IsStore-push c.self.inside.limit rows c.self.inside.index c.args.head c.args.arguments.now c.args.hash c.self.invariant few below new c.requires.hash).view in
    on_ok c.push-added.result _
    (rw (added, ← c.self.view_is) (ap (λ ts. record { limit = c.self.inside.limit; trees = ts }) view))
