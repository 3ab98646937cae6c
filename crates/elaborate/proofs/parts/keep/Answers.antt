use Rattle.std.proofs.Common.{◌≡◌, ◌∙◌, ap, map, Some}
use Rattle.std.specs.Prelude.{nat_eq}
use Rattle.std.specs.HashMap.{get}
use Rattle.smt_meaning.specs.Term.{tree_at}
use Rattle.smt_meaning.specs.TreeShape.{with_tree}
use Rattle.term_store.specs.Terms.{Terms, tree_with}
use Rattle.elaborate.proofs.PartCopies.{copies_within, kept, node_arguments_have, on_ok, one_copied, one_has_more}
use Rattle.elaborate.proofs.parts.keep.Goals as goal

pub intern-requires : goal.intern-requires
intern-requires c =
    let places : map Some c.deref.result.now ≡ map (get nat_eq c.args.copies.now) c.node-node.result.arguments.now = ap (map Some) c.deref.ensures.value ∙ c.in_ok-arguments.ensures in
    copies_within c.args.store.now.trees c.args.parts.now.trees (get nat_eq c.args.copies.now) c.node-node.result.arguments.now c.deref.result.now c.requires.copies places

pub returns-clause-trees : goal.returns-clause-trees
returns-clause-trees c =
    let places : map Some c.deref.result.now ≡ map (get nat_eq c.args.copies.now) c.node-node.result.arguments.now = ap (map Some) c.deref.ensures.value ∙ c.in_ok-arguments.ensures in
    on_ok c.note.result c.note.ensures
    (λ noted. ap (λ (s : Terms). s.trees) c.in-Ok.ensures.ok
    ∙ ap (with_tree c.args.parts.now.trees) (kept c.args.store.now.trees c.args.parts.now.trees (get nat_eq c.args.copies.now) c.args.id c.node-node.result.head c.node-node.result.arguments.now c.deref.result.now c.requires.copies places c.node-node.ensures.tree))

pub returns-clause-copies : goal.returns-clause-copies
returns-clause-copies c =
    let places : map Some c.deref.result.now ≡ map (get nat_eq c.args.copies.now) c.node-node.result.arguments.now = ap (map Some) c.deref.ensures.value ∙ c.in_ok-arguments.ensures in
    let same : tree_with c.args.parts.now.trees c.node-node.result.head c.deref.result.now ≡ tree_at c.args.store.now.trees c.args.id =
    kept c.args.store.now.trees c.args.parts.now.trees (get nat_eq c.args.copies.now) c.args.id c.node-node.result.head c.node-node.result.arguments.now c.deref.result.now c.requires.copies places c.node-node.ensures.tree in
    on_ok c.note.result c.note.ensures
    (λ noted. one_copied c.args.store.now.trees c.args.parts.now.trees c.intern.new.self.trees (get nat_eq c.args.copies.now) (get nat_eq c.note.new.copies) (tree_with c.args.parts.now.trees c.node-node.result.head c.deref.result.now) c.args.id c.in-Ok.place
    c.requires.copies noted (ap (λ (s : Terms). s.trees) c.in-Ok.ensures.ok) (c.in-Ok.ensures.place.0, c.in-Ok.ensures.place.1 ∙ same))

pub copied-requires : goal.copied-requires
copied-requires c =
    node_arguments_have c.args.store.now.trees c.args.parts.now.trees (get nat_eq c.args.copies.now) c.args.id c.node-node.result.head c.node-node.result.arguments.now c.requires.within c.requires.all c.node-node.ensures.earlier c.node-node.ensures.tree c.requires.arguments

pub returns-clause-all : goal.returns-clause-all
returns-clause-all c =
    let places : map Some c.deref.result.now ≡ map (get nat_eq c.args.copies.now) c.node-node.result.arguments.now = ap (map Some) c.deref.ensures.value ∙ c.in_ok-arguments.ensures in
    let same : tree_with c.args.parts.now.trees c.node-node.result.head c.deref.result.now ≡ tree_at c.args.store.now.trees c.args.id =
    kept c.args.store.now.trees c.args.parts.now.trees (get nat_eq c.args.copies.now) c.args.id c.node-node.result.head c.node-node.result.arguments.now c.deref.result.now c.requires.copies places c.node-node.ensures.tree in
    on_ok c.note.result c.note.ensures
    (λ noted. one_has_more c.args.store.now.trees c.args.parts.now.trees c.intern.new.self.trees (get nat_eq c.args.copies.now) (get nat_eq c.note.new.copies) c.args.id c.in-Ok.place
    c.len.ensures.different c.requires.within c.requires.all noted (ap (λ (s : Terms). s.trees) c.in-Ok.ensures.ok ∙ ap (with_tree c.args.parts.now.trees) same))
