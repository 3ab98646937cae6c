use Rattle.std.proofs.Common.{◌≡◌, ◌<◌, List, true, false, length, slice_index_or, subst, sym, ◌∙◌, arith}
use Rattle.std.proofs.lemmas.List.{get_or_read}
use Rattle.smt_meaning.specs.Term.{Tree, tree_at}
use Rattle.term_store.specs.Terms.{tree_with}
use Rattle.check_atoms.proofs.Marking.{parts_marked}
use Rattle.check_atoms.proofs.parts.mark_arguments.Goals as goal

pub returns-then-index-clause-parts : goal.returns-then-index-clause-parts
returns-then-index-clause-parts c =
    let size : length c.args.marks.now.items ≡ length c.args.stack.now.trees = c.requires.parts.size in
    let within : c.args.id < length c.args.stack.now.trees = c.requires.within in
    let marked : slice_index_or c.args.marks.now.items c.args.id false ≡ true =
    sym (get_or_read c.args.marks.now.items c.args.id c.index.result.now (omega arith) c.index.ensures false) ∙ c.if-index.true in
    let tree : tree_at c.args.stack.now.trees c.args.id ≡ tree_with c.args.stack.now.trees c.node.result.head c.node.result.arguments.now =
    subst (λ (ts : List Tree). tree_at ts c.args.id ≡ tree_with ts c.node.result.head c.node.result.arguments.now) c.terms.ensures.trees c.node.ensures.tree in
    parts_marked c.args.stack.now c.args.id c.node.result.head c.node.result.arguments.now c.args.marks.now.items c.mark_all.new.marks.items c.laws.ensures.in_order within marked
    c.node.ensures.earlier tree c.requires.parts c.mark_all.ensures
