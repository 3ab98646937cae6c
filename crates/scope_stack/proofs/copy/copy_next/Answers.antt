use Rattle.std.proofs.Common.{◌≡◌, ◌∙◌, ap, subst, arith, length, ◌<◌, true, map, slice_index}
use Rattle.std.proofs.lemmas.Bool.{eqb-true}
use Rattle.std.proofs.lemmas.List.{get_or_read}
use Rattle.smt_meaning.specs.Term.{tree_at}
use Rattle.term_store.specs.Terms.{Terms, tree_with}
use Rattle.scope_stack.proofs.CopyLemmas.{copied_next}
use Rattle.scope_stack.proofs.copy.copy_next.Goals as goal

pub returns-clause-copies : goal.returns-clause-copies
returns-clause-copies c next =
    let trees = c.args.terms.now.trees in
    let members = c.args.needed.now.members.items in
    let done : c.in_ok-all.all ≡ true = c.if-not-all.false in
    let count : c.len-next.result ≡ length c.args.copies.now.trees = c.len-next.ensures.value in
    let room : c.len-next.result < length members = omega (arith, c.if-next-len.false, c.len.ensures) in
    let member : c.index.result.now ≡ slice_index members c.len-next.result = get_or_read members c.len-next.result c.index.result.now room c.index.ensures 0 in
    let at : c.index.result.now ≡ slice_index members (length c.args.copies.now.trees) = member ∙ ap (slice_index members) count in
    copied_next trees c.args.copies.now.trees c.intern.new.self.trees c.in-Ok.place c.node-node.result.head members c.node-node.result.arguments.now c.deref.result.now
    c.requires.copies
    (omega (arith, room, count))
    (subst (λ i. tree_at trees i ≡ tree_with trees c.node-node.result.head c.node-node.result.arguments.now) at c.node-node.ensures.tree)
    (ap (λ js. map (slice_index members) js) c.deref.ensures.value ∙ c.in_ok-all.ensures.listed done)
    (rw (c.deref.ensures.value, ← count) (c.in_ok-all.ensures.among done))
    (ap (λ (s : Terms). s.trees) c.in-Ok.ensures.ok)
    c.len-count.ensures.different
    c.in-Ok.ensures.place
    (eqb-true c.in-Ok.place c.len-next.result next ∙ count)
