use Rattle.std.proofs.Common.{◌≡◌, [], All, Some, None, subst, ap, ◌∙◌, refl}
use Rattle.std.specs.Prelude.{pos}
use Rattle.linear_forms.specs.Folding.{form_of}
use Rattle.linear_forms.specs.Table.{Known, known_at}
use Rattle.linear_forms.specs.Entries.{knowns, HasOutside}
use Rattle.linear_forms.proofs.TableLemmas.{on_ok, argument_sums, outside_next, folded_next}
use Rattle.linear_forms.proofs.table.add_place.Goals as goal
use Rattle.linear_forms.proofs.table.add_place.Goals.{In-None}

seen_none : (c : In-None) → knowns c.deref-2.result.now c.deref.result.now ≡ knowns c.args.all.now.items c.args.entries.now.items
seen_none c = ap (λ x. knowns x c.deref.result.now) c.deref-2.ensures.value ∙ ap (knowns c.args.all.now.items) c.deref.ensures.value

inner : (c : In-None) → All (λ i. (known_at (knowns c.args.all.now.items c.args.entries.now.items) i).outside ≡ None) c.node-node.result.arguments.now
inner c = subst (λ ks. All (λ i. (known_at ks i).outside ≡ None) c.node-node.result.arguments.now) (seen_none c) c.in-None.ensures.none

pub add_folded-requires-clause-sums : goal.add_folded-requires-clause-sums
add_folded-requires-clause-sums c =
    argument_sums c.args.store.now.trees c.args.place (knowns c.args.all.now.items c.args.entries.now.items) c.requires.forms c.node-node.result.arguments.now c.node-node.ensures.earlier
    (inner (goal.at.add_folded-requires-clause-sums c).In-None)

pub returns-in-Some-clause-ok : goal.returns-in-Some-clause-ok
returns-in-Some-clause-ok c =
    let known = knowns c.args.all.now.items c.args.entries.now.items in
    let seen : knowns c.deref-2.result.now c.deref.result.now ≡ known = ap (λ x. knowns x c.deref.result.now) c.deref-2.ensures.value ∙ ap (knowns c.args.all.now.items) c.deref.ensures.value in
    let some : HasOutside known c.node-node.result.arguments.now c.in-Some.part = subst (λ ks. HasOutside ks c.node-node.result.arguments.now c.in-Some.part) seen c.in-Some.ensures.some in
    let k : Known = record { form = form_of [] (pos 0); outside = Some c.in-Some.part } in
    on_ok c.append.result _ _ c.append.ensures.ok (λ e.
    outside_next c.args.store.now.trees c.args.place known c.requires.forms c.requires.different c.requires.place c.node-node.result.head c.node-node.result.arguments.now c.node-node.ensures.tree c.node-node.ensures.earlier
    c.in-Some.part k (knowns c.append.new.all.items c.append.new.entries.items) some refl e)

pub returns-in-None-clause-ok : goal.returns-in-None-clause-ok
returns-in-None-clause-ok c =
    on_ok c.add_folded.result _ _ c.add_folded.ensures.ok (λ n.
    folded_next c.args.store.now.trees c.args.place (knowns c.args.all.now.items c.args.entries.now.items) c.requires.forms c.requires.different c.requires.place c.node-node.result.head c.node-node.result.arguments.now
    c.node-node.ensures.tree c.node-node.ensures.earlier (inner (goal.at.returns-in-None-clause-ok c).In-None) (knowns c.add_folded.new.all.items c.add_folded.new.entries.items) n)
