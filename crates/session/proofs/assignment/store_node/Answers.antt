use Rattle.std.proofs.Common.{◌≡◌, ◌∙◌, ap, sym, subst, map, slice_index, All, ◌<◌, length}
use Rattle.term_store.specs.Terms.{Terms}
use Rattle.session.specs.Stored.{AreStored}
use Rattle.session.proofs.Storing.{all_within_at, one_stored}
use Rattle.session.proofs.assignment.store_node.Goals as goal

pub intern-requires : goal.intern-requires
intern-requires c =
    let is : c.deref-2.result.now ≡ map (slice_index c.args.places.now.items) c.args.node.now.arguments =
    c.deref-2.ensures.value ∙ c.in_ok-arguments.ensures 0 ∙ ap (λ xs. map (slice_index xs) c.as_slice.result.now) c.deref.ensures.value ∙ ap (map (slice_index c.args.places.now.items)) c.as_slice.ensures in
    subst (All (λ i. i < length c.args.store.now.trees)) (sym is) (all_within_at c.args.store.now.trees c.args.places.now.items c.args.node.now.arguments c.requires.within c.requires.arguments)

pub returns : goal.returns
returns c =
    let is : c.deref-2.result.now ≡ map (slice_index c.args.places.now.items) c.args.node.now.arguments =
    c.deref-2.ensures.value ∙ c.in_ok-arguments.ensures 0 ∙ ap (λ xs. map (slice_index xs) c.as_slice.result.now) c.deref.ensures.value ∙ ap (map (slice_index c.args.places.now.items)) c.as_slice.ensures in
    let ts = c.args.store.now.trees in
    let us = c.intern.new.self.trees in
    subst (AreStored _ us) (sym c.in_ok-push.ensures.items)
    (one_stored ts us c.args.places.now.items c.deref-2.result.now c.args.node.now c.in-Ok.place c.requires.within c.requires.arguments is
    (ap (λ (s : Terms). s.trees) c.in-Ok.ensures.ok) c.in-Ok.ensures.place)
