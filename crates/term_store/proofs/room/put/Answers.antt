use Rattle.std.proofs.Common.{◌≡◌, ◌∙◌, ◌<◌, ℕ, List, [], ◌∷◌, ◌++◌, sym, ap, subst, length, map, slice_index, All}
use Rattle.std.specs.Prelude.{Result, Err}
use Rattle.smt_meaning.specs.declared.terms.Head.{Head}
use Rattle.smt_meaning.specs.Term.{Tree, tree_at}
use Rattle.smt_meaning.specs.TreeShape.{with_parts}
use Rattle.term_store.specs.Terms.{tree_with, IsPlace}
use Rattle.term_store.specs.declared.store.InternError.{InternError}
use Rattle.term_store.specs.declared.store.InternError.TheVariants.{Full}
use Rattle.term_store.specs.Room.{ArePlaces}
use Rattle.term_store.proofs.RoomLemmas.{all_placed, same_tree, places_more, one_too_many}
use Rattle.smt_laws.proofs.GrownTrees.{Grown, parts_grown}
use Rattle.term_store.proofs.room.put.Goals as goal

chosen_are : (places deref chosen is got : List ℕ) → deref ≡ places → got ≡ chosen → chosen ≡ map (slice_index deref) is → got ≡ map (slice_index places) is
chosen_are places deref chosen is got d e f = e ∙ f ∙ ap (λ ps. map (slice_index ps) is) d

below : (others : List Tree) (places : List ℕ) (ts : List Tree) (is got : List ℕ) (id : ℕ) → ArePlaces others places ts → length places ≡ id → All (λ i. i < id) is → got ≡ map (slice_index places) is → All (λ i. i < length ts) got
below others places ts is got id a n w g = subst (All (λ i. i < length ts)) (sym g) (all_placed places others ts is a (subst (λ m. All (λ i. i < m) is) (sym n) w))

same : (others : List Tree) (places : List ℕ) (ts : List Tree) (h : Head) (is got : List ℕ) (id : ℕ) → ArePlaces others places ts → length places ≡ id → All (λ i. i < id) is → tree_at others id ≡ tree_with others h is
    → got ≡ map (slice_index places) is → tree_with ts h got ≡ tree_at others id
same others places ts h is got id a n w e g = ap (tree_with ts h) g ∙ same_tree others places ts h is id a (subst (λ m. All (λ i. i < m) is) (sym n) w) e

full_error : (x : InternError) → (let p : Result (Unit {0}) InternError = Err x in p ≡ Err Full) → (let q : Result ℕ InternError = Err x in q ≡ Err Full)
full_error x e = let s : x ≡ Full = cc in ap (λ z. Err z) s

pub intern-requires : goal.intern-requires
intern-requires c =
    let got : c.deref-2.result.now ≡ map (slice_index c.args.places.now.items) c.node-node.result.arguments.now =
    chosen_are c.args.places.now.items c.deref.result.now c.in_ok-arguments.arguments.items c.node-node.result.arguments.now c.deref-2.result.now c.deref.ensures.value c.deref-2.ensures.value (c.in_ok-arguments.ensures 0) in
    below c.args.others.now.trees c.args.places.now.items c.args.store.now.trees c.node-node.result.arguments.now c.deref-2.result.now c.args.id c.requires.places c.requires.size c.node-node.ensures.earlier got

pub returns-clause-full : goal.returns-clause-full
returns-clause-full c e =
    let got : c.deref-2.result.now ≡ map (slice_index c.args.places.now.items) c.node-node.result.arguments.now =
    chosen_are c.args.places.now.items c.deref.result.now c.in_ok-arguments.arguments.items c.node-node.result.arguments.now c.deref-2.result.now c.deref.ensures.value c.deref-2.ensures.value (c.in_ok-arguments.ensures 0) in
    subst (λ t. c.args.store.now.limit < length (with_parts c.args.store.now.trees t))
    (same c.args.others.now.trees c.args.places.now.items c.args.store.now.trees c.node-node.result.head c.node-node.result.arguments.now c.deref-2.result.now c.args.id c.requires.places c.requires.size c.node-node.ensures.earlier c.node-node.ensures.tree got)
    (one_too_many c.args.store.now c.node-node.result.head c.deref-2.result.now c.len-complete.ensures.parts
    (below c.args.others.now.trees c.args.places.now.items c.args.store.now.trees c.node-node.result.arguments.now c.deref-2.result.now c.args.id c.requires.places c.requires.size c.node-node.ensures.earlier got)
    (c.in-Err.ensures.full.0 (full_error c.in-Err.error e)))

pub returns-in-Ok-clause-trees : goal.returns-in-Ok-clause-trees
returns-in-Ok-clause-trees c =
    let got : c.deref-2.result.now ≡ map (slice_index c.args.places.now.items) c.node-node.result.arguments.now =
    chosen_are c.args.places.now.items c.deref.result.now c.in_ok-arguments.arguments.items c.node-node.result.arguments.now c.deref-2.result.now c.deref.ensures.value c.deref-2.ensures.value (c.in_ok-arguments.ensures 0) in
    c.in-Ok.ensures.parts
    ∙ ap (with_parts c.args.store.now.trees)
    (same c.args.others.now.trees c.args.places.now.items c.args.store.now.trees c.node-node.result.head c.node-node.result.arguments.now c.deref-2.result.now c.args.id c.requires.places c.requires.size c.node-node.ensures.earlier c.node-node.ensures.tree got)

pub returns-in-Ok-clause-places : goal.returns-in-Ok-clause-places
returns-in-Ok-clause-places c =
    let got : c.deref-2.result.now ≡ map (slice_index c.args.places.now.items) c.node-node.result.arguments.now =
    chosen_are c.args.places.now.items c.deref.result.now c.in_ok-arguments.arguments.items c.node-node.result.arguments.now c.deref-2.result.now c.deref.ensures.value c.deref-2.ensures.value (c.in_ok-arguments.ensures 0) in
    let tree : tree_with c.args.store.now.trees c.node-node.result.head c.deref-2.result.now ≡ tree_at c.args.others.now.trees c.args.id =
    same c.args.others.now.trees c.args.places.now.items c.args.store.now.trees c.node-node.result.head c.node-node.result.arguments.now c.deref-2.result.now c.args.id c.requires.places c.requires.size c.node-node.ensures.earlier c.node-node.ensures.tree got in
    places_more c.args.others.now.trees c.args.places.now.items c.push_reserved.new.self.items c.args.store.now.trees c.intern.new.self.trees c.args.id c.in-Ok.place c.requires.size
    (c.push_reserved.ensures.items ∙ ap (λ ps. ps ++ c.in-Ok.place ∷ []) c.reserve.ensures.items) c.requires.places
    (subst (Grown c.args.store.now.trees) (sym c.in-Ok.ensures.parts) (parts_grown c.args.store.now.trees (tree_with c.args.store.now.trees c.node-node.result.head c.deref-2.result.now)))
    (subst (IsPlace c.intern.new.self.trees c.in-Ok.place) tree c.in-Ok.ensures.place)
