use Rattle.std.proofs.Common.{◌≡◌, ◌<◌, ◌++◌, [], ◌∷◌, ℕ, ◌+◌, List, length, get_or, map, take, ap, sym, ◌∙◌, add-one, arith}
use Rattle.std.proofs.lemmas.List.{get_or_default, map-append, take_all}
use Rattle.std.proofs.Math.Seq.{take-suc}
use Rattle.term_store.proofs.places.chosen.Goals as goal

one_more : {A : Type 0} (xs : List A) (is : List ℕ) (k : ℕ) (r d : A) (old new : List A) → old ≡ map (λ i. get_or xs i d) (take k is) → k < length is → get_or is k 0 < length xs → r ≡ get_or xs (get_or is k 0) r → new ≡ old ++ r ∷ []
    → new ≡ map (λ i. get_or xs i d) (take (k + 1) is)
one_more xs is k r d old new e h lt at n =
    n ∙ ap (λ ys. ys ++ r ∷ []) e
    ∙ ap (λ y. map (λ i. get_or xs i d) (take k is) ++ y ∷ []) (at ∙ get_or_default xs (get_or is k 0) r d lt)
    ∙ sym (map-append (λ i. get_or xs i d) (take k is) (get_or is k 0 ∷ []))
    ∙ ap (map (λ i. get_or xs i d)) (sym (ap (λ j. take j is) (add-one k) ∙ take-suc is k 0 h))

pub loop-place-preserved : goal.loop-place-preserved
loop-place-preserved g c = λ d.
    one_more c.args.items.now c.args.places.now c.loop-place.place-index c.index-items-place.result d c.loop-place.found.items c.push.new.self.items (c.loop-place.invariant d) c.loop-place-test.true
    (c.requires c.loop-place.place-index 0 c.loop-place-test.true) c.index-items-place.is c.in_ok-push.ensures.items

pub returns : goal.returns
returns g c = λ d. c.loop-place.invariant d ∙ ap (map (λ i. get_or c.args.items.now i d)) (take_all c.loop-place.place-index c.args.places.now (omega (arith, c.loop-place-test.false)))
