use Rattle.std.proofs.Common.{◌≡◌, ◌<◌, ℕ, List, ◌∷◌, length, All, subst}
use Rattle.std.proofs.lemmas.List.Elements.{All-tail}
use Rattle.scope_stack.specs.Facts.{greatest_of}
use Rattle.scope_stack.proofs.facts.greatest.Goals as goal

pub loop-first-preserved : goal.loop-first-preserved
loop-first-preserved c =
    let levels = c.args.levels.now in
    let all = greatest_of levels c.args.places.now c.args.level in
    let first = c.in-Some.first.now in
    let tail = c.in-Some.tail.now in
    let inner : greatest_of levels (first ∷ tail) c.loop-first.most ≡ all =
    subst (λ (is : List ℕ). greatest_of levels is c.loop-first.most ≡ all) c.in-Some.ensures.cases.0 c.loop-first.invariant.0 in
    let within : All (λ p. p < length levels) (first ∷ tail) = subst (λ (is : List ℕ). All (λ p. p < length levels) is) c.in-Some.ensures.cases.0 c.loop-first.invariant.1 in
    (rw c.max-most.ensures inner, All-tail (λ p. p < length levels) first tail within)
