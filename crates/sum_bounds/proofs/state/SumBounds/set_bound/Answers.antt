use Rattle.std.proofs.Common.{◌∙◌, ◌++◌, ◌∷◌, [], map, ap}
use Rattle.std.proofs.lemmas.List.{map-append}
use Rattle.sum_bounds.specs.Bounds.{State, told_of}
use Rattle.sum_bounds.proofs.Growth.{core_kept, met_told}
use Rattle.sum_bounds.proofs.state.SumBounds.set_bound.Goals as goal

pub invariant_of-self-2 : goal.invariant_of-self-2
invariant_of-self-2 c =
    let s = c.self.inside.simplex in
    let u = c.set_bound.new.self in
    let keeps = c.set_bound.ensures.values in
    core_kept s u c.self.inside.keys c.self.inside.count c.self.inside.is_clean c.stays_clean-is_clean.result c.self.invariant keeps.count (λ i. (keeps.each i).sum)
    (λ e. met_told s.columns u.columns s.bounds u.bounds _ keeps c.in_ok-set_bound.ensures.bounds (c.self.invariant.clean (c.stays_clean-is_clean.ensures.clean e)) (c.stays_clean-is_clean.ensures.met e))

pub returns-clause-told : goal.returns-clause-told
returns-clause-told c =
    let s = c.self.inside.simplex in
    ap (map told_of) c.in_ok-set_bound.ensures.bounds ∙ map-append told_of s.bounds (c.args.set ∷ []) ∙ ap (λ ts. ts ++ told_of c.args.set ∷ []) (ap (λ (x : State). x.told) c.self.view_is)
