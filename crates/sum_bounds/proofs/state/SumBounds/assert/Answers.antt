use Rattle.std.proofs.Common.{◌≡◌, ◌∙◌, Bool, ℤ, ap, refl}
use Rattle.fraction128.proofs.Integers.{same_bits}
use Rattle.sum_bounds.specs.Bounds.{State, told_side, told_number}
use Rattle.sum_bounds.proofs.Growth.{core_kept, met_told, told_pushed}
use Rattle.sum_bounds.proofs.state.SumBounds.assert.Goals as goal

pub invariant_of-self-2 : goal.invariant_of-self-2
invariant_of-self-2 c =
    let s = c.self.inside.simplex in
    let u = c.set_bound.new.self in
    let keeps = c.set_bound.ensures.values in
    core_kept s u c.self.inside.keys c.self.inside.count c.self.inside.is_clean c.stays_clean-is_clean.result c.self.invariant keeps.count (λ i. (keeps.each i).sum)
    (λ e. met_told s.columns u.columns s.bounds u.bounds _ keeps c.in_ok-set_bound.ensures.bounds (c.self.invariant.clean (c.stays_clean-is_clean.ensures.clean e)) (c.stays_clean-is_clean.ensures.met e))

pub returns-clause-told : goal.returns-clause-told
returns-clause-told c =
    let v = c.in_ok-number_of.field-0 in
    let n : v ≡ told_number c.args.literal.positive c.args.of.turned c.args.number =
    c.in_ok-number_of.ensures.value ∙ ap (λ (k : ℤ). told_number c.is_positive-positive.result c.args.of.turned k) (same_bits c.args.number c.requires.number)
    ∙ ap (λ (p : Bool). told_number p c.args.of.turned c.args.number) c.is_positive-positive.ensures
    in
    let same = same_bits v c.in_ok-number_of.ensures.in_range in
    told_pushed _ _ _ _ c.args.literal c.args.of.variable c.args.of.turned c.args.number c.in_ok-set_bound.ensures.bounds (ap (λ (s : State). s.told) c.self.view_is) c.tag_of.ensures refl
    (c.side_of.ensures ∙ ap (λ (p : Bool). told_side p c.args.of.turned) c.is_positive-positive.ensures) (cc (n, same))
