use Rattle.std.proofs.Common.{◌≡◌, ◌∙◌, ◌+ℤ◌, ◌*ℤ◌, Bool, true, false, not, ap, ap₂}
use Rattle.fraction128.proofs.Integers.{same_bits}
use Rattle.sum_bounds.specs.Progressions.{State}
use Rattle.sum_bounds.proofs.Steps.{lacks}
use Rattle.sum_bounds.proofs.progression.Progression.lacks_zero.Goals as goal

no : (b : Bool) → not b ≡ true → b ≡ false
no true e = absurd (cc)
no false e = cc

pub returns : goal.returns
returns c = λ is.
    lacks c.args.self
    (λ m e.
    c.is_multiple.ensures (no c.is_multiple.result is) m
    (ap₂ (λ d z. d *ℤ m +ℤ z) (same_bits c.self.inside.step c.self.invariant.2 ∙ ap (λ (s : State). s.step) c.self.view_is) (same_bits c.self.inside.start c.self.invariant.3 ∙ ap (λ (s : State). s.start) c.self.view_is) ∙ e))
