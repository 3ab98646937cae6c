use Rattle.std.proofs.Common.{◌∙◌, sym, ap, subst}
use Rattle.fraction128.specs.declared.Grid.{Grid}
use Rattle.fraction128.specs.Lines.{NextFails}
use Rattle.theory_combine.proofs.Past.{no_none}
use Rattle.theory_combine.proofs.held.met_by.Goals as goal

pub returns-in-Ok-clause-met : goal.returns-in-Ok-clause-met
returns-in-Ok-clause-met c = λ table knows. record {
  sound = c.in-Ok.ensures.sound table knows;
  pending = λ p e. absurd (no_none p (sym (ap (λ (g : Grid). g.pending) c.in-Ok.ensures.exact) ∙ e));
  next = subst NextFails (sym c.in-Ok.ensures.exact) (rw c.in-Range.is at c.requires);
}

pub returns-in-Fits-clause-met : goal.returns-in-Fits-clause-met
returns-in-Fits-clause-met c = λ table knows. rw c.in-Fits.is at c.requires
