use Rattle.std.proofs.Common.{false, refl, sym, ◌∙◌, arith}
use Rattle.std.specs.Prelude.{IsTrue}
use Rattle.point_closure.specs.Unions.{root_of}
use Rattle.point_closure.proofs.SignatureLemmas.{map_at, map_from}
use Rattle.point_closure.proofs.file.in_same_classes.Goals as goal

false_true : IsTrue false → ⊥
false_true e = cc

pub returns-then-class_of : goal.returns-then-class_of
returns-then-class_of c = (
  λ h. absurd (false_true h),
  λ e. absurd (c.if-class_of.true (c.class_of.ensures.value ∙ map_at (root_of c.args.classes.now.unions) c.args.left.now c.args.right.now c.loop-i.i e (omega arith) (omega arith) ∙ sym c.class_of-in-loop-i.ensures.value)),
)

pub returns : goal.returns
returns c = (λ h. map_from (root_of c.args.classes.now.unions) c.args.left.now c.args.right.now (omega arith) (λ k less. c.loop-i.invariant k (omega arith)), λ e. refl)
