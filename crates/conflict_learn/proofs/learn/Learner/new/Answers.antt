use Rattle.std.proofs.Common.{◌≡◌, List}
use Rattle.literals.specs.Signed.{Signed}
use Rattle.conflict_learn.specs.Analysing.{State}
use Rattle.conflict_learn.specs.Learning.{Lesson}
use Rattle.conflict_learn.proofs.learn.Learner.new.Goals as goal

lesson : (a b : State) (xs ys : List Signed) → a ≡ b → xs ≡ ys → ◌≡◌ {A = Lesson} (record { literals = xs; premises = a.premises }) (record { literals = ys; premises = b.premises })
lesson a b xs ys e f = cc

pub returns : goal.returns
returns c = lesson _ _ _ _ c.new.ensures c.new-4.ensures.items
