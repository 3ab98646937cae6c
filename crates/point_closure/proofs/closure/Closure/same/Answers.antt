use Rattle.std.proofs.Common.{◌∙◌, sym}
use Rattle.std.proofs.lemmas.Bool.{eqb-true, eq-eqb}
use Rattle.point_closure.proofs.LawLemmas.{root_then_equal, equal_then_root}
use Rattle.point_closure.proofs.closure.Closure.same.Goals as goal

pub returns : goal.returns
returns c = (
  λ is. root_then_equal c.args.self.now c.classes_are_the_closure.ensures c.requires.whole c.unions-each.ensures.each c.args.left c.args.right
      (sym c.class_of.ensures.value ∙ eqb-true c.class_of.result c.class_of-2.result is ∙ c.class_of-2.ensures.value),
  λ e. eq-eqb c.class_of.result c.class_of-2.result
      (c.class_of.ensures.value ∙ equal_then_root c.args.self.now c.classes_are_the_closure.ensures c.requires.whole c.unions-each.ensures.each c.args.left c.args.right e ∙ sym c.class_of-2.ensures.value),
)
