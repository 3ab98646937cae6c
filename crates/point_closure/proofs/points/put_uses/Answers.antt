use Rattle.std.proofs.Common.{◌≡◌, ◌+◌, ◌++◌, ◌∷◌, [], All, refl, sym, ap, ◌∙◌, subst}
use Rattle.std.proofs.lemmas.List.Elements.{All-push}
use Rattle.point_closure.specs.declared.lists.Change.TheVariants.{Put}
use Rattle.point_closure.specs.Lists.{Listed}
use Rattle.point_closure.specs.Rest.{Begins, Puts, PutsBelow}
use Rattle.point_closure.proofs.RestLemmas.{begins_itself, begins_append, begins_on}
use Rattle.point_closure.proofs.GoingLemmas.{puts_start, puts_step}
use Rattle.point_closure.proofs.points.put_uses.Goals as goal

pub loop-argument-init : goal.loop-argument-init
loop-argument-init c = record {
  count = refl;
  begins = begins_itself c.args.uses.now.changes;
  below = λ n less all. all;
  puts = puts_start c.args.classes.now.unions c.args.arguments.now c.args.point c.args.uses.now.changes;
}

pub loop-argument-preserved : goal.loop-argument-preserved
loop-argument-preserved c =
    let now = c.in_ok-change.ensures.ok in
    let changes : c.change.new.self.changes ≡ c.loop-argument.uses.changes ++ Put c.class_of.result c.args.point ∷ [] = ap (λ (l : Listed). l.changes) now in
    record {
      count = ap (λ (l : Listed). l.count) now ∙ c.loop-argument.invariant.count;
      begins = subst (λ cs. Begins c.args.uses.now.changes cs) (sym changes)
          (begins_on c.args.uses.now.changes c.loop-argument.uses.changes (c.loop-argument.uses.changes ++ Put c.class_of.result c.args.point ∷ []) c.loop-argument.invariant.begins (begins_append c.loop-argument.uses.changes (Put c.class_of.result c.args.point ∷ [])));
      below = λ n less all. subst (λ cs. All (PutsBelow n) cs) (sym changes) (All-push (PutsBelow n) c.loop-argument.uses.changes (Put c.class_of.result c.args.point) (c.loop-argument.invariant.below n less all) less);
      puts = subst (λ cs. Puts c.args.classes.now.unions c.args.arguments.now c.args.point (c.loop-argument.argument-index + 1) c.args.uses.now.changes cs) (sym changes)
          (puts_step c.args.classes.now.unions c.args.arguments.now c.args.point c.loop-argument.argument-index c.class_of.result c.args.uses.now.changes c.loop-argument.uses.changes c.class_of.ensures.value c.loop-argument.invariant.puts);
    }
