use Rattle.std.proofs.Common.{◌≡◌, map, List, subst, sym, ap, ◌∙◌, ℕ}
use Rattle.std.specs.Prelude.{IfOk}
use Rattle.smt_meaning.specs.declared.values.Sort.TheVariants as Sort
use Rattle.elaborate.specs.declared.value.Value.{Value}
use Rattle.elaborate.specs.Values.{AreValues, IsNode}
use Rattle.elaborate.specs.Putting.{some_value, value_at}
use Rattle.elaborate.proofs.Puts.{chosen_values}
use Rattle.elaborate.proofs.definitions.put_other.Goals as goal

pub stored-requires : goal.stored-requires
stored-requires c =
    let parts : c.deref.result.now ≡ map (value_at c.args.values.now) c.args.node.now.arguments =
    c.deref.ensures.value ∙ c.in_ok-parts.ensures some_value ∙ ap (λ (is : List ℕ). map (value_at c.args.values.now) is) c.as_slice.ensures in
    subst (AreValues c.args.store.now.trees) (sym parts) (chosen_values c.args.store.now.trees c.args.values.now c.args.node.now.arguments c.requires.values c.requires.places)

pub returns-clause-ok : goal.returns-clause-ok
returns-clause-ok c =
    let parts : c.deref.result.now ≡ map (value_at c.args.values.now) c.args.node.now.arguments =
    c.deref.ensures.value ∙ c.in_ok-parts.ensures some_value ∙ ap (λ (is : List ℕ). map (value_at c.args.values.now) is) c.as_slice.ensures in
    subst (λ (vs : List Value). IfOk c.stored.result (λ v. IsNode c.args.node.now.head Sort.Bool vs c.args.store.now.trees c.stored.new.store.trees v)) parts c.stored.ensures.ok
