use Rattle.std.proofs.Common.{◌≡◌, ◌<◌, ◌||◌, not, map, true, false, List, subst, sym, ap, ◌∙◌}
use Rattle.smt_meaning.specs.Term.{Tree}
use Rattle.smt_meaning.specs.Sorts.{trees_of}
use Rattle.smt_meaning.specs.declared.declarations.Rank.{Rank}
use Rattle.elaborate.specs.declared.value.Value.{Value}
use Rattle.elaborate.specs.Judged.{scope_of, rules_of}
use Rattle.elaborate.specs.Values.{typed, all_linear}
use Rattle.elaborate.specs.Putting.{some_value, value_at, ArePut}
use Rattle.elaborate.proofs.Puts.{not_linear, definition_applied, any_default, count_put}
use Rattle.elaborate.proofs.definitions.apply_definition.Goals as goal

pub returns-then-not-may_stand-clause-comes : goal.returns-then-not-may_stand-clause-comes
returns-then-not-may_stand-clause-comes c =
    let ts0 = c.args.store.now.trees in
    let put : ArePut (trees_of (map (typed ts0) c.args.arguments.now)) ts0 c.args.body.now.terms c.in_ok-values.values.items c.put_all.new.store.trees =
    subst (λ (ts : List Tree). ArePut (trees_of (map (typed ts0) c.args.arguments.now)) ts0 ts c.in_ok-values.values.items c.put_all.new.store.trees) (sym c.layers.ensures.trees ∙ c.terms.ensures) c.in_ok-values.ensures.ok in
    let linear : c.are_linear.result ≡ all_linear c.in_ok-values.values.items = c.are_linear.ensures ∙ ap all_linear c.deref.ensures.value in
    let test : (not c.args.rules.closed || all_linear c.in_ok-values.values.items) ≡ false =
    ap (λ b. not c.args.rules.closed || b) (sym linear) ∙ sym c.may_stand.ensures ∙ c.if-not-may_stand.true in
    not_linear (rules_of c.args.rules) c.args.declaration.now c.args.body.now (trees_of (map (typed ts0) c.args.arguments.now)) (scope_of c.args.table.now ts0) c.in_ok-values.values.items c.put_all.new.store.trees c.requires.defined put test

pub returns-clause-comes : goal.returns-clause-comes
returns-clause-comes c =
    let ts0 = c.args.store.now.trees in
    let put : ArePut (trees_of (map (typed ts0) c.args.arguments.now)) ts0 c.args.body.now.terms c.in_ok-values.values.items c.put_all.new.store.trees =
    subst (λ (ts : List Tree). ArePut (trees_of (map (typed ts0) c.args.arguments.now)) ts0 ts c.in_ok-values.values.items c.put_all.new.store.trees) (sym c.layers.ensures.trees ∙ c.terms.ensures) c.in_ok-values.ensures.ok in
    let linear : c.are_linear.result ≡ all_linear c.in_ok-values.values.items = c.are_linear.ensures ∙ ap all_linear c.deref.ensures.value in
    let test : (not c.args.rules.closed || all_linear c.in_ok-values.values.items) ≡ true =
    ap (λ b. not c.args.rules.closed || b) (sym linear) ∙ sym c.may_stand.ensures ∙ c.if-not-may_stand.false in
    let at : c.index-value.result.now ≡ value_at c.in_ok-values.values.items c.place.result =
    c.index-value.ensures ∙ any_default c.in_ok-values.values.items c.place.result _ some_value
    (subst (λ n. c.place.result < n) (sym (count_put (trees_of (map (typed ts0) c.args.arguments.now)) ts0 c.args.body.now.terms c.in_ok-values.values.items c.put_all.new.store.trees put)) c.place.ensures.within) in
    definition_applied (rules_of c.args.rules) c.args.declaration.now c.args.body.now (trees_of (map (typed ts0) c.args.arguments.now)) (scope_of c.args.table.now ts0) c.in_ok-values.values.items c.put_all.new.store.trees c.place.result
    c.requires.defined put test c.place.ensures.within c.place.ensures.value _ (ap (λ (x : Value). x.id) at) (ap (λ (q : Rank). q.result) c.rank.ensures) (ap (λ (x : Value). x.constant) at) (ap (λ (x : Value). x.linear) at)
