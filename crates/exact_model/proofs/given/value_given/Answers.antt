use Rattle.std.proofs.Common.{◌≡◌, true, false, ap, sym, ◌∙◌, rules}
use Rattle.std.proofs.lemmas.Result.{IfOk-weaker}
use Rattle.smt_meaning.specs.declared.values.Value.TheVariants.{Whole}
use Rattle.smt_meaning.specs.CheckAtoms.{is_leaf_head}
use Rattle.exact_model.specs.Exact.{given_of, exact_at, listed}
use Rattle.exact_model.specs.Sums.{number_of_place}
use Rattle.exact_model.proofs.Heads.{leaf_value, sum_value}
use Rattle.exact_model.proofs.Giving.{in_range_given}
use Rattle.exact_model.proofs.given.value_given.Goals as goal

pub returns-then-is_leaf : goal.returns-then-is_leaf
returns-then-is_leaf c =
    let leaf : is_leaf_head c.node.result.head ≡ true = search rules in
    sym (in_range_given (listed c.args.listed.now.values.now c.args.place) c.requires.in_range)
    ∙ ap given_of
    (sym (leaf_value c.args.listed.now.store.now.trees c.args.listed.now.values.now c.args.place c.node.result.head c.node.result.arguments.now c.requires.listed.forms.different c.requires.within
    c.node.ensures.tree leaf))

pub returns-else-is_leaf : goal.returns-else-is_leaf
returns-else-is_leaf c =
    let ts = c.args.listed.now.store.now.trees in
    let vs = c.args.listed.now.values.now in
    let p = c.args.place in
    let sum : is_leaf_head c.node.result.head ≡ false = search rules in
    IfOk-weaker c.form_given.result (λ g. g ≡ given_of (Whole (number_of_place ts vs p))) (λ g. g ≡ given_of (exact_at ts vs p))
    (λ g h. h ∙ ap given_of (sym (sum_value ts vs p c.node.result.head c.node.result.arguments.now c.node.ensures.tree sum))) c.form_given.ensures
