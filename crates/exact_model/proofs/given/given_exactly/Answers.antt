use Rattle.std.proofs.Common.{◌≡◌, ℕ, ◌<◌, true, List, length, subst, sym}
use Rattle.std.proofs.lemmas.Result.{IfOk-weaker}
use Rattle.smt_meaning.specs.declared.values.Sort.{Sort}
use Rattle.smt_meaning.specs.Term.{Tree, in_range}
use Rattle.smt_meaning.specs.Stack.{signature_of}
use Rattle.scope_stack.specs.Facts.{AreSorts}
use Rattle.model_eval.specs.Walk.{is_marked}
use Rattle.model_build.specs.Building.{AreGiven, AreValues}
use Rattle.exact_model.specs.Exact.{exact, listed, AreListed, AllFold, HaveOperatorsValues, AreGivenExactly, ArePlacesGiven}
use Rattle.exact_model.proofs.Giving.{value_in_range, given_so_exactly, are_given, are_values}
use Rattle.exact_model.proofs.given.given_exactly.Goals as goal

pub give-requires-clause-listed : goal.give-requires-clause-listed
give-requires-clause-listed c = subst (λ (ts : List Tree). AreListed ts c.args.forms.now c.args.values.now) (sym c.terms-store.ensures.trees) c.requires.listed

pub give-requires-clause-folds : goal.give-requires-clause-folds
give-requires-clause-folds c = subst (λ (ts : List Tree). AllFold ts c.args.marks.now) (sym c.terms-store.ensures.trees) c.requires.folds

pub give-requires-clause-in_range : goal.give-requires-clause-in_range
give-requires-clause-in_range c =
    subst (λ (ts : List Tree). (p : ℕ) → p < length ts → is_marked c.args.marks.now p ≡ true → in_range (listed c.args.values.now p) ≡ true) (sym c.terms-store.ensures.trees)
    (λ p less m. (let own = c.requires.parts.sorted p m in value_in_range (listed c.args.values.now p) own.0 (c.requires.may_be p own.0 less m own.1)))

pub returns-clause-exact : goal.returns-clause-exact
returns-clause-exact c =
    let s = c.args.stack.now in
    IfOk-weaker c.give.result (λ gs. ArePlacesGiven c.terms-store.result.now.trees c.args.marks.now c.args.values.now gs.items)
    (λ gs. (sorts : List Sort) → AreSorts (signature_of s.frames) s.trees (length s.trees) sorts → AreGivenExactly s.trees c.args.marks.now sorts c.args.values.now gs.items)
    (λ gs h sorts kept. given_so_exactly s.trees c.args.marks.now c.args.values.now gs.items (subst (λ (ts : List Tree). ArePlacesGiven ts c.args.marks.now c.args.values.now gs.items) c.terms-store.ensures.trees h)
    (signature_of s.frames) c.args.forms.now c.requires.parts c.requires.listed c.requires.may_be sorts kept)
    c.give.ensures

pub returns-clause-given : goal.returns-clause-given
returns-clause-given c =
    let s = c.args.stack.now in
    IfOk-weaker c.give.result (λ gs. ArePlacesGiven c.terms-store.result.now.trees c.args.marks.now c.args.values.now gs.items) (λ gs. AreGiven (signature_of s.frames) s.trees gs.items)
    (λ gs h. are_given s.trees c.args.marks.now c.args.values.now gs.items (subst (λ (ts : List Tree). ArePlacesGiven ts c.args.marks.now c.args.values.now gs.items) c.terms-store.ensures.trees h)
    (signature_of s.frames) c.args.forms.now c.requires.parts c.requires.listed c.requires.may_be c.sorts-sorts.result.now c.sorts-sorts.ensures c.laws.ensures.in_order)
    c.give.ensures

pub returns-clause-values : goal.returns-clause-values
returns-clause-values c =
    let s = c.args.stack.now in
    IfOk-weaker c.give.result (λ gs. ArePlacesGiven c.terms-store.result.now.trees c.args.marks.now c.args.values.now gs.items) (λ gs. HaveOperatorsValues s.trees c.args.marks.now c.args.values.now → AreValues s.trees gs.items (exact s.trees c.args.values.now))
    (λ gs h. are_values s.trees c.args.marks.now c.args.values.now gs.items (subst (λ (ts : List Tree). ArePlacesGiven ts c.args.marks.now c.args.values.now gs.items) c.terms-store.ensures.trees h))
    c.give.ensures
