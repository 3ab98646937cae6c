use Rattle.std.proofs.Common.{rules, ◌≡◌, ◌≤◌, ◌<◌, ◌∷◌, ◌++◌, ◌∙◌, [], ℕ, List, All, Vec, Global, length, take, sym, ap, subst}
use Rattle.std.specs.Prelude.{slice_index_or}
use Rattle.std.proofs.lemmas.List.{take_all}
use Rattle.std.proofs.lemmas.List.Elements.{All-more}
use Rattle.smt_meaning.specs.Term.{Tree, tree_at}
use Rattle.term_store.specs.Terms.{AreDifferent}
use Rattle.scope_stack.specs.declared.answers.Assertion.{Assertion}
use Rattle.closure_log.specs.Distinct.{ListsWide}
use Rattle.closure_log.proofs.Distincts.{lists_more, lists_pushed, lists_other, all_listed}
use Rattle.closure_log.proofs.distinct.asserted_distincts.Goals as goal
use Rattle.closure_log.proofs.distinct.asserted_distincts.Goals.{then-is_wide+in_ok-push, else-is_wide}

pub loop-assertion-preserved : goal.loop-assertion-preserved
loop-assertion-preserved c =
    let ts : List Tree = c.args.stack.now.trees in
    let xs : List Assertion = c.assertions-assertions.result.now in
    let k = c.loop-assertion.assertion-index in
    let item : Assertion = c.assertion-item.result in
    let old : List ℕ = c.loop-assertion.parts.items in
    let new : List ℕ = c.if-is_wide.parts.items in
    let different : AreDifferent ts = subst AreDifferent c.terms.ensures.trees c.len-different.ensures.different in
    let less : k < length xs = search rules in
    let inside : item.term < length ts = subst (λ (a : Assertion). a.term < length ts) (sym c.assertion-item.is) (c.assertions-assertions.ensures.within k item less) in
    let both : All (λ (a : Assertion). ListsWide ts new (tree_at ts a.term)) (take k xs) × ListsWide ts new (tree_at ts item.term) =
    elim c.if-is_wide.branch [
      | then-is_wide+in_ok-push w ↦
          let pushed : new ≡ old ++ item.term ∷ [] = ap (λ (v : Vec ℕ Global). v.items) w.parts-is ∙ w.in_ok-push.ensures.items in (
            subst (λ (ps : List ℕ). All (λ (a : Assertion). ListsWide ts ps (tree_at ts a.term)) (take k xs)) (sym pushed) (λ n d small. lists_more ts different old item.term (tree_at ts (slice_index_or (take k xs) n d).term) (c.loop-assertion.invariant n d small)),
            subst (λ (ps : List ℕ). ListsWide ts ps (tree_at ts item.term)) (sym pushed) (lists_pushed ts different old item.term inside),
          )
      | else-is_wide w ↦
          let stays : new ≡ old = ap (λ (v : Vec ℕ Global). v.items) w.parts-is in (
            subst (λ (ps : List ℕ). All (λ (a : Assertion). ListsWide ts ps (tree_at ts a.term)) (take k xs)) (sym stays) c.loop-assertion.invariant,
            subst (λ (ps : List ℕ). ListsWide ts ps (tree_at ts item.term)) (sym stays) (lists_other ts different old item.term inside (c.is_wide.ensures w.if-is_wide.false)),
          )
    ] in
    All-more (λ (a : Assertion). ListsWide ts new (tree_at ts a.term)) xs k item less both.0 (subst (λ (a : Assertion). ListsWide ts new (tree_at ts a.term)) c.assertion-item.is both.1)

pub returns : goal.returns
returns c =
    let s = c.args.stack.now in
    let xs = c.assertions-assertions.result.now in
    let last : length xs ≤ c.loop-assertion.assertion-index = search rules in
    all_listed s xs c.loop-assertion.parts.items c.assertions-assertions.ensures
    (subst (λ (ys : List Assertion). All (λ (a : Assertion). ListsWide s.trees c.loop-assertion.parts.items (tree_at s.trees a.term)) ys) (take_all c.loop-assertion.assertion-index xs last) c.loop-assertion.invariant)
