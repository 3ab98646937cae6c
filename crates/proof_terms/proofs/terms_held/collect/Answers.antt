use Rattle.std.proofs.Common.{◌≡◌, ◌∷◌, [], ◌++◌, List, ℕ, get_or, take, ap, sym, ◌∙◌}
use Rattle.std.specs.Prelude.{Some}
use Rattle.std.proofs.lemmas.List.{take_more, get_or_default}
use Rattle.proof_terms.specs.declared.terms_facts.Fact.{Fact}
use Rattle.proof_terms.specs.TermFacts.{fact_past, held_of}
use Rattle.proof_terms.proofs.TermHeldLemmas.{held_push, held_nowhere}
use Rattle.proof_terms.proofs.terms_held.collect.Goals as goal

pub returns-in-None : goal.returns-in-None
returns-in-None c = held_nowhere c.args.arguments.now c.loop-argument.argument-index (fact_past 0) c.loop-argument-test.true (ap (λ (f : Fact). f.held) (get_or_default c.args.arguments.now c.loop-argument.argument-index (fact_past 0) _ c.loop-argument-test.true) ∙ c.in-None.is)

pub loop-argument-preserved : goal.loop-argument-preserved
loop-argument-preserved c =
    let at : Fact = get_or c.args.arguments.now c.loop-argument.argument-index (fact_past 0) in
    let items : c.push.new.self.items ≡ c.loop-argument.places.items ++ c.in-Some.place ∷ [] = c.in_ok-push-in-Some.ensures.items in
    ap held_of (take_more c.args.arguments.now c.loop-argument.argument-index (fact_past 0) c.loop-argument-test.true)
    ∙ held_push (take c.loop-argument.argument-index c.args.arguments.now) c.loop-argument.places.items at c.in-Some.place c.loop-argument.invariant (ap (λ (f : Fact). f.held) (get_or_default c.args.arguments.now c.loop-argument.argument-index (fact_past 0) _ c.loop-argument-test.true) ∙ c.in-Some.is)
    ∙ ap (λ (xs : List ℕ). Some xs) (sym items)
