use Rattle.std.proofs.Common.{rules, ◌≡◌, ◌∷◌, map, sym, subst}
use Rattle.std.specs.Prelude.{List}
use Rattle.literals.specs.Signed.{Signed, opposite}
use Rattle.congruence.specs.Reasons.{HaveTheSame}
use Rattle.congruence.specs.Implied.{IsPressingLemma}
use Rattle.congruence.proofs.Implying.{implied_presses}
use Rattle.congruence.proofs.implied.implied_clause.Goals as goal

pub returns-clause-presses : goal.returns-clause-presses
returns-clause-presses c = λ ds t told reasoned number is_open justified.
    let pushed : c.add_negations.new.clause.items ≡ c.args.literal ∷ map opposite c.explain_points.new.explanation.reasons.items = search rules in
    let same : HaveTheSame (c.args.literal ∷ map opposite c.explain_points.new.explanation.reasons.items) c.lemma_of.result.literals =
    subst (λ (ls : List Signed). HaveTheSame ls c.lemma_of.result.literals) pushed c.lemma_of.ensures.same.same in
    let level : c.lemma_of.result.level ≡ 0 = c.lemma_of.ensures.level in
    subst (λ (n : _). IsPressingLemma t (record { literals = c.lemma_of.result.literals; level = n })) (sym level)
    (implied_presses c.reasons_make_equal.ensures ds t c.args.congruence.now reasoned c.args.literal c.args.steps.now c.in-Some.found c.explain_points.new.explanation.reasons.items c.lemma_of.result.literals told number is_open
    c.in-Some.ensures c.in_ok-explain_points.ensures justified same)
