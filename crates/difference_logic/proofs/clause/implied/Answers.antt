use Rattle.std.proofs.Common.{rules, ◌≡◌, ◌∷◌, map, subst}
use Rattle.std.specs.Prelude.{List}
use Rattle.literals.specs.Signed.{Signed, opposite}
use Rattle.congruence.specs.Reasons.{HaveTheSame}
use Rattle.difference_logic.proofs.Clausing.{implied_by}
use Rattle.difference_logic.proofs.clause.implied.Goals as goal

pub returns : goal.returns
returns c =
    let pushed : c.add_negations.new.clause.items ≡ c.args.literal ∷ map opposite c.args.reasons.now = search rules in
    let same : HaveTheSame (c.args.literal ∷ map opposite c.args.reasons.now) c.lemma_of.result.literals =
    subst (λ (ls : List Signed). HaveTheSame ls c.lemma_of.result.literals) pushed c.lemma_of.ensures.same.same
    in
    implied_by c.args.atoms.now.atoms c.args.literal c.args.reasons.now c.lemma_of.result (c.is_shown.ensures c.if-not-is_shown.false) same c.lemma_of.ensures.level
