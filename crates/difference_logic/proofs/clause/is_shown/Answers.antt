use Rattle.std.proofs.Common.{◌∷◌, refl, subst, arith}
use Rattle.literals.specs.Signed.{Signed}
use Rattle.difference_logic.specs.Differences.{Follows}
use Rattle.difference_logic.proofs.Saying.{with_more}
use Rattle.difference_logic.proofs.Clausing.{one_or_not_all}
use Rattle.difference_logic.proofs.clause.is_shown.Goals as goal

pub returns-in-Some-with_next : goal.returns-in-Some-with_next
returns-in-Some-with_next c = λ b.
    one_or_not_all c.args.atoms.now.atoms c.args.literal c.args.reasons.now c.in-Some-with_next.round
    (subst (λ (m : Signed). Follows c.args.atoms.now.atoms (m ∷ c.args.reasons.now) c.in-Some-with_next.round) c.negated.ensures
    (c.in-Some-with_next.ensures (c.negated.result ∷ c.args.reasons.now) (with_more c.args.atoms.now.atoms c.negated.result c.args.reasons.now c.in-Some.path c.in-Some.ensures)
    (0, omega arith, refl)))
    (c.is_broken.ensures b)
