-- A bound that is divided by a number.
use Rattle.std.proofs.Common.{◌≡◌, ℕ, List, ap, sym, subst, ◌∙◌, refl, Bool, true, false, not, ◌||◌}
use Rattle.std.specs.Prelude.{int_le}
use Rattle.smt_meaning.specs.declared.clauses.Literal.{Literal}
use Rattle.smt_meaning.specs.Term.{Tree, Interpretation}
use Rattle.smt_meaning.specs.Clause.{some_true, sum_value}
use Rattle.proof_meaning.specs.Rules.{IsRound}
use Rattle.smt_laws.proofs.BoundLaw.{bound_at}

pub round_true : (ts : List Tree) (I : Interpretation) (l : Literal) (g : ℕ) (ls : List Literal) → IsRound l g ls → some_true ts I ls ≡ true
round_true ts I l g ls h =
    subst (λ ms. some_true ts I ms ≡ true) (sym h.clause)
    (ap (λ b. not (int_le (sum_value ts I h.sum) h.most) || (b || false)) (bound_at ts I g h.sum h.most h.divides) ∙ either (int_le (sum_value ts I h.sum) h.most))
  where
    either : (b : Bool) → (not b || (b || false)) ≡ true
    either true = refl
    either false = refl
