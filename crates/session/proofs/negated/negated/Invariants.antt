use Rattle.std.proofs.Common.{◌≡◌, ◌∷◌, take}
use Rattle.std.specs.Prelude.{codes}
use Rattle.smt_meaning.specs.declared.tokens.Token.TheVariants.{Enter, Symbol}
use Rattle.session.proofs.negated.negated.Given as goal

abbrev pub invariant-loop-place : goal.invariant-loop-place
invariant-loop-place l = l.tokens ≡ Enter ∷ Symbol (codes "-") ∷ take l.place l.sexpr
