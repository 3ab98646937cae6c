use Rattle.std.proofs.Common.{List, Contains, refl, inl, inr, subst, sym}
use Rattle.literals.specs.Signed.{Signed}
use Rattle.cdcl_core.proofs.own.join.Goals as goal

pub returns : goal.returns
returns c = inr ((λ among. c.has.ensures.no c.if-has.false (subst (λ (xs : List Signed). Contains xs c.args.literal) (sym c.as_slice.ensures.value) among)), c.in_ok-push.ensures.items)

pub returns-then-has : goal.returns-then-has
returns-then-has c = inl (subst (λ (xs : List Signed). Contains xs c.args.literal) c.as_slice.ensures.value (c.has.ensures.yes c.if-has.true), refl)
