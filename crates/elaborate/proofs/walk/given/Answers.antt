use Rattle.std.proofs.Common.{sym, subst}
use Rattle.elaborate.specs.declared.frame.Frame.TheVariants.{Application, Division}
use Rattle.elaborate.specs.Steps.{IsGiven}
use Rattle.elaborate.proofs.Giving.{given_application, given_division}
use Rattle.elaborate.proofs.walk.given.Goals as goal

pub returns-in_ok-push-in-Application : goal.returns-in_ok-push-in-Application
returns-in_ok-push-in-Application c =
    subst (λ f. IsGiven f c.args.value (Application c.in-Application.name c.in-Application.operator c.push.new.self)) (sym c.in-Application.is)
    (given_application c.in-Application.name c.in-Application.operator c.in-Application.arguments c.push.new.self c.args.value c.in_ok-push-in-Application.ensures.ok)

pub returns-in_ok-push-in-Division : goal.returns-in_ok-push-in-Division
returns-in_ok-push-in-Division c =
    subst (λ f. IsGiven f c.args.value (Division c.in-Division.number c.push-in-Division.new.self)) (sym c.in-Division.is) (given_division c.in-Division.number c.in-Division.arguments c.push-in-Division.new.self c.args.value c.in_ok-push-in-Division.ensures.ok)
