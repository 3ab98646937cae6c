use Rattle.std.proofs.Common.{◌∙◌, ap}
use Rattle.smt_meaning.specs.declared.tokens.Token.{Token}
use Rattle.std.specs.Prelude.{List}
use Rattle.race_model.specs.Race.{state_of}
use Rattle.unit_tests.specs.Proposition.{asserting}
use Rattle.unit_tests.proofs.Stated.{owes_p}
use Rattle.unit_tests.proofs.tests.steps.state_p.Goals as goal

pub step-requires : goal.step-requires
step-requires c = owes_p (state_of c.args.state.now) c.assertion-addition.result c.requires (c.assertion-addition.ensures ∙ ap (λ (ts : List Token). asserting ts 0) c.in_ok-word.ensures)
