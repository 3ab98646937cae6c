use Rattle.std.proofs.Common.{◌∙◌, ap}
use Rattle.std.specs.Prelude.{List}
use Rattle.smt_meaning.specs.declared.tokens.Token.{Token}
use Rattle.race_model.specs.declared.levels.Levels.{Levels}
use Rattle.race_model.specs.contracts.levels.LevelsFramed.TheImpl.{ghosts}
use Rattle.race_model.specs.Base.{base_of}
use Rattle.lemma_pool.specs.State.{state_of}
use Rattle.unit_tests.specs.Proposition.{asserting}
use Rattle.unit_tests.proofs.Stated.{asserts_p, stated_after}
use Rattle.unit_tests.proofs.tests.levels.state_p.Goals as goal

pub assert-requires : goal.assert-requires
assert-requires c =
    let is = c.assertion.ensures ∙ ap (λ (ts : List Token). asserting ts 0) c.in_ok-word.ensures in
    asserts_p (state_of {K = Levels} {G = ghosts} c.args.pool.now) (base_of c.gain.new.self) c.requires.pool
    (stated_after c.args.levels.now c.gain.new.self c.assertion.result c.requires.levels is c.gain.ensures.terms c.in_ok-gain.ensures.ok)
