use Rattle.simplex_steps.proofs.SuspectLemmas.{broken_of, none_broken}
use Rattle.simplex_steps.proofs.find.first_broken.Goals as goal

pub returns-in-Some : goal.returns-in-Some
returns-in-Some c =
    broken_of c.args.tableau.now c.args.columns.now c.in-Some.variable c.place_of.result c.requires.count c.facts.ensures c.place_of.ensures.some c.place_of.ensures.basic c.place_of.ensures.none c.in-Some.ensures.some c.in-Some.ensures.first

pub returns-in-None : goal.returns-in-None
returns-in-None c = none_broken c.args.tableau.now c.args.columns.now c.requires.count c.facts.ensures c.in-None.ensures.none
