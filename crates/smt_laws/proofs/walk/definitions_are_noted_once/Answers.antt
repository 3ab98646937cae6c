use Rattle.smt_laws.proofs.AgainLemmas.{noted_once}
use Rattle.smt_laws.proofs.walk.definitions_are_noted_once.Goals as goal

pub returns : goal.returns
returns c = noted_once
