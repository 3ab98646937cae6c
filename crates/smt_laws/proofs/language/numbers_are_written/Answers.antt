use Rattle.smt_laws.proofs.Numbers.{numbers_written}
use Rattle.smt_laws.proofs.language.numbers_are_written.Goals as goal

pub returns : goal.returns
returns c = numbers_written
