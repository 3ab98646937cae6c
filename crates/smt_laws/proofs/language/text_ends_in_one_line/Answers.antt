use Rattle.smt_laws.proofs.Lines.{ends_in_one_line}
use Rattle.smt_laws.proofs.language.text_ends_in_one_line.Goals as goal

pub returns : goal.returns
returns c = ends_in_one_line
