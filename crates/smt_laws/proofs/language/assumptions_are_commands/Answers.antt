use Rattle.smt_laws.proofs.AssumedCommands.{assumptions_are_commands}
use Rattle.smt_laws.proofs.language.assumptions_are_commands.Goals as goal

pub returns : goal.returns
returns c = assumptions_are_commands
