use Rattle.std.proofs.Common.{rules}
use Rattle.model_eval.specs.Rows.{values_hash}
use Rattle.model_eval.proofs.rows.hash_of.Goals as goal

pub returns : goal.returns
unfolding values_hash
returns c = search rules
