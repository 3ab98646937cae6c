use Rattle.std.proofs.Common.{rules}
use Rattle.model_build.specs.Keys.{key_hash}
use Rattle.model_build.proofs.hash.hash_of.Goals as goal

pub returns : goal.returns
unfolding key_hash
returns c = search rules
