use Rattle.std.proofs.Common.{rules}
use Rattle.term_store.specs.Hash.{mixed}
use Rattle.term_store.proofs.term_store_hash.mix.Goals as goal

pub returns : goal.returns
unfolding mixed
returns c = search rules
