use Rattle.std.proofs.Common.{rules}
use Rattle.term_store.specs.Hash.{node_hash}
use Rattle.term_store.proofs.term_store_hash.of_node.Goals as goal

pub returns : goal.returns
unfolding node_hash
returns c = search rules
