use Rattle.std.proofs.Common.{◌≡◌, drop}
use Rattle.term_store.specs.Hash.{words_state}
use Rattle.term_store.proofs.lookup.hash.Given as goal

abbrev pub invariant-loop-byte : goal.invariant-loop-byte
invariant-loop-byte l = words_state l.state (drop l.byte-index l.name) ≡ words_state 5 l.name
