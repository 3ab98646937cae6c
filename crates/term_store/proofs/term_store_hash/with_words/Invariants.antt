use Rattle.std.proofs.Common.{◌≡◌, drop}
use Rattle.term_store.specs.Hash.{words_state}
use Rattle.term_store.proofs.term_store_hash.with_words.Given as goal

abbrev pub invariant-loop-word : goal.invariant-loop-word
invariant-loop-word l = words_state l.state (drop l.word-index l.words) ≡ words_state l.start l.words
