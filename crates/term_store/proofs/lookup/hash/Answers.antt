use Rattle.std.proofs.Common.{◌≡◌, ◌/◌, arith, sym, ap, ◌∙◌}
use Rattle.std.proofs.lemmas.List.{at_drop_all}
use Rattle.term_store.specs.Hash.{words_state}
use Rattle.term_store.specs.Newest.{name_hash}
use Rattle.term_store.proofs.lookup.hash.Goals as goal

pub returns : goal.returns
unfolding name_hash
returns c =
    let all : c.loop-byte.state ≡ words_state 5 c.args.name.now = sym (at_drop_all (words_state c.loop-byte.state) c.args.name.now c.loop-byte.byte-index (omega arith)) ∙ c.loop-byte.invariant in
    ap (λ s. s / 4294967296) all
