use Rattle.std.proofs.Common.{◌≡◌, map, drop, List, ℕ, Bor}
use Rattle.smt_meaning.specs.Signature.{is_one_of as is_among}
use Rattle.reply_print.proofs.name.is_one_of.Given as goal

abbrev pub invariant-loop-word : goal.invariant-loop-word
invariant-loop-word l =
    is_among l.name (map (λ (w : Bor (List ℕ)). w.now) l.words) ≡ is_among l.name (map (λ (w : Bor (List ℕ)). w.now) (drop l.word-index l.words))
