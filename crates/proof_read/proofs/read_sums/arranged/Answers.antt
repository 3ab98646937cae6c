use Rattle.std.proofs.Common.{rules, ap, ◌∙◌}
use Rattle.std.proofs.lemmas.List.Sorted.{IsNonDecreasingBy-from_sort_by_key}
use Rattle.smt_meaning.specs.declared.clauses.Summand.{Summand}
use Rattle.proof_read.specs.ReadSums.{are_rising, terms_of}
use Rattle.proof_read.proofs.ReadArrange.{not_apart, arranges, arranges_at_once}
use Rattle.proof_read.proofs.read_sums.arranged.Goals as goal

pub returns-then-is_rising : goal.returns-then-is_rising
returns-then-is_rising c =
    arranges_at_once _ _ _ c.into_vec-items.ensures c.requires (c.if-is_rising.ensures ∙ ap (λ ps. are_rising (terms_of ps)) c.deref.ensures.value) c.from_vec.ensures

pub returns-then-is_rising-2 : goal.returns-then-is_rising-2
returns-then-is_rising-2 c =
    arranges _ _ _ _ c.into_vec-items.ensures c.sort_unstable_by_key.ensures.permutation c.requires (c.if-is_rising-2.ensures ∙ ap (λ ps. are_rising (terms_of ps)) c.deref-2.ensures.value) c.from_vec-then-is_rising-2.ensures

pub returns-else-is_rising-2 : goal.returns-else-is_rising-2
returns-else-is_rising-2 c =
    let up = IsNonDecreasingBy-from_sort_by_key (λ (p : Summand). p.term) _ c.sort_unstable_by_key.ensures.sorted (λ a r q k. search rules) in
    not_apart _ _ _ c.into_vec-items.ensures c.sort_unstable_by_key.ensures.permutation up (c.if-is_rising-2.ensures ∙ ap (λ ps. are_rising (terms_of ps)) c.deref-2.ensures.value)
