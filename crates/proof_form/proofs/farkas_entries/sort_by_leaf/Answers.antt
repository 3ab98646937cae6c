use Rattle.std.proofs.Common.{rules}
use Rattle.std.proofs.lemmas.List.Sorted.{IsNonDecreasingBy-from_sort_by_key, answers_always}
use Rattle.proof_form.proofs.FarkasTies.{stable_leaf}
use Rattle.proof_form.proofs.farkas_entries.sort_by_leaf.Goals as goal

pub returns-clause-sorted : goal.returns-clause-sorted
returns-clause-sorted c = IsNonDecreasingBy-from_sort_by_key (λ e. e.leaf) _ c.in_ok-sort_by_key.ensures.sorted (λ a r q k. search rules)

pub returns-clause-stable : goal.returns-clause-stable
returns-clause-stable c = stable_leaf _ _ (c.in_ok-sort_by_key.ensures.stable (λ e. e.leaf) (answers_always _ _ _ (λ f a r g h. search rules)))
