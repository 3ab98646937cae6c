use Rattle.std.proofs.Common.{rules, sym, subst}
use Rattle.std.proofs.lemmas.List.Filters.{dedup_is}
use Rattle.std.proofs.lemmas.List.Sorted.{IsNonDecreasingBy-from_sort_by_key}
use Rattle.literals.specs.Signed.{packed}
use Rattle.congruence.specs.Reasons.{AreEachOnce}
use Rattle.congruence.proofs.OnceLemmas.{have_one_code, each_once_by}
use Rattle.congruence.proofs.reasons.keep_each_once.Goals as goal

pub returns : goal.returns
returns c =
    let is = dedup_is have_one_code _ _ c.dedup.ensures.filtered in
    let up = IsNonDecreasingBy-from_sort_by_key packed _ c.sort_unstable_by_key.ensures.sorted (λ a r q k. search rules) in
    subst (AreEachOnce c.args.literals.now.items) (sym is) (each_once_by c.args.literals.now.items _ c.sort_unstable_by_key.ensures.permutation up)
