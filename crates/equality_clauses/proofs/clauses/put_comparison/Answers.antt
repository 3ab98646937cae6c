use Rattle.std.proofs.Common.{◌<◌, ◌^◌, ℕ, List, All, sym, subst, ◌∙◌}
use Rattle.equality_clauses.proofs.OnceLemmas.{All-once}
use Rattle.equality_clauses.proofs.clauses.put_comparison.Goals as goal

pub put_joined-requires-clause-numbers : goal.put_joined-requires-clause-numbers
put_joined-requires-clause-numbers c =
    subst (λ (ns : List ℕ). All (λ n. n < 2 ^ 31) ns) (sym (c.deref.ensures.value ∙ c.in_ok-keep_once.ensures)) (All-once (λ n. n < 2 ^ 31) c.args.pairs.now c.requires.pairs)
