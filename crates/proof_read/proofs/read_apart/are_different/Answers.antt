use Rattle.std.proofs.Common.{rules, ap, sym, ◌∙◌, List, ℕ}
use Rattle.std.specs.Borrow.{Bor}
use Rattle.std.proofs.lemmas.List.Sorted.{IsNonDecreasingBy-from_sort_by}
use Rattle.smt_meaning.specs.Sorts.{decimal}
use Rattle.proof_read.specs.ReadSums.{are_apart, are_rising}
use Rattle.proof_read.specs.ReadApart.{numbers_of}
use Rattle.proof_read.proofs.ReadApartLemmas.{apart_by_key}
use Rattle.proof_read.proofs.read_apart.are_different.Goals as goal

pub returns : goal.returns
returns c ps e =
    let up = IsNonDecreasingBy-from_sort_by (λ (b : Bor (List ℕ)). decimal b.now) _ c.sort_unstable_by.ensures.sorted (λ a r q k. search rules) in
    c.is_rising.ensures ∙ ap (λ bs. are_rising (numbers_of bs)) c.deref.ensures.value ∙ sym (apart_by_key (λ (b : Bor (List ℕ)). decimal b.now) _ _ c.sort_unstable_by.ensures.permutation up)
    ∙ ap are_apart (c.in_ok-leaves.ensures ps e)
