use Rattle.std.proofs.Common.{◌<◌, length}
use Rattle.std.proofs.lemmas.List.Sorted.{All-permutation}
use Rattle.scope_stack.proofs.term_set.TermSet.sort.Goals as goal

pub set_places-requires : goal.set_places-requires
set_places-requires c =
    rw (c.deref.ensures.value, c.deref_mut.ensures.value)
    (All-permutation (λ i. i < length c.args.self.now.places.items) _ _ c.sort_unstable.ensures.permutation c.requires)

pub returns-clause-members : goal.returns-clause-members
returns-clause-members c = All-permutation (λ i. i < length c.args.self.now.places.items) _ _ c.sort_unstable.ensures.permutation c.requires
