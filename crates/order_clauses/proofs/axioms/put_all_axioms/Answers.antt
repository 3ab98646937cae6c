use Rattle.std.proofs.Common.{◌≡◌, ◌++◌}
use Rattle.std.proofs.lemmas.Result.{IfOk-weaker}
use Rattle.order_clauses.specs.Links.{between_links}
use Rattle.order_clauses.specs.Axioms.{AddsAxioms}
use Rattle.order_clauses.proofs.Ordering.{numbers_small, adds}
use Rattle.order_clauses.proofs.axioms.put_all_axioms.Goals as goal

pub put_links-requires : goal.put_links-requires
put_links-requires c =
    numbers_small c.args.atoms.now.atoms c.gather.new.sums c.gather.new.links.items c.sort.new.links.items c.deref.result.now c.in_ok-gather.ensures c.sort.ensures.permutation c.deref.ensures.value
    c.are_few.ensures

pub returns : goal.returns
returns c =
    IfOk-weaker c.put_links.result (λ _. c.put_links.new.clauses ≡ c.args.clauses.now ++ between_links c.deref.result.now) (λ _. AddsAxioms c.args.atoms.now.atoms c.args.clauses.now c.put_links.new.clauses)
    (λ _ put. adds c.args.atoms.now.atoms c.gather.new.sums c.gather.new.links.items c.sort.new.links.items c.deref.result.now c.in_ok-gather.ensures c.sort.ensures.permutation c.deref.ensures.value
    c.are_apart.ensures c.sort.ensures.sorted c.args.clauses.now c.put_links.new.clauses put) c.put_links.ensures
