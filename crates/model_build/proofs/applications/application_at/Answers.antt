use Rattle.std.proofs.Common.{◌≡◌, ◌<◌, length, arith, true, sym, ◌∙◌}
use Rattle.std.proofs.lemmas.List.Elements.{All-weaker}
use Rattle.model_build.specs.Given.{given_at, is_marked}
use Rattle.model_build.proofs.Reading.{read}
use Rattle.model_build.proofs.applications.application_at.Goals as goal

pub returns-in-Symbol-clause-some : goal.returns-in-Symbol-clause-some
returns-in-Symbol-clause-some c =
    let marked : is_marked (given_at c.args.given.now c.args.place) ≡ true = sym c.is_marked.ensures ∙ c.if-not-is_marked.false in
    read c.args.store.now.trees c.args.given.now c.args.place c.in-Symbol.symbol c.node-node.result.head c.node-node.result.arguments.now c.len-known.ensures.different c.requires.size
    c.requires.place marked c.node-node.ensures.tree
    (All-weaker (λ i. i < c.args.place) (λ i. i < length c.args.store.now.trees) (λ i h. let p = c.requires.place in omega arith) c.node-node.result.arguments.now c.node-node.ensures.earlier)
    c.in-Symbol.is
