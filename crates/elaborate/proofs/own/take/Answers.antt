use Rattle.std.proofs.Common.{ap, sym, refl, ◌∙◌}
use Rattle.smt_meaning.specs.declared.declarations.Rank.{Rank}
use Rattle.smt_meaning.specs.Nodes.{joined}
use Rattle.smt_sorts.specs.Names.{signature}
use Rattle.elaborate.specs.Judged.{scope_of, rules_of}
use Rattle.elaborate.proofs.Owned.{taken_comes, taken_grown}
use Rattle.elaborate.proofs.own.take.Goals as goal

pub returns-clause-comes : goal.returns-clause-comes
returns-clause-comes c =
    taken_comes (signature c.args.table.now) (rules_of c.args.rules) c.args.declaration.now c.args.arguments.now c.args.store.now c.args.apart.now c.in-Some.kept c.in-Some-body.body.now (scope_of c.args.table.now c.args.store.now.trees)
    (record { id = c.place.result; sort = c.rank.result.now.result; constant = c.in-Some.kept.workshop.constant; linear = c.in-Some.kept.workshop.linear }) (joined c.layers.result.now) c.requires.apart c.requires.declared c.requires.can (sym c.take.ensures.value ∙ c.in-Some.is) c.in-Some-body.ensures.some refl
    c.place.ensures.within c.place.ensures.value (ap (λ (q : Rank). q.result) c.rank.ensures) refl refl c.layers.ensures.trees c.layers.ensures.earlier c.len-apart.ensures.different

pub returns-clause-longer : goal.returns-clause-longer
returns-clause-longer c =
    taken_grown (rules_of c.args.rules) c.args.declaration.now c.args.arguments.now c.args.store.now c.args.apart.now c.in-Some.kept c.requires.can (sym c.take.ensures.value ∙ c.in-Some.is)
