use Rattle.std.proofs.Common.{ap, refl}
use Rattle.smt_meaning.specs.declared.declarations.Rank.{Rank}
use Rattle.smt_sorts.specs.Names.{signature}
use Rattle.elaborate.specs.Judged.{scope_of, rules_of}
use Rattle.elaborate.proofs.Owned.{before_comes}
use Rattle.elaborate.proofs.own.taken_before.Goals as goal

pub returns : goal.returns
returns c =
    before_comes (signature c.args.table.now) (rules_of c.args.rules) c.args.declaration.now c.args.arguments.now c.args.store.now.trees c.args.apart.now c.in-Some.taken c.in-Some-body.body.now (scope_of c.args.table.now c.args.store.now.trees)
    (record { id = c.place.result; sort = c.rank.result.now.result; constant = c.in-Some.taken.constant; linear = c.in-Some.taken.linear }) c.requires.apart c.requires.declared c.requires.was c.in-Some.is c.in-Some-body.ensures.some refl
    c.place.ensures.within c.place.ensures.value (ap (λ (q : Rank). q.result) c.rank.ensures) refl refl c.len.ensures.parts
