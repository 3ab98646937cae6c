use Rattle.std.proofs.Common.{arith}
use Rattle.smt_meaning.specs.declared.terms.Operator.TheVariants as operator
use Rattle.proof_terms.proofs.FormTerms.{sorted}
use Rattle.proof_terms.proofs.FormKinds.{two_or_more, kind_distinct_two, kind_distinct_more, kind_distinct_others}
use Rattle.proof_terms.proofs.form_parts.distinct_kind.Goals as goal

pub bounds-arguments-0 : goal.bounds-arguments-0
bounds-arguments-0 c =
    let t = c.args.terms.now in
    let k = sorted t.declared t.nodes t.trees c.requires.terms c.args.place operator.Distinct c.args.arguments.now c.sort-sort.result c.requires.within c.requires.node c.sort-sort.ensures in
    let two = two_or_more t.declared t.trees operator.Distinct c.args.arguments.now c.sort-sort.result k k.written in
    omega (arith, two)

pub returns-then-not-is_bool : goal.returns-then-not-is_bool
returns-then-not-is_bool c =
    let t = c.args.terms.now in
    let k = sorted t.declared t.nodes t.trees c.requires.terms c.args.place operator.Distinct c.args.arguments.now c.sort-sort.result c.requires.within c.requires.node c.sort-sort.ensures in
    let two = two_or_more t.declared t.trees operator.Distinct c.args.arguments.now c.sort-sort.result k k.written in
    kind_distinct_others t.declared t.trees c.args.arguments.now c.sort-sort.result c.sort.result k (omega (arith, two)) c.sort.ensures (c.is_bool.ensures.no c.if-not-is_bool.true)

pub returns-then-arguments-eq2 : goal.returns-then-arguments-eq2
returns-then-arguments-eq2 c =
    let t = c.args.terms.now in
    let k = sorted t.declared t.nodes t.trees c.requires.terms c.args.place operator.Distinct c.args.arguments.now c.sort-sort.result c.requires.within c.requires.node c.sort-sort.ensures in
    kind_distinct_two t.declared t.trees c.args.arguments.now c.sort-sort.result c.sort.result k c.if-arguments-eq2.true c.sort.ensures (c.is_bool.ensures.yes c.if-not-is_bool.false)

pub returns-else-arguments-eq2 : goal.returns-else-arguments-eq2
returns-else-arguments-eq2 c =
    let t = c.args.terms.now in
    let k = sorted t.declared t.nodes t.trees c.requires.terms c.args.place operator.Distinct c.args.arguments.now c.sort-sort.result c.requires.within c.requires.node c.sort-sort.ensures in
    kind_distinct_more t.declared t.trees c.args.arguments.now c.sort-sort.result c.sort.result k c.if-arguments-eq2.false c.sort.ensures (c.is_bool.ensures.yes c.if-not-is_bool.false)
