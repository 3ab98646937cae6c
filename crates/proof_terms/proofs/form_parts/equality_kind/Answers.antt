use Rattle.std.proofs.Common.{arith}
use Rattle.smt_meaning.specs.declared.terms.Operator.TheVariants as operator
use Rattle.proof_terms.proofs.FormTerms.{sorted}
use Rattle.proof_terms.proofs.FormKinds.{two_or_more, kind_equal_bools, kind_equal_others}
use Rattle.proof_terms.proofs.form_parts.equality_kind.Goals as goal

pub bounds-arguments-0 : goal.bounds-arguments-0
bounds-arguments-0 c =
    let t = c.args.terms.now in
    let k = sorted t.declared t.nodes t.trees c.requires.terms c.args.place operator.Equal c.args.arguments.now c.sort-sort.result c.requires.within c.requires.node c.sort-sort.ensures in
    let two = two_or_more t.declared t.trees operator.Equal c.args.arguments.now c.sort-sort.result k k.written in
    omega (arith, two)

pub returns-then-is_bool : goal.returns-then-is_bool
returns-then-is_bool c =
    let t = c.args.terms.now in
    let k = sorted t.declared t.nodes t.trees c.requires.terms c.args.place operator.Equal c.args.arguments.now c.sort-sort.result c.requires.within c.requires.node c.sort-sort.ensures in
    let two = two_or_more t.declared t.trees operator.Equal c.args.arguments.now c.sort-sort.result k k.written in
    kind_equal_bools t.declared t.trees c.args.arguments.now c.sort-sort.result c.sort.result k (omega (arith, two)) c.sort.ensures (c.is_bool.ensures.yes c.if-is_bool.true)

pub returns-else-is_bool : goal.returns-else-is_bool
returns-else-is_bool c =
    let t = c.args.terms.now in
    let k = sorted t.declared t.nodes t.trees c.requires.terms c.args.place operator.Equal c.args.arguments.now c.sort-sort.result c.requires.within c.requires.node c.sort-sort.ensures in
    let two = two_or_more t.declared t.trees operator.Equal c.args.arguments.now c.sort-sort.result k k.written in
    kind_equal_others t.declared t.trees c.args.arguments.now c.sort-sort.result c.sort.result k (omega (arith, two)) c.sort.ensures (c.is_bool.ensures.no c.if-is_bool.false)
