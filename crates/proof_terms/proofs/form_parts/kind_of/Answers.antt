use Rattle.std.proofs.Common.{subst}
use Rattle.smt_meaning.specs.declared.terms.Operator.TheVariants as operator
use Rattle.proof_terms.specs.declared.form_values.Connective.TheVariants as connective
use Rattle.proof_terms.specs.declared.form_parts.Relation.TheVariants as relation
use Rattle.proof_terms.specs.declared.form_parts.Kind.TheVariants.{Bools, Neighbours, NoParts}
use Rattle.proof_terms.specs.FormParts.{IsOperation}
use Rattle.proof_terms.proofs.FormTerms.{sorted}
use Rattle.proof_terms.proofs.FormKinds.{by_name, kind_true, kind_false, kind_not, kind_and, kind_or, kind_xor, kind_implies, kind_at_most, kind_less, kind_at_least, kind_greater, kind_add, kind_subtract, kind_multiply, kind_divide, kind_modulo, kind_absolute, kind_divisible}
use Rattle.proof_terms.proofs.form_parts.kind_of.Goals as goal

pub equality_kind-requires : goal.equality_kind-requires
equality_kind-requires c = subst (λ o. IsOperation c.args.terms.now c.args.place o c.args.arguments.now) c.in-Equal.is c.requires

pub distinct_kind-requires : goal.distinct_kind-requires
distinct_kind-requires c = subst (λ o. IsOperation c.args.terms.now c.args.place o c.args.arguments.now) c.in-Distinct.is c.requires

pub choice_kind-requires : goal.choice_kind-requires
choice_kind-requires c = subst (λ o. IsOperation c.args.terms.now c.args.place o c.args.arguments.now) c.in-Ite.is c.requires

pub returns-in-True : goal.returns-in-True
returns-in-True c =
    let t = c.args.terms.now in
    by_name t.declared t.trees operator.True c.args.operator c.args.arguments.now c.sort-sort.result (Bools connective.And) c.in-True.is (kind_true t.declared t.trees c.args.arguments.now c.sort-sort.result)
    (sorted t.declared t.nodes t.trees c.requires.terms c.args.place c.args.operator c.args.arguments.now c.sort-sort.result c.requires.within c.requires.node c.sort-sort.ensures)

pub returns-in-False : goal.returns-in-False
returns-in-False c =
    let t = c.args.terms.now in
    by_name t.declared t.trees operator.False c.args.operator c.args.arguments.now c.sort-sort.result (Bools connective.Or) c.in-False.is (kind_false t.declared t.trees c.args.arguments.now c.sort-sort.result)
    (sorted t.declared t.nodes t.trees c.requires.terms c.args.place c.args.operator c.args.arguments.now c.sort-sort.result c.requires.within c.requires.node c.sort-sort.ensures)

pub returns-in-Not : goal.returns-in-Not
returns-in-Not c =
    let t = c.args.terms.now in
    by_name t.declared t.trees operator.Not c.args.operator c.args.arguments.now c.sort-sort.result (Bools connective.Nor) c.in-Not.is (kind_not t.declared t.trees c.args.arguments.now c.sort-sort.result)
    (sorted t.declared t.nodes t.trees c.requires.terms c.args.place c.args.operator c.args.arguments.now c.sort-sort.result c.requires.within c.requires.node c.sort-sort.ensures)

pub returns-in-And : goal.returns-in-And
returns-in-And c =
    let t = c.args.terms.now in
    by_name t.declared t.trees operator.And c.args.operator c.args.arguments.now c.sort-sort.result (Bools connective.And) c.in-And.is (kind_and t.declared t.trees c.args.arguments.now c.sort-sort.result)
    (sorted t.declared t.nodes t.trees c.requires.terms c.args.place c.args.operator c.args.arguments.now c.sort-sort.result c.requires.within c.requires.node c.sort-sort.ensures)

pub returns-in-Or : goal.returns-in-Or
returns-in-Or c =
    let t = c.args.terms.now in
    by_name t.declared t.trees operator.Or c.args.operator c.args.arguments.now c.sort-sort.result (Bools connective.Or) c.in-Or.is (kind_or t.declared t.trees c.args.arguments.now c.sort-sort.result)
    (sorted t.declared t.nodes t.trees c.requires.terms c.args.place c.args.operator c.args.arguments.now c.sort-sort.result c.requires.within c.requires.node c.sort-sort.ensures)

pub returns-in-Xor : goal.returns-in-Xor
returns-in-Xor c =
    let t = c.args.terms.now in
    by_name t.declared t.trees operator.Xor c.args.operator c.args.arguments.now c.sort-sort.result (Bools connective.Xor) c.in-Xor.is (kind_xor t.declared t.trees c.args.arguments.now c.sort-sort.result)
    (sorted t.declared t.nodes t.trees c.requires.terms c.args.place c.args.operator c.args.arguments.now c.sort-sort.result c.requires.within c.requires.node c.sort-sort.ensures)

pub returns-in-Implies : goal.returns-in-Implies
returns-in-Implies c =
    let t = c.args.terms.now in
    by_name t.declared t.trees operator.Implies c.args.operator c.args.arguments.now c.sort-sort.result (Bools connective.Implies) c.in-Implies.is (kind_implies t.declared t.trees c.args.arguments.now c.sort-sort.result)
    (sorted t.declared t.nodes t.trees c.requires.terms c.args.place c.args.operator c.args.arguments.now c.sort-sort.result c.requires.within c.requires.node c.sort-sort.ensures)

pub returns-in-AtMost : goal.returns-in-AtMost
returns-in-AtMost c =
    let t = c.args.terms.now in
    by_name t.declared t.trees operator.AtMost c.args.operator c.args.arguments.now c.sort-sort.result (Neighbours relation.AtMost) c.in-AtMost.is (kind_at_most t.declared t.trees c.args.arguments.now c.sort-sort.result)
    (sorted t.declared t.nodes t.trees c.requires.terms c.args.place c.args.operator c.args.arguments.now c.sort-sort.result c.requires.within c.requires.node c.sort-sort.ensures)

pub returns-in-Less : goal.returns-in-Less
returns-in-Less c =
    let t = c.args.terms.now in
    by_name t.declared t.trees operator.Less c.args.operator c.args.arguments.now c.sort-sort.result (Neighbours relation.Less) c.in-Less.is (kind_less t.declared t.trees c.args.arguments.now c.sort-sort.result)
    (sorted t.declared t.nodes t.trees c.requires.terms c.args.place c.args.operator c.args.arguments.now c.sort-sort.result c.requires.within c.requires.node c.sort-sort.ensures)

pub returns-in-AtLeast : goal.returns-in-AtLeast
returns-in-AtLeast c =
    let t = c.args.terms.now in
    by_name t.declared t.trees operator.AtLeast c.args.operator c.args.arguments.now c.sort-sort.result (Neighbours relation.AtLeast) c.in-AtLeast.is (kind_at_least t.declared t.trees c.args.arguments.now c.sort-sort.result)
    (sorted t.declared t.nodes t.trees c.requires.terms c.args.place c.args.operator c.args.arguments.now c.sort-sort.result c.requires.within c.requires.node c.sort-sort.ensures)

pub returns-in-Greater : goal.returns-in-Greater
returns-in-Greater c =
    let t = c.args.terms.now in
    by_name t.declared t.trees operator.Greater c.args.operator c.args.arguments.now c.sort-sort.result (Neighbours relation.Greater) c.in-Greater.is (kind_greater t.declared t.trees c.args.arguments.now c.sort-sort.result)
    (sorted t.declared t.nodes t.trees c.requires.terms c.args.place c.args.operator c.args.arguments.now c.sort-sort.result c.requires.within c.requires.node c.sort-sort.ensures)

pub returns-in-Add : goal.returns-in-Add
returns-in-Add c =
    let t = c.args.terms.now in
    by_name t.declared t.trees operator.Add c.args.operator c.args.arguments.now c.sort-sort.result (NoParts) c.in-Add.is (kind_add t.declared t.trees c.args.arguments.now c.sort-sort.result)
    (sorted t.declared t.nodes t.trees c.requires.terms c.args.place c.args.operator c.args.arguments.now c.sort-sort.result c.requires.within c.requires.node c.sort-sort.ensures)

pub returns-in-Subtract : goal.returns-in-Subtract
returns-in-Subtract c =
    let t = c.args.terms.now in
    by_name t.declared t.trees operator.Subtract c.args.operator c.args.arguments.now c.sort-sort.result (NoParts) c.in-Subtract.is (kind_subtract t.declared t.trees c.args.arguments.now c.sort-sort.result)
    (sorted t.declared t.nodes t.trees c.requires.terms c.args.place c.args.operator c.args.arguments.now c.sort-sort.result c.requires.within c.requires.node c.sort-sort.ensures)

pub returns-in-Multiply : goal.returns-in-Multiply
returns-in-Multiply c =
    let t = c.args.terms.now in
    by_name t.declared t.trees operator.Multiply c.args.operator c.args.arguments.now c.sort-sort.result (NoParts) c.in-Multiply.is (kind_multiply t.declared t.trees c.args.arguments.now c.sort-sort.result)
    (sorted t.declared t.nodes t.trees c.requires.terms c.args.place c.args.operator c.args.arguments.now c.sort-sort.result c.requires.within c.requires.node c.sort-sort.ensures)

pub returns-in-Divide : goal.returns-in-Divide
returns-in-Divide c =
    let t = c.args.terms.now in
    by_name t.declared t.trees operator.Divide c.args.operator c.args.arguments.now c.sort-sort.result (NoParts) c.in-Divide.is (kind_divide t.declared t.trees c.args.arguments.now c.sort-sort.result)
    (sorted t.declared t.nodes t.trees c.requires.terms c.args.place c.args.operator c.args.arguments.now c.sort-sort.result c.requires.within c.requires.node c.sort-sort.ensures)

pub returns-in-Modulo : goal.returns-in-Modulo
returns-in-Modulo c =
    let t = c.args.terms.now in
    by_name t.declared t.trees operator.Modulo c.args.operator c.args.arguments.now c.sort-sort.result (NoParts) c.in-Modulo.is (kind_modulo t.declared t.trees c.args.arguments.now c.sort-sort.result)
    (sorted t.declared t.nodes t.trees c.requires.terms c.args.place c.args.operator c.args.arguments.now c.sort-sort.result c.requires.within c.requires.node c.sort-sort.ensures)

pub returns-in-Absolute : goal.returns-in-Absolute
returns-in-Absolute c =
    let t = c.args.terms.now in
    by_name t.declared t.trees operator.Absolute c.args.operator c.args.arguments.now c.sort-sort.result (NoParts) c.in-Absolute.is (kind_absolute t.declared t.trees c.args.arguments.now c.sort-sort.result)
    (sorted t.declared t.nodes t.trees c.requires.terms c.args.place c.args.operator c.args.arguments.now c.sort-sort.result c.requires.within c.requires.node c.sort-sort.ensures)

pub returns-in-Divisible : goal.returns-in-Divisible
returns-in-Divisible c =
    let t = c.args.terms.now in
    by_name t.declared t.trees operator.Divisible c.args.operator c.args.arguments.now c.sort-sort.result (NoParts) c.in-Divisible.is (kind_divisible t.declared t.trees c.args.arguments.now c.sort-sort.result)
    (sorted t.declared t.nodes t.trees c.requires.terms c.args.place c.args.operator c.args.arguments.now c.sort-sort.result c.requires.within c.requires.node c.sort-sort.ensures)
