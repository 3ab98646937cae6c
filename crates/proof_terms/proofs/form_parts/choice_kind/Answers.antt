use Rattle.smt_meaning.specs.declared.terms.Operator.TheVariants as operator
use Rattle.proof_terms.proofs.FormTerms.{sorted}
use Rattle.proof_terms.proofs.FormKinds.{kind_choice, kind_no_choice}
use Rattle.proof_terms.proofs.form_parts.choice_kind.Goals as goal

pub returns-then-is_bool : goal.returns-then-is_bool
returns-then-is_bool c =
    let t = c.args.terms.now in
    kind_choice t.declared t.trees c.args.arguments.now c.sort.result
    (sorted t.declared t.nodes t.trees c.requires.terms c.args.place operator.Ite c.args.arguments.now c.sort.result c.requires.within c.requires.node c.sort.ensures) (c.is_bool.ensures.yes c.if-is_bool.true)

pub returns-else-is_bool : goal.returns-else-is_bool
returns-else-is_bool c =
    let t = c.args.terms.now in
    kind_no_choice t.declared t.trees c.args.arguments.now c.sort.result
    (sorted t.declared t.nodes t.trees c.requires.terms c.args.place operator.Ite c.args.arguments.now c.sort.result c.requires.within c.requires.node c.sort.ensures) (c.is_bool.ensures.no c.if-is_bool.false)
