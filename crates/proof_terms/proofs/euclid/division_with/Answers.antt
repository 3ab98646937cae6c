use Rattle.std.proofs.Common.{◌≡◌, ◌<◌, ◌∙◌, length, All, true, false, sym, subst}
use Rattle.std.specs.Prelude.{IfOk}
use Rattle.smt_meaning.specs.declared.terms.Head.{Head}
use Rattle.smt_meaning.specs.declared.terms.Head.TheVariants.{Theory}
use Rattle.smt_meaning.specs.declared.terms.Operator.TheVariants.{Divide, Modulo, Absolute}
use Rattle.proof_meaning.specs.Rules.{HasRows}
use Rattle.proof_terms.specs.EuclidRows.{IsDivisionOrNone}
use Rattle.proof_terms.proofs.EuclidDivisions.{no_operator}
use Rattle.proof_terms.proofs.euclid.division_with.Goals as goal

pub returns-then-is_operator-clause-ok : goal.returns-then-is_operator-clause-ok
returns-then-is_operator-clause-ok c = λ i.
    (let is : c.args.head ≡ Theory Divide = c.is_operator.ensures.0 c.if-is_operator.true in
    subst (λ (h : Head). IfOk c.quotient.result (IsDivisionOrNone c.args.terms.now.trees i h c.args.arguments.now)) (sym is) (c.quotient.ensures.ok i))

pub returns-then-is_operator-2-clause-ok : goal.returns-then-is_operator-2-clause-ok
returns-then-is_operator-2-clause-ok c = λ i.
    (let is : c.args.head ≡ Theory Modulo = c.is_operator-2.ensures.0 c.if-is_operator-2.true in
    subst (λ (h : Head). IfOk c.remainder.result (IsDivisionOrNone c.args.terms.now.trees i h c.args.arguments.now)) (sym is) (c.remainder.ensures.ok i))

pub returns-then-is_operator-3-clause-ok : goal.returns-then-is_operator-3-clause-ok
returns-then-is_operator-3-clause-ok c = λ i.
    (let ts = c.args.terms.now.trees in
    let js = c.args.arguments.now in
    let is : c.args.head ≡ Theory Absolute = c.is_operator-3.ensures.0 c.if-is_operator-3.true in
    let below : All (λ j. j < length ts) js = subst (λ m. All (λ j. j < m) js) (sym c.requires.count) c.requires.arguments in
    subst (λ (h : Head). IsDivisionOrNone ts i h js c.magnitude.result) (sym is) (c.magnitude.ensures ts i below))

pub returns-in-Numeral-clause-ok : goal.returns-in-Numeral-clause-ok
returns-in-Numeral-clause-ok c = λ i. c.divisibility.ensures.ok i _ c.in-Numeral.is

pub returns-in-Theory-clause-ok : goal.returns-in-Theory-clause-ok
returns-in-Theory-clause-ok c = λ i rows has.
    (let ts = c.args.terms.now.trees in
    let o = c.in-Theory.field-0 in
    let is : c.args.head ≡ Theory o = c.in-Theory.is in
    no_operator ts i o c.args.arguments.now rows
    (λ e. let t = c.is_operator.ensures.1 (is ∙ e) in let f = c.if-is_operator.false in let x : true ≡ false = sym t ∙ f in cc)
    (λ e. let t = c.is_operator-2.ensures.1 (is ∙ e) in let f = c.if-is_operator-2.false in let x : true ≡ false = sym t ∙ f in cc)
    (λ e. let t = c.is_operator-3.ensures.1 (is ∙ e) in let f = c.if-is_operator-3.false in let x : true ≡ false = sym t ∙ f in cc)
    (subst (λ (h : Head). HasRows ts i h c.args.arguments.now rows) is has))
