use Rattle.std.proofs.Common.{rules}
use Rattle.linear_forms.specs.Folding.{form_of}
use Rattle.linear_forms.proofs.FoldLemmas.{form_constant}
use Rattle.pair_bounds.proofs.TurningLemmas.{negated_bits}
use Rattle.proof_terms.proofs.TermBounds.{comparison_folded}
use Rattle.proof_terms.proofs.terms_bounds.undivided.Goals as goal

pub overflow_sub-result : goal.overflow_sub-result
overflow_sub-result c =
    let k = c.in_ok-constant.constant in
    let h = form_constant (form_of c.difference.new.sum.items k) (c.in_ok-constant.ensures.ok c.requires.known.trees c.requires.known.forms).ranges in
    search rules

pub returns-clause-ok : goal.returns-clause-ok
returns-clause-ok c = λ trees h.
    let items = c.difference.new.sum.items in
    let k = c.in_ok-constant.constant in
    let d = c.in_ok-constant.ensures.ok trees h in
    comparison_folded trees c.args.left c.args.right items k _ (negated_bits k (form_constant (form_of items k) d.ranges)) d
