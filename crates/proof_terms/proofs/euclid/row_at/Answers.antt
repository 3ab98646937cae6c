use Rattle.std.proofs.Common.{◌<◌, length, subst}
use Rattle.proof_meaning.specs.Proof.{node_at}
use Rattle.proof_terms.specs.Terms.{ProofTerms}
use Rattle.proof_terms.specs.EuclidRows.{IsDivision, IsDivisionOrNone, IsItsRowOrNone, NumberLeaves, rows_here}
use Rattle.proof_terms.proofs.TermBounds.{if_ok}
use Rattle.proof_terms.proofs.EuclidDivisions.{row_lifted}
use Rattle.proof_terms.proofs.EuclidRanges.{row_leaves, tree_is}
use Rattle.proof_terms.proofs.euclid.row_at.Goals as goal

pub returns-in-Ok-Some-clause-ok : goal.returns-in-Ok-Some-clause-ok
returns-in-Ok-Some-clause-ok c =
    let t = c.args.terms.now in
    let place = c.args.place in
    let n = node_at t.nodes place in
    let d = c.in-Ok-Some.division in
    let division : IsDivision t.trees place n.head n.arguments d = subst (IsDivisionOrNone t.trees place n.head n.arguments) c.in-Ok-Some.field-0-is c.in-Ok-Some.ensures.ok in
    if_ok c.row_of_division.result _ _ c.row_of_division.ensures.ok (λ o s.
    row_lifted t.trees place n.head n.arguments d division c.args.which o (subst (λ (u : ProofTerms). IsItsRowOrNone u.trees place d c.args.which o) c.division_of.ensures.same s))

pub returns-in-Ok-Some-clause-range : goal.returns-in-Ok-Some-clause-range
returns-in-Ok-Some-clause-range c = λ e.
    (let t = c.args.terms.now in
    let place = c.args.place in
    let n = node_at t.nodes place in
    let d = c.in-Ok-Some.division in
    let division : IsDivision t.trees place n.head n.arguments d = subst (IsDivisionOrNone t.trees place n.head n.arguments) c.in-Ok-Some.field-0-is c.in-Ok-Some.ensures.ok in
    let leaves = subst (λ (u : ProofTerms). NumberLeaves u.trees d × (c.args.which < length (rows_here u.trees d place))) c.division_of.ensures.same (c.row_of_division.ensures.range e) in
    row_leaves t.trees place n.head n.arguments d c.args.which division (tree_is t.declared t.nodes t.trees c.len-count.ensures.terms place c.requires) leaves.0 leaves.1)
