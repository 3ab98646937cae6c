use Rattle.std.proofs.Common.{[], sym, subst, to_z, of_z, ◌+◌}
use Rattle.std.proofs.lemmas.Result.{IfOk-weaker}
use Rattle.std.specs.Int.{w128}
use Rattle.fraction128.proofs.Integers.{same_bits}
use Rattle.smt_meaning.specs.declared.clauses.Atom.TheVariants.{AtMost}
use Rattle.atom_form.specs.AtomTableNumbers.{IsAt}
use Rattle.order_clauses.specs.Axioms.{BoundFits}
use Rattle.order_clauses.specs.Gathered.{AreGathered, AddsLink}
use Rattle.order_clauses.proofs.Gathering.{skip_truth, skip_same, add}
use Rattle.order_clauses.proofs.gather.add_atom.Goals as goal

pub add_bound-requires : goal.add_bound-requires
add_bound-requires c =
    let k = c.in-Bound.bound.threshold in
    let at : IsAt c.args.atoms.now.atoms c.args.number (AtMost c.sum-sum.result.now k) =
    subst (λ s. IsAt c.args.atoms.now.atoms c.args.number (AtMost s k)) (c.sum-sum.ensures.1 []) c.in-Bound.ensures.atom in
    let fits : BoundFits c.sum-sum.result.now k = c.requires.fits c.args.number c.sum-sum.result.now k at in
    subst (BoundFits c.sum-sum.result.now) (sym (same_bits k fits.in_range)) fits

pub returns-in-Truth : goal.returns-in-Truth
returns-in-Truth c = skip_truth c.args.atoms.now.atoms c.args.number c.args.sums.now c.args.links.now.items c.in-Truth.field-0 c.in-Truth.ensures.atom c.requires.gathered

pub returns-in-Same : goal.returns-in-Same
returns-in-Same c = skip_same c.args.atoms.now.atoms c.args.number c.args.sums.now c.args.links.now.items c.in-Same.field-0 c.in-Same.field-1 c.in-Same.ensures.atom c.requires.gathered

pub returns-in-Bound : goal.returns-in-Bound
returns-in-Bound c =
    let k = c.in-Bound.bound.threshold in
    let z = to_z w128 (of_z w128 k) in
    let table = c.args.atoms.now.atoms in
    let n = c.args.number in
    let sum = c.sum-sum.result.now in
    let at : IsAt table n (AtMost sum k) = subst (λ s. IsAt table n (AtMost s k)) (c.sum-sum.ensures.1 []) c.in-Bound.ensures.atom in
    let there : IsAt table n (AtMost sum z) = subst (λ t. IsAt table n (AtMost sum t)) (sym (same_bits k (c.requires.fits n sum k at).in_range)) at in
    IfOk-weaker c.add_bound.result (λ _. AddsLink c.args.sums.now c.add_bound.new.sums c.args.links.now.items c.add_bound.new.links.items sum z n) (λ _. AreGathered table (n + 1) c.add_bound.new.sums c.add_bound.new.links.items)
    (λ _ h. add table n c.args.sums.now c.add_bound.new.sums c.args.links.now.items c.add_bound.new.links.items sum z there h c.requires.gathered) c.add_bound.ensures
