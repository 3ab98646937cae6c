use Rattle.std.proofs.Common.{List, [], length, All, subst}
use Rattle.std.specs.Prelude.{slice_index_or}
use Rattle.smt_meaning.specs.declared.clauses.Summand.{Summand}
use Rattle.smt_meaning.specs.declared.clauses.Atom.TheVariants.{Truth}
use Rattle.check_atoms.specs.Numbering.{IsNormal, IsNormalBound}
use Rattle.bound_log.specs.Growth.{IsProper}
use Rattle.theory_combine.proofs.Fitting.{proper_sum}
use Rattle.theory_combine.proofs.start.learn.Goals as goal

pub know_bound-requires-clause-sum : goal.know_bound-requires-clause-sum
know_bound-requires-clause-sum c =
    let normal : IsNormalBound (length c.args.stack.now.trees) (slice_index_or c.args.atoms.now.sums c.in-Bound.bound.sum []) c.in-Bound.bound.threshold =
    subst (IsNormal (length c.args.stack.now.trees)) (c.in-Bound.ensures.atom.1 (Truth 0)) (c.requires.normal c.args.number (Truth 0) c.in-Bound.ensures.atom.0) in
    subst (λ (ps : List Summand). All IsProper ps) (c.sum.ensures.1 [])
    (proper_sum 0 (length c.args.stack.now.trees) (slice_index_or c.args.atoms.now.sums c.in-Bound.bound.sum []) normal.is_sum normal.coefficients)
