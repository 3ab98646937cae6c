use Rattle.std.proofs.Common.{refl, take, subst}
use Rattle.std.specs.Prelude.{All}
use Rattle.std.proofs.lemmas.List.{take_all}
use Rattle.std.proofs.lemmas.List.Elements.{All-nil, All-more}
use Rattle.fraction128.specs.declared.Summand.{Summand}
use Rattle.sum_bounds.specs.Written.{HasLeaf}
use Rattle.bound_log.proofs.Growing.{grown_self, grown_through, leaves_kept}
use Rattle.bound_log.specs.Columns.{IsLeafIn}
use Rattle.bound_log.proofs.Columns.{adds_self, adds_through, leaf_added}
use Rattle.bound_log.proofs.Resting.{still_self, still_through}
use Rattle.sum_bounds.proofs.Bases.{bases_same, bases_through}
use Rattle.bound_log.proofs.variables.add_leaves.Goals as goal

pub loop-summand-init : goal.loop-summand-init
loop-summand-init c = (
  grown_self c.args.bounds.now,
  still_self c.args.bounds.now,
  adds_self (IsLeafIn c.args.sum.now) c.args.bounds.now,
  All-nil (λ (p : Summand). HasLeaf c.args.bounds.now.columns p.term),
  bases_same c.args.bounds.now c.args.bounds.now refl,
)

pub loop-summand-preserved : goal.loop-summand-preserved
loop-summand-preserved c =
    let old = c.loop-summand.bounds in
    let new = c.add_leaf.new.bounds in
    let grown = c.add_leaf.ensures.grown in
    let i = c.loop-summand.summand-index in (
      grown_through c.args.bounds.now old new c.loop-summand.invariant.0 grown,
      still_through c.args.bounds.now old new c.loop-summand.invariant.1 c.add_leaf.ensures.still,
      adds_through (IsLeafIn c.args.sum.now) c.args.bounds.now old new c.loop-summand.invariant.2
          (leaf_added c.args.sum.now i _ old new c.loop-summand-test.true c.add_leaf.ensures.sums),
      All-more (λ (p : Summand). HasLeaf new.columns p.term) c.args.sum.now i _ c.loop-summand-test.true
          (leaves_kept old new (take i c.args.sum.now) grown c.loop-summand.invariant.3) c.in_ok-add_leaf.ensures.leaf,
      bases_through c.args.bounds.now old new c.loop-summand.invariant.4 c.add_leaf.ensures.bases,
    )

pub returns-clause-leaves : goal.returns-clause-leaves
returns-clause-leaves c =
    subst (All (λ (p : Summand). HasLeaf c.loop-summand.bounds.columns p.term)) (take_all c.loop-summand.summand-index c.args.sum.now c.loop-summand-test.false) c.loop-summand.invariant.3

pub returns-in_err-add_leaf-clause-sums : goal.returns-in_err-add_leaf-clause-sums
returns-in_err-add_leaf-clause-sums c =
    let old = c.loop-summand.bounds in
    let new = c.add_leaf.new.bounds in
    adds_through (IsLeafIn c.args.sum.now) c.args.bounds.now old new c.loop-summand.invariant.2
    (leaf_added c.args.sum.now c.loop-summand.summand-index _ old new c.loop-summand-test.true c.add_leaf.ensures.sums)

pub returns-clause-sums : goal.returns-clause-sums
returns-clause-sums c = c.loop-summand.invariant.2

pub returns-in_err-add_leaf-clause-bases : goal.returns-in_err-add_leaf-clause-bases
returns-in_err-add_leaf-clause-bases c = bases_through c.args.bounds.now c.loop-summand.bounds c.add_leaf.new.bounds c.loop-summand.invariant.4 c.add_leaf.ensures.bases
