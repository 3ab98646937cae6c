use Rattle.std.proofs.Common.{◌≡◌, ℕ, ◌<◌, ◌≤◌, List, length, true, ap, arith, below_more}
use Rattle.smt_meaning.specs.Linear.{folding_fits}
use Rattle.smt_meaning.specs.Term.{Tree, tree_at}
use Rattle.model_eval.specs.Walk.{is_marked}
use Rattle.theory_combine.proofs.Fitting.{in_list}
use Rattle.theory_combine.proofs.unfit.unfolded_seen.Goals as goal

pub loop-place-preserved : goal.loop-place-preserved
loop-place-preserved c =
    let ts = c.args.parts.now.stack.now.trees in
    below_more (λ (q : ℕ). is_marked c.args.parts.now.marks.items q ≡ true → folding_fits ts (tree_at ts q) ≡ true) c.loop-place.place c.loop-place.invariant c.in-None.ensures.none

pub returns-clause-none : goal.returns-clause-none
returns-clause-none c = λ q m.
    let s = c.args.parts.now.stack.now in
    let past : length s.trees ≤ c.loop-place.place = omega (arith, c.len-place-end.ensures.value, ap (λ (ts : List Tree). length ts) c.terms.ensures.trees) in
    let less : q < length s.trees = in_list s c.args.parts.now.marks.items q c.requires.parts.0 m in
    c.loop-place.invariant q (omega arith) m
