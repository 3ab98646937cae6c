use Rattle.std.proofs.Common.{◌≡◌, ◌<◌, ℕ, true}
use Rattle.smt_meaning.specs.Linear.{folding_fits}
use Rattle.smt_meaning.specs.Term.{tree_at}
use Rattle.model_eval.specs.Walk.{is_marked}
use Rattle.theory_combine.proofs.unfit.unfolded_seen.Given as goal

abbrev pub invariant-loop-place : goal.invariant-loop-place
invariant-loop-place l =
    (q : ℕ) → q < l.place → is_marked l.parts.marks.items q ≡ true → folding_fits l.parts.stack.now.trees (tree_at l.parts.stack.now.trees q) ≡ true
