use Rattle.std.proofs.Common.{◌≡◌, true}
use Rattle.smt_meaning.specs.Term.{tree_at}
use Rattle.smt_meaning.specs.Linear.{form_fits, linear_form}
use Rattle.linear_forms.specs.Differences.{LeavesRangeTogether}
use Rattle.pair_bounds.specs.Pairs.{at_most_fits}
use Rattle.theory_combine.proofs.Comparing.{either_left, pair_left}
use Rattle.theory_combine.proofs.pairs.seen_of.Goals as goal

pub returns-in-Term : goal.returns-in-Term
returns-in-Term c =
    either_left c.flat_says_the_same.ensures c.args.parts.now.stack.now c.args.parts.now.marks.items c.requires.parts.2.only c.requires.forms.different c.args.pair.left c.args.pair.right c.requires.left c.requires.right
    c.in-Term.part (rw c.in-Term.is at c.requires.refused)

pub returns-in-Pair : goal.returns-in-Pair
returns-in-Pair c =
    let trees = c.args.parts.now.stack.now.trees in
    let refused : LeavesRangeTogether trees (at_most_fits trees) c.args.pair.left c.args.pair.right = rw c.in-Pair.is at c.requires.refused in
    let form : form_fits (linear_form trees (tree_at trees c.args.pair.left)) ≡ true = c.placed_forms_fit.ensures trees c.args.pair.left c.laws.ensures.numerals refused.left_fits in
    pair_left c.flat_says_the_same.ensures c.args.parts.now.stack.now c.args.parts.now.marks.items c.requires.parts.2.only c.requires.forms.different c.args.pair.left c.args.pair.right c.requires.left c.requires.right
    form refused
