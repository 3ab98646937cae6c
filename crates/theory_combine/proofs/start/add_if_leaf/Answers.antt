use Rattle.std.proofs.Common.{rules, ◌≡◌, true, false, pos}
use Rattle.theory_combine.proofs.Beginning.{leaves_none}
use Rattle.theory_combine.proofs.Comparing.{leaf_part}
use Rattle.theory_combine.proofs.Growing.{first_grown}
use Rattle.theory_combine.proofs.Past.{known_leaf}
use Rattle.theory_combine.proofs.Variables.{leaf_grown}
use Rattle.theory_combine.proofs.start.add_if_leaf.Goals as goal

pub returns-then-not-is_marked_leaf-clause-adds : goal.returns-then-not-is_marked_leaf-clause-adds
returns-then-not-is_marked_leaf-clause-adds c = leaves_none c.args.stack.now c.args.bounds.now

pub returns-clause-adds : goal.returns-clause-adds
returns-clause-adds c =
    let s = c.args.stack.now in
    let yes : c.is_marked_leaf.result ≡ true = search rules in
    record {
      knows = c.add_leaf.ensures.stays;
      columns = λ table h.
          known_leaf s table c.args.bounds.now c.add_leaf.new.self c.args.place
          (leaf_part c.flat_says_the_same.ensures s c.args.marks.now c.requires.of_assertions c.requires.different c.args.place (c.is_marked_leaf.ensures.yes yes)) (c.add_leaf.ensures.columns (pos 0)) h;
      basis = first_grown c.args.bounds.now c.add_leaf.new.self c.add_leaf.ensures.variables;
      log = c.add_leaf.ensures.log;
      kept = leaf_grown c.args.bounds.now c.add_leaf.new.self c.add_leaf.ensures.variables;
    }

pub returns-then-not-is_marked_leaf-clause-variable : goal.returns-then-not-is_marked_leaf-clause-variable
returns-then-not-is_marked_leaf-clause-variable c = λ leaf.
    let no : c.is_marked_leaf.result ≡ false = search rules in
    absurd (c.is_marked_leaf.ensures.no no leaf)
