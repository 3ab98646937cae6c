use Rattle.std.proofs.Common.{rules, ◌∙◌, ◌+◌, ◌<◌, ◌^◌, [], length, sym, subst}
use Rattle.std.specs.Prelude.{None}
use Rattle.fraction128.specs.Lines.{HasBasis, first_basis}
use Rattle.term_store.specs.Terms.{AreDifferent}
use Rattle.bound_log.specs.Told.{State, column_sums}
use Rattle.bound_log.specs.Pending.{plain_grid}
use Rattle.theory_combine.specs.Columns.{with_leaves, HaveVariables}
use Rattle.theory_combine.specs.Shown.{AreShown}
use Rattle.theory_combine.proofs.Beginning.{asserted_at, sorted_parts, setting, begins_known, begins_shown}
use Rattle.theory_combine.proofs.Sums.{sums_in}
use Rattle.theory_combine.proofs.start.begin_with.Goals as goal

pub returns : goal.returns
returns c =
    let s = c.args.stack.now in
    let table = c.args.atoms.now.atoms in
    let bounds = c.add_leaves.new.bounds in
    let columns = c.add_leaves.ensures.adds.columns table c.requires.columns in
    let few : length s.trees + 2 < 2 ^ 32 = search rules in
    let kept = sym c.in_ok-held.ensures.bounds in
    record {
      parts = sorted_parts s c.args.marks.now c.laws.ensures c.requires.marks table c.requires.atoms c.sorts.result.now c.sorts.ensures;
      readable = λ p m. c.lawful_parts_are_readable.ensures s p c.laws.ensures (c.requires.marks.only p m);
      whole = record {
        setting =
            setting s c.args.marks.now c.laws.ensures c.requires.marks table c.requires.atoms c.sorts.result.now c.sorts.ensures c.truths_are_of_bools.ensures c.symbols_are_declared.ensures c.flat_says_the_same.ensures few;
        marked = c.requires.atoms.over_parts;
        held = c.in_ok-held.ensures.held;
        variables = subst (HaveVariables s c.args.marks.now) kept c.in_ok-add_leaves.ensures.variables;
      };
      log = c.in_ok-held.ensures.log;
      of_assertions = c.requires.marks;
      asserted = asserted_at s c.args.marks.now c.requires.marks;
      shown =
          subst (λ (b : State). AreShown s (column_sums b) [] None table) kept
          (begins_shown c.flat_says_the_same.ensures c.atoms_are_first.ensures s c.args.marks.now table c.laws.ensures c.requires.marks c.requires.atoms (column_sums bounds)
          (begins_known c.flat_says_the_same.ensures c.atoms_are_first.ensures s c.args.marks.now table c.laws.ensures c.requires.marks c.requires.atoms columns.own columns.leaves (column_sums bounds)
          (c.sums_are_apart.ensures bounds c.facts.ensures) (sums_in (with_leaves columns.own table) bounds columns.columns)));
      basis = subst (λ (b : State). HasBasis (first_basis (column_sums b)) (plain_grid b)) kept (c.add_leaves.ensures.adds.basis c.requires.basis);
    }

pub add_leaves-requires : goal.add_leaves-requires
add_leaves-requires c = record {
  parts = sorted_parts c.args.stack.now c.args.marks.now c.laws.ensures c.requires.marks c.args.atoms.now.atoms c.requires.atoms c.sorts.result.now c.sorts.ensures;
  of_assertions = c.requires.marks.only;
  different = subst AreDifferent c.terms.ensures.trees c.len.ensures.different;
}

pub hold_nothing-requires-clause-knows : goal.hold_nothing-requires-clause-knows
hold_nothing-requires-clause-knows c = c.add_leaves.ensures.adds.knows c.args.atoms.now.atoms c.requires.knows

pub hold_nothing-requires-clause-columns : goal.hold_nothing-requires-clause-columns
hold_nothing-requires-clause-columns c = c.add_leaves.ensures.adds.columns c.args.atoms.now.atoms c.requires.columns

pub hold_nothing-requires-clause-log : goal.hold_nothing-requires-clause-log
hold_nothing-requires-clause-log c = c.add_leaves.ensures.adds.log ∙ c.requires.log
