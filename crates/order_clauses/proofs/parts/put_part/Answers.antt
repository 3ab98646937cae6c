use Rattle.std.proofs.Common.{Contains, All}
use Rattle.std.proofs.lemmas.Result.{IfOk-weaker}
use Rattle.order_clauses.specs.Clauses.{part_clauses_of}
use Rattle.order_clauses.specs.Needed.{atoms_of_part}
use Rattle.order_clauses.specs.Sound.{AreSound}
use Rattle.order_clauses.proofs.PartSoundness.{Laws, part_sound}
use Rattle.order_clauses.proofs.parts.put_part.Goals as goal

pub returns-clause-sound : goal.returns-clause-sound
returns-clause-sound g c = λ ds sorted readable.
    let table = c.args.atoms.now.atoms in
    let laws : Laws =
    record {
      value_sort = c.value_has_its_sort.ensures;
      constant_over = c.constant_is_over.ensures;
      constant_value = c.constant_has_value.ensures;
      order_over = c.order_is_over.ensures;
      order_true = c.order_clauses_are_true.ensures;
      equality_over = c.equality_is_over.ensures;
      equality_true = c.equality_clauses_are_true.ensures;
      comparison_over = c.comparison_is_over.ensures;
      comparison_tied = c.comparison_is_tied.ensures;
      agrees = c.interpretation_agrees.ensures;
      choice_over = c.choice_is_over.ensures;
      choice_tied = c.choice_is_tied.ensures;
      rows_atoms = c.rows_are_atoms.ensures;
      rows_of_term = c.rows_are_of_the_term.ensures.places;
      form_value = c.linear_form_has_value.ensures;
      limit_value = c.limits_have_values.ensures.places;
      rows_hold = c.divisions_stand_by_places.ensures.hold;
    } in
    IfOk-weaker c.put.result (λ _. All (Contains table) (atoms_of_part c.args.sorts.now g.trees c.args.operator c.args.place c.args.arguments.now))
    (λ _. AreSound ds g.trees table (part_clauses_of c.args.sorts.now g.trees table c.args.operator c.args.place c.args.arguments.now))
    (λ _ has. part_sound laws ds g.trees table c.args.sorts.now c.args.operator c.args.place c.args.arguments.now c.requires.1.1.0 sorted readable has) c.put.ensures.has
