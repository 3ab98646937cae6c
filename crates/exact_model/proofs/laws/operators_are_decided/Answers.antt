use Rattle.exact_model.proofs.DecidedParts.{operators_decided}
use Rattle.exact_model.proofs.laws.operators_are_decided.Goals as goal

pub returns : goal.returns
returns c =
    operators_decided c.numbers_are_found.ensures c.parts_have_numbers.ensures c.order_part_is_decided.ensures c.equality_part_is_decided.ensures c.choice_part_is_decided.ensures
    c.division_part_is_decided.ensures
