use Rattle.closure_log.proofs.ComparedElements.{comparisons_are_by_class}
use Rattle.closure_log.proofs.by_class.comparisons_are_by_class.Goals as goal

pub returns : goal.returns
returns c = comparisons_are_by_class c.numbers_are_found.ensures c.equality_part_is_decided.ensures c.parts_have_numbers.ensures c.truths_have_numbers.ensures
