use Rattle.exact_model.proofs.Formed.{numbers_of_forms}
use Rattle.exact_model.proofs.laws.listed_numbers_are_of_forms.Goals as goal

pub returns : goal.returns
returns c = numbers_of_forms
