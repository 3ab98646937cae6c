use Rattle.check_atoms.proofs.AssertedTerms.{asserted_there, not_asserted}
use Rattle.check_atoms.proofs.asserted.is_asserted.Goals as goal

pub returns-clause-yes : goal.returns-clause-yes
returns-clause-yes c = λ e. let found = c.has_term.ensures.yes e in asserted_there c.args.stack.now c.assertions.result.now c.args.place c.assertions.ensures found.0 found.1 found.2

pub returns-clause-no : goal.returns-clause-no
returns-clause-no c = λ e. not_asserted c.args.stack.now c.assertions.result.now c.args.place c.laws.ensures c.requires c.assertions.ensures (c.has_term.ensures.no e)
