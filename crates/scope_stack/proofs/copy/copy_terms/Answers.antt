use Rattle.scope_stack.proofs.CopyLemmas.{copies_among}
use Rattle.scope_stack.proofs.copy.copy_terms.Goals as goal

pub returns-clause-among : goal.returns-clause-among
returns-clause-among c = copies_among c.args.terms.now.trees c.loop.copies.trees c.args.needed.now.members.items c.loop.invariant.1 c.requires.members
