use Rattle.std.proofs.Common.{◌∙◌, length, sym, ap, subst}
use Rattle.fraction128.specs.Whole.{InRange}
use Rattle.fraction128.proofs.Integers.{same_bits}
use Rattle.smt_meaning.specs.declared.clauses.Atom.{Atom}
use Rattle.smt_meaning.specs.declared.clauses.Atom.TheVariants.{AtMost}
use Rattle.theory_combine.specs.Pairs.{IsSought}
use Rattle.theory_combine.proofs.Fitting.{proper_sum}
use Rattle.theory_combine.proofs.pairs.seek.Goals as goal

pub look_up-requires-clause-proper : goal.look_up-requires-clause-proper
look_up-requires-clause-proper c =
    let found = c.in-Ok.ensures.ok c.args.parts.now.stack.now.trees c.requires.forms in
    proper_sum 0 (length c.args.parts.now.stack.now.trees) c.at_most.new.sum.items found.bound.is_sum found.bound.coefficients

pub look_up-requires-clause-in_range : goal.look_up-requires-clause-in_range
look_up-requires-clause-in_range c =
    let found = c.in-Ok.ensures.ok c.args.parts.now.stack.now.trees c.requires.forms in
    subst InRange (sym (same_bits c.in-Ok.threshold found.bound.in_range)) found.bound.in_range

pub returns-in-Ok-clause-sought : goal.returns-in-Ok-clause-sought
returns-in-Ok-clause-sought c =
    let found = c.in-Ok.ensures.ok c.args.parts.now.stack.now.trees c.requires.forms in
    subst (λ (a : Atom). IsSought c.args.atoms.now.atoms a c.look_up.result) (ap (AtMost c.at_most.new.sum.items) (same_bits c.in-Ok.threshold found.bound.in_range) ∙ found.bound.atom) c.look_up.ensures.sought

pub returns-in-Ok-clause-refused : goal.returns-in-Ok-clause-refused
returns-in-Ok-clause-refused c = c.look_up.ensures.refused c.args.parts.now.stack.now.trees c.args.left c.args.right

pub returns-in-Err-clause-refused : goal.returns-in-Err-clause-refused
returns-in-Err-clause-refused c = c.in-Err.ensures.err c.args.parts.now.stack.now.trees c.requires.forms
