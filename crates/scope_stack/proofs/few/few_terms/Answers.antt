use Rattle.std.proofs.Common.{rules, arith, IfSome, Option, subst}
use Rattle.term_store.specs.Terms.{Terms}
use Rattle.scope_stack.specs.Seen.{AreAllAmong}
use Rattle.scope_stack.proofs.CopyLemmas.{among_given}
use Rattle.scope_stack.proofs.few.few_terms.Goals as goal

pub extend-requires : goal.extend-requires
extend-requires c = record {
  within = omega arith;
  few = search rules;
  facts = search rules;
  levels = search rules;
  given =
      among_given c.args.table.now.given c.args.terms.now.trees c.in-Some.copies.trees
      (subst (λ (found : Option Terms). IfSome found (λ u. AreAllAmong u.trees c.args.terms.now.trees)) c.in-Some.is c.in_ok-copies.ensures.among) c.requires.given;
}
