use Rattle.std.proofs.Common.{List, subst, ◌∙◌}
use Rattle.smt_meaning.specs.Stack.{signature_of}
use Rattle.smt_meaning.specs.Term.{Tree}
use Rattle.proof_terms.specs.TermTable.{IsTable}
use Rattle.proof_terms.proofs.terms.Terms.new.Goals as goal

pub invariant_of-result : goal.invariant_of-result
invariant_of-result c =
    subst (λ (hs : List Tree). IsTable (signature_of c.args.stack.now.frames) hs c.new.result) (c.in_ok-held.ensures.same ∙ c.terms.ensures.trees) (c.new.ensures.table (signature_of c.args.stack.now.frames))
