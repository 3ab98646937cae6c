use Rattle.std.proofs.Common.{Ok, ap, subst, arith, ◌∙◌}
use Rattle.std.proofs.lemmas.List.Elements.{All-more}
use Rattle.proof_meaning.specs.Proof.{IsLiteral}
use Rattle.proof_terms.proofs.ClausesCodes.{kept_on, go_on_both, code_goes_on, codes_more}
use Rattle.proof_terms.proofs.literals.codes_of.Goals as goal

pub returns-in_err-add_code-clause-atoms : goal.returns-in_err-add_code-clause-atoms
returns-in_err-add_code-clause-atoms c = go_on_both c.args.clauses.now.atoms c.loop-literal.clauses.atoms c.add_code.new.clauses.atoms c.loop-literal.invariant.atoms c.add_code.ensures.atoms

pub returns-in_err-add_code-clause-codes : goal.returns-in_err-add_code-clause-codes
returns-in_err-add_code-clause-codes c = λ n l. code_goes_on c.args.clauses.now.atoms c.add_code.new.clauses.atoms n l (go_on_both c.args.clauses.now.atoms c.loop-literal.clauses.atoms c.add_code.new.clauses.atoms c.loop-literal.invariant.atoms c.add_code.ensures.atoms)

pub returns-in_err-add_code-clause-kept : goal.returns-in_err-add_code-clause-kept
returns-in_err-add_code-clause-kept c =
    let i = c.loop-literal.invariant in
    kept_on c.args.clauses.now c.add_code.new.clauses (go_on_both c.args.clauses.now.atoms c.loop-literal.clauses.atoms c.add_code.new.clauses.atoms i.atoms c.add_code.ensures.atoms) (c.add_code.ensures.clauses ∙ i.clauses)

pub returns-then-not-branch-clause-atoms : goal.returns-then-not-branch-clause-atoms
returns-then-not-branch-clause-atoms c = go_on_both c.args.clauses.now.atoms c.loop-literal.clauses.atoms c.add_code.new.clauses.atoms c.loop-literal.invariant.atoms c.add_code.ensures.atoms

pub returns-then-not-branch-clause-codes : goal.returns-then-not-branch-clause-codes
returns-then-not-branch-clause-codes c = λ n l. code_goes_on c.args.clauses.now.atoms c.add_code.new.clauses.atoms n l (go_on_both c.args.clauses.now.atoms c.loop-literal.clauses.atoms c.add_code.new.clauses.atoms c.loop-literal.invariant.atoms c.add_code.ensures.atoms)

pub returns-then-not-branch-clause-kept : goal.returns-then-not-branch-clause-kept
returns-then-not-branch-clause-kept c =
    let i = c.loop-literal.invariant in
    kept_on c.args.clauses.now c.add_code.new.clauses (go_on_both c.args.clauses.now.atoms c.loop-literal.clauses.atoms c.add_code.new.clauses.atoms i.atoms c.add_code.ensures.atoms) (c.add_code.ensures.clauses ∙ i.clauses)

pub loop-literal-preserved : goal.loop-literal-preserved
loop-literal-preserved c =
    let i = c.loop-literal.invariant in
    let ls = c.args.literals.now in
    let k = c.loop-literal.literal-index in
    let l = c.literal-item.result in
    let good = c.in_ok-add_code.ensures.literal (ap Ok c.if-not-branch.false) in
    record {
      literals = All-more (IsLiteral c.args.terms.now.declared c.args.terms.now.trees) ls k l (omega arith) i.literals (subst (IsLiteral c.args.terms.now.declared c.args.terms.now.trees) c.literal-item.is good.0);
      codes = codes_more c.add_code.new.clauses.atoms c.add_code.new.codes.items ls k l (omega arith) c.literal-item.is (good.1 _ i.codes);
      clauses = c.add_code.ensures.clauses ∙ i.clauses;
      atoms = go_on_both c.args.clauses.now.atoms c.loop-literal.clauses.atoms c.add_code.new.clauses.atoms i.atoms c.add_code.ensures.atoms;
    }

pub returns-clause-kept : goal.returns-clause-kept
returns-clause-kept c = kept_on c.args.clauses.now c.loop-literal.clauses c.loop-literal.invariant.atoms c.loop-literal.invariant.clauses

pub returns-clause-codes : goal.returns-clause-codes
returns-clause-codes c = λ n l. code_goes_on c.args.clauses.now.atoms c.loop-literal.clauses.atoms n l c.loop-literal.invariant.atoms
