use Rattle.std.proofs.Common.{List, Ok, ap, subst, sym, arith, ◌∙◌}
use Rattle.std.specs.Prelude.{All}
use Rattle.std.proofs.lemmas.List.Elements.{All-contains, All-push}
use Rattle.smt_meaning.specs.declared.clauses.Literal.{Literal}
use Rattle.proof_meaning.specs.Proof.{IsLiteral}
use Rattle.proof_meaning.specs.Rules.{differing}
use Rattle.proof_terms.specs.Kept.{AreCodesOf}
use Rattle.proof_terms.proofs.ClausesCodes.{go_on_both}
use Rattle.proof_form.proofs.EqualitiesComes.{differing_more, differs_at, differ_at}
use Rattle.proof_form.proofs.equalities.differing_codes.Goals as goal

pub returns-then-not-branch-clause-other : goal.returns-then-not-branch-clause-other
returns-then-not-branch-clause-other c =
    let t = c.args.terms.now in
    let xs = c.args.left.now in
    let ys = c.args.right.now in
    let i = c.loop-i.i in
    λ e h. c.in_ok-add_same.ensures.other (ap Ok c.if-not-branch.true) (All-contains (IsLiteral t.declared t.trees) (differing xs ys) (differ_at xs ys i) h (differs_at xs ys i (omega arith) c.requires))

pub returns-in_err-add_same-clause-atoms : goal.returns-in_err-add_same-clause-atoms
returns-in_err-add_same-clause-atoms c = go_on_both c.args.clauses.now.atoms c.loop-i.clauses.atoms c.add_same.new.clauses.atoms c.loop-i.invariant.atoms c.add_same.ensures.atoms

pub returns-then-not-branch-clause-atoms : goal.returns-then-not-branch-clause-atoms
returns-then-not-branch-clause-atoms c = go_on_both c.args.clauses.now.atoms c.loop-i.clauses.atoms c.add_same.new.clauses.atoms c.loop-i.invariant.atoms c.add_same.ensures.atoms

pub loop-i-preserved : goal.loop-i-preserved
loop-i-preserved c =
    let t = c.args.terms.now in
    let xs = c.args.left.now in
    let ys = c.args.right.now in
    let i = c.loop-i.i in
    let before = c.loop-i.invariant in
    let more = differing_more xs ys i (omega arith) c.requires in
    let good = c.in_ok-add_same.ensures.literal (ap Ok c.if-not-branch.false) in
    record {
      literals = subst (λ (ls : List Literal). All (IsLiteral t.declared t.trees) ls) (sym more) (All-push (IsLiteral t.declared t.trees) _ (differ_at xs ys i) before.literals good.0);
      codes = subst (λ (ls : List Literal). AreCodesOf c.add_same.new.clauses.atoms c.add_same.new.codes.items ls) (sym more) (good.1 _ before.codes);
      clauses = c.add_same.ensures.clauses ∙ before.clauses;
      atoms = go_on_both c.args.clauses.now.atoms c.loop-i.clauses.atoms c.add_same.new.clauses.atoms before.atoms c.add_same.ensures.atoms;
    }
