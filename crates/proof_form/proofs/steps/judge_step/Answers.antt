use Rattle.std.proofs.Common.{List, sym, ap, ◌∙◌}
use Rattle.smt_meaning.specs.declared.clauses.Literal.{Literal}
use Rattle.proof_meaning.specs.declared.proof.Step.TheVariants as Rule
use Rattle.proof_meaning.specs.declared.proof.Weighted.{Weighted}
use Rattle.proof_form.specs.Asserted.{asserted_at}
use Rattle.proof_form.proofs.Going.{as_step}
use Rattle.proof_form.proofs.steps.judge_step.Goals as goal

pub returns-in-Form-clause-comes : goal.returns-in-Form-clause-comes
returns-in-Form-clause-comes c =
    as_step c.args.terms.now (asserted_at c.args.terms.now.held c.args.asserted.now) c.args.clauses.now c.judge_form.new.clauses _ _ c.judge_form.result (c.in-Form.is ∙ ap (λ (ls : List Literal). Rule.Form c.in-Form.place ls) (sym c.as_slice.ensures))
    (c.judge_form.ensures.comes (asserted_at c.args.terms.now.held c.args.asserted.now))

pub returns-in-Pick-clause-comes : goal.returns-in-Pick-clause-comes
returns-in-Pick-clause-comes c =
    as_step c.args.terms.now (asserted_at c.args.terms.now.held c.args.asserted.now) c.args.clauses.now c.judge_pick.new.clauses _ _ c.judge_pick.result (c.in-Pick.is)
    (c.judge_pick.ensures (asserted_at c.args.terms.now.held c.args.asserted.now))

pub returns-in-Euclid-clause-comes : goal.returns-in-Euclid-clause-comes
returns-in-Euclid-clause-comes c =
    as_step c.args.terms.now (asserted_at c.args.terms.now.held c.args.asserted.now) c.args.clauses.now c.judge_euclid.new.clauses _ _ c.judge_euclid.result (c.in-Euclid.is)
    (c.judge_euclid.ensures.comes (asserted_at c.args.terms.now.held c.args.asserted.now))

pub returns-in-Refl-clause-comes : goal.returns-in-Refl-clause-comes
returns-in-Refl-clause-comes c =
    as_step c.args.terms.now (asserted_at c.args.terms.now.held c.args.asserted.now) c.args.clauses.now c.judge_refl.new.clauses _ _ c.judge_refl.result (c.in-Refl.is)
    (c.judge_refl.ensures (asserted_at c.args.terms.now.held c.args.asserted.now))

pub returns-in-Sym-clause-comes : goal.returns-in-Sym-clause-comes
returns-in-Sym-clause-comes c =
    as_step c.args.terms.now (asserted_at c.args.terms.now.held c.args.asserted.now) c.args.clauses.now c.judge_sym.new.clauses _ _ c.judge_sym.result (c.in-Sym.is)
    (c.judge_sym.ensures (asserted_at c.args.terms.now.held c.args.asserted.now))

pub returns-in-Trans-clause-comes : goal.returns-in-Trans-clause-comes
returns-in-Trans-clause-comes c =
    as_step c.args.terms.now (asserted_at c.args.terms.now.held c.args.asserted.now) c.args.clauses.now c.judge_trans.new.clauses _ _ c.judge_trans.result (c.in-Trans.is)
    (c.judge_trans.ensures (asserted_at c.args.terms.now.held c.args.asserted.now))

pub returns-in-Cong-clause-comes : goal.returns-in-Cong-clause-comes
returns-in-Cong-clause-comes c =
    as_step c.args.terms.now (asserted_at c.args.terms.now.held c.args.asserted.now) c.args.clauses.now c.judge_cong.new.clauses _ _ c.judge_cong.result (c.in-Cong.is)
    (c.judge_cong.ensures (asserted_at c.args.terms.now.held c.args.asserted.now))

pub returns-in-Truth-clause-comes : goal.returns-in-Truth-clause-comes
returns-in-Truth-clause-comes c =
    as_step c.args.terms.now (asserted_at c.args.terms.now.held c.args.asserted.now) c.args.clauses.now c.judge_truth.new.clauses _ _ c.judge_truth.result (c.in-Truth.is)
    (c.judge_truth.ensures (asserted_at c.args.terms.now.held c.args.asserted.now))

pub returns-in-Both-clause-comes : goal.returns-in-Both-clause-comes
returns-in-Both-clause-comes c =
    as_step c.args.terms.now (asserted_at c.args.terms.now.held c.args.asserted.now) c.args.clauses.now c.judge_both.new.clauses _ _ c.judge_both.result (c.in-Both.is)
    (c.judge_both.ensures (asserted_at c.args.terms.now.held c.args.asserted.now))

pub returns-in-Neither-clause-comes : goal.returns-in-Neither-clause-comes
returns-in-Neither-clause-comes c =
    as_step c.args.terms.now (asserted_at c.args.terms.now.held c.args.asserted.now) c.args.clauses.now c.judge_neither.new.clauses _ _ c.judge_neither.result (c.in-Neither.is)
    (c.judge_neither.ensures (asserted_at c.args.terms.now.held c.args.asserted.now))

pub returns-in-Link-clause-comes : goal.returns-in-Link-clause-comes
returns-in-Link-clause-comes c =
    as_step c.args.terms.now (asserted_at c.args.terms.now.held c.args.asserted.now) c.args.clauses.now c.judge_link.new.clauses _ _ c.judge_link.result (c.in-Link.is)
    (c.judge_link.ensures.comes (asserted_at c.args.terms.now.held c.args.asserted.now))

pub returns-in-Round-clause-comes : goal.returns-in-Round-clause-comes
returns-in-Round-clause-comes c =
    as_step c.args.terms.now (asserted_at c.args.terms.now.held c.args.asserted.now) c.args.clauses.now c.judge_round.new.clauses _ _ c.judge_round.result (c.in-Round.is)
    (c.judge_round.ensures (asserted_at c.args.terms.now.held c.args.asserted.now))

pub returns-in-Farkas-clause-comes : goal.returns-in-Farkas-clause-comes
returns-in-Farkas-clause-comes c =
    as_step c.args.terms.now (asserted_at c.args.terms.now.held c.args.asserted.now) c.args.clauses.now c.judge_farkas.new.clauses _ _ c.judge_farkas.result (c.in-Farkas.is ∙ ap (λ (ws : List Weighted). Rule.Farkas ws) (sym c.as_slice-in-Farkas.ensures))
    (c.judge_farkas.ensures (asserted_at c.args.terms.now.held c.args.asserted.now))

pub returns-in-Res-clause-comes : goal.returns-in-Res-clause-comes
returns-in-Res-clause-comes c =
    as_step c.args.terms.now (asserted_at c.args.terms.now.held c.args.asserted.now) c.args.clauses.now c.judge_resolution.new.clauses _ _ c.judge_resolution.result (c.in-Res.is)
    (c.judge_resolution.ensures (asserted_at c.args.terms.now.held c.args.asserted.now))
