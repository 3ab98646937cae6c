use Rattle.std.proofs.Common.{◌≡◌, true, false, sym, subst, ◌∙◌}
use Rattle.proof_form.specs.FarkasSums.{ComeTo}
use Rattle.proof_form.proofs.FarkasForms.{are_multiples}
use Rattle.proof_form.proofs.FarkasJudging.{not_weighted, comes_good, comes_wrong}
use Rattle.proof_form.proofs.farkas.judge_farkas.Goals as goal

pub returns-then-not-are_weighted : goal.returns-then-not-are_weighted
returns-then-not-are_weighted c =
    λ asserted.
    not_weighted c.args.terms.now asserted c.args.clauses.now c.args.clauses.now c.args.weighted.now c.requires
    (λ all. (let e : true ≡ false = sym (c.are_weighted.ensures.1 all) ∙ c.if-not-are_weighted.true in cc))

pub come_to-requires : goal.come_to-requires
come_to-requires c = are_multiples c.args.terms.now.declared c.args.terms.now.trees c.args.weighted.now (c.are_weighted.ensures.0 c.if-not-are_weighted.false) c.requires

pub returns-in_ok-keep_literals-in-Good : goal.returns-in_ok-keep_literals-in-Good
returns-in_ok-keep_literals-in-Good c =
    λ asserted.
    comes_good c.args.terms.now asserted c.args.clauses.now c.keep_literals.new.clauses c.args.weighted.now c.requires (c.are_weighted.ensures.0 c.if-not-are_weighted.false)
    (subst (ComeTo c.args.weighted.now) c.in-Good.is c.in_ok-come_to.ensures) c.in_ok-keep_literals-in-Good.ensures

pub returns-in-Wrong : goal.returns-in-Wrong
returns-in-Wrong c =
    λ asserted. comes_wrong c.args.terms.now asserted c.args.clauses.now c.args.clauses.now c.args.weighted.now c.requires (subst (ComeTo c.args.weighted.now) c.in-Wrong.is c.in_ok-come_to.ensures)
