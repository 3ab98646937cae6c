use Rattle.std.proofs.Common.{◌≡◌, List, take, subst, sym, refl, arith}
use Rattle.std.proofs.lemmas.List.{take_all}
use Rattle.literals.specs.Signed.{Signed}
use Rattle.search_port.specs.Forcing.{HasNoPair}
use Rattle.cdcl_core.proofs.Distinct.{Distinct, distinct-more, distinct-none}
use Rattle.cdcl_core.proofs.own.distinct.Goals as goal

pub loop-literal-init : goal.loop-literal-init
loop-literal-init c = distinct-none c.new-own.result.items c.new-own.ensures.items

pub loop-literal-preserved : goal.loop-literal-preserved
loop-literal-preserved c =
    distinct-more c.as_slice-literals.result.now c.loop-literal.own.items c.join.new.own.items c.loop-literal.literal-index c.literal-item.result (subst HasNoPair (sym c.as_slice-literals.ensures) c.requires) c.loop-literal-test.true
    c.literal-item.is c.loop-literal.invariant c.in_ok-join.ensures

pub returns : goal.returns
returns c =
    let ls : List Signed = c.as_slice-literals.result.now in
    let all : take c.loop-literal.literal-index ls ≡ ls = take_all c.loop-literal.literal-index ls (let end = c.loop-literal-test.false in omega (arith, end)) in
    let done : Distinct c.loop-literal.own.items ls = subst (Distinct c.loop-literal.own.items) all c.loop-literal.invariant in
    let whole : Distinct c.from_vec.result c.args.clause.now.literals = subst (λ (xs : List Signed). Distinct xs c.args.clause.now.literals) (sym c.from_vec.ensures) (subst (Distinct c.loop-literal.own.items) c.as_slice-literals.ensures done) in
    record { level = refl; literals = whole.same; own_atoms = whole.own_atoms }
