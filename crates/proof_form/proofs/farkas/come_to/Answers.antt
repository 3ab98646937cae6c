use Rattle.std.proofs.Common.{sym, subst}
use Rattle.proof_form.specs.FarkasSums.{AfterParts}
use Rattle.proof_form.proofs.FarkasDecide.{AreSorted, sorted_entries, outside_parts, outside_leaves, decided}
use Rattle.proof_form.proofs.farkas.come_to.Goals as goal

pub returns-in_default : goal.returns-in_default
returns-in_default c =
    outside_parts c.args.weighted.now c.requires (subst (AfterParts c.args.weighted.now c.new-entries.result.items c.add_parts.new.entries.items) c.in_default.is c.in_ok-constant.ensures)

pub returns-in_default-are_zero : goal.returns-in_default-are_zero
returns-in_default-are_zero c =
    let parts = subst (AfterParts c.args.weighted.now c.new-entries.result.items c.add_parts.new.entries.items) c.in-Some.is c.in_ok-constant.ensures in
    let sorted = sorted_entries c.args.weighted.now c.new-entries.result.items c.add_parts.new.entries.items c.sort_by_leaf.new.entries.items c.new-entries.ensures.items parts.2 c.in_ok-sort_by_leaf.ensures.sorted c.in_ok-sort_by_leaf.ensures.stable in
    outside_leaves c.args.weighted.now c.requires c.as_slice.result.now (subst (AreSorted _) (sym c.as_slice.ensures.value) sorted) c.in_default-are_zero.ensures.none

pub returns : goal.returns
returns c =
    let parts = subst (AfterParts c.args.weighted.now c.new-entries.result.items c.add_parts.new.entries.items) c.in-Some.is c.in_ok-constant.ensures in
    let sorted = sorted_entries c.args.weighted.now c.new-entries.result.items c.add_parts.new.entries.items c.sort_by_leaf.new.entries.items c.new-entries.ensures.items parts.2 c.in_ok-sort_by_leaf.ensures.sorted c.in_ok-sort_by_leaf.ensures.stable in
    decided c.args.weighted.now c.requires c.as_slice.result.now (subst (AreSorted _) (sym c.as_slice.ensures.value) sorted) parts.0 c.in-Some-are_zero.ensures.some.0 c.in-Some-are_zero.zero c.in-Some.constant c.verdict_of.result
    c.in-Some-are_zero.ensures.some.1 parts.1 c.verdict_of.ensures
