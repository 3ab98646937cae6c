use Rattle.std.proofs.Common.{subst, arith}
use Rattle.linear_forms.specs.Table.{AreFormsTo}
use Rattle.linear_forms.specs.Entries.{knowns}
use Rattle.linear_forms.proofs.TableLemmas.{on_ok, length-knowns}
use Rattle.linear_forms.proofs.Growing.{grown, shrunk}
use Rattle.linear_forms.proofs.table.cover.Goals as goal

pub add_all-requires-clause-forms : goal.add_all-requires-clause-forms
add_all-requires-clause-forms g c =
    subst (λ n. AreFormsTo c.args.store.now.trees n (knowns c.args.all.now.items c.args.entries.now.items)) (length-knowns c.args.all.now.items c.args.entries.now.items)
    (grown c.args.store.now.trees (knowns c.args.all.now.items c.args.entries.now.items) c.len-known.ensures.different c.requires.forms)

pub returns-clause-kept : goal.returns-clause-kept
returns-clause-kept g c =
    shrunk c.args.store.now.trees (knowns c.add_all.new.all.items c.add_all.new.entries.items) c.len-known.ensures.different c.add_all.ensures.kept.within c.add_all.ensures.kept.forms

pub returns-clause-ok : goal.returns-clause-ok
returns-clause-ok g c =
    let before = length-knowns c.args.all.now.items c.args.entries.now.items in
    let now = length-knowns c.add_all.new.all.items c.add_all.new.entries.items in
    on_ok c.add_all.result _ _ c.add_all.ensures.ok (λ e. omega (arith, before, now, e))

pub returns-clause-few : goal.returns-clause-few
returns-clause-few g c =
    let before = length-knowns c.args.all.now.items c.args.entries.now.items in
    let few = c.add_all.ensures.few in
    omega arith

pub returns-clause-counted : goal.returns-clause-counted
returns-clause-counted g c =
    let before = length-knowns c.args.all.now.items c.args.entries.now.items in
    let now = length-knowns c.add_all.new.all.items c.add_all.new.entries.items in
    on_ok c.add_all.result _ _ c.add_all.ensures.counted (λ e. omega (arith, before, now, e))

pub returns-clause-each : goal.returns-clause-each
returns-clause-each g c =
    let before = length-knowns c.args.all.now.items c.args.entries.now.items in
    let now = length-knowns c.add_all.new.all.items c.add_all.new.entries.items in
    let each = c.add_all.ensures.each in
    omega arith
