use Rattle.std.proofs.Common.{◌≡◌, List, subst, sym}
use Rattle.std.specs.Prelude.{Result, Ok, Err, IfOk}
use Rattle.smt_meaning.specs.declared.values.Table.{Table}
use Rattle.smt_meaning.specs.Interpretation.{AreTablesFor}
use Rattle.model_build.specs.Building.{GiveValues}
use Rattle.model_build.specs.Filling.{tables_of}
use Rattle.model_build.proofs.Meanings.{tables_are, give_values}
use Rattle.model_build.proofs.tables_from.Goals as goal

on_ok : {X E : Type 0} (r : Result X E) (P Q : X → Type 0) → ((x : X) → P x → Q x) → IfOk r P → IfOk r Q
on_ok (Ok x) P Q k h = k x h
on_ok (Err e) P Q k h = h

pub returns-clause-tables : goal.returns-clause-tables
returns-clause-tables c =
    let ds = c.args.declarations.now in
    let ts = c.args.store.now.trees in
    let gs = c.args.given.now in
    let ps = c.args.firsts.now in
    on_ok c.tables_of.result (λ (x : List Table). x ≡ tables_of ts gs ps ds) (λ (x : List Table). AreTablesFor ds x)
    (λ x e. subst (λ (y : List Table). AreTablesFor ds y) (sym e) (tables_are ds ts gs ps c.requires.given c.requires.first c.requires.ids)) c.tables_of.ensures

pub returns-clause-values : goal.returns-clause-values
returns-clause-values c =
    let ds = c.args.declarations.now in
    let ts = c.args.store.now.trees in
    let gs = c.args.given.now in
    let ps = c.args.firsts.now in
    on_ok c.tables_of.result (λ (x : List Table). x ≡ tables_of ts gs ps ds) (λ (x : List Table). GiveValues ts gs x)
    (λ x e. subst (λ (y : List Table). GiveValues ts gs y) (sym e) (give_values ds ts gs ps c.requires.given c.requires.first c.len-known.ensures.different)) c.tables_of.ensures
