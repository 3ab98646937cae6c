use Rattle.std.proofs.Common.{◌++◌, ◌∷◌, [], take, sym, ap, ◌∙◌}
use Rattle.std.proofs.lemmas.Bool.{cond-false, cond-true}
use Rattle.smt_meaning.specs.Signature.{is_symbol}
use Rattle.smt_meaning.specs.declared.values.Table.{Table}
use Rattle.model_build.specs.Filling.{tables_of}
use Rattle.model_build.proofs.Fills.{tables_more}
use Rattle.model_build.proofs.tables.tables_of.Goals as goal
use Rattle.model_build.proofs.tables.tables_of.Goals.{then-is_symbol+in_ok-table_of+in_ok-push, else-is_symbol}

pub loop-declaration-preserved : goal.loop-declaration-preserved
loop-declaration-preserved c =
    let more' = tables_more c.args.store.now.trees c.args.given.now c.args.firsts.now c.args.declarations.now c.loop-declaration.declaration-index c.declaration-item.result
    c.loop-declaration-test.true c.declaration-item.is in
    elim c.if-is_symbol.branch [
      | then-is_symbol+in_ok-table_of+in_ok-push w ↦
          rw w.tables-is
          (w.in_ok-push.ensures.items ∙ ap (λ xs. xs ++ w.in_ok-table_of.field-0 ∷ []) c.loop-declaration.invariant
          ∙ ap (λ (t : Table). tables_of c.args.store.now.trees c.args.given.now c.args.firsts.now (take c.loop-declaration.declaration-index c.args.declarations.now) ++ t ∷ []) w.in_ok-table_of.ensures
          ∙ sym (more' ∙ cond-true (is_symbol c.declaration-item.result) _ _ (sym c.is_symbol.ensures ∙ w.if-is_symbol.true)))
      | else-is_symbol w ↦ rw w.tables-is (c.loop-declaration.invariant ∙ sym (more' ∙ cond-false (is_symbol c.declaration-item.result) _ _ (sym c.is_symbol.ensures ∙ w.if-is_symbol.false)))
    ]
