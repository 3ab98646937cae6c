use Rattle.std.proofs.Common.{◌≡◌, ℕ, ◌<◌, false, Bool, List, length, get_or, ap, ◌∙◌, sym, subst, arith, below_more}
use Rattle.std.proofs.lemmas.List.{get_or_default}
use Rattle.fraction128.specs.declared.Entry.{Entry}
use Rattle.fraction128.specs.declared.Column.{Column}
use Rattle.fraction128.specs.Grid.{helps}
use Rattle.simplex_steps.specs.State.{column_in, no_column}
use Rattle.simplex_steps.specs.Conflict.{KnownEntries}
use Rattle.simplex_steps.proofs.find.first_helping.Goals as goal

here : (columns : List Column) (entries : List Entry) (i : ℕ) (x : Entry) (c : Column) (rises r : Bool) → i < length entries → x ≡ get_or entries i x → KnownEntries (length columns) entries → c ≡ get_or columns x.variable c
    → r ≡ helps rises x.coefficient c → r ≡ false → (d : Entry) → helps rises (get_or entries i d).coefficient (column_in columns (get_or entries i d).variable) ≡ false
here columns entries i x c rises r lt is known c_is r_is isnt d =
    let in_columns : x.variable < length columns = subst (λ (y : Entry). y.variable < length columns) (sym is) (known i x lt) in
    let e : x ≡ get_or entries i d = is ∙ get_or_default entries i x d lt in
    let f : c ≡ column_in columns x.variable = c_is ∙ get_or_default columns x.variable c no_column in_columns in
    subst (λ (y : Entry). helps rises y.coefficient (column_in columns y.variable) ≡ false) e (ap (helps rises x.coefficient) (sym f) ∙ sym r_is ∙ isnt)

pub loop-i-preserved : goal.loop-i-preserved
loop-i-preserved c = λ k d h.
    below_more (λ n. (e : Entry) → helps c.args.rises (get_or c.args.entries.now n e).coefficient (column_in c.args.columns.now (get_or c.args.entries.now n e).variable) ≡ false) _
    (λ n l e. c.loop-i.invariant n e l)
    (here c.args.columns.now c.args.entries.now c.loop-i.i c.index-entries-i.result c.index-columns-entry.result c.args.rises c.helps.result (omega arith) c.index-entries-i.is c.requires c.index-columns-entry.is c.helps.ensures c.if-helps.false)
    k h d
