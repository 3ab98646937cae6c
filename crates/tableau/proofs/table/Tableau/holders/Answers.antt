use Rattle.std.proofs.Common.{sym, ap, subst, arith, Contains}
use Rattle.tableau.specs.Table.{Table}
use Rattle.tableau.proofs.Lists.{items_past}
use Rattle.tableau.proofs.HolderLemmas.{list_at, holders_listed}
use Rattle.tableau.proofs.table.Tableau.holders.Goals as goal

pub returns-then-variable-len : goal.returns-then-variable-len
returns-then-variable-len c = λ k lk has.
    subst (λ ks. Contains ks k) (sym (list_at c.self.inside.holders.items c.args.variable c.index.result.now c.deref.result.now (omega arith) c.index.ensures c.deref.ensures.value))
    (holders_listed c.self.inside.rows.items c.args.self.now.rows c.self.inside.holders.items c.args.variable c.self.invariant.2 (ap (λ (t : Table). t.rows) c.self.view_is) k lk has)

pub returns-else-variable-len : goal.returns-else-variable-len
returns-else-variable-len c = λ k lk has.
    absurd (items_past c.self.inside.holders.items c.args.variable k (omega arith)
    (holders_listed c.self.inside.rows.items c.args.self.now.rows c.self.inside.holders.items c.args.variable c.self.invariant.2 (ap (λ (t : Table). t.rows) c.self.view_is) k lk has))
