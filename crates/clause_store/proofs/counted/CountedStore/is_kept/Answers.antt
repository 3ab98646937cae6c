use Rattle.std.proofs.Common.{◌≡◌, ◌<◌, length, sym, ◌∙◌, true, false, arith}
use Rattle.clause_store.specs.Found.{HasKept}
use Rattle.clause_store.specs.Watching.{kept_from}
use Rattle.clause_store.proofs.Fewer.{has_live, live_kept}
use Rattle.clause_store.proofs.counted.CountedStore.is_kept.Goals as goal

false_true : false ≡ true → ⊥
false_true e = cc

pub returns-then-id-len-clause-no : goal.returns-then-id-len-clause-no
returns-then-id-len-clause-no c = λ e k.
    let i = c.self.inside in
    let kept : HasKept (kept_from 0 i.rows.entries) c.args.id (λ ls. Unit {0}) = rw (← c.self.view_is) at k in
    let within : c.args.id < length i.rows.entries = (has_live i.rows.entries c.args.id (λ ls. Unit {0}) kept).within in
    omega arith

pub returns-clause-yes : goal.returns-clause-yes
returns-clause-yes c = λ e.
    let i = c.self.inside in
    rw (← c.self.view_is) (live_kept i.rows.entries c.args.id (λ ls. Unit {0}) (sym c.is_live.ensures ∙ e) tt)

pub returns-clause-no : goal.returns-clause-no
returns-clause-no c = λ e k.
    let i = c.self.inside in
    let kept : HasKept (kept_from 0 i.rows.entries) c.args.id (λ ls. Unit {0}) = rw (← c.self.view_is) at k in
    false_true (sym e ∙ (c.is_live.ensures ∙ (has_live i.rows.entries c.args.id (λ ls. Unit {0}) kept).live))
