use Rattle.std.proofs.Common.{All, List, subst, sym, length, drop, ◌-◌}
use Rattle.std.proofs.lemmas.Result.{IfOk-weaker}
use Rattle.std.proofs.lemmas.List.Elements.{All-drop, All-take}
use Rattle.race_model.specs.declared.event.Entry.{Entry}
use Rattle.race_model.specs.Laws.{IsSound}
use Rattle.lemma_pool.specs.Pools.{cut_base}
use Rattle.lemma_pool.proofs.Kept.{all_sound}
use Rattle.lemma_pool.proofs.pool.PoolShelf.batch.Goals as goal

pub returns-clause-sound : goal.returns-clause-sound
returns-clause-sound g c =
    let p = c.args.self.now in
    let b = cut_base p.levels (g.K.Framed.base p.stack.value) in
    let all : All (λ (e : Entry). IsSound b e.clause) c.deref.result.now =
    subst (λ (es : List Entry). All (λ (e : Entry). IsSound b e.clause) es) (sym c.deref.ensures.value) (all_sound b p.entries.items p.known) in
    IfOk-weaker c.copy_entries.result _ _
    (λ v is. subst (λ (es : List Entry). All (λ (e : Entry). IsSound b e.clause) es) (sym is) (All-take (λ (e : Entry). IsSound b e.clause) (length c.deref.result.now - c.min-mark.result) (drop c.min-mark.result c.deref.result.now) (All-drop (λ (e : Entry). IsSound b e.clause) c.min-mark.result c.deref.result.now all)))
    c.copy_entries.ensures
