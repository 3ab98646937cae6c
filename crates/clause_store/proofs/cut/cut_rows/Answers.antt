use Rattle.std.proofs.Common.{◌≡◌, ◌<◌, ◌≤◌, ◌+◌, List, length, subst, sym, ap, ◌∙◌, refl, arith}
use Rattle.clause_store.specs.Entries.{Entry, Held, entry_at}
use Rattle.clause_store.specs.Cutting.{IsCut}
use Rattle.clause_store.proofs.Fewer.{IsCut-start, IsCut-kept, IsCut-forgotten, IsCut-end, forgotten}
use Rattle.clause_store.proofs.cut.cut_rows.Goals.{then-level-bound, else-level-bound}
use Rattle.clause_store.proofs.cut.cut_rows.Goals as goal

pub level-requires : goal.level-requires
level-requires c = omega (arith, c.loop-i.invariant.cut.count)

pub loop-i-init : goal.loop-i-init
loop-i-init c = record { cut = IsCut-start c.args.bound c.args.rows.now.entries; looks = refl }

pub loop-i-preserved : goal.loop-i-preserved
loop-i-preserved c =
    let lt : c.loop-i.i < length c.args.rows.now.entries = omega arith in
    elim c.if-level-bound.branch [
      | then-level-bound w ↦
          let high : c.args.bound ≤ (entry_at c.loop-i.rows.entries c.loop-i.i).level = subst (λ n. c.args.bound ≤ n) c.level.ensures w.if-level-bound.true in
          let is : c.if-level-bound.rows.entries ≡ forgotten c.loop-i.rows.entries c.loop-i.i = ap (λ (h : Held). h.entries) w.rows-is ∙ w.forget.ensures.entries in
          record {
            cut = subst (λ (rows : List Entry). IsCut c.args.bound c.args.rows.now.entries rows (c.loop-i.i + 1)) (sym is) (IsCut-forgotten c.args.bound c.args.rows.now.entries c.loop-i.rows.entries c.loop-i.i lt high c.loop-i.invariant.cut);
            looks = ap (λ (h : Held). h.looks) w.rows-is ∙ (w.forget.ensures.looks ∙ c.loop-i.invariant.looks);
          }
      | else-level-bound w ↦
          let low : (entry_at c.loop-i.rows.entries c.loop-i.i).level < c.args.bound = subst (λ n. n < c.args.bound) c.level.ensures w.if-level-bound.false in
          record {
            cut = subst (λ (rows : List Entry). IsCut c.args.bound c.args.rows.now.entries rows (c.loop-i.i + 1)) (sym (ap (λ (h : Held). h.entries) w.rows-is)) (IsCut-kept c.args.bound c.args.rows.now.entries c.loop-i.rows.entries c.loop-i.i lt low c.loop-i.invariant.cut);
            looks = ap (λ (h : Held). h.looks) w.rows-is ∙ c.loop-i.invariant.looks;
          }
    ]

pub returns : goal.returns
returns c = record { cut = IsCut-end c.args.bound c.args.rows.now.entries c.loop-i.rows.entries c.loop-i.i (omega arith) c.loop-i.invariant.cut; looks = c.loop-i.invariant.looks }
