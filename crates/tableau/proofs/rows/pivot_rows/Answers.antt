use Rattle.std.proofs.Common.{◌≡◌, ◌∙◌, sym, subst, arith, length, ℕ, Contains, set, get_or, ◌<◌}
use Rattle.std.proofs.lemmas.List.{length-set}
use Rattle.tableau.specs.Failing.{IsRange}
use Rattle.tableau.specs.declared.rows.Row.{Row}
use Rattle.tableau.specs.Holders.{items_at, IsNoted}
use Rattle.tableau.proofs.RowLemmas.{err_then}
use Rattle.tableau.proofs.Lists.{items_set_other}
use Rattle.tableau.proofs.HolderLemmas.{entering_within, list_at, listed_at, indexed_same, indexed_pivoted, made_pivot, made_ascending}
use Rattle.tableau.proofs.rows.pivot_rows.Goals as goal

pub index-requires : goal.index-requires
index-requires c = let l = entering_within c.args.rows.now c.args.holders.now.items c.args.entering c.args.place c.requires.indexed c.requires.place c.requires.entry in omega (arith, l)

pub index-requires-2 : goal.index-requires-2
index-requires-2 c = let l = entering_within c.args.rows.now c.args.holders.now.items c.args.entering c.args.place c.requires.indexed c.requires.place c.requires.entry in omega (arith, l)

pub index-requires-3 : goal.index-requires-3
index-requires-3 c =
    let l = entering_within c.args.rows.now c.args.holders.now.items c.args.entering c.args.place c.requires.indexed c.requires.place c.requires.entry in
    let e = c.in_ok-file.ensures.count in omega (arith, l, e)

pub index_mut-requires : goal.index_mut-requires
index_mut-requires c =
    let l = entering_within c.args.rows.now c.args.holders.now.items c.args.entering c.args.place c.requires.indexed c.requires.place c.requires.entry in
    let e = c.in_ok-file.ensures.count in
    let f = c.forget_lost.ensures.count in omega (arith, l, e, f)

pub try_pivot_rows-requires-clause-listed : goal.try_pivot_rows-requires-clause-listed
try_pivot_rows-requires-clause-listed c =
    listed_at c.args.rows.now c.args.holders.now.items c.args.entering c.deref.result.now c.requires.indexed
    (list_at c.args.holders.now.items c.args.entering c.index.result.now c.deref.result.now (entering_within c.args.rows.now c.args.holders.now.items c.args.entering c.args.place c.requires.indexed c.requires.place c.requires.entry) c.index.ensures c.deref.ensures.value)

pub returns-in_err-try_pivot_rows-clause-range : goal.returns-in_err-try_pivot_rows-clause-range
returns-in_err-try_pivot_rows-clause-range c = err_then c.from_residual.result (λ e w r. c.in_err-try_pivot_rows.ensures.range (subst IsRange w r)) c.from_residual.ensures.1

pub returns-in_err-try_pivot_rows-clause-indexed : goal.returns-in_err-try_pivot_rows-clause-indexed
returns-in_err-try_pivot_rows-clause-indexed c =
    indexed_same c.args.rows.now c.try_pivot_rows.new.rows c.args.holders.now.items c.args.holders.now.items (omega arith) c.in_err-try_pivot_rows.ensures.same (omega arith) (λ j k h. h) c.requires.indexed

pub returns-in_err-note_rows-clause-indexed : goal.returns-in_err-note_rows-clause-indexed
returns-in_err-note_rows-clause-indexed c =
    indexed_same c.args.rows.now c.try_pivot_rows.new.rows c.args.holders.now.items c.args.holders.now.items (omega arith) c.in_ok-try_pivot_rows.ensures.same (omega arith) (λ j k h. h) c.requires.indexed

pub returns-in_err-file-clause-indexed : goal.returns-in_err-file-clause-indexed
returns-in_err-file-clause-indexed c =
    indexed_same c.args.rows.now c.try_pivot_rows.new.rows c.args.holders.now.items c.file.new.holders.items (omega arith) c.in_ok-try_pivot_rows.ensures.same (let e = c.in_err-file.ensures.count in omega (arith, e)) c.in_err-file.ensures.keeps
    c.requires.indexed

pub forget_lost-requires : goal.forget_lost-requires
forget_lost-requires c =
    made_ascending c.args.rows.now c.commit_rows.new.rows c.args.holders.now.items c.args.entering c.args.place c.requires.place (omega arith) c.requires.indexed
    (made_pivot c.args.rows.now c.try_pivot_rows.new.rows c.commit_rows.new.rows c.args.holders.now.items c.deref.result.now c.deref-4.result.now c.args.entering c.args.place c.requires.place (omega arith) c.requires.indexed
    (list_at c.args.holders.now.items c.args.entering c.index.result.now c.deref.result.now (entering_within c.args.rows.now c.args.holders.now.items c.args.entering c.args.place c.requires.indexed c.requires.place c.requires.entry) c.index.ensures c.deref.ensures.value)
    (list_at c.file.new.holders.items c.args.entering c.index-3.result.now c.deref-4.result.now (let l = entering_within c.args.rows.now c.args.holders.now.items c.args.entering c.args.place c.requires.indexed c.requires.place c.requires.entry in let e = c.in_ok-file.ensures.count in omega (arith, l, e)) c.index-3.ensures c.deref-4.ensures.value ∙ c.in_ok-file.ensures.same)
    c.in_ok-try_pivot_rows.ensures.same c.in_ok-try_pivot_rows.ensures.ok c.commit_rows.ensures.made c.commit_rows.ensures.others)

pub returns-clause-ok : goal.returns-clause-ok
returns-clause-ok c =
    made_pivot c.args.rows.now c.try_pivot_rows.new.rows c.commit_rows.new.rows c.args.holders.now.items c.deref.result.now c.deref-4.result.now c.args.entering c.args.place c.requires.place (omega arith) c.requires.indexed
    (list_at c.args.holders.now.items c.args.entering c.index.result.now c.deref.result.now (entering_within c.args.rows.now c.args.holders.now.items c.args.entering c.args.place c.requires.indexed c.requires.place c.requires.entry) c.index.ensures c.deref.ensures.value)
    (list_at c.file.new.holders.items c.args.entering c.index-3.result.now c.deref-4.result.now (let l = entering_within c.args.rows.now c.args.holders.now.items c.args.entering c.args.place c.requires.indexed c.requires.place c.requires.entry in let e = c.in_ok-file.ensures.count in omega (arith, l, e)) c.index-3.ensures c.deref-4.ensures.value ∙ c.in_ok-file.ensures.same)
    c.in_ok-try_pivot_rows.ensures.same c.in_ok-try_pivot_rows.ensures.ok c.commit_rows.ensures.made c.commit_rows.ensures.others

pub returns-clause-indexed : goal.returns-clause-indexed
returns-clause-indexed c =
    let here : c.deref-4.result.now ≡ items_at c.args.holders.now.items c.args.entering = list_at c.file.new.holders.items c.args.entering c.index-3.result.now c.deref-4.result.now (let l = entering_within c.args.rows.now c.args.holders.now.items c.args.entering c.args.place c.requires.indexed c.requires.place c.requires.entry in let e = c.in_ok-file.ensures.count in omega (arith, l, e)) c.index-3.ensures c.deref-4.ensures.value ∙ c.in_ok-file.ensures.same in
    let noted : c.deref-2.result.now ≡ items_at c.args.holders.now.items c.args.entering = list_at c.args.holders.now.items c.args.entering c.index-2.result.now c.deref-2.result.now (entering_within c.args.rows.now c.args.holders.now.items c.args.entering c.args.place c.requires.indexed c.requires.place c.requires.entry) c.index-2.ensures c.deref-2.ensures.value in
    indexed_pivoted c.args.rows.now c.try_pivot_rows.new.rows c.commit_rows.new.rows c.args.holders.now.items c.file.new.holders.items c.forget_lost.new.holders.items (set c.forget_lost.new.holders.items c.args.entering c.clear.new.self)
    c.deref-3.result.now c.args.entering c.args.place c.requires.place (omega arith) (omega arith) c.requires.indexed
    (made_pivot c.args.rows.now c.try_pivot_rows.new.rows c.commit_rows.new.rows c.args.holders.now.items c.deref.result.now c.deref-4.result.now c.args.entering c.args.place c.requires.place (omega arith) c.requires.indexed
    (list_at c.args.holders.now.items c.args.entering c.index.result.now c.deref.result.now (entering_within c.args.rows.now c.args.holders.now.items c.args.entering c.args.place c.requires.indexed c.requires.place c.requires.entry) c.index.ensures c.deref.ensures.value)
    (list_at c.file.new.holders.items c.args.entering c.index-3.result.now c.deref-4.result.now (let l = entering_within c.args.rows.now c.args.holders.now.items c.args.entering c.args.place c.requires.indexed c.requires.place c.requires.entry in let e = c.in_ok-file.ensures.count in omega (arith, l, e)) c.index-3.ensures c.deref-4.ensures.value ∙ c.in_ok-file.ensures.same)
    c.in_ok-try_pivot_rows.ensures.same c.in_ok-try_pivot_rows.ensures.ok c.commit_rows.ensures.made c.commit_rows.ensures.others)
    c.in_ok-try_pivot_rows.ensures.same
    (subst (λ xs. (k : ℕ) (d : Row) → k < length c.try_pivot_rows.new.rows → Contains (items_at c.args.holders.now.items c.args.entering) k → IsNoted xs k (get_or c.try_pivot_rows.new.rows k d)) (sym c.deref-3.ensures.value)
    (λ k d lk h. c.in_ok-note_rows.ensures.ok k d lk (subst (λ ks. Contains ks k) (sym noted) h)))
    c.in_ok-file.ensures.keeps c.in_ok-file.ensures.ok
    (λ k d lk h. c.commit_rows.ensures.made k d lk (subst (λ ks. Contains ks k) (sym here) h))
    (λ k d none. c.commit_rows.ensures.others k d (λ h. none (subst (λ ks. Contains ks k) here h)))
    c.forget_lost.ensures.keeps
    (length-set c.forget_lost.new.holders.items c.args.entering c.clear.new.self ∙ c.forget_lost.ensures.count ∙ c.in_ok-file.ensures.count)
    (λ j ne. items_set_other c.forget_lost.new.holders.items c.args.entering j c.clear.new.self ne)
