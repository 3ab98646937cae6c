use Rattle.std.proofs.Common.{◌≡◌, get_or}
use Rattle.clause_store.specs.Entries.{entry_at}
use Rattle.clause_store.specs.Visits.{IsFoundAt}
use Rattle.clause_store.proofs.Looks.{found_at}
use Rattle.clause_store.proofs.sweep.look_for.Goals as goal

pub seek_from-requires : goal.seek_from-requires
seek_from-requires c =
    let e : c.literals.result.now ≡ (entry_at c.args.rows.now.entries c.args.row).literals = rw (c.look-looked.ensures.same, c.look-looked.ensures.clause) at c.literals.ensures in
    rw e (record { known = c.requires.known })

pub returns-in-None-clause-none : goal.returns-in-None-clause-none
returns-in-None-clause-none c =
    let e : c.literals.result.now ≡ (entry_at c.args.rows.now.entries c.args.row).literals = rw (c.look-looked.ensures.same, c.look-looked.ensures.clause) at c.literals.ensures in
    rw e at c.in-None.ensures.none

pub returns-in-Some-clause-some : goal.returns-in-Some-clause-some
returns-in-Some-clause-some c =
    let e : c.literals.result.now ≡ (entry_at c.args.rows.now.entries c.args.row).literals = rw (c.look-looked.ensures.same, c.look-looked.ensures.clause) at c.literals.ensures in
    let e' : c.literals-in-Some.result.now ≡ (entry_at c.args.rows.now.entries c.args.row).literals = rw (c.look-looked.ensures.same, c.look-looked.ensures.clause) at c.literals-in-Some.ensures in
    let at : IsFoundAt c.args.trail.now.steps (entry_at c.args.rows.now.entries c.args.row).literals c.args.other c.in-Some.k = rw e at c.in-Some.ensures.some in
    let is : c.index-literals-k.result ≡ get_or (entry_at c.args.rows.now.entries c.args.row).literals c.in-Some.k c.index-literals-k.result = rw e' at c.index-literals-k.is in
    found_at c.args.trail.now.steps (entry_at c.args.rows.now.entries c.args.row).literals c.args.other c.in-Some.k c.index-literals-k.result at is
