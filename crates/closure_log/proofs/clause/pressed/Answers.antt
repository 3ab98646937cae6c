use Rattle.std.proofs.Common.{Option, None, Bool, sym, subst}
use Rattle.literals.specs.Signed.{Signed}
use Rattle.closure_log.specs.Read.{PressesWhereRead}
use Rattle.closure_log.proofs.Clausing.{presses_open, presses_where_false, false_where_read}
use Rattle.closure_log.proofs.clause.pressed.Goals as goal

pub returns-in_ok-push-in-Some : goal.returns-in_ok-push-in-Some
returns-in_ok-push-in-Some c =
    let r = c.args.read in
    subst (λ (o : Option Signed). PressesWhereRead r.clause.items o r.is_odd c.lemma_of.result) (sym c.in-Some.is)
    (presses_open c.odd_clause_is_true.ensures c.flat_says_the_same.ensures r.clause.items c.push.new.self.items c.in-Some.literal c.against_even.result r.is_odd c.lemma_of.result
    c.against_even.ensures c.in_ok-push-in-Some.ensures.items c.lemma_of.ensures.same.same c.lemma_of.ensures.level)

pub returns-else-not-is_odd : goal.returns-else-not-is_odd
returns-else-not-is_odd c =
    let r = c.args.read in
    let lemma = c.lemma_of-in-None.result in
    subst (λ (o : Option Signed). PressesWhereRead r.clause.items o r.is_odd lemma) (sym c.in-None.is)
    (subst (λ (b : Bool). PressesWhereRead r.clause.items None b lemma) (sym c.if-not-is_odd.false)
    (presses_where_false r.clause.items lemma (false_where_read c.odd_clause_is_true.ensures c.flat_says_the_same.ensures r.clause.items lemma c.lemma_of-in-None.ensures.conflict)))
