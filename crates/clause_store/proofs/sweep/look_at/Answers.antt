use Rattle.std.proofs.Common.{inl, inr, sym, subst, ◌∙◌, ◌≡◌}
use Rattle.clause_store.specs.Stored.{IsFalseOn}
use Rattle.clause_store.specs.Entries.{entry_at}
use Rattle.clause_store.proofs.Twos.{others_false}
use Rattle.clause_store.proofs.sweep.look_at.Goals as goal

pub step-requires-clause-two : goal.step-requires-clause-two
step-requires-clause-two c = λ few.
    let e = entry_at c.args.rows.now.entries c.args.watch.row in
    let is : e.first ≡ c.args.f = sym c.first-first.ensures ∙ c.is_same.ensures.yes c.if-is_same.true in
    others_false c.args.trail.now.steps e c.args.f c.second-second.result (c.requires.pair (sym c.is_live.ensures ∙ c.if-not-is_live.false)) (record { pair = inl (is, sym c.second-second.ensures) }) c.requires.is_false few

pub step-requires-then-is_same-2-clause-two : goal.step-requires-then-is_same-2-clause-two
step-requires-then-is_same-2-clause-two c = λ few.
    let e = entry_at c.args.rows.now.entries c.args.watch.row in
    let is : e.second ≡ c.args.f = sym c.second-second.ensures ∙ c.is_same-2.ensures.yes c.if-is_same-2.true in
    others_false c.args.trail.now.steps e c.args.f c.first-first.result (c.requires.pair (sym c.is_live.ensures ∙ c.if-not-is_live.false)) (record { pair = inr (is, sym c.first-first.ensures) }) c.requires.is_false few

pub step-requires-clause-room : goal.step-requires-clause-room
step-requires-clause-room c = λ l k not_other not_false.
    let e = entry_at c.args.rows.now.entries c.args.watch.row in
    let is : e.first ≡ c.args.f = sym c.first-first.ensures ∙ c.is_same.ensures.yes c.if-is_same.true in
    c.requires.room (sym c.is_live.ensures ∙ c.if-not-is_live.false) l k (λ x. not_false (subst (IsFalseOn c.args.trail.now.steps) (sym is ∙ x) c.requires.is_false)) (λ x. not_other (sym (c.second-second.ensures ∙ x)))

pub step-requires-then-is_same-2-clause-room : goal.step-requires-then-is_same-2-clause-room
step-requires-then-is_same-2-clause-room c = λ l k not_other not_false.
    let e = entry_at c.args.rows.now.entries c.args.watch.row in
    let is : e.second ≡ c.args.f = sym c.second-second.ensures ∙ c.is_same-2.ensures.yes c.if-is_same-2.true in
    c.requires.room (sym c.is_live.ensures ∙ c.if-not-is_live.false) l k (λ x. not_other (sym (c.first-first.ensures ∙ x))) (λ x. not_false (subst (IsFalseOn c.args.trail.now.steps) (sym is ∙ x) c.requires.is_false))
