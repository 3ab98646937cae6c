use Rattle.std.proofs.Common.{◌+◌, ◌≤◌, ◌++◌, ◌∷◌, [], true, length, ap, ◌∙◌, arith}
use Rattle.std.proofs.lemmas.List.{length-append}
use Rattle.std.proofs.lemmas.List.Elements.{All-push}
use Rattle.clause_store.specs.Entries.{Entry, Held}
use Rattle.clause_store.specs.declared.rows.Row.{Row}
use Rattle.clause_store.proofs.Views.{view-more, within-more, view-push}
use Rattle.clause_store.proofs.rows.Rows.push.Goals as goal

pub returns-then-not-pushed-clause-same : goal.returns-then-not-pushed-clause-same
returns-then-not-pushed-clause-same c =
    rw (c.extended.ensures.yes c.if-not-extended.false, c.pushed.ensures.no c.if-not-pushed.true)
    (view-more c.self.inside.literals.items c.args.literals.now c.self.inside.rows.items c.self.invariant ∙ ap (λ (h : Held). h.entries) c.self.view_is)

pub invariant_of-self-2 : goal.invariant_of-self-2
invariant_of-self-2 c =
    let ls = c.self.inside.literals.items in
    let row : Row = record { start = c.len-start.result; len = length c.args.literals.now; first = c.args.first; second = c.args.second; level = c.args.level; live = true; place = 0 } in
    rw (c.extended.ensures.yes c.if-not-extended.false, c.pushed.ensures.yes c.if-not-pushed.false)
    (All-push (λ (r : Row). r.start + r.len ≤ length (ls ++ c.args.literals.now)) c.self.inside.rows.items row (within-more ls c.args.literals.now c.self.inside.rows.items c.self.invariant)
    (omega (arith, length-append ls c.args.literals.now, c.self.inside.literals.ok)))

pub returns-clause-added : goal.returns-clause-added
returns-clause-added c =
    let ls = c.self.inside.literals.items in
    let row : Row = record { start = c.len-start.result; len = length c.args.literals.now; first = c.args.first; second = c.args.second; level = c.args.level; live = true; place = 0 } in
    let e : Entry = record { literals = c.args.literals.now; first = c.args.first; second = c.args.second; level = c.args.level; live = true } in
    rw (c.extended.ensures.yes c.if-not-extended.false, c.pushed.ensures.yes c.if-not-pushed.false)
    (view-push ls c.args.literals.now c.self.inside.rows.items row (omega (arith, c.self.inside.literals.ok)) (omega arith) c.self.invariant ∙ ap (λ (h : Held). h.entries ++ e ∷ []) c.self.view_is)
