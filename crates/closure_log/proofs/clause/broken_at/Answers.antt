use Rattle.std.proofs.Common.{rules, ◌≡◌, ◌∷◌, ◌⊎◌, inl, inr, None, is_some, true, false, refl, sym, ◌∙◌}
use Rattle.closure_log.specs.Read.{LacksOne, IsRead}
use Rattle.closure_log.proofs.Reading.{read_same}
use Rattle.closure_log.proofs.OddTelling.{keeps_lacking, keeps_read}
use Rattle.closure_log.proofs.clause.broken_at.Goals as goal
use Rattle.closure_log.proofs.clause.broken_at.Goals.{then-is_some-via-then-is_some, then-is_some-via-else-is_some+then-not-read}

pub returns-in_default-2 : goal.returns-in_default-2
returns-in_default-2 c =
    let lacking : LacksOne c.args.atoms.now.atoms c.args.log.now (c.args.place ∷ c.in-Some.arguments.now) = search rules in
    keeps_lacking c.args.stack.now.trees c.args.atoms.now.atoms c.args.log.now c.args.place c.in-Some.arguments.now c.in-Some.ensures.one lacking

pub returns-then-is_some : goal.returns-then-is_some
returns-then-is_some c =
    let r = c.in-Some-2.read in
    let read : IsRead c.args.atoms.now.atoms c.args.log.now (c.args.place ∷ c.in-Some.arguments.now) r.clause.items r.open_truth r.is_odd = search rules in
    let why : (is_some r.open_truth ≡ true) ⊎ (r.is_odd ≡ false) =
    elim c.then-is_some.branch [
      | then-is_some-via-then-is_some w ↦ inl (sym c.is_some.ensures ∙ w.if-is_some.true)
      | then-is_some-via-else-is_some+then-not-read w ↦ inr w.if-not-read.true
    ] in
    keeps_read c.args.stack.now.trees c.args.atoms.now.atoms c.args.log.now c.args.place c.in-Some.arguments.now r.clause.items r.open_truth r.is_odd c.are_apart.ensures c.requires.log.consistent
    c.in-Some.ensures.one read why

pub returns : goal.returns
returns c =
    let r = c.in-Some-2.read in
    let read : IsRead c.args.atoms.now.atoms c.args.log.now (c.args.place ∷ c.in-Some.arguments.now) r.clause.items r.open_truth r.is_odd = search rules in
    let none : r.open_truth ≡ None = search rules in
    c.false_clause.ensures c.args.stack.now c.args.atoms.now.atoms c.args.log.now c.args.places.now c.args.place c.in-Some.arguments.now c.requires.setting c.requires.log c.in-Some.ensures.some
    (read_same c.args.atoms.now.atoms c.args.log.now (c.args.place ∷ c.in-Some.arguments.now) r.clause.items r.clause.items r.open_truth None r.is_odd true refl none c.if-not-read.false read)
