use Rattle.std.proofs.Common.{◌≡◌, ◌+◌, ◌<◌, ◌≤◌, length, take, get_or, subst, sym, arith}
use Rattle.literals.specs.Signed.{Signed, opposite}
use Rattle.clause_store.specs.declared.trail.Step.{Step}
use Rattle.clause_store.specs.Watching.{Grows, kept_from}
use Rattle.clause_store.specs.Visits.{Parts}
use Rattle.clause_store.specs.Entries.{watches_of, bare, rooms}
use Rattle.clause_store.specs.Room.{HasRoomToMove}
use Rattle.clause_store.proofs.Rooms.{moves_shaped}
use Rattle.clause_store.specs.Trail.{Assigns}
use Rattle.clause_store.specs.Looks.{LooksAt}
use Rattle.clause_store.specs.Late.{LateCovers, LateTurnGives}
use Rattle.clause_store.specs.declared.sweep.Swept.TheVariants.{Whole, False as FalseClause}
use Rattle.clause_store.proofs.Pairs.{Looked, Looked-turn, Looked-by, Looked-front}
use Rattle.clause_store.proofs.Keeps.{grows-on, keeps-both}
use Rattle.clause_store.proofs.LateDepths.{Late-start}
use Rattle.clause_store.proofs.run.catch_up.Goals as goal

pub steps-preserved : goal.steps-preserved
steps-preserved c =
    let s : Step = c.index-steps-head.result in
    let is : s ≡ get_or c.steps.trail.steps c.steps.head s = rw c.steps-in-steps.ensures.steps at c.index-steps-head.is in
    let lt : c.steps.head < length c.steps.trail.steps = c.is_late.ensures.yes c.steps-test.true in
    let grows : Grows (kept_from 0 c.steps.rows.entries) c.args.trail.now.depth c.steps.trail.steps c.turn_late.new.trail.steps = grows-on _ _ _ _ _ _ _ _ _ c.steps.invariant.keeps c.in-Whole.ensures.keeps in
    let p : Parts = record { entries = c.steps.rows.entries; lists = bare c.steps.lists; steps = c.steps.trail.steps } in
    let p' : Parts = record { entries = c.turn_late.new.rows.entries; lists = bare c.turn_late.new.lists; steps = c.turn_late.new.trail.steps } in
    let covers : LateCovers c.steps.head (opposite s.literal) p.entries p.steps (watches_of p.lists (opposite s.literal)) 0 c.steps.waiting.items =
    Late-start c.args.trail.now.atoms c.args.trail.now.depth p c.steps.waiting.items c.steps.head s c.steps-in-steps.ensures.in_order lt is c.steps.invariant.holds in
    let covers' : LateCovers c.steps.head c.negated.result p.entries p.steps (watches_of p.lists c.negated.result) 0 c.steps.waiting.items =
    subst (λ (x : Signed). LateCovers c.steps.head x p.entries p.steps (watches_of p.lists x) 0 c.steps.waiting.items) (sym c.negated.ensures) covers in
    let turned : LateTurnGives c.args.trail.now.atoms c.args.trail.now.depth c.steps.head p p' c.turn_late.new.waiting.items Whole =
    subst (λ a. LateTurnGives a c.args.trail.now.depth c.steps.head p p' c.turn_late.new.waiting.items Whole) c.steps.invariant.keeps.atoms
    (subst (λ d. LateTurnGives c.steps.trail.atoms d c.steps.head p p' c.turn_late.new.waiting.items Whole) c.steps.invariant.keeps.depth (c.in-Whole.ensures.gives c.steps.head covers')) in
    let fresh : Assigns (take c.steps.head c.steps.trail.steps) s.literal → ⊥ = subst (λ (x : Step). Assigns (take c.steps.head c.steps.trail.steps) x.literal → ⊥) (sym is) (c.steps-in-steps.ensures.fresh c.steps.head s lt).0 in
    let at : LooksAt (opposite s.literal) c.steps.rows.entries c.steps.rows.looks c.turn_late.new.rows.looks =
    subst (λ f. LooksAt f c.steps.rows.entries c.steps.rows.looks c.turn_late.new.rows.looks) c.negated.ensures c.in-Whole.ensures.looks in
    let looked : Looked c.args.rows.now.entries c.turn_late.new.trail.steps c.args.start (c.steps.head + 1) c.args.rows.now.looks c.turn_late.new.rows.looks =
    Looked-turn (kept_from 0 c.steps.rows.entries) c.args.trail.now.depth c.args.rows.now.entries c.steps.rows.entries c.steps.trail.steps c.turn_late.new.trail.steps c.args.start c.steps.head c.args.rows.now.looks c.steps.rows.looks c.turn_late.new.rows.looks s
    c.steps.invariant.from lt is fresh c.steps.invariant.keeps.shape grows at c.steps.invariant.looked in
    record {
      holds = turned.0;
      keeps = keeps-both _ _ _ _ _ _ _ _ _ c.steps.invariant.keeps c.in-Whole.ensures.keeps;
      room = c.in-Whole.ensures.room;
      from = (let le : c.args.start ≤ c.steps.head = c.steps.invariant.from in omega arith);
      looked = looked;
    }

pub returns-in-False-clause-gives : goal.returns-in-False-clause-gives
returns-in-False-clause-gives c =
    let s : Step = c.index-steps-head.result in
    let is : s ≡ get_or c.steps.trail.steps c.steps.head s = rw c.steps-in-steps.ensures.steps at c.index-steps-head.is in
    let lt : c.steps.head < length c.steps.trail.steps = c.is_late.ensures.yes c.steps-test.true in
    let grows : Grows (kept_from 0 c.steps.rows.entries) c.args.trail.now.depth c.steps.trail.steps c.turn_late.new.trail.steps = grows-on _ _ _ _ _ _ _ _ _ c.steps.invariant.keeps c.in-False.ensures.keeps in
    let p : Parts = record { entries = c.steps.rows.entries; lists = bare c.steps.lists; steps = c.steps.trail.steps } in
    let p' : Parts = record { entries = c.turn_late.new.rows.entries; lists = bare c.turn_late.new.lists; steps = c.turn_late.new.trail.steps } in
    let covers : LateCovers c.steps.head (opposite s.literal) p.entries p.steps (watches_of p.lists (opposite s.literal)) 0 c.steps.waiting.items =
    Late-start c.args.trail.now.atoms c.args.trail.now.depth p c.steps.waiting.items c.steps.head s c.steps-in-steps.ensures.in_order lt is c.steps.invariant.holds in
    let covers' : LateCovers c.steps.head c.negated.result p.entries p.steps (watches_of p.lists c.negated.result) 0 c.steps.waiting.items =
    subst (λ (x : Signed). LateCovers c.steps.head x p.entries p.steps (watches_of p.lists x) 0 c.steps.waiting.items) (sym c.negated.ensures) covers in
    let turned : LateTurnGives c.args.trail.now.atoms c.args.trail.now.depth c.steps.head p p' c.turn_late.new.waiting.items (FalseClause c.in-False.row) =
    subst (λ a. LateTurnGives a c.args.trail.now.depth c.steps.head p p' c.turn_late.new.waiting.items (FalseClause c.in-False.row)) c.steps.invariant.keeps.atoms
    (subst (λ d. LateTurnGives c.steps.trail.atoms d c.steps.head p p' c.turn_late.new.waiting.items (FalseClause c.in-False.row)) c.steps.invariant.keeps.depth (c.in-False.ensures.gives c.steps.head covers')) in
    turned

pub returns-in-False-clause-looks : goal.returns-in-False-clause-looks
returns-in-False-clause-looks c =
    let s : Step = c.index-steps-head.result in
    let is : s ≡ get_or c.steps.trail.steps c.steps.head s = rw c.steps-in-steps.ensures.steps at c.index-steps-head.is in
    let lt : c.steps.head < length c.steps.trail.steps = c.is_late.ensures.yes c.steps-test.true in
    let grows : Grows (kept_from 0 c.steps.rows.entries) c.args.trail.now.depth c.steps.trail.steps c.turn_late.new.trail.steps = grows-on _ _ _ _ _ _ _ _ _ c.steps.invariant.keeps c.in-False.ensures.keeps in
    let fresh : Assigns (take c.steps.head c.steps.trail.steps) s.literal → ⊥ = subst (λ (x : Step). Assigns (take c.steps.head c.steps.trail.steps) x.literal → ⊥) (sym is) (c.steps-in-steps.ensures.fresh c.steps.head s lt).0 in
    let at : LooksAt (opposite s.literal) c.steps.rows.entries c.steps.rows.looks c.turn_late.new.rows.looks =
    subst (λ f. LooksAt f c.steps.rows.entries c.steps.rows.looks c.turn_late.new.rows.looks) c.negated.ensures c.in-False.ensures.looks in
    let looked : Looked c.args.rows.now.entries c.turn_late.new.trail.steps c.args.start (c.steps.head + 1) c.args.rows.now.looks c.turn_late.new.rows.looks =
    Looked-turn (kept_from 0 c.steps.rows.entries) c.args.trail.now.depth c.args.rows.now.entries c.steps.rows.entries c.steps.trail.steps c.turn_late.new.trail.steps c.args.start c.steps.head c.args.rows.now.looks c.steps.rows.looks c.turn_late.new.rows.looks s
    c.steps.invariant.from lt is fresh c.steps.invariant.keeps.shape grows at c.steps.invariant.looked in
    Looked-by c.args.rows.now.entries c.turn_late.new.trail.steps c.args.start (c.steps.head + 1) c.args.rows.now.looks c.turn_late.new.rows.looks looked

pub returns-clause-looks : goal.returns-clause-looks
returns-clause-looks c = (c.steps.invariant.from, Looked-front c.args.rows.now.entries c.steps.trail.steps c.args.start c.steps.head c.args.rows.now.looks c.steps.rows.looks c.steps.invariant.looked)

pub turn_late-requires-clause-move_room : goal.turn_late-requires-clause-move_room
turn_late-requires-clause-move_room c =
    subst (HasRoomToMove c.steps.rows.entries) (sym c.steps.invariant.keeps.rooms) (moves_shaped c.args.rows.now.entries c.steps.rows.entries (rooms c.args.lists.now) c.steps.invariant.keeps.shape c.requires.move_room)

pub returns-in-False-clause-keeps : goal.returns-in-False-clause-keeps
returns-in-False-clause-keeps c = keeps-both _ _ _ _ _ _ _ _ _ c.steps.invariant.keeps c.in-False.ensures.keeps
