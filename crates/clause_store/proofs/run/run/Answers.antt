use Rattle.std.proofs.Common.{◌≡◌, ◌+◌, ◌<◌, ◌≤◌, length, take, get_or, subst, sym, arith}
use Rattle.literals.specs.Signed.{opposite}
use Rattle.clause_store.specs.declared.trail.Step.{Step}
use Rattle.clause_store.specs.Watching.{Grows, kept_from}
use Rattle.clause_store.specs.Visits.{Parts}
use Rattle.clause_store.specs.Runs.{Turns, TurnsTo}
use Rattle.clause_store.specs.Entries.{watches_of, bare, rooms}
use Rattle.clause_store.specs.Room.{HasRoomToMove}
use Rattle.clause_store.proofs.Rooms.{moves_shaped}
use Rattle.clause_store.specs.Trail.{Assigns}
use Rattle.clause_store.specs.Looks.{LooksAt}
use Rattle.clause_store.proofs.Pairs.{Looked, Looked-turn, Looked-by}
use Rattle.clause_store.proofs.Keeps.{grows-on, keeps-both}
use Rattle.clause_store.proofs.Turning.{Runs-turn, Runs-meets, Grows-longer}
use Rattle.clause_store.proofs.run.run.Goals as goal

pub steps-preserved : goal.steps-preserved
steps-preserved c =
    let first : Parts = record { entries = c.args.rows.now.entries; lists = bare c.args.lists.now; steps = c.args.trail.now.steps } in
    let p : Parts = record { entries = c.steps.rows.entries; lists = bare c.steps.lists; steps = c.steps.trail.steps } in
    let p' : Parts = record { entries = c.turn.new.rows.entries; lists = bare c.turn.new.lists; steps = c.turn.new.trail.steps } in
    let s : Step = c.index-steps-head.result in
    let is : s ≡ get_or c.steps.trail.steps c.steps.head s = rw c.steps-in-steps-2.ensures.steps at c.index-steps-head.is in
    let lt : c.steps.head < length c.steps.trail.steps = rw c.steps-in-steps.ensures.steps at c.steps-test.true in
    let grows : Grows (kept_from 0 c.steps.rows.entries) c.args.trail.now.depth c.steps.trail.steps c.turn.new.trail.steps = grows-on _ _ _ _ _ _ _ _ _ c.steps.invariant.keeps c.in-Whole.ensures.keeps in
    let turns : Turns c.args.trail.now.atoms (opposite s.literal) p p' (length (watches_of p'.lists (opposite s.literal))) =
    subst (λ f. Turns c.args.trail.now.atoms f p p' (length (watches_of p'.lists f))) c.negated.ensures
    (subst (λ n. Turns n c.negated.result p p' (length (watches_of p'.lists c.negated.result))) c.steps.invariant.keeps.atoms c.in-Whole.ensures.gives) in
    let longer : length c.steps.trail.steps ≤ length c.turn.new.trail.steps = Grows-longer _ _ _ _ grows in
    let fresh : Assigns (take c.steps.head c.steps.trail.steps) s.literal → ⊥ = subst (λ (x : Step). Assigns (take c.steps.head c.steps.trail.steps) x.literal → ⊥) (sym is) (c.steps-in-steps.ensures.fresh c.steps.head s lt).0 in
    let at : LooksAt (opposite s.literal) c.steps.rows.entries c.steps.rows.looks c.turn.new.rows.looks =
    subst (λ f. LooksAt f c.steps.rows.entries c.steps.rows.looks c.turn.new.rows.looks) c.negated.ensures c.in-Whole.ensures.looks in
    let looked : Looked c.args.rows.now.entries c.turn.new.trail.steps c.args.start (c.steps.head + 1) c.args.rows.now.looks c.turn.new.rows.looks =
    Looked-turn (kept_from 0 c.steps.rows.entries) c.args.trail.now.depth c.args.rows.now.entries c.steps.rows.entries c.steps.trail.steps c.turn.new.trail.steps c.args.start c.steps.head c.args.rows.now.looks c.steps.rows.looks c.turn.new.rows.looks s
    c.steps.invariant.from lt is fresh c.steps.invariant.runs.shape grows at c.steps.invariant.looked in
    record {
      runs = Runs-turn c.args.trail.now.atoms c.args.trail.now.depth first p p' c.args.start c.steps.head s lt is grows c.steps.invariant.runs turns;
      keeps = keeps-both _ _ _ _ _ _ _ _ _ c.steps.invariant.keeps c.in-Whole.ensures.keeps;
      within = omega arith;
      from = (let le : c.args.start ≤ c.steps.head = c.steps.invariant.from in omega arith);
      looked = looked;
    }

pub returns-in-False-clause-gives : goal.returns-in-False-clause-gives
returns-in-False-clause-gives c =
    let first : Parts = record { entries = c.args.rows.now.entries; lists = bare c.args.lists.now; steps = c.args.trail.now.steps } in
    let p : Parts = record { entries = c.steps.rows.entries; lists = bare c.steps.lists; steps = c.steps.trail.steps } in
    let p' : Parts = record { entries = c.turn.new.rows.entries; lists = bare c.turn.new.lists; steps = c.turn.new.trail.steps } in
    let s : Step = c.index-steps-head.result in
    let is : s ≡ get_or c.steps.trail.steps c.steps.head s = rw c.steps-in-steps-2.ensures.steps at c.index-steps-head.is in
    let lt : c.steps.head < length c.steps.trail.steps = rw c.steps-in-steps.ensures.steps at c.steps-test.true in
    let grows : Grows (kept_from 0 c.steps.rows.entries) c.args.trail.now.depth c.steps.trail.steps c.turn.new.trail.steps = grows-on _ _ _ _ _ _ _ _ _ c.steps.invariant.keeps c.in-False.ensures.keeps in
    let turns : TurnsTo c.args.trail.now.atoms (opposite s.literal) p p' c.in-False.row =
    subst (λ f. TurnsTo c.args.trail.now.atoms f p p' c.in-False.row) c.negated.ensures
    (subst (λ n. TurnsTo n c.negated.result p p' c.in-False.row) c.steps.invariant.keeps.atoms c.in-False.ensures.gives) in
    let longer : length c.steps.trail.steps ≤ length c.turn.new.trail.steps = Grows-longer _ _ _ _ grows in
    (Runs-meets c.args.trail.now.atoms c.args.trail.now.depth first p p' c.args.start c.steps.head c.in-False.row s lt is grows c.steps.invariant.runs turns, turns.is_false, omega arith)

pub returns-in-False-clause-looks : goal.returns-in-False-clause-looks
returns-in-False-clause-looks c =
    let s : Step = c.index-steps-head.result in
    let is : s ≡ get_or c.steps.trail.steps c.steps.head s = rw c.steps-in-steps-2.ensures.steps at c.index-steps-head.is in
    let lt : c.steps.head < length c.steps.trail.steps = rw c.steps-in-steps.ensures.steps at c.steps-test.true in
    let grows : Grows (kept_from 0 c.steps.rows.entries) c.args.trail.now.depth c.steps.trail.steps c.turn.new.trail.steps = grows-on _ _ _ _ _ _ _ _ _ c.steps.invariant.keeps c.in-False.ensures.keeps in
    let fresh : Assigns (take c.steps.head c.steps.trail.steps) s.literal → ⊥ = subst (λ (x : Step). Assigns (take c.steps.head c.steps.trail.steps) x.literal → ⊥) (sym is) (c.steps-in-steps.ensures.fresh c.steps.head s lt).0 in
    let at : LooksAt (opposite s.literal) c.steps.rows.entries c.steps.rows.looks c.turn.new.rows.looks =
    subst (λ f. LooksAt f c.steps.rows.entries c.steps.rows.looks c.turn.new.rows.looks) c.negated.ensures c.in-False.ensures.looks in
    let looked : Looked c.args.rows.now.entries c.turn.new.trail.steps c.args.start (c.steps.head + 1) c.args.rows.now.looks c.turn.new.rows.looks =
    Looked-turn (kept_from 0 c.steps.rows.entries) c.args.trail.now.depth c.args.rows.now.entries c.steps.rows.entries c.steps.trail.steps c.turn.new.trail.steps c.args.start c.steps.head c.args.rows.now.looks c.steps.rows.looks c.turn.new.rows.looks s
    c.steps.invariant.from lt is fresh c.steps.invariant.runs.shape grows at c.steps.invariant.looked in
    Looked-by c.args.rows.now.entries c.turn.new.trail.steps c.args.start (c.steps.head + 1) c.args.rows.now.looks c.turn.new.rows.looks looked

pub returns-clause-looks : goal.returns-clause-looks
returns-clause-looks c = Looked-by c.args.rows.now.entries c.steps.trail.steps c.args.start c.steps.head c.args.rows.now.looks c.steps.rows.looks c.steps.invariant.looked

pub turn-requires-clause-move_room : goal.turn-requires-clause-move_room
turn-requires-clause-move_room c =
    subst (HasRoomToMove c.steps.rows.entries) (sym c.steps.invariant.keeps.rooms) (moves_shaped c.args.rows.now.entries c.steps.rows.entries (rooms c.args.lists.now) c.steps.invariant.runs.shape c.requires.move_room)

pub returns-in-False-clause-keeps : goal.returns-in-False-clause-keeps
returns-in-False-clause-keeps c = keeps-both _ _ _ _ _ _ _ _ _ c.steps.invariant.keeps c.in-False.ensures.keeps

pub returns-clause-keeps : goal.returns-clause-keeps
returns-clause-keeps c = c.steps.invariant.keeps
