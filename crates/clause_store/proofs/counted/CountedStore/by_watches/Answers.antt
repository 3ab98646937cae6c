use Rattle.std.proofs.Common.{rules, ◌≡◌, ◌<◌, Contains, vec_capacity, subst, sym, ap, ◌∙◌, arith}
use Rattle.clause_store.specs.Visits.{Parts}
use Rattle.clause_store.specs.Driving.{DriveGives}
use Rattle.clause_store.specs.Entries.{bare, rooms}
use Rattle.clause_store.specs.Room.{HasRoomToMove}
use Rattle.clause_store.specs.Keeping.{IsTight, IsRoomy}
use Rattle.clause_store.specs.Empties.{all_filled}
use Rattle.clause_store.proofs.Empties.{whole, none_empty}
use Rattle.clause_store.proofs.Rooms.{moves_shaped}
use Rattle.clause_store.proofs.Fewer.{names_kept, none_kept}
use Rattle.clause_store.proofs.Stores.{IsKept-settled, tight-driven, tight-settled, lists_back, all_quiet, false_kept}
use Rattle.clause_store.specs.declared.waits.Wait.{Wait}
use Rattle.clause_store.specs.declared.run.Reached.TheVariants.{Fixpoint, False as FalseClause}
use Rattle.clause_store.proofs.counted.CountedStore.by_watches.Goals as goal

pub invariant_of-self : goal.invariant_of-self
invariant_of-self c =
    let i = c.self.inside in
    let d = c.drive-reached in
    let es = d.new.rows.entries in
    let lists = bare d.new.lists in
    let p' : Parts = record { entries = es; lists = lists; steps = d.new.trail.steps } in
    let ws = d.new.waiting.items in
    let gives : DriveGives i.trail.atoms i.trail.depth p' d.result.1 ws Fixpoint = subst (λ r. DriveGives i.trail.atoms i.trail.depth p' d.result.1 ws r) c.in-Fixpoint.is d.ensures.gives in
    let ws' = c.drop_from.new.waiting.items in
    let tight : IsTight (all_filled es) lists d.new.trail d.result.1 ws' =
    subst (λ xs. IsTight xs lists d.new.trail d.result.1 ws') (sym (whole es (none_empty i.trail.atoms es lists gives.0.watch)))
    (tight-settled es lists i.trail d.new.trail d.result.1 ws ws' d.ensures.keeps.atoms d.ensures.keeps.depth gives
    (subst (λ m. (w : Wait) → Contains ws w → w.depth < m → Contains ws' w) c.depth.ensures c.drop_from.ensures.keeps)
    (subst (λ m. (w : Wait) → Contains ws' w → Contains ws w × (w.depth < m)) c.depth.ensures c.drop_from.ensures.only)) in
    lists_back d.new.lists i.lists.items i.lists.len (λ ls. IsRoomy es ls d.new.trail d.result.1 ws' (vec_capacity c.drop_from.new.waiting) i.empty) (omega (arith, d.auto.lists, c.deref_mut.ensures.len)) (record {
      kept = IsKept-settled i.rows.entries es (bare i.lists.items) lists i.trail d.new.trail i.head d.result.1 i.waiting.items ws' i.empty c.self.invariant.kept d.ensures.keeps.grows d.ensures.keeps.clauses d.ensures.keeps.count d.ensures.keeps.atoms
          (names_kept i.rows.entries es i.empty d.ensures.keeps.clauses c.self.invariant.kept.empty_is) tight;
      waits = record { apart = c.drop_from.ensures.apart d.ensures.room.apart; room = omega (arith, d.ensures.room.room, c.drop_from.ensures.room) };
      moves = subst (HasRoomToMove es) (sym (d.ensures.keeps.rooms ∙ ap rooms c.deref_mut.ensures.value)) (moves_shaped i.rows.entries es (rooms i.lists.items) d.ensures.keeps.shape c.self.invariant.moves);
    })

pub invariant_of-self-in-False : goal.invariant_of-self-in-False
invariant_of-self-in-False c =
    let i = c.self.inside in
    let d = c.drive-reached in
    let es = d.new.rows.entries in
    let lists = bare d.new.lists in
    let p' : Parts = record { entries = es; lists = lists; steps = d.new.trail.steps } in
    let ws = d.new.waiting.items in
    let gives : DriveGives i.trail.atoms i.trail.depth p' d.result.1 ws (FalseClause c.in-False.row) = subst (λ r. DriveGives i.trail.atoms i.trail.depth p' d.result.1 ws r) c.in-False.is d.ensures.gives in
    let tight : IsTight (all_filled es) lists d.new.trail d.result.1 ws =
    subst (λ xs. IsTight xs lists d.new.trail d.result.1 ws) (sym (whole es (none_empty i.trail.atoms es lists gives.0.watch)))
    (tight-driven es lists i.trail d.new.trail d.result.1 ws d.ensures.keeps.atoms d.ensures.keeps.depth gives.0) in
    lists_back d.new.lists i.lists.items i.lists.len (λ ls. IsRoomy es ls d.new.trail d.result.1 ws (vec_capacity d.new.waiting) i.empty) (omega (arith, d.auto.lists, c.deref_mut.ensures.len)) (record {
      kept = IsKept-settled i.rows.entries es (bare i.lists.items) lists i.trail d.new.trail i.head d.result.1 i.waiting.items ws i.empty c.self.invariant.kept d.ensures.keeps.grows d.ensures.keeps.clauses d.ensures.keeps.count d.ensures.keeps.atoms
          (names_kept i.rows.entries es i.empty d.ensures.keeps.clauses c.self.invariant.kept.empty_is) tight;
      waits = d.ensures.room;
      moves = subst (HasRoomToMove es) (sym (d.ensures.keeps.rooms ∙ ap rooms c.deref_mut.ensures.value)) (moves_shaped i.rows.entries es (rooms i.lists.items) d.ensures.keeps.shape c.self.invariant.moves);
    })

pub drive-reached-requires-clause-watching : goal.drive-reached-requires-clause-watching
drive-reached-requires-clause-watching c =
    let i = c.self.inside in
    let es : all_filled i.rows.entries ≡ i.rows.entries = whole i.rows.entries (none_kept i.rows.entries (rw (← c.self.view_is) at c.requires)) in
    rw c.deref_mut.ensures.value (subst (λ xs. IsTight xs (bare i.lists.items) i.trail i.head i.waiting.items) es c.self.invariant.kept.tight).watch

pub drive-reached-requires-clause-rested : goal.drive-reached-requires-clause-rested
drive-reached-requires-clause-rested c =
    let i = c.self.inside in
    let es : all_filled i.rows.entries ≡ i.rows.entries = whole i.rows.entries (none_kept i.rows.entries (rw (← c.self.view_is) at c.requires)) in
    (subst (λ xs. IsTight xs (bare i.lists.items) i.trail i.head i.waiting.items) es c.self.invariant.kept.tight).rested

pub drive-reached-requires-clause-move_room : goal.drive-reached-requires-clause-move_room
drive-reached-requires-clause-move_room c = rw c.deref_mut.ensures.value c.self.invariant.moves

pub drive-reached-requires-clause-room : goal.drive-reached-requires-clause-room
drive-reached-requires-clause-room c = c.self.invariant.waits

pub returns-in-Fixpoint : goal.returns-in-Fixpoint
returns-in-Fixpoint c = record {
  reached = search rules;
  looks = search rules;
  settled =
      (let i = c.self.inside in
      let d = c.drive-reached in
      let p' : Parts = record { entries = d.new.rows.entries; lists = bare d.new.lists; steps = d.new.trail.steps } in
      let gives : DriveGives i.trail.atoms i.trail.depth p' d.result.1 d.new.waiting.items Fixpoint = subst (λ r. DriveGives i.trail.atoms i.trail.depth p' d.result.1 d.new.waiting.items r) c.in-Fixpoint.is d.ensures.gives in
      gives.2);
  bounded = rw (← c.self.view_is) c.drive-reached.ensures.looks;
  outcome =
      (let i = c.self.inside in
      let d = c.drive-reached in
      let p' : Parts = record { entries = d.new.rows.entries; lists = bare d.new.lists; steps = d.new.trail.steps } in
      let gives : DriveGives i.trail.atoms i.trail.depth p' d.result.1 d.new.waiting.items Fixpoint = subst (λ r. DriveGives i.trail.atoms i.trail.depth p' d.result.1 d.new.waiting.items r) c.in-Fixpoint.is d.ensures.gives in
      all_quiet i.trail.atoms p' gives.0.watch gives.1);
}

pub returns-in-False : goal.returns-in-False
returns-in-False c = record {
  reached = search rules;
  looks = search rules;
  settled = search rules;
  bounded = rw (← c.self.view_is) c.drive-reached.ensures.looks;
  outcome =
      (let i = c.self.inside in
      let d = c.drive-reached in
      let p' : Parts = record { entries = d.new.rows.entries; lists = bare d.new.lists; steps = d.new.trail.steps } in
      let gives : DriveGives i.trail.atoms i.trail.depth p' d.result.1 d.new.waiting.items (FalseClause c.in-False.row) = subst (λ r. DriveGives i.trail.atoms i.trail.depth p' d.result.1 d.new.waiting.items r) c.in-False.is d.ensures.gives in
      false_kept p' c.in-False.row gives.1);
}
