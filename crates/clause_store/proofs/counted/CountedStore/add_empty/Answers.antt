use Rattle.std.proofs.Common.{rules, ◌<◌, ◌++◌, ◌∷◌, [], true, All, Some, subst, sym, refl, arith}
use Rattle.std.proofs.lemmas.List.{length_push}
use Rattle.literals.specs.Signed.{Signed}
use Rattle.clause_store.specs.Entries.{Entry, bare, rooms}
use Rattle.clause_store.proofs.Rooms.{moves_empty}
use Rattle.clause_store.specs.Empties.{NamesEmpty}
use Rattle.clause_store.proofs.Stores.{IsKept-gains, stored_more, gains_new}
use Rattle.clause_store.proofs.Empties.{names_new, tight-empty}
use Rattle.clause_store.proofs.counted.CountedStore.add_empty.Goals as goal

pub invariant_of-self-in-Ok : goal.invariant_of-self-in-Ok
invariant_of-self-in-Ok c =
    let i = c.self.inside in
    let e : Entry = record { literals = c.args.literals.now; first = c.new-zero.result; second = c.new-zero.result; level = c.args.level; live = true } in
    let known : All (λ (l : Signed). l.atom < i.trail.atoms) c.args.literals.now = subst (All (λ (l : Signed). l.atom < i.trail.atoms)) (sym c.requires.none) (λ k d lt. absurd (omega (arith, lt))) in
    let names : NamesEmpty (i.rows.entries ++ e ∷ []) (Some c.len-row.result) = subst (λ n. NamesEmpty (i.rows.entries ++ e ∷ []) (Some n)) (sym c.len-row.ensures) (names_new i.rows.entries e refl c.requires.none) in
    rw (c.in-Ok.ensures.added, c.make_room_to_wait.ensures.items) (record {
      kept =
          (IsKept-gains i.rows.entries (i.rows.entries ++ e ∷ []) c.args.literals.now c.args.level (bare i.lists.items) (bare i.lists.items) i.trail i.head i.waiting.items i.waiting.items i.empty (Some c.len-row.result) (gains_new i.rows.entries e refl) c.self.invariant.kept
          known (omega arith) names (tight-empty i.rows.entries e (bare i.lists.items) i.trail i.head i.waiting.items c.requires.none c.self.invariant.kept.tight));
      waits = record { apart = c.self.invariant.waits.apart; room = omega (arith, length_push i.rows.entries e, c.len-row.ensures, c.make_room_to_wait.ensures.room c.if-not-make_room_to_wait.false) };
      moves = moves_empty i.rows.entries e (rooms i.lists.items) c.requires.none c.self.invariant.moves;
    })

pub returns-in-Ok : goal.returns-in-Ok
returns-in-Ok c = record {
  added =
      (let i = c.self.inside in
      let e : Entry = record { literals = c.args.literals.now; first = c.new-zero.result; second = c.new-zero.result; level = c.args.level; live = true } in
      rw (c.in-Ok.ensures.added, ← c.self.view_is, c.len-row.ensures) (stored_more i.rows.entries (i.rows.entries ++ e ∷ []) c.args.literals.now c.args.level i.trail (gains_new i.rows.entries e refl)));
  same = search rules;
  settled = search rules;
  looks = search rules;
}
