use Rattle.std.proofs.Common.{◌∙◌, ◌<◌, ◌≤◌, ◌++◌, ◌∷◌, [], true, refl, length, subst, sym, arith}
use Rattle.std.proofs.lemmas.List.{length_push}
use Rattle.std.proofs.lemmas.List.Elements.{All-contains}
use Rattle.clause_store.specs.Looks.{AreApart}
use Rattle.clause_store.specs.Room.{rows_of}
use Rattle.clause_store.proofs.Numbers.{few_wait, apart_fresh}
use Rattle.clause_store.specs.Choosing.{EnlistsBoth}
use Rattle.clause_store.specs.declared.waits.Wait.{Wait}
use Rattle.clause_store.specs.Entries.{Entry, bare, rooms}
use Rattle.clause_store.specs.Room.{HasPlace}
use Rattle.clause_store.specs.Empties.{all_filled}
use Rattle.clause_store.proofs.Empties.{length_filled, filled_push}
use Rattle.clause_store.proofs.Adding.{keeps-awake, keeps-waits}
use Rattle.clause_store.proofs.choose.keep_up.Goals as goal

pub returns-in-Awake-clause-keeps : goal.returns-in-Awake-clause-keeps
returns-in-Awake-clause-keeps c =
    let k = c.choose-choice.result in
    let both : EnlistsBoth (bare c.args.lists.now) (bare c.enlist_both.new.lists) k.first k.second (length (all_filled c.args.rows.now.entries)) = subst (EnlistsBoth (bare c.args.lists.now) (bare c.enlist_both.new.lists) k.first k.second) (c.len-row.ensures ∙ sym (length_filled c.args.rows.now.entries)) c.enlist_both.ensures.lists in
    let e : Entry = record { literals = c.args.literals.now; first = k.first; second = k.second; level = c.args.level; live = true } in
    rw (c.in_ok-push.ensures.added, filled_push c.args.rows.now.entries e c.requires.some)
    (keeps-awake c.args.trail.now.atoms c.args.trail.now.steps (all_filled c.args.rows.now.entries) (bare c.args.lists.now) (bare c.enlist_both.new.lists) c.args.literals.now c.args.level k c.args.waiting.now.items c.requires.known c.choose-choice.ensures
    both c.in-Awake.is)

pub returns-in-Waits-clause-keeps : goal.returns-in-Waits-clause-keeps
returns-in-Waits-clause-keeps c =
    let k = c.choose-choice.result in
    let both : EnlistsBoth (bare c.args.lists.now) (bare c.enlist_both.new.lists) k.first k.second (length (all_filled c.args.rows.now.entries)) = subst (EnlistsBoth (bare c.args.lists.now) (bare c.enlist_both.new.lists) k.first k.second) (c.len-row.ensures ∙ sym (length_filled c.args.rows.now.entries)) c.enlist_both.ensures.lists in
    let x : Wait = record { row = c.len-row.result; literal = k.first; depth = c.in-Waits.depth } in
    let e : Entry = record { literals = c.args.literals.now; first = k.first; second = k.second; level = c.args.level; live = true } in
    rw (c.in_ok-push.ensures.added, filled_push c.args.rows.now.entries e c.requires.some, c.push_wait.ensures.items)
    (keeps-waits c.args.trail.now.atoms c.args.trail.now.steps (all_filled c.args.rows.now.entries) (bare c.args.lists.now) (bare c.enlist_both.new.lists) c.args.literals.now c.args.level c.in-Waits.depth k c.args.waiting.now.items x c.requires.known c.choose-choice.ensures
    both c.in-Waits.is (c.len-row.ensures ∙ sym (length_filled c.args.rows.now.entries)) refl refl)

pub push_wait-requires : goal.push_wait-requires
push_wait-requires c =
    let few : length c.args.waiting.now.items ≤ length c.args.rows.now.entries = few_wait c.args.waiting.now.items (length c.args.rows.now.entries) c.requires.waiting.apart c.requires.within in
    omega (arith, c.args.waiting.now.ok, c.requires.one_more)

pub returns-in-Waits-clause-waiting : goal.returns-in-Waits-clause-waiting
returns-in-Waits-clause-waiting c =
    let k = c.choose-choice.result in
    let e : Entry = record { literals = c.args.literals.now; first = k.first; second = k.second; level = c.args.level; live = true } in
    let x : Wait = record { row = c.len-row.result; literal = k.first; depth = c.in-Waits.depth } in
    let apart : AreApart (rows_of (c.args.waiting.now.items ++ x ∷ [])) =
    apart_fresh c.args.waiting.now.items x c.requires.waiting.apart (λ w m y. let lt : w.row < length c.args.rows.now.entries = All-contains (λ (v : Wait). v.row < length c.args.rows.now.entries) c.args.waiting.now.items w c.requires.within m in omega (arith, y, c.len-row.ensures)) in
    record {
      apart = rw c.push_wait.ensures.items apart;
      room = rw c.in_ok-push.ensures.added (omega (arith, length_push c.args.rows.now.entries e, c.requires.one_more, c.push_wait.ensures.room));
    }

pub returns-in-Awake-clause-waiting : goal.returns-in-Awake-clause-waiting
returns-in-Awake-clause-waiting c =
    let k = c.choose-choice.result in
    let e : Entry = record { literals = c.args.literals.now; first = k.first; second = k.second; level = c.args.level; live = true } in
    record { apart = c.requires.waiting.apart; room = rw c.in_ok-push.ensures.added (omega (arith, length_push c.args.rows.now.entries e, c.requires.one_more)) }

pub enlist_both-requires-clause-first_room : goal.enlist_both-requires-clause-first_room
enlist_both-requires-clause-first_room c = All-contains (HasPlace (bare c.args.lists.now) (rooms c.args.lists.now)) c.args.literals.now c.choose-choice.result.first c.requires.places c.choose-choice.ensures.first

pub enlist_both-requires-clause-second_room : goal.enlist_both-requires-clause-second_room
enlist_both-requires-clause-second_room c = All-contains (HasPlace (bare c.args.lists.now) (rooms c.args.lists.now)) c.args.literals.now c.choose-choice.result.second c.requires.places c.choose-choice.ensures.second
