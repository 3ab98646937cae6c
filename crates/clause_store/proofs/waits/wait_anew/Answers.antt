use Rattle.std.proofs.Common.{◌<◌, ◌∷◌, [], List, All, length, get_or, sym, inl, inr, arith}
use Rattle.std.proofs.lemmas.List.{get_or_default}
use Rattle.std.proofs.lemmas.List.Elements.{All-contains, Contains-append_left, Contains-push_cases}
use Rattle.clause_store.specs.declared.waits.Wait.{Wait}
use Rattle.clause_store.proofs.Numbers.{few_fresh, apart_fresh}
use Rattle.clause_store.proofs.waits.wait_anew.Goals as goal

pub push_wait-requires : goal.push_wait-requires
push_wait-requires c =
    let ws : List Wait = c.drop_of.new.waiting.items in
    let n = c.requires.room.0 in
    let all : All (λ (w : Wait). w.row < n) ws = λ k d lt. All-contains (λ (w : Wait). w.row < n) c.args.waiting.now.items (get_or ws k d) c.requires.room.2 (c.drop_of.ensures.only (get_or ws k d) (k, lt, get_or_default ws k (get_or ws k d) d lt)).0 in
    let few : length ws < n = few_fresh ws c.args.wait n (c.drop_of.ensures.apart c.requires.apart) all c.requires.room.1 (λ x m. (c.drop_of.ensures.only x m).1) in
    omega (arith, c.drop_of.new.waiting.ok, c.drop_of.ensures.room, c.requires.room.3)

pub returns-clause-keeps : goal.returns-clause-keeps
returns-clause-keeps c = λ w m ne. rw c.push_wait.ensures.items (Contains-append_left c.drop_of.new.waiting.items (c.args.wait ∷ []) w (c.drop_of.ensures.keeps w m ne))

pub returns-clause-only : goal.returns-clause-only
returns-clause-only c = λ w m. elim (Contains-push_cases c.drop_of.new.waiting.items c.args.wait w (rw c.push_wait.ensures.items at m)) [
  | inl old ↦ inl (c.drop_of.ensures.only w old).0
  | inr same ↦ inr (sym same)
]

pub returns-clause-apart : goal.returns-clause-apart
returns-clause-apart c = rw c.push_wait.ensures.items (apart_fresh c.drop_of.new.waiting.items c.args.wait (c.drop_of.ensures.apart c.requires.apart) (λ x m. (c.drop_of.ensures.only x m).1))
