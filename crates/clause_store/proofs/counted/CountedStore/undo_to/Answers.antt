use Rattle.std.proofs.Common.{◌≡◌, ◌≤◌, List, length, min, subst, ap, arith, ◌∙◌}
use Rattle.std.proofs.lemmas.List.Elements.{All-weaker}
use Rattle.clause_store.specs.Assigned.{Assigned}
use Rattle.clause_store.specs.Trail.{up_to}
use Rattle.clause_store.specs.Entries.{bare}
use Rattle.clause_store.specs.Empties.{all_filled}
use Rattle.clause_store.specs.Keeping.{IsTight}
use Rattle.clause_store.specs.declared.trail.Step.{Step}
use Rattle.clause_store.proofs.Depths.{up_to-all}
use Rattle.clause_store.proofs.Stores.{IsKept-undo, tight-same, tight-undo}
use Rattle.clause_store.proofs.counted.CountedStore.undo_to.Goals as goal

pub invariant_of-self : goal.invariant_of-self
invariant_of-self c =
    let i = c.self.inside in
    let le : c.args.depth ≤ i.trail.depth = rw (← c.self.view_is) at c.requires in
    let ge : i.trail.depth ≤ c.args.depth = subst (λ n. n ≤ c.args.depth) c.depth-before.ensures c.if-depth-before.true in
    record {
      kept =
          IsKept-undo i.rows.entries (bare i.lists.items) i.trail c.undo_to.new.self c.undo_to.ensures.front.0 i.head i.head i.waiting.items i.waiting.items i.empty c.self.invariant.kept
          (ap (λ (t : Assigned). t.atoms) c.undo_to.ensures.undone) c.undo_to.ensures.front.1
          (rw c.undo_to.ensures.undone (tight-same (all_filled i.rows.entries) (bare i.lists.items) i.trail c.args.depth i.head i.waiting.items le ge c.self.invariant.kept.tight));
      waits = c.self.invariant.waits;
      moves = c.self.invariant.moves;
    }

pub returns-then-depth-before-clause-settled : goal.returns-then-depth-before-clause-settled
returns-then-depth-before-clause-settled c =
    let i = c.self.inside in
    let tight : IsTight (all_filled i.rows.entries) (bare i.lists.items) i.trail i.head i.waiting.items = c.self.invariant.kept.tight in
    let le : i.head ≤ length i.trail.steps = tight.rested.head_within in
    let ge : i.trail.depth ≤ c.args.depth = subst (λ n. n ≤ c.args.depth) c.depth-before.ensures c.if-depth-before.true in
    let all : up_to c.args.depth i.trail.steps ≡ i.trail.steps =
    up_to-all c.args.depth i.trail.steps (All-weaker (λ (s : Step). s.depth ≤ i.trail.depth) (λ (s : Step). s.depth ≤ c.args.depth) (λ s x. omega arith) i.trail.steps tight.rested.deepest) in
    let steps : c.undo_to.new.self.steps ≡ i.trail.steps = ap (λ (t : Assigned). t.steps) c.undo_to.ensures.undone ∙ all in
    let r : i.head ≡ min i.head (length c.undo_to.new.self.steps) = omega (arith, ap (λ (xs : List Step). length xs) steps) in
    rw (← c.self.view_is) r

pub invariant_of-self-2 : goal.invariant_of-self-2
invariant_of-self-2 c =
    let i = c.self.inside in
    let steps : c.undo_to.new.self.steps ≡ up_to c.args.depth i.trail.steps = ap (λ (t : Assigned). t.steps) c.undo_to.ensures.undone in
    let n = c.least-self-inside.result in
    let is : n ≡ min i.head (length (up_to c.args.depth i.trail.steps)) = c.least-self-inside.ensures ∙ ap (λ xs. min i.head (length xs)) (c.steps.ensures.steps ∙ steps) in
    record {
      kept =
          IsKept-undo i.rows.entries (bare i.lists.items) i.trail c.undo_to.new.self c.undo_to.ensures.front.0 i.head n i.waiting.items c.drop_from.new.waiting.items i.empty c.self.invariant.kept
          (ap (λ (t : Assigned). t.atoms) c.undo_to.ensures.undone) c.undo_to.ensures.front.1
          (rw c.undo_to.ensures.undone
          (tight-undo (all_filled i.rows.entries) (bare i.lists.items) i.trail c.args.depth i.head n i.waiting.items c.drop_from.new.waiting.items (omega arith) (omega arith) c.drop_from.ensures.keeps c.drop_from.ensures.only c.self.invariant.kept.tight));
      waits = record { apart = c.drop_from.ensures.apart c.self.invariant.waits.apart; room = omega (arith, c.drop_from.ensures.room, c.self.invariant.waits.room) };
      moves = c.self.invariant.moves;
    }
