-- A level of assertions above a stack, as it comes and goes.
use Rattle.std.proofs.Common.{◌≡◌, ◌∙◌, sym, ap, ap₂, subst, ℕ, ◌+◌, ◌-◌, ◌<◌, Bool, List, [], ◌∷◌, ◌++◌, map, length, replicate, take, arith}
use Rattle.std.proofs.lemmas.List.{length-append, length-take-le}
use Rattle.smt_meaning.specs.declared.values.Sort.{Sort}
use Rattle.smt_meaning.specs.Stack.{Assertion as Asserted, Frame, depth}
use Rattle.smt_meaning.specs.State.{frame_of}
use Rattle.smt_meaning.specs.StackCommand.{Stack}
use Rattle.smt_meaning.specs.Term.{Tree}
use Rattle.smt_sorts.specs.Names.{Names, with_levels, without_levels}
use Rattle.term_store.specs.Terms.{Terms}
use Rattle.scope_stack.specs.declared.answers.Assertion.{Assertion}
use Rattle.scope_stack.specs.Inside.{asserted_by, frames_by, stack_by}
use Rattle.scope_stack.specs.Carries.{under}
use Rattle.scope_stack.specs.Raised.{MayAssertAbove, StandsAbove}
use Rattle.scope_stack.specs.Seen.{IsSeen}
use Rattle.scope_stack.specs.Shown.{IsLawful}
use Rattle.scope_stack.proofs.BackLemmas.{without_last}
use Rattle.scope_stack.proofs.FactLemmas.{facts_popped, facts_pushed}
use Rattle.scope_stack.proofs.FrameLemmas.{frames-above, frames-taken, length-frames, within-above, within-taken}
use Rattle.scope_stack.proofs.LevelSteps.{levels_popped, levels_pushed}
use Rattle.scope_stack.proofs.StackLemmas.{depth-stack}

module _ (global : Bool) (t : Names) (store : Terms) (xss : List (List Assertion)) (rs : List Sort) (ls : List ℕ) (h : IsSeen global t store xss rs ls) where
  -- ---- it comes

  module _ (ys : List Assertion) where
    pub raised_is : stack_by global (with_levels 1 t) store.trees (xss ++ ys ∷ []) ≡ under (map (asserted_by store.trees) ys) (stack_by global t store.trees xss)
    raised_is = ap (λ (fs : List Frame). record { frames = fs; given = t.given; trees = store.trees; global = global }) (frames-above store.trees ys t.levels xss h.stack.as_many)

    pub raised_keeps : MayAssertAbove ys (stack_by global t store.trees xss) → IsSeen global (with_levels 1 t) store (xss ++ ys ∷ []) rs ls
    raised_keeps may =
        let levels : length (t.levels ++ replicate 1 []) ≡ length t.levels + 1 = length-append t.levels (replicate 1 []) in
        let lists : length (xss ++ ys ∷ []) ≡ length xss + 1 = length-append xss (ys ∷ []) in
        let at : depth (frames_by store.trees t.levels xss) ≡ length t.levels - 1 = depth-stack t store.trees xss in
        record {
          stack = record {
            limit = h.stack.limit;
            as_many = omega (arith, levels, lists, h.stack.as_many);
            some = omega (arith, levels);
            few = omega (arith, levels, at, may.room, h.stack.some);
            within = within-above store.trees ys xss h.stack.within may.within;
          };
          lawful = subst IsLawful (sym raised_is) may.lawful;
          facts = facts_pushed t 1 store.trees (length store.trees) rs h.facts;
          levels = levels_pushed t 1 store.trees (length store.trees) ls h.levels;
        }

  pub raised_stands : (ys : List Assertion) (new : Stack) → new ≡ under (map (asserted_by store.trees) ys) (stack_by global t store.trees xss) → StandsAbove new
  raised_stands ys new e =
      let levels : length (frames_by store.trees t.levels xss) ≡ length t.levels = length-frames store.trees t.levels xss in
      record { asserted = map (asserted_by store.trees) ys; old = stack_by global t store.trees xss; some = omega (arith, levels, h.stack.some); lawful = h.lawful; new_is = e }

  -- ---- it goes

  pub lowered_is : (xs : List Asserted) (old : Stack) → stack_by global t store.trees xss ≡ under xs old → stack_by global (without_levels 1 t) store.trees (take (length xss - 1) xss) ≡ old
  lowered_is xs old e =
      let frames : frames_by store.trees (without_levels 1 t).levels (take (length xss - 1) xss) ≡ old.frames =
      ap (λ m. frames_by store.trees (take (length t.levels - 1) t.levels) (take (m - 1) xss)) h.stack.as_many
      ∙ frames-taken store.trees (length t.levels - 1) t.levels xss h.stack.as_many
      ∙ ap (λ m. take (m - 1) (frames_by store.trees t.levels xss)) (sym (length-frames store.trees t.levels xss))
      ∙ ap (λ (fs : List Frame). take (length fs - 1) fs) (ap (λ (s : Stack). s.frames) e)
      ∙ without_last old.frames (frame_of xs) in
      ap₂ (λ (fs : List Frame) (n : ℕ). record { frames = fs; given = n; trees = store.trees; global = global }) frames (ap (λ (s : Stack). s.given) e)
      ∙ ap₂ (λ (ts : List Tree) (b : Bool). record { frames = old.frames; given = old.given; trees = ts; global = b }) (ap (λ (s : Stack). s.trees) e) (ap (λ (s : Stack). s.global) e)

  pub two_levels : StandsAbove (stack_by global t store.trees xss) → 1 < length t.levels
  two_levels k =
      let frames : length (frames_by store.trees t.levels xss) ≡ length (k.old.frames ++ frame_of k.asserted ∷ []) = ap (λ (s : Stack). length s.frames) k.new_is in
      let more' : length (k.old.frames ++ frame_of k.asserted ∷ []) ≡ length k.old.frames + 1 = length-append k.old.frames (frame_of k.asserted ∷ []) in
      let levels : length (frames_by store.trees t.levels xss) ≡ length t.levels = length-frames store.trees t.levels xss in
      omega (arith, frames, more', levels, k.some)

  pub lowered_keeps : StandsAbove (stack_by global t store.trees xss) → IsSeen global (without_levels 1 t) store (take (length xss - 1) xss) rs ls
  lowered_keeps k =
      let many : length (take (length t.levels - 1) t.levels) ≡ length t.levels - 1 = length-take-le (length t.levels - 1) t.levels (omega arith) in
      let lists : length (take (length xss - 1) xss) ≡ length xss - 1 = length-take-le (length xss - 1) xss (omega arith) in
      let two : 1 < length t.levels = two_levels k in
      record {
        stack = record {
          limit = h.stack.limit;
          as_many = omega (arith, many, lists, h.stack.as_many);
          some = omega (arith, many, two);
          few = omega (arith, many, h.stack.few);
          within = within-taken store.trees (length xss - 1) xss h.stack.within;
        };
        lawful = subst IsLawful (sym (lowered_is k.asserted k.old k.new_is)) k.lawful;
        facts = facts_popped t 1 store.trees (length store.trees) rs h.facts;
        levels = levels_popped t 1 store.trees (length store.trees) ls h.levels;
      }
