-- A stack after its parts have changed.
use Rattle.std.proofs.Common.{◌≡◌, ◌∙◌, sym, refl, ap, subst, Bool, true, false, nat_eq, if◌then◌else◌, ℕ, ◌+◌, ◌-◌, ◌<◌, ◌≤◌, ℤ, unsigned_abs, List, [], ◌∷◌, ◌++◌, take, length, replicate, arith}
use Rattle.std.proofs.lemmas.List.{length-append, length-replicate, length-take-le}
use Rattle.std.proofs.lemmas.List.Elements.{All-nil}
use Rattle.smt_meaning.specs.declared.commands.Command.TheVariants.{SetOption, Push, Pop, ResetAssertions}
use Rattle.smt_meaning.specs.declared.options.OptionSetting.TheVariants.{GlobalDeclarations}
use Rattle.smt_meaning.specs.Declaration.{Declaration}
use Rattle.smt_meaning.specs.Term.{Tree}
use Rattle.smt_meaning.specs.Sorts.{Scope, done, return}
use Rattle.smt_meaning.specs.Stack.{base_of as frames_base_of, depth, signature_of, Frame}
use Rattle.smt_meaning.specs.StackCommand.{Stack, Change, pushes, pops, clears, sets, scope_of, judged, judged_is, changed, push_levels, pop_levels, most_levels}
use Rattle.smt_sorts.specs.Names.{Names, with_levels, without_levels, cleared, base_of, based, no_names, signature}
use Rattle.term_store.specs.Terms.{Terms}
use Rattle.scope_stack.specs.declared.answers.Assertion.{Assertion}
use Rattle.scope_stack.specs.Inside.{frames_by, stack_by, IsStack, IsReached, IsWithin}
use Rattle.scope_stack.specs.Carries.{IsDone}
use Rattle.scope_stack.specs.Judged.{scope_by}
use Rattle.scope_stack.proofs.FrameLemmas.{signature-frames, length-frames, frames-base, frames-pushed, frames-taken, within-pushed, within-taken}
use Rattle.scope_stack.proofs.LevelCommands.{push_done, pop_done}
use Rattle.scope_stack.proofs.Reach.{start_reached, done_reached}

pub signature-stack : (t : Names) (ts : List Tree) (xss : List (List Assertion)) → signature_of (frames_by ts t.levels xss) ≡ signature t
signature-stack t ts xss = signature-frames ts t.levels xss

pub depth-stack : (t : Names) (ts : List Tree) (xss : List (List Assertion)) → depth (frames_by ts t.levels xss) ≡ length t.levels - 1
depth-stack t ts xss = ap (λ n. n - 1) (length-frames ts t.levels xss)

pub scope-stack : (global : Bool) (t : Names) (ts : List Tree) (xss : List (List Assertion)) → scope_of (stack_by global t ts xss) ≡ scope_by t ts
scope-stack global t ts xss = ap (λ ds. record { signature = ds; given = t.given; trees = ts }) (signature-stack t ts xss)

may_push : (global : Bool) (t : Names) (store : Terms) (xss : List (List Assertion)) (n : ℕ) → length t.levels + n ≤ most_levels + 1 → 0 < length t.levels
    → judged (λ level. push_levels level n) (stack_by global t store.trees xss) ≡ done (pushes n) (scope_of (stack_by global t store.trees xss))
may_push global t store xss n le some = push_done (stack_by global t store.trees xss) n (let d : depth (stack_by global t store.trees xss).frames ≡ length t.levels - 1 = depth-stack t store.trees xss in omega (arith, d, le, some))

may_pop : (global : Bool) (t : Names) (store : Terms) (xss : List (List Assertion)) (n : ℕ) → n < length t.levels
    → judged (λ level. pop_levels level n) (stack_by global t store.trees xss) ≡ done (pops n) (scope_of (stack_by global t store.trees xss))
may_pop global t store xss n lt = pop_done (stack_by global t store.trees xss) n (let d : depth (stack_by global t store.trees xss).frames ≡ length t.levels - 1 = depth-stack t store.trees xss in omega (arith, d, lt))

-- what needs no judgement
judged_always : (x : Change) (s : Stack) → judged (λ level. return x) s ≡ done x (scope_of s)
unfolding return
judged_always x s = judged_is _ s

-- where declarations are global or not
module _ {global : Bool} where
  -- ---- levels

  pushed-stack : (t : Names) (ts : List Tree) (xss : List (List Assertion)) (n : ℕ) (c : Scope) → length xss ≡ length t.levels
      → stack_by global (with_levels n t) ts (xss ++ replicate n []) ≡ changed (stack_by global t ts xss) (pushes n) c
  pushed-stack t ts xss n c e = ap (λ (fs : List Frame). record { frames = fs; given = t.given; trees = ts; global = global }) (frames-pushed ts n t.levels xss e)

  pub push_is : (count : ℤ) (t : Names) (store : Terms) (xss : List (List Assertion)) → IsStack global t store xss → length t.levels + unsigned_abs count ≤ most_levels + 1
      → IsDone (λ level. push_levels level (unsigned_abs count)) (stack_by global t store.trees xss) (stack_by global (with_levels (unsigned_abs count) t) store.trees (xss ++ replicate (unsigned_abs count) []))
  push_is count t store xss h le =
      record {
        change = pushes (unsigned_abs count);
        scope = scope_of (stack_by global t store.trees xss);
        plain = refl;
        is_judged = may_push global t store xss (unsigned_abs count) le h.some;
        new_is = pushed-stack t store.trees xss (unsigned_abs count) (scope_of (stack_by global t store.trees xss)) h.as_many;
      }

  pub push_keeps : (count : ℤ) (t : Names) (store : Terms) (xss : List (List Assertion)) → IsStack global t store xss → length t.levels + unsigned_abs count ≤ most_levels + 1
      → IsStack global (with_levels (unsigned_abs count) t) store (xss ++ replicate (unsigned_abs count) [])
  push_keeps count t store xss h le =
      let n = unsigned_abs count in
      let levels : length (t.levels ++ replicate n []) ≡ length t.levels + n = length-append t.levels (replicate n []) ∙ ap (λ m. length t.levels + m) (length-replicate n []) in
      let lists : length (xss ++ replicate n []) ≡ length xss + n = length-append xss (replicate n []) ∙ ap (λ m. length xss + m) (length-replicate n []) in
      record {
        limit = h.limit;
        as_many = omega (arith, levels, lists, h.as_many);
        some = omega (arith, levels, h.some);
        few = omega (arith, levels, le);
        within = within-pushed store.trees n xss h.within;
        reached = subst IsReached (sym (pushed-stack t store.trees xss n (scope_of (stack_by global t store.trees xss)) h.as_many))
            (done_reached (stack_by global t store.trees xss) (Push count) (λ level. push_levels level n) (pushes n) (scope_of (stack_by global t store.trees xss)) refl (may_push global t store xss n le h.some) h.reached);
      }

  popped-stack : (t : Names) (ts : List Tree) (xss : List (List Assertion)) (n : ℕ) (c : Scope) → length xss ≡ length t.levels
      → stack_by global (without_levels n t) ts (take (length xss - n) xss) ≡ changed (stack_by global t ts xss) (pops n) c
  popped-stack t ts xss n c e =
      ap (λ (fs : List Frame). record { frames = fs; given = t.given; trees = ts; global = global })
      (ap (λ m. frames_by ts (take (length t.levels - n) t.levels) (take (m - n) xss)) e
      ∙ frames-taken ts (length t.levels - n) t.levels xss e
      ∙ ap (λ m. take (m - n) (frames_by ts t.levels xss)) (sym (length-frames ts t.levels xss)))

  pub pop_is : (count : ℤ) (t : Names) (store : Terms) (xss : List (List Assertion)) → IsStack global t store xss → unsigned_abs count < length t.levels
      → IsDone (λ level. pop_levels level (unsigned_abs count)) (stack_by global t store.trees xss) (stack_by global (without_levels (unsigned_abs count) t) store.trees (take (length xss - unsigned_abs count) xss))
  pop_is count t store xss h lt =
      record {
        change = pops (unsigned_abs count);
        scope = scope_of (stack_by global t store.trees xss);
        plain = refl;
        is_judged = may_pop global t store xss (unsigned_abs count) lt;
        new_is = popped-stack t store.trees xss (unsigned_abs count) (scope_of (stack_by global t store.trees xss)) h.as_many;
      }

  pub pop_keeps : (count : ℤ) (t : Names) (store : Terms) (xss : List (List Assertion)) → IsStack global t store xss → unsigned_abs count < length t.levels
      → IsStack global (without_levels (unsigned_abs count) t) store (take (length xss - unsigned_abs count) xss)
  pop_keeps count t store xss h lt =
      let n = unsigned_abs count in
      let levels : length (take (length t.levels - n) t.levels) ≡ length t.levels - n = length-take-le (length t.levels - n) t.levels (omega arith) in
      let lists : length (take (length xss - n) xss) ≡ length xss - n = length-take-le (length xss - n) xss (omega arith) in
      record {
        limit = h.limit;
        as_many = omega (arith, levels, lists, h.as_many);
        some = omega (arith, levels, lt);
        few = omega (arith, levels, h.few);
        within = within-taken store.trees (length xss - n) xss h.within;
        reached = subst IsReached (sym (popped-stack t store.trees xss n (scope_of (stack_by global t store.trees xss)) h.as_many))
            (done_reached (stack_by global t store.trees xss) (Pop count) (λ level. pop_levels level n) (pops n) (scope_of (stack_by global t store.trees xss)) refl (may_pop global t store xss n lt) h.reached);
      }

  -- ---- clearing

  cleared_reached : (t : Names) (store : Terms) (xss : List (List Assertion)) → IsStack global t store xss
      → IsReached (changed (stack_by global t store.trees xss) clears (scope_of (stack_by global t store.trees xss)))
  cleared_reached t store xss h =
      done_reached (stack_by global t store.trees xss) ResetAssertions (λ level. return clears) clears (scope_of (stack_by global t store.trees xss)) refl (judged_always clears (stack_by global t store.trees xss)) h.reached

pub clear_keeps : (t : Names) (store : Terms) (xss : List (List Assertion)) → IsStack false t store xss → IsStack false (cleared t) store ([] ∷ [])
clear_keeps t store xss h =
    record {
      limit = h.limit;
      as_many = refl;
      some = omega arith;
      few = omega arith;
      within = All-nil (IsWithin store.trees);
      reached = cleared_reached t store xss h;
    }

-- where declarations are global, those of level 0 stay
pub based-stack : (t : Names) (ts : List Tree) (xss : List (List Assertion)) → stack_by true (based t) ts ([] ∷ []) ≡ record (stack_by true t ts xss) { frames = frames_base_of (frames_by ts t.levels xss) }
based-stack t ts xss = ap (λ (fs : List Frame). record { frames = fs; given = t.given; trees = ts; global = true }) (frames-base ts t.levels xss)

one_base : (dss : List (List Declaration)) → length (base_of dss) ≡ 1
one_base [] = refl
one_base (ds ∷ dss) = refl

pub based_keeps : (t : Names) (store : Terms) (xss : List (List Assertion)) → IsStack true t store xss → IsStack true (based t) store ([] ∷ [])
based_keeps t store xss h =
    let one : length (base_of t.levels) ≡ 1 = one_base t.levels in
    record {
      limit = h.limit;
      as_many = sym one;
      some = omega (arith, one);
      few = omega (arith, one);
      within = All-nil (IsWithin store.trees);
      reached = subst IsReached (sym (based-stack t store.trees xss)) (cleared_reached t store xss h);
    }

-- ---- whether declarations are global

pub set-stack : (b global : Bool) (t : Names) (ts : List Tree) (xss : List (List Assertion)) → nat_eq (depth (frames_by ts t.levels xss)) 0 ≡ true
    → changed (stack_by global t ts xss) (sets (GlobalDeclarations b)) (scope_of (stack_by global t ts xss)) ≡ stack_by b t ts xss
set-stack b global t ts xss e =
    ap (λ (x : Bool). record (stack_by global t ts xss) { global = if x then b else global }) e

pub unset-stack : (b global : Bool) (t : Names) (ts : List Tree) (xss : List (List Assertion)) → nat_eq (depth (frames_by ts t.levels xss)) 0 ≡ false
    → changed (stack_by global t ts xss) (sets (GlobalDeclarations b)) (scope_of (stack_by global t ts xss)) ≡ stack_by global t ts xss
unset-stack b global t ts xss e =
    ap (λ (x : Bool). record (stack_by global t ts xss) { global = if x then b else global }) e

pub set_keeps : (b global : Bool) (t : Names) (store : Terms) (xss : List (List Assertion)) → nat_eq (depth (frames_by store.trees t.levels xss)) 0 ≡ true → IsStack global t store xss → IsStack b t store xss
set_keeps b global t store xss e h =
    record {
      limit = h.limit;
      as_many = h.as_many;
      some = h.some;
      few = h.few;
      within = h.within;
      reached = subst IsReached (set-stack b global t store.trees xss e)
          (done_reached (stack_by global t store.trees xss) (SetOption (GlobalDeclarations b)) (λ level. return (sets (GlobalDeclarations b))) (sets (GlobalDeclarations b)) (scope_of (stack_by global t store.trees xss)) refl
          (judged_always (sets (GlobalDeclarations b)) (stack_by global t store.trees xss)) h.reached);
    }

pub new_keeps : (limit : ℕ) → limit ≡ 4294967295 → IsStack false no_names (record { limit = limit; trees = [] }) ([] ∷ [])
new_keeps limit e = record { limit = e; as_many = refl; some = omega arith; few = omega arith; within = All-nil (IsWithin []); reached = start_reached }
