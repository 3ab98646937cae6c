-- How `push` and `pop` are judged.
use Rattle.std.proofs.Common.{◌≡◌, ◌∙◌, refl, ℕ, ◌+◌, ◌<◌, ◌≤◌, Bool, true, false, nat_le, arith}
use Rattle.std.proofs.lemmas.Bool.{le-leb}
use Rattle.std.proofs.lemmas.Bool.Decides.{leb_tells}
use Rattle.smt_meaning.specs.declared.refusals.Refusal.{Refusal}
use Rattle.smt_meaning.specs.declared.refusals.Refusal.TheVariants.{PopPastLevelZero, TooManyLevels}
use Rattle.smt_meaning.specs.Stack.{depth}
use Rattle.smt_meaning.specs.Sorts.{Scope, done, refused, ◌>>◌, return, refuse, require}
use Rattle.smt_meaning.specs.StackCommand.{Stack, Change, pushes, pops, most_levels, push_levels, pop_levels, scope_of, judged, judged_is}

-- what is required before an answer
required_first : (b : Bool) (r : Refusal) (x : Change) (s : Scope) → b ≡ true → (require b r >> return x) s ≡ done x s
unfolding ◌>>◌ require return
required_first b r x s e = rw e refl

refused_first : (b : Bool) (r : Refusal) (x : Change) (s : Scope) → b ≡ false → (require b r >> return x) s ≡ refused r
unfolding ◌>>◌ require refuse
refused_first b r x s e = rw e refl

above : (a b : ℕ) → b < a → nat_le a b ≡ false
above a b lt = grind (arith, leb_tells)

pub pop_done : (s : Stack) (n : ℕ) → n ≤ depth s.frames → judged (λ level. pop_levels level n) s ≡ done (pops n) (scope_of s)
pop_done s n le = judged_is _ s ∙ required_first _ _ _ _ (le-leb n (depth s.frames) le)

pub pop_refused : (s : Stack) (n : ℕ) → depth s.frames < n → judged (λ level. pop_levels level n) s ≡ refused PopPastLevelZero
pop_refused s n lt = judged_is _ s ∙ refused_first _ _ _ _ (above n (depth s.frames) lt)

pub push_done : (s : Stack) (n : ℕ) → depth s.frames + n ≤ most_levels → judged (λ level. push_levels level n) s ≡ done (pushes n) (scope_of s)
push_done s n le = judged_is _ s ∙ required_first _ _ _ _ (le-leb (depth s.frames + n) most_levels le)

pub push_refused : (s : Stack) (n : ℕ) → most_levels < depth s.frames + n → judged (λ level. push_levels level n) s ≡ refused TooManyLevels
push_refused s n lt = judged_is _ s ∙ refused_first _ _ _ _ (above (depth s.frames + n) most_levels lt)
