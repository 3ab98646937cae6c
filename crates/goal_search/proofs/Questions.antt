-- One question: what is assumed for it, and the stack before it.
use Rattle.std.proofs.Common.{◌≡◌, ◌∙◌, sym, subst, refl, ℕ, List, [], ◌∷◌, ◌++◌, ℤ, Err}
use Rattle.std.specs.Prelude.{Result, IfOk}
use Rattle.smt_meaning.specs.declared.tokens.Token.{Token}
use Rattle.smt_meaning.specs.declared.refusals.Refusal.{Refusal}
use Rattle.smt_meaning.specs.Sorts.{done, refused, Scope}
use Rattle.smt_meaning.specs.StackCommand.{Stack, assumes, judged, changed}
use Rattle.smt_meaning.specs.Stack.{Assertion}
use Rattle.smt_meaning.specs.State.{frame_of}
use Rattle.scope_stack.specs.declared.answers.StackError.{StackError}
use Rattle.scope_stack.specs.declared.answers.StackError.TheVariants.{Refused}
use Rattle.scope_stack.specs.Carries.{Assumes, IsAssumed, IsRefused, assumption, under}
use Rattle.std.specs.declared.alloc.AllocError.{AllocError}
use Rattle.theory_port.specs.declared.decider.Verdict.{Verdict}
use Rattle.theory_port.specs.Verdicts.{IsVerdict}

module _ (texts : List (List Token)) (xs : List Assertion) (s : Stack) (c : Scope) (judges : judged (assumption texts) s ≡ done (assumes xs) c) where
  -- what is judged to be assumed isn't refused
  pub never_refused : (r : Refusal) (new : Stack) → IsRefused (assumption texts) r s new → ⊥
  never_refused r new h = let e : done (assumes xs) c ≡ refused r = sym judges ∙ h.is_judged in cc

  -- and the stack is under what it is judged to be
  pub stands_under : (assumed : List Assertion) (new : Stack) → IsAssumed texts assumed s new → new ≡ under xs (changed s (assumes xs) c)
  stands_under assumed new h =
      let e : done (assumes assumed) h.scope ≡ done (assumes xs) c = sym h.is_judged ∙ judges in
      let e_assumed : assumed ≡ xs = cc in
      let e_scope : h.scope ≡ c = cc in
      h.new_is ∙ rw (e_assumed, e_scope) refl

  -- the error of the stack included
  pub error_never_refused : (others : List (List Token)) → others ≡ texts → (e : StackError) (r : Refusal) (new : Stack) → e ≡ Refused r → Assumes others s (Err e) new → ⊥
  error_never_refused others same e r new is h =
      let h' : Assumes texts s (Err (Refused r)) new = subst (λ (x : StackError). Assumes texts s (Err x) new) is (subst (λ (ts : List (List Token)). Assumes ts s (Err e) new) same h) in
      never_refused r new h'

  -- a verdict on what stands above is one on what is judged
  pub verdict_under : (others : List (List Token)) → others ≡ texts → (assumed : List Assertion) (new : Stack) → IsAssumed others assumed s new
      → (workers : ℕ) (limit : ℤ) (found : Result Verdict AllocError) → IfOk found (IsVerdict workers new.trees new.frames limit)
      → IfOk found (IsVerdict workers c.trees (s.frames ++ frame_of xs ∷ []) limit)
  verdict_under others same assumed new h workers limit found f =
      let e : new ≡ under xs (changed s (assumes xs) c) = stands_under assumed new (subst (λ (ts : List (List Token)). IsAssumed ts assumed s new) same h) in
      subst (λ (n : Stack). IfOk found (IsVerdict workers n.trees n.frames limit)) e f
