-- Judging, one step after another.
use Rattle.std.proofs.Common.{◌≡◌, ◌∙◌, sym, refl, ap, append_assoc, Bool, true, false, Option, Some, None, List, [], ◌∷◌, ◌++◌}
use Rattle.smt_meaning.specs.declared.refusals.Refusal.{Refusal}
use Rattle.smt_meaning.specs.Sorts.{Scope, Outcome, done, refused, Judging, go_on, ◌>>=◌, ◌>>◌, return, refuse, require, required, the_scope}
use Rattle.scope_stack.specs.declared.answers.StackError.{StackError}
use Rattle.scope_stack.specs.declared.answers.StackError.TheVariants.{Refused, Memory}
use Rattle.scope_stack.specs.Judged.{IsCause}

pub bind_done : {A B : Type 0} (m : Judging A) (k : A → Judging B) (s t : Scope) (a : A) → m s ≡ done a t → (m >>= k) s ≡ k a t
unfolding ◌>>=◌
bind_done m k s t a e = ap (λ o. go_on o k) e

pub bind_refused : {A B : Type 0} (m : Judging A) (k : A → Judging B) (s : Scope) (r : Refusal) → m s ≡ refused r → (m >>= k) s ≡ refused r
unfolding ◌>>=◌
bind_refused m k s r e = ap (λ o. go_on o k) e

pub next_done : {A B : Type 0} (m : Judging A) (n : Judging B) (s t : Scope) (a : A) → m s ≡ done a t → (m >> n) s ≡ n t
unfolding ◌>>◌
next_done m n s t a e = ap (λ o. go_on o (λ a. n)) e

pub next_refused : {A B : Type 0} (m : Judging A) (n : Judging B) (s : Scope) (r : Refusal) → m s ≡ refused r → (m >> n) s ≡ refused r
unfolding ◌>>◌
next_refused m n s r e = ap (λ o. go_on o (λ a. n)) e

pub bind_cause : {A B : Type 0} (m : Judging A) (k : A → Judging B) (s : Scope) (e : StackError) → IsCause e (m s) → IsCause e ((m >>= k) s)
bind_cause m k s (Refused r) h = bind_refused m k s r h
bind_cause m k s Memory h = tt

pub next_cause : {A B : Type 0} (m : Judging A) (n : Judging B) (s : Scope) (e : StackError) → IsCause e (m s) → IsCause e ((m >> n) s)
next_cause m n s (Refused r) h = next_refused m n s r h
next_cause m n s Memory h = tt

-- the error of what is judged after a step
pub bind_then : {A B : Type 0} (m : Judging A) (k : A → Judging B) (s t : Scope) (a : A) (e : StackError) → m s ≡ done a t → IsCause e (k a t) → IsCause e ((m >>= k) s)
bind_then m k s t a (Refused r) h g = bind_done m k s t a h ∙ g
bind_then m k s t a Memory h g = tt

pub next_then : {A B : Type 0} (m : Judging A) (n : Judging B) (s t : Scope) (a : A) (e : StackError) → m s ≡ done a t → IsCause e (n t) → IsCause e ((m >> n) s)
next_then m n s t a (Refused r) h g = next_done m n s t a h ∙ g
next_then m n s t a Memory h g = tt

pub scope_done : {B : Type 0} (k : Scope → Judging B) (s : Scope) → (the_scope >>= k) s ≡ k s s
unfolding ◌>>=◌ the_scope
scope_done k s = refl

pub return_done : {A : Type 0} (a : A) (s : Scope) → return a s ≡ done a s
unfolding return
return_done a s = refl

pub refuse_refused : {A : Type 0} (r : Refusal) (s : Scope) → refuse {A = A} r s ≡ refused r
unfolding refuse
refuse_refused r s = refl

pub require_done : (b : Bool) (r : Refusal) (s : Scope) → b ≡ true → require b r s ≡ done tt s
unfolding require return
require_done b r s e = rw e refl

pub require_refused : (b : Bool) (r : Refusal) (s : Scope) → b ≡ false → require b r s ≡ refused r
unfolding require refuse
require_refused b r s e = rw e refl

pub required_done : {A : Type 0} (o : Option A) (r : Refusal) (s : Scope) (a : A) → o ≡ Some a → required o r s ≡ done a s
unfolding required return
required_done o r s a e = rw e refl

pub required_refused : {A : Type 0} (o : Option A) (r : Refusal) (s : Scope) → o ≡ None → required o r s ≡ refused r
unfolding required refuse
required_refused o r s e = rw e refl

-- ---- lists of what is judged, from the left

pub bind_is : {A B : Type 0} (m : Judging A) (k : A → Judging B) (s : Scope) → (m >>= k) s ≡ go_on (m s) k
unfolding ◌>>=◌
bind_is m k s = refl

pub none_judged : {A : Type 0} (o : Outcome (List A)) → o ≡ go_on o (λ more'. return ([] ++ more'))
unfolding return
none_judged (done xs s) = refl
none_judged (refused r) = refl

pub one_judged : {A : Type 0} (r : A) (rs : List A) (o : Outcome (List A)) → go_on (go_on o (λ xs. return (r ∷ xs))) (λ more'. return (rs ++ more')) ≡ go_on o (λ more'. return ((rs ++ r ∷ []) ++ more'))
unfolding return
one_judged r rs (done xs s) = ap (λ ys. done ys s) (sym (append_assoc rs (r ∷ []) xs))
one_judged r rs (refused why) = refl
