-- Judging joins its trees to any list alike.
use Rattle.std.proofs.Common.{◌≡◌, ℕ, List, [], refl, ap, sym, subst, ◌∙◌, Bool, true, false, nat_lt}
use Rattle.smt_meaning.specs.declared.values.Sort.{Sort}
use Rattle.smt_meaning.specs.Declaration.{Declaration}
use Rattle.smt_meaning.specs.declared.refusals.Refusal.{Refusal}
use Rattle.smt_meaning.specs.Term.{Tree}
use Rattle.smt_meaning.specs.Sorts.{Scope, Outcome, done, refused, Judging, go_on, ◌>>=◌, ◌>>◌, return, refuse, require, the_scope, with_all, note, found, declare, declare_in, most_symbols}
use Rattle.term_store.specs.Alike.{scope_at, Alike, JoinsAlike, TermsJoinAlike, QuestionsJoinAlike}
use Rattle.term_store.proofs.Joining.{joined}
use Rattle.smt_laws.proofs.JudgedSteps.{HoldsOfSteps, judge_holds, terms_hold}

record Uniform {A : Type 0} (m : Judging A) : Type 0 where
  joins : JoinsAlike m

-- ---- what judgements are made of

over : {B : Type 0} (ts us : List Tree) (x y z : Outcome B) → Alike us x y → Alike (with_all ts us) x z → Alike ts y z
over ts us (done a w) y z e f = subst (λ q. Alike ts q z) (sym e) (f ∙ ap (λ vs. done a (record w { trees = vs })) (sym (joined ts us w.trees)))
over ts us (refused r) y z e f = subst (λ q. Alike ts q z) (sym e) f

from_there : {B : Type 0} (ts : List Tree) (u : Scope) (n : Judging B) → Uniform n → Alike ts (n u) (n (record u { trees = with_all ts u.trees }))
from_there ts u n g =
    over ts u.trees (n (scope_at u.signature u.given [])) (n u) (n (record u { trees = with_all ts u.trees })) (g.joins u.signature u.given u.trees) (g.joins u.signature u.given (with_all ts u.trees))

after_go_on : {A B : Type 0} (ts : List Tree) (x y : Outcome A) (k : A → Judging B) → Alike ts x y → ((a : A) → Uniform (k a)) → Alike ts (go_on x k) (go_on y k)
after_go_on ts (done a u) y k e g = subst (λ z. Alike ts (k a u) (go_on z k)) (sym e) (from_there ts u (k a) (g a))
after_go_on ts (refused r) y k e g = ap (λ z. go_on z k) e

bind_uniform : {A B : Type 0} {m : Judging A} {k : A → Judging B} → Uniform m → ((a : A) → Uniform (k a)) → Uniform (m >>= k)
unfolding ◌>>=◌
bind_uniform {m = m} {k = k} h g = record { joins = λ ds n ts. after_go_on ts (m (scope_at ds n [])) (m (scope_at ds n ts)) k (h.joins ds n ts) g }

next_uniform : {A B : Type 0} {m : Judging A} {n : Judging B} → Uniform m → Uniform n → Uniform (m >> n)
unfolding ◌>>◌
next_uniform {m = m} {n = n} h g = record { joins = λ ds i ts. after_go_on ts (m (scope_at ds i [])) (m (scope_at ds i ts)) (λ a. n) (h.joins ds i ts) (λ a. g) }

return_uniform : {A : Type 0} (a : A) → Uniform (return a)
unfolding return
return_uniform a = record { joins = λ ds n ts. refl }

refuse_uniform : (A : Type 0) (r : Refusal) → Uniform {A = A} (refuse r)
unfolding refuse
refuse_uniform A r = record { joins = λ ds n ts. refl }

require_uniform : (b : Bool) (r : Refusal) → Uniform (require b r)
unfolding require return refuse
require_uniform b r = by_cases b
  where
    by_cases : (c : Bool) → Uniform (require c r)
    by_cases true = record { joins = λ ds n ts. refl }
    by_cases false = record { joins = λ ds n ts. refl }

-- where what comes next depends on the signature alone
scope_then : {A : Type 0} (k : Scope → Judging A) → ((ds : List Declaration) (n : ℕ) (ts : List Tree) → k (scope_at ds n ts) ≡ k (scope_at ds n [])) → ((s : Scope) → Uniform (k s)) → Uniform (the_scope >>= k)
unfolding ◌>>=◌ the_scope
scope_then k e g = record {
  joins = λ ds n ts. subst (λ m. Alike ts (k (scope_at ds n []) (scope_at ds n [])) (m (scope_at ds n ts))) (sym (e ds n ts)) ((g (scope_at ds n [])).joins ds n ts);
}

note_uniform : (us : List Tree) → Uniform (note us)
unfolding note
note_uniform us = record { joins = λ ds n ts. ap (λ vs. done tt (scope_at ds n vs)) (sym (joined ts [] us)) }

found_uniform : (t : Tree) (x : Sort) → Uniform (found t x)
unfolding found
found_uniform t x = record { joins = λ ds n ts. refl }

declare_uniform : (d : ℕ → Declaration) → Uniform (declare d)
unfolding declare
declare_uniform d = record { joins = λ ds n ts. go ds n ts (nat_lt n most_symbols) }
  where
    go : (ds : List Declaration) (n : ℕ) (ts : List Tree) (b : Bool) → Alike ts (declare_in (d n) b (scope_at ds n [])) (declare_in (d n) b (scope_at ds n ts))
    go ds n ts true = refl
    go ds n ts false = refl

-- ---- terms

uniform_steps : HoldsOfSteps (λ (A : Type 0) (m : Judging A). Uniform m)
uniform_steps = record {
  bind = bind_uniform;
  next = next_uniform;
  returns = return_uniform;
  refuses = refuse_uniform;
  requires = require_uniform;
  notes = note_uniform;
  finds = found_uniform;
  declares = λ d own. declare_uniform d;
  scope_then = scope_then;
}

pub terms_join_alike : TermsJoinAlike
terms_join_alike r vs x = (judge_holds uniform_steps r vs x).joins

pub questions_join_alike : QuestionsJoinAlike
questions_join_alike texts = (terms_hold uniform_steps texts).joins
