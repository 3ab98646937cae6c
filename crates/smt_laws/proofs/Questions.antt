-- A term that is accepted as a question is accepted alike in an assertion: only `:named` tells the two apart.
use Rattle.std.proofs.Common.{◌≡◌, ℕ, List, [], ◌∷◌, ◌++◌, refl, sym, subst, Bool, true, false}
use Rattle.std.specs.Prelude.{codes, bytes_eq}
use Rattle.smt_meaning.specs.declared.terms.Operator.TheVariants.{True, False}
use Rattle.smt_meaning.specs.declared.tokens.Token.{Token}
use Rattle.smt_meaning.specs.declared.tokens.Token.TheVariants.{Numeral, Symbol, Reserved, Keyword}
use Rattle.smt_meaning.specs.declared.tokens.Word.TheVariants.{Exclamation, Let}
use Rattle.smt_meaning.specs.Sexp.{Sexp, Sexps, word, group, end, ◌▸◌}
use Rattle.smt_meaning.specs.Sorts.{Scope, Outcome, done, refused, Judging, go_on, ◌>>=◌, ◌>>◌, return, the_scope, Typed, Variable, Known, variable, operator, function, unknown, known, can_be_applied, judge_application, judge_bare, judge_token, head_number, judge_head, judge_divisible, check_bindings, bound_names, has_free, variable_names, name_by, judge_attributes, either, judge, judge_all, judge_bindings}
use Rattle.smt_meaning.specs.StackCommand.{in_assert, in_question}
use Rattle.smt_laws.proofs.NamesRefused.{IsRefused, first_refused, name_refused}
use Rattle.smt_laws.specs.TermLaws.{QuestionsAreAssertions}

-- what the one comes to, where it isn't refused, the other does
abbrev Follows : {A : Type 0} → Outcome A → Outcome A → Type 0
Follows (done a t) o = o ≡ done a t
Follows (refused r) o = Unit {0}

record Same {A : Type 0} (m n : Judging A) : Type 0 where
  same : (s : Scope) → Follows (m s) (n s)

itself : {A : Type 0} (x : Outcome A) → Follows x x
itself (done a t) = refl
itself (refused r) = tt

self : {A : Type 0} (m : Judging A) → Same m m
self m = record { same = λ s. itself (m s) }

after_both : {A B : Type 0} (x y : Outcome A) (k l : A → Judging B) → Follows x y → ((a : A) (t : Scope) → Follows (k a t) (l a t)) → Follows (go_on x k) (go_on y l)
after_both (done a t) y k l h g = subst (λ z. Follows (k a t) (go_on z l)) (sym h) (g a t)
after_both (refused r) y k l h g = tt

bind_same : {A B : Type 0} {m n : Judging A} {k l : A → Judging B} → Same m n → ((a : A) → Same (k a) (l a)) → Same (m >>= k) (n >>= l)
unfolding ◌>>=◌
bind_same {m = m} {n = n} {k = k} {l = l} h g = record { same = λ s. after_both (m s) (n s) k l (h.same s) (λ a t. (g a).same t) }

next_same : {A B : Type 0} {m n : Judging A} {k l : Judging B} → Same m n → Same k l → Same (m >> k) (n >> l)
unfolding ◌>>◌
next_same {m = m} {n = n} {k = k} {l = l} h g = record { same = λ s. after_both (m s) (n s) (λ a. k) (λ a. l) (h.same s) (λ a t. g.same t) }

-- ---- names: a question gives none

never : {A : Type 0} (x y : Outcome A) → IsRefused x → Follows x y
never (done a t) y h = absurd h
never (refused r) y h = tt

named_same : {B : Type 0} (o : Bool) (t : Typed) (ss : Sexps) (k : Judging B) (n : Judging B) → Same (name_by in_question o t ss >> k) n
unfolding ◌>>◌
named_same o t ss k n = record { same = λ s. never (go_on (name_by in_question o t ss s) (λ a. k)) (n s) (first_refused (name_by in_question o t ss s) (λ a. k) (name_refused o t ss s)) }

either_same : {A : Type 0} (b : Bool) {m n k l : Judging A} → Same m n → Same k l → Same (either b m k) (either b n l)
either_same true h g = h
either_same false h g = g

attributes_same : (o : Bool) (t : Typed) (ss : Sexps) → Same (judge_attributes in_question o t ss) (judge_attributes in_assert o t ss)
attributes_same o t end = self _
attributes_same o t (word (Keyword k) ▸ rest) = either_same (bytes_eq k (codes "named")) (named_same o t rest _ _) (attributes_same o t rest)
attributes_same o t (_ ▸ rest) = attributes_same o t rest

-- ---- terms

bare_same : (n : List ℕ) (k : Known) → Same (judge_bare in_question n k) (judge_bare in_assert n k)
bare_same n (variable t) = self _
bare_same n unknown = self _
bare_same n (operator True) = self _
bare_same n (operator False) = self _
bare_same n (operator _) = self _
bare_same n (function d) = self _

application_same : (n : List ℕ) (k : Known) (ts : List Typed) → Same (judge_application in_question n k ts) (judge_application in_assert n k ts)
application_same n (variable t) ts = self _
application_same n unknown ts = self _
application_same n (operator o) ts = self _
application_same n (function d) ts = self _

token_same : (vs : List Variable) (t : Token) → Same (judge_token in_question vs t) (judge_token in_assert vs t)
token_same vs (Symbol n) = bind_same (self the_scope) (λ s. bare_same n (known vs n s))
token_same vs (Numeral cs) = self _
token_same vs _ = self _

divisible_same : (n : ℕ) (ts : List Typed) → Same (judge_divisible in_question n ts) (judge_divisible in_assert n ts)
divisible_same n [] = self _
divisible_same n (a ∷ []) = self _
divisible_same n (a ∷ b ∷ ts) = self _

mutual
  judge_same : (vs : List Variable) (x : Sexp) → Same (judge in_question vs x) (judge in_assert vs x)
  judge_same vs (word t) = token_same vs t
  judge_same vs (group (word (Reserved Let) ▸ group bs ▸ b ▸ end)) =
      next_same (self (check_bindings (bound_names bs))) (bind_same (bindings_same vs bs) (λ xs. judge_same (xs ++ vs) b))
  judge_same vs (group (word (Reserved Let) ▸ _)) = self _
  judge_same vs (group (word (Reserved Exclamation) ▸ t ▸ rest)) =
      next_same (self _) (bind_same (judge_same vs t) (λ a. next_same (attributes_same (has_free (variable_names vs) t) a rest) (self (return a))))
  judge_same vs (group (word (Reserved Exclamation) ▸ end)) = self _
  judge_same vs (group (word (Reserved w) ▸ _)) = self _
  judge_same vs (group (word (Symbol n) ▸ ss)) =
      bind_same (self the_scope) (λ s. next_same (self (can_be_applied n (known vs n s))) (bind_same (all_same vs ss) (application_same n (known vs n s))))
  judge_same vs (group (group hs ▸ ss)) = bind_same (self (judge_head (head_number hs))) (λ n. bind_same (all_same vs ss) (divisible_same n))
  judge_same vs (group _) = self _

  all_same : (vs : List Variable) (ss : Sexps) → Same (judge_all in_question vs ss) (judge_all in_assert vs ss)
  all_same vs end = self _
  all_same vs (x ▸ ss) = bind_same (judge_same vs x) (λ a. bind_same (all_same vs ss) (λ ts. self (return (a ∷ ts))))

  bindings_same : (vs : List Variable) (ss : Sexps) → Same (judge_bindings in_question vs ss) (judge_bindings in_assert vs ss)
  bindings_same vs end = self _
  bindings_same vs (group (word (Symbol n) ▸ t ▸ end) ▸ rest) =
      bind_same (judge_same vs t) (λ a. bind_same (bindings_same vs rest) (λ xs. self (return (record { name = n; term = a } ∷ xs))))
  bindings_same vs (_ ▸ rest) = self _

ended : (x y : Outcome Typed) (a : Typed) (t : Scope) → Follows x y → x ≡ done a t → y ≡ done a t
ended x y a t h e = subst (λ z. Follows z y) e h

pub questions_are_assertions : QuestionsAreAssertions
questions_are_assertions vs x s t a e = ended (judge in_question vs x s) (judge in_assert vs x s) a t ((judge_same vs x).same s) e
