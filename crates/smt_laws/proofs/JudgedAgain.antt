-- A term that was judged where no name is given is judged alike again, and notes no tree.
use Rattle.std.proofs.Common.{◌≡◌, ◌∙◌, ℕ, List, [], ◌∷◌, ◌++◌, refl, ap, sym, subst, Bool, true, false, Option, Some, None, append_assoc, append-nil}
use Rattle.std.specs.Prelude.{pos, codes, bytes_eq}
use Rattle.smt_meaning.specs.declared.refusals.Refusal.{Refusal}
use Rattle.smt_meaning.specs.declared.values.Sort.{Sort}
use Rattle.smt_meaning.specs.declared.values.Sort.TheVariants.{Bool as Truths}
use Rattle.smt_meaning.specs.declared.terms.Operator.{Operator}
use Rattle.smt_meaning.specs.declared.terms.Operator.TheVariants.{True, False, Divisible}
use Rattle.smt_meaning.specs.declared.terms.Head.TheVariants.{Numeral as Number}
use Rattle.smt_meaning.specs.declared.tokens.Token.{Token}
use Rattle.smt_meaning.specs.declared.tokens.Token.TheVariants.{Numeral, Symbol, Reserved, Keyword}
use Rattle.smt_meaning.specs.declared.tokens.Word.TheVariants.{Exclamation, Let}
use Rattle.smt_meaning.specs.Declaration.{Declaration}
use Rattle.smt_meaning.specs.Term.{Tree, Trees, node, none, more}
use Rattle.smt_meaning.specs.Sexp.{Sexp, Sexps, word, group, end, ◌▸◌}
use Rattle.smt_meaning.specs.Signature.{look_up, find_function, operators}
use Rattle.smt_meaning.specs.Sorts.{Scope, Outcome, done, refused, Judging, go_on, ◌>>=◌, ◌>>◌, return, refuse, require, required, either, the_scope, note, found, Typed, Variable, Rules, Known, variable, operator, function, unknown, known, known_name, known_symbol, find_variable, can_be_applied, judge_application, judge_operator, judge_symbol, judge_bare, judge_token, head_number, judge_head, judge_divisible, judge_attributes, name_by, has_free, variable_names, bound_names, check_bindings, none_twice, judge, judge_all, judge_bindings}
use Rattle.smt_meaning.specs.StackCommand.{in_question}
use Rattle.smt_laws.proofs.GrownTrees.{all_grown}
use Rattle.smt_laws.proofs.NamesRefused.{IsRefused, first_refused, name_refused}
use Rattle.smt_laws.specs.TermLaws.{JudgedAgain}
use Rattle.smt_laws.proofs.AgainLemmas.{noted_once}

-- ---- judging that comes to the same again

abbrev plus : Scope → List Tree → Scope
plus s later = record s { trees = s.trees ++ later }

plus_both : (s : Scope) (xs ys : List Tree) → plus (plus s xs) ys ≡ plus s (xs ++ ys)
plus_both s xs ys = ap (λ ts. record s { trees = ts }) (append_assoc s.trees xs ys)

record Stays {A : Type 0} (m : Judging A) (s : Scope) (a : A) (t : Scope) : Type 0 where
  joined : List Tree
  grown : t ≡ plus s joined
  again : (later : List Tree) → m (plus t later) ≡ done a (plus t later)

abbrev Ending : {A : Type 0} → Judging A → Scope → Outcome A → Type 0
Ending m s (done a t) = Stays m s a t
Ending m s (refused r) = Unit {0}

record Steady {A : Type 0} (m : Judging A) : Type 0 where
  steady : (s : Scope) → Ending m s (m s)

plus_nothing : (s : Scope) → s ≡ plus s []
plus_nothing s = ap (λ ts. record s { trees = ts }) (sym (append-nil s.trees))

return_steady : {A : Type 0} (a : A) → Steady (return a)
unfolding return
return_steady a = record { steady = λ s. record { joined = []; grown = plus_nothing s; again = λ later. refl } }

found_steady : (t : Tree) (x : Sort) → Steady (found t x)
unfolding found
found_steady t x = record { steady = λ s. record { joined = []; grown = plus_nothing s; again = λ later. refl } }

refuse_steady : {A : Type 0} (r : Refusal) → Steady (refuse {A = A} r)
unfolding refuse
refuse_steady r = record { steady = λ s. tt }

note_steady : (us : List Tree) → Steady (note us)
unfolding note
note_steady us = record {
  steady = λ s. record {
    joined = (all_grown s.trees us).joined;
    grown = ap (λ ts. record s { trees = ts }) (all_grown s.trees us).is;
    again = λ later. ap (λ ts. done tt (record s { trees = ts })) (noted_once s.trees later us);
  };
}

bind_ending : {A B : Type 0} (m : Judging A) (k : A → Judging B) (s : Scope) (x : Outcome A) → Ending m s x → ((a : A) → Steady (k a)) → Ending (λ t. go_on (m t) k) s (go_on x k)
bind_ending m k s (refused r) e g = tt
bind_ending {A} {B} m k s (done a t) e g = second (k a t) ((g a).steady t)
  where
    second : (y : Outcome B) → Ending (k a) t y → Ending (λ u. go_on (m u) k) s y
    second (refused r) f = tt
    second (done b u) f =
        let first_again : (later : List Tree) → m (plus u later) ≡ done a (plus u later) =
        λ later. subst (λ v. m v ≡ done a v) (sym (ap (λ v. plus v later) f.grown ∙ plus_both t f.joined later)) (e.again (f.joined ++ later))
        in record {
          joined = e.joined ++ f.joined;
          grown = f.grown ∙ ap (λ v. plus v f.joined) e.grown ∙ plus_both s e.joined f.joined;
          again = λ later. ap (λ v. go_on v k) (first_again later) ∙ f.again later;
        }

bind_steady : {A B : Type 0} {m : Judging A} {k : A → Judging B} → Steady m → ((a : A) → Steady (k a)) → Steady (m >>= k)
unfolding ◌>>=◌
bind_steady {m = m} {k = k} h g = record { steady = λ s. bind_ending m k s (m s) (h.steady s) g }

next_steady : {A B : Type 0} {m : Judging A} {n : Judging B} → Steady m → Steady n → Steady (m >> n)
unfolding ◌>>◌
next_steady {m = m} {n = n} h g = record { steady = λ s. bind_ending m (λ a. n) s (m s) (h.steady s) (λ a. g) }

-- of the scope, the signature alone matters
scope_ending : {A : Type 0} (k : Scope → Judging A) (s : Scope) (x : Outcome A) → ((t : Scope) → t.signature ≡ s.signature → k t ≡ k s) → Ending (k s) s x → Ending (λ t. k t t) s x
scope_ending k s (refused r) same e = tt
scope_ending k s (done a t) same e = record {
  joined = e.joined;
  grown = e.grown;
  again = λ later. ap (λ m. m (plus t later)) (same (plus t later) (ap (λ (u : Scope). u.signature) e.grown)) ∙ e.again later;
}

scope_steady : {A : Type 0} (k : Scope → Judging A) → ((s t : Scope) → t.signature ≡ s.signature → k t ≡ k s) → ((s : Scope) → Steady (k s)) → Steady (the_scope >>= k)
unfolding ◌>>=◌ the_scope
scope_steady k same g = record { steady = λ s. scope_ending k s (k s s) (same s) ((g s).steady s) }

require_steady : (b : Bool) (r : Refusal) → Steady (require b r)
unfolding require
require_steady true r = return_steady tt
require_steady false r = refuse_steady r

required_steady : {A : Type 0} (o : Option A) (r : Refusal) → Steady (required o r)
unfolding required
required_steady None r = refuse_steady r
required_steady (Some a) r = return_steady a

either_steady : {A : Type 0} (b : Bool) {m n : Judging A} → Steady m → Steady n → Steady (either b m n)
either_steady true h g = h
either_steady false h g = g

-- ---- names: a question gives none

never : {A : Type 0} (m : Judging A) (s : Scope) (x : Outcome A) → IsRefused x → Ending m s x
never m s (done a t) h = absurd h
never m s (refused r) h = tt

named_steady : {B : Type 0} (o : Bool) (t : Typed) (ss : Sexps) (k : Judging B) → Steady (name_by in_question o t ss >> k)
unfolding ◌>>◌
named_steady o t ss k = record {
  steady = λ s. never (λ u. go_on (name_by in_question o t ss u) (λ a. k)) s (go_on (name_by in_question o t ss s) (λ a. k))
      (first_refused (name_by in_question o t ss s) (λ a. k) (name_refused o t ss s));
}

attributes_steady : (o : Bool) (t : Typed) (ss : Sexps) → Steady (judge_attributes in_question o t ss)
attributes_steady o t end = return_steady tt
attributes_steady o t (word (Keyword k) ▸ rest) = either_steady (bytes_eq k (codes "named")) (named_steady o t rest _) (attributes_steady o t rest)
attributes_steady o t (_ ▸ rest) = attributes_steady o t rest

-- ---- terms

operator_steady : (r : Rules) (o : Operator) (ts : Trees) (s : Sort) → Steady (judge_operator r o ts s)
operator_steady r o ts s = next_steady (require_steady _ _) (next_steady (note_steady _) (found_steady _ _))

symbol_steady : (r : Rules) (d : Declaration) (ts : Trees) → Steady (judge_symbol r d ts)
symbol_steady r d ts = next_steady (require_steady _ _) (next_steady (note_steady _) (found_steady _ _))

bare_steady : (r : Rules) (n : List ℕ) (k : Known) → Steady (judge_bare r n k)
bare_steady r n (variable t) = return_steady t
bare_steady r n unknown = refuse_steady _
bare_steady r n (operator True) = operator_steady r True none Truths
bare_steady r n (operator False) = operator_steady r False none Truths
bare_steady r n (operator _) = refuse_steady _
bare_steady r n (function d) = next_steady (require_steady _ _) (symbol_steady r d _)

application_steady : (r : Rules) (n : List ℕ) (k : Known) (ts : List Typed) → Steady (judge_application r n k ts)
application_steady r n (variable t) ts = refuse_steady _
application_steady r n unknown ts = refuse_steady _
application_steady r n (operator o) ts = next_steady (require_steady _ _) (bind_steady (required_steady _ _) (λ s. operator_steady r o _ s))
application_steady r n (function d) ts = next_steady (require_steady _ _) (next_steady (require_steady _ _) (symbol_steady r d _))

head_steady : (n : List ℕ) (k : Known) → Steady (can_be_applied n k)
head_steady n (variable t) = refuse_steady _
head_steady n unknown = refuse_steady _
head_steady n (operator o) = return_steady tt
head_steady n (function d) = return_steady tt

known_same : (vs : List Variable) (n : List ℕ) (s t : Scope) → t.signature ≡ s.signature → known vs n t ≡ known vs n s
known_same vs n s t e = ap (λ ds. known_name (find_variable n vs) (known_symbol (look_up n operators) (find_function n ds))) e

token_steady : (r : Rules) (vs : List Variable) (t : Token) → Steady (judge_token r vs t)
token_steady r vs (Symbol n) = scope_steady _ (λ s t e. ap (judge_bare r n) (known_same vs n s t e)) (λ s. bare_steady r n (known vs n s))
token_steady r vs (Numeral cs) = next_steady (require_steady _ _) (next_steady (note_steady _) (found_steady _ _))
token_steady r vs _ = refuse_steady _

number_steady : (o : Option ℕ) → Steady (judge_head o)
number_steady None = refuse_steady _
number_steady (Some n) = next_steady (require_steady _ _) (next_steady (require_steady _ _) (return_steady n))

divisible_steady : (r : Rules) (n : ℕ) (ts : List Typed) → Steady (judge_divisible r n ts)
divisible_steady r n [] = refuse_steady _
divisible_steady r n (a ∷ []) = next_steady (require_steady _ _) (operator_steady r Divisible (more a.tree (more (node (Number (pos n)) none) none)) Truths)
divisible_steady r n (a ∷ b ∷ ts) = refuse_steady _

twice_steady : (before ns : List (List ℕ)) → Steady (none_twice before ns)
twice_steady before [] = return_steady tt
twice_steady before (n ∷ ns) = next_steady (require_steady _ _) (twice_steady (n ∷ before) ns)

check_steady : (o : Option (List (List ℕ))) → Steady (check_bindings o)
check_steady None = refuse_steady _
check_steady (Some []) = refuse_steady _
check_steady (Some (n ∷ ns)) = twice_steady [] (n ∷ ns)

mutual
  judge_steady : (vs : List Variable) (x : Sexp) → Steady (judge in_question vs x)
  judge_steady vs (word t) = token_steady in_question vs t
  judge_steady vs (group (word (Reserved Let) ▸ group bs ▸ b ▸ end)) =
      next_steady (check_steady (bound_names bs)) (bind_steady (bindings_steady vs bs) (λ xs. judge_steady (xs ++ vs) b))
  judge_steady vs (group (word (Reserved Let) ▸ _)) = refuse_steady _
  judge_steady vs (group (word (Reserved Exclamation) ▸ t ▸ rest)) =
      next_steady (require_steady _ _) (bind_steady (judge_steady vs t) (λ a. next_steady (attributes_steady (has_free (variable_names vs) t) a rest) (return_steady a)))
  judge_steady vs (group (word (Reserved Exclamation) ▸ end)) = refuse_steady _
  judge_steady vs (group (word (Reserved w) ▸ _)) = refuse_steady _
  judge_steady vs (group (word (Symbol n) ▸ ss)) =
      scope_steady _ (λ s t e. ap (λ k. can_be_applied n k >> (judge_all in_question vs ss >>= judge_application in_question n k)) (known_same vs n s t e))
      (λ s. next_steady (head_steady n (known vs n s)) (bind_steady (all_steady vs ss) (application_steady in_question n (known vs n s))))
  judge_steady vs (group (group hs ▸ ss)) = bind_steady (number_steady (head_number hs)) (λ n. bind_steady (all_steady vs ss) (divisible_steady in_question n))
  judge_steady vs (group _) = refuse_steady _

  all_steady : (vs : List Variable) (ss : Sexps) → Steady (judge_all in_question vs ss)
  all_steady vs end = return_steady []
  all_steady vs (x ▸ ss) = bind_steady (judge_steady vs x) (λ a. bind_steady (all_steady vs ss) (λ ts. return_steady (a ∷ ts)))

  bindings_steady : (vs : List Variable) (ss : Sexps) → Steady (judge_bindings in_question vs ss)
  bindings_steady vs end = return_steady []
  bindings_steady vs (group (word (Symbol n) ▸ t ▸ end) ▸ rest) =
      bind_steady (judge_steady vs t) (λ a. bind_steady (bindings_steady vs rest) (λ xs. return_steady (record { name = n; term = a } ∷ xs)))
  bindings_steady vs (_ ▸ rest) = refuse_steady _

stays : (m : Judging Typed) (s : Scope) (x : Outcome Typed) (a : Typed) (t : Scope) → x ≡ done a t → Ending m s x → Stays m s a t
stays m s x a t e h = subst (Ending m s) e h

pub judged_again : JudgedAgain
judged_again vs x s t a e =
    let h = stays (judge in_question vs x) s (judge in_question vs x s) a t e ((judge_steady vs x).steady s) in
    record { joined = h.joined; grown = h.grown; again = h.again }
