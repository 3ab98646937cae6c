-- What judging a question leaves of a scope: it declares nothing, and its trees join the list.
use Rattle.std.proofs.Common.{◌≡◌, ℕ, ◌+◌, ◌≤◌, List, [], ◌∷◌, ◌++◌, length, refl, ◌∙◌, Bool, true, false, Option, Some, None, arith}
use Rattle.std.specs.Prelude.{pos, codes, bytes_eq, if◌then◌else◌}
use Rattle.std.proofs.lemmas.List.{length-append}
use Rattle.smt_meaning.specs.declared.values.Sort.{Sort}
use Rattle.smt_meaning.specs.declared.values.Sort.TheVariants.{Bool as Truths}
use Rattle.smt_meaning.specs.declared.terms.Operator.{Operator}
use Rattle.smt_meaning.specs.declared.terms.Operator.TheVariants.{True, False, Divisible}
use Rattle.smt_meaning.specs.declared.terms.Head.TheVariants.{Numeral as Number}
use Rattle.smt_meaning.specs.declared.tokens.Token.{Token}
use Rattle.smt_meaning.specs.declared.tokens.Token.TheVariants.{Numeral, Symbol, Reserved, Keyword}
use Rattle.smt_meaning.specs.declared.tokens.Word.TheVariants.{Exclamation, Let}
use Rattle.smt_meaning.specs.declared.refusals.Refusal.{Refusal}
use Rattle.smt_meaning.specs.Declaration.{Declaration}
use Rattle.smt_meaning.specs.Term.{Tree, Trees, node, none, more}
use Rattle.smt_meaning.specs.TreeShape.{is_among, with_tree, with_parts, with_all_parts}
use Rattle.smt_meaning.specs.Sexp.{Sexp, Sexps, word, group, end, ◌▸◌}
use Rattle.smt_meaning.specs.Sorts.{Scope, Outcome, done, refused, Judging, go_on, ◌>>=◌, ◌>>◌, return, refuse, require, required, the_scope, with_all, note, found, Typed, Variable, Known, variable, operator, function, unknown, known, can_be_applied, judge_application, judge_bare, judge_symbol, judge_operator, judge_token, head_number, judge_head, judge_divisible, check_bindings, none_twice, bound_names, has_free, variable_names, name_by, judge_attributes, either, judge, judge_all, judge_bindings}
use Rattle.smt_meaning.specs.StackCommand.{in_question}

-- nothing is declared, and no tree goes
pub record Stays (s t : Scope) : Type 0 where
  pub signature : t.signature ≡ s.signature
  pub given : t.given ≡ s.given
  pub longer : length s.trees ≤ length t.trees

pub stays_self : (s : Scope) → Stays s s
stays_self s = record { signature = refl; given = refl; longer = omega arith }

pub stays_still : (s t u : Scope) → Stays s t → Stays t u → Stays s u
stays_still s t u h k = record { signature = k.signature ∙ h.signature; given = k.given ∙ h.given; longer = omega (arith, h.longer, k.longer) }

abbrev pub Leaves : {A : Type 0} → Scope → Outcome A → Type 0
Leaves s (done a t) = Stays s t
Leaves s (refused r) = Unit {0}

pub record Leaving {A : Type 0} (m : Judging A) : Type 0 where
  pub leaves : (s : Scope) → Leaves s (m s)

-- ---- steps

further : {B : Type 0} (s t : Scope) (o : Outcome B) → Stays s t → Leaves t o → Leaves s o
further s t (done b u) h k = stays_still s t u h k
further s t (refused r) h k = tt

after_go_on : {A B : Type 0} (s : Scope) (x : Outcome A) (k : A → Judging B) → Leaves s x → ((a : A) → Leaving (k a)) → Leaves s (go_on x k)
after_go_on s (done a t) k h g = further s t (k a t) h ((g a).leaves t)
after_go_on s (refused r) k h g = tt

bind_leaves : {A B : Type 0} {m : Judging A} {k : A → Judging B} → Leaving m → ((a : A) → Leaving (k a)) → Leaving (m >>= k)
unfolding ◌>>=◌
bind_leaves {m = m} {k = k} h g = record { leaves = λ s. after_go_on s (m s) k (h.leaves s) g }

next_leaves : {A B : Type 0} {m : Judging A} {n : Judging B} → Leaving m → Leaving n → Leaving (m >> n)
unfolding ◌>>◌
next_leaves {m = m} {n = n} h g = record { leaves = λ s. after_go_on s (m s) (λ a. n) (h.leaves s) (λ a. g) }

return_leaves : {A : Type 0} (a : A) → Leaving (return a)
unfolding return
return_leaves a = record { leaves = λ s. stays_self s }

refuse_leaves : (A : Type 0) (r : Refusal) → Leaving {A = A} (refuse r)
unfolding refuse
refuse_leaves A r = record { leaves = λ s. tt }

require_leaves : (b : Bool) (r : Refusal) → Leaving (require b r)
unfolding require
require_leaves b r = by_cases b
  where
    by_cases : (c : Bool) → Leaving (require c r)
    by_cases true = return_leaves tt
    by_cases false = refuse_leaves _ r

required_leaves : {A : Type 0} (o : Option A) (r : Refusal) → Leaving (required o r)
unfolding required
required_leaves None r = refuse_leaves _ r
required_leaves (Some a) r = return_leaves a

scope_leaves : Leaving the_scope
unfolding the_scope
scope_leaves = record { leaves = λ s. stays_self s }

found_leaves : (t : Tree) (x : Sort) → Leaving (found t x)
unfolding found
found_leaves t x = record { leaves = λ s. stays_self s }

-- ---- trees join the list

tree_longer : (ts : List Tree) (t : Tree) → length ts ≤ length (with_tree ts t)
tree_longer ts t = by_cases (is_among t ts)
  where
    by_cases : (b : Bool) → length ts ≤ length (if b then ts else ts ++ t ∷ [])
    by_cases true = omega arith
    by_cases false = let e : length (ts ++ t ∷ []) ≡ length ts + 1 = length-append ts (t ∷ []) in omega (arith, e)

mutual
  parts_longer : (ts : List Tree) (t : Tree) → length ts ≤ length (with_parts ts t)
  parts_longer ts (node h us) =
      let a : length ts ≤ length (with_all_parts ts us) = all_parts_longer ts us in
      let b : length (with_all_parts ts us) ≤ length (with_parts ts (node h us)) = tree_longer (with_all_parts ts us) (node h us) in omega (arith, a, b)

  all_parts_longer : (ts : List Tree) (us : Trees) → length ts ≤ length (with_all_parts ts us)
  all_parts_longer ts none = omega arith
  all_parts_longer ts (more u us) =
      let a : length ts ≤ length (with_parts ts u) = parts_longer ts u in
      let b : length (with_parts ts u) ≤ length (with_all_parts ts (more u us)) = all_parts_longer (with_parts ts u) us in omega (arith, a, b)

all_longer : (ts us : List Tree) → length ts ≤ length (with_all ts us)
all_longer ts [] = omega arith
all_longer ts (u ∷ us) =
    let a : length ts ≤ length (with_parts ts u) = parts_longer ts u in
    let b : length (with_parts ts u) ≤ length (with_all ts (u ∷ us)) = all_longer (with_parts ts u) us in omega (arith, a, b)

note_leaves : (us : List Tree) → Leaving (note us)
unfolding note
note_leaves us = record { leaves = λ s. record { signature = refl; given = refl; longer = all_longer s.trees us } }

-- ---- terms

symbol_leaves : (d : Declaration) (ts : Trees) → Leaving (judge_symbol in_question d ts)
symbol_leaves d ts = next_leaves (require_leaves _ _) (next_leaves (note_leaves _) (found_leaves _ _))

operator_leaves : (o : Operator) (ts : Trees) (x : Sort) → Leaving (judge_operator in_question o ts x)
operator_leaves o ts x = next_leaves (require_leaves _ _) (next_leaves (note_leaves _) (found_leaves _ _))

bare_leaves : (n : List ℕ) (k : Known) → Leaving (judge_bare in_question n k)
bare_leaves n (variable t) = return_leaves t
bare_leaves n unknown = refuse_leaves _ _
bare_leaves n (operator True) = operator_leaves True _ _
bare_leaves n (operator False) = operator_leaves False _ _
bare_leaves n (operator _) = refuse_leaves _ _
bare_leaves n (function d) = next_leaves (require_leaves _ _) (symbol_leaves d _)

application_leaves : (n : List ℕ) (k : Known) (ts : List Typed) → Leaving (judge_application in_question n k ts)
application_leaves n (variable t) ts = refuse_leaves _ _
application_leaves n unknown ts = refuse_leaves _ _
application_leaves n (operator o) ts = next_leaves (require_leaves _ _) (bind_leaves (required_leaves _ _) (λ x. operator_leaves o _ x))
application_leaves n (function d) ts = next_leaves (require_leaves _ _) (next_leaves (require_leaves _ _) (symbol_leaves d _))

applied_leaves : (n : List ℕ) (k : Known) → Leaving (can_be_applied n k)
applied_leaves n (variable t) = refuse_leaves _ _
applied_leaves n unknown = refuse_leaves _ _
applied_leaves n _ = return_leaves tt

token_leaves : (vs : List Variable) (t : Token) → Leaving (judge_token in_question vs t)
token_leaves vs (Symbol n) = bind_leaves scope_leaves (λ s. bare_leaves n (known vs n s))
token_leaves vs (Numeral cs) = next_leaves (require_leaves _ _) (next_leaves (note_leaves _) (found_leaves _ _))
token_leaves vs _ = refuse_leaves _ _

head_leaves : (o : Option ℕ) → Leaving (judge_head o)
head_leaves None = refuse_leaves _ _
head_leaves (Some n) = next_leaves (require_leaves _ _) (next_leaves (require_leaves _ _) (return_leaves n))

divisible_leaves : (n : ℕ) (ts : List Typed) → Leaving (judge_divisible in_question n ts)
divisible_leaves n [] = refuse_leaves _ _
divisible_leaves n (a ∷ []) = next_leaves (require_leaves _ _) (operator_leaves Divisible (more a.tree (more (node (Number (pos n)) none) none)) Truths)
divisible_leaves n (a ∷ b ∷ ts) = refuse_leaves _ _

none_twice_leaves : (before ns : List (List ℕ)) → Leaving (none_twice before ns)
none_twice_leaves before [] = return_leaves tt
none_twice_leaves before (n ∷ ns) = next_leaves (require_leaves _ _) (none_twice_leaves (n ∷ before) ns)

checked_leaves : (o : Option (List (List ℕ))) → Leaving (check_bindings o)
checked_leaves None = refuse_leaves _ _
checked_leaves (Some []) = refuse_leaves _ _
checked_leaves (Some (n ∷ ns)) = none_twice_leaves [] (n ∷ ns)

-- a question gives no name
name_leaves : (o : Bool) (t : Typed) (ss : Sexps) → Leaving (name_by in_question o t ss)
unfolding ◌>>=◌ ◌>>◌ return refuse require the_scope
name_leaves o t end = record { leaves = λ s. tt }
name_leaves o t (word (Symbol n) ▸ rest) = record { leaves = λ s. tt }
name_leaves o t (_ ▸ rest) = record { leaves = λ s. tt }

either_leaves : {A : Type 0} (b : Bool) {m n : Judging A} → Leaving m → Leaving n → Leaving (either b m n)
either_leaves true h g = h
either_leaves false h g = g

attributes_leave : (o : Bool) (t : Typed) (ss : Sexps) → Leaving (judge_attributes in_question o t ss)
attributes_leave o t end = return_leaves tt
attributes_leave o t (word (Keyword k) ▸ rest) =
    either_leaves (bytes_eq k (codes "named")) (next_leaves (name_leaves o t rest) (attributes_leave o t rest)) (attributes_leave o t rest)
attributes_leave o t (_ ▸ rest) = attributes_leave o t rest

mutual
  pub judge_leaves : (vs : List Variable) (x : Sexp) → Leaving (judge in_question vs x)
  judge_leaves vs (word t) = token_leaves vs t
  judge_leaves vs (group (word (Reserved Let) ▸ group bs ▸ b ▸ end)) =
      next_leaves (checked_leaves (bound_names bs)) (bind_leaves (bindings_leave vs bs) (λ xs. judge_leaves (xs ++ vs) b))
  judge_leaves vs (group (word (Reserved Let) ▸ _)) = refuse_leaves _ _
  judge_leaves vs (group (word (Reserved Exclamation) ▸ t ▸ rest)) =
      next_leaves (require_leaves _ _) (bind_leaves (judge_leaves vs t) (λ a. next_leaves (attributes_leave (has_free (variable_names vs) t) a rest) (return_leaves a)))
  judge_leaves vs (group (word (Reserved Exclamation) ▸ end)) = refuse_leaves _ _
  judge_leaves vs (group (word (Reserved w) ▸ _)) = refuse_leaves _ _
  judge_leaves vs (group (word (Symbol n) ▸ ss)) =
      bind_leaves scope_leaves (λ s. next_leaves (applied_leaves n (known vs n s)) (bind_leaves (all_leave vs ss) (application_leaves n (known vs n s))))
  judge_leaves vs (group (group hs ▸ ss)) = bind_leaves (head_leaves (head_number hs)) (λ n. bind_leaves (all_leave vs ss) (divisible_leaves n))
  judge_leaves vs (group _) = refuse_leaves _ _

  all_leave : (vs : List Variable) (ss : Sexps) → Leaving (judge_all in_question vs ss)
  all_leave vs end = return_leaves []
  all_leave vs (x ▸ ss) = bind_leaves (judge_leaves vs x) (λ a. bind_leaves (all_leave vs ss) (λ ts. return_leaves (a ∷ ts)))

  bindings_leave : (vs : List Variable) (ss : Sexps) → Leaving (judge_bindings in_question vs ss)
  bindings_leave vs end = return_leaves []
  bindings_leave vs (group (word (Symbol n) ▸ t ▸ end) ▸ rest) = bind_leaves (judge_leaves vs t) (λ a. bind_leaves (bindings_leave vs rest) (λ xs. return_leaves _))
  bindings_leave vs (_ ▸ rest) = refuse_leaves _ _
