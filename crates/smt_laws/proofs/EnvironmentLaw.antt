-- The tree of an accepted term has the value of the term.
use Rattle.std.proofs.Common.{◌≡◌, ℕ, List, [], ◌∷◌, ◌++◌, ap, sym, ◌∙◌, refl, subst, Bool, true, false, ◌&&◌, not, Option, Some, None, append_assoc, append-nil}
use Rattle.std.specs.Prelude.{pos, bytes_eq, if◌then◌else◌}
use Rattle.smt_meaning.specs.declared.values.Value.{Value}
use Rattle.smt_meaning.specs.declared.values.Sort.{Sort}
use Rattle.smt_meaning.specs.declared.values.Sort.TheVariants.{Bool as Truths}
use Rattle.smt_meaning.specs.declared.terms.Operator.{Operator}
use Rattle.smt_meaning.specs.declared.terms.Operator.TheVariants.{True, False, Divide, Modulo, Divisible}
use Rattle.smt_meaning.specs.declared.terms.Head.TheVariants.{Numeral as Number, Theory}
use Rattle.smt_meaning.specs.declared.tokens.Token.{Token}
use Rattle.smt_meaning.specs.declared.tokens.Token.TheVariants.{Numeral, Symbol, Reserved}
use Rattle.smt_meaning.specs.declared.tokens.Word.TheVariants.{Exclamation, Let}
use Rattle.smt_meaning.specs.Declaration.{Declaration}
use Rattle.smt_meaning.specs.declared.refusals.Refusal.{Refusal}
use Rattle.smt_meaning.specs.Term.{Tree, Trees, node, none, more, Interpretation, value, value_with, values_with, operate, fold_left, on_numbers, quotient}
use Rattle.smt_meaning.specs.TreeShape.{quotient_tree, divided_from, operation}
use Rattle.smt_meaning.specs.Sexp.{Sexp, Sexps, word, group, end, ◌▸◌}
use Rattle.smt_meaning.specs.Signature.{look_up, find_function, operators}
use Rattle.smt_meaning.specs.Sorts.{Scope, Outcome, done, refused, Judging, go_on, ◌>>=◌, ◌>>◌, return, refuse, require, required, the_scope, note, found, Typed, Variable, Rules, trees_of, find_variable, known, known_name, known_symbol, applied, applied_trees, judge_symbol, judge_operator, can_be_applied, judge_application, judge_bare, judge_numeral, decimal, judge_token, head_number, judge_head, judge_divisible, check_bindings, none_twice, bound_names, judge, judge_all, judge_bindings, has_free, variable_names}
use Rattle.smt_meaning.specs.Environment.{Environment, bound_value, declared_value, operator_or_declared, function_value, value_or, divisible_value, term_value, term_values, binding_values}
use Rattle.smt_laws.specs.TermLaws.{environment_of}
use Rattle.smt_laws.proofs.JudgeLaw.{Growing, Grows, attributes_growing}
use Rattle.smt_laws.proofs.BodyLaw.{applied_value}

-- ---- what a judgement gives, where it isn't refused

abbrev Ends : {A : Type 0} → (A → Scope → Type 0) → Outcome A → Type 0
Ends P (done a t) = P a t
Ends P (refused r) = Unit {0}

record Gives {A : Type 0} (s : Scope) (m : Judging A) (P : A → Scope → Type 0) : Type 0 where
  pub gives : Ends P (m s)

after_go_on : {A B : Type 0} (P : A → Scope → Type 0) (Q : B → Scope → Type 0) (x : Outcome A) (k : A → Judging B) → Ends P x → ((a : A) (t : Scope) → P a t → Gives t (k a) Q) → Ends Q (go_on x k)
after_go_on P Q (done a t) k h g = (g a t h).gives
after_go_on P Q (refused r) k h g = tt

bind_gives : {A B : Type 0} (s : Scope) (m : Judging A) (k : A → Judging B) (P : A → Scope → Type 0) (Q : B → Scope → Type 0)
    → Gives s m P → ((a : A) (t : Scope) → P a t → Gives t (k a) Q) → Gives s (m >>= k) Q
unfolding ◌>>=◌
bind_gives s m k P Q h g = record { gives = after_go_on P Q (m s) k h.gives g }

next_gives : {A B : Type 0} (s : Scope) (m : Judging A) (n : Judging B) (P : A → Scope → Type 0) (Q : B → Scope → Type 0)
    → Gives s m P → ((a : A) (t : Scope) → P a t → Gives t n Q) → Gives s (m >> n) Q
unfolding ◌>>◌
next_gives s m n P Q h g = record { gives = after_go_on P Q (m s) (λ a. n) h.gives g }

return_gives : {A : Type 0} (s : Scope) (a : A) (P : A → Scope → Type 0) → P a s → Gives s (return a) P
unfolding return
return_gives s a P h = record { gives = h }

refuse_gives : {A : Type 0} (s : Scope) (r : Refusal) (P : A → Scope → Type 0) → Gives s (refuse r) P
unfolding refuse
refuse_gives s r P = record { gives = tt }

-- nothing changes
abbrev Same : {A : Type 0} → Scope → A → Scope → Type 0
Same s a t = t ≡ s

require_gives : (s : Scope) (b : Bool) (r : Refusal) → Gives s (require b r) (Same s)
unfolding require return refuse
require_gives s b r = by_cases b
  where
    by_cases : (c : Bool) → Gives s (require c r) (Same s)
    by_cases true = record { gives = refl }
    by_cases false = record { gives = tt }

required_gives : {A : Type 0} (s : Scope) (o : Option A) (r : Refusal) → Gives s (required o r) (Same s)
unfolding required return refuse
required_gives s None r = record { gives = tt }
required_gives s (Some a) r = record { gives = refl }

scope_gives : (s : Scope) → Gives s the_scope (λ a t. (a ≡ s) × (t ≡ s))
unfolding the_scope
scope_gives s = record { gives = (refl, refl) }

-- ---- later signatures

-- the signature of a scope, and what was declared after it
abbrev Later : Scope → List Declaration → Type 0
Later s ds = (names : List Declaration) × (ds ≡ s.signature ++ names)

later_self : (s : Scope) → Later s s.signature
later_self s = ([], sym (append-nil s.signature))

later_still : (s t : Scope) (ds : List Declaration) → Later s t.signature → Later t ds → Later s ds
later_still s t ds h k = (h.0 ++ k.0, k.1 ∙ ap (λ xs. xs ++ k.0) h.1 ∙ append_assoc s.signature h.0 k.0)

later_same : (s t : Scope) (ds : List Declaration) → t.signature ≡ s.signature → Later t ds → Later s ds
later_same s t ds e k = (k.0, k.1 ∙ ap (λ xs. xs ++ k.0) e)

-- what is found is found again
abbrev Kept : Option Declaration → Option Declaration → Type 0
Kept o p = (d : Declaration) → o ≡ Some d → p ≡ Some d

kept_step : (d : Declaration) (o p : Option Declaration) (b : Bool) → Kept o p → Kept (if b then Some d else o) (if b then Some d else p)
kept_step d o p true h = λ e k. k
kept_step d o p false h = h

found_later : (n : List ℕ) (ds names : List Declaration) → Kept (find_function n ds) (find_function n (ds ++ names))
found_later n [] names = λ d e. absurd (cc)
found_later n (d ∷ ds) names = kept_step d (find_function n ds) (find_function n (ds ++ names)) (bytes_eq n d.name && not d.is_sort) (found_later n ds names)

kept_in : (n : List ℕ) (s : Scope) (ds : List Declaration) → Later s ds → Kept (find_function n s.signature) (find_function n ds)
kept_in n s ds h = subst (λ xs. Kept (find_function n s.signature) (find_function n xs)) (sym h.1) (found_later n s.signature h.0)

-- ---- applications

-- the tree is this one, and the signature stays
abbrev IsTree : Scope → Tree → Typed → Scope → Type 0
IsTree s u a t = (t.signature ≡ s.signature) × (a.tree ≡ u)

note_found : (s : Scope) (us : List Tree) (u : Tree) (x : Sort) → Gives s (note us >> found u x) (IsTree s u)
unfolding ◌>>◌ note found
note_found s us u x = record { gives = (refl, refl) }

from_same : {A : Type 0} (s t : Scope) (m : Judging A) (P : A → Scope → Type 0) → t ≡ s → Gives s m P → Gives t m P
from_same s t m P e h = subst (λ u. Gives u m P) (sym e) h

symbol_gives : (s : Scope) (r : Rules) (d : Declaration) (ts : Trees) → Gives s (judge_symbol r d ts) (IsTree s (applied d ts))
symbol_gives s r d ts =
    next_gives s _ _ (Same s) (IsTree s (applied d ts)) (require_gives s _ _)
    (λ a t e. from_same s t _ (IsTree s (applied d ts)) e (note_found s (applied_trees d ts) (applied d ts) d.rank.result))

operator_gives : (s : Scope) (r : Rules) (o : Operator) (ts : Trees) (x : Sort) → Gives s (judge_operator r o ts x) (IsTree s (operation o ts))
operator_gives s r o ts x =
    next_gives s _ _ (Same s) (IsTree s (operation o ts)) (require_gives s _ _)
    (λ a t e. from_same s t _ (IsTree s (operation o ts)) e (note_found s (operation o ts ∷ []) (operation o ts) x))

-- by one divisor after another
divided_value : (I : Interpretation) (ps : List Value) (t : Tree) (ts : Trees)
    → value_with I ps (divided_from t ts) ≡ fold_left (on_numbers quotient) (value_with I ps t) (values_with I ps ts)
divided_value I ps t none = refl
divided_value I ps t (more u us) = divided_value I ps (quotient_tree t u) us

-- the tree of an operator that is applied has the operator's value
pub operation_value : (I : Interpretation) (ps : List Value) (o : Operator) (ts : Trees) → value_with I ps (operation o ts) ≡ operate o (values_with I ps ts)
operation_value I ps Divide none = refl
operation_value I ps Divide (more t ts) = divided_value I ps t ts
operation_value I ps Modulo none = refl
operation_value I ps Modulo (more t none) = refl
operation_value I ps Modulo (more t (more u none)) = refl
operation_value I ps Modulo (more t (more u (more w ts))) = refl
operation_value I ps Divisible none = refl
operation_value I ps Divisible (more t none) = refl
operation_value I ps Divisible (more t (more u none)) = refl
operation_value I ps Divisible (more t (more u (more w ts))) = refl
operation_value I ps o ts = refl

weaken : {A : Type 0} (s : Scope) (m : Judging A) (P Q : A → Scope → Type 0) → ((a : A) (t : Scope) → P a t → Q a t) → Gives s m P → Gives s m Q
weaken s m P Q f h = record { gives = go (m s) h.gives }
  where
    go : (x : Outcome _) → Ends P x → Ends Q x
    go (done a t) k = f a t k
    go (refused r) k = tt

-- ---- names

abbrev variable_value : Interpretation → List Value → Option Typed → Option Value
variable_value I ps None = None
variable_value I ps (Some t) = Some (value_with I ps t.tree)

bound_step : (I : Interpretation) (ps : List Value) (v : Typed) (x : Option Value) (o : Option Typed) (b : Bool) → x ≡ variable_value I ps o
    → (if b then Some (value_with I ps v.tree) else x) ≡ variable_value I ps (if b then Some v else o)
bound_step I ps v x o true e = refl
bound_step I ps v x o false e = e

bound_is : (I : Interpretation) (ps : List Value) (n : List ℕ) (vs : List Variable) → bound_value n (environment_of I ps vs) ≡ variable_value I ps (find_variable n vs)
bound_is I ps n [] = refl
bound_is I ps n (v ∷ vs) = bound_step I ps v.term (bound_value n (environment_of I ps vs)) (find_variable n vs) (bytes_eq n v.name) (bound_is I ps n vs)

declared_same : (I : Interpretation) (ps : List Value) (u : Tree) (d : Declaration) (ts : Trees) (p : Option Declaration) → Kept (Some d) p → u ≡ applied d ts
    → value_with I ps u ≡ declared_value I p (values_with I ps ts)
declared_same I ps u d ts p k e =
    ap (value_with I ps) e ∙ applied_value I ps d ts ∙ ap (λ q. declared_value I q (values_with I ps ts)) (sym (k d refl))

-- a bare symbol has the value of the variable, operator or declaration that it is
abbrev Bare : Scope → Option Typed → Option Operator → Option Declaration → Typed → Scope → Type 0
Bare s v o d a t =
    (t.signature ≡ s.signature)
    × ((p : Option Declaration) → Kept d p → (I : Interpretation) (ps : List Value) → value_with I ps a.tree ≡ value_or (variable_value I ps v) (operator_or_declared I o p []))

bare_gives : (s : Scope) (r : Rules) (n : List ℕ) (v : Option Typed) (o : Option Operator) (d : Option Declaration)
    → Gives s (judge_bare r n (known_name v (known_symbol o d))) (Bare s v o d)
bare_gives s r n (Some v) o d = return_gives s v (Bare s (Some v) o d) (refl, λ p k I ps. refl)
bare_gives s r n None (Some True) d =
    weaken s _ (IsTree s (node (Theory True) none)) (Bare s None (Some True) d) (λ a t h. (h.0, λ p k I ps. ap (value_with I ps) h.1)) (operator_gives s r True none Truths)
bare_gives s r n None (Some False) d =
    weaken s _ (IsTree s (node (Theory False) none)) (Bare s None (Some False) d) (λ a t h. (h.0, λ p k I ps. ap (value_with I ps) h.1)) (operator_gives s r False none Truths)
bare_gives s r n None (Some o) d = refuse_gives s _ _
bare_gives s r n None None None = refuse_gives s _ _
bare_gives s r n None None (Some d) =
    next_gives s _ _ (Same s) (Bare s None None (Some d)) (require_gives s _ _)
    (λ a t e. from_same s t _ (Bare s None None (Some d)) e
    (weaken s _ (IsTree s (applied d none)) (Bare s None None (Some d)) (λ b u h. (h.0, λ p k I ps. declared_same I ps b.tree d none p k h.1)) (symbol_gives s r d none)))

-- an application has the value of the operator or declaration at its arguments' values
abbrev Applied : Scope → Option Operator → Option Declaration → List Typed → Typed → Scope → Type 0
Applied s o d ts a t =
    (t.signature ≡ s.signature)
    × ((p : Option Declaration) → Kept d p → (I : Interpretation) (ps : List Value) → value_with I ps a.tree ≡ operator_or_declared I o p (values_with I ps (trees_of ts)))

application_gives : (s : Scope) (r : Rules) (n : List ℕ) (v : Option Typed) (o : Option Operator) (d : Option Declaration) (ts : List Typed)
    → Gives s (judge_application r n (known_name v (known_symbol o d)) ts) (Applied s o d ts)
application_gives s r n (Some v) o d ts = refuse_gives s _ _
application_gives s r n None (Some o) d ts =
    next_gives s _ _ (Same s) (Applied s (Some o) d ts) (require_gives s _ _)
    (λ a t e. from_same s t _ (Applied s (Some o) d ts) e
    (bind_gives s _ _ (Same s) (Applied s (Some o) d ts) (required_gives s _ _)
    (λ x u f. from_same s u _ (Applied s (Some o) d ts) f
    (weaken s _ (IsTree s (operation o (trees_of ts))) (Applied s (Some o) d ts) (λ b w h. (h.0, λ p k I ps. ap (value_with I ps) h.1 ∙ operation_value I ps o (trees_of ts)))
    (operator_gives s r o (trees_of ts) x)))))
application_gives s r n None None None ts = refuse_gives s _ _
application_gives s r n None None (Some d) ts =
    next_gives s _ _ (Same s) (Applied s None (Some d) ts) (require_gives s _ _)
    (λ a t e. from_same s t _ (Applied s None (Some d) ts) e
    (next_gives s _ _ (Same s) (Applied s None (Some d) ts) (require_gives s _ _)
    (λ b u f. from_same s u _ (Applied s None (Some d) ts) f
    (weaken s _ (IsTree s (applied d (trees_of ts))) (Applied s None (Some d) ts) (λ c w h. (h.0, λ p k I ps. declared_same I ps c.tree d (trees_of ts) p k h.1)) (symbol_gives s r d (trees_of ts))))))

-- ---- (_ divisible n)

head_gives : (s : Scope) (o : Option ℕ) → Gives s (judge_head o) (λ n t. (t ≡ s) × (o ≡ Some n))
head_gives s None = refuse_gives s _ _
head_gives s (Some n) =
    next_gives s _ _ (Same s) (λ m t. (t ≡ s) × (Some n ≡ Some m)) (require_gives s _ _)
    (λ a t e. from_same s t _ (λ m u. (u ≡ s) × (Some n ≡ Some m)) e
    (next_gives s _ _ (Same s) (λ m u. (u ≡ s) × (Some n ≡ Some m)) (require_gives s _ _)
    (λ b u f. from_same s u _ (λ m w. (w ≡ s) × (Some n ≡ Some m)) f (return_gives s n (λ m w. (w ≡ s) × (Some n ≡ Some m)) (refl, refl)))))

-- such an application says whether the number divides
abbrev DividesSo : Scope → ℕ → List Typed → Typed → Scope → Type 0
DividesSo s n ts a t =
    (t.signature ≡ s.signature) × ((I : Interpretation) (ps : List Value) → value_with I ps a.tree ≡ divisible_value (Some n) (values_with I ps (trees_of ts)))

divisible_gives : (s : Scope) (r : Rules) (n : ℕ) (ts : List Typed) → Gives s (judge_divisible r n ts) (DividesSo s n ts)
divisible_gives s r n [] = refuse_gives s _ _
divisible_gives s r n (a ∷ []) =
    let arguments : Trees = more a.tree (more (node (Number (pos n)) none) none) in
    next_gives s _ _ (Same s) (DividesSo s n (a ∷ [])) (require_gives s _ _)
    (λ b t e. from_same s t _ (DividesSo s n (a ∷ [])) e
    (weaken s _ (IsTree s (operation Divisible arguments)) (DividesSo s n (a ∷ [])) (λ c w h. (h.0, λ I ps. ap (value_with I ps) h.1)) (operator_gives s r Divisible arguments Truths)))
divisible_gives s r n (a ∷ b ∷ ts) = refuse_gives s _ _

can_be_applied_gives : (s : Scope) (n : List ℕ) (v : Option Typed) (o : Option Operator) (d : Option Declaration) → Gives s (can_be_applied n (known_name v (known_symbol o d))) (Same s)
can_be_applied_gives s n (Some v) o d = refuse_gives s _ _
can_be_applied_gives s n None (Some o) d = return_gives s tt (Same s) refl
can_be_applied_gives s n None None None = refuse_gives s _ _
can_be_applied_gives s n None None (Some d) = return_gives s tt (Same s) refl

scope_then : {A : Type 0} (s : Scope) (k : Scope → Judging A) (P : A → Scope → Type 0) → Gives s (k s) P → Gives s (the_scope >>= k) P
unfolding ◌>>=◌ the_scope
scope_then s k P h = record { gives = h.gives }

-- ---- terms

abbrev Means : Scope → List Variable → Sexp → Typed → Scope → Type 0
Means s vs x a t =
    Later s t.signature
    × ((ds : List Declaration) → Later t ds → (I : Interpretation) (ps : List Value) → value_with I ps a.tree ≡ term_value ds I (environment_of I ps vs) x)

abbrev MeanAll : Scope → List Variable → Sexps → List Typed → Scope → Type 0
MeanAll s vs xs ts t =
    Later s t.signature
    × ((ds : List Declaration) → Later t ds → (I : Interpretation) (ps : List Value) → values_with I ps (trees_of ts) ≡ term_values ds I (environment_of I ps vs) xs)

abbrev Binds : Scope → List Variable → Sexps → List Variable → Scope → Type 0
Binds s vs bs xs t =
    Later s t.signature
    × ((ds : List Declaration) → Later t ds → (I : Interpretation) (ps : List Value) → environment_of I ps xs ≡ binding_values ds I (environment_of I ps vs) bs)

unchanged : (s t : Scope) → t.signature ≡ s.signature → Later s t.signature
unchanged s t e = ([], e ∙ sym (append-nil s.signature))

environment_append : (I : Interpretation) (ps : List Value) (xs vs : List Variable) → environment_of I ps (xs ++ vs) ≡ environment_of I ps xs ++ environment_of I ps vs
environment_append I ps [] vs = refl
environment_append I ps (x ∷ xs) vs = ap (λ bs. record { name = x.name; value = value_with I ps x.term.tree } ∷ bs) (environment_append I ps xs vs)

from_growing : {A : Type 0} (s : Scope) (m : Judging A) → Growing m → Gives s m (λ a t. Later s t.signature)
from_growing {A} s m h = record { gives = go (m s) (h.grows s) }
  where
    go : (x : Outcome A) → Grows s x → Ends (λ a t. Later s t.signature) x
    go (done a t) g = g
    go (refused r) g = tt

none_twice_gives : (s : Scope) (before ns : List (List ℕ)) → Gives s (none_twice before ns) (Same s)
none_twice_gives s before [] = return_gives s tt (Same s) refl
none_twice_gives s before (n ∷ ns) = next_gives s _ _ (Same s) (Same s) (require_gives s _ _) (λ a t e. from_same s t _ (Same s) e (none_twice_gives s (n ∷ before) ns))

bindings_gives : (s : Scope) (o : Option (List (List ℕ))) → Gives s (check_bindings o) (Same s)
bindings_gives s None = refuse_gives s _ _
bindings_gives s (Some []) = refuse_gives s _ _
bindings_gives s (Some (n ∷ ns)) = none_twice_gives s [] (n ∷ ns)

symbol_means : (s : Scope) (r : Rules) (vs : List Variable) (n : List ℕ) → Gives s (judge_bare r n (known vs n s)) (Means s vs (word (Symbol n)))
symbol_means s r vs n =
    weaken s _ (Bare s (find_variable n vs) (look_up n operators) (find_function n s.signature)) (Means s vs (word (Symbol n)))
    (λ a t h. (
      unchanged s t h.0,
      λ ds k I ps.
          h.1 (find_function n ds) (kept_in n s ds (later_same s t ds h.0 k)) I ps ∙ ap (λ v. value_or v (function_value ds I n [])) (sym (bound_is I ps n vs)),
    ))
    (bare_gives s r n (find_variable n vs) (look_up n operators) (find_function n s.signature))

numeral_means : (s : Scope) (vs : List Variable) (cs : List ℕ) → Gives s (judge_numeral (decimal cs)) (Means s vs (word (Numeral cs)))
numeral_means s vs cs =
    next_gives s _ _ (Same s) (Means s vs (word (Numeral cs))) (require_gives s _ _)
    (λ a t e. from_same s t _ (Means s vs (word (Numeral cs))) e
    (weaken s _ _ (Means s vs (word (Numeral cs))) (λ b u h. (unchanged s u h.0, λ ds k I ps. ap (value_with I ps) h.1)) (note_found s _ _ _)))

token_means : (s : Scope) (r : Rules) (vs : List Variable) (t : Token) → Gives s (judge_token r vs t) (Means s vs (word t))
token_means s r vs (Symbol n) = scope_then s (λ u. judge_bare r n (known vs n u)) (Means s vs (word (Symbol n))) (symbol_means s r vs n)
token_means s r vs (Numeral cs) = numeral_means s vs cs
token_means s r vs _ = refuse_gives s _ _

both : {v w : Value} {vs ws : List Value} → v ≡ w → vs ≡ ws → v ∷ vs ≡ w ∷ ws
both p q = cc

bound : (n : List ℕ) {v w : Value} {bs cs : Environment} → v ≡ w → bs ≡ cs → record { name = n; value = v } ∷ bs ≡ record { name = n; value = w } ∷ cs
bound n {v} {w} {bs} {cs} p q = ap (λ x. record { name = n; value = x } ∷ bs) p ∙ ap (λ xs. record { name = n; value = w } ∷ xs) q

mutual
  judge_means : (r : Rules) (vs : List Variable) (x : Sexp) (s : Scope) → Gives s (judge r vs x) (Means s vs x)
  judge_means r vs (word t) s = token_means s r vs t
  judge_means r vs (group (word (Reserved Let) ▸ group bs ▸ b ▸ end)) s =
      next_gives s _ _ (Same s) (Means s vs (group (word (Reserved Let) ▸ group bs ▸ b ▸ end))) (bindings_gives s (bound_names bs))
      (λ a t e. from_same s t _ (Means s vs (group (word (Reserved Let) ▸ group bs ▸ b ▸ end))) e
      (bind_gives s _ _ (Binds s vs bs) (Means s vs (group (word (Reserved Let) ▸ group bs ▸ b ▸ end))) (bindings_mean r vs bs s)
      (λ xs u h. weaken u _ (Means u (xs ++ vs) b) (Means s vs (group (word (Reserved Let) ▸ group bs ▸ b ▸ end)))
      (λ c w k. (
        later_still s u w.signature h.0 k.0,
        λ ds l I ps.
            k.1 ds l I ps
            ∙ ap (λ env. term_value ds I env b) (environment_append I ps xs vs ∙ ap (λ env. env ++ environment_of I ps vs) (h.1 ds (later_still u w ds k.0 l) I ps)),
      ))
      (judge_means r (xs ++ vs) b u))))
  judge_means r vs (group (word (Reserved Let) ▸ _)) s = refuse_gives s _ _
  judge_means r vs (group (word (Reserved Exclamation) ▸ t ▸ rest)) s =
      next_gives s _ _ (Same s) (Means s vs (group (word (Reserved Exclamation) ▸ t ▸ rest))) (require_gives s _ _)
      (λ a u e. from_same s u _ (Means s vs (group (word (Reserved Exclamation) ▸ t ▸ rest))) e
      (bind_gives s _ _ (Means s vs t) (Means s vs (group (word (Reserved Exclamation) ▸ t ▸ rest))) (judge_means r vs t s)
      (λ b w h. next_gives w _ _ (λ c v. Later w v.signature) (Means s vs (group (word (Reserved Exclamation) ▸ t ▸ rest)))
      (from_growing w _ (attributes_growing r (has_free (variable_names vs) t) b rest))
      (λ c v g. return_gives v b (Means s vs (group (word (Reserved Exclamation) ▸ t ▸ rest)))
      (later_still s w v.signature h.0 g, λ ds l I ps. h.1 ds (later_still w v ds g l) I ps)))))
  judge_means r vs (group (word (Reserved Exclamation) ▸ end)) s = refuse_gives s _ _
  judge_means r vs (group (word (Reserved w) ▸ _)) s = refuse_gives s _ _
  judge_means r vs (group (word (Symbol n) ▸ xs)) s =
      scope_then s _ (Means s vs (group (word (Symbol n) ▸ xs)))
      (next_gives s _ _ (Same s) (Means s vs (group (word (Symbol n) ▸ xs))) (can_be_applied_gives s n (find_variable n vs) (look_up n operators) (find_function n s.signature))
      (λ a t e. from_same s t _ (Means s vs (group (word (Symbol n) ▸ xs))) e
      (bind_gives s _ _ (MeanAll s vs xs) (Means s vs (group (word (Symbol n) ▸ xs))) (all_mean r vs xs s)
      (λ ts u h. weaken u _ (Applied u (look_up n operators) (find_function n s.signature) ts) (Means s vs (group (word (Symbol n) ▸ xs)))
      (λ c w k. (
        later_still s u w.signature h.0 (unchanged u w k.0),
        λ ds l I ps.
            k.1 (find_function n ds) (kept_in n s ds (later_still s u ds h.0 (later_same u w ds k.0 l))) I ps
            ∙ ap (function_value ds I n) (h.1 ds (later_same u w ds k.0 l) I ps),
      ))
      (application_gives u r n (find_variable n vs) (look_up n operators) (find_function n s.signature) ts)))))
  judge_means r vs (group (group hs ▸ xs)) s =
      bind_gives s _ _ (λ n t. (t ≡ s) × (head_number hs ≡ Some n)) (Means s vs (group (group hs ▸ xs))) (head_gives s (head_number hs))
      (λ n t e. from_same s t _ (Means s vs (group (group hs ▸ xs))) e.0
      (bind_gives s _ _ (MeanAll s vs xs) (Means s vs (group (group hs ▸ xs))) (all_mean r vs xs s)
      (λ ts u h. weaken u _ (DividesSo u n ts) (Means s vs (group (group hs ▸ xs)))
      (λ c w k. (
        later_still s u w.signature h.0 (unchanged u w k.0),
        λ ds l I ps. k.1 I ps ∙ ap (divisible_value (Some n)) (h.1 ds (later_same u w ds k.0 l) I ps) ∙ ap (λ o. divisible_value o (term_values ds I (environment_of I ps vs) xs)) (sym e.1),
      ))
      (divisible_gives u r n ts))))
  judge_means r vs (group _) s = refuse_gives s _ _

  all_mean : (r : Rules) (vs : List Variable) (xs : Sexps) (s : Scope) → Gives s (judge_all r vs xs) (MeanAll s vs xs)
  all_mean r vs end s = return_gives s [] (MeanAll s vs end) (later_self s, λ ds l I ps. refl)
  all_mean r vs (x ▸ xs) s =
      bind_gives s _ _ (Means s vs x) (MeanAll s vs (x ▸ xs)) (judge_means r vs x s)
      (λ a t h. bind_gives t _ _ (MeanAll t vs xs) (MeanAll s vs (x ▸ xs)) (all_mean r vs xs t)
      (λ ts u k. return_gives u (a ∷ ts) (MeanAll s vs (x ▸ xs))
      (later_still s t u.signature h.0 k.0, λ ds l I ps. both (h.1 ds (later_still t u ds k.0 l) I ps) (k.1 ds l I ps))))

  bindings_mean : (r : Rules) (vs : List Variable) (bs : Sexps) (s : Scope) → Gives s (judge_bindings r vs bs) (Binds s vs bs)
  bindings_mean r vs end s = return_gives s [] (Binds s vs end) (later_self s, λ ds l I ps. refl)
  bindings_mean r vs (group (word (Symbol n) ▸ x ▸ end) ▸ rest) s =
      bind_gives s _ _ (Means s vs x) (Binds s vs (group (word (Symbol n) ▸ x ▸ end) ▸ rest)) (judge_means r vs x s)
      (λ a t h. bind_gives t _ _ (Binds t vs rest) (Binds s vs (group (word (Symbol n) ▸ x ▸ end) ▸ rest)) (bindings_mean r vs rest t)
      (λ xs u k. return_gives u _ (Binds s vs (group (word (Symbol n) ▸ x ▸ end) ▸ rest))
      (later_still s t u.signature h.0 k.0, λ ds l I ps. bound n (h.1 ds (later_still t u ds k.0 l) I ps) (k.1 ds l I ps))))
  bindings_mean r vs (_ ▸ rest) s = refuse_gives s _ _

-- ---- the laws

ended : {A : Type 0} (P : A → Scope → Type 0) (x : Outcome A) (a : A) (t : Scope) → Ends P x → x ≡ done a t → P a t
ended P x a t h e = subst (Ends P) e h

pub body_has : (r : Rules) (vs : List Variable) (x : Sexp) (s t : Scope) (a : Typed) (I : Interpretation) (ps : List Value)
    → judge r vs x s ≡ done a t → value_with I ps a.tree ≡ term_value t.signature I (environment_of I ps vs) x
body_has r vs x s t a I ps e = (ended (Means s vs x) (judge r vs x s) a t (judge_means r vs x s).gives e).1 t.signature (later_self t) I ps

pub tree_has : (r : Rules) (x : Sexp) (s t : Scope) (a : Typed) (I : Interpretation) → judge r [] x s ≡ done a t → value I a.tree ≡ term_value t.signature I [] x
tree_has r x s t a I e = body_has r [] x s t a I [] e
