-- Judging parameters and bodies.
use Rattle.std.proofs.Common.{◌≡◌, ◌∙◌, sym, refl, ap, ap₂, ℕ, ◌+◌, Bool, true, false, not, List, [], ◌∷◌, ◌++◌, map, length, arith, append_assoc, Some, None, ◌<◌, bytes_eq, if◌then◌else◌}
use Rattle.std.specs.Prelude.{reverse, is_some}
use Rattle.std.proofs.lemmas.List.{append-nil, length_push, map-append, reverse-append}
use Rattle.term_store.specs.Newest.{first_named, newest_named, IsNewest}
use Rattle.elaborate.specs.declared.Parameter.{Parameter}
use Rattle.elaborate.specs.Judged.{parameters_from, variables_of}
use Rattle.smt_meaning.specs.declared.values.Sort.{Sort}
use Rattle.smt_meaning.specs.declared.tokens.Token.{Token}
use Rattle.smt_meaning.specs.declared.terms.Head.TheVariants.{Place}
use Rattle.smt_meaning.specs.declared.commands.Parameter.{Parameter as WrittenParameter}
use Rattle.smt_meaning.specs.declared.refusals.Refusal.{Refusal}
use Rattle.smt_meaning.specs.declared.refusals.Refusal.TheVariants.{AlreadyDeclared, SortsDiffer}
use Rattle.smt_meaning.specs.declared.commands.WrittenSort.{WrittenSort}
use Rattle.smt_meaning.specs.Declaration.{Body}
use Rattle.smt_meaning.specs.Term.{node, none}
use Rattle.smt_meaning.specs.Signature.{is_one_of, sort_eq}
use Rattle.smt_meaning.specs.Sorts.{Scope, Outcome, done, refused, Judging, go_on, ◌>>=◌, ◌>>◌, return, require, Variable, not_before, declare}
use Rattle.smt_meaning.specs.StackCommand.{declares, Bodied, judge_sort, judge_parameters, judge_body, new_function_name, function_declaration, define_function, sorts_of_variables}
use Rattle.smt_sorts.specs.Names.{Names}
use Rattle.scope_stack.specs.declared.answers.StackError.{StackError}
use Rattle.scope_stack.specs.declared.answers.StackError.TheVariants.{Refused, Memory}
use Rattle.scope_stack.specs.Judged.{scope_by, IsError, Gives, Causes, Adds, names_onto, names_before, parameter_name, IsParameter, one_parameter, Continues, body_of_sort, IsBody, sort_of}
use Rattle.scope_stack.proofs.Steps.{bind_done, next_done, next_refused, return_done, require_done, require_refused, bind_cause, next_cause, bind_then, next_then, bind_is, none_judged, one_judged}
use Rattle.scope_stack.proofs.SortSteps.{error_cause}

-- ---- names before

names-push : (before : List (List ℕ)) (ps : List Parameter) (p : Parameter) → names_onto before (ps ++ p ∷ []) ≡ p.name ∷ names_onto before ps
names-push before [] p = refl
names-push before (q ∷ ps) p = names-push (q.name ∷ before) ps p

names_reversed : (before : List (List ℕ)) (ps : List Parameter) → names_onto before ps ≡ map parameter_name (reverse ps) ++ before
names_reversed before [] = refl
names_reversed before (p ∷ ps) =
    names_reversed (p.name ∷ before) ps ∙ sym (append_assoc (map parameter_name (reverse ps)) (p.name ∷ []) before)
    ∙ ap (λ ns. ns ++ before) (sym (map-append parameter_name (reverse ps) (p ∷ []))) ∙ ap (λ qs. map parameter_name qs ++ before) (sym (reverse-append (p ∷ []) ps))

one_where : (n : List ℕ) (ps : List Parameter) → is_one_of n (map parameter_name ps) ≡ is_some (first_named parameter_name n ps)
one_where n [] = refl
one_where n (p ∷ ps) = go (one_where n ps) (bytes_eq n p.name)
  where
    go : is_one_of n (map parameter_name ps) ≡ is_some (first_named parameter_name n ps) → (b : Bool)
        → (if b then true else is_one_of n (map parameter_name ps)) ≡ is_some (if b then Some p else first_named parameter_name n ps)
    go same true = refl
    go same false = same

before_newest : (n : List ℕ) (ps : List Parameter) → is_one_of n (names_before ps) ≡ is_some (newest_named parameter_name n ps)
before_newest n ps = ap (is_one_of n) (names_reversed [] ps ∙ append-nil (map parameter_name (reverse ps))) ∙ one_where n (reverse ps)

pub found_before : (n : List ℕ) (ps : List Parameter) (i : ℕ) → IsNewest parameter_name n ps i → true ≡ is_one_of n (names_before ps)
found_before n [] i h = let short : i < 0 = h.within in absurd (omega arith)
found_before n (p ∷ ps) i h = sym (before_newest n (p ∷ ps) ∙ ap is_some (h.newest p))

pub never_before : (n : List ℕ) (ps : List Parameter) → newest_named parameter_name n ps ≡ None → false ≡ is_one_of n (names_before ps)
never_before n ps h = sym (before_newest n ps ∙ ap is_some h)

-- ---- one parameter

pub twice_cause : (ps : List Parameter) (p : WrittenParameter) (t : Names) (e : StackError) → is_one_of p.name (names_before ps) ≡ true → IsError (AlreadyDeclared p.name) e → Causes (one_parameter ps p) t e
twice_cause ps p t e h g ts =
    error_cause _ (AlreadyDeclared p.name) e (next_refused _ _ (scope_by t ts) _ (require_refused (not (is_one_of p.name (names_before ps))) _ (scope_by t ts) (ap not h))) g

pub apart_gives : (ps : List Parameter) (n : List ℕ) (t : Names) → is_one_of n (names_before ps) ≡ false → Gives (not_before (names_before ps) n) t tt
apart_gives ps n t h ts = require_done (not (is_one_of n (names_before ps))) _ (scope_by t ts) (ap not h)

pub sort_cause : (ps : List Parameter) (p : WrittenParameter) (t : Names) (e : StackError) → is_one_of p.name (names_before ps) ≡ false → Causes (judge_sort p.sort) t e → Causes (one_parameter ps p) t e
sort_cause ps p t e h g ts = next_then _ _ (scope_by t ts) (scope_by t ts) tt e (apart_gives ps p.name t h ts) (g ts)

-- ---- lists of parameters, from the left

abbrev variable_at : ℕ → Parameter → Variable
variable_at k p = record { name = p.name; term = record { tree = node (Place k) none; sort = p.sort } }

variables-push : (k : ℕ) (ps : List Parameter) (p : Parameter) → parameters_from k (ps ++ p ∷ []) ≡ parameters_from k ps ++ variable_at (k + length ps) p ∷ []
variables-push k [] p = let e : k + 0 ≡ k = omega arith in ap (λ n. variable_at n p ∷ []) (sym e)
variables-push k (q ∷ ps) p =
    let e : (k + 1) + length ps ≡ k + length (q ∷ ps) = omega arith in
    ap (λ vs. variable_at k q ∷ vs) (variables-push (k + 1) ps p ∙ ap (λ n. parameters_from (k + 1) ps ++ variable_at n p ∷ []) e)

pub continues_first : (ps : List WrittenParameter) (t : Names) → Continues t ps [] ps
continues_first ps t ts = none_judged (judge_parameters 0 [] ps (scope_by t ts))

first_parameter : (k : ℕ) (before : List (List ℕ)) (p : WrittenParameter) (ps : List WrittenParameter) (s : Scope) (r : Sort) → not_before before p.name s ≡ done tt s → judge_sort p.sort s ≡ done r s
    → judge_parameters k before (p ∷ ps) s ≡ go_on (judge_parameters (k + 1) (p.name ∷ before) ps s) (λ vs. return (record { name = p.name; term = record { tree = node (Place k) none; sort = r } } ∷ vs))
first_parameter k before p ps s r h g = next_done _ _ s s tt h ∙ bind_done _ _ s s r g ∙ bind_is _ _ s

names_same : (qs : List Parameter) (q : Parameter) (n : List ℕ) → q.name ≡ n → names_before (qs ++ q ∷ []) ≡ n ∷ names_before qs
names_same qs q n e = names-push [] qs q ∙ ap (λ m. m ∷ names_before qs) e

abbrev written_variable : ℕ → List ℕ → Sort → Variable
written_variable k n r = record { name = n; term = record { tree = node (Place k) none; sort = r } }

variables_same : (qs : List Parameter) (q : Parameter) (n : List ℕ) → q.name ≡ n → variables_of (qs ++ q ∷ []) ≡ variables_of qs ++ written_variable (length qs) n q.sort ∷ []
variables_same qs q n e =
    let zero_more : 0 + length qs ≡ length qs = omega arith in
    variables-push 0 qs q ∙ ap₂ (λ (k : ℕ) m. variables_of qs ++ written_variable k m q.sort ∷ []) zero_more e

pub continues_next : (all ps : List WrittenParameter) (p : WrittenParameter) (t : Names) (qs : List Parameter) (q : Parameter) → Continues t all qs (p ∷ ps) → IsParameter qs p t q → Continues t all (qs ++ q ∷ []) ps
continues_next all ps p t qs q h g ts =
    h ts
    ∙ ap (λ o. go_on o (λ more'. return (variables_of qs ++ more'))) (first_parameter (length qs) (names_before qs) p ps (scope_by t ts) q.sort (g.apart ts) (g.sort ts))
    ∙ one_judged (written_variable (length qs) p.name q.sort) (variables_of qs) (judge_parameters (length qs + 1) (p.name ∷ names_before qs) ps (scope_by t ts))
    ∙ ap (λ vs. go_on (judge_parameters (length qs + 1) (p.name ∷ names_before qs) ps (scope_by t ts)) (λ more'. return (vs ++ more'))) (sym (variables_same qs q p.name g.name))
    ∙ ap₂ (λ k before. go_on (judge_parameters k before ps (scope_by t ts)) (λ more'. return (variables_of (qs ++ q ∷ []) ++ more'))) (sym (length_push qs q)) (sym (names_same qs q p.name g.name))

pub continues_last : (all : List WrittenParameter) (t : Names) (qs : List Parameter) → Continues t all qs [] → Gives (judge_parameters 0 [] all) t (variables_of qs)
unfolding return
continues_last all t qs h ts = h ts ∙ ap (λ vs. done vs (scope_by t ts)) (append-nil (variables_of qs))

together : {A B C : Type 0} (o : Outcome A) (n : Judging B) (k : B → Judging C) → go_on o (λ a. λ u. go_on (n u) k) ≡ go_on (go_on o (λ a. n)) k
together (done a u) n k = refl
together (refused r) n k = refl

-- a refusal of the first two steps is one of all three
refused_early : {A B C : Type 0} (m : Judging A) (n : Judging B) (k : B → Judging C) (s : Scope) (r : Refusal) → (m >> n) s ≡ refused r → (m >> (n >>= k)) s ≡ refused r
unfolding ◌>>◌ ◌>>=◌
refused_early m n k s r h = together (m s) n k ∙ ap (λ o. go_on o k) h

pub continues_cause : (all ps : List WrittenParameter) (p : WrittenParameter) (t : Names) (qs : List Parameter) (e : StackError) → Continues t all qs (p ∷ ps) → Causes (one_parameter qs p) t e
    → Causes (judge_parameters 0 [] all) t e
continues_cause all ps p t qs (Refused r) h g ts =
    h ts ∙ ap (λ o. go_on o (λ more'. return (variables_of qs ++ more'))) (refused_early (not_before (names_before qs) p.name) (judge_sort p.sort) _ (scope_by t ts) r (g ts))
continues_cause all ps p t qs Memory h g ts = tt

sorts_from : (k : ℕ) (ps : List Parameter) → sorts_of_variables (parameters_from k ps) ≡ map sort_of ps
sorts_from k [] = refl
sorts_from k (p ∷ ps) = ap (λ rs. p.sort ∷ rs) (sorts_from (k + 1) ps)

pub sorts_same : (ps : List Parameter) → sorts_of_variables (variables_of ps) ≡ map sort_of ps
sorts_same ps = sorts_from 0 ps

-- ---- bodies

pub body_cause : (n : List ℕ) (vs : List Variable) (x : List Token) (r : Sort) (t : Names) (e : StackError) → Causes (judge_body vs x) t e → Causes (body_of_sort n vs x r) t e
body_cause n vs x r t e h ts = bind_cause _ _ (scope_by t ts) e (h ts)

pub differs_cause : (n : List ℕ) (vs : List Variable) (x : List Token) (r : Sort) (b : Bodied) (t : Names) (e : StackError) → Gives (judge_body vs x) t b → sort_eq b.sort r ≡ false → IsError (SortsDiffer n) e
    → Causes (body_of_sort n vs x r) t e
differs_cause n vs x r b t e h f g ts =
    error_cause _ (SortsDiffer n) e (bind_done _ _ (scope_by t ts) (scope_by t ts) b (h ts) ∙ require_refused (sort_eq b.sort r) _ (scope_by t ts) f) g

-- ---- definitions

pub definition_adds : (n : List ℕ) (ps : List WrittenParameter) (x : WrittenSort) (y : List Token) (t u : Names) (vs : List Variable) (r : Sort) (b : Body) → Gives (new_function_name n) t tt
    → Gives (judge_parameters 0 [] ps) t vs → Gives (judge_sort x) t r → IsBody vs y r t b → Adds (declare (λ id. function_declaration id n (sorts_of_variables vs) r (Some b))) t tt u
    → Adds (define_function n ps x y) t declares u
definition_adds n ps x y t u vs r b h i j k g ts =
    next_done _ _ (scope_by t ts) (scope_by t ts) tt (h ts)
    ∙ bind_done _ _ (scope_by t ts) (scope_by t ts) vs (i ts)
    ∙ bind_done _ _ (scope_by t ts) (scope_by t ts) r (j ts)
    ∙ bind_done _ _ (scope_by t ts) (scope_by t ts) (record { body = b; sort = k.sort }) (k.gives ts)
    ∙ next_done _ _ (scope_by t ts) (scope_by t ts) tt (require_done (sort_eq k.sort r) _ (scope_by t ts) k.same)
    ∙ next_done _ _ (scope_by t ts) (scope_by u ts) tt (g ts)
    ∙ return_done declares (scope_by u ts)

pub definition_name_cause : (n : List ℕ) (ps : List WrittenParameter) (x : WrittenSort) (y : List Token) (t : Names) (e : StackError) → Causes (new_function_name n) t e → Causes (define_function n ps x y) t e
definition_name_cause n ps x y t e h ts = next_cause _ _ (scope_by t ts) e (h ts)

pub definition_parameters_cause : (n : List ℕ) (ps : List WrittenParameter) (x : WrittenSort) (y : List Token) (t : Names) (e : StackError) → Gives (new_function_name n) t tt
    → Causes (judge_parameters 0 [] ps) t e → Causes (define_function n ps x y) t e
definition_parameters_cause n ps x y t e h g ts = next_then _ _ (scope_by t ts) (scope_by t ts) tt e (h ts) (bind_cause _ _ (scope_by t ts) e (g ts))

pub definition_sort_cause : (n : List ℕ) (ps : List WrittenParameter) (x : WrittenSort) (y : List Token) (t : Names) (vs : List Variable) (e : StackError) → Gives (new_function_name n) t tt
    → Gives (judge_parameters 0 [] ps) t vs → Causes (judge_sort x) t e → Causes (define_function n ps x y) t e
definition_sort_cause n ps x y t vs e h i g ts =
    next_then _ _ (scope_by t ts) (scope_by t ts) tt e (h ts) (bind_then _ _ (scope_by t ts) (scope_by t ts) vs e (i ts) (bind_cause _ _ (scope_by t ts) e (g ts)))

-- the refusal that an outcome is
abbrev why_of : {A : Type 0} → Refusal → Outcome A → Refusal
why_of r (done a s) = r
why_of r (refused q) = q

tested : {A B : Type 0} (o : Outcome A) (test : A → Judging (Unit {0})) (k : A → Judging B) (r : Refusal) → go_on o test ≡ refused r → go_on o (λ a. λ u. go_on (test a u) (λ b. k a)) ≡ refused r
tested (done a u) test k r e = ap (λ x. go_on x (λ b. k a)) e
tested (refused q) test k r e = ap (λ x. refused (why_of r x)) e

-- a refusal of a step and the test after it is one of all that follows
refused_test : {A B : Type 0} (m : Judging A) (test : A → Judging (Unit {0})) (k : A → Judging B) (s : Scope) (r : Refusal) → (m >>= test) s ≡ refused r → (m >>= λ a. (test a >> k a)) s ≡ refused r
unfolding ◌>>=◌ ◌>>◌
refused_test m test k s r h = tested (m s) test k r h

pub definition_body_cause : (n : List ℕ) (ps : List WrittenParameter) (x : WrittenSort) (y : List Token) (t : Names) (vs : List Variable) (r : Sort) (e : StackError) → Gives (new_function_name n) t tt
    → Gives (judge_parameters 0 [] ps) t vs → Gives (judge_sort x) t r → Causes (body_of_sort n vs y r) t e → Causes (define_function n ps x y) t e
definition_body_cause n ps x y t vs r (Refused q) h i j g ts =
    next_done _ _ (scope_by t ts) (scope_by t ts) tt (h ts)
    ∙ bind_done _ _ (scope_by t ts) (scope_by t ts) vs (i ts)
    ∙ bind_done _ _ (scope_by t ts) (scope_by t ts) r (j ts)
    ∙ refused_test (judge_body vs y) (λ b. require (sort_eq b.sort r) (SortsDiffer n)) _ (scope_by t ts) q (g ts)
definition_body_cause n ps x y t vs r Memory h i j g ts = tt

pub definition_add_cause : (n : List ℕ) (ps : List WrittenParameter) (x : WrittenSort) (y : List Token) (t : Names) (vs : List Variable) (r : Sort) (b : Body) (e : StackError) → Gives (new_function_name n) t tt
    → Gives (judge_parameters 0 [] ps) t vs → Gives (judge_sort x) t r → IsBody vs y r t b → Causes (declare (λ id. function_declaration id n (sorts_of_variables vs) r (Some b))) t e
    → Causes (define_function n ps x y) t e
definition_add_cause n ps x y t vs r b (Refused q) h i j k g ts =
    next_done _ _ (scope_by t ts) (scope_by t ts) tt (h ts)
    ∙ bind_done _ _ (scope_by t ts) (scope_by t ts) vs (i ts)
    ∙ bind_done _ _ (scope_by t ts) (scope_by t ts) r (j ts)
    ∙ bind_done _ _ (scope_by t ts) (scope_by t ts) (record { body = b; sort = k.sort }) (k.gives ts)
    ∙ next_done _ _ (scope_by t ts) (scope_by t ts) tt (require_done (sort_eq k.sort r) _ (scope_by t ts) k.same)
    ∙ next_refused _ _ (scope_by t ts) q (g ts)
definition_add_cause n ps x y t vs r b Memory h i j k g ts = tt
