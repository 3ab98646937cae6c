-- What noting trees and declaring symbols keep, judging terms and commands keeps.
use Rattle.std.proofs.Common.{◌≡◌, ℕ, ◌+◌, List, [], ◌∷◌, ◌++◌, map, refl, Bool, true, false, Option, Some, None, nat_lt}
use Rattle.std.specs.Prelude.{ℤ, codes, if◌then◌else◌}
use Rattle.smt_meaning.specs.declared.values.Sort.{Sort}
use Rattle.smt_meaning.specs.declared.tokens.Token.{Token}
use Rattle.smt_meaning.specs.Declaration.{Declaration}
use Rattle.smt_meaning.specs.declared.refusals.Refusal.{Refusal}
use Rattle.smt_meaning.specs.Term.{Tree}
use Rattle.smt_meaning.specs.Sexp.{Sexp, sexp}
use Rattle.smt_meaning.specs.Sorts.{Scope, Outcome, done, refused, Judging, go_on, ◌>>=◌, ◌>>◌, return, refuse, require, required, the_scope, with_all, note, found, declare, declare_in, most_symbols, Typed, Variable, Rules, judge}
use Rattle.smt_meaning.specs.Goal.{pair_text}
use Rattle.smt_meaning.specs.StackCommand.{Change, declares, sets, clears, begins_again, is_unsupported, judge_sort, judge_sorts, new_sort_name, new_function_name, declare_new_sort, declare_sort, define_sort, declare_function, judge_parameters, apart, in_body, judge_body, define_function, require_room, in_assert, assert_term, in_question, judge_terms, judge_questions, assume_terms, minimize_term, stack_command}
use Rattle.smt_meaning.specs.declared.commands.WrittenSort.{WrittenSort}
use Rattle.smt_meaning.specs.declared.commands.WrittenSort.TheVariants.{Name, Applied}
use Rattle.smt_meaning.specs.declared.commands.Parameter.{Parameter}
use Rattle.smt_meaning.specs.declared.commands.Command.{Command}
use Rattle.smt_meaning.specs.declared.commands.Command.TheVariants.{SetOption, DeclareSort, DefineSort, DeclareConst, DeclareFun, DefineFun, Assert, CheckSatAssuming, Push, Pop, GetValue, ResetAssertions, Reset, Minimize}
use Rattle.smt_laws.proofs.JudgedSteps.{HoldsOfSteps, judge_holds, terms_hold}

-- ---- a property of scopes

-- it stays where trees are noted, and where a declaration with the next id joins the signature
pub record Invariant (P : Scope → Type 0) : Type 0 where
  pub noted : (s : Scope) (us : List Tree) → P s → P (record s { trees = with_all s.trees us })
  pub declared : (s : Scope) (e : Declaration) → e.id ≡ s.given → P s → P (record s { signature = s.signature ++ e ∷ []; given = s.given + 1 })

abbrev pub Kept : {A : Type 0} → (Scope → Type 0) → Outcome A → Type 0
Kept P (done a t) = P t
Kept P (refused r) = Unit {0}

-- a judgement keeps it
pub record Keeping {A : Type 0} (P : Scope → Type 0) (m : Judging A) : Type 0 where
  pub keeps : (s : Scope) → P s → Kept P (m s)

module _ {P : Scope → Type 0} (i : Invariant P) where
  after_go_on : {A B : Type 0} (x : Outcome A) (k : A → Judging B) → Kept P x → ((a : A) (t : Scope) → P t → Kept P (k a t)) → Kept P (go_on x k)
  after_go_on (done a t) k h g = g a t h
  after_go_on (refused r) k h g = tt

  bind_keeping : {A B : Type 0} {m : Judging A} {k : A → Judging B} → Keeping P m → ((a : A) → Keeping P (k a)) → Keeping P (m >>= k)
  unfolding ◌>>=◌
  bind_keeping {m = m} {k = k} h g = record { keeps = λ s f. after_go_on (m s) k (h.keeps s f) (λ a t e. (g a).keeps t e) }

  next_keeping : {A B : Type 0} {m : Judging A} {n : Judging B} → Keeping P m → Keeping P n → Keeping P (m >> n)
  unfolding ◌>>◌
  next_keeping {m = m} {n = n} h g = record { keeps = λ s f. after_go_on (m s) (λ a. n) (h.keeps s f) (λ a t e. g.keeps t e) }

  return_keeping : {A : Type 0} (a : A) → Keeping P (return a)
  unfolding return
  return_keeping a = record { keeps = λ s f. f }

  refuse_keeping : (A : Type 0) (r : Refusal) → Keeping {A = A} P (refuse r)
  unfolding refuse
  refuse_keeping A r = record { keeps = λ s f. tt }

  require_keeping : (b : Bool) (r : Refusal) → Keeping P (require b r)
  unfolding require return refuse
  require_keeping b r = by_cases b
    where
      by_cases : (c : Bool) → Keeping P (require c r)
      by_cases true = record { keeps = λ s f. f }
      by_cases false = record { keeps = λ s f. tt }

  required_keeping : {A : Type 0} (o : Option A) (r : Refusal) → Keeping P (required o r)
  unfolding required
  required_keeping None r = refuse_keeping _ r
  required_keeping (Some a) r = return_keeping a

  scope_keeping : Keeping P the_scope
  unfolding the_scope
  scope_keeping = record { keeps = λ s f. f }

  note_keeping : (ts : List Tree) → Keeping P (note ts)
  unfolding note
  note_keeping ts = record { keeps = λ s f. i.noted s ts f }

  found_keeping : (t : Tree) (x : Sort) → Keeping P (found t x)
  unfolding found
  found_keeping t x = record { keeps = λ s f. f }

  declare_keeping : (d : ℕ → Declaration) → ((n : ℕ) → (d n).id ≡ n) → Keeping P (declare d)
  unfolding declare
  declare_keeping d own = record { keeps = λ s f. go (d s.given) s (own s.given) f (nat_lt s.given most_symbols) }
    where
      go : (e : Declaration) (s : Scope) → e.id ≡ s.given → P s → (b : Bool) → Kept P (declare_in e b s)
      go e s same f true = i.declared s e same f
      go e s same f false = tt

  keeping_steps : HoldsOfSteps (λ (A : Type 0) (m : Judging A). Keeping P m)
  keeping_steps = record {
    bind = bind_keeping;
    next = next_keeping;
    returns = return_keeping;
    refuses = refuse_keeping;
    requires = require_keeping;
    notes = note_keeping;
    finds = found_keeping;
    declares = declare_keeping;
    scope_then = λ k e h. bind_keeping scope_keeping h;
  }

  judge_keeping : (r : Rules) (vs : List Variable) (x : Sexp) → Keeping P (judge r vs x)
  judge_keeping r vs x = judge_holds keeping_steps r vs x

  terms_keeping : (ts : List (List Token)) → Keeping P (judge_terms ts)
  terms_keeping ts = terms_hold keeping_steps ts

  -- ---- commands

  sort_keeping : (x : WrittenSort) → Keeping P (judge_sort x)
  sort_keeping (Name n) = bind_keeping scope_keeping (λ s. required_keeping _ _)
  sort_keeping (Applied n) = refuse_keeping _ _

  sorts_keeping : (xs : List WrittenSort) → Keeping P (judge_sorts xs)
  sorts_keeping [] = return_keeping []
  sorts_keeping (x ∷ xs) = bind_keeping (sort_keeping x) (λ a. bind_keeping (sorts_keeping xs) (λ rs. return_keeping (a ∷ rs)))

  sort_name_keeping : (n : List ℕ) → Keeping P (new_sort_name n)
  sort_name_keeping n = next_keeping (require_keeping _ _) (bind_keeping scope_keeping (λ s. require_keeping _ _))

  function_name_keeping : (n : List ℕ) → Keeping P (new_function_name n)
  function_name_keeping n = next_keeping (require_keeping _ _) (bind_keeping scope_keeping (λ s. require_keeping _ _))

  if_keeping : {A : Type 0} (b : Bool) (m n : Judging A) → Keeping P m → Keeping P n → Keeping P (if b then m else n)
  if_keeping true m n h g = h
  if_keeping false m n h g = g

  new_sort_keeping : (n : List ℕ) → Keeping P (declare_new_sort n)
  new_sort_keeping n = next_keeping (sort_name_keeping n) (next_keeping (declare_keeping _ (λ k. refl)) (return_keeping declares))

  declare_sort_keeping : (n : List ℕ) (arity : ℤ) → Keeping P (declare_sort n arity)
  declare_sort_keeping n arity = if_keeping _ _ _ (new_sort_keeping n) (return_keeping is_unsupported)

  define_sort_keeping : (n : List ℕ) (ps : List (List ℕ)) (s : WrittenSort) → Keeping P (define_sort n ps s)
  define_sort_keeping n [] s =
      next_keeping (sort_name_keeping n) (bind_keeping (sort_keeping s) (λ r. next_keeping (declare_keeping _ (λ k. refl)) (return_keeping declares)))
  define_sort_keeping n (p ∷ ps) s = return_keeping is_unsupported

  function_keeping : (n : List ℕ) (ss : List WrittenSort) (s : WrittenSort) → Keeping P (declare_function n ss s)
  function_keeping n ss s =
      next_keeping (function_name_keeping n)
      (bind_keeping (sorts_keeping ss) (λ rs. bind_keeping (sort_keeping s) (λ r. next_keeping (declare_keeping _ (λ k. refl)) (return_keeping declares))))

  parameters_keeping : (k : ℕ) (before : List (List ℕ)) (ps : List Parameter) → Keeping P (judge_parameters k before ps)
  parameters_keeping k before [] = return_keeping []
  parameters_keeping k before (p ∷ ps) =
      next_keeping (require_keeping _ _) (bind_keeping (sort_keeping p.sort) (λ s. bind_keeping (parameters_keeping (k + 1) (p.name ∷ before) ps) (λ vs. return_keeping _)))

  body_keeping : (vs : List Variable) (t : List Token) → Keeping P (judge_body vs t)
  unfolding judge_body
  body_keeping vs t = record { keeps = λ s f. go s f (judge in_body vs (sexp t) (record s { trees = map (λ (v : Variable). v.term.tree) vs })) }
    where
      go : (s : Scope) → P s → (o : Outcome Typed) → Kept P (apart s o)
      go s f (done a c) = f
      go s f (refused r) = tt

  defined_keeping : (n : List ℕ) (ps : List Parameter) (s : WrittenSort) (t : List Token) → Keeping P (define_function n ps s t)
  defined_keeping n ps s t =
      next_keeping (function_name_keeping n)
      (bind_keeping (parameters_keeping 0 [] ps) (λ vs. bind_keeping (sort_keeping s) (λ r. bind_keeping (body_keeping vs t) (λ b.
      next_keeping (require_keeping _ _) (next_keeping (declare_keeping _ (λ k. refl)) (return_keeping declares))))))

  room_keeping : Keeping P require_room
  room_keeping = bind_keeping scope_keeping (λ s. require_keeping _ _)

  assert_keeping : (t : List Token) → Keeping P (assert_term t)
  assert_keeping t = bind_keeping (judge_keeping in_assert [] (sexp t)) (λ a. next_keeping (require_keeping _ _) (next_keeping room_keeping (return_keeping _)))

  questions_keeping : (ts : List (List Token)) → Keeping P (judge_questions ts)
  questions_keeping ts = bind_keeping (terms_keeping ts) (λ bs. next_keeping room_keeping (return_keeping bs))

  assume_keeping : (level : ℕ) (ts : List (List Token)) → Keeping P (assume_terms level ts)
  assume_keeping level ts =
      bind_keeping (terms_keeping ts) (λ bs. next_keeping (require_keeping _ _) (next_keeping room_keeping (next_keeping (require_keeping _ _) (return_keeping _))))

  minimize_keeping : (level : ℕ) (t : List Token) → Keeping P (minimize_term level t)
  minimize_keeping level t =
      bind_keeping (judge_keeping in_question [] (sexp t))
      (λ a. next_keeping (require_keeping _ _) (bind_keeping scope_keeping (λ s. next_keeping (require_keeping _ _) (assume_keeping level (pair_text (codes "=") t t ∷ [])))))

  -- ---- the fold

  abbrev pub KeepsIfSome : Option (ℕ → Judging Change) → Type 0
  KeepsIfSome None = Unit {0}
  KeepsIfSome (Some m) = (level : ℕ) → Keeping P (m level)

  pub command_keeps : (c : Command) → KeepsIfSome (stack_command c)
  command_keeps (SetOption o) = λ level. return_keeping (sets o)
  command_keeps (DeclareSort n arity) = λ level. declare_sort_keeping n arity
  command_keeps (DefineSort n ps s) = λ level. define_sort_keeping n ps s
  command_keeps (DeclareConst n s) = λ level. function_keeping n [] s
  command_keeps (DeclareFun n ss s) = λ level. function_keeping n ss s
  command_keeps (DefineFun n ps s t) = λ level. defined_keeping n ps s t
  command_keeps (Assert t) = λ level. assert_keeping t
  command_keeps (GetValue ts) = λ level. bind_keeping (questions_keeping ts) (λ bs. return_keeping _)
  command_keeps (CheckSatAssuming ts) = λ level. assume_keeping level ts
  command_keeps (Push n) = λ level. next_keeping (require_keeping _ _) (return_keeping _)
  command_keeps (Pop n) = λ level. next_keeping (require_keeping _ _) (return_keeping _)
  command_keeps ResetAssertions = λ level. return_keeping clears
  command_keeps Reset = λ level. return_keeping begins_again
  command_keeps (Minimize t) = λ level. minimize_keeping level t
  command_keeps _ = tt
