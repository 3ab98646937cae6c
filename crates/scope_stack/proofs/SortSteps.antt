-- Judging names and sorts.
use Rattle.std.proofs.Common.{◌≡◌, ◌∙◌, sym, refl, ap, ℕ, Bool, false, not, Option, Some, None, List, [], ◌∷◌, ◌++◌, length, arith}
use Rattle.std.proofs.lemmas.List.{append-nil}
use Rattle.smt_meaning.specs.declared.values.Sort.{Sort}
use Rattle.smt_meaning.specs.declared.tokens.Token.TheVariants.{Symbol}
use Rattle.smt_meaning.specs.declared.refusals.Refusal.{Refusal}
use Rattle.smt_meaning.specs.declared.refusals.Refusal.TheVariants.{UnknownSymbol, ReservedName, AlreadyDeclared as DeclaredBefore}
use Rattle.smt_meaning.specs.declared.commands.WrittenSort.{WrittenSort}
use Rattle.smt_meaning.specs.declared.commands.WrittenSort.TheVariants.{Name, Applied}
use Rattle.smt_meaning.specs.Declaration.{Declaration}
use Rattle.smt_meaning.specs.Term.{Tree}
use Rattle.smt_meaning.specs.Signature.{is_one_of, is_some, find_function, find_sort, reserved_functions, reserved_sorts}
use Rattle.smt_meaning.specs.Sorts.{Scope, Outcome, done, refused, Judging, go_on, ◌>>=◌, ◌>>◌, return, require, the_scope}
use Rattle.smt_meaning.specs.StackCommand.{sort_named, judge_sort, judge_sorts, new_sort_name, new_function_name}
use Rattle.smt_sorts.specs.declared.errors.NameError.{NameError}
use Rattle.smt_sorts.specs.declared.errors.NameError.TheVariants.{Reserved, AlreadyDeclared}
use Rattle.smt_sorts.specs.Names.{Names, signature, IsNewFunction, IsNewSort}
use Rattle.smt_sorts.specs.Names as names
use Rattle.scope_stack.specs.declared.answers.StackError.{StackError}
use Rattle.scope_stack.specs.declared.answers.StackError.TheVariants.{Refused, Memory}
use Rattle.scope_stack.specs.Judged.{scope_by, IsCause, IsError, Gives, Causes, Resumes, name_refusal}
use Rattle.scope_stack.proofs.Steps.{bind_refused, next_done, next_refused, scope_done, return_done, refuse_refused, require_done, require_refused, required_done, required_refused, none_judged, one_judged}

-- ---- names

-- a name that isn't reserved is known
known : (b : Bool) (o : Option Declaration) → names.IsCause AlreadyDeclared b o → (b ≡ false) × (not (is_some o) ≡ false)
known b None h = absurd h
known b (Some d) h = (h, refl)

-- a name is new that is none of these, and that isn't found
module _ (n : List ℕ) (reserved : List (List ℕ)) (find : List Declaration → Option Declaration) where
  abbrev new_name : Judging (Unit {0})
  new_name = require (not (is_one_of n reserved)) (ReservedName n) >> (the_scope >>= λ (s : Scope). require (not (is_some (find s.signature))) (DeclaredBefore n))

  name_gives : (t : Names) → is_one_of n reserved ≡ false → find (signature t) ≡ None → Gives new_name t tt
  name_gives t unreserved undeclared ts =
      next_done _ _ (scope_by t ts) (scope_by t ts) tt (require_done (not (is_one_of n reserved)) _ (scope_by t ts) (ap not unreserved))
      ∙ scope_done _ (scope_by t ts)
      ∙ require_done (not (is_some (find (signature t)))) _ (scope_by t ts) (ap (λ o. not (is_some o)) undeclared)

  name_refused : (e : NameError) (t : Names) (ts : List Tree) → names.IsCause e (is_one_of n reserved) (find (signature t)) → new_name (scope_by t ts) ≡ refused (name_refusal e n)
  name_refused Reserved t ts h = next_refused _ _ (scope_by t ts) _ (require_refused (not (is_one_of n reserved)) _ (scope_by t ts) (ap not h))
  name_refused AlreadyDeclared t ts h =
      let k = known (is_one_of n reserved) (find (signature t)) h in
      next_done _ _ (scope_by t ts) (scope_by t ts) tt (require_done (not (is_one_of n reserved)) _ (scope_by t ts) (ap not k.0))
      ∙ scope_done _ (scope_by t ts)
      ∙ require_refused (not (is_some (find (signature t)))) _ (scope_by t ts) k.1

pub new_sort_gives : (n : List ℕ) (t : Names) → IsNewSort n (signature t) → Gives (new_sort_name n) t tt
new_sort_gives n t h = name_gives n reserved_sorts (find_sort n) t h.unreserved h.undeclared

pub new_function_gives : (n : List ℕ) (t : Names) → IsNewFunction n (signature t) → Gives (new_function_name n) t tt
new_function_gives n t h = name_gives n reserved_functions (find_function n) t h.unreserved h.undeclared

pub new_sort_refused : (e : NameError) (n : List ℕ) (t : Names) (ts : List Tree) → names.IsCause e (is_one_of n reserved_sorts) (find_sort n (signature t))
    → new_sort_name n (scope_by t ts) ≡ refused (name_refusal e n)
new_sort_refused e n = name_refused n reserved_sorts (find_sort n) e

pub new_function_refused : (e : NameError) (n : List ℕ) (t : Names) (ts : List Tree) → names.IsCause e (is_one_of n reserved_functions) (find_function n (signature t))
    → new_function_name n (scope_by t ts) ≡ refused (name_refusal e n)
new_function_refused e n = name_refused n reserved_functions (find_function n) e

-- ---- sorts

pub named_gives : (n : List ℕ) (t : Names) (s : Sort) → sort_named n (signature t) ≡ Some s → Gives (judge_sort (Name n)) t s
named_gives n t s e ts = scope_done _ (scope_by t ts) ∙ required_done (sort_named n (signature t)) _ (scope_by t ts) s e

pub named_refused : (n : List ℕ) (t : Names) (ts : List Tree) → sort_named n (signature t) ≡ None → judge_sort (Name n) (scope_by t ts) ≡ refused (UnknownSymbol (Symbol n))
named_refused n t ts e = scope_done _ (scope_by t ts) ∙ required_refused (sort_named n (signature t)) _ (scope_by t ts) e

pub applied_refused : (n : List ℕ) (t : Names) (ts : List Tree) → judge_sort (Applied n) (scope_by t ts) ≡ refused (UnknownSymbol (Symbol n))
applied_refused n t ts = refuse_refused (UnknownSymbol (Symbol n)) (scope_by t ts)

pub no_sorts_give : (t : Names) → Gives (judge_sorts []) t []
no_sorts_give t ts = return_done [] (scope_by t ts)

-- the error that this refusal comes to is the cause
pub error_cause : {A : Type 0} (o : Outcome A) (why : Refusal) (e : StackError) → o ≡ refused why → IsError why e → IsCause e o
error_cause o why (Refused r) h g = h ∙ sym (ap refused g)
error_cause o why Memory h g = tt

-- ---- lists of sorts, from the left

pub resumes_first : (xs : List WrittenSort) (t : Names) → Resumes t xs [] xs
resumes_first xs t ts = none_judged (judge_sorts xs (scope_by t ts))

pub sorts_first : (x : WrittenSort) (xs : List WrittenSort) (s : Scope) (r : Sort) → judge_sort x s ≡ done r s → judge_sorts (x ∷ xs) s ≡ go_on (judge_sorts xs s) (λ rs. return (r ∷ rs))
unfolding ◌>>=◌
sorts_first x xs s r e = ap (λ o. go_on o (λ a. judge_sorts xs >>= λ rs. return (a ∷ rs))) e

pub resumes_next : (all xs : List WrittenSort) (x : WrittenSort) (t : Names) (rs : List Sort) (r : Sort) → Resumes t all rs (x ∷ xs) → Gives (judge_sort x) t r → Resumes t all (rs ++ r ∷ []) xs
resumes_next all xs x t rs r h g ts =
    h ts ∙ ap (λ o. go_on o (λ more'. return (rs ++ more'))) (sorts_first x xs (scope_by t ts) r (g ts)) ∙ one_judged r rs (judge_sorts xs (scope_by t ts))

pub resumes_last : (all : List WrittenSort) (t : Names) (rs : List Sort) → Resumes t all rs [] → Gives (judge_sorts all) t rs
unfolding return
resumes_last all t rs h ts = h ts ∙ ap (λ ys. done ys (scope_by t ts)) (append-nil rs)

pub resumes_cause : (all xs : List WrittenSort) (x : WrittenSort) (t : Names) (rs : List Sort) (e : StackError) → Resumes t all rs (x ∷ xs) → Causes (judge_sort x) t e → Causes (judge_sorts all) t e
resumes_cause all xs x t rs (Refused r) h g ts =
    h ts ∙ ap (λ o. go_on o (λ more'. return (rs ++ more'))) (bind_refused (judge_sort x) _ (scope_by t ts) r (g ts))
resumes_cause all xs x t rs Memory h g ts = tt

pub nothing_left : {A : Type 0} (xs : List A) → length xs ≡ 0 → xs ≡ []
nothing_left [] e = refl
nothing_left (x ∷ xs) e = absurd (omega (arith, e))
