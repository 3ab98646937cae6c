-- Judging declarations and definitions.
use Rattle.std.proofs.Common.{if◌then◌else◌, ◌≡◌, ◌∙◌, sym, refl, ap, ap₂, ℕ, ◌+◌, ◌<◌, Bool, true, false, nat_lt, List, [], ◌∷◌, ◌++◌, None, ℤ, pos, negsuc, unsigned_abs, nat_eq, arith, subst, Result, Ok, Err}
use Rattle.std.proofs.lemmas.Bool.Decides.{nat_tests}
use Rattle.smt_meaning.specs.declared.values.Sort.{Sort}
use Rattle.smt_meaning.specs.declared.values.Sort.TheVariants.{Free}
use Rattle.smt_meaning.specs.declared.refusals.Refusal.TheVariants.{TooManySymbols}
use Rattle.smt_meaning.specs.declared.commands.WrittenSort.{WrittenSort}
use Rattle.smt_meaning.specs.Declaration.{Declaration}
use Rattle.smt_meaning.specs.Term.{Tree, int_eq}
use Rattle.smt_meaning.specs.Sorts.{Scope, Judging, done, refused, return, declare, declare_in, most_symbols}
use Rattle.smt_meaning.specs.StackCommand.{declares, is_unsupported, declare_sort, define_sort, new_sort_name, new_function_name, judge_sort, judge_sorts, sort_declaration, function_declaration, declare_new_sort, define_new_sort, declare_function}
use Rattle.smt_sorts.specs.declared.errors.AddError.{AddError}
use Rattle.smt_sorts.specs.declared.errors.AddError.TheVariants.{TooManySymbols as TooMany, Memory as NoMemory}
use Rattle.smt_sorts.specs.Names.{Names, signature, with_declaration, IsTable}
use Rattle.scope_stack.specs.declared.answers.StackError.{StackError}
use Rattle.scope_stack.specs.Judged.{scope_by, IsCause, Gives, Causes, Adds, HasAdded, IfTooMany}
use Rattle.scope_stack.proofs.FrameLemmas.{newest_signature}
use Rattle.scope_stack.proofs.Steps.{bind_done, next_done, return_done, bind_cause, next_cause, bind_then, next_then}

-- ---- one declaration more

below : (a b : ℕ) → a < b → nat_lt a b ≡ true
below a b lt = grind (arith, nat_tests)

not_below : (a : ℕ) → nat_lt a a ≡ false
not_below a = grind (arith, nat_tests)

declared_in : (d : Declaration) (b : Bool) (s : Scope) → b ≡ true → declare_in d b s ≡ done tt (record s { signature = s.signature ++ d ∷ []; given = s.given + 1 })
declared_in d b s e = rw e refl

not_declared_in : (d : Declaration) (b : Bool) (s : Scope) → b ≡ false → declare_in d b s ≡ refused TooManySymbols
not_declared_in d b s e = rw e refl

pub declare_adds : (d : ℕ → Declaration) (t u : Names) → t.given < most_symbols → signature u ≡ signature t ++ d t.given ∷ [] → u.given ≡ t.given + 1 → Adds (declare d) t tt u
unfolding declare
declare_adds d t u lt e f ts =
    declared_in (d t.given) (nat_lt t.given most_symbols) (scope_by t ts) (below t.given most_symbols lt)
    ∙ ap₂ (λ ds n. done tt (record { signature = ds; given = n; trees = ts })) (sym e) (sym f)

pub declare_added : (d : ℕ → Declaration) (global : Bool) (t u : Names) → IsTable t → (d t.given).id ≡ t.given → t.given < most_symbols → u ≡ with_declaration global (d t.given) t
    → HasAdded (declare d) tt global t u
declare_added d global t u table i lt e = record {
  table = table;
  declaration = d t.given;
  id = i;
  adds = declare_adds d t (with_declaration false (d t.given) t) lt (newest_signature (d t.given ∷ []) t.levels table.nonempty) refl;
  new_is = e;
}

-- what a later step makes of a declaration
pub added_on : {A B : Type 0} {m : Judging A} {n : Judging B} {a : A} {b : B} (global : Bool) (t u : Names) → HasAdded m a global t u → ((v : Names) → Adds m t a v → Adds n t b v) → HasAdded n b global t u
added_on global t u h k = record { table = h.table; declaration = h.declaration; id = h.id; adds = k (with_declaration false h.declaration t) h.adds; new_is = h.new_is }

pub declare_full : (d : ℕ → Declaration) (t : Names) (ts : List Tree) → t.given ≡ most_symbols → declare d (scope_by t ts) ≡ refused TooManySymbols
unfolding declare
declare_full d t ts e = not_declared_in (d t.given) (nat_lt t.given most_symbols) (scope_by t ts) (ap (λ n. nat_lt n most_symbols) e ∙ not_below most_symbols)

abbrev error_of : AddError → Result ℕ AddError
error_of e = Err e

pub add_cause : (d : ℕ → Declaration) (t : Names) (ts : List Tree) (error : AddError) (e : StackError) → IfTooMany error e
    → (error_of error ≡ error_of TooMany → t.given ≡ most_symbols) → IsCause e (declare d (scope_by t ts))
add_cause d t ts TooMany e h f = subst (λ x. IsCause x (declare d (scope_by t ts))) (sym h) (declare_full d t ts (f refl))
add_cause d t ts NoMemory e h f = subst (λ x. IsCause x (declare d (scope_by t ts))) (sym h) tt

IsFine : {T E : Type 0} → Result T E → Type 0
IsFine (Ok x) = Unit {0}
IsFine (Err e) = ⊥

pub no_error : {T E : Type 0} (x : T) (e : E) → Ok x ≡ Err e → ⊥
unfolding IsFine
no_error x e p = subst IsFine p tt

-- ---- numbers

pub zero_is : (z : ℤ) → (nat_eq (unsigned_abs z) 0) ≡ int_eq z (pos 0)
zero_is (pos n) = refl
zero_is (negsuc n) = grind (arith, nat_tests)

-- ---- sorts

pub new_sort_adds : (n : List ℕ) (t u : Names) → Gives (new_sort_name n) t tt → Adds (declare (λ id. sort_declaration id n (Free id))) t tt u → Adds (declare_new_sort n) t declares u
new_sort_adds n t u h g ts =
    next_done _ _ (scope_by t ts) (scope_by t ts) tt (h ts) ∙ next_done _ _ (scope_by t ts) (scope_by u ts) tt (g ts) ∙ return_done declares (scope_by u ts)

pub new_sort_name_cause : (n : List ℕ) (t : Names) (e : StackError) → Causes (new_sort_name n) t e → Causes (declare_new_sort n) t e
new_sort_name_cause n t e h ts = next_cause _ _ (scope_by t ts) e (h ts)

pub new_sort_add_cause : (n : List ℕ) (t : Names) (e : StackError) → Gives (new_sort_name n) t tt → Causes (declare (λ id. sort_declaration id n (Free id))) t e → Causes (declare_new_sort n) t e
new_sort_add_cause n t e h g ts = next_then _ _ (scope_by t ts) (scope_by t ts) tt e (h ts) (next_cause _ _ (scope_by t ts) e (g ts))

pub sort_adds : (n : List ℕ) (x : WrittenSort) (t u : Names) (r : Sort) → Gives (new_sort_name n) t tt → Gives (judge_sort x) t r → Adds (declare (λ id. sort_declaration id n r)) t tt u
    → Adds (define_new_sort n x) t declares u
sort_adds n x t u r h k g ts =
    next_done _ _ (scope_by t ts) (scope_by t ts) tt (h ts) ∙ bind_done _ _ (scope_by t ts) (scope_by t ts) r (k ts) ∙ next_done _ _ (scope_by t ts) (scope_by u ts) tt (g ts)
    ∙ return_done declares (scope_by u ts)

pub sort_name_cause : (n : List ℕ) (x : WrittenSort) (t : Names) (e : StackError) → Causes (new_sort_name n) t e → Causes (define_new_sort n x) t e
sort_name_cause n x t e h ts = next_cause _ _ (scope_by t ts) e (h ts)

pub sort_sort_cause : (n : List ℕ) (x : WrittenSort) (t : Names) (e : StackError) → Gives (new_sort_name n) t tt → Causes (judge_sort x) t e → Causes (define_new_sort n x) t e
sort_sort_cause n x t e h g ts = next_then _ _ (scope_by t ts) (scope_by t ts) tt e (h ts) (bind_cause _ _ (scope_by t ts) e (g ts))

pub sort_add_cause : (n : List ℕ) (x : WrittenSort) (t : Names) (r : Sort) (e : StackError) → Gives (new_sort_name n) t tt → Gives (judge_sort x) t r
    → Causes (declare (λ id. sort_declaration id n r)) t e → Causes (define_new_sort n x) t e
sort_add_cause n x t r e h k g ts =
    next_then _ _ (scope_by t ts) (scope_by t ts) tt e (h ts) (bind_then _ _ (scope_by t ts) (scope_by t ts) r e (k ts) (next_cause _ _ (scope_by t ts) e (g ts)))

-- ---- functions

pub function_adds : (n : List ℕ) (xs : List WrittenSort) (x : WrittenSort) (t u : Names) (rs : List Sort) (r : Sort) → Gives (new_function_name n) t tt → Gives (judge_sorts xs) t rs → Gives (judge_sort x) t r
    → Adds (declare (λ id. function_declaration id n rs r None)) t tt u → Adds (declare_function n xs x) t declares u
function_adds n xs x t u rs r h j k g ts =
    next_done _ _ (scope_by t ts) (scope_by t ts) tt (h ts) ∙ bind_done _ _ (scope_by t ts) (scope_by t ts) rs (j ts) ∙ bind_done _ _ (scope_by t ts) (scope_by t ts) r (k ts)
    ∙ next_done _ _ (scope_by t ts) (scope_by u ts) tt (g ts) ∙ return_done declares (scope_by u ts)

pub function_name_cause : (n : List ℕ) (xs : List WrittenSort) (x : WrittenSort) (t : Names) (e : StackError) → Causes (new_function_name n) t e → Causes (declare_function n xs x) t e
function_name_cause n xs x t e h ts = next_cause _ _ (scope_by t ts) e (h ts)

pub function_arguments_cause : (n : List ℕ) (xs : List WrittenSort) (x : WrittenSort) (t : Names) (e : StackError) → Gives (new_function_name n) t tt → Causes (judge_sorts xs) t e → Causes (declare_function n xs x) t e
function_arguments_cause n xs x t e h g ts = next_then _ _ (scope_by t ts) (scope_by t ts) tt e (h ts) (bind_cause _ _ (scope_by t ts) e (g ts))

pub function_result_cause : (n : List ℕ) (xs : List WrittenSort) (x : WrittenSort) (t : Names) (rs : List Sort) (e : StackError) → Gives (new_function_name n) t tt → Gives (judge_sorts xs) t rs
    → Causes (judge_sort x) t e → Causes (declare_function n xs x) t e
function_result_cause n xs x t rs e h j g ts =
    next_then _ _ (scope_by t ts) (scope_by t ts) tt e (h ts) (bind_then _ _ (scope_by t ts) (scope_by t ts) rs e (j ts) (bind_cause _ _ (scope_by t ts) e (g ts)))

pub function_add_cause : (n : List ℕ) (xs : List WrittenSort) (x : WrittenSort) (t : Names) (rs : List Sort) (r : Sort) (e : StackError) → Gives (new_function_name n) t tt → Gives (judge_sorts xs) t rs
    → Gives (judge_sort x) t r → Causes (declare (λ id. function_declaration id n rs r None)) t e → Causes (declare_function n xs x) t e
function_add_cause n xs x t rs r e h j k g ts =
    next_then _ _ (scope_by t ts) (scope_by t ts) tt e (h ts)
    (bind_then _ _ (scope_by t ts) (scope_by t ts) rs e (j ts) (bind_then _ _ (scope_by t ts) (scope_by t ts) r e (k ts) (next_cause _ _ (scope_by t ts) e (g ts))))

-- ---- what is left out

pub nonzero_gives : (n : List ℕ) (arity : ℤ) (t : Names) → int_eq arity (pos 0) ≡ false → Gives (declare_sort n arity) t is_unsupported
nonzero_gives n arity t e ts = ap (λ (b : Bool). (if b then declare_new_sort n else return is_unsupported) (scope_by t ts)) e ∙ return_done is_unsupported (scope_by t ts)

pub zero_same : (n : List ℕ) (arity : ℤ) → int_eq arity (pos 0) ≡ true → declare_new_sort n ≡ declare_sort n arity
zero_same n arity e = ap (λ (b : Bool). if b then declare_new_sort n else return is_unsupported) (sym e)

pub parameters_give : (n : List ℕ) (p : List ℕ) (ps : List (List ℕ)) (x : WrittenSort) (t : Names) → Gives (define_sort n (p ∷ ps) x) t is_unsupported
parameters_give n p ps x t ts = return_done is_unsupported (scope_by t ts)
