-- What judging comes to in code: a value, or an error that is the refusal.
use Rattle.std.specs.Prelude.{◌≡◌, ℕ, ◌<◌, List, [], ◌∷◌, ◌++◌, map, length, All, Bool, true, false, Option, None, Result, Ok, Err, OnOk, IfErr}
use Rattle.elaborate.specs.declared.error.JudgeError.{JudgeError}
use Rattle.elaborate.specs.declared.error.JudgeError.TheVariants.{Refused as TermRefused, Memory as NoRoom}
use Rattle.elaborate.specs.declared.Parameter.{Parameter}
use Rattle.elaborate.specs.Judged.{variables_of}
use Rattle.elaborate.specs.Values.{IsLonger}
use Rattle.smt_meaning.specs.declared.values.Sort.{Sort}
use Rattle.smt_meaning.specs.declared.tokens.Token.{Token}
use Rattle.smt_meaning.specs.declared.commands.WrittenSort.{WrittenSort}
use Rattle.smt_meaning.specs.declared.commands.Parameter.{Parameter as WrittenParameter}
use Rattle.smt_meaning.specs.declared.refusals.Refusal.{Refusal}
use Rattle.smt_meaning.specs.declared.refusals.Refusal.TheVariants.{ReservedName, AlreadyDeclared as DeclaredBefore, SortsDiffer, TooManySymbols, TooManyTerms}
use Rattle.smt_meaning.specs.Declaration.{Declaration, Body}
use Rattle.smt_meaning.specs.Term.{Tree}
use Rattle.smt_meaning.specs.Signature.{sort_eq}
use Rattle.smt_meaning.specs.Sorts.{Scope, Outcome, done, refused, Judging, go_on, ◌>>=◌, ◌>>◌, return, require, Variable, not_before}
use Rattle.smt_meaning.specs.StackCommand.{Change, declares, asks, assumes, is_unsupported, most_terms, most_levels, assume_terms, judge_sort, judge_sorts, judge_parameters, judge_body, judge_terms, ask_terms}
use Rattle.smt_sorts.specs.declared.errors.NameError.{NameError}
use Rattle.smt_sorts.specs.declared.errors.NameError.TheVariants.{Reserved, AlreadyDeclared}
use Rattle.smt_sorts.specs.declared.errors.AddError.{AddError}
use Rattle.smt_sorts.specs.declared.errors.AddError.TheVariants.{TooManySymbols as TooMany, Memory as NoMemory}
use Rattle.smt_sorts.specs.Names.{Names, signature, with_declaration, IsTable, HasGained}
use Rattle.scope_stack.specs.declared.answers.Asked.{Asked}
use Rattle.scope_stack.specs.declared.answers.Assertion.{Assertion}
use Rattle.scope_stack.specs.Inside.{asserted_by, IsWithin}
use Rattle.scope_stack.specs.declared.answers.Carried.{Carried}
use Rattle.scope_stack.specs.declared.answers.Carried.TheVariants.{Done, Unsupported}
use Rattle.scope_stack.specs.declared.answers.StackError.{StackError}
use Rattle.scope_stack.specs.declared.answers.StackError.TheVariants.{Refused, Memory}
use Rattle.scope_stack.specs.Carries.{typed_by}

-- where a command is judged
abbrev pub scope_by : Names → List Tree → Scope
scope_by t ts = record { signature = signature t; given = t.given; trees = ts }

-- the refusal is the one that the judgement gives; want of memory is free
abbrev pub IsCause : {A : Type 0} → StackError → Outcome A → Type 0
IsCause (Refused r) o = o ≡ refused r
IsCause Memory o = Unit {0}

-- this refusal, or want of memory
abbrev pub IsError : Refusal → StackError → Type 0
IsError why (Refused r) = r ≡ why
IsError why Memory = Unit {0}

-- the same refusal, or want of memory
abbrev pub IsSameError : JudgeError → StackError → Type 0
IsSameError (TermRefused r) e = e ≡ Refused r
IsSameError NoRoom e = e ≡ Memory

-- there are too many terms, where there are so many; or want of memory
abbrev pub IsRoomError : ℕ → StackError → Type 0
IsRoomError n (Refused r) = (r ≡ TooManyTerms) × (most_terms < n)
IsRoomError n Memory = Unit {0}

-- ---- a step that changes nothing, whatever the terms are

abbrev pub Gives : {A : Type 0} → Judging A → Names → A → Type 0
Gives m t a = (ts : List Tree) → m (scope_by t ts) ≡ done a (scope_by t ts)

abbrev pub Causes : {A : Type 0} → Judging A → Names → StackError → Type 0
Causes m t e = (ts : List Tree) → IsCause e (m (scope_by t ts))

-- whether a name may be given, where this is found under it
pub record IsNewOr (m : Judging (Unit {0})) (found : Option Declaration) (t : Names) (r : Result (Unit {0}) StackError) : Type 0 where
  pub gives : OnOk r (Gives m t tt)
  pub new : OnOk r (found ≡ None)
  pub causes : IfErr r (Causes m t)

-- ---- declarations

-- the step adds declarations, whatever the terms are
abbrev pub Adds : {A : Type 0} → Judging A → Names → A → Names → Type 0
Adds m old a new = (ts : List Tree) → m (scope_by old ts) ≡ done a (scope_by new ts)

-- the step adds a declaration, which joins the newest level of names, or level 0 where declarations are global
pub record HasAdded {A : Type 0} (m : Judging A) (a : A) (global : Bool) (old new : Names) : Type 0 where
  pub table : IsTable old
  pub declaration : Declaration
  pub id : declaration.id ≡ old.given
  pub adds : Adds m old a (with_declaration false declaration old)
  pub new_is : new ≡ with_declaration global declaration old

abbrev pub HasDeclared : Judging Change → Bool → Names → Names → Type 0
HasDeclared m global old new = HasAdded m declares global old new

pub record IsUnsupported (m : Judging Change) (old new : Names) : Type 0 where
  pub gives : Gives m old is_unsupported
  pub same : new ≡ old

pub record IsFailed (m : Judging Change) (e : StackError) (old new : Names) : Type 0 where
  pub causes : Causes m old e
  pub same : new ≡ old

-- what comes of a declaration
abbrev pub Declares : Judging Change → Bool → Names → Result Carried StackError → Names → Type 0
Declares m global old (Ok Done) new = HasDeclared m global old new
Declares m global old (Ok Unsupported) new = IsUnsupported m old new
Declares m global old (Err e) new = IsFailed m e old new

abbrev pub name_refusal : NameError → List ℕ → Refusal
name_refusal Reserved n = ReservedName n
name_refusal AlreadyDeclared n = DeclaredBefore n

-- what is left of the sorts tells what all of them come to, where those before are these
abbrev pub Resumes : Names → List WrittenSort → List Sort → List WrittenSort → Type 0
Resumes t all rs rest = (ts : List Tree) → judge_sorts all (scope_by t ts) ≡ go_on (judge_sorts rest (scope_by t ts)) (λ more'. return (rs ++ more'))

-- the error of a declaration for which no id is left, or want of memory
abbrev pub IfTooMany : AddError → StackError → Type 0
IfTooMany TooMany e = e ≡ Refused TooManySymbols
IfTooMany NoMemory e = e ≡ Memory

-- ---- parameters

-- the names of parameters before others, the last one first
abbrev pub names_onto : List (List ℕ) → List Parameter → List (List ℕ)
names_onto before [] = before
names_onto before (p ∷ ps) = names_onto (p.name ∷ before) ps

abbrev pub names_before : List Parameter → List (List ℕ)
names_before ps = names_onto [] ps

abbrev pub parameter_name : Parameter → List ℕ
parameter_name p = p.name

abbrev pub sort_of : Parameter → Sort
sort_of p = p.sort

-- the parameter is judged where these were before
pub record IsParameter (before : List Parameter) (written : WrittenParameter) (t : Names) (p : Parameter) : Type 0 where
  pub name : p.name ≡ written.name
  pub apart : Gives (not_before (names_before before) written.name) t tt
  pub sort : Gives (judge_sort written.sort) t p.sort

abbrev pub one_parameter : List Parameter → WrittenParameter → Judging Sort
one_parameter before p = not_before (names_before before) p.name >> judge_sort p.sort

-- what is left of the parameters tells what all of them come to, where those before are these
abbrev pub Continues : Names → List WrittenParameter → List Parameter → List WrittenParameter → Type 0
Continues t all ps rest =
    (ts : List Tree) → judge_parameters 0 [] all (scope_by t ts) ≡ go_on (judge_parameters (length ps) (names_before ps) rest (scope_by t ts)) (λ more'. return (variables_of ps ++ more'))

-- ---- definitions

-- a body, whose sort must be this one
abbrev pub body_of_sort : List ℕ → List Variable → List Token → Sort → Judging (Unit {0})
body_of_sort n vs t r = judge_body vs t >>= λ b. require (sort_eq b.sort r) (SortsDiffer n)

pub record IsBody (vs : List Variable) (t : List Token) (r : Sort) (names : Names) (b : Body) : Type 0 where
  pub sort : Sort
  pub gives : Gives (judge_body vs t) names (record { body = b; sort = sort })
  pub same : sort_eq sort r ≡ true

-- ---- questions

-- the terms before are judged to be these, and what is left of the texts tells the rest
pub record IsAsking (t : Names) (ts : List Tree) (all : List (List Token)) (terms : List Asked) (rest : List (List Token)) (u : Names) (us : List Tree) : Type 0 where
  pub continues : judge_terms all (scope_by t ts) ≡ go_on (judge_terms rest (scope_by u us)) (λ more'. return (typed_by us terms ++ more'))
  pub within : All (λ (a : Asked). a.term < length us) terms
  pub gained : (v : Names) → HasGained v t → HasGained v u
  pub longer : IsLonger ts us

abbrev pub sort_asked : Asked → Sort
sort_asked a = a.sort

-- the assertions of texts, whose terms stand at these places
abbrev pub assertions_by : List (List Token) → List Asked → List Assertion
assertions_by [] terms = []
assertions_by (t ∷ ts) [] = []
assertions_by (t ∷ ts) (a ∷ terms) = record { text = t; term = a.term } ∷ assertions_by ts terms

-- the texts are judged to be these assumptions
pub record AreAssumed (depth : ℕ) (texts : List (List Token)) (s : Scope) (xs : List Assertion) (names : Names) (us : List Tree) : Type 0 where
  pub is_judged : assume_terms depth texts s ≡ done (assumes (map (asserted_by us) xs)) (scope_by names us)
  pub within : All (IsWithin us) xs
  pub room : depth < most_levels

-- the texts are judged to be these terms
pub record AreJudged (texts : List (List Token)) (s : Scope) (terms : List Asked) (us : List Tree) : Type 0 where
  pub names : Names
  pub is_judged : ask_terms texts s ≡ done (asks (typed_by us terms)) (scope_by names us)
  pub within : All (λ (a : Asked). a.term < length us) terms
