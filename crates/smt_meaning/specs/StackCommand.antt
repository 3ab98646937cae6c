-- What a command does to the stack: the fold of the accepted commands (SMT-LIB 2.6, sections 4.2.2 to 4.2.4).
use Rattle.std.specs.Prelude.{◌≡◌, refl, ℕ, ◌+◌, Bool, true, false, not, nat_eq, nat_le, nat_lt, List, [], ◌∷◌, map, length, drop, ℤ, pos, unsigned_abs, Option, Some, None, bytes_eq, codes, if◌then◌else◌}
use Rattle.smt_meaning.specs.declared.values.Sort.{Sort}
use Rattle.smt_meaning.specs.declared.values.Sort.TheVariants.{Bool as Truths, Int as Ints, Free}
use Rattle.smt_meaning.specs.declared.terms.Head.TheVariants.{Place}
use Rattle.smt_meaning.specs.declared.tokens.Token.{Token}
use Rattle.smt_meaning.specs.declared.tokens.Token.TheVariants.{Symbol}
use Rattle.smt_meaning.specs.declared.refusals.Refusal.TheVariants.{AlreadyDeclared, UnknownSymbol, SortsDiffer, NotBool, PopPastLevelZero, TooManyLevels, ReservedName, TooManyTerms}
use Rattle.smt_meaning.specs.declared.commands.WrittenSort.{WrittenSort}
use Rattle.smt_meaning.specs.declared.commands.WrittenSort.TheVariants.{Name, Applied}
use Rattle.smt_meaning.specs.declared.commands.Parameter.{Parameter}
use Rattle.smt_meaning.specs.declared.options.OptionSetting.{OptionSetting}
use Rattle.smt_meaning.specs.declared.options.OptionSetting.TheVariants.{GlobalDeclarations}
use Rattle.smt_meaning.specs.declared.commands.Command.{Command}
use Rattle.smt_meaning.specs.declared.commands.Command.TheVariants.{SetOption, DeclareSort, DefineSort, DeclareConst, DeclareFun, DefineFun, Assert, CheckSatAssuming, Push, Pop, GetValue, ResetAssertions, Reset, Minimize}
use Rattle.smt_meaning.specs.Declaration.{Declaration, Body}
use Rattle.smt_meaning.specs.Term.{Tree, node, none, int_eq}
use Rattle.smt_meaning.specs.Sexp.{sexp}
use Rattle.smt_meaning.specs.Goal.{pair_text}
use Rattle.smt_meaning.specs.Signature.{is_one_of, is_some, find_function, find_sort, reserved_functions, reserved_sorts, sort_eq, all_of}
use Rattle.smt_meaning.specs.Sorts.{Scope, Outcome, done, refused, Judging, ◌>>=◌, ◌>>◌, return, refuse, require, required, the_scope, declare, Typed, sorts_of, Variable, Rules, not_before, judge}
use Rattle.smt_meaning.specs.Stack.{Assertion, Frame, signature_of, start_frames, depth, on_top, with_declared, cleared, pushed, popped}

-- the frames by levels, how many ids were given, and the different trees that were judged, both since the start or the last `reset`; and whether
-- declarations are global
pub record Stack : Type 0 where
  pub frames : List Frame
  pub given : ℕ
  pub trees : List Tree
  pub global : Bool

abbrev pub start : Stack
start = record { frames = start_frames; given = 0; trees = []; global = false }

-- what an accepted command does
pub data Change : Type 0 where
  -- what was declared joins the newest level, or level 0 where declarations are global
  declares : Change
  -- the names that the term gives join the newest level, and so does the assertion
  asserts : (assertion : Assertion) → Change
  pushes : (levels : ℕ) → Change
  pops : (levels : ℕ) → Change
  -- the terms whose values are asked for
  asks : (terms : List Typed) → Change
  -- what a check assumes
  assumes : (assumptions : List Assertion) → Change
  -- an option is set, of which the stack heeds `:global-declarations` alone
  sets : (option : OptionSetting) → Change
  -- `reset-assertions`
  clears : Change
  -- `reset`
  begins_again : Change
  -- it is answered `unsupported`
  is_unsupported : Change

-- ---- sorts

abbrev pub declared_sort : Option Declaration → Option Sort
declared_sort None = None
declared_sort (Some d) = Some d.rank.result

abbrev pub sort_named : List ℕ → List Declaration → Option Sort
sort_named n ds =
    if bytes_eq n (codes "Bool") then Some Truths
    else if bytes_eq n (codes "Int") then Some Ints
    else declared_sort (find_sort n ds)

abbrev pub judge_sort : WrittenSort → Judging Sort
judge_sort (Name n) = do
  s ← the_scope
  required (sort_named n s.signature) (UnknownSymbol (Symbol n))
judge_sort (Applied n) = refuse (UnknownSymbol (Symbol n))

abbrev pub judge_sorts : List WrittenSort → Judging (List Sort)
judge_sorts [] = return []
judge_sorts (s ∷ ss) = do
  a ← judge_sort s
  rs ← judge_sorts ss
  return (a ∷ rs)

-- ---- declarations

abbrev pub new_sort_name : List ℕ → Judging (Unit {0})
new_sort_name n = do
  require (not (is_one_of n reserved_sorts)) (ReservedName n)
  s ← the_scope
  require (not (is_some (find_sort n s.signature))) (AlreadyDeclared n)

abbrev pub new_function_name : List ℕ → Judging (Unit {0})
new_function_name n = do
  require (not (is_one_of n reserved_functions)) (ReservedName n)
  s ← the_scope
  require (not (is_some (find_function n s.signature))) (AlreadyDeclared n)

abbrev pub sort_declaration : ℕ → List ℕ → Sort → Declaration
sort_declaration id n s =
    record { id = id; name = n; rank = record { arguments = []; result = s }; body = None; is_sort = true; is_name = false }

abbrev pub function_declaration : ℕ → List ℕ → List Sort → Sort → Option Body → Declaration
function_declaration id n ss s body =
    record { id = id; name = n; rank = record { arguments = ss; result = s }; body = body; is_sort = false; is_name = false }

abbrev pub declare_new_sort : List ℕ → Judging Change
declare_new_sort n = do
  new_sort_name n
  declare (λ id. sort_declaration id n (Free id))
  return declares

-- only sorts without arguments are declared
abbrev pub declare_sort : List ℕ → ℤ → Judging Change
declare_sort n arity = if int_eq arity (pos 0) then declare_new_sort n else return is_unsupported

abbrev pub define_new_sort : List ℕ → WrittenSort → Judging Change
define_new_sort n s = do
  new_sort_name n
  r ← judge_sort s
  declare (λ id. sort_declaration id n r)
  return declares

-- only sorts without parameters are defined
abbrev pub define_sort : List ℕ → List (List ℕ) → WrittenSort → Judging Change
define_sort n [] s = define_new_sort n s
define_sort n (p ∷ ps) s = return is_unsupported

abbrev pub declare_function : List ℕ → List WrittenSort → WrittenSort → Judging Change
declare_function n ss s = do
  new_function_name n
  rs ← judge_sorts ss
  r ← judge_sort s
  declare (λ id. function_declaration id n rs r None)
  return declares

-- ---- definitions

-- the k-th parameter and those after it, where these names were before
abbrev pub judge_parameters : ℕ → List (List ℕ) → List Parameter → Judging (List Variable)
judge_parameters k before [] = return []
judge_parameters k before (p ∷ ps) = do
  not_before before p.name
  s ← judge_sort p.sort
  vs ← judge_parameters (k + 1) (p.name ∷ before) ps
  return (record { name = p.name; term = record { tree = node (Place k) none; sort = s } } ∷ vs)

-- a body with its sort
pub record Bodied : Type 0 where
  pub body : Body
  pub sort : Sort

abbrev pub bodied : Typed → List Tree → Bodied
bodied t ts = record { body = record { terms = ts; term = t.tree }; sort = t.sort }

-- what was judged apart leaves the scope as it was
abbrev pub apart : Scope → Outcome Typed → Outcome Bodied
apart s (done t c) = done (bodied t c.trees) s
apart s (refused r) = refused r

abbrev pub in_body : Rules
in_body = record { naming = false; closed = false }

-- a body is judged apart, its parameters first
unfoldable pub judge_body : List Variable → List Token → Judging Bodied
judge_body vs t = λ s. apart s (judge in_body vs (sexp t) (record s { trees = map (λ (v : Variable). v.term.tree) vs }))

abbrev pub sorts_of_variables : List Variable → List Sort
sorts_of_variables vs = map (λ (v : Variable). v.term.sort) vs

abbrev pub define_function : List ℕ → List Parameter → WrittenSort → List Token → Judging Change
define_function n ps s t = do
  new_function_name n
  vs ← judge_parameters 0 [] ps
  r ← judge_sort s
  b ← judge_body vs t
  require (sort_eq b.sort r) (SortsDiffer n)
  declare (λ id. function_declaration id n (sorts_of_variables vs) r (Some b.body))
  return declares

-- ---- assertions and questions

-- how many different trees there may be
abbrev pub most_terms : ℕ
most_terms = 4294967295

abbrev pub require_room : Judging (Unit {0})
require_room = do
  s ← the_scope
  require (nat_le (length s.trees) most_terms) TooManyTerms

abbrev pub in_assert : Rules
in_assert = record { naming = true; closed = true }

abbrev pub assert_term : List Token → Judging Change
assert_term t = do
  a ← judge in_assert [] (sexp t)
  require (sort_eq a.sort Truths) NotBool
  require_room
  return (asserts (record { text = t; term = a.tree }))

abbrev pub in_question : Rules
in_question = record { naming = false; closed = true }

abbrev pub judge_terms : List (List Token) → Judging (List Typed)
judge_terms [] = return []
judge_terms (t ∷ ts) = do
  a ← judge in_question [] (sexp t)
  rest ← judge_terms ts
  return (a ∷ rest)

-- the terms whose values are asked for: their trees join the list too
abbrev pub judge_questions : List (List Token) → Judging (List Typed)
judge_questions ts = do
  terms ← judge_terms ts
  require_room
  return terms

abbrev pub ask_terms : List (List Token) → Judging Change
ask_terms ts = do
  terms ← judge_questions ts
  return (asks terms)

-- ---- levels

abbrev pub most_levels : ℕ
most_levels = 65535

-- ---- assumptions

abbrev pub assertions_from : List (List Token) → List Typed → List Assertion
assertions_from [] us = []
assertions_from (t ∷ ts) [] = []
assertions_from (t ∷ ts) (a ∷ us) = record { text = t; term = a.tree } ∷ assertions_from ts us

-- terms of sort Bool, for which there is room in one more level
abbrev pub assume_terms : ℕ → List (List Token) → Judging Change
assume_terms level ts = do
  terms ← judge_terms ts
  require (all_of Truths (sorts_of terms)) NotBool
  require_room
  require (nat_lt level most_levels) TooManyLevels
  return (assumes (assertions_from ts terms))

-- ---- least values

-- how many terms more than the goal's there must be room for: those of what is asked of it
abbrev pub asked_terms : ℕ
asked_terms = 8

-- a term t of sort Int; then (= t t) is assumed
abbrev pub minimize_term : ℕ → List Token → Judging Change
minimize_term level t = do
  a ← judge in_question [] (sexp t)
  require (sort_eq a.sort Ints) (SortsDiffer (codes "minimize"))
  s ← the_scope
  require (nat_le (length s.trees + asked_terms) most_terms) TooManyTerms
  assume_terms level (pair_text (codes "=") t t ∷ [])

-- ---- moves

abbrev pub push_levels : ℕ → ℕ → Judging Change
push_levels level n = do
  require (nat_le (level + n) most_levels) TooManyLevels
  return (pushes n)

abbrev pub pop_levels : ℕ → ℕ → Judging Change
pop_levels level n = do
  require (nat_le n level) PopPastLevelZero
  return (pops n)

-- ---- the fold

-- whether declarations are global, after a setting at a depth: it is heeded where no level stands above 0, as at the start
abbrev pub set_global : OptionSetting → ℕ → Bool → Bool
set_global (GlobalDeclarations b) level old = if nat_eq level 0 then b else old
set_global o level old = old

-- how a command is judged at a depth, where it is one of the stack's
abbrev pub stack_command : Command → Option (ℕ → Judging Change)
stack_command (SetOption o) = Some (λ level. return (sets o))
stack_command (DeclareSort n arity) = Some (λ level. declare_sort n arity)
stack_command (DefineSort n ps s) = Some (λ level. define_sort n ps s)
stack_command (DeclareConst n s) = Some (λ level. declare_function n [] s)
stack_command (DeclareFun n ss s) = Some (λ level. declare_function n ss s)
stack_command (DefineFun n ps s t) = Some (λ level. define_function n ps s t)
stack_command (Assert t) = Some (λ level. assert_term t)
stack_command (GetValue ts) = Some (λ level. ask_terms ts)
stack_command (CheckSatAssuming ts) = Some (λ level. assume_terms level ts)
stack_command (Minimize t) = Some (λ level. minimize_term level t)
-- the number of a command is never below 0
stack_command (Push n) = Some (λ level. push_levels level (unsigned_abs n))
stack_command (Pop n) = Some (λ level. pop_levels level (unsigned_abs n))
stack_command ResetAssertions = Some (λ level. return clears)
stack_command Reset = Some (λ level. return begins_again)
stack_command _ = None

abbrev pub scope_of : Stack → Scope
scope_of s = record { signature = signature_of s.frames; given = s.given; trees = s.trees }

-- how such a command is judged on a stack: what it does, or its refusal
unfoldable pub judged : (ℕ → Judging Change) → Stack → Outcome Change
judged c s = c (depth s.frames) (scope_of s)

pub judged_is : (c : ℕ → Judging Change) (s : Stack) → judged c s ≡ c (depth s.frames) (scope_of s)
unfolding judged
judged_is c s = refl

-- what was declared on the way
abbrev pub new_declarations : Stack → Scope → List Declaration
new_declarations s c = drop (length (signature_of s.frames)) c.signature

abbrev pub changed : Stack → Change → Scope → Stack
changed s declares c = record s { frames = with_declared s.global (new_declarations s c) s.frames; given = c.given; trees = c.trees }
changed s (asserts a) c = record s { frames = on_top (new_declarations s c) (a ∷ []) s.frames; given = c.given; trees = c.trees }
changed s (pushes n) c = record s { frames = pushed n s.frames }
changed s (pops n) c = record s { frames = popped n s.frames }
changed s (asks terms) c = record s { trees = c.trees }
-- their level stands above the stack for the check alone
changed s (assumes xs) c = record s { trees = c.trees }
changed s (sets o) c = record s { global = set_global o (depth s.frames) s.global }
changed s clears c = record s { frames = cleared s.global s.frames }
changed s begins_again c = start
changed s is_unsupported c = s

-- a refused command changes nothing
abbrev pub after_outcome : Stack → Outcome Change → Stack
after_outcome s (done change c) = changed s change c
after_outcome s (refused r) = s

abbrev pub after_command : Stack → Option (ℕ → Judging Change) → Stack
after_command s None = s
after_command s (Some c) = after_outcome s (judged c s)

-- the stack after a command
abbrev pub after : Stack → Command → Stack
after s c = after_command s (stack_command c)

-- the stack after a list of commands
abbrev pub after_all : Stack → List Command → Stack
after_all s [] = s
after_all s (c ∷ cs) = after_all (after s c) cs
