-- The sort of a term or its one refusal, its tree, and the trees that are judged on the way (SMT-LIB 2.6, sections 3.6 and 5.3).
use Rattle.std.specs.Prelude.{ℕ, ◌+◌, ◌-◌, ◌*◌, Bool, true, false, not, ◌&&◌, ◌||◌, nat_eq, nat_lt, nat_le, List, [], ◌∷◌, ◌++◌, map, length, pos, if◌then◌else◌, Option, Some, None, bytes_eq, codes}
use Rattle.fraction128.specs.Whole.{is_in_range}
use Rattle.smt_meaning.specs.declared.values.Sort.{Sort}
use Rattle.smt_meaning.specs.declared.values.Sort.TheVariants.{Bool as Truths, Int as Ints}
use Rattle.smt_meaning.specs.declared.terms.Operator.{Operator}
use Rattle.smt_meaning.specs.declared.terms.Operator.TheVariants.{True, False, Divisible}
use Rattle.smt_meaning.specs.declared.terms.Head.TheVariants.{Numeral as Number, Symbol as Function}
use Rattle.smt_meaning.specs.declared.tokens.Token.{Token}
use Rattle.smt_meaning.specs.declared.tokens.Token.TheVariants.{Numeral, Decimal, Hex, Binary, Text, Symbol, Reserved, Keyword}
use Rattle.smt_meaning.specs.declared.tokens.Word.TheVariants.{Exclamation, Underscore, Let}
use Rattle.smt_meaning.specs.Declaration.{Declaration, Body}
use Rattle.smt_meaning.specs.declared.refusals.Refusal.{Refusal}
use Rattle.smt_meaning.specs.declared.refusals.Refusal.TheVariants.{NumeralTooLarge, WrongArguments, AlreadyDeclared, UnknownSymbol, ArgumentCount, SortsDiffer, NotLinear, ReservedName, TooManySymbols}
use Rattle.smt_meaning.specs.Term.{Tree, Trees, node, none, more}
use Rattle.smt_meaning.specs.Sexp.{Sexp, Sexps, word, group, end, ◌▸◌}
use Rattle.smt_meaning.specs.TreeShape.{is_linear, is_linear_operation, operation, put, with_parts}
use Rattle.smt_meaning.specs.Signature.{look_up, is_one_of, is_some, find_function, operators, reserved_functions, takes, operator_sort, sort_eq, sorts_eq}

-- ---- judging: what it starts from, what it goes through and how it ends

-- the signature, the number of ids given, and the different trees that were judged, each after its parts
pub record Scope : Type 0 where
  pub signature : List Declaration
  pub given : ℕ
  pub trees : List Tree

-- a value and the scope after, or a refusal
pub data Outcome (A : Type 0) : Type 0 where
  done : (value : A) (scope : Scope) → Outcome A
  refused : (why : Refusal) → Outcome A

abbrev pub Judging : Type 0 → Type 0
Judging A = Scope → Outcome A

abbrev pub go_on : {A B : Type 0} → Outcome A → (A → Judging B) → Outcome B
go_on (done a s) k = k a s
go_on (refused r) k = refused r

infixl 55 ◌>>=◌
unfoldable pub ◌>>=◌ : {A B : Type 0} → Judging A → (A → Judging B) → Judging B
◌>>=◌ m k = λ s. go_on (m s) k

infixl 55 ◌>>◌
unfoldable pub ◌>>◌ : {A B : Type 0} → Judging A → Judging B → Judging B
◌>>◌ m n = λ s. go_on (m s) (λ a. n)

unfoldable pub return : {A : Type 0} → A → Judging A
return a = λ s. done a s

unfoldable pub refuse : {A : Type 0} → Refusal → Judging A
refuse r = λ s. refused r

unfoldable pub require : Bool → Refusal → Judging (Unit {0})
require true r = return tt
require false r = refuse r

abbrev pub either : {A : Type 0} → Bool → Judging A → Judging A → Judging A
either true m n = m
either false m n = n

unfoldable pub required : {A : Type 0} → Option A → Refusal → Judging A
required None r = refuse r
required (Some a) r = return a

unfoldable pub the_scope : Judging Scope
the_scope = λ s. done s s

-- these trees are judged
abbrev pub with_all : List Tree → List Tree → List Tree
with_all ts [] = ts
with_all ts (u ∷ us) = with_all (with_parts ts u) us

unfoldable pub note : List Tree → Judging (Unit {0})
note us = λ s. done tt (record s { trees = with_all s.trees us })

-- a term's tree and sort
pub record Typed : Type 0 where
  pub tree : Tree
  pub sort : Sort

abbrev pub trees_of : List Typed → Trees
trees_of [] = none
trees_of (a ∷ bs) = more a.tree (trees_of bs)

abbrev pub sorts_of : List Typed → List Sort
sorts_of ts = map (λ (t : Typed). t.sort) ts

-- a variable of `let`, or a parameter of a definition
pub record Variable : Type 0 where
  pub name : List ℕ
  pub term : Typed

-- where a term stands
pub record Rules : Type 0 where
  -- `:named` is allowed: in `assert` alone
  pub naming : Bool
  -- it has no parameters, so products are judged
  pub closed : Bool

-- ---- what a name stands for

pub data Known : Type 0 where
  variable : (term : Typed) → Known
  operator : (op : Operator) → Known
  function : (declaration : Declaration) → Known
  unknown : Known

abbrev pub find_variable : List ℕ → List Variable → Option Typed
find_variable n [] = None
find_variable n (v ∷ vs) = if bytes_eq n v.name then Some v.term else find_variable n vs

abbrev pub known_function : Option Declaration → Known
known_function None = unknown
known_function (Some d) = function d

abbrev pub known_symbol : Option Operator → Option Declaration → Known
known_symbol (Some o) d = operator o
known_symbol None d = known_function d

abbrev pub known_name : Option Typed → Known → Known
known_name (Some t) k = variable t
known_name None k = k

-- a variable hides every function of its name
abbrev pub known : List Variable → List ℕ → Scope → Known
known vs n s = known_name (find_variable n vs) (known_symbol (look_up n operators) (find_function n s.signature))

-- ---- the body of a definition

-- a declared function applied, or the body of a definition with the arguments put in
abbrev pub applied : Declaration → Trees → Tree
applied d ts = elim d.body [ None ↦ node (Function d.id) ts | Some b ↦ put ts b.term ]

-- the trees that an application judges: itself, or each tree of the definition's body with the arguments put in
abbrev pub applied_trees : Declaration → Trees → List Tree
applied_trees d ts = elim d.body [ None ↦ node (Function d.id) ts ∷ [] | Some b ↦ map (put ts) b.terms ]

abbrev pub all_are_linear : List Tree → Bool
all_are_linear [] = true
all_are_linear (t ∷ ts) = is_linear t && all_are_linear ts

-- ---- applications and bare symbols

unfoldable pub found : Tree → Sort → Judging Typed
found t s = λ c. done (record { tree = t; sort = s }) c

abbrev pub judge_symbol : Rules → Declaration → Trees → Judging Typed
judge_symbol r d ts = do
  require (not r.closed || all_are_linear (applied_trees d ts)) NotLinear
  note (applied_trees d ts)
  found (applied d ts) d.rank.result

abbrev pub judge_operator : Rules → Operator → Trees → Sort → Judging Typed
judge_operator r o ts s = do
  require (not r.closed || is_linear_operation o ts) NotLinear
  note (operation o ts ∷ [])
  found (operation o ts) s

-- the head is judged before the arguments
abbrev pub can_be_applied : List ℕ → Known → Judging (Unit {0})
can_be_applied n (variable t) = refuse (ArgumentCount n)
can_be_applied n unknown = refuse (UnknownSymbol (Symbol n))
can_be_applied n _ = return tt

abbrev pub judge_application : Rules → List ℕ → Known → List Typed → Judging Typed
judge_application r n (variable t) ts = refuse (ArgumentCount n)
judge_application r n unknown ts = refuse (UnknownSymbol (Symbol n))
judge_application r n (operator o) ts = do
  require (takes o (length ts)) (ArgumentCount n)
  s ← required (operator_sort o (sorts_of ts)) (SortsDiffer n)
  judge_operator r o (trees_of ts) s
judge_application r n (function d) ts = do
  require (nat_eq (length ts) (length d.rank.arguments) && nat_le 1 (length ts)) (ArgumentCount n)
  require (sorts_eq (sorts_of ts) d.rank.arguments) (SortsDiffer n)
  judge_symbol r d (trees_of ts)

abbrev pub judge_bare : Rules → List ℕ → Known → Judging Typed
judge_bare r n (variable t) = return t
judge_bare r n unknown = refuse (UnknownSymbol (Symbol n))
judge_bare r n (operator True) = judge_operator r True none Truths
judge_bare r n (operator False) = judge_operator r False none Truths
judge_bare r n (operator _) = refuse (ArgumentCount n)
judge_bare r n (function d) = do
  require (nat_eq (length d.rank.arguments) 0) (ArgumentCount n)
  judge_symbol r d none

-- ---- tokens

-- the number that decimal digits write, after those that wrote n
abbrev pub decimal_from : ℕ → List ℕ → ℕ
decimal_from n [] = n
decimal_from n (c ∷ cs) = decimal_from (10 * n + (c - 48)) cs

abbrev pub decimal : List ℕ → ℕ
decimal cs = decimal_from 0 cs

-- at most 2^127 - 1
abbrev pub is_small : ℕ → Bool
is_small n = is_in_range (pos n)

abbrev pub judge_numeral : ℕ → Judging Typed
judge_numeral n = do
  require (is_small n) NumeralTooLarge
  note (node (Number (pos n)) none ∷ [])
  found (node (Number (pos n)) none) Ints

abbrev pub judge_token : Rules → List Variable → Token → Judging Typed
judge_token r vs (Symbol n) = do
  s ← the_scope
  judge_bare r n (known vs n s)
judge_token r vs (Numeral cs) = judge_numeral (decimal cs)
judge_token r vs (Decimal cs) = refuse (UnknownSymbol (Decimal cs))
judge_token r vs (Hex cs) = refuse (UnknownSymbol (Hex cs))
judge_token r vs (Binary cs) = refuse (UnknownSymbol (Binary cs))
judge_token r vs (Text cs) = refuse (UnknownSymbol (Text cs))
judge_token r vs _ = refuse WrongArguments

-- ---- (_ divisible n)

-- the number of such a head
abbrev pub head_number : Sexps → Option ℕ
head_number (word (Reserved Underscore) ▸ word (Symbol d) ▸ word (Numeral cs) ▸ end) = if bytes_eq d (codes "divisible") then Some (decimal cs) else None
head_number _ = None

-- it is at least 1
abbrev pub judge_head : Option ℕ → Judging ℕ
judge_head None = refuse WrongArguments
judge_head (Some n) = do
  require (nat_le 1 n) WrongArguments
  require (is_small n) NumeralTooLarge
  return n

abbrev pub judge_divisible : Rules → ℕ → List Typed → Judging Typed
judge_divisible r n (a ∷ []) = do
  require (sort_eq a.sort Ints) (SortsDiffer (codes "divisible"))
  judge_operator r Divisible (more a.tree (more (node (Number (pos n)) none) none)) Truths
judge_divisible r n ts = refuse (ArgumentCount (codes "divisible"))

-- ---- `let`

abbrev pub cons_name : List ℕ → Option (List (List ℕ)) → Option (List (List ℕ))
cons_name n None = None
cons_name n (Some ns) = Some (n ∷ ns)

-- the names of a list of bindings, or none where one hasn't the form (name term)
abbrev pub bound_names : Sexps → Option (List (List ℕ))
bound_names end = Some []
bound_names (group (word (Symbol n) ▸ t ▸ end) ▸ rest) = cons_name n (bound_names rest)
bound_names (_ ▸ rest) = None

-- a name that none of those before it is
abbrev pub not_before : List (List ℕ) → List ℕ → Judging (Unit {0})
not_before before n = require (not (is_one_of n before)) (AlreadyDeclared n)

-- from the left, the first name that stood before is refused
abbrev pub none_twice : List (List ℕ) → List (List ℕ) → Judging (Unit {0})
none_twice before [] = return tt
none_twice before (n ∷ ns) = do
  not_before before n
  none_twice (n ∷ before) ns

abbrev pub check_bindings : Option (List (List ℕ)) → Judging (Unit {0})
check_bindings None = refuse WrongArguments
check_bindings (Some []) = refuse WrongArguments
check_bindings (Some (n ∷ ns)) = none_twice [] (n ∷ ns)

-- ---- `!`

-- keywords, each with at most one value; a value may stand first where the flag is true
abbrev pub are_attributes_from : Bool → Sexps → Bool
are_attributes_from may end = true
are_attributes_from may (word (Keyword k) ▸ rest) = are_attributes_from true rest
are_attributes_from may (s ▸ rest) = may && are_attributes_from false rest

abbrev pub are_attributes : Sexps → Bool
are_attributes end = false
are_attributes (s ▸ rest) = are_attributes_from false (s ▸ rest)

abbrev pub names_or_none : Option (List (List ℕ)) → List (List ℕ)
names_or_none None = []
names_or_none (Some ns) = ns

abbrev pub without : List (List ℕ) → List (List ℕ) → List (List ℕ)
without ms [] = []
without ms (n ∷ ns) = if is_one_of n ms then without ms ns else n ∷ without ms ns

abbrev mutual
  -- one of these names occurs free in the term
  pub has_free : List (List ℕ) → Sexp → Bool
  has_free ns (word (Symbol n)) = is_one_of n ns
  has_free ns (word _) = false
  has_free ns (group (word (Reserved Let) ▸ group bs ▸ b ▸ end)) =
      binding_has_free ns bs || has_free (without (names_or_none (bound_names bs)) ns) b
  has_free ns (group (word (Reserved Exclamation) ▸ t ▸ rest)) = has_free ns t
  has_free ns (group (group hs ▸ ss)) = some_has_free ns ss
  has_free ns (group ss) = some_has_free ns ss

  pub some_has_free : List (List ℕ) → Sexps → Bool
  some_has_free ns end = false
  some_has_free ns (s ▸ ss) = has_free ns s || some_has_free ns ss

  pub binding_has_free : List (List ℕ) → Sexps → Bool
  binding_has_free ns end = false
  binding_has_free ns (group (x ▸ t ▸ end) ▸ rest) = has_free ns t || binding_has_free ns rest
  binding_has_free ns (_ ▸ rest) = binding_has_free ns rest

-- a tree as the body of a definition
abbrev pub body_of : Tree → Body
body_of t = record { terms = with_parts [] t; term = t }

-- a definition without parameters
abbrev pub name_declaration : ℕ → List ℕ → Typed → Declaration
name_declaration id n t =
    record { id = id; name = n; rank = record { arguments = []; result = t.sort }; body = Some (body_of t.tree); is_sort = false; is_name = true }

-- how many ids there are
abbrev pub most_symbols : ℕ
most_symbols = 4294967295

abbrev pub declare_in : Declaration → Bool → Scope → Outcome (Unit {0})
declare_in d true s = done tt (record s { signature = s.signature ++ d ∷ []; given = s.given + 1 })
declare_in d false s = refused TooManySymbols

-- the declaration with the next id joins the signature, where an id is left
unfoldable pub declare : (ℕ → Declaration) → Judging (Unit {0})
declare d = λ s. declare_in (d s.given) (nat_lt s.given most_symbols) s

abbrev pub name_term : Rules → Bool → Typed → List ℕ → Judging (Unit {0})
name_term r open_term t n = do
  s ← the_scope
  require (r.naming && not open_term) WrongArguments
  require (not (is_one_of n reserved_functions)) (ReservedName n)
  require (not (is_some (find_function n s.signature))) (AlreadyDeclared n)
  declare (λ id. name_declaration id n t)

abbrev pub name_by : Rules → Bool → Typed → Sexps → Judging (Unit {0})
name_by r open_term t (word (Symbol n) ▸ rest) = name_term r open_term t n
name_by r open_term t _ = refuse WrongArguments

abbrev pub judge_attributes : Rules → Bool → Typed → Sexps → Judging (Unit {0})
judge_attributes r open_term t end = return tt
judge_attributes r open_term t (word (Keyword k) ▸ rest) =
    either (bytes_eq k (codes "named")) (name_by r open_term t rest >> judge_attributes r open_term t rest) (judge_attributes r open_term t rest)
judge_attributes r open_term t (s ▸ rest) = judge_attributes r open_term t rest

-- ---- a term

abbrev pub variable_names : List Variable → List (List ℕ)
variable_names vs = map (λ (v : Variable). v.name) vs

abbrev mutual
  pub judge : Rules → List Variable → Sexp → Judging Typed
  judge r vs (word t) = judge_token r vs t
  judge r vs (group (word (Reserved Let) ▸ group bs ▸ b ▸ end)) = do
    check_bindings (bound_names bs)
    xs ← judge_bindings r vs bs
    judge r (xs ++ vs) b
  judge r vs (group (word (Reserved Let) ▸ _)) = refuse WrongArguments
  judge r vs (group (word (Reserved Exclamation) ▸ t ▸ rest)) = do
    require (are_attributes rest) WrongArguments
    a ← judge r vs t
    judge_attributes r (has_free (variable_names vs) t) a rest
    return a
  judge r vs (group (word (Reserved Exclamation) ▸ end)) = refuse WrongArguments
  judge r vs (group (word (Reserved w) ▸ _)) = refuse (UnknownSymbol (Reserved w))
  judge r vs (group (word (Symbol n) ▸ ss)) = do
    s ← the_scope
    can_be_applied n (known vs n s)
    ts ← judge_all r vs ss
    judge_application r n (known vs n s) ts
  judge r vs (group (group hs ▸ ss)) = do
    n ← judge_head (head_number hs)
    ts ← judge_all r vs ss
    judge_divisible r n ts
  judge r vs (group _) = refuse WrongArguments

  pub judge_all : Rules → List Variable → Sexps → Judging (List Typed)
  judge_all r vs end = return []
  judge_all r vs (s ▸ ss) = do
    a ← judge r vs s
    ts ← judge_all r vs ss
    return (a ∷ ts)

  -- the terms of bindings, each in the outer scope
  pub judge_bindings : Rules → List Variable → Sexps → Judging (List Variable)
  judge_bindings r vs end = return []
  judge_bindings r vs (group (word (Symbol n) ▸ t ▸ end) ▸ rest) = do
    a ← judge r vs t
    xs ← judge_bindings r vs rest
    return (record { name = n; term = a } ∷ xs)
  judge_bindings r vs (_ ▸ rest) = refuse WrongArguments
