-- Rows of the table of heads, the refusals, and the rules of `let`, `!` and application, on examples whose answers were found by hand and, where it answers, by another solver.
use Rattle.std.proofs.Common.{◌≡◌, ℕ, Bool, true, false, List, [], ◌∷◌, map, refl, Option, Some, None, length, ◌++◌}
use Rattle.std.specs.Prelude.{Result, Ok, Err, pos, negsuc, codes, ◌*ℤ◌, nat_eq, if◌then◌else◌}
use Rattle.smt_meaning.specs.declared.values.Value.{Value}
use Rattle.smt_meaning.specs.declared.values.Value.TheVariants.{Truth, Whole, Element}
use Rattle.smt_meaning.specs.declared.values.Sort.{Sort}
use Rattle.smt_meaning.specs.declared.values.Sort.TheVariants.{Bool as Truths, Int as Ints, Free}
use Rattle.smt_meaning.specs.declared.terms.Operator.TheVariants.{True, Add, Subtract, Multiply, Equal, Ite}
use Rattle.smt_meaning.specs.declared.terms.Head.TheVariants.{Numeral as Number, Theory, Symbol as Function, Place}
use Rattle.smt_meaning.specs.declared.tokens.Token.TheVariants.{Decimal, Hex, Binary, Text, Symbol as Name, Reserved}
use Rattle.smt_meaning.specs.declared.tokens.Word.TheVariants.{Let, Exclamation, Underscore, As, Exists, Forall, Match, Par}
use Rattle.smt_meaning.specs.Declaration.{Declaration}
use Rattle.smt_meaning.specs.declared.refusals.Refusal.{Refusal}
use Rattle.smt_meaning.specs.declared.refusals.Refusal.TheVariants.{NumeralTooLarge, WrongArguments, AlreadyDeclared, UnknownSymbol, ArgumentCount, SortsDiffer, NotLinear, NotBool, PopPastLevelZero, TooManyLevels, ReservedName, TooManySymbols}
use Rattle.smt_meaning.specs.Term.{Tree, node, none, more, Interpretation, fits, number_of}
use Rattle.smt_meaning.specs.Sexp.{Sexp, word}
use Rattle.smt_meaning.specs.Sorts.{Scope, Outcome, done, refused, Judging, ◌>>=◌, ◌>>◌, return, refuse, require, required, the_scope, note, found, declare, Typed, judge}
use Rattle.smt_meaning.specs.Stack.{signature_of, depth, assertions_of}
use Rattle.smt_meaning.specs.StackCommand.{Stack, Change, start, stack_command, judged, after_all, in_assert, in_question, judge_body}
use Rattle.smt_meaning.specs.Command.{command}
use Rattle.smt_meaning.specs.declared.commands.Command.{Command}
use Rattle.smt_meaning.specs.declared.errors.Error.{Error}
use Rattle.smt_meaning.specs.declared.errors.Error.TheVariants.{Refused}
use Rattle.smt_meaning.specs.Environment.{term_value}
use Rattle.smt_laws.proofs.Written.{list, symbol, numeral, keyword, text, call, binding, letting, annotated, zero, one, two, three, x, y, z, p, q, a, int, bool}

-- ---- the script that the examples go on from

abbrev command_or : Result Command Error → List Command
command_or (Ok c) = c ∷ []
command_or (Err e) = []

-- the commands that these s-expressions are
abbrev commands : List Sexp → List Command
commands [] = []
commands (x ∷ xs) = command_or (command x) ++ commands xs

-- (declare-sort S 0) (declare-const x Int) (declare-const y Int) (declare-const p Bool) (declare-const q Bool) (declare-const a S) (declare-fun f (Int) Int)
-- (define-fun d ((x Int)) Int (+ x 1)) (define-fun square ((x Int)) Int (* x x))
abbrev script : List Sexp
script =
    call (codes "declare-sort") (symbol (codes "S") ∷ zero ∷ [])
    ∷ call (codes "declare-const") (x ∷ int ∷ []) ∷ call (codes "declare-const") (y ∷ int ∷ [])
    ∷ call (codes "declare-const") (p ∷ bool ∷ []) ∷ call (codes "declare-const") (q ∷ bool ∷ [])
    ∷ call (codes "declare-const") (a ∷ symbol (codes "S") ∷ [])
    ∷ call (codes "declare-fun") (symbol (codes "f") ∷ list (int ∷ []) ∷ int ∷ [])
    ∷ call (codes "define-fun") (symbol (codes "d") ∷ list (list (x ∷ int ∷ []) ∷ []) ∷ int ∷ call (codes "+") (x ∷ one ∷ []) ∷ [])
    ∷ call (codes "define-fun") (symbol (codes "square") ∷ list (list (x ∷ int ∷ []) ∷ []) ∷ int ∷ call (codes "*") (x ∷ x ∷ []) ∷ [])
    ∷ []

abbrev declared : List ℕ → ℕ → List Sort → Sort → Declaration
declared n id ss s = record { id = id; name = n; rank = record { arguments = ss; result = s }; body = None; is_sort = false; is_name = false }

abbrev place : Tree
place = node (Place 0) none

abbrev number : ℕ → Tree
number n = node (Number (pos n)) none

abbrev plus : Tree → Tree → Tree
plus t u = node (Theory Add) (more t (more u none))

abbrev times : Tree → Tree → Tree
times t u = node (Theory Multiply) (more t (more u none))

-- the signature that it leaves
abbrev signature : List Declaration
signature =
    record { id = 0; name = codes "S"; rank = record { arguments = []; result = Free 0 }; body = None; is_sort = true; is_name = false }
    ∷ declared (codes "x") 1 [] Ints ∷ declared (codes "y") 2 [] Ints ∷ declared (codes "p") 3 [] Truths ∷ declared (codes "q") 4 [] Truths
    ∷ declared (codes "a") 5 [] (Free 0) ∷ declared (codes "f") 6 (Ints ∷ []) Ints
    ∷ record { id = 7; name = codes "d"; rank = record { arguments = Ints ∷ []; result = Ints }; body = Some (record { terms = place ∷ number 1 ∷ plus place (number 1) ∷ []; term = plus place (number 1) }); is_sort = false; is_name = false }
    ∷ record { id = 8; name = codes "square"; rank = record { arguments = Ints ∷ []; result = Ints }; body = Some (record { terms = place ∷ times place place ∷ []; term = times place place }); is_sort = false; is_name = false }
    ∷ []

script_declares : signature_of (after_all start (commands script)).frames ≡ signature
unfolding ◌>>=◌ ◌>>◌ return refuse require required the_scope note found declare judge_body judged command
script_declares = refl

abbrev scope : Scope
scope = record { signature = signature; given = 9; trees = [] }

-- ---- sorts and refusals

data Verdict : Type 0 where
  sorted : Sort → Verdict
  denied : Refusal → Verdict

abbrev verdict : Outcome Typed → Verdict
verdict (done t s) = sorted t.sort
verdict (refused r) = denied r

abbrev asserted : List Sexp → List Verdict
asserted ss = map (λ s. verdict (judge in_assert [] s scope)) ss

-- 170141183460469231731687303715884105727, and the number after it
abbrev greatest : Sexp
greatest = numeral (codes "170141183460469231731687303715884105727")

abbrev past : Sexp
past = numeral (codes "170141183460469231731687303715884105728")

tokens : asserted (symbol (codes "true") ∷ symbol (codes "false") ∷ greatest ∷ past ∷ word (Decimal (codes "1.5")) ∷ word (Hex (codes "#x1F")) ∷ word (Binary (codes "#b01"))
    ∷ text (codes "ab") ∷ text (34 ∷ []) ∷ keyword (codes "k") ∷ word (Reserved Let) ∷ word (Reserved Par) ∷ x ∷ a ∷ symbol (codes "nope") ∷ symbol (codes "f") ∷ symbol (codes "not") ∷ symbol (codes "div") ∷ [])
    ≡ sorted Truths ∷ sorted Truths ∷ sorted Ints ∷ denied NumeralTooLarge ∷ denied (UnknownSymbol (Decimal (codes "1.5"))) ∷ denied (UnknownSymbol (Hex (codes "#x1F"))) ∷ denied (UnknownSymbol (Binary (codes "#b01")))
    ∷ denied (UnknownSymbol (Text (codes "ab"))) ∷ denied (UnknownSymbol (Text (34 ∷ []))) ∷ denied WrongArguments ∷ denied WrongArguments ∷ denied WrongArguments ∷ sorted Ints ∷ sorted (Free 0)
    ∷ denied (UnknownSymbol (Name (codes "nope"))) ∷ denied (ArgumentCount (codes "f")) ∷ denied (ArgumentCount (codes "not")) ∷ denied (ArgumentCount (codes "div")) ∷ []
unfolding ◌>>=◌ ◌>>◌ return refuse require required the_scope note found declare
tokens = refl

-- `1.5` and `|1.5|`, `(forall 1)` and `(|forall| 1)`, `"a"` and `|"a"|`: tokens whose bytes are alike are told apart
apart : asserted (word (Decimal (codes "1.5")) ∷ symbol (codes "1.5") ∷ list (word (Reserved Forall) ∷ one ∷ []) ∷ call (codes "forall") (one ∷ []) ∷ text (codes "a") ∷ symbol (34 ∷ 97 ∷ 34 ∷ []) ∷ [])
    ≡ denied (UnknownSymbol (Decimal (codes "1.5"))) ∷ denied (UnknownSymbol (Name (codes "1.5"))) ∷ denied (UnknownSymbol (Reserved Forall)) ∷ denied (UnknownSymbol (Name (codes "forall")))
    ∷ denied (UnknownSymbol (Text (codes "a"))) ∷ denied (UnknownSymbol (Name (34 ∷ 97 ∷ 34 ∷ []))) ∷ []
unfolding ◌>>=◌ ◌>>◌ return refuse require required the_scope note found declare
apart = refl

-- (), (1 2), ((f x) x), and the heads that are left out
lists : asserted (list [] ∷ list (one ∷ two ∷ []) ∷ list (call (codes "f") (x ∷ []) ∷ x ∷ []) ∷ list (word (Reserved Exists) ∷ x ∷ []) ∷ list (word (Reserved Forall) ∷ []) ∷ list (word (Reserved Match) ∷ [])
    ∷ list (word (Reserved As) ∷ []) ∷ list (word (Reserved Par) ∷ []) ∷ list (word (Reserved Underscore) ∷ symbol (codes "bv1") ∷ []) ∷ [])
    ≡ denied WrongArguments ∷ denied WrongArguments ∷ denied WrongArguments ∷ denied (UnknownSymbol (Reserved Exists)) ∷ denied (UnknownSymbol (Reserved Forall)) ∷ denied (UnknownSymbol (Reserved Match))
    ∷ denied (UnknownSymbol (Reserved As)) ∷ denied (UnknownSymbol (Reserved Par)) ∷ denied (UnknownSymbol (Reserved Underscore)) ∷ []
unfolding ◌>>=◌ ◌>>◌ return refuse require required the_scope note found declare
lists = refl

-- the rows of the table of heads, with the least number of arguments
rows : asserted (call (codes "not") (p ∷ []) ∷ call (codes "and") (p ∷ []) ∷ call (codes "or") (p ∷ []) ∷ call (codes "xor") (p ∷ q ∷ []) ∷ call (codes "=>") (p ∷ q ∷ p ∷ [])
    ∷ call (codes "=") (a ∷ a ∷ a ∷ []) ∷ call (codes "distinct") (x ∷ y ∷ []) ∷ call (codes "ite") (p ∷ x ∷ y ∷ []) ∷ call (codes "ite") (p ∷ a ∷ a ∷ []) ∷ call (codes "+") (x ∷ []) ∷ call (codes "*") (x ∷ []) ∷ call (codes "-") (x ∷ [])
    ∷ call (codes "<=") (x ∷ y ∷ []) ∷ call (codes "<") (x ∷ y ∷ x ∷ []) ∷ call (codes ">=") (x ∷ y ∷ []) ∷ call (codes ">") (x ∷ y ∷ []) ∷ call (codes "f") (x ∷ []) ∷ call (codes "d") (x ∷ []) ∷ [])
    ≡ sorted Truths ∷ sorted Truths ∷ sorted Truths ∷ sorted Truths ∷ sorted Truths ∷ sorted Truths ∷ sorted Truths ∷ sorted Ints ∷ sorted (Free 0) ∷ sorted Ints ∷ sorted Ints ∷ sorted Ints
    ∷ sorted Truths ∷ sorted Truths ∷ sorted Truths ∷ sorted Truths ∷ sorted Ints ∷ sorted Ints ∷ []
unfolding ◌>>=◌ ◌>>◌ return refuse require required the_scope note found declare
rows = refl

-- one argument too few or too many
counts : asserted (call (codes "true") [] ∷ call (codes "not") (p ∷ p ∷ []) ∷ call (codes "not") [] ∷ call (codes "and") [] ∷ call (codes "or") [] ∷ call (codes "xor") (p ∷ []) ∷ call (codes "=>") (p ∷ [])
    ∷ call (codes "=") (x ∷ []) ∷ call (codes "distinct") (x ∷ []) ∷ call (codes "ite") (p ∷ x ∷ []) ∷ call (codes "ite") (p ∷ x ∷ x ∷ x ∷ []) ∷ call (codes "+") [] ∷ call (codes "*") [] ∷ call (codes "-") []
    ∷ call (codes "<=") (x ∷ []) ∷ call (codes "<") (x ∷ []) ∷ call (codes ">=") (x ∷ []) ∷ call (codes ">") (x ∷ []) ∷ call (codes "f") (x ∷ x ∷ []) ∷ call (codes "f") [] ∷ call (codes "x") [] ∷ call (codes "x") (x ∷ []) ∷ [])
    ≡ map (λ n. denied (ArgumentCount n)) (codes "true" ∷ codes "not" ∷ codes "not" ∷ codes "and" ∷ codes "or" ∷ codes "xor" ∷ codes "=>" ∷ codes "=" ∷ codes "distinct" ∷ codes "ite" ∷ codes "ite" ∷ codes "+" ∷ codes "*" ∷ codes "-"
    ∷ codes "<=" ∷ codes "<" ∷ codes ">=" ∷ codes ">" ∷ codes "f" ∷ codes "f" ∷ codes "x" ∷ codes "x" ∷ [])
unfolding ◌>>=◌ ◌>>◌ return refuse require required the_scope note found declare
counts = refl

-- an argument of another sort
sorts : asserted (call (codes "not") (x ∷ []) ∷ call (codes "and") (p ∷ x ∷ []) ∷ call (codes "or") (x ∷ []) ∷ call (codes "xor") (p ∷ a ∷ []) ∷ call (codes "=>") (x ∷ p ∷ []) ∷ call (codes "=") (x ∷ p ∷ []) ∷ call (codes "distinct") (a ∷ a ∷ x ∷ [])
    ∷ call (codes "ite") (x ∷ x ∷ x ∷ []) ∷ call (codes "ite") (p ∷ x ∷ p ∷ []) ∷ call (codes "+") (x ∷ p ∷ []) ∷ call (codes "*") (x ∷ p ∷ []) ∷ call (codes "-") (p ∷ []) ∷ call (codes "<=") (x ∷ p ∷ []) ∷ call (codes "<") (p ∷ x ∷ [])
    ∷ call (codes ">=") (x ∷ a ∷ []) ∷ call (codes ">") (a ∷ a ∷ []) ∷ call (codes "f") (p ∷ []) ∷ call (codes "d") (a ∷ []) ∷ [])
    ≡ map (λ n. denied (SortsDiffer n)) (codes "not" ∷ codes "and" ∷ codes "or" ∷ codes "xor" ∷ codes "=>" ∷ codes "=" ∷ codes "distinct" ∷ codes "ite" ∷ codes "ite" ∷ codes "+" ∷ codes "*" ∷ codes "-" ∷ codes "<=" ∷ codes "<"
    ∷ codes ">=" ∷ codes ">" ∷ codes "f" ∷ codes "d" ∷ [])
unfolding ◌>>=◌ ◌>>◌ return refuse require required the_scope note found declare
sorts = refl

-- the head before the arguments, the arguments from the left before their number, the sorts before linearity; and products
orders : asserted (call (codes "nope") (list [] ∷ []) ∷ call (codes "f") (symbol (codes "u") ∷ list [] ∷ []) ∷ call (codes "*") (x ∷ y ∷ p ∷ []) ∷ call (codes "*") (x ∷ y ∷ []) ∷ call (codes "*") (two ∷ call (codes "+") (one ∷ three ∷ []) ∷ x ∷ [])
    ∷ call (codes "*") (call (codes "f") (one ∷ []) ∷ x ∷ []) ∷ call (codes "square") (x ∷ []) ∷ call (codes "square") (call (codes "-") (three ∷ []) ∷ []) ∷ call (codes "d") (call (codes "*") (x ∷ x ∷ []) ∷ []) ∷ [])
    ≡ denied (UnknownSymbol (Name (codes "nope"))) ∷ denied (UnknownSymbol (Name (codes "u"))) ∷ denied (SortsDiffer (codes "*")) ∷ denied NotLinear ∷ sorted Ints
    ∷ denied NotLinear ∷ denied NotLinear ∷ sorted Ints ∷ denied NotLinear ∷ []
unfolding ◌>>=◌ ◌>>◌ return refuse require required the_scope note found declare
orders = refl

-- ---- `let`

lets : asserted (letting [] x ∷ letting (list (x ∷ []) ∷ []) x ∷ letting (list (one ∷ x ∷ []) ∷ []) x ∷ list (word (Reserved Let) ∷ list (binding (codes "z") one ∷ []) ∷ x ∷ x ∷ []) ∷ list (word (Reserved Let) ∷ x ∷ x ∷ [])
    ∷ letting (binding (codes "z") one ∷ binding (codes "z") (symbol (codes "nope")) ∷ []) x ∷ letting (binding (codes "z") one ∷ binding (codes "u") z ∷ []) x ∷ letting (binding (codes "z") p ∷ []) z ∷ letting (binding (codes "z") one ∷ []) (call (codes "z") (one ∷ []))
    ∷ letting (binding (codes "+") p ∷ []) (symbol (codes "+")) ∷ letting (binding (codes "f") x ∷ []) (call (codes "f") (x ∷ [])) ∷ letting (binding (codes "z") x ∷ []) (call (codes "*") (z ∷ z ∷ [])) ∷ letting (binding (codes "z") two ∷ []) (call (codes "*") (z ∷ x ∷ [])) ∷ [])
    ≡ denied WrongArguments ∷ denied WrongArguments ∷ denied WrongArguments ∷ denied WrongArguments ∷ denied WrongArguments
    ∷ denied (AlreadyDeclared (codes "z")) ∷ denied (UnknownSymbol (Name (codes "z"))) ∷ sorted Truths ∷ denied (ArgumentCount (codes "z"))
    ∷ sorted Truths ∷ denied (ArgumentCount (codes "f")) ∷ denied NotLinear ∷ sorted Ints ∷ []
unfolding ◌>>=◌ ◌>>◌ return refuse require required the_scope note found declare
lets = refl

-- of names that stand twice, the first that stood before
twice : asserted (letting (binding (codes "x") one ∷ binding (codes "y") one ∷ binding (codes "y") one ∷ binding (codes "x") one ∷ []) x ∷ letting (binding (codes "x") one ∷ binding (codes "y") one ∷ binding (codes "x") one ∷ binding (codes "y") one ∷ []) x ∷ [])
    ≡ denied (AlreadyDeclared (codes "y")) ∷ denied (AlreadyDeclared (codes "x")) ∷ []
unfolding ◌>>=◌ ◌>>◌ return refuse require required the_scope note found declare
twice = refl

-- ---- `!`

abbrev named : Sexp → Sexp → Sexp
named s n = annotated s (keyword (codes "named") ∷ n ∷ [])

abbrev n : Sexp
n = symbol (codes "n")

annotations : asserted (list (word (Reserved Exclamation) ∷ []) ∷ annotated x [] ∷ annotated x (x ∷ []) ∷ annotated x (keyword (codes "k") ∷ one ∷ one ∷ []) ∷ annotated x (keyword (codes "k") ∷ one ∷ keyword (codes "m") ∷ []) ∷ annotated (symbol (codes "nope")) (keyword (codes "named") ∷ [])
    ∷ annotated x (keyword (codes "named") ∷ []) ∷ named x one ∷ named x (symbol (codes "+")) ∷ named x (symbol (codes "div")) ∷ named x p ∷ named x n
    ∷ letting (binding (codes "z") one ∷ []) (named z n) ∷ letting (binding (codes "z") one ∷ []) (named (letting (binding (codes "z") two ∷ []) z) n) ∷ letting (binding (codes "z") one ∷ []) (named (letting (binding (codes "z") z ∷ []) z) n)
    ∷ call (codes "and") (named p n ∷ n ∷ []) ∷ call (codes "and") (n ∷ named p n ∷ []) ∷ call (codes "and") (named p n ∷ named q n ∷ []) ∷ annotated p (keyword (codes "named") ∷ n ∷ keyword (codes "named") ∷ symbol (codes "m") ∷ []) ∷ [])
    ≡ denied WrongArguments ∷ denied WrongArguments ∷ denied WrongArguments ∷ denied WrongArguments ∷ sorted Ints ∷ denied (UnknownSymbol (Name (codes "nope")))
    ∷ denied WrongArguments ∷ denied WrongArguments ∷ denied (ReservedName (codes "+")) ∷ denied (ReservedName (codes "div")) ∷ denied (AlreadyDeclared (codes "p")) ∷ sorted Ints
    ∷ denied WrongArguments ∷ sorted Ints ∷ denied WrongArguments
    ∷ sorted Truths ∷ denied (UnknownSymbol (Name (codes "n"))) ∷ denied (AlreadyDeclared (codes "n")) ∷ sorted Truths ∷ []
unfolding ◌>>=◌ ◌>>◌ return refuse require required the_scope note found declare
annotations = refl

-- a name outside `assert`, and a name with no id left
no_name : map verdict (judge in_question [] (named x n) scope ∷ judge in_assert [] (named x n) (record scope { given = 4294967295 }) ∷ judge in_assert [] (named x n) (record scope { given = 4294967294 }) ∷ [])
    ≡ denied WrongArguments ∷ denied TooManySymbols ∷ sorted Ints ∷ []
unfolding ◌>>=◌ ◌>>◌ return refuse require required the_scope note found declare
no_name = refl

-- ---- trees

abbrev trees : Outcome Typed → List Tree
trees (done t s) = s.trees
trees (refused r) = []

-- the trees of (let ((x 1) (y x)) (= x y)): each after its parts
let_trees : trees (judge in_assert [] (letting (binding (codes "x") one ∷ binding (codes "y") x ∷ []) (call (codes "=") (x ∷ y ∷ []))) scope)
    ≡ number 1 ∷ node (Function 1) none ∷ node (Theory Equal) (more (number 1) (more (node (Function 1) none) none)) ∷ []
unfolding ◌>>=◌ ◌>>◌ return refuse require required the_scope note found declare
let_trees = refl

-- the trees of (+ (d 2) (d 2)): the definition's body with 2 put in, once
definition_trees : trees (judge in_assert [] (call (codes "+") (call (codes "d") (two ∷ []) ∷ call (codes "d") (two ∷ []) ∷ [])) scope)
    ≡ number 2 ∷ number 1 ∷ plus (number 2) (number 1) ∷ plus (plus (number 2) (number 1)) (plus (number 2) (number 1)) ∷ []
unfolding ◌>>=◌ ◌>>◌ return refuse require required the_scope note found declare
definition_trees = refl

-- ---- values, where x is 7, y is -3, p is true, q is false and f squares

abbrev square_of : List Value → Value
square_of (v ∷ []) = Whole (number_of v *ℤ number_of v)
square_of vs = Whole (pos 0)

abbrev example : Interpretation
example f vs =
    if nat_eq f 1 then Whole (pos 7)
    else if nat_eq f 2 then Whole (negsuc 2)
    else if nat_eq f 3 then Truth true
    else if nat_eq f 4 then Truth false
    else if nat_eq f 6 then square_of vs
    else Element 0

abbrev valued : List Sexp → List Value
valued ss = map (term_value signature example []) ss

abbrev truths : List Bool → List Value
truths bs = map Truth bs

connectives : valued (call (codes "not") (p ∷ []) ∷ call (codes "and") (p ∷ []) ∷ call (codes "and") (p ∷ q ∷ p ∷ []) ∷ call (codes "or") (q ∷ []) ∷ call (codes "or") (q ∷ p ∷ []) ∷ call (codes "xor") (p ∷ p ∷ p ∷ [])
    ∷ call (codes "=>") (p ∷ p ∷ q ∷ []) ∷ call (codes "=>") (q ∷ p ∷ q ∷ []) ∷ [])
    ≡ truths (false ∷ true ∷ false ∷ false ∷ true ∷ true ∷ false ∷ true ∷ [])
connectives = refl

comparisons : valued (call (codes "=") (one ∷ one ∷ two ∷ []) ∷ call (codes "=") (x ∷ numeral (codes "7") ∷ numeral (codes "7") ∷ []) ∷ call (codes "=") (p ∷ q ∷ []) ∷ call (codes "distinct") (one ∷ two ∷ one ∷ []) ∷ call (codes "distinct") (one ∷ two ∷ three ∷ [])
    ∷ call (codes "<=") (one ∷ two ∷ two ∷ []) ∷ call (codes "<") (one ∷ two ∷ two ∷ []) ∷ call (codes ">=") (three ∷ three ∷ two ∷ []) ∷ call (codes ">") (three ∷ two ∷ two ∷ []) ∷ [])
    ≡ truths (false ∷ true ∷ false ∷ false ∷ true ∷ true ∷ false ∷ true ∷ false ∷ [])
comparisons = refl

numbers : valued (call (codes "ite") (p ∷ one ∷ two ∷ []) ∷ call (codes "ite") (q ∷ x ∷ y ∷ []) ∷ call (codes "+") (x ∷ []) ∷ call (codes "+") (x ∷ y ∷ numeral (codes "10") ∷ []) ∷ call (codes "-") (x ∷ []) ∷ call (codes "-") (numeral (codes "5") ∷ two ∷ one ∷ [])
    ∷ call (codes "*") (two ∷ x ∷ []) ∷ call (codes "*") (x ∷ []) ∷ call (codes "*") (two ∷ three ∷ y ∷ []) ∷ call (codes "f") (x ∷ []) ∷ call (codes "f") (call (codes "f") (two ∷ []) ∷ []) ∷ [])
    ≡ map Whole (pos 1 ∷ negsuc 2 ∷ pos 7 ∷ pos 14 ∷ negsuc 6 ∷ pos 2 ∷ pos 14 ∷ pos 7 ∷ negsuc 17 ∷ pos 49 ∷ pos 16 ∷ [])
numbers = refl

-- bindings in parallel, an inner one hides an outer one and a function, attributes are read over, and a parameter is its argument
bound : valued (letting (binding (codes "x") one ∷ binding (codes "y") x ∷ []) (call (codes "=") (x ∷ y ∷ [])) ∷ letting (binding (codes "x") one ∷ []) (letting (binding (codes "x") two ∷ []) x) ∷ letting (binding (codes "p") q ∷ []) p
    ∷ letting (binding (codes "+") one ∷ []) (symbol (codes "+")) ∷ letting (binding (codes "y") x ∷ []) (letting (binding (codes "x") y ∷ []) (call (codes "-") (x ∷ y ∷ []))) ∷ annotated (call (codes "+") (x ∷ one ∷ [])) (keyword (codes "weight") ∷ three ∷ [])
    ∷ call (codes "d") (numeral (codes "4") ∷ []) ∷ letting (binding (codes "x") (numeral (codes "100")) ∷ []) (call (codes "d") (x ∷ [])) ∷ [])
    ≡ Truth false ∷ Whole (pos 2) ∷ Truth false ∷ Whole (pos 1) ∷ Whole (pos 0) ∷ Whole (pos 8) ∷ Whole (pos 5) ∷ Whole (pos 101) ∷ []
bound = refl

-- ---- whether values fit

-- x is 2^127 - 1
abbrev largest : Interpretation
largest f vs = Whole (pos 170141183460469231731687303715884105727)

abbrev x_tree : Tree
x_tree = node (Function 1) none

-- x and (- x) fit; (+ x 1) doesn't, nor does (- (+ x 1) 1), nor an `ite` that doesn't take it, nor (+ x 1 (- 1)), whose first partial sum is past the range
range : map (fits largest) (x_tree ∷ node (Theory Subtract) (more x_tree none) ∷ plus x_tree (number 1) ∷ node (Theory Subtract) (more (plus x_tree (number 1)) (more (number 1) none))
    ∷ node (Theory Ite) (more (node (Theory True) none) (more (number 1) (more (plus x_tree (number 1)) none))) ∷ node (Theory Add) (more x_tree (more (number 1) (more (node (Number (negsuc 0)) none) none)))
    ∷ node (Theory Add) (more (number 1) (more (node (Number (negsuc 0)) none) (more x_tree none))) ∷ [])
    ≡ true ∷ true ∷ false ∷ false ∷ false ∷ false ∷ true ∷ []
range = refl

-- ---- commands

-- what a command is answered on the stack that the script leaves
data Answer : Type 0 where
  taken : Answer
  denies : Refusal → Answer
  not_of_the_stack : Answer
  no_command : Answer

abbrev answer_of : Outcome Change → Answer
answer_of (done c s) = taken
answer_of (refused r) = denies r

abbrev after_script : Stack
after_script = record { frames = record { declared = signature; asserted = [] } ∷ []; given = 9; trees = []; global = false }

abbrev answered : Option (ℕ → Judging Change) → Answer
answered None = not_of_the_stack
answered (Some c) = answer_of (judged c after_script)

abbrev read_and_answered : Result Command Error → Answer
read_and_answered (Ok c) = answered (stack_command c)
read_and_answered (Err (Refused n r)) = denies r
read_and_answered (Err e) = no_command

abbrev answers : List Sexp → List Answer
answers ss = map (λ s. read_and_answered (command s)) ss

abbrev sort_s : Sexp
sort_s = symbol (codes "S")

declarations : answers (call (codes "declare-const") (x ∷ bool ∷ []) ∷ call (codes "declare-const") (symbol (codes "+") ∷ int ∷ []) ∷ call (codes "declare-const") (z ∷ symbol (codes "T") ∷ []) ∷ call (codes "declare-const") (z ∷ list (symbol (codes "Array") ∷ int ∷ int ∷ []) ∷ [])
    ∷ call (codes "declare-const") (z ∷ one ∷ []) ∷ call (codes "declare-const") (z ∷ []) ∷ call (codes "declare-const") (sort_s ∷ int ∷ []) ∷ call (codes "declare-fun") (z ∷ list (int ∷ symbol (codes "T") ∷ []) ∷ symbol (codes "U") ∷ []) ∷ call (codes "declare-fun") (z ∷ list [] ∷ sort_s ∷ [])
    ∷ call (codes "declare-sort") (sort_s ∷ zero ∷ []) ∷ call (codes "declare-sort") (bool ∷ zero ∷ []) ∷ call (codes "declare-sort") (x ∷ zero ∷ []) ∷ call (codes "declare-sort") (z ∷ past ∷ []) ∷ call (codes "declare-sort") (z ∷ one ∷ [])
    ∷ call (codes "define-sort") (z ∷ list [] ∷ int ∷ []) ∷ call (codes "define-sort") (int ∷ list [] ∷ int ∷ []) ∷ call (codes "define-sort") (sort_s ∷ list [] ∷ z ∷ []) ∷ call (codes "define-sort") (z ∷ list [] ∷ z ∷ []) ∷ [])
    ≡ denies (AlreadyDeclared (codes "x")) ∷ denies (ReservedName (codes "+")) ∷ denies (UnknownSymbol (Name (codes "T"))) ∷ denies (UnknownSymbol (Name (codes "Array")))
    ∷ denies WrongArguments ∷ denies WrongArguments ∷ taken ∷ denies (UnknownSymbol (Name (codes "T"))) ∷ taken
    ∷ denies (AlreadyDeclared (codes "S")) ∷ denies (ReservedName (codes "Bool")) ∷ taken ∷ denies NumeralTooLarge ∷ taken
    ∷ taken ∷ denies (ReservedName (codes "Int")) ∷ denies (AlreadyDeclared (codes "S")) ∷ denies (UnknownSymbol (Name (codes "z"))) ∷ []
unfolding ◌>>=◌ ◌>>◌ return refuse require required the_scope note found declare judge_body judged command
declarations = refl

abbrev defining : Sexp → List Sexp → Sexp → Sexp → Sexp
defining n ps s t = call (codes "define-fun") (n ∷ list ps ∷ s ∷ t ∷ [])

abbrev parameter : Sexp → Sexp → Sexp
parameter n s = list (n ∷ s ∷ [])

definitions : answers (defining x [] (symbol (codes "T")) one ∷ defining (symbol (codes "and")) [] int one ∷ defining z (parameter x int ∷ parameter x (symbol (codes "T")) ∷ []) int x ∷ defining z (parameter x (symbol (codes "T")) ∷ []) (symbol (codes "U")) (symbol (codes "nope")) ∷ defining z [] (symbol (codes "U")) (symbol (codes "nope"))
    ∷ defining z [] int (symbol (codes "nope")) ∷ defining z [] int p ∷ defining z (parameter y bool ∷ []) bool y ∷ defining z (parameter y int ∷ []) int (call (codes "*") (y ∷ y ∷ [])) ∷ defining z [] int (named x n) ∷ defining z [] int z ∷ defining z (x ∷ []) int one ∷ defining z [] one one ∷ [])
    ≡ denies (AlreadyDeclared (codes "x")) ∷ denies (ReservedName (codes "and")) ∷ denies (AlreadyDeclared (codes "x")) ∷ denies (UnknownSymbol (Name (codes "T"))) ∷ denies (UnknownSymbol (Name (codes "U")))
    ∷ denies (UnknownSymbol (Name (codes "nope"))) ∷ denies (SortsDiffer (codes "z")) ∷ taken ∷ taken ∷ denies WrongArguments ∷ denies (UnknownSymbol (Name (codes "z"))) ∷ denies WrongArguments ∷ denies WrongArguments ∷ []
unfolding ◌>>=◌ ◌>>◌ return refuse require required the_scope note found declare judge_body judged command
definitions = refl

-- of parameters that stand twice, the first that stood before
parameters_twice : answers (defining z (parameter x int ∷ parameter y int ∷ parameter y int ∷ parameter x int ∷ []) int x ∷ defining z (parameter x int ∷ parameter y int ∷ parameter x int ∷ parameter y int ∷ []) int x ∷ [])
    ≡ denies (AlreadyDeclared (codes "y")) ∷ denies (AlreadyDeclared (codes "x")) ∷ []
unfolding ◌>>=◌ ◌>>◌ return refuse require required the_scope note found declare judge_body judged command
parameters_twice = refl

stack_moves : answers (call (codes "assert") (p ∷ []) ∷ call (codes "assert") (x ∷ []) ∷ call (codes "assert") [] ∷ call (codes "assert") (p ∷ p ∷ []) ∷ call (codes "push") [] ∷ call (codes "push") (numeral (codes "65535") ∷ []) ∷ call (codes "push") (numeral (codes "65536") ∷ []) ∷ call (codes "push") (past ∷ []) ∷ call (codes "push") (x ∷ [])
    ∷ call (codes "pop") (zero ∷ []) ∷ call (codes "pop") [] ∷ call (codes "pop") (past ∷ []) ∷ call (codes "reset") (one ∷ []) ∷ call (codes "reset-assertions") [] ∷ call (codes "check-sat") [] ∷ x ∷ [])
    ≡ taken ∷ denies NotBool ∷ denies WrongArguments ∷ denies WrongArguments ∷ taken ∷ taken ∷ denies TooManyLevels ∷ denies NumeralTooLarge ∷ denies WrongArguments
    ∷ taken ∷ denies PopPastLevelZero ∷ denies NumeralTooLarge ∷ denies WrongArguments ∷ taken ∷ not_of_the_stack ∷ no_command ∷ []
unfolding ◌>>=◌ ◌>>◌ return refuse require required the_scope note found declare judge_body judged command
stack_moves = refl

-- how many declarations and assertions, levels above 0 and ids given there are
abbrev counted : Stack → List ℕ
counted s = length (signature_of s.frames) ∷ length (assertions_of s.frames) ∷ depth s.frames ∷ s.given ∷ []

abbrev assert_named : Sexp
assert_named = call (codes "assert") (named p n ∷ [])

-- a pop takes names and assertions away, ids are not given again before `reset`, and a refused term leaves no name
folded : map counted (after_all after_script (commands (call (codes "push") (two ∷ []) ∷ assert_named ∷ []))
    ∷ after_all after_script (commands (call (codes "push") (two ∷ []) ∷ assert_named ∷ call (codes "pop") [] ∷ assert_named ∷ []))
    ∷ after_all after_script (commands (call (codes "assert") (call (codes "and") (named p n ∷ symbol (codes "nope") ∷ []) ∷ []) ∷ []))
    ∷ after_all after_script (commands (call (codes "push") [] ∷ assert_named ∷ call (codes "reset-assertions") [] ∷ []))
    ∷ after_all after_script (commands (call (codes "push") [] ∷ assert_named ∷ call (codes "reset") [] ∷ [])) ∷ [])
    ≡ (10 ∷ 1 ∷ 2 ∷ 10 ∷ []) ∷ (10 ∷ 1 ∷ 1 ∷ 11 ∷ []) ∷ (9 ∷ 0 ∷ 0 ∷ 9 ∷ []) ∷ (0 ∷ 0 ∷ 0 ∷ 10 ∷ []) ∷ (0 ∷ 0 ∷ 0 ∷ 0 ∷ []) ∷ []
unfolding ◌>>=◌ ◌>>◌ return refuse require required the_scope note found declare judge_body judged command
folded = refl

abbrev globally : Sexp
globally = call (codes "set-option") (keyword (codes "global-declarations") ∷ symbol (codes "true") ∷ [])

abbrev declare_z : Sexp
declare_z = call (codes "declare-const") (z ∷ int ∷ [])

-- where declarations are global, a pop and `reset-assertions` take names alone away, until the option is off or all begins again
folded_globally : map counted (after_all after_script (commands (globally ∷ call (codes "push") [] ∷ declare_z ∷ assert_named ∷ []))
    ∷ after_all after_script (commands (globally ∷ call (codes "push") [] ∷ declare_z ∷ assert_named ∷ call (codes "pop") [] ∷ []))
    ∷ after_all after_script (commands (globally ∷ assert_named ∷ call (codes "push") [] ∷ declare_z ∷ call (codes "reset-assertions") [] ∷ []))
    ∷ after_all after_script (commands (globally ∷ call (codes "reset") [] ∷ call (codes "push") [] ∷ declare_z ∷ call (codes "pop") [] ∷ []))
    ∷ after_all after_script (commands (call (codes "push") [] ∷ declare_z ∷ call (codes "pop") [] ∷ [])) ∷ [])
    ≡ (11 ∷ 1 ∷ 1 ∷ 11 ∷ []) ∷ (10 ∷ 0 ∷ 0 ∷ 11 ∷ []) ∷ (10 ∷ 0 ∷ 0 ∷ 11 ∷ []) ∷ (0 ∷ 0 ∷ 0 ∷ 1 ∷ []) ∷ (9 ∷ 0 ∷ 0 ∷ 10 ∷ []) ∷ []
unfolding ◌>>=◌ ◌>>◌ return refuse require required the_scope note found declare judge_body judged command
folded_globally = refl
