-- The signature: the declared and defined sorts and functions, and the ranks of the theories' functions (SMT-LIB 2.6, sections 3.7 and 5.2; theories Core and Ints).
use Rattle.std.specs.Prelude.{ℕ, Bool, true, false, not, ◌&&◌, nat_eq, nat_le, List, [], ◌∷◌, map, length, if◌then◌else◌, Option, Some, None, bytes_eq, codes, All, ◌≢◌}
use Rattle.smt_meaning.specs.declared.values.Sort.{Sort}
use Rattle.smt_meaning.specs.declared.values.Sort.TheVariants.{Bool as Truths, Int as Ints, Free}
use Rattle.smt_meaning.specs.declared.terms.Operator.{Operator}
use Rattle.smt_meaning.specs.declared.terms.Operator.TheVariants.{True, False, Not, And, Or, Xor, Implies, Equal, Distinct, Ite, Add, Subtract, Multiply, AtMost, Less, AtLeast, Greater, Divide, Modulo, Absolute, Divisible}
use Rattle.smt_meaning.specs.declared.terms.Head.{Head}
use Rattle.smt_meaning.specs.declared.terms.Head.TheVariants.{Numeral, Theory, Symbol, Place}
use Rattle.smt_meaning.specs.Declaration.{Declaration}
use Rattle.smt_meaning.specs.Term.{Tree, Trees, node, none, more}

-- ---- names

abbrev pub look_up : {A : Type 0} → List ℕ → List (List ℕ × A) → Option A
look_up n [] = None
look_up n (p ∷ ps) = if bytes_eq n p.0 then Some p.1 else look_up n ps

abbrev pub is_one_of : List ℕ → List (List ℕ) → Bool
is_one_of n [] = false
is_one_of n (m ∷ ms) = if bytes_eq n m then true else is_one_of n ms

abbrev pub is_some : {A : Type 0} → Option A → Bool
is_some None = false
is_some (Some a) = true

-- ---- declarations and definitions, in the order in which they were made

abbrev pub find_function : List ℕ → List Declaration → Option Declaration
find_function n [] = None
find_function n (d ∷ ds) = if bytes_eq n d.name && not d.is_sort then Some d else find_function n ds

abbrev pub find_sort : List ℕ → List Declaration → Option Declaration
find_sort n [] = None
find_sort n (d ∷ ds) = if bytes_eq n d.name && d.is_sort then Some d else find_sort n ds

-- the function that has this id
abbrev pub function_with_id : ℕ → List Declaration → Option Declaration
function_with_id f [] = None
function_with_id f (d ∷ ds) = if nat_eq f d.id && not d.is_sort then Some d else function_with_id f ds

-- a declared function, which has no body; a definition has one
abbrev pub is_symbol : Declaration → Bool
is_symbol d = not d.is_sort && not (is_some d.body)

-- no id stands twice
abbrev pub HasNoIdTwice : List Declaration → Type 0
HasNoIdTwice [] = Unit {0}
HasNoIdTwice (d ∷ ds) = All (λ (e : Declaration). d.id ≢ e.id) ds × HasNoIdTwice ds

-- ---- the theories' functions

abbrev pub operators : List (List ℕ × Operator)
operators =
    (codes "true", True) ∷ (codes "false", False) ∷ (codes "not", Not) ∷ (codes "and", And) ∷ (codes "or", Or)
    ∷ (codes "xor", Xor) ∷ (codes "=>", Implies) ∷ (codes "=", Equal) ∷ (codes "distinct", Distinct) ∷ (codes "ite", Ite)
    ∷ (codes "+", Add) ∷ (codes "-", Subtract) ∷ (codes "*", Multiply) ∷ (codes "<=", AtMost) ∷ (codes "<", Less)
    ∷ (codes ">=", AtLeast) ∷ (codes ">", Greater) ∷ (codes "div", Divide) ∷ (codes "mod", Modulo) ∷ (codes "abs", Absolute) ∷ []

-- the names that no script may declare
abbrev pub reserved_functions : List (List ℕ)
reserved_functions = map (λ (p : List ℕ × Operator). p.0) operators

abbrev pub reserved_sorts : List (List ℕ)
reserved_sorts = codes "Bool" ∷ codes "Int" ∷ []

-- as the head of a list, an operator takes this many arguments
abbrev pub takes : Operator → ℕ → Bool
takes True n = false
takes False n = false
takes Not n = nat_eq n 1
takes And n = nat_le 1 n
takes Or n = nat_le 1 n
takes Add n = nat_le 1 n
takes Subtract n = nat_le 1 n
takes Multiply n = nat_le 1 n
takes Ite n = nat_eq n 3
takes Modulo n = nat_eq n 2
takes Absolute n = nat_eq n 1
takes Divisible n = nat_eq n 2
takes _ n = nat_le 2 n

abbrev pub sort_eq : Sort → Sort → Bool
sort_eq Truths Truths = true
sort_eq Ints Ints = true
sort_eq (Free a) (Free b) = nat_eq a b
sort_eq _ _ = false

abbrev pub sorts_eq : List Sort → List Sort → Bool
sorts_eq [] [] = true
sorts_eq (a ∷ rs) (b ∷ ss) = sort_eq a b && sorts_eq rs ss
sorts_eq _ _ = false

abbrev pub all_of : Sort → List Sort → Bool
all_of s [] = true
all_of s (a ∷ rs) = sort_eq s a && all_of s rs

abbrev pub all_the_same : List Sort → Bool
all_the_same [] = true
all_the_same (a ∷ rs) = all_of a rs

abbrev pub if_so : Bool → Sort → Option Sort
if_so true s = Some s
if_so false s = None

abbrev pub ite_sort : List Sort → Option Sort
ite_sort (c ∷ s ∷ t ∷ []) = if_so (sort_eq c Truths && sort_eq s t) s
ite_sort _ = None

-- the sort of the result, where the arguments have these sorts
abbrev pub operator_sort : Operator → List Sort → Option Sort
operator_sort True ss = Some Truths
operator_sort False ss = Some Truths
operator_sort Equal ss = if_so (all_the_same ss) Truths
operator_sort Distinct ss = if_so (all_the_same ss) Truths
operator_sort Ite ss = ite_sort ss
operator_sort Add ss = if_so (all_of Ints ss) Ints
operator_sort Subtract ss = if_so (all_of Ints ss) Ints
operator_sort Multiply ss = if_so (all_of Ints ss) Ints
operator_sort AtMost ss = if_so (all_of Ints ss) Truths
operator_sort Less ss = if_so (all_of Ints ss) Truths
operator_sort AtLeast ss = if_so (all_of Ints ss) Truths
operator_sort Greater ss = if_so (all_of Ints ss) Truths
operator_sort Divide ss = if_so (all_of Ints ss) Ints
operator_sort Modulo ss = if_so (all_of Ints ss) Ints
operator_sort Absolute ss = if_so (all_of Ints ss) Ints
operator_sort Divisible ss = if_so (all_of Ints ss) Truths
operator_sort _ ss = if_so (all_of Truths ss) Truths

-- ---- the sort of a tree, in which symbols stand by their ids

abbrev pub symbol_sort : Option Declaration → List Sort → Option Sort
symbol_sort None ss = None
symbol_sort (Some d) ss = if is_symbol d && sorts_eq ss d.rank.arguments then Some d.rank.result else None

-- it stands bare, or has as many arguments as it takes; in a tree a quotient has one divisor, and a remainder and a divisibility have their quotient beside it
abbrev pub stands_with : Operator → ℕ → Bool
stands_with True n = nat_eq n 0
stands_with False n = nat_eq n 0
stands_with Divide n = nat_eq n 2
stands_with Modulo n = nat_eq n 3
stands_with Divisible n = nat_eq n 3
stands_with o n = takes o n

abbrev pub head_sort : List Declaration → Head → List Sort → Option Sort
head_sort ds (Numeral n) [] = Some Ints
head_sort ds (Numeral n) (s ∷ ss) = None
head_sort ds (Theory o) ss = if stands_with o (length ss) then operator_sort o ss else None
head_sort ds (Symbol f) ss = symbol_sort (function_with_id f ds) ss
head_sort ds (Place k) ss = None

abbrev pub cons_sort : Option Sort → Option (List Sort) → Option (List Sort)
cons_sort None r = None
cons_sort (Some s) None = None
cons_sort (Some s) (Some ss) = Some (s ∷ ss)

abbrev pub with_sorts : List Declaration → Head → Option (List Sort) → Option Sort
with_sorts ds h None = None
with_sorts ds h (Some ss) = head_sort ds h ss

abbrev mutual
  pub tree_sort : List Declaration → Tree → Option Sort
  tree_sort ds (node h us) = with_sorts ds h (tree_sorts ds us)

  pub tree_sorts : List Declaration → Trees → Option (List Sort)
  tree_sorts ds none = Some []
  tree_sorts ds (more u us) = cons_sort (tree_sort ds u) (tree_sorts ds us)

abbrev pub is_int : Option Sort → Bool
is_int (Some Ints) = true
is_int _ = false

abbrev pub is_bool : Option Sort → Bool
is_bool (Some Truths) = true
is_bool _ = false
