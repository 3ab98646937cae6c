-- What can be said of a tree without its value: whether it is another, whether it is linear, what it is with arguments put in, and which trees stand in it.
use Rattle.std.specs.Prelude.{ℕ, zero, suc, Bool, true, false, not, ◌&&◌, ◌||◌, nat_eq, List, [], ◌∷◌, ◌++◌, pos, if◌then◌else◌}
use Rattle.smt_meaning.specs.declared.terms.Operator.{Operator}
use Rattle.smt_meaning.specs.declared.terms.Operator.TheVariants.{True, False, Not, And, Or, Xor, Implies, Equal, Distinct, Ite, Add, Subtract, Multiply, AtMost, Less, AtLeast, Greater, Divide, Modulo, Absolute, Divisible}
use Rattle.smt_meaning.specs.declared.terms.Head.{Head}
use Rattle.smt_meaning.specs.declared.terms.Head.TheVariants.{Numeral, Theory, Symbol, Place}
use Rattle.smt_meaning.specs.Term.{Tree, Trees, node, none, more, int_eq}

-- ---- equality

abbrev pub operator_number : Operator → ℕ
operator_number True = 0
operator_number False = 1
operator_number Not = 2
operator_number And = 3
operator_number Or = 4
operator_number Xor = 5
operator_number Implies = 6
operator_number Equal = 7
operator_number Distinct = 8
operator_number Ite = 9
operator_number Add = 10
operator_number Subtract = 11
operator_number Multiply = 12
operator_number AtMost = 13
operator_number Less = 14
operator_number AtLeast = 15
operator_number Greater = 16
operator_number Divide = 17
operator_number Modulo = 18
operator_number Absolute = 19
operator_number Divisible = 20

abbrev pub head_eq : Head → Head → Bool
head_eq (Numeral m) (Numeral n) = int_eq m n
head_eq (Theory o) (Theory p) = nat_eq (operator_number o) (operator_number p)
head_eq (Symbol f) (Symbol g) = nat_eq f g
head_eq (Place j) (Place k) = nat_eq j k
head_eq _ _ = false

abbrev mutual
  pub tree_eq : Tree → Tree → Bool
  tree_eq (node h ts) (node k us) = head_eq h k && trees_eq ts us

  pub trees_eq : Trees → Trees → Bool
  trees_eq none none = true
  trees_eq (more t ts) (more u us) = tree_eq t u && trees_eq ts us
  trees_eq none (more u us) = false
  trees_eq (more t ts) none = false

-- ---- linear terms

abbrev pub is_arithmetic : Operator → Bool
is_arithmetic Add = true
is_arithmetic Subtract = true
is_arithmetic Multiply = true
is_arithmetic _ = false

abbrev pub is_constant_head : Head → Bool
is_constant_head (Numeral n) = true
is_constant_head (Theory o) = is_arithmetic o
is_constant_head _ = false

abbrev mutual
  -- built from numerals, + - * alone
  pub is_constant : Tree → Bool
  is_constant (node h ts) = is_constant_head h && are_constant ts

  pub are_constant : Trees → Bool
  are_constant none = true
  are_constant (more t ts) = is_constant t && are_constant ts

-- at most one of these isn't constant
abbrev pub at_most_one_varies : Trees → Bool
at_most_one_varies none = true
at_most_one_varies (more t ts) = if is_constant t then at_most_one_varies ts else are_constant ts

-- a numeral other than 0, or the negation of one
abbrev pub is_divisor : Tree → Bool
is_divisor (node (Numeral n) none) = not (int_eq n (pos 0))
is_divisor (node (Theory Subtract) (more (node (Numeral n) none) none)) = not (int_eq n (pos 0))
is_divisor t = false

abbrev pub are_divisors : Trees → Bool
are_divisors none = true
are_divisors (more t ts) = is_divisor t && are_divisors ts

-- an operator may be applied to these
abbrev pub is_linear_operation : Operator → Trees → Bool
is_linear_operation Multiply ts = at_most_one_varies ts
is_linear_operation Divide (more t ts) = are_divisors ts
is_linear_operation Modulo (more t ts) = are_divisors ts
is_linear_operation Divisible (more t ts) = are_divisors ts
is_linear_operation o ts = true

-- `div` by one divisor
abbrev pub quotient_tree : Tree → Tree → Tree
quotient_tree t u = node (Theory Divide) (more t (more u none))

abbrev pub divided_from : Tree → Trees → Tree
divided_from t none = t
divided_from t (more u us) = divided_from (quotient_tree t u) us

-- an operator applied: a `div` by several divisors divides from the left, by one after another; a `mod` and a divisibility have their quotient beside them
abbrev pub operation : Operator → Trees → Tree
operation Divide (more t ts) = divided_from t ts
operation Modulo (more t (more u none)) = node (Theory Modulo) (more t (more u (more (quotient_tree t u) none)))
operation Divisible (more t (more u none)) = node (Theory Divisible) (more t (more u (more (quotient_tree t u) none)))
operation o ts = node (Theory o) ts

abbrev pub is_quotient : Trees → Bool
is_quotient (more t (more u none)) = is_divisor u
is_quotient ts = false

abbrev pub has_quotient : Trees → Bool
has_quotient (more t (more u (more q none))) = is_divisor u && tree_eq q (quotient_tree t u)
has_quotient ts = false

abbrev pub is_linear_at : Head → Trees → Bool
is_linear_at (Theory Multiply) ts = at_most_one_varies ts
is_linear_at (Theory Divide) ts = is_quotient ts
is_linear_at (Theory Modulo) ts = has_quotient ts
is_linear_at (Theory Divisible) ts = has_quotient ts
is_linear_at _ ts = true

abbrev mutual
  -- each product has at most one factor that isn't constant, only numerals other than 0 and their negations divide, and what is left over has its quotient beside it
  pub is_linear : Tree → Bool
  is_linear (node h ts) = is_linear_at h ts && are_linear ts

  pub are_linear : Trees → Bool
  are_linear none = true
  are_linear (more t ts) = is_linear t && are_linear ts

-- ---- arguments put in for the parameters of a definition

abbrev pub argument : Trees → ℕ → Tree
argument none k = node (Theory False) none
argument (more t ts) zero = t
argument (more t ts) (suc k) = argument ts k

abbrev pub put_at : Trees → Head → Trees → Tree
put_at arguments (Place k) ts = argument arguments k
put_at arguments h ts = node h ts

abbrev mutual
  pub put : Trees → Tree → Tree
  put arguments (node h ts) = put_at arguments h (put_all arguments ts)

  pub put_all : Trees → Trees → Trees
  put_all arguments none = none
  put_all arguments (more t ts) = more (put arguments t) (put_all arguments ts)

-- ---- lists of different trees, each after its parts

abbrev pub is_among : Tree → List Tree → Bool
is_among t [] = false
is_among t (u ∷ us) = tree_eq t u || is_among t us

-- the place of a tree in a list, the list's length where it isn't there
abbrev pub place_of : Tree → List Tree → ℕ
place_of t [] = 0
place_of t (u ∷ us) = if tree_eq t u then 0 else suc (place_of t us)

abbrev pub with_tree : List Tree → Tree → List Tree
with_tree ts t = if is_among t ts then ts else ts ++ t ∷ []

abbrev mutual
  -- the list with a tree's parts from the left, and then the tree
  pub with_parts : List Tree → Tree → List Tree
  with_parts ts (node h us) = with_tree (with_all_parts ts us) (node h us)

  pub with_all_parts : List Tree → Trees → List Tree
  with_all_parts ts none = ts
  with_all_parts ts (more u us) = with_all_parts (with_parts ts u) us
