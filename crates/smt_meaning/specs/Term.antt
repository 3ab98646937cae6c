-- Terms as trees, and the value that an interpretation gives them: Tarski's clauses.
use Rattle.std.specs.Prelude.{ℕ, Bool, true, false, not, ◌&&◌, ◌||◌, nat_eq, List, [], ◌∷◌, ℤ, pos, negsuc, ◌+ℤ◌, ◌-ℤ◌, ◌*ℤ◌, neg_ℤ, int_le, int_lt, if◌then◌else◌, slice_index_or}
use Rattle.fraction128.specs.Whole.{is_in_range}
pub use Rattle.fraction128.specs.Division.{absolute, quotient, remainder}
use Rattle.smt_meaning.specs.declared.values.Value.{Value}
use Rattle.smt_meaning.specs.declared.values.Value.TheVariants.{Truth, Whole, Element}
use Rattle.smt_meaning.specs.declared.terms.Operator.{Operator}
use Rattle.smt_meaning.specs.declared.terms.Operator.TheVariants.{True, False, Not, And, Or, Xor, Implies, Equal, Distinct, Ite, Add, Subtract, Multiply, AtMost, Less, AtLeast, Greater, Divide, Modulo, Absolute, Divisible}
use Rattle.smt_meaning.specs.declared.terms.Head.{Head}
use Rattle.smt_meaning.specs.declared.terms.Head.TheVariants.{Numeral, Theory, Symbol, Place}

mutual
  -- a term: its head and its arguments
  pub data Tree : Type 0 where
    node : (head : Head) (args : Trees) → Tree

  pub data Trees : Type 0 where
    none : Trees
    more : (first : Tree) (rest : Trees) → Trees

-- the tree at a place of a list
abbrev pub tree_at : List Tree → ℕ → Tree
tree_at ts i = slice_index_or ts i (node (Theory False) none)

-- ---- values

abbrev pub truth_of : Value → Bool
truth_of (Truth b) = b
truth_of _ = false

abbrev pub number_of : Value → ℤ
number_of (Whole n) = n
number_of _ = pos 0

abbrev pub bool_eq : Bool → Bool → Bool
bool_eq true b = b
bool_eq false b = not b

abbrev pub int_eq : ℤ → ℤ → Bool
int_eq (pos m) (pos n) = nat_eq m n
int_eq (negsuc m) (negsuc n) = nat_eq m n
int_eq _ _ = false

abbrev pub same_value : Value → Value → Bool
same_value (Truth a) (Truth b) = bool_eq a b
same_value (Whole m) (Whole n) = int_eq m n
same_value (Element i) (Element j) = nat_eq i j
same_value _ _ = false

abbrev pub on_truths : (Bool → Bool → Bool) → Value → Value → Value
on_truths f v w = Truth (f (truth_of v) (truth_of w))

abbrev pub on_numbers : (ℤ → ℤ → ℤ) → Value → Value → Value
on_numbers f v w = Whole (f (number_of v) (number_of w))

-- ---- how the standard extends an operator on two arguments to more

-- f (.. (f (f v w1) w2) ..) wn
abbrev pub fold_left : (Value → Value → Value) → Value → List Value → Value
fold_left f v [] = v
fold_left f v (w ∷ ws) = fold_left f (f v w) ws

abbrev pub left_assoc : (Value → Value → Value) → List Value → Value
left_assoc f [] = Truth false
left_assoc f (v ∷ vs) = fold_left f v vs

-- f v1 (f v2 (.. (f vm vn)))
abbrev pub fold_right : (Value → Value → Value) → Value → List Value → Value
fold_right f v [] = v
fold_right f v (w ∷ ws) = f v (fold_right f w ws)

abbrev pub right_assoc : (Value → Value → Value) → List Value → Value
right_assoc f [] = Truth false
right_assoc f (v ∷ vs) = fold_right f v vs

-- each two neighbours are in the relation
abbrev pub chain_from : (Value → Value → Bool) → Value → List Value → Bool
chain_from r v [] = true
chain_from r v (w ∷ ws) = r v w && chain_from r w ws

abbrev pub chainable : (Value → Value → Bool) → List Value → Bool
chainable r [] = true
chainable r (v ∷ vs) = chain_from r v vs

abbrev pub with_each : (Value → Value → Bool) → Value → List Value → Bool
with_each r v [] = true
with_each r v (w ∷ ws) = r v w && with_each r v ws

-- each two are in the relation
abbrev pub pairwise : (Value → Value → Bool) → List Value → Bool
pairwise r [] = true
pairwise r (v ∷ vs) = with_each r v vs && pairwise r vs

-- ---- the theories Core and Ints

abbrev pub xor : Bool → Bool → Bool
xor a b = not (bool_eq a b)

abbrev pub implies : Bool → Bool → Bool
implies a b = not a || b

abbrev pub differ : Value → Value → Bool
differ v w = not (same_value v w)

abbrev pub compare : (ℤ → ℤ → Bool) → Value → Value → Bool
compare r v w = r (number_of v) (number_of w)

abbrev pub negation : List Value → Value
negation (v ∷ []) = Truth (not (truth_of v))
negation _ = Truth false

abbrev pub choice : List Value → Value
choice (c ∷ v ∷ w ∷ []) = if truth_of c then v else w
choice _ = Truth false

abbrev pub difference : List Value → Value
difference (v ∷ []) = Whole (neg_ℤ (number_of v))
difference vs = left_assoc (on_numbers ◌-ℤ◌) vs

-- `abs`
abbrev pub magnitude : List Value → Value
magnitude (v ∷ []) = Whole (absolute (number_of v))
magnitude _ = Whole (pos 0)

-- `mod`, by the second
abbrev pub left_over : List Value → ℤ
left_over (v ∷ w ∷ vs) = remainder (number_of v) (number_of w)
left_over _ = pos 0

abbrev pub int_ge : ℤ → ℤ → Bool
int_ge m n = int_le n m

abbrev pub int_gt : ℤ → ℤ → Bool
int_gt m n = int_lt n m

-- what an operator makes of the values of its arguments
abbrev pub operate : Operator → List Value → Value
operate True vs = Truth true
operate False vs = Truth false
operate Not vs = negation vs
operate And vs = left_assoc (on_truths ◌&&◌) vs
operate Or vs = left_assoc (on_truths ◌||◌) vs
operate Xor vs = left_assoc (on_truths xor) vs
operate Implies vs = right_assoc (on_truths implies) vs
operate Equal vs = Truth (chainable same_value vs)
operate Distinct vs = Truth (pairwise differ vs)
operate Ite vs = choice vs
operate Add vs = left_assoc (on_numbers ◌+ℤ◌) vs
operate Subtract vs = difference vs
operate Multiply vs = left_assoc (on_numbers ◌*ℤ◌) vs
operate AtMost vs = Truth (chainable (compare int_le) vs)
operate Less vs = Truth (chainable (compare int_lt) vs)
operate AtLeast vs = Truth (chainable (compare int_ge) vs)
operate Greater vs = Truth (chainable (compare int_gt) vs)
operate Divide vs = left_assoc (on_numbers quotient) vs
operate Modulo vs = Whole (left_over vs)
operate Absolute vs = magnitude vs
operate Divisible vs = Truth (int_eq (left_over vs) (pos 0))

-- ---- the value of a term

-- an interpretation gives each symbol a function of the values of its arguments
abbrev pub Interpretation : Type 0
Interpretation = ℕ → List Value → Value

-- what a head makes of the values of its arguments, where the parameters of a definition have these values
abbrev pub apply_with : Interpretation → List Value → Head → List Value → Value
apply_with I parameters (Numeral n) vs = Whole n
apply_with I parameters (Theory o) vs = operate o vs
apply_with I parameters (Symbol f) vs = I f vs
apply_with I parameters (Place k) vs = slice_index_or parameters k (Truth false)

abbrev mutual
  -- the value of a term whose parameters have these values
  pub value_with : Interpretation → List Value → Tree → Value
  value_with I parameters (node h ts) = apply_with I parameters h (values_with I parameters ts)

  pub values_with : Interpretation → List Value → Trees → List Value
  values_with I parameters none = []
  values_with I parameters (more t ts) = value_with I parameters t ∷ values_with I parameters ts

-- of a term without parameters
abbrev pub apply : Interpretation → Head → List Value → Value
apply I h vs = apply_with I [] h vs

abbrev pub value : Interpretation → Tree → Value
value I t = value_with I [] t

abbrev pub values : Interpretation → Trees → List Value
values I ts = values_with I [] ts

-- ---- whether it fits

-- a number is in the range
abbrev pub in_range : Value → Bool
in_range (Whole n) = is_in_range n
in_range _ = true

abbrev pub all_in_range : List Value → Bool
all_in_range [] = true
all_in_range (v ∷ vs) = in_range v && all_in_range vs

-- f v w1, f (f v w1) w2, ..
abbrev pub partials_from : (Value → Value → Value) → Value → List Value → List Value
partials_from f v [] = []
partials_from f v (w ∷ ws) = f v w ∷ partials_from f (f v w) ws

abbrev pub partials_of : (Value → Value → Value) → List Value → List Value
partials_of f [] = []
partials_of f (v ∷ vs) = partials_from f v vs

-- the partial sums, differences and products from the left
abbrev pub partials : Head → List Value → List Value
partials (Theory Add) vs = partials_of (on_numbers ◌+ℤ◌) vs
partials (Theory Subtract) vs = partials_of (on_numbers ◌-ℤ◌) vs
partials (Theory Multiply) vs = partials_of (on_numbers ◌*ℤ◌) vs
partials _ vs = []

abbrev pub head_fits : Interpretation → Head → List Value → Bool
head_fits I h vs = in_range (apply I h vs) && all_in_range (partials h vs)

abbrev mutual
  -- each number on the way is in the range, in branches not taken too
  pub fits : Interpretation → Tree → Bool
  fits I (node h ts) = all_fit I ts && head_fits I h (values I ts)

  pub all_fit : Interpretation → Trees → Bool
  all_fit I none = true
  all_fit I (more t ts) = fits I t && all_fit I ts
