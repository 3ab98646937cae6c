-- What a term that is read stands for.
use Rattle.std.specs.Prelude.{◌≡◌, ℕ, ◌<◌, Bool, true, ◌&&◌, List, [], ◌∷◌, ◌++◌, map, length, if◌then◌else◌}
use Rattle.smt_meaning.specs.declared.values.Sort.{Sort}
use Rattle.smt_meaning.specs.declared.terms.Head.{Head}
use Rattle.smt_meaning.specs.declared.terms.Head.TheVariants.{Theory}
use Rattle.smt_meaning.specs.declared.terms.Operator.{Operator}
use Rattle.smt_meaning.specs.declared.refusals.Refusal.{Refusal}
use Rattle.smt_meaning.specs.Term.{Tree, Trees, node, none, more, tree_at}
use Rattle.smt_meaning.specs.TreeShape.{is_constant, is_linear, are_divisors, quotient_tree, with_parts}
use Rattle.smt_meaning.specs.Sorts.{Scope, Judging, done, refused, Typed, trees_of}
use Rattle.term_store.specs.Terms.{Terms}
use Rattle.elaborate.specs.declared.value.Value.{Value}
use Rattle.elaborate.specs.declared.error.JudgeError.{JudgeError}
use Rattle.elaborate.specs.declared.error.JudgeError.TheVariants.{Refused, Memory}
use Rattle.std.specs.Prelude.{Result, Ok, Err}

abbrev pub id_of : Value → ℕ
id_of v = v.id

abbrev pub sort_of : Value → Sort
sort_of v = v.sort

-- the term of a value
abbrev pub typed : List Tree → Value → Typed
typed ts v = record { tree = tree_at ts v.id; sort = v.sort }

-- a value says of its tree what holds
pub record IsValue (ts : List Tree) (v : Value) : Type 0 where
  pub within : v.id < length ts
  pub constant : v.constant ≡ is_constant (tree_at ts v.id)
  pub linear : v.linear ≡ is_linear (tree_at ts v.id)

abbrev pub AreValues : List Tree → List Value → Type 0
AreValues ts [] = Unit {0}
AreValues ts (v ∷ vs) = IsValue ts v × AreValues ts vs

abbrev pub IsLonger : List Tree → List Tree → Type 0
IsLonger ts us = (more' : List Tree) × (us ≡ ts ++ more')

-- trees joined the list
abbrev pub HasGrown : Terms → Terms → Type 0
HasGrown s t = IsLonger s.trees t.trees × (t.limit ≡ s.limit)

-- ---- flags

abbrev pub all_constant : List Value → Bool
all_constant [] = true
all_constant (v ∷ vs) = v.constant && all_constant vs

abbrev pub all_linear : List Value → Bool
all_linear [] = true
all_linear (v ∷ vs) = v.linear && all_linear vs

abbrev pub one_varies : List Value → Bool
one_varies [] = true
one_varies (v ∷ vs) = if v.constant then one_varies vs else all_constant vs

-- ---- divisors

-- each but the first is a divisor
abbrev pub all_but_first_divide : Trees → Bool
all_but_first_divide none = true
all_but_first_divide (more t ts) = are_divisors ts

-- ---- what calls come to

-- the value is the term with this head and these arguments, which joined the trees unless it was there
pub record IsNode (h : Head) (s : Sort) (vs : List Value) (ts us : List Tree) (v : Value) : Type 0 where
  pub trees : us ≡ with_parts ts (node h (trees_of (map (typed ts) vs)))
  pub tree : tree_at us v.id ≡ node h (trees_of (map (typed ts) vs))
  pub sort : v.sort ≡ s
  pub value : IsValue us v

-- the value is this term, which joined the trees with its parts unless it was there
pub record IsTerm (t : Tree) (s : Sort) (ts us : List Tree) (v : Value) : Type 0 where
  pub trees : us ≡ with_parts ts t
  pub tree : tree_at us v.id ≡ t
  pub sort : v.sort ≡ s
  pub value : IsValue us v

-- a remainder or a divisibility, with its quotient beside it
abbrev pub with_quotient : Operator → Trees → Tree
with_quotient o (more t (more u none)) = node (Theory o) (more t (more u (more (quotient_tree t u) none)))
with_quotient o ts = node (Theory o) ts

-- a judgement gives this result
abbrev pub Comes : Judging Typed → Scope → List Tree → Result Value JudgeError → Type 0
Comes m s us (Ok v) = (m s ≡ done (typed us v) (record s { trees = us })) × IsValue us v
Comes m s us (Err (Refused r)) = m s ≡ refused r
Comes m s us (Err Memory) = Unit {0}

-- the error tells this refusal, or want of memory
abbrev pub IsErrorOf : Refusal → JudgeError → Type 0
IsErrorOf r (Refused x) = x ≡ r
IsErrorOf r Memory = Unit {0}
