-- Proofs that assertions have no model: their terms, and the literals of their clauses. A clause is a list of literals over the numbers of the terms.
use Rattle.std.specs.Prelude.{◌≡◌, ◌≢◌, ℕ, Bool, true, false, not, ◌&&◌, List, [], ◌∷◌, ◌++◌, length, All, slice_index_or, ◌<◌, pos, Option, Some, None, IsTrue, AllPairs, nat_eq, if◌then◌else◌}
use Rattle.smt_meaning.specs.declared.values.Sort.{Sort}
use Rattle.smt_meaning.specs.declared.values.Sort.TheVariants.{Bool as Truths, Int as Ints}
use Rattle.smt_meaning.specs.declared.terms.Head.{Head}
use Rattle.smt_meaning.specs.declared.terms.Head.TheVariants.{Numeral, Theory}
use Rattle.smt_meaning.specs.declared.terms.Operator.{Operator}
use Rattle.smt_meaning.specs.declared.terms.Operator.TheVariants.{True, False, Divisible}
use Rattle.smt_meaning.specs.declared.nodes.Node.{Node}
use Rattle.smt_meaning.specs.declared.clauses.Summand.{Summand}
use Rattle.smt_meaning.specs.declared.clauses.Atom.{Atom}
use Rattle.smt_meaning.specs.declared.clauses.Atom.TheVariants.{Truth, AtMost, Same}
use Rattle.smt_meaning.specs.declared.clauses.Literal.{Literal}
use Rattle.smt_meaning.specs.Declaration.{Declaration}
use Rattle.smt_meaning.specs.Term.{Tree, Trees, node, none, more, tree_at, int_eq}
use Rattle.smt_meaning.specs.TreeShape.{is_linear_operation, operation, is_constant_head}
use Rattle.smt_meaning.specs.Nodes.{tree_of}
use Rattle.smt_meaning.specs.Signature.{takes, sort_eq, if_so, operator_sort, head_sort, cons_sort}

-- ---- terms as a proof writes them: `mod` has two arguments, `div` two or more; a numeral with an argument says that it divides it, `((_ divisible n) a)`

-- with so many arguments an operator is written
abbrev pub is_written : Operator → ℕ → Bool
is_written True n = nat_eq n 0
is_written False n = nat_eq n 0
is_written Divisible n = false
is_written o n = takes o n

-- the sort of a term with this head, where the arguments have these sorts
abbrev pub written_sort : List Declaration → Head → List Sort → Option Sort
written_sort ds (Numeral n) (s ∷ []) = if_so (sort_eq s Ints) Truths
written_sort ds (Theory o) ss = if is_written o (length ss) then operator_sort o ss else None
written_sort ds h ss = head_sort ds h ss

abbrev pub with_term_sorts : List Declaration → Head → Option (List Sort) → Option Sort
with_term_sorts ds h None = None
with_term_sorts ds h (Some ss) = written_sort ds h ss

abbrev mutual
  pub term_sort : List Declaration → Tree → Option Sort
  term_sort ds (node h us) = with_term_sorts ds h (term_sorts ds us)

  pub term_sorts : List Declaration → Trees → Option (List Sort)
  term_sorts ds none = Some []
  term_sorts ds (more u us) = cons_sort (term_sort ds u) (term_sorts ds us)

abbrev pub is_linear_with : Head → Trees → Bool
is_linear_with (Theory o) us = is_linear_operation o us
is_linear_with (Numeral n) (more u us) = not (int_eq n (pos 0))
is_linear_with h us = true

abbrev mutual
  -- each product has at most one factor that isn't constant, and only numerals other than 0 and their negations divide
  pub is_linear_term : Tree → Bool
  is_linear_term (node h us) = is_linear_with h us && are_linear_terms us

  pub are_linear_terms : Trees → Bool
  are_linear_terms none = true
  are_linear_terms (more u us) = is_linear_term u && are_linear_terms us

-- what a head makes of the trees of its arguments
abbrev pub meant_at : Head → Trees → Tree
meant_at (Theory o) us = operation o us
meant_at (Numeral n) (more u none) = operation Divisible (more u (more (node (Numeral n) none) none))
meant_at h us = node h us

abbrev mutual
  -- the tree that a term stands for
  pub meant : Tree → Tree
  meant (node h us) = meant_at h (all_meant us)

  pub all_meant : Trees → Trees
  all_meant none = none
  all_meant (more u us) = more (meant u) (all_meant us)

-- ---- terms

-- a term is one that an assertion may have: its arguments are numbers of earlier terms, it has a sort under the signature, and it is linear
pub record IsTerm (ds : List Declaration) (ts : List Tree) (n : Node) : Type 0 where
  pub earlier : All (λ i. i < length ts) n.arguments
  pub sort : Sort
  pub has_sort : term_sort ds (tree_of ts n) ≡ Some sort
  pub linear : IsTrue (is_linear_term (tree_of ts n))

-- terms one after the other, as they are written
pub data AreTerms (ds : List Declaration) : List Node → List Tree → Type 0 where
  no_terms : AreTerms ds [] []
  next_term : {ns : List Node} {ts : List Tree} → AreTerms ds ns ts → (n : Node) → IsTerm ds ts n → AreTerms ds (ns ++ n ∷ []) (ts ++ tree_of ts n ∷ [])

abbrev pub node_at : List Node → ℕ → Node
node_at ns i = slice_index_or ns i (record { head = Theory False; arguments = [] })

abbrev pub IsBoolAt : List Declaration → List Tree → ℕ → Type 0
IsBoolAt ds ts i = (i < length ts) × (term_sort ds (tree_at ts i) ≡ Some Truths)

abbrev pub IsIntAt : List Declaration → List Tree → ℕ → Type 0
IsIntAt ds ts i = (i < length ts) × (term_sort ds (tree_at ts i) ≡ Some Ints)

-- ---- literals

-- what linear forms are made of: no numeral, no sum, difference or product
abbrev pub is_leaf : Tree → Bool
is_leaf (node h us) = not (is_constant_head h)

-- a coefficient that isn't 0, and an Int term that is a leaf
pub record IsSummand (ds : List Declaration) (ts : List Tree) (p : Summand) : Type 0 where
  pub int : IsIntAt ds ts p.term
  pub leaf : IsTrue (is_leaf (tree_at ts p.term))
  pub not_zero : p.coefficient ≢ pos 0

-- an atom is over terms of the right sorts; the leaves of a sum ascend
abbrev pub IsAtom : List Declaration → List Tree → Atom → Type 0
IsAtom ds ts (Truth i) = IsBoolAt ds ts i
IsAtom ds ts (Same i j) = (i < length ts) × (j < length ts) × (term_sort ds (tree_at ts i) ≡ term_sort ds (tree_at ts j))
IsAtom ds ts (AtMost ps k) = All (IsSummand ds ts) ps × AllPairs (λ (p q : Summand). p.term < q.term) ps

abbrev pub IsLiteral : List Declaration → List Tree → Literal → Type 0
IsLiteral ds ts l = IsAtom ds ts l.atom

abbrev pub literal : Bool → Atom → Literal
literal b a = record { positive = b; atom = a }

abbrev pub negated : Literal → Literal
negated l = literal (not l.positive) l.atom

-- that a Bool term is true
abbrev pub is_true : ℕ → Literal
is_true i = literal true (Truth i)

-- that two terms are equal
abbrev pub are_same : ℕ → ℕ → Literal
are_same i j = literal true (Same i j)
