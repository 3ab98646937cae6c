-- What is kept of the different trees of a proof's terms.
use Rattle.std.specs.Prelude.{◌≡◌, ◌<◌, ◌+◌, ◌^◌, ◌&&◌, ◌||◌, ℕ, Bool, true, false, not, pos, List, [], ◌∷◌, map, length, All, slice_index, slice_index_or, if◌then◌else◌, Option, Some, None, MatchOption}
use Rattle.smt_meaning.specs.declared.values.Sort.{Sort}
use Rattle.smt_meaning.specs.declared.values.Sort.TheVariants.{Bool as Truths, Int as Ints}
use Rattle.smt_meaning.specs.declared.terms.Head.{Head}
use Rattle.smt_meaning.specs.declared.terms.Head.TheVariants.{Numeral, Theory}
use Rattle.smt_meaning.specs.declared.terms.Operator.{Operator}
use Rattle.smt_meaning.specs.declared.terms.Operator.TheVariants.{Subtract, Multiply, Divide, Modulo, Divisible}
use Rattle.smt_meaning.specs.Declaration.{Declaration}
use Rattle.smt_meaning.specs.Signature.{sort_eq, if_so}
use Rattle.smt_meaning.specs.Term.{Tree, Trees, node, none, more, int_eq}
use Rattle.smt_meaning.specs.TreeShape.{is_constant, are_divisors, quotient_tree, place_of}
use Rattle.proof_meaning.specs.Proof.{term_sort, is_linear_term, meant}
use Rattle.term_store.specs.Terms.{IsPlace, IsNew, AreComplete}
use Rattle.proof_terms.specs.declared.terms_facts.Fact.{Fact}

-- past the last one, places go on to ascend
abbrev pub fact_past : ℕ → Fact
fact_past p = record { sort = Truths; constant = false; first = p + 2 ^ 32; held = None }

-- what is kept of the tree at a place
abbrev pub fact_at : List Fact → ℕ → Fact
fact_at fs p = slice_index_or fs p (fact_past p)

-- what is kept of the trees at these places
abbrev pub facts_at : List Fact → List ℕ → List Fact
facts_at fs ps = map (fact_at fs) ps

-- the places of these terms
abbrev pub places_at : List ℕ → List ℕ → List ℕ
places_at places is = map (λ i. slice_index places i) is

-- the sorts of arguments
abbrev pub sorts_of : List Fact → List Sort
sorts_of fs = map (λ (f : Fact). f.sort) fs

-- the sort of a numeral with arguments of these sorts
abbrev pub numeral_sort : List Sort → Option Sort
numeral_sort [] = Some Ints
numeral_sort (s ∷ []) = if_so (sort_eq s Ints) Truths
numeral_sort ss = None

-- all arguments are constant
abbrev pub all_constant : List Fact → Bool
all_constant [] = true
all_constant (f ∷ fs) = f.constant && all_constant fs

-- at most one of these isn't constant
abbrev pub one_varies : List Fact → Bool
one_varies [] = true
one_varies (f ∷ fs) = if f.constant then one_varies fs else all_constant fs

-- as a product of these arguments, a term is linear
abbrev pub is_linear_here : Head → List Fact → Bool
is_linear_here (Theory Multiply) fs = one_varies fs
is_linear_here _ fs = true

-- a numeral other than 0
abbrev pub is_nonzero : Tree → Bool
is_nonzero (node (Numeral n) none) = not (int_eq n (pos 0))
is_nonzero t = false

-- the negation of one
abbrev pub is_negation : Tree → Bool
is_negation (node (Theory Subtract) (more t none)) = is_nonzero t
is_negation t = false

-- all but the first divide
abbrev pub others_divide : Trees → Bool
others_divide none = true
others_divide (more t ts) = are_divisors ts

abbrev pub is_division : Operator → Bool
is_division Divide = true
is_division Modulo = true
is_division Divisible = true
is_division _ = false

-- as a division of these arguments, a term is linear; true of another term
abbrev pub divides_at : Head → Trees → Bool
divides_at (Theory o) us = not (is_division o) || others_divide us
divides_at (Numeral n) (more u us) = not (int_eq n (pos 0))
divides_at h us = true

-- an operator applied to two trees, with their quotient beside them
abbrev pub beside_quotient : Operator → Tree → Tree → Tree
beside_quotient o t u = node (Theory o) (more t (more u (more (quotient_tree t u) none)))

-- the place of a tree among these, if it is one of them
abbrev pub IsHeldAt : List Tree → Tree → Option ℕ → Type 0
IsHeldAt hs t o = MatchOption o (IsNew hs t) (λ i. IsPlace hs i t)

-- these are places of terms, among terms with all their parts
pub record AreAmong (hs : List Tree) (is : List ℕ) : Type 0 where
  pub complete : AreComplete hs
  pub arguments : All (λ i. i < length hs) is

-- one place more, if there are all
abbrev pub with_held : Option ℕ → Option (List ℕ) → Option (List ℕ)
with_held None r = None
with_held (Some i) None = None
with_held (Some i) (Some is) = Some (i ∷ is)

-- the places of all arguments among the stack's terms, if all are such terms
abbrev pub held_of : List Fact → Option (List ℕ)
held_of [] = Some []
held_of (f ∷ fs) = with_held f.held (held_of fs)

-- what is kept of a tree of a term, beside the stack's trees and those of the proof's terms; it stands for a tree of the stack at a place, or for none
pub record IsFact (ds : List Declaration) (hs ts : List Tree) (t : Tree) (f : Fact) : Type 0 where
  pub sort : term_sort ds t ≡ Some f.sort
  pub constant : is_constant t ≡ f.constant
  pub linear : is_linear_term t ≡ true
  pub first : place_of t ts ≡ f.first
  pub within : f.first < length ts
  pub held : IsHeldAt hs (meant t) f.held
