-- The bounds that the assertions put on single Int terms, and the boxes that these make.
use Rattle.std.specs.Prelude.{ℕ, Bool, true, false, List, [], ◌∷◌, ◌++◌, flat_map, ℤ, pos, negsuc, neg_ℤ, ◌≤ℤ◌, Contains, if◌then◌else◌}
use Rattle.smt_meaning.specs.declared.terms.Operator.TheVariants.{And, Equal, AtMost as IsAtMost, Less, AtLeast, Greater}
use Rattle.smt_meaning.specs.declared.terms.Head.{Head}
use Rattle.smt_meaning.specs.declared.terms.Head.TheVariants.{Theory}
use Rattle.smt_meaning.specs.Declaration.{Declaration}
use Rattle.smt_meaning.specs.declared.clauses.Atom.{Atom}
use Rattle.smt_meaning.specs.declared.clauses.Atom.TheVariants.{AtMost}
use Rattle.smt_meaning.specs.Term.{Tree, Trees, node, none, more}
use Rattle.smt_meaning.specs.Stack.{Frame, signature_of, assertions_of}
use Rattle.smt_meaning.specs.Linear.{summand}
use Rattle.smt_meaning.specs.Atoms.{comparison_atoms}

-- ---- bounds on one term, by its place

-- the term is at most k
abbrev pub term_at_most : ℕ → ℤ → Atom
term_at_most t k = AtMost (summand t (pos 1) ∷ []) k

-- its negation is at most k
abbrev pub negation_at_most : ℕ → ℤ → Atom
negation_at_most t k = AtMost (summand t (negsuc 0) ∷ []) k

-- ---- what the assertions say of neighbours

abbrev pub conjuncts_at : Head → Tree → List Tree → List Tree
conjuncts_at (Theory And) t inner = inner
conjuncts_at h t inner = t ∷ []

abbrev mutual
  -- the conjuncts of a term, down through each `and`
  pub conjuncts : Tree → List Tree
  conjuncts (node h us) = conjuncts_at h (node h us) (conjuncts_of us)

  pub conjuncts_of : Trees → List Tree
  conjuncts_of none = []
  conjuncts_of (more u us) = conjuncts u ++ conjuncts_of us

-- a comparison or an equality
abbrev pub is_of_neighbours : Head → Bool
is_of_neighbours (Theory Equal) = true
is_of_neighbours (Theory IsAtMost) = true
is_of_neighbours (Theory Less) = true
is_of_neighbours (Theory AtLeast) = true
is_of_neighbours (Theory Greater) = true
is_of_neighbours h = false

-- the atoms that hold where the term is true
abbrev pub said_atoms : List Tree → List Declaration → Tree → List Atom
said_atoms ts ds (node h us) = if is_of_neighbours h then comparison_atoms ts ds h us else []

abbrev pub asserted_atoms : List Tree → List Frame → List Atom
asserted_atoms ts frames = flat_map (said_atoms ts (signature_of frames)) (flat_map conjuncts (assertions_of frames))

-- ---- boxes

-- the number lies in the box of the term, which has both ends
pub record IsInBox (ts : List Tree) (frames : List Frame) (t : ℕ) (number : ℤ) : Type 0 where
  pub least : ℤ
  pub greatest : ℤ
  pub has_least : Contains (asserted_atoms ts frames) (negation_at_most t (neg_ℤ least))
  pub has_greatest : Contains (asserted_atoms ts frames) (term_at_most t greatest)
  pub above : (k : ℤ) → Contains (asserted_atoms ts frames) (negation_at_most t k) → neg_ℤ k ≤ℤ number
  pub below : (k : ℤ) → Contains (asserted_atoms ts frames) (term_at_most t k) → number ≤ℤ k
