-- The clauses of bounds, and codes that join those of a clause.
use Rattle.std.specs.Prelude.{◌≡◌, ◌<◌, ◌++◌, ◌∷◌, [], ℕ, ℤ, true, false, List}
use Rattle.smt_meaning.specs.declared.clauses.Literal.{Literal}
use Rattle.smt_meaning.specs.declared.clauses.Summand.{Summand}
use Rattle.smt_meaning.specs.declared.clauses.Atom.TheVariants.{AtMost}
use Rattle.smt_meaning.specs.Atoms.{divided, each_divided}
use Rattle.proof_meaning.specs.Proof.{IsIntAt, literal}
use Rattle.smt_meaning.specs.Atoms.{DividesEach}
use Rattle.proof_terms.specs.Terms.{ProofTerms}
use Rattle.proof_terms.specs.Kept.{Kept, KeepsAll, AreCodesOf}

-- the code of one more literal has joined, and the clauses so far are still kept
pub record HaveJoined (old new : Kept) (codes after : List ℕ) (joined : List Literal) : Type 0 where
  pub codes_are : (ls : List Literal) → AreCodesOf old.atoms codes ls → AreCodesOf new.atoms after (ls ++ joined)
  pub kept : (before : List (List Literal)) → KeepsAll old before → KeepsAll new before

-- a link is one of two Ints
pub record LinksInts (t : ProofTerms) (left right which : ℕ) : Type 0 where
  pub which_is : which < 3
  pub left_int : IsIntAt t.declared t.trees left
  pub right_int : IsIntAt t.declared t.trees right

-- a literal is a bound, and a number above 0 divides each of its coefficients
pub record IsDivided (l : Literal) (divisor : ℕ) : Type 0 where
  pub sum : List Summand
  pub limit : ℤ
  pub literal_is : l ≡ literal true (AtMost sum limit)
  pub above : 0 < divisor
  pub divides : DividesEach divisor sum

-- the bound, or what it gives divided
abbrev pub round_clause : List Summand → ℤ → ℤ → List Literal
round_clause sum limit divisor = literal false (AtMost sum limit) ∷ literal true (AtMost (each_divided divisor sum) (divided limit divisor)) ∷ []
