-- Clauses in which what a negation negates stands in its place.
use Rattle.std.specs.Prelude.{◌≡◌, ◌⊎◌, ℕ, ◌≤◌, not, List, [], ◌∷◌, length}
use Rattle.literals.specs.Signed.{Signed}
use Rattle.clause_store.specs.Stored.{Kept}
use Rattle.smt_meaning.specs.declared.terms.Operator.TheVariants.{Not}
use Rattle.smt_meaning.specs.declared.terms.Head.TheVariants.{Theory}
use Rattle.smt_meaning.specs.declared.clauses.Atom.{Atom}
use Rattle.smt_meaning.specs.declared.clauses.Atom.TheVariants.{Truth}
use Rattle.smt_meaning.specs.Term.{Tree, tree_at}
use Rattle.term_store.specs.Terms.{tree_with}
use Rattle.atom_form.specs.AtomTableNumbers.{IsAt}
use Rattle.first_clauses.specs.PartClausesFirst.{HasClause}

-- the first number is that of the truth of a negation, the second that of the truth of what it negates
pub record Negates (trees : List Tree) (table : List Atom) (n m : ℕ) : Type 0 where
  pub place : ℕ
  pub argument : ℕ
  pub atom : IsAt table n (Truth place)
  pub node : tree_at trees place ≡ tree_with trees (Theory Not) (argument ∷ [])
  pub negated : IsAt table m (Truth argument)

-- the same literal, or that of what a negation negates
abbrev pub IsTurned : List Tree → List Atom → Signed → Signed → Type 0
IsTurned trees table l m = (l ≡ m) ⊎ (Negates trees table l.atom m.atom × (m.positive ≡ not l.positive))

-- the literals one by one
abbrev pub AreTurned : List Tree → List Atom → List Signed → List Signed → Type 0
AreTurned trees table [] [] = Unit {0}
AreTurned trees table (l ∷ ls) (m ∷ ms) = IsTurned trees table l m × AreTurned trees table ls ms
AreTurned trees table [] (m ∷ ms) = ⊥
AreTurned trees table (l ∷ ls) [] = ⊥

-- the clause is kept, one of more than two literals perhaps with what negations negate
pub record IsKeptTurned (trees : List Tree) (table : List Atom) (clauses : List Kept) (ls : List Signed) : Type 0 where
  pub turned : List Signed
  pub are : AreTurned trees table ls turned
  pub short : length ls ≤ 2 → ls ≡ turned
  pub kept : HasClause clauses turned
