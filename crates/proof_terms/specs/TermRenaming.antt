-- Bounds whose leaves are named by other places.
use Rattle.std.specs.Prelude.{ℕ, List, map, ◌<◌}
use Rattle.smt_meaning.specs.declared.clauses.Summand.{Summand}
use Rattle.smt_meaning.specs.declared.clauses.Atom.{Atom}
use Rattle.smt_meaning.specs.declared.clauses.Atom.TheVariants.{AtMost}
use Rattle.smt_meaning.specs.Linear.{Form, summand}
use Rattle.proof_terms.specs.declared.terms_facts.Fact.{Fact}
use Rattle.proof_terms.specs.TermFacts.{fact_at}

-- each place of a sum by another
abbrev pub renamed : (ℕ → ℕ) → List Summand → List Summand
renamed r ps = map (λ (p : Summand). summand (r p.term) p.coefficient) ps

-- of a form
abbrev pub renamed_form : (ℕ → ℕ) → Form → Form
renamed_form r f = record { sum = renamed r f.sum; constant = f.constant }

-- of a bound
abbrev pub renamed_bound : (ℕ → ℕ) → Atom → Atom
renamed_bound r (AtMost ps k) = AtMost (renamed r ps) k
renamed_bound r a = a

-- the first term with the tree at a place
abbrev pub first_at : List Fact → ℕ → ℕ
first_at fs p = (fact_at fs p).first

-- a map of places that keeps their order
pub record Ascends (r : ℕ → ℕ) : Type 0 where
  pub at : (i j : ℕ) → i < j → r i < r j
