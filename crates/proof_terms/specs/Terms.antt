-- The terms of a proof as they are kept.
use Rattle.std.specs.Prelude.{◌≡◌, ◌++◌, ◌∷◌, [], List, true, ℤ, refl}
use Rattle.std.specs.Coded.{Coded, code_by, coded×, coded_list}
use Rattle.smt_meaning.specs.contracts.nodes.Node as node_type
use Rattle.smt_meaning.specs.DeclarationCode.{coded_declaration}
use Rattle.smt_meaning.specs.TreeCode.{coded_trees}
use Rattle.smt_meaning.specs.declared.nodes.Node.{Node}
use Rattle.smt_meaning.specs.declared.clauses.Summand.{Summand}
use Rattle.smt_meaning.specs.declared.clauses.Atom.{Atom}
use Rattle.smt_meaning.specs.declared.clauses.Atom.TheVariants.{AtMost}
use Rattle.smt_meaning.specs.Declaration.{Declaration}
use Rattle.smt_meaning.specs.Term.{Tree}
use Rattle.smt_meaning.specs.Nodes.{tree_of}
use Rattle.smt_meaning.specs.Linear.{sum_fits}
use Rattle.fraction128.specs.Whole.{InRange}

-- the signature that sorts them, and the terms of the stack with which they are compared
pub record ProofTerms : Type 0 where
  pub declared : List Declaration
  pub held : List Tree
  pub nodes : List Node
  pub trees : List Tree

abbrev pub terms_code : Coded ProofTerms
terms_code =
    code_by (List Declaration × (List Tree × (List Node × List Tree))) (coded× (coded_list coded_declaration) (coded× coded_trees (coded× (coded_list node_type.the_row.coded) coded_trees)))
    (λ (t : ProofTerms). (t.declared, (t.held, (t.nodes, t.trees)))) (λ p. record { declared = p.0; held = p.1.0; nodes = p.1.1.0; trees = p.1.1.1 }) (λ _. refl)

abbrev pub with_term : ProofTerms → Node → ProofTerms
with_term t n = record t { nodes = t.nodes ++ n ∷ []; trees = t.trees ++ tree_of t.trees n ∷ [] }

-- a sum and a limit are those of an atom, with all numbers in the range
pub record IsBoundOf (a : Atom) (sum : List Summand) (limit : ℤ) : Type 0 where
  pub atom : AtMost sum limit ≡ a
  pub coefficients : sum_fits sum ≡ true
  pub in_range : InRange limit
