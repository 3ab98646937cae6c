-- What is found of an s-expression that stands in the place of a proof.
use Rattle.std.specs.Prelude.{◌≡◌, ◌⊎◌, ℕ, List, [], ◌∷◌, ◌++◌, length, All, Some, None}
use Rattle.smt_meaning.specs.declared.nodes.Node.{Node}
use Rattle.smt_meaning.specs.declared.clauses.Literal.{Literal}
use Rattle.proof_meaning.specs.declared.proof.Step.{Step}
use Rattle.smt_meaning.specs.Sexp.{Sexp, Sexps}
use Rattle.smt_meaning.specs.Term.{Tree}
use Rattle.smt_meaning.specs.Stack.{Frame, signature_of, assertions_of}
use Rattle.proof_meaning.specs.Proof.{AreTerms}
use Rattle.proof_meaning.specs.Rules.{Gives, Runs}
use Rattle.proof_meaning.specs.Reading.{node_read, step_read, lists_of, listed, AreRead, IsWrongNode}
use Rattle.proof_terms.specs.Range.{LeavesRange}
use Rattle.proof_form.specs.declared.found.Found.{Found}
use Rattle.proof_form.specs.declared.found.Found.TheVariants.{Yes, Node as WrongNode, No, Range, NoProof}

-- judging has come to a step: all terms and the steps before it are by their rules, and no number on the way left the range
pub record ComesTo (frames : List Frame) (x : Sexp) (before after : List Sexp) (done : List Step) (clauses : List (List Literal)) : Type 0 where
  pub terms : Sexps
  pub steps : Sexps
  pub lists : lists_of x ≡ Some (terms, steps)
  pub nodes : List Node
  pub trees : List Tree
  pub nodes_read : AreRead (node_read (signature_of frames)) (listed terms) nodes
  pub good : AreTerms (signature_of frames) nodes trees
  pub split : listed steps ≡ before ++ after
  pub steps_read : AreRead step_read before done
  pub runs : Runs (signature_of frames) nodes trees (assertions_of frames) done clauses
  pub in_range : All (λ (s : Step). LeavesRange (signature_of frames) nodes trees s → ⊥) done

-- all are by their rules, and the last clause is the empty one
pub record IsGoodInRange (frames : List Frame) (x : Sexp) : Type 0 where
  pub before : List Sexp
  pub done : List Step
  pub clauses : List (List Literal)
  pub comes : ComesTo frames x before [] done (clauses ++ [] ∷ [])

-- this step isn't by its rule, and no number on the way to that leaves the range
pub record IsFaultyAt (frames : List Frame) (x : Sexp) (n : ℕ) : Type 0 where
  pub before : List Sexp
  pub at : Sexp
  pub after : List Sexp
  pub done : List Step
  pub clauses : List (List Literal)
  pub comes : ComesTo frames x before (at ∷ after) done clauses
  pub number : n ≡ length before
  pub stays : (s : Step) → step_read at ≡ Some s → LeavesRange (signature_of frames) comes.nodes comes.trees s → ⊥
  pub wrong : (s : Step) (ls : List Literal) → step_read at ≡ Some s → Gives (signature_of frames) comes.nodes comes.trees (assertions_of frames) clauses s ls → ⊥

-- there are no more steps, and the last clause isn't empty, or there is none
pub record IsEndless (frames : List Frame) (x : Sexp) (n : ℕ) : Type 0 where
  pub before : List Sexp
  pub done : List Step
  pub clauses : List (List Literal)
  pub comes : ComesTo frames x before [] done clauses
  pub number : n ≡ length before
  pub not_empty : (front : List (List Literal)) → clauses ≡ front ++ [] ∷ [] → ⊥

-- in this step a number leaves the range
pub record IsOutsideAt (frames : List Frame) (x : Sexp) (n : ℕ) : Type 0 where
  pub before : List Sexp
  pub at : Sexp
  pub after : List Sexp
  pub done : List Step
  pub clauses : List (List Literal)
  pub comes : ComesTo frames x before (at ∷ after) done clauses
  pub number : n ≡ length before
  pub step : Step
  pub read : step_read at ≡ Some step
  pub leaves : LeavesRange (signature_of frames) comes.nodes comes.trees step

abbrev pub IsFound : List Frame → Sexp → Found → Type 0
IsFound frames x Yes = IsGoodInRange frames x
IsFound frames x (WrongNode n) = IsWrongNode frames x n
IsFound frames x (No n) = IsFaultyAt frames x n ⊎ IsEndless frames x n
IsFound frames x (Range n) = IsOutsideAt frames x n
IsFound frames x NoProof = lists_of x ≡ None
