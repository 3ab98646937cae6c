-- A proof from its first term to its last step.
use Rattle.std.specs.Prelude.{◌≡◌, ◌≤◌, ℕ, Bool, true, false, List, [], ◌∷◌, ◌++◌, length, All, Option, Some, None}
use Rattle.smt_meaning.specs.declared.nodes.Node.{Node}
use Rattle.smt_meaning.specs.declared.clauses.Literal.{Literal}
use Rattle.proof_meaning.specs.declared.proof.Step.{Step}
use Rattle.smt_meaning.specs.Declaration.{Declaration}
use Rattle.smt_meaning.specs.declared.tokens.Token.{Token}
use Rattle.smt_meaning.specs.Sexp.{Sexp, sexp}
use Rattle.smt_meaning.specs.Term.{Tree}
use Rattle.proof_meaning.specs.Proof.{IsTerm, AreTerms}
use Rattle.proof_meaning.specs.Rules.{Runs}
use Rattle.proof_meaning.specs.Reading.{node_read, step_read, lists_of, AreRead}
use Rattle.look_ahead.specs.Ahead.{ahead}
use Rattle.proof_read.specs.declared.read.ListPlaces.{ListPlaces}
use Rattle.proof_terms.specs.Range.{LeavesRange}
use Rattle.proof_terms.specs.Terms.{ProofTerms, with_term}
use Rattle.proof_terms.specs.Kept.{Kept, KeepsAll}
use Rattle.proof_terms.specs.Comes.{Comes, Stays, AreLiterals}
use Rattle.proof_form.specs.declared.found.Found.{Found}
use Rattle.proof_form.specs.declared.found.Found.TheVariants.{Yes, No, Range as OutOfRange}
use Rattle.proof_terms.specs.declared.verdict.Verdict.{Verdict}
use Rattle.proof_terms.specs.declared.verdict.Verdict.TheVariants.{Good, Wrong, Range}

-- ---- the two lists of a proof

-- its lists of terms and of steps begin at these places
pub record AreLists (ts : List Token) (places : ListPlaces) : Type 0 where
  pub read : lists_of (sexp ts) ≡ Some (ahead ts places.terms, ahead ts places.steps)
  pub terms : places.terms ≤ length ts
  pub steps : places.steps ≤ length ts

-- ---- terms

-- an s-expression joins the terms, or isn't a term by its rule
abbrev pub HasAdded : Sexp → ProofTerms → ProofTerms → Bool → Type 0
HasAdded x old new true = (n : Node) × (node_read old.declared x ≡ Some n) × IsTerm old.declared old.trees n × (new ≡ with_term old n)
HasAdded x old new false = ((n : Node) → node_read old.declared x ≡ Some n → IsTerm old.declared old.trees n → ⊥) × (new ≡ old)

-- so many s-expressions are the terms, and these follow
pub record AreAdded (ds : List Declaration) (held : List Tree) (all after : List Sexp) (number : ℕ) (t : ProofTerms) : Type 0 where
  pub before : List Sexp
  pub split : all ≡ before ++ after
  pub number_is : number ≡ length before
  pub declared : t.declared ≡ ds
  pub held_is : t.held ≡ held
  pub read : AreRead (node_read ds) before t.nodes
  pub good : AreTerms ds t.nodes t.trees

-- this one isn't a term by its rule
pub record EndsAt (ds : List Declaration) (held : List Tree) (all : List Sexp) (number : ℕ) (t : ProofTerms) : Type 0 where
  pub at : Sexp
  pub after : List Sexp
  pub added : AreAdded ds held all (at ∷ after) number t
  pub wrong : (n : Node) → node_read ds at ≡ Some n → IsTerm ds t.trees n → ⊥

abbrev pub NodesCome : List Declaration → List Tree → List Sexp → ProofTerms → Option ℕ → Type 0
NodesCome ds held all new None = (number : ℕ) × AreAdded ds held all [] number new
NodesCome ds held all new (Some number) = EndsAt ds held all number new

-- ---- steps

abbrev pub StepComes : ProofTerms → List Tree → Kept → Kept → Sexp → Verdict → Type 0
StepComes t asserted old new x Good = (s : Step) × (step_read x ≡ Some s) × Comes t asserted old new s Good
StepComes t asserted old new x Wrong = (s : Step) → step_read x ≡ Some s → Comes t asserted old new s Wrong
StepComes t asserted old new x Range = (s : Step) × (step_read x ≡ Some s) × LeavesRange t.declared t.nodes t.trees s

-- so many s-expressions are steps by their rules that gave clauses, no number left the range, and these s-expressions follow
pub record HaveRun (t : ProofTerms) (asserted : List Tree) (all after : List Sexp) (number : ℕ) (done : List Step) (clauses : List (List Literal)) : Type 0 where
  pub before : List Sexp
  pub split : all ≡ before ++ after
  pub number_is : number ≡ length before
  pub read : AreRead step_read before done
  pub runs : Runs t.declared t.nodes t.trees asserted done clauses
  pub in_range : All (Stays t) done

-- and the clauses are kept
pub record AreRun (t : ProofTerms) (asserted : List Tree) (all after : List Sexp) (number : ℕ) (kept : Kept) : Type 0 where
  pub done : List Step
  pub clauses : List (List Literal)
  pub run : HaveRun t asserted all after number done clauses
  pub keeps : KeepsAll kept clauses
  pub literals : AreLiterals t clauses

-- a step that isn't by its rule
pub record IsFaulty (t : ProofTerms) (asserted : List Tree) (all : List Sexp) (number : ℕ) : Type 0 where
  pub at : Sexp
  pub after : List Sexp
  pub kept : Kept
  pub now : Kept
  pub run : AreRun t asserted all (at ∷ after) number kept
  pub wrong : (s : Step) → step_read at ≡ Some s → Comes t asserted kept now s Wrong

-- one in which a number leaves the range
pub record IsOutside (t : ProofTerms) (asserted : List Tree) (all : List Sexp) (number : ℕ) : Type 0 where
  pub at : Sexp
  pub after : List Sexp
  pub kept : Kept
  pub run : AreRun t asserted all (at ∷ after) number kept
  pub step : Step
  pub read : step_read at ≡ Some step
  pub leaves : LeavesRange t.declared t.nodes t.trees step

-- the last of these clauses is the empty one, or not
abbrev pub EndsSo : ℕ → List (List Literal) → Found → Type 0
EndsSo number clauses Yes = (front : List (List Literal)) × (clauses ≡ front ++ [] ∷ [])
EndsSo number clauses (No n) = (n ≡ number) × ((front : List (List Literal)) → clauses ≡ front ++ [] ∷ [] → ⊥)
EndsSo number clauses _ = ⊥

-- all steps are by their rules
pub record HasEnded (t : ProofTerms) (asserted : List Tree) (all : List Sexp) (found : Found) : Type 0 where
  pub number : ℕ
  pub kept : Kept
  pub run : AreRun t asserted all [] number kept
  pub end_is : EndsSo number run.clauses found

pub data StepsCome (t : ProofTerms) (asserted : List Tree) (all : List Sexp) : Found → Type 0 where
  faulty : {number : ℕ} → IsFaulty t asserted all number → StepsCome t asserted all (No number)
  outside : {number : ℕ} → IsOutside t asserted all number → StepsCome t asserted all (OutOfRange number)
  ended : {found : Found} → HasEnded t asserted all found → StepsCome t asserted all found
