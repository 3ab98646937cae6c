-- Clauses that are kept and follow, the assertions among them, and what they force.
use Rattle.std.specs.Prelude.{◌≡◌, ℕ, ◌<◌, true, List, [], ◌∷◌, map, length, All, Contains}
use Rattle.literals.specs.Signed.{Signed, opposite}
use Rattle.clause_store.specs.Stored.{Kept, Stored}
use Rattle.smt_meaning.specs.declared.terms.Operator.{Operator}
use Rattle.smt_meaning.specs.declared.terms.Head.TheVariants.{Theory}
use Rattle.smt_meaning.specs.declared.clauses.Atom.{Atom}
use Rattle.smt_meaning.specs.declared.clauses.Atom.TheVariants.{Truth}
use Rattle.smt_meaning.specs.declared.clauses.Literal.{Literal}
use Rattle.smt_meaning.specs.Forced.{Sign, Forces, IsClauseOf, literals_of}
use Rattle.smt_meaning.specs.Report.{IsPartOfStack}
use Rattle.smt_meaning.specs.Term.{Tree, Trees, node, tree_at}
use Rattle.smt_meaning.specs.Stack.{signature_of}
use Rattle.smt_meaning.specs.StackCommand.{Stack}
use Rattle.search_port.specs.State.{Reading, atom_at}
use Rattle.search_port.specs.Valid.{IsOver, FollowsAt}

-- a clause over the numbered atoms that follows at this level
pub record IsClause (q : Reading) (level : ℕ) (ls : List Signed) : Type 0 where
  pub over : IsOver (length q.table) ls
  pub follows : FollowsAt q level ls

-- nothing is decided, and each kept clause is such a one
pub record IsBegun (q : Reading) (s : Stored) : Type 0 where
  pub steps : s.trail.steps ≡ []
  pub depth : s.trail.depth ≡ 0
  pub atoms : s.trail.atoms ≡ length q.table
  pub clauses : All (λ (c : Kept). IsClause q c.level c.literals) s.clauses

-- a clause of these literals is kept
pub record HasClause (clauses : List Kept) (ls : List Signed) : Type 0 where
  pub kept : Kept
  pub among : Contains clauses kept
  pub literals : kept.literals ≡ ls

-- the clause that the atom of this number is true
abbrev pub unit : ℕ → List Signed
unit n = record { atom = n; positive = true } ∷ []

-- the truth of the term has a number, and the clause that it is true is kept
pub record IsAsserted (trees : List Tree) (table : List Atom) (clauses : List Kept) (t : Tree) : Type 0 where
  pub number : ℕ
  pub place : ℕ
  pub within : number < length table
  pub atom : atom_at table number ≡ Truth place
  pub term : tree_at trees place ≡ t
  pub kept : HasClause clauses (unit number)

-- the literal with its atom written out
abbrev pub written_literal : List Atom → Signed → Literal
written_literal table l = record { atom = atom_at table l.atom; positive = l.positive }

-- the clause over numbers that reads so is forced, and isn't empty
pub record IsForced (table : List Atom) (known : List (List Signed)) (ss : List Sign) : Type 0 where
  pub literals : List Signed
  pub within : All (λ (l : Signed). l.atom < length table) literals
  pub reads : map (written_literal table) literals ≡ literals_of ss
  pub some : ss ≡ [] → ⊥
  pub forced : Forces opposite known literals

-- the clauses of each part of an assertion are forced
abbrev pub ForcesParts : Stack → List Atom → List (List Signed) → Type 0
ForcesParts s table known =
    (o : Operator) (us : Trees) (ss : List Sign) → IsPartOfStack s.frames (node (Theory o) us) → IsClauseOf s.trees (signature_of s.frames) o us ss → IsForced table known ss
