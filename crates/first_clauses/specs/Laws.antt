-- What the first clauses are for: where a search over them ends, the assertions are true, or nothing makes them so, and propagation finds what the parts' operators say.
use Rattle.std.specs.Prelude.{◌≡◌, ℕ, true, Bool, List, [], length, Contains}
use Rattle.literals.specs.Signed.{Signed, some_true}
use Rattle.clause_store.specs.Stored.{Kept, Stored}
use Rattle.smt_meaning.specs.declared.values.Sort.{Sort}
use Rattle.smt_meaning.specs.declared.clauses.Atom.{Atom}
use Rattle.smt_meaning.specs.Term.{Interpretation}
use Rattle.smt_meaning.specs.Stack.{signature_of, Holds, HasNoModel}
use Rattle.smt_meaning.specs.StackCommand.{Stack}
use Rattle.smt_laws.specs.Flat.{flat}
use Rattle.search_port.specs.State.{Reading, IsGrown, IsFull, IsConsistent, IsMadeTrue, truth}
use Rattle.search_port.specs.Valid.{FollowsAt}
use Rattle.scope_stack.specs.Facts.{AreSorts}
use Rattle.scope_stack.specs.Shown.{IsLawful}
use Rattle.check_atoms.specs.Marks.{AreStackParts}
use Rattle.check_atoms.specs.OfStack.{AreCheckAtoms}
use Rattle.check_atoms.specs.Standing.{StandingHolds}
use Rattle.first_clauses.specs.PartClausesFirst.{ForcesParts}
use Rattle.first_clauses.specs.CheckClausesFirst.{reading_of, IsFirst, HasParts}
use Rattle.first_clauses.specs.Holding.{IsDecided, PartsHold, IsAgreed}

-- each of these clauses is true under the interpretation
abbrev pub MakesTrue : Reading → Interpretation → List Kept → Type 0
MakesTrue q I clauses = (c : Kept) → Contains clauses c → some_true (truth q I) c.literals ≡ true

-- what makes the first clauses true, whatever atoms came, makes the assertions true
abbrev pub FirstClausesSayAssertions : Type 0
FirstClausesSayAssertions =
    (s : Stack) (table : List Atom) (first : Stored) (q : Reading) (I : Interpretation) → IsFirst s table first → IsGrown (reading_of s table) q → MakesTrue q I first.clauses → Holds I s.frames

-- whatever atoms came, the signature is the stack's
abbrev pub SignatureStays : Type 0
SignatureStays = (s : Stack) (table : List Atom) (q : Reading) → IsGrown (reading_of s table) q → signature_of q.frames ≡ signature_of s.frames

-- where the empty clause follows, whatever atoms came, the stack has no model
abbrev pub EmptyClauseMeansNoModel : Type 0
EmptyClauseMeansNoModel = (s : Stack) (table : List Atom) (q : Reading) (level : ℕ) → IsGrown (reading_of s table) q → FollowsAt q level [] → HasNoModel s.frames

-- among whatever clauses the kept clauses of the parts are, they force each clause that is true of a part's operator
abbrev pub KeptPartsAreForced : Type 0
KeptPartsAreForced =
    (s : Stack) (marks : List Bool) (sorts : List Sort) (table : List Atom) (clauses : List Kept) (known : List (List Signed)) → IsLawful s → AreStackParts s marks → AreCheckAtoms s marks table
    → AreSorts (signature_of s.frames) s.trees (length s.trees) sorts → HasParts s marks sorts table clauses → ((c : Kept) → Contains clauses c → Contains known c.literals) → ForcesParts s table known

-- where fewer clauses force those of the parts, more do
abbrev pub MoreForceParts : Type 0
MoreForceParts = (s : Stack) (table : List Atom) (known more : List (List Signed)) → ((ls : List Signed) → Contains known ls → Contains more ls) → ForcesParts s table known → ForcesParts s table more

-- in a consistent log that makes the first clauses true, whatever atoms came, an atom of each list that stands is true
abbrev pub FirstClausesSayStanding : Type 0
FirstClausesSayStanding =
    (s : Stack) (marks : List Bool) (sorts : List Sort) (table : List Atom) (first : Stored) (q : Reading) (log : List Signed) → IsLawful s → AreStackParts s marks → AreCheckAtoms s marks table
    → AreSorts (signature_of s.frames) s.trees (length s.trees) sorts → IsFirst s table first → HasParts s marks sorts table first.clauses → IsGrown (reading_of s table) q → IsConsistent log
    → ((k : Kept) → Contains first.clauses k → IsMadeTrue log k.literals) → StandingHolds q log

-- a full and consistent log that makes them true decides each part
abbrev pub FirstClausesDecideParts : Type 0
FirstClausesDecideParts =
    (s : Stack) (marks : List Bool) (sorts : List Sort) (table : List Atom) (first : Stored) (q : Reading) (log : List Signed) → IsLawful s → AreStackParts s marks → AreCheckAtoms s marks table
    → AreSorts (signature_of s.frames) s.trees (length s.trees) sorts → IsFirst s table first → HasParts s marks sorts table first.clauses → IsGrown (reading_of s table) q → IsFull q log → IsConsistent log
    → ((k : Kept) → Contains first.clauses k → IsMadeTrue log k.literals) → IsDecided s marks sorts q.table log

-- so it agrees
abbrev pub FirstClausesAgree : Type 0
FirstClausesAgree =
    (s : Stack) (marks : List Bool) (sorts : List Sort) (table : List Atom) (first : Stored) (q : Reading) (log : List Signed) → IsLawful s → AreStackParts s marks → AreCheckAtoms s marks table
    → AreSorts (signature_of s.frames) s.trees (length s.trees) sorts → IsFirst s table first → HasParts s marks sorts table first.clauses → IsGrown (reading_of s table) q → IsFull q log → IsConsistent log
    → ((k : Kept) → Contains first.clauses k → IsMadeTrue log k.literals) → IsAgreed q log

-- what a log decides of the parts of a stack it decides of those of each stack with the same terms and levels, by whatever marks and sorts
abbrev pub PartsHoldOfEach : Type 0
PartsHoldOfEach =
    (r : Reading) (log : List Signed) (s : Stack) (marks : List Bool) (sorts : List Sort) → PartsHold r log → s.trees ≡ r.trees → flat s.frames ≡ r.frames → IsLawful s → AreStackParts s marks
    → length marks ≡ length s.trees → AreSorts (signature_of s.frames) s.trees (length s.trees) sorts → IsDecided s marks sorts r.table log
