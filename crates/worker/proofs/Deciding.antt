-- How a search begins, and what its outcome says of the assertions.
use Rattle.std.proofs.Common.{◌≡◌, ℕ, ◌≤◌, false, List, [], length, All, subst, sym, ap, arith, refl}
use Rattle.std.specs.Prelude.{Bool}
use Rattle.std.proofs.lemmas.List.Elements.{All-weaker}
use Rattle.clause_store.specs.Stored.{Kept, Stored}
use Rattle.smt_meaning.specs.declared.values.Table.{Table}
use Rattle.smt_meaning.specs.declared.clauses.Atom.{Atom}
use Rattle.smt_meaning.specs.Declaration.{Declaration}
use Rattle.smt_meaning.specs.Interpretation.{AreTablesFor, meaning}
use Rattle.smt_meaning.specs.Model.{Fits}
use Rattle.smt_meaning.specs.Stack.{signature_of, assertions_of, Holds}
use Rattle.smt_meaning.specs.StackCommand.{Stack}
use Rattle.search_port.specs.State.{Reading, TheoryState, IsGrown}
use Rattle.search_port.specs.Valid.{IsOver, FollowsAt}
use Rattle.cdcl_core.specs.Search.{IsFresh, IsModel, AreAmong}
use Rattle.search_port.specs.Spending.{Spending}
use Rattle.cdcl_core.specs.Turns.{HeardBetween}
use Rattle.worker.specs.Endings.{IsHeard}
use Rattle.smt_laws.specs.Flat.{flat, FlatSaysTheSame}
use Rattle.first_clauses.specs.PartClausesFirst.{IsClause}
use Rattle.first_clauses.specs.CheckClausesFirst.{reading_of, IsFirst}
use Rattle.first_clauses.specs.Laws.{FirstClausesSayAssertions, SignatureStays}

-- ---- the start

at_most : (m n : ℕ) → m ≡ n → m ≤ n
at_most m n e = omega (arith, e)

pub fresh : (s : Stack) (table : List Atom) (stored : Stored) (t : TheoryState) → IsFirst s table stored → t.reading ≡ reading_of s table → t.log ≡ [] → IsFresh stored t
fresh s table stored t f r l =
    let over : All (λ (c : Kept). IsOver stored.trail.atoms c.literals) stored.clauses =
    All-weaker (λ (c : Kept). IsClause (reading_of s table) c.level c.literals) (λ (c : Kept). IsOver stored.trail.atoms c.literals)
    (λ c h. subst (λ n. IsOver n c.literals) (sym f.begun.atoms) h.over) stored.clauses f.begun.clauses in
    let follow : All (λ (c : Kept). FollowsAt (reading_of s table) c.level c.literals) stored.clauses =
    All-weaker (λ (c : Kept). IsClause (reading_of s table) c.level c.literals) (λ (c : Kept). FollowsAt (reading_of s table) c.level c.literals) (λ c h. h.follows) stored.clauses f.begun.clauses in
    record {
      steps = f.begun.steps;
      depth = f.begun.depth;
      log = l;
      numbered = subst (λ (q : Reading). stored.trail.atoms ≤ length q.table) (sym r) (at_most stored.trail.atoms (length table) f.begun.atoms);
      over = over;
      follow = subst (λ (q : Reading). All (λ (c : Kept). FollowsAt q c.level c.literals) stored.clauses) (sym r) follow;
    }

-- a hook that knows no atom hears of them
pub heard : (s : Stack) (table : List Atom) → IsGrown (record { trees = s.trees; frames = flat s.frames; table = []; closed = false }) (reading_of s table)
heard s table = record { more = table; is = refl; none = λ e. absurd cc; stays = λ e. absurd cc }

-- the calls of a hook in a search from a new budget on
pub heard_from : (Led : List Spending → Type 0) (k share : ℕ) (v w : Bool) (b c : Spending) → b ≡ record { units = []; limit = k; bound = k; counts_learnt = v; keeps_lines = w; share = share; short = [] }
    → HeardBetween Led b c → IsHeard share Led
heard_from Led k share v w b c e h = record {
  begun = b;
  ended = c;
  units = ap (λ (x : Spending). x.units) e;
  short = ap (λ (x : Spending). x.short) e;
  share_is = ap (λ (x : Spending). x.share) e;
  heard = h;
}

-- ---- a model

pub tables_for : SignatureStays → (s : Stack) (table : List Atom) (q : Reading) (clauses : List Kept) (tables : List Table) → IsGrown (reading_of s table) q → IsModel q clauses tables
    → AreTablesFor (signature_of s.frames) tables
tables_for law s table q clauses tables g m = subst (λ (ds : List Declaration). AreTablesFor ds tables) (law s table q g) m.tables_for

pub holds : FirstClausesSayAssertions → (s : Stack) (table : List Atom) (first : Stored) (q : Reading) (clauses : List Kept) (tables : List Table) → IsFirst s table first → IsGrown (reading_of s table) q
    → AreAmong first.clauses clauses → IsModel q clauses tables → Holds (meaning tables) s.frames
holds law s table first q clauses tables f g among m = law s table first q (meaning tables) f g (λ c k. m.makes_true c (among c k))

pub fit : FlatSaysTheSame → (s : Stack) (table : List Atom) (q : Reading) (clauses : List Kept) (tables : List Table) → IsGrown (reading_of s table) q → IsModel q clauses tables
    → All (Fits (meaning tables)) (assertions_of s.frames)
fit law s table q clauses tables g m =
    subst (All (Fits (meaning tables))) (law s.frames).assertions (subst (λ (r : Reading). All (Fits (meaning tables)) (assertions_of r.frames)) g.is m.fits)
