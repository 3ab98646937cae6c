-- What the outcome of a search says of the assertions.
use Rattle.std.proofs.Common.{◌≡◌, ℕ, zero, suc, ◌<◌, Bool, true, false, ◌||◌, List, [], ◌∷◌, ◌++◌, length, subst, sym, ap, ◌∙◌, arith, refl}
use Rattle.std.proofs.lemmas.List.Elements.{All-weaker}
use Rattle.literals.specs.Signed.{Signed, some_true}
use Rattle.clause_store.specs.Stored.{Kept}
use Rattle.smt_meaning.specs.declared.clauses.Atom.{Atom}
use Rattle.smt_meaning.specs.declared.clauses.Atom.TheVariants.{Truth}
use Rattle.smt_meaning.specs.Term.{Tree, tree_at, Interpretation, value, truth_of}
use Rattle.smt_meaning.specs.Clause.{atom_true}
use Rattle.smt_meaning.specs.Interpretation.{Interprets}
use Rattle.smt_meaning.specs.Stack.{Frame, signature_of, assertions_of, up_to, Holds, Satisfies, no_model}
use Rattle.smt_meaning.specs.StackCommand.{Stack}
use Rattle.search_port.specs.State.{Reading, IsGrown, atom_at, truth}
use Rattle.smt_laws.specs.Flat.{flat, FlatSaysTheSame}
use Rattle.first_clauses.specs.PartClausesFirst.{unit, IsAsserted}
use Rattle.first_clauses.specs.CheckClausesFirst.{reading_of}
use Rattle.first_clauses.specs.Laws.{MakesTrue, FirstClausesSayAssertions, SignatureStays, EmptyClauseMeansNoModel}

-- ---- the reading grows

pub trees_stay : (s : Stack) (table : List Atom) (q : Reading) → IsGrown (reading_of s table) q → q.trees ≡ s.trees
trees_stay s table q g = ap (λ (r : Reading). r.trees) g.is

pub frames_stay : (s : Stack) (table : List Atom) (q : Reading) → IsGrown (reading_of s table) q → q.frames ≡ flat s.frames
frames_stay s table q g = ap (λ (r : Reading). r.frames) g.is

before : (xs ys : List Atom) (n : ℕ) → n < length xs → atom_at (xs ++ ys) n ≡ atom_at xs n
before [] ys n h = absurd (omega (arith, h))
before (x ∷ xs) ys zero h = refl
before (x ∷ xs) ys (suc n) h = before xs ys n (omega (arith, h))

pub atom_stays : (s : Stack) (table : List Atom) (q : Reading) (n : ℕ) → IsGrown (reading_of s table) q → n < length table → atom_at q.table n ≡ atom_at table n
atom_stays s table q n g h = ap (λ (r : Reading). atom_at r.table n) g.is ∙ before table g.more n h

pub same_signature : FlatSaysTheSame → SignatureStays
same_signature same s table q g = ap (λ (r : Reading). signature_of r.frames) g.is ∙ (same s.frames).signature

-- ---- no model

pub none_left : FlatSaysTheSame → EmptyClauseMeansNoModel
none_left same s table q level g f =
    let levels : up_to level q.frames ≡ flat s.frames = ap (up_to level) (frames_stay s table q g) ∙ (same s.frames).every_level level in
    (same s.frames).no_model (no_model (flat s.frames) (λ I i holds.
    differ (f.true_wherever I (subst (λ (fs : List Frame). Interprets (signature_of fs) I) (sym levels) i) (subst (Holds I) (sym levels) holds))))
  where
    differ : false ≡ true → ⊥
    differ e = cc

-- ---- a model

of_or : (b : Bool) → (b || false) ≡ true → b ≡ true
of_or true h = refl
of_or false h = h

truth_stays : (s : Stack) (table : List Atom) (q : Reading) (I : Interpretation) (n p : ℕ) → IsGrown (reading_of s table) q → n < length table → atom_at table n ≡ Truth p
    → truth q I n ≡ truth_of (value I (tree_at s.trees p))
truth_stays s table q I n p g h e =
    ap (λ (ts : List Tree). atom_true ts I (atom_at q.table n)) (trees_stay s table q g) ∙ ap (λ (a : Atom). atom_true s.trees I a) (atom_stays s table q n g h ∙ e)

assertion_holds : (s : Stack) (table : List Atom) (clauses : List Kept) (q : Reading) (I : Interpretation) (t : Tree) → IsGrown (reading_of s table) q → MakesTrue q I clauses
    → IsAsserted s.trees table clauses t → Satisfies I t
assertion_holds s table clauses q I t g m a =
    let made : some_true (truth q I) a.kept.kept.literals ≡ true = m a.kept.kept a.kept.among in
    let unit_made : some_true (truth q I) (unit a.number) ≡ true = subst (λ (ls : List Signed). some_true (truth q I) ls ≡ true) a.kept.literals made in
    subst (Satisfies I) a.term (sym (truth_stays s table q I a.number a.place g a.within a.atom) ∙ of_or (truth q I a.number) unit_made)

pub assertions_hold : FirstClausesSayAssertions
assertions_hold s table first q I f g m =
    All-weaker (IsAsserted s.trees table first.clauses) (Satisfies I) (λ t a. assertion_holds s table first.clauses q I t g m a) (assertions_of s.frames) f.assertions
