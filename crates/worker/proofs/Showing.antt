-- What a search over a stack shows where it ends without an answer.
use Rattle.std.proofs.Common.{◌≡◌, inl, inr, ◌⊎◌, ℕ, suc, ◌+◌, ◌<◌, Bool, true, false, not, ◌||◌, List, [], ◌∷◌, ◌++◌, map, length, All, Contains, get_or, subst, sym, ap, ◌∙◌, arith, refl}
use Rattle.std.specs.Prelude.{ℤ, Option, Some, None, IfSome}
use Rattle.std.specs.List.{range_with_len}
use Rattle.std.proofs.lemmas.List.{append-nil, length-map, length-append}
use Rattle.std.proofs.lemmas.List.Elements.{All-nil, All-head, All-tail, All-weaker, All-contains, Contains-append_right}
use Rattle.literals.specs.Signed.{Signed}
use Rattle.clause_store.specs.Stored.{Kept, Stored}
use Rattle.fraction128.specs.declared.Summand.{Summand}
use Rattle.fraction128.specs.declared.Line.{Line}
use Rattle.fraction128.specs.declared.Grid.{Grid}
use Rattle.fraction128.specs.Lines.{Bounding, exchanged, first_basis}
use Rattle.fraction128.specs.Chain.{left_by}
use Rattle.smt_meaning.specs.declared.clauses.Atom.{Atom}
use Rattle.smt_meaning.specs.declared.clauses.Atom.TheVariants.{Truth}
use Rattle.smt_meaning.specs.declared.clauses.Literal.{Literal}
use Rattle.smt_meaning.specs.declared.reports.Unit.{Unit as ShownUnit}
use Rattle.smt_meaning.specs.declared.reports.RangeSeen.{RangeSeen}
use Rattle.smt_meaning.specs.Term.{Tree}
use Rattle.smt_meaning.specs.Stack.{Frame, assertions_of, depth}
use Rattle.smt_meaning.specs.StackCommand.{Stack}
use Rattle.smt_meaning.specs.Atoms.{stack_atoms}
use Rattle.smt_meaning.specs.CheckAtoms.{IsBoundOf, IsCheckAtom}
use Rattle.smt_meaning.specs.Ranges.{LeavesRange}
use Rattle.smt_meaning.specs.Report.{IsPastRange, IsUnit, AreUnits, AreChained, is_unlimited, most_units}
use Rattle.scope_stack.specs.Shown.{IsLawful}
use Rattle.search_port.specs.State.{Reading, TheoryState, IsGrown, atom_at}
use Rattle.search_port.specs.Showing.{IsShowing}
use Rattle.search_port.specs.Spending.{Spending}
use Rattle.search_port.specs.Valid.{FollowsAt, FollowsAsWritten}
use Rattle.search_port.specs.Forcing.{ForcesByNumbers, ForcesInTurn}
use Rattle.search_port.specs.Calls.{IsNoPivot, numbers}
use Rattle.search_port.specs.Pivots.{ArePivots, AreChained as AreChainedSpent}
use Rattle.search_port.specs.declared.shown.Showing.{Showing}
use Rattle.search_port.specs.declared.budget.Spent.{Spent}
use Rattle.search_port.specs.declared.budget.Spent.TheVariants.{Learnt, Numbered, Pivot}
use Rattle.search_port.proofs.Pivots.{bound_by, chained_by}
use Rattle.smt_laws.specs.Flat.{flat, FlatSaysTheSame}
use Rattle.check_atoms.specs.Laws.{IsSameOfNoInts}
use Rattle.first_clauses.specs.PartClausesFirst.{ForcesParts, IsAsserted, IsForced, written_literal}
use Rattle.first_clauses.specs.CheckClausesFirst.{reading_of, IsFirst}
use Rattle.cdcl_core.specs.Search.{literal_lists}
use Rattle.cdcl_core.specs.Turns.{AreNew, ChainsPivots, IsShown, IsOfTheory, Searches}
use Rattle.worker.specs.Shown.{HasStackAtoms, unit_of, IsOfNumbers, ShowsUnits}
use Rattle.search_port.proofs.Forcing.{Split, all_of, split}
use Rattle.worker.proofs.Lists.{IsAfter, in_order, at_any, first_or_later, front_in, in_middle}
use Rattle.worker.proofs.Numbers.{same_front}
use Rattle.worker.proofs.SameStack.{check_atom_by, branches_by, range_by, sums_by}
use Rattle.worker.proofs.Units.{IsLast, learnt, newly_numbered, new_at, new_front, numbers_of_both}

-- the laws that are cited
pub record Laws : Type 0 where
  pub as_written : FollowsAsWritten
  pub by_numbers : ForcesByNumbers
  pub in_turn : ForcesInTurn
  pub flatly : FlatSaysTheSame

only_first : (a b : Bool) → b ≡ false → (a || b) ≡ a
only_first true b e = refl
only_first false b e = e

-- how a budget of this limit begins where nothing is forgotten
pub record IsBudget (limit : ℤ) (b : Spending) : Type 0 where
  pub units : b.units ≡ []
  pub limit_is : b.limit ≡ most_units limit
  pub counts : b.counts_learnt ≡ not (is_unlimited limit)
  pub keeps : b.keeps_lines ≡ not (is_unlimited limit)

pub budget_of : (limit : ℤ) (b : Spending) (k share : ℕ) (v forgets : Bool) → b ≡ record { units = []; limit = k; bound = k; counts_learnt = v || forgets; keeps_lines = v; share = share; short = [] }
    → forgets ≡ false → k ≡ most_units limit → v ≡ not (is_unlimited limit) → IsBudget limit b
budget_of limit b k share v forgets e kept most counts = record {
  units = ap (λ (x : Spending). x.units) e;
  limit_is = ap (λ (x : Spending). x.limit) e ∙ most;
  counts = ap (λ (x : Spending). x.counts_learnt) e ∙ (only_first v forgets kept ∙ counts);
  keeps = ap (λ (x : Spending). x.keeps_lines) e ∙ counts;
}

-- ---- what a theory shows, by the levels of the stack

seen_by : FlatSaysTheSame → (s : Stack) (sums : List (List Summand)) (branches : List Line) (seen : Option RangeSeen)
    → IfSome seen (LeavesRange s.trees (flat s.frames) sums (IsCheckAtom s.trees (flat s.frames) branches)) → IfSome seen (LeavesRange s.trees s.frames sums (IsCheckAtom s.trees s.frames branches))
seen_by flatly s sums branches None h = tt
seen_by flatly s sums branches (Some seen) h = range_by s.trees (flat s.frames) s.frames (flatly s.frames).signature (flatly s.frames).assertions sums branches seen h

abbrev with_levels : List Tree → List Frame → TheoryState → TheoryState
with_levels ts fs t = record { reading = record { trees = ts; frames = fs; table = t.reading.table; closed = t.reading.closed }; log = t.log; variables = t.variables }

abbrev pub by_levels : Stack → TheoryState → TheoryState
by_levels s t = with_levels s.trees s.frames t

pub shown_by_levels : FlatSaysTheSame → (s : Stack) (t : TheoryState) (x : Showing) → t.reading.trees ≡ s.trees → t.reading.frames ≡ flat s.frames → IsShowing t x → IsShowing (by_levels s t) x
shown_by_levels flatly s t x trees frames h =
    let flatly_shown : IsShowing (with_levels s.trees (flat s.frames) t) x =
    subst (λ (fs : List Frame). IsShowing (with_levels s.trees fs t) x) frames (subst (λ (ts : List Tree). IsShowing (with_levels ts t.reading.frames t) x) trees h) in
    record {
      sums = sums_by s.trees (flat s.frames) s.frames (flatly s.frames).signature (flatly s.frames).assertions t.variables.sums flatly_shown.sums;
      branches = branches_by s.trees (flat s.frames) s.frames (flatly s.frames).signature (flatly s.frames).assertions t.variables.sums x.branches flatly_shown.branches;
      atoms = All-weaker (IsCheckAtom s.trees (flat s.frames) x.branches) (IsCheckAtom s.trees s.frames x.branches)
          (check_atom_by s.trees (flat s.frames) s.frames (flatly s.frames).signature (flatly s.frames).assertions x.branches) t.reading.table flatly_shown.atoms;
      different = flatly_shown.different;
      seen = seen_by flatly s t.variables.sums x.branches x.seen flatly_shown.seen;
    }

-- what the theory has seen leave the range
pub past_range : FlatSaysTheSame → (s : Stack) (t : TheoryState) (x : Showing) (seen : RangeSeen) → t.reading.trees ≡ s.trees → t.reading.frames ≡ flat s.frames → IsShowing t x → x.seen ≡ Some seen
    → IsPastRange s.trees s.frames x.branches seen
past_range flatly s t x seen trees frames h is =
    let shown : IsShowing (by_levels s t) x = shown_by_levels flatly s t x trees frames h in
    record {
      sums = t.variables.sums;
      known = shown.sums;
      are_branches = shown.branches;
      leaves = subst (λ (o : Option RangeSeen). IfSome o (LeavesRange s.trees s.frames t.variables.sums (IsCheckAtom s.trees s.frames x.branches))) is shown.seen;
    }

-- ---- units with their atoms written out hang together as they do

module _ (sums : List (List Summand)) (B : Bounding) (table : List Atom) (level : ℕ) where
  chained_written : (is : ℕ → Bool) (here there : Option Grid) (us : List Spent) → AreChainedSpent sums B is here us there → AreChained sums B is here (map (unit_of table level) us)
  chained_written is here there [] h = tt
  chained_written is here there (Learnt c ∷ us) h = chained_written is None there us h
  chained_written is here there (Numbered n ∷ us) h = chained_written is None there us h
  chained_written is here there (Pivot l ∷ us) h = (h.0, h.1, chained_written (exchanged l is) (Some (left_by h.0)) there us h.2)

  -- without a pivot among them nothing is asked
  chained_free : (is : ℕ → Bool) (here : Option Grid) (us : List Spent) → All IsNoPivot us → AreChained sums B is here (map (unit_of table level) us)
  chained_free is here [] free = tt
  chained_free is here (Learnt c ∷ us) free = chained_free is None us (All-tail IsNoPivot (Learnt c) us free)
  chained_free is here (Numbered n ∷ us) free = chained_free is None us (All-tail IsNoPivot (Numbered n) us free)
  chained_free is here (Pivot l ∷ us) free = absurd (All-head IsNoPivot (Pivot l) us free)

-- over more atoms
chained_over : (Is Js : Atom → Type 0) → ((a : Atom) → Is a → Js a) → (sums : List (List Summand)) (is : ℕ → Bool) (there : Option Grid) (us : List Spent)
    → AreChainedSpent sums (IsBoundOf Is) is None us there → AreChainedSpent sums (IsBoundOf Js) is None us there
chained_over Is Js more sums is there us h =
    subst (λ xs. AreChainedSpent xs (IsBoundOf Js) is None us there) (append-nil sums) (chained_by (IsBoundOf Is) (IsBoundOf Js) (bound_by Is Js more) sums [] None there us is is (λ i lt. refl) h)

-- ---- the first clauses by a longer table

module _ (s : Stack) (table more : List Atom) where
  same_literals : (ls : List Signed) → All (λ (l : Signed). l.atom < length table) ls → map (written_literal (table ++ more)) ls ≡ map (written_literal table) ls
  same_literals [] h = refl
  same_literals (l ∷ ls) h =
      ap (λ (a : Atom). record { atom = a; positive = l.positive } ∷ map (written_literal (table ++ more)) ls) (same_front table more l.atom (h 0 l (omega arith)))
      ∙ ap (λ (ms : List Literal). written_literal table l ∷ ms) (same_literals ls (λ k d lt. h (suc k) d (omega (arith, lt))))

  longer : (n : ℕ) → n < length table → n < length (table ++ more)
  longer n h = let size : length (table ++ more) ≡ length table + length more = length-append table more in omega (arith, h, size)

  forces_longer : (known : List (List Signed)) → ForcesParts s table known → ForcesParts s (table ++ more) known
  forces_longer known h o us ss part clause =
      let f : IsForced table known ss = h o us ss part clause in
      record {
        literals = f.literals;
        within = All-weaker (λ (l : Signed). l.atom < length table) (λ (l : Signed). l.atom < length (table ++ more)) (λ l k. longer l.atom k) f.literals f.within;
        reads = same_literals f.literals f.within ∙ f.reads;
        some = f.some;
        forced = f.forced;
      }

  asserted_longer : (clauses : List Kept) (t : Tree) → IsAsserted s.trees table clauses t → IsAsserted s.trees (table ++ more) clauses t
  asserted_longer clauses t h = record {
    number = h.number;
    place = h.place;
    within = longer h.number h.within;
    atom = same_front table more h.number h.within ∙ h.atom;
    term = h.term;
    kept = h.kept;
  }

-- ---- the reading stays

pub trees_stay : (s : Stack) (before after : Reading) → before ≡ reading_of s before.table → IsGrown before after → after.trees ≡ s.trees
trees_stay s before after begins grown = ap (λ (r : Reading). r.trees) grown.is ∙ ap (λ (r : Reading). r.trees) begins

pub frames_stay : (s : Stack) (before after : Reading) → before ≡ reading_of s before.table → IsGrown before after → after.frames ≡ flat s.frames
frames_stay s before after begins grown = ap (λ (r : Reading). r.frames) grown.is ∙ ap (λ (r : Reading). r.frames) begins

-- ---- units

all_shown : (before after : Reading) (b c : Spending) → b.units ≡ [] → (All (IsShown before) b.units → All (IsShown after) c.units) → All (IsShown after) c.units
all_shown before after b c none shown = shown (subst (λ (us : List Spent). All (IsShown before) us) (sym none) (All-nil (IsShown before)))

pub of_numbers : (before after : Reading) (b c : Spending) → b.units ≡ [] → (All (IsShown before) b.units → All (IsShown after) c.units) → All (IsOfNumbers (length after.table)) c.units
of_numbers before after b c none shown = λ k d lt. one (get_or c.units k d) (all_shown before after b c none shown k d lt)
  where
    one : (y : Spent) → IsShown after y → IsOfNumbers (length after.table) y
    one (Learnt d) h = all_of (λ (l : Signed). l.atom < length after.table) d.literals (λ l k. h.0.1.within l k)
    one (Numbered n) h = h.0
    one (Pivot l) h = tt

-- there is a limit where one of the units is none of those that there are without one
limited : (P : Spent → Type 0) (counts v : Bool) (us vs : List Spent) (x : Spent) → counts ≡ not v → us ≡ [] → (counts ≡ false → All P us → All P vs) → Contains vs x → (P x → ⊥) → v ≡ false
limited P counts false us vs x e none free among other = refl
limited P counts true us vs x e none free among other = absurd (other (All-contains P vs x (free e (subst (λ (ws : List Spent). All P ws) (sym none) (All-nil P))) among))

has_number : (us : List Spent) (m : ℕ) → Contains us (Numbered m) → Contains (numbers us) m
has_number [] m h = absurd (omega (arith, h.1))
has_number (Learnt c ∷ us) m h = first_or_later (Contains (numbers us) m) (Learnt c) (Numbered m) us (λ e. absurd cc) (λ later. has_number us m later) h
has_number (Pivot l ∷ us) m h = first_or_later (Contains (numbers us) m) (Pivot l) (Numbered m) us (λ e. absurd cc) (λ later. has_number us m later) h
has_number (Numbered n ∷ us) m h =
    first_or_later (Contains (n ∷ numbers us) m) (Numbered n) (Numbered m) us (λ e. subst (Contains (n ∷ numbers us)) (number_is e) (in_middle [] (numbers us) n))
    (λ later. Contains-append_right (n ∷ []) (numbers us) m (has_number us m later)) h
  where
    number_of : Spent → ℕ
    number_of (Learnt c) = 0
    number_of (Numbered k) = k
    number_of (Pivot l) = 0

    number_is : Numbered n ≡ Numbered m → n ≡ m
    number_is e = ap number_of e

module _ (laws : Laws) (s : Stack) (stored new : Stored) (lawful : IsLawful s) (limit : ℤ) (t u : TheoryState) (b c : Spending) (first : IsFirst s t.reading.table stored)
    (all : HasStackAtoms s t.reading.table) (begins : t.reading ≡ reading_of s t.reading.table) (unpivoted : ArePivots t []) (budget : IsBudget limit b)
    (run : Searches false stored new t u b c) (chains : ChainsPivots t u b c) where
  abbrev more : List Atom
  more = run.turns.grown.more

  table_is : u.reading.table ≡ t.reading.table ++ more
  table_is = ap (λ (r : Reading). r.table) run.turns.grown.is

  shown_all : All (IsShown u.reading) c.units
  shown_all = all_shown t.reading u.reading b c budget.units run.turns.shown

  numbers_are : numbers c.units ≡ range_with_len (length t.reading.table) (length more)
  numbers_are = run.turns.numbered ∙ ap (λ us. numbers us ++ range_with_len (length t.reading.table) (length more)) budget.units

  first_number : (a : Atom) → Contains t.reading.table a → (m : ℕ) × (m < length t.reading.table) × (atom_at u.reading.table m ≡ a)
  first_number a k = (k.0, k.1, ap (λ (xs : List Atom). atom_at xs k.0) table_is ∙ same_front t.reading.table more k.0 k.1 ∙ at_any t.reading.table k.0 (Truth 0) a k.1 ∙ k.2)

  of_stack : (a : Atom) → Contains (stack_atoms s.trees s.frames) a → ((m : ℕ) × (m < length t.reading.table) × (atom_at u.reading.table m ≡ a)) ⊎ IsSameOfNoInts s a
  of_stack a h = elim (all a h) [ inl k ↦ inl (first_number a k) | inr b ↦ inr b ]

  -- where there is a limit, the pivots go on from what there was before any, and without one there are none
  abbrev IsPivotList : Bool → Type 0
  IsPivotList true = All IsNoPivot c.units
  IsPivotList false = ArePivots u c.units

  are_pivots : (v : Bool) → is_unlimited limit ≡ v → IsPivotList v
  are_pivots true e = run.turns.spends.no_pivots (budget.keeps ∙ ap not e) (subst (λ (us : List Spent). All IsNoPivot us) (sym budget.units) (All-nil IsNoPivot))
  are_pivots false e = chains (budget.counts ∙ ap not e) (budget.keeps ∙ ap not e) (subst (λ (us : List Spent). ArePivots t us) (sym budget.units) unpivoted)

  module _ (x : Showing) (shown : IsShowing (by_levels s u) x) where
    last : IsLast s x.branches stored u.reading
    last = record {
      trees = trees_stay s t.reading u.reading begins run.turns.grown;
      frames = frames_stay s t.reading u.reading begins run.turns.grown;
      apart = shown.different;
      atoms = shown.atoms;
      forced = subst (λ (table : List Atom). ForcesParts s table (literal_lists stored.clauses)) (sym table_is) (forces_longer s t.reading.table more (literal_lists stored.clauses) first.forced);
      assertions = subst (λ (table : List Atom). All (IsAsserted s.trees table stored.clauses) (assertions_of s.frames)) (sym table_is)
          (All-weaker (IsAsserted s.trees t.reading.table stored.clauses) (IsAsserted s.trees (t.reading.table ++ more) stored.clauses) (asserted_longer s t.reading.table more stored.clauses) (assertions_of s.frames)
          first.assertions);
      follow = λ k among. All-contains (λ (d : Kept). FollowsAt u.reading d.level d.literals) new.clauses k run.turns.stands.follow (run.stay k among);
    }

    one_unit : (before after : List Spent) (y : Spent) → c.units ≡ before ++ y ∷ after
        → IsUnit s.trees s.frames x.branches limit (map (unit_of u.reading.table (depth s.frames)) before) (unit_of u.reading.table (depth s.frames) y)
    one_unit before after (Numbered n) e =
        let here : Contains c.units (Numbered n) = subst (λ us. Contains us (Numbered n)) (sym e) (in_middle before after (Numbered n)) in
        let order : IsAfter (length t.reading.table) n (numbers before) =
        in_order (numbers before) (numbers after) n (length t.reading.table) (length more) (sym (numbers_of_both before (Numbered n ∷ after)) ∙ ap numbers (sym e) ∙ numbers_are) in
        let is_shown : IsShown u.reading (Numbered n) = All-contains (IsShown u.reading) c.units (Numbered n) shown_all here in
        newly_numbered s x.branches stored u.reading last lawful (length t.reading.table) of_stack n order.from is_shown.0 laws.flatly is_shown.1 before
        (λ m among. All-contains (λ k. k < n) (numbers before) m order.greater (has_number before m among)) (depth s.frames)
    one_unit before after (Learnt d) e =
        let here : Contains c.units (Learnt d) = subst (λ us. Contains us (Learnt d)) (sym e) (in_middle before after (Learnt d)) in
        let news : AreNew false stored.clauses [] (before ++ Learnt d ∷ after) = subst (AreNew false stored.clauses []) e (run.new_units budget.units) in
        learnt s x.branches stored u.reading last lawful laws.as_written laws.by_numbers laws.in_turn laws.flatly limit
        (limited IsOfTheory b.counts_learnt (is_unlimited limit) b.units c.units (Learnt d) budget.counts budget.units run.turns.spends.free here (λ h. h)) before d
        (front_in (IsShown u.reading) before (Learnt d ∷ after) (subst (λ (us : List Spent). All (IsShown u.reading) us) e shown_all)) (All-contains (IsShown u.reading) c.units (Learnt d) shown_all here)
        (new_front stored.clauses [] before (Learnt d ∷ after) news) (new_at stored.clauses [] before after (Learnt d) news)
    one_unit before after (Pivot l) e =
        let here : Contains c.units (Pivot l) = subst (λ us. Contains us (Pivot l)) (sym e) (in_middle before after (Pivot l)) in
        limited IsNoPivot b.keeps_lines (is_unlimited limit) b.units c.units (Pivot l) budget.keeps budget.units run.turns.spends.no_pivots here (λ h. h)

    are_units : AreUnits s.trees s.frames x.branches limit (map (unit_of u.reading.table (depth s.frames)) c.units)
    are_units before after y e =
        let r : Split (unit_of u.reading.table (depth s.frames)) c.units before after y = split (unit_of u.reading.table (depth s.frames)) c.units before after y e in
        subst (λ (us : List ShownUnit). IsUnit s.trees s.frames x.branches limit us y) r.front_is
        (subst (IsUnit s.trees s.frames x.branches limit (map (unit_of u.reading.table (depth s.frames)) r.front)) r.one_is (one_unit r.front r.back r.one r.is))

    are_chained : (v : Bool) → is_unlimited limit ≡ v
        → AreChained u.variables.sums (IsBoundOf (IsCheckAtom s.trees s.frames x.branches)) (first_basis u.variables.sums) None (map (unit_of u.reading.table (depth s.frames)) c.units)
    are_chained true e = chained_free u.variables.sums _ u.reading.table (depth s.frames) (first_basis u.variables.sums) None c.units (are_pivots true e)
    are_chained false e =
        let sums = u.variables.sums in
        let pivots : ArePivots u c.units = are_pivots false e in
        chained_written sums _ u.reading.table (depth s.frames) (first_basis sums) None (Some pivots.grid) c.units
        (chained_over (Contains u.reading.table) (IsCheckAtom s.trees s.frames x.branches) (λ a k. All-contains (IsCheckAtom s.trees s.frames x.branches) u.reading.table a shown.atoms k) sums (first_basis sums)
        (Some pivots.grid) c.units pivots.lines)

  pub shows_units : length c.units ≡ c.limit → ShowsUnits s limit u c.units
  shows_units spent x h =
      let shown : IsShowing (by_levels s u) x = shown_by_levels laws.flatly s u x (trees_stay s t.reading u.reading begins run.turns.grown) (frames_stay s t.reading u.reading begins run.turns.grown) h in
      record {
        count = length-map c.units (unit_of u.reading.table (depth s.frames)) ∙ (spent ∙ (run.turns.limit ∙ budget.limit_is));
        sums = u.variables.sums;
        known = shown.sums;
        are_branches = shown.branches;
        units = are_units x shown;
        chained = are_chained x shown (is_unlimited limit) refl;
      }
