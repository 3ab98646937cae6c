-- What a call changes that contracts see.
use Rattle.std.proofs.Common.{◌≡◌, ◌∙◌, ℕ, ◌<◌, ◌≤◌, true, false, List, [], ◌∷◌, ◌++◌, take, length, Contains, None, refl, sym, ap, ap₂, subst, arith}
use Rattle.std.specs.Prelude.{Option, Some, IfSome}
use Rattle.std.proofs.lemmas.List.{append-nil, get_or_push, length_push}
use Rattle.std.proofs.lemmas.List.Elements.{All-nil, All-cons, All-push, Contains-append_left}
use Rattle.fraction128.specs.declared.Summand.{Summand as GridSummand}
use Rattle.fraction128.specs.Lines.{basis_along, first_basis}
use Rattle.fraction128.specs.declared.Line.{Line}
use Rattle.smt_meaning.specs.declared.reports.RangeSeen.{RangeSeen}
use Rattle.literals.specs.Signed.{Signed}
use Rattle.smt_meaning.specs.declared.clauses.Atom.{Atom}
use Rattle.smt_meaning.specs.declared.clauses.Atom.TheVariants.{Truth}
use Rattle.smt_meaning.specs.StackCommand.{Stack}
use Rattle.smt_meaning.specs.CheckAtoms.{AreBranches, AreCheckSums, IsFirstAtom}
use Rattle.smt_laws.specs.Flat.{flat}
use Rattle.search_port.specs.State.{TheoryState, ComparesInts, no_variables}
use Rattle.search_port.specs.Spending.{Spending}
use Rattle.search_port.specs.Calls.{Goes, IsNoPivot, IsTheoryUnit}
use Rattle.search_port.specs.Pivots.{pivot_lines, KeepsPivots}
use Rattle.search_port.specs.declared.budget.Spent.TheVariants.{Numbered}
use Rattle.atom_form.specs.AtomNumbersAtoms.{Atoms}
use Rattle.bound_log.specs.Told.{State, column_sums}
use Rattle.bound_log.specs.Growth.{GrowsVariables}
use Rattle.bound_log.specs.Pending.{plain_grid}
use Rattle.closure_log.specs.Seen.{state_of}
use Rattle.theory_combine.specs.declared.held.Held.{Held}
use Rattle.theory_combine.specs.declared.parts.Parts.{Parts}
use Rattle.theory_combine.specs.declared.parts.Progress.{Progress}
use Rattle.theory_combine.specs.Chained.{BoundsAreSaid}
use Rattle.theory_combine.specs.Columns.{variables_of}
use Rattle.theory_combine.specs.Held.{IsHeld}
use Rattle.theory_combine.specs.Numbering.{table_of, IsNumbered, IsWhole}
use Rattle.theory_combine.specs.Progress.{full_state, state, IsProgress, IsUnderWay, Went}
use Rattle.theory_combine.specs.Shown.{AreShown, IsLeft, IsOfCheck, IsOverLeaves, IsToShow}
use Rattle.theory_combine.proofs.Branching.{each_longer, range_longer}
use Rattle.theory_combine.proofs.Chained.{said_over}
use Rattle.theory_combine.proofs.Growing.{lines_grown, none_told, pivots_on}
use Rattle.theory_combine.proofs.Variables.{leaves_same}

pub goes_still : (t : TheoryState) (b : Spending) → length b.units ≤ b.bound → Goes t t b b
goes_still t b within = record {
  grown = record { more = []; is = rw (append-nil t.reading.table); none = λ closed. refl; stays = λ closed. closed };
  log = refl;
  added = [];
  budget = rw (append-nil b.units);
  units = λ k d lt. absurd (omega arith);
  in_bound = omega arith;
  no_pivots = λ e k d lt. absurd (omega arith);
  numbered = refl;
  paid = omega arith;
}

not_closed : false ≡ true → ⊥
not_closed e = cc

-- one atom more is numbered, and a unit is spent for it
pub goes_one : (s : Stack) (table : List Atom) (a : Atom) (log : List Signed) (b c : Spending) (n : ℕ) → n ≡ length table → c ≡ record b { units = b.units ++ Numbered n ∷ [] } → length b.units < b.bound → ComparesInts s.trees (flat s.frames) a
    → Goes (state_of s table log) (state_of s (table ++ a ∷ []) log) b c
goes_one s table a log b c n count is room ints = record {
  grown = record { more = a ∷ []; is = refl; none = λ closed. absurd (not_closed closed); stays = λ closed. absurd (not_closed closed) };
  log = refl;
  added = Numbered n ∷ [];
  budget = is;
  units = All-cons (IsTheoryUnit (state_of s table log).reading (state_of s (table ++ a ∷ []) log).reading) (Numbered n) [] (omega (arith, count), omega (arith, count, length_push table a), subst (ComparesInts s.trees (flat s.frames)) (sym (get_or_push table a (Truth 0) n (sym count))) ints) (All-nil (IsTheoryUnit (state_of s table log).reading (state_of s (table ++ a ∷ []) log).reading));
  in_bound = omega arith;
  no_pivots = λ e. All-cons IsNoPivot (Numbered n) [] tt (All-nil IsNoPivot);
  numbered = ap (λ k. k ∷ []) count;
  paid = omega (arith, length_push table a);
}

-- another seen
pub shown_seen : (s : Stack) (sums : List (List GridSummand)) (rows : List Line) (left seen : Option RangeSeen) (table : List Atom) → AreShown s sums rows left table → IfSome seen (IsLeft s sums rows)
    → AreShown s sums rows seen table
shown_seen s sums rows left seen table h is_left = record { sums_known = h.sums_known; branches = h.branches; atoms = h.atoms; seen = is_left; leaves = h.leaves }

-- an atom more of the check
pub shown_push : (s : Stack) (sums : List (List GridSummand)) (rows : List Line) (left : Option RangeSeen) (table : List Atom) (a : Atom) → AreShown s sums rows left table → IsToShow s rows a
    → AreShown s sums rows left (table ++ a ∷ [])
shown_push s sums rows left table a h one = record {
  sums_known = h.sums_known;
  branches = h.branches;
  atoms = All-push (IsOfCheck s rows) table a h.atoms one.of_check;
  seen = h.seen;
  leaves = All-push (IsOverLeaves s) table a h.leaves one.leaves;
}

-- with more variables
pub shown_longer : (s : Stack) (sums more later : List (List GridSummand)) (rows : List Line) (left : Option RangeSeen) (table : List Atom) → later ≡ sums ++ more → AreCheckSums s.trees (flat s.frames) later
    → AreShown s sums rows left table → AreShown s later rows left table
shown_longer s sums more later rows left table e known h = record {
  sums_known = known;
  branches = subst (λ xs. AreBranches s.trees (flat s.frames) xs rows) (sym e) (each_longer sums more s.trees (flat s.frames) (IsFirstAtom s.trees (flat s.frames)) rows h.branches);
  atoms = h.atoms;
  seen = by_seen left h.seen;
  leaves = h.leaves;
}
  where
    by_seen : (o : Option RangeSeen) → IfSome o (IsLeft s sums rows) → IfSome o (IsLeft s later rows)
    by_seen None g = tt
    by_seen (Some seen) g = subst (λ xs. IsLeft s xs rows seen) (sym e) (range_longer sums more s.trees (flat s.frames) (IsOfCheck s rows) seen g)

-- ---- what the search has come to

-- a state and the variables of bounds
abbrev pub full_of : Stack → Option ℕ → List Atom → List Signed → State → TheoryState
full_of s o atoms log b = record { reading = (state_of s (table_of o atoms) log).reading; log = log; variables = variables_of o b }

abbrev plain_of : TheoryState → TheoryState
plain_of t = record { reading = t.reading; log = t.log; variables = no_variables }

pub went_same : (p : Parts) (w : Progress) (b : Spending) → IsProgress p w → length b.units ≤ b.bound → Went p w w b b
went_same p w b is within = (is, goes_still (state p w) b within, λ e x. x)

-- where the search hasn't stopped
pub to_progress : (p : Parts) (w : Progress) → IsUnderWay p w → IsProgress p w
to_progress p w u = (
  u.0,
  subst (λ (o : Option ℕ). IsNumbered p.stack.now p.marks.items o w.atoms w.held) (sym u.2) u.1,
  subst (λ (o : Option ℕ). AreShown p.stack.now (column_sums w.held.bounds) w.branches w.seen (table_of o w.atoms.atoms)) (sym u.2) u.3,
)

pub went_still : (p : Parts) (w : Progress) (b : Spending) → IsUnderWay p w → length b.units ≤ b.bound → Went p w w b b
went_still p w b u within = went_same p w b (to_progress p w u) within

-- a state that is seen alike
pub went_after : (p : Parts) (old middle new : Progress) (b c : Spending) → full_state p middle ≡ full_state p old → Went p middle new b c → Went p old new b c
went_after p old middle new b c e h =
    (h.0, subst (λ (t : TheoryState). Goes (plain_of t) (state p new) b c) e h.1, subst (λ (t : TheoryState). KeepsPivots t (full_state p new) b c) e h.2)

-- ---- what is held changes

pub held_under_way : (p : Parts) (w : Progress) (h : Held) → IsUnderWay p w → IsHeld p.stack.now w.atoms.atoms h → column_sums h.bounds ≡ column_sums w.held.bounds → IsUnderWay p (record w { held = h })
held_under_way p w h u held sums =
    (u.0, record { setting = u.1.setting; marked = u.1.marked; held = held; variables = leaves_same p.stack.now p.marks.items w.held.bounds h.bounds sums u.1.variables }, u.2, subst (λ xs. AreShown p.stack.now xs w.branches w.seen w.atoms.atoms) (sym sums) u.3)

goes_held : (p : Parts) (w : Progress) (h : Held) (b : Spending) → h.closure.log.items ≡ w.held.closure.log.items → length b.units ≤ b.bound → Goes (state p w) (state p (record w { held = h })) b b
goes_held p w h b log within =
    subst (λ (ls : List Signed). Goes (state p w) (state_of p.stack.now (table_of w.stopped_at w.atoms.atoms) ls) b b) (sym log) (goes_still (state p w) b within)

not_kept : true ≡ false → ⊥
not_kept e = cc

-- by pivots of which no line is kept
pub went_freely : (p : Parts) (w : Progress) (h : Held) (b : Spending) → IsUnderWay p w → IsHeld p.stack.now w.atoms.atoms h → h.closure.log.items ≡ w.held.closure.log.items → column_sums h.bounds ≡ column_sums w.held.bounds
    → b.keeps_lines ≡ false → length b.units ≤ b.bound → Went p w (record w { held = h }) b b
went_freely p w h b u held log sums free within =
    (to_progress p (record w { held = h }) (held_under_way p w h u held sums), goes_held p w h b log within, λ e x. absurd (not_kept (sym e ∙ free)))

-- ---- atoms more

-- the search stopped at an atom, and this was seen
pub went_stopping : (p : Parts) (w : Progress) (b c : Spending) (n : ℕ) (atoms : Atoms) (h : Held) (seen : Option RangeSeen) → AreShown p.stack.now (column_sums h.bounds) w.branches seen w.atoms.atoms → GrowsVariables w.held.bounds h.bounds → IsUnderWay p w
    → n ≡ length w.atoms.atoms → take (length w.atoms.atoms) atoms.atoms ≡ w.atoms.atoms → length w.atoms.atoms ≤ length atoms.atoms → h.closure.log.items ≡ w.held.closure.log.items → length b.units ≤ b.bound → c ≡ b
    → Went p w (record w { atoms = atoms; stopped_at = Some n; held = h; seen = seen }) b c
went_stopping p w b c n atoms h seen shown grows u count front more log within spent =
    let table : table_of w.stopped_at w.atoms.atoms ≡ take n atoms.atoms =
    ap (λ (o : Option ℕ). table_of o w.atoms.atoms) u.2 ∙ sym front ∙ ap (λ k. take k atoms.atoms) (sym count) in
    let same : state p w ≡ state_of p.stack.now (take n atoms.atoms) h.closure.log.items = ap₂ (λ (t : List Atom) (ls : List Signed). state_of p.stack.now t ls) table (sym log) in
    let still : Goes (state p w) (state_of p.stack.now (take n atoms.atoms) h.closure.log.items) b b = subst (λ (t : TheoryState). Goes (state p w) t b b) same (goes_still (state p w) b within) in
    let fewer : AreShown p.stack.now (column_sums h.bounds) w.branches seen (take n atoms.atoms) =
    subst (λ (t : List Atom). AreShown p.stack.now (column_sums h.bounds) w.branches seen t) (sym front ∙ ap (λ k. take k atoms.atoms) (sym count)) shown in
    let new : Progress = record w { atoms = atoms; stopped_at = Some n; held = h; seen = seen } in
    let keeps : KeepsPivots (full_state p w) (full_state p new) b b =
    λ e x. record {
      grid = x.grid;
      of_log = record { bounds = said_over (table_of w.stopped_at w.atoms.atoms) (take n atoms.atoms) w.held.closure.log.items h.closure.log.items x.grid table (sym log) x.of_log.bounds; variables = tt };
      lines =
          lines_grown (table_of w.stopped_at w.atoms.atoms) (take n atoms.atoms) (λ a k. subst (λ (t : List Atom). Contains t a) table k) (column_sums w.held.bounds) grows.more (column_sums h.bounds) (Some x.grid) b.units
          grows.sums x.lines;
      basis = none_told (basis_along (first_basis (column_sums h.bounds)) (pivot_lines b.units)) h.bounds n;
    } in (
      (u.0, omega (arith, count, more), fewer),
      subst (λ (d : Spending). Goes (state p w) (state_of p.stack.now (take n atoms.atoms) h.closure.log.items) b d) (sym spent) still,
      subst (λ (d : Spending). KeepsPivots (full_state p w) (full_state p new) b d) (sym spent) keeps,
    )

-- an atom more
pub went_on : (p : Parts) (w : Progress) (b c : Spending) (n : ℕ) (a : Atom) (atoms : Atoms) (h : Held) → IsUnderWay p w → IsWhole p.stack.now p.marks.items atoms h → atoms.atoms ≡ w.atoms.atoms ++ a ∷ []
    → h.closure.log.items ≡ w.held.closure.log.items → n ≡ length w.atoms.atoms → c ≡ record b { units = b.units ++ Numbered n ∷ [] } → length b.units < b.bound
    → AreShown p.stack.now (column_sums h.bounds) w.branches w.seen w.atoms.atoms → GrowsVariables w.held.bounds h.bounds → IsToShow p.stack.now w.branches a
    → BoundsAreSaid atoms.atoms h.closure.log.items (plain_grid h.bounds) → Went p w (record w { atoms = atoms; held = h }) b c
went_on p w b c n a atoms h u whole added log count spent room here grows to_show said =
    let shown : AreShown p.stack.now (column_sums h.bounds) w.branches w.seen atoms.atoms =
    subst (λ (t : List Atom). AreShown p.stack.now (column_sums h.bounds) w.branches w.seen t) (sym added) (shown_push p.stack.now (column_sums h.bounds) w.branches w.seen w.atoms.atoms a here to_show) in
    let same : state_of p.stack.now (w.atoms.atoms ++ a ∷ []) w.held.closure.log.items ≡ state_of p.stack.now atoms.atoms h.closure.log.items =
    ap₂ (λ (t : List Atom) (ls : List Signed). state_of p.stack.now t ls) (sym added) (sym log) in
    let front : (x : Atom) → Contains w.atoms.atoms x → Contains atoms.atoms x = λ x k. subst (λ (t : List Atom). Contains t x) (sym added) (Contains-append_left w.atoms.atoms (a ∷ []) x k) in
    let units : c.units ≡ b.units ++ Numbered n ∷ [] = ap (λ (d : Spending). d.units) spent in (
      (
        u.0,
        subst (λ (o : Option ℕ). IsNumbered p.stack.now p.marks.items o atoms h) (sym u.2) whole,
        subst (λ (o : Option ℕ). AreShown p.stack.now (column_sums h.bounds) w.branches w.seen (table_of o atoms.atoms)) (sym u.2) shown,
      ),
      subst (λ (o : Option ℕ). Goes (state_of p.stack.now (table_of o w.atoms.atoms) w.held.closure.log.items) (state_of p.stack.now (table_of o atoms.atoms) h.closure.log.items) b c) (sym u.2)
          (subst (λ (t : TheoryState). Goes (state_of p.stack.now w.atoms.atoms w.held.closure.log.items) t b c) same (goes_one p.stack.now w.atoms.atoms a w.held.closure.log.items b c n count spent room to_show.ints)),
      subst (λ (o : Option ℕ). KeepsPivots (full_of p.stack.now o w.atoms.atoms w.held.closure.log.items w.held.bounds) (full_of p.stack.now o atoms.atoms h.closure.log.items h.bounds) b c) (sym u.2)
          (λ e x.
          (let r = pivots_on w.atoms.atoms atoms.atoms front w.held.bounds h.bounds (Some x.grid) b.units c.units n grows units x.lines x.basis in
          record { grid = plain_grid h.bounds; of_log = record { bounds = said; variables = refl }; lines = r.0; basis = r.1 })),
    )
