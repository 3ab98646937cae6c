-- Pivots that are spent, and what follows them in a call.
use Rattle.std.specs.Prelude.{Contains, Option, Some, None}
use Rattle.std.specs.List.{range_with_len}
use Rattle.std.proofs.Common.{◌≡◌, ◌∙◌, ℕ, ◌+◌, ◌≤◌, Bool, true, false, List, [], ◌∷◌, ◌++◌, take, drop, min, length, append_assoc, refl, sym, ap, ap₂, subst, arith}
use Rattle.std.proofs.lemmas.List.{append-nil, length-append, length-map, length-take, take_at, take-append-drop}
use Rattle.std.proofs.lemmas.List.Elements.{All-weaker, All-append, All-map}
use Rattle.fraction128.specs.declared.Line.{Line}
use Rattle.fraction128.specs.Lines.{HasBasis, basis_along, first_basis}
use Rattle.fraction128.specs.Chain.{PivotsLead}
use Rattle.smt_meaning.specs.declared.clauses.Atom.{Atom}
use Rattle.smt_meaning.specs.CheckAtoms.{IsBoundOf}
use Rattle.literals.specs.Signed.{Signed}
use Rattle.search_port.specs.State.{Reading, TheoryState, IsGrown, IsPressing, IsMadeTrue}
use Rattle.search_port.specs.Spending.{Spending}
use Rattle.search_port.specs.Calls.{Goes, IsNoPivot, IsTheoryUnit, AreNews, InferredBy, CheckedBy, numbers}
use Rattle.search_port.specs.declared.budget.Lemma.{Lemma}
use Rattle.search_port.specs.declared.budget.Spent.{Spent}
use Rattle.search_port.specs.declared.budget.Spent.TheVariants.{Learnt, Numbered, Pivot}
use Rattle.search_port.specs.declared.theory.Inferred.{Inferred}
use Rattle.search_port.specs.declared.theory.Inferred.TheVariants.{Quiet, Conflict as InferConflict, Lemmas as InferLemmas, Ended as InferEnded}
use Rattle.search_port.specs.declared.theory.Checked.{Checked}
use Rattle.search_port.specs.declared.theory.Checked.TheVariants.{Fine, Conflict as CheckConflict, Lemmas as CheckLemmas, Ended as CheckEnded}
use Rattle.search_port.specs.Pivots.{pivot_lines, AreBasic, KeepsPivots}
use Rattle.simplex_steps.specs.State.{KeepsBounds}
use Rattle.bound_log.specs.declared.report.Report.{Report}
use Rattle.bound_log.specs.declared.report.Report.TheVariants.{UnitsSpent}
use Rattle.bound_log.specs.Told.{State, column_sums}
use Rattle.bound_log.specs.Pending.{plain_grid}
use Rattle.bound_log.specs.Atoms.{Knows}
use Rattle.bound_log.specs.Pivots.{AddsPivots}
use Rattle.bound_log.specs.Reporting.{SpendsRoom}
use Rattle.closure_log.specs.Seen.{state_of}
use Rattle.theory_combine.specs.declared.held.Held.{Held}
use Rattle.theory_combine.specs.declared.held.Met.TheVariants.{Spent as MetSpent}
use Rattle.theory_combine.specs.declared.held.Meeting.{Meeting}
use Rattle.theory_combine.specs.declared.parts.Parts.{Parts}
use Rattle.theory_combine.specs.declared.parts.Progress.{Progress}
use Rattle.theory_combine.specs.Chained.{HasBoundsOf}
use Rattle.theory_combine.specs.Held.{IsHeld}
use Rattle.theory_combine.specs.Numbering.{table_of}
use Rattle.theory_combine.specs.Pivots.{ArePivotsOf, pivot_units, SpendsPivots}
use Rattle.theory_combine.specs.Columns.{variables_of}
use Rattle.theory_combine.specs.Shown.{AreShown}
use Rattle.theory_combine.specs.Progress.{full_state, state, IsUnderWay, Went}
use Rattle.theory_combine.proofs.Chained.{LeadsWithin, first_lead, said_between, said_over}
use Rattle.theory_combine.proofs.Going.{full_of, held_under_way, to_progress}
use Rattle.theory_combine.proofs.Growing.{chained_made, lines_grown, lines_pivoted, none_told, pivots_made, told_basis}

-- ---- the lines of a check

pub are_pivots : (old new : State) (table : List Atom) (keep : Bool) (made room : ℕ) (r : Report) (m : Meeting) → Knows table old → AddsPivots old new keep made [] m.lines.items → KeepsBounds old.bounds.columns new.bounds.columns → made ≤ room
    → SpendsRoom room made r → (m.met ≡ MetSpent → r ≡ UnitsSpent) → ArePivotsOf old new table keep room m
are_pivots old new table keep made room r m knows adds bounds most spends ended = record {
  pivots = λ e is has. subst (λ ls. PivotsLead (column_sums old) (IsBoundOf (Contains table)) is (Some (plain_grid old)) ls (Some (plain_grid new))) (sym adds.is) (adds.pivots e table is knows has);
  basis = λ e is has. subst (λ ls. HasBasis (basis_along is ls) (plain_grid new)) (sym adds.is) (adds.basis e is has);
  bounds = bounds;
  within = by keep refl;
  none = λ e. adds.is ∙ adds.none e;
  spent = λ e w. ap length adds.is ∙ adds.count e ∙ subst (SpendsRoom room made) (ended w) spends;
}
  where
    by : (z : Bool) → keep ≡ z → length m.lines.items ≤ room
    by true e = omega (arith, most, ap length adds.is ∙ adds.count e)
    by false e = omega (arith, ap length (adds.is ∙ adds.none e))

-- ---- units that number nothing

numbers_append : (us vs : List Spent) → numbers (us ++ vs) ≡ numbers us ++ numbers vs
numbers_append [] vs = refl
numbers_append (Learnt c ∷ us) vs = numbers_append us vs
numbers_append (Numbered n ∷ us) vs = ap (λ ns. n ∷ ns) (numbers_append us vs)
numbers_append (Pivot l ∷ us) vs = numbers_append us vs

pivots_number_none : (ls : List Line) → numbers (pivot_units ls) ≡ []
pivots_number_none [] = refl
pivots_number_none (l ∷ ls) = pivots_number_none ls

-- a call that numbers no atom
none_numbered : (t : TheoryState) (b c : Spending) (h : Goes t t b c) → numbers h.added ≡ []
none_numbered t b c h =
    let size : length t.reading.table ≡ length t.reading.table + length h.grown.more = ap (λ (r : Reading). length r.table) h.grown.is ∙ length-append t.reading.table h.grown.more in
    let none : length h.grown.more ≡ 0 = omega (arith, size) in
    h.numbered ∙ ap (range_with_len (length t.reading.table)) none

-- ---- one after the other

unit_later : (r q : Reading) → IsGrown r q → (u : Spent) → IsTheoryUnit r r u → IsTheoryUnit r q u
unit_later r q g (Learnt c) h = absurd h
unit_later r q g (Numbered n) h = let past = h.0 in let below = h.1 in absurd (omega (arith, past, below))
unit_later r q g (Pivot l) h = tt

with_units : Spending → List Spent → Spending
with_units b us = record b { units = us }

-- a call after one that changed no state
goes_after : (t v : TheoryState) (b c d : Spending) → Goes t t b c → Goes t v c d → Goes t v b d
unfolding with_units
goes_after t v b c d h k =
    let units : c.units ≡ b.units ++ h.added = ap (λ (x : Spending). x.units) h.budget in
    let bound : c.bound ≡ b.bound = ap (λ (x : Spending). x.bound) h.budget in
    let sum : length c.units ≡ length b.units + length h.added = ap length units ∙ length-append b.units h.added in
    let both : length (h.added ++ k.added) ≡ length h.added + length k.added = length-append h.added k.added in
    let room : length c.units + length k.added ≤ c.bound = k.in_bound in
    let paid : length v.reading.table ≤ length t.reading.table + length k.added = k.paid in
    record {
      grown = k.grown;
      log = k.log;
      added = h.added ++ k.added;
      budget = k.budget ∙ ap (λ (x : Spending). with_units x (x.units ++ k.added)) h.budget ∙ ap (with_units b) (append_assoc b.units h.added k.added);
      units = All-append (IsTheoryUnit t.reading v.reading) h.added k.added (All-weaker (IsTheoryUnit t.reading t.reading) (IsTheoryUnit t.reading v.reading) (unit_later t.reading v.reading k.grown) h.added h.units) k.units;
      in_bound = omega (arith, bound, sum, both, room);
      no_pivots = λ e. All-append IsNoPivot h.added k.added (h.no_pivots e) (k.no_pivots (ap (λ (x : Spending). x.keeps_lines) h.budget ∙ e));
      numbered = numbers_append h.added k.added ∙ ap (λ ns. ns ++ numbers k.added) (none_numbered t b c h) ∙ k.numbered;
      paid = omega (arith, both, paid);
    }

pub went_then : (p : Parts) (old middle new : Progress) (b c d : Spending) → state p middle ≡ state p old → Went p old middle b c → Went p middle new c d → Went p old new b d
went_then p old middle new b c d same h k = (
  k.0,
  goes_after (state p old) (state p new) b c d (subst (λ (t : TheoryState). Goes (state p old) t b c) same h.1) (subst (λ (t : TheoryState). Goes t (state p new) c d) same k.1),
  λ e x. k.2 (ap (λ (y : Spending). y.keeps_lines) h.1.budget ∙ e) (h.2 e x),
)

pub units_rise : (t u : TheoryState) (b c : Spending) → Goes t u b c → length b.units ≤ length c.units
units_rise t u b c h = let sum : length c.units ≡ length b.units + length h.added = ap (λ (x : Spending). length x.units) h.budget ∙ length-append b.units h.added in omega (arith, sum)

news_before : (t : TheoryState) (b c d : Spending) (cs : List Lemma) (P : List Signed → Type 0) → length b.units ≤ length c.units → AreNews t c d cs P → AreNews t b d cs P
news_before t b c d cs P less h = record { all = h.all; news = λ none. h.news (omega (arith, less, none)) }

-- what is found after units were spent is found by the call that spent them
pub inferred_before : (t : TheoryState) (b c d : Spending) (i : Inferred) → length b.units ≤ length c.units → InferredBy t c d i → InferredBy t b d i
inferred_before t b c d Quiet less h = h
inferred_before t b c d (InferConflict e) less h = h
inferred_before t b c d (InferLemmas cs) less h = news_before t b c d cs (IsPressing t.log) less h
inferred_before t b c d (InferEnded cause) less h = h

pub checked_before : (t : TheoryState) (b c d : Spending) (i : Checked) → length b.units ≤ length c.units → CheckedBy t c d i → CheckedBy t b d i
checked_before t b c d (Fine tables) less h = h
checked_before t b c d (CheckConflict e) less h = h
checked_before t b c d (CheckLemmas cs) less h = news_before t b c d cs (λ ls. IsMadeTrue t.log ls → ⊥) less h
checked_before t b c d (CheckEnded cause) less h = h

-- ---- pivots

not_false : true ≡ false → ⊥
not_false e = cc

goes_pivots : (t : TheoryState) (b c : Spending) (ls : List Line) → SpendsPivots ls b c → length b.units + length ls ≤ b.bound → b.keeps_lines ≡ true → Goes t t b c
goes_pivots t b c ls spends room keeps =
    let first = take spends.count ls in
    let as_many : length (pivot_units first) ≡ length first = length-map first Pivot in
    let few : length first ≡ min spends.count (length ls) = length-take spends.count ls in
    record {
      grown = record { more = []; is = rw (append-nil t.reading.table); none = λ closed. refl; stays = λ closed. closed };
      log = refl;
      added = pivot_units first;
      budget = spends.is;
      units = All-map (IsTheoryUnit t.reading t.reading) Pivot first (λ k d lt. tt);
      in_bound = omega (arith, as_many, few, room);
      no_pivots = λ e. absurd (not_false (sym keeps ∙ e));
      numbered = pivots_number_none first;
      paid = omega arith;
    }

-- the bounds were met by so many pivots, all of which are spent
pub went_by_units : (p : Parts) (w : Progress) (h : Held) (b c : Spending) (room : ℕ) (m : Meeting) → IsUnderWay p w → IsHeld p.stack.now w.atoms.atoms h → h.closure.log.items ≡ w.held.closure.log.items
    → column_sums h.bounds ≡ column_sums w.held.bounds → ArePivotsOf w.held.bounds h.bounds w.atoms.atoms true room m → HasBoundsOf w.atoms.atoms w.held.closure.log.items w.held.bounds
    → HasBoundsOf w.atoms.atoms h.closure.log.items h.bounds → length b.units + room ≡ b.bound → SpendsPivots m.lines.items b c → c.units ≡ b.units ++ pivot_units m.lines.items → b.keeps_lines ≡ true
    → Went p w (record w { held = h }) b c
went_by_units p w h b c room m u held log sums are was now rest spends all keeps =
    let within : length m.lines.items ≤ room = are.within in
    let lines : pivot_lines c.units ≡ pivot_lines b.units ++ m.lines.items = ap pivot_lines all ∙ lines_pivoted b.units m.lines.items in
    let before : ℕ → Bool = basis_along (first_basis (column_sums w.held.bounds)) (pivot_lines b.units) in (
      to_progress p (record w { held = h }) (held_under_way p w h u held sums),
      subst (λ (ls : List Signed). Goes (state p w) (state_of p.stack.now (table_of w.stopped_at w.atoms.atoms) ls) b c) (sym log) (goes_pivots (state p w) b c m.lines.items spends (omega (arith, within, rest)) keeps),
      subst (λ (o : Option ℕ). KeepsPivots (full_of p.stack.now o w.atoms.atoms w.held.closure.log.items w.held.bounds) (full_of p.stack.now o w.atoms.atoms h.closure.log.items h.bounds) b c) (sym u.2)
          (λ e x. record {
            grid = plain_grid h.bounds;
            of_log = record { bounds = now.said; variables = refl };
            lines =
                chained_made w.atoms.atoms w.held.closure.log.items w.held.bounds h.bounds (Some (plain_grid h.bounds)) b.units c.units m.lines.items x.grid sums was x.of_log.variables x.of_log.bounds x.lines
                (are.pivots refl before (told_basis before w.held.bounds x.basis)) all;
            basis = subst (λ ls. AreBasic (basis_along (first_basis (column_sums h.bounds)) ls) (variables_of None h.bounds)) (sym lines)
                (pivots_made w.held.bounds h.bounds b.units m.lines.items sums (are.basis refl) x.basis);
          }),
    )

-- memory was wanting for one of them, and nothing more is held
pub went_unspent : (p : Parts) (w : Progress) (h : Held) (b c : Spending) (room n : ℕ) (m : Meeting) → IsUnderWay p w → IsHeld p.stack.now w.atoms.atoms h → h.closure.log.items ≡ w.held.closure.log.items
    → column_sums h.bounds ≡ column_sums w.held.bounds → ArePivotsOf w.held.bounds h.bounds w.atoms.atoms true room m → HasBoundsOf w.atoms.atoms w.held.closure.log.items w.held.bounds → length b.units + room ≡ b.bound
    → SpendsPivots m.lines.items b c → n ≡ length w.atoms.atoms → b.keeps_lines ≡ true → Went p w (record w { held = h; stopped_at = Some n }) b c
went_unspent p w h b c room n m u held log sums are was rest spends count keeps =
    let within : length m.lines.items ≤ room = are.within in
    let first : List Line = take spends.count m.lines.items in
    let atoms : w.atoms.atoms ≡ take n w.atoms.atoms = sym (ap (λ k. take k w.atoms.atoms) count ∙ take_all w.atoms.atoms) in
    let table : table_of w.stopped_at w.atoms.atoms ≡ take n w.atoms.atoms = ap (λ (o : Option ℕ). table_of o w.atoms.atoms) u.2 ∙ atoms in
    let same : state p w ≡ state_of p.stack.now (take n w.atoms.atoms) h.closure.log.items = ap₂ (λ (t : List Atom) (ls : List Signed). state_of p.stack.now t ls) table (sym log) in
    let shown : AreShown p.stack.now (column_sums h.bounds) w.branches w.seen (take n w.atoms.atoms) =
    subst (λ (t : List Atom). AreShown p.stack.now (column_sums h.bounds) w.branches w.seen t) atoms (subst (λ xs. AreShown p.stack.now xs w.branches w.seen w.atoms.atoms) (sym sums) u.3) in
    let over : (a : Atom) → Contains w.atoms.atoms a → Contains (take n w.atoms.atoms) a = λ a k. subst (λ (t : List Atom). Contains t a) atoms k in
    let before : ℕ → Bool = basis_along (first_basis (column_sums w.held.bounds)) (pivot_lines b.units) in (
      (u.0, omega (arith, count), shown),
      subst (λ (t : TheoryState). Goes (state p w) t b c) same (goes_pivots (state p w) b c m.lines.items spends (omega (arith, within, rest)) keeps),
      subst (λ (o : Option ℕ). KeepsPivots (full_of p.stack.now o w.atoms.atoms w.held.closure.log.items w.held.bounds) (full_state p (record w { held = h; stopped_at = Some n })) b c) (sym u.2)
          (λ e x.
          (let whole = are.pivots refl before (told_basis before w.held.bounds x.basis) in
          let part : LeadsWithin (column_sums w.held.bounds) (IsBoundOf (Contains w.atoms.atoms)) before (plain_grid w.held.bounds) (plain_grid h.bounds) first =
          first_lead (column_sums w.held.bounds) (IsBoundOf (Contains w.atoms.atoms)) before (plain_grid w.held.bounds) (plain_grid h.bounds) first (drop spends.count m.lines.items)
          (subst (λ ls. PivotsLead (column_sums w.held.bounds) (IsBoundOf (Contains w.atoms.atoms)) before (Some (plain_grid w.held.bounds)) ls (Some (plain_grid h.bounds))) (sym (take-append-drop spends.count m.lines.items)) whole) in
          record {
            grid = part.grid;
            of_log = record {
              bounds = said_over w.atoms.atoms (take n w.atoms.atoms) w.held.closure.log.items h.closure.log.items part.grid atoms (sym log)
                  (said_between w.atoms.atoms w.held.closure.log.items (plain_grid w.held.bounds) part.grid (plain_grid h.bounds) part.earlier part.later are.bounds was.said);
              variables = tt;
            };
            lines =
                lines_grown w.atoms.atoms (take n w.atoms.atoms) over (column_sums h.bounds) [] (column_sums h.bounds) (Some part.grid) c.units (sym (append-nil (column_sums h.bounds)))
                (chained_made w.atoms.atoms w.held.closure.log.items w.held.bounds h.bounds (Some part.grid) b.units c.units first x.grid sums was x.of_log.variables x.of_log.bounds x.lines part.lead
                (ap (λ (d : Spending). d.units) spends.is));
            basis = none_told (basis_along (first_basis (column_sums h.bounds)) (pivot_lines c.units)) h.bounds n;
          })),
    )
  where
    take_all : (xs : List Atom) → take (length xs) xs ≡ xs
    take_all xs = ap (λ ys. take (length xs) ys) (sym (append-nil xs)) ∙ take_at xs [] (length xs) refl
