-- Conflicts by tags as conflicts of bounds told; and what a check finds.
use Rattle.std.proofs.Common.{◌≡◌, ◌≢◌, ℕ, ◌<◌, inl, inr, List, map, length, get_or, ℤ, pos, Option, Some, None, sym, ap, subst, ◌∙◌, refl, arith}
use Rattle.std.specs.Prelude.{All, AllPairs, Contains}
use Rattle.std.proofs.lemmas.List.{get_or-map, length-map}
use Rattle.std.proofs.lemmas.List.Elements.{Contains-get_or}
use Rattle.fraction128.specs.declared.ratio.Ratio.{Ratio}
use Rattle.fraction128.specs.declared.Column.{Column}
use Rattle.fraction128.specs.declared.Bound.{Bound}
use Rattle.fraction128.specs.declared.Side.{Side}
use Rattle.fraction128.specs.declared.Side.TheVariants.{Lower, Upper}
use Rattle.fraction128.specs.Lines.{IsPositive}
use Rattle.simplex.specs.declared.trail.Set.{Set}
use Rattle.simplex.specs.declared.trail.Held.{Held}
use Rattle.simplex.specs.Trail.{tightest, number_of, set_at, no_set}
use Rattle.literals.specs.Signed.{Signed, opposite, unpacked}
use Rattle.simplex_steps.specs.State.{column_in}
use Rattle.simplex_steps.specs.Conflict.{Stands, MeetsBound, IsConflict as IsRowConflict}
use Rattle.simplex.specs.Sums.{HaveOwnSums, column_values}
use Rattle.fraction128.proofs.SumValues.{sum_positive_value}
use Rattle.simplex.specs.State as Simplex
use Rattle.simplex.specs.State.{HasBounds, tag_in, tag_or, IsTagged, SpendsRoom as SpendsSimplex}
use Rattle.simplex.specs.declared.state.Verdict.{Verdict}
use Rattle.simplex.specs.declared.state.Verdict.TheVariants.{Fits as AllFit, Conflict as Clash, Range as NoFit, UnitsSpent as Spent, Memory as NoMemory}
use Rattle.sum_bounds.specs.declared.finding.Finding.{Finding}
use Rattle.sum_bounds.specs.declared.finding.Finding.TheVariants.{Fits, Conflict, Range, UnitsSpent, Memory}
use Rattle.sum_bounds.specs.Bounds.{Told, State, told_of, MeetsSide, Meets, IsConflict, AllMet, Judges, SpendsRoom}
use Rattle.sum_bounds.specs.Complements.{IsClauseOf, complement}
use Rattle.sum_bounds.specs.Finding.{IsFound, IsConflictOf}
use Rattle.sum_bounds.proofs.Tightest.{IsAmong, tightest_among}
use Rattle.sum_bounds.proofs.Values.{HaveBounds, met_from_within, sums_meet}

-- ---- bounds that stand were told

-- a bound that stands, as it was told
unfoldable pub told_in : List Set → Bound → Told
told_in bs b = record { literal = unpacked (tag_in bs b); variable = b.variable; side = b.side; number = b.number }

side_number : Side → Column → Option ℤ
side_number Lower c = c.lower
side_number Upper c = c.upper

stands_at : (cs : List Column) (i : ℕ) (s : Side) (k : ℤ) → Stands cs (record { variable = i; side = s; number = k }) → (i < length cs) × (side_number s (column_in cs i) ≡ Some k)
unfolding side_number
stands_at cs i Lower k h = h
stands_at cs i Upper k h = h

meets_at : (v : ℕ → Ratio) (i : ℕ) (s : Side) (k : ℤ) → MeetsSide s k (v i) → MeetsBound v (record { variable = i; side = s; number = k })
meets_at v i Lower k h = h
meets_at v i Upper k h = h

side_tightest : (bs : List Set) (i : ℕ) (s : Side) (c : Column) → HasBounds bs i c → side_number s c ≡ number_of (tightest bs i s)
unfolding side_number
side_tightest bs i Lower c h = h.lower
side_tightest bs i Upper c h = h.upper

held_by : (o : Option Held) (k : ℤ) → number_of o ≡ Some k → (h : Held) × (o ≡ Some h) × (h.number ≡ k)
held_by (Some h) k e = (h, refl, cc)
held_by None k e = absurd (cc)

told_is : (bs : List Set) (b : Bound) (h : Held) → tightest bs b.variable b.side ≡ Some h → h.number ≡ b.number → IsAmong bs b.variable b.side h → Contains (map told_of bs) (told_in bs b)
unfolding told_in
told_is bs b h is number a =
    let t = told_in bs b in
    let x = set_at bs a.place in
    let tag : x.tag ≡ tag_in bs b = a.tag ∙ sym (ap tag_or is) in
    (a.place, let l = a.in_list in omega (arith, l, length-map bs told_of), get_or-map told_of bs a.place no_set t a.in_list ∙ same x tag a.variable a.side (a.number ∙ number))
  where
    same : (x : Set) → x.tag ≡ tag_in bs b → x.variable ≡ b.variable → x.side ≡ b.side → x.number ≡ b.number → told_of x ≡ told_in bs b
    same x tag v s n =
        ap (λ (m : ℕ). let t : Told = record { literal = unpacked m; variable = x.variable; side = x.side; number = x.number } in t) tag
        ∙ ap (λ (i : ℕ). let t : Told = record { literal = unpacked (tag_in bs b); variable = i; side = x.side; number = x.number } in t) v
        ∙ ap (λ (r : Side). let t : Told = record { literal = unpacked (tag_in bs b); variable = b.variable; side = r; number = x.number } in t) s
        ∙ ap (λ (k : ℤ). let t : Told = record { literal = unpacked (tag_in bs b); variable = b.variable; side = b.side; number = k } in t) n

pub stood : (cs : List Column) (bs : List Set) (b : Bound) → HaveBounds cs bs → Stands cs b → Contains (map told_of bs) (told_in bs b)
stood cs bs b has st =
    let at = stands_at cs b.variable b.side b.number st in
    let c = column_in cs b.variable in
    let r = held_by (tightest bs b.variable b.side) b.number (sym (side_tightest bs b.variable b.side c (has b.variable at.0)) ∙ at.1) in
    told_is bs b r.0 r.1 r.2 (tightest_among bs b.variable b.side r.0 r.1)

-- ---- conflicts

no_bound : Bound
no_bound = record { variable = 0; side = Lower; number = pos 0 }

all_stand : (s : Simplex.State) (bounds : List Bound) → IsRowConflict s.table.rows s.columns bounds → All (Stands s.columns) bounds
all_stand s bounds (inl r) = r.stand
all_stand s bounds (inr r) = r.stand

not_all : (s : Simplex.State) (bounds : List Bound) (w : ℕ → Ratio) → Simplex.IsState s → IsRowConflict s.table.rows s.columns bounds → IsPositive w → All (MeetsBound (column_values w s.columns)) bounds → ⊥
not_all s bounds w state (inl r) fw met = r.apart (column_values w s.columns) (λ i. sum_positive_value w (column_in s.columns i).sum fw) (state.meant.solved w fw) met
not_all s bounds w state (inr r) fw met = r.apart (column_values w s.columns) (λ i. sum_positive_value w (column_in s.columns i).sum fw) met

-- the literals are complements of those of bounds told, none twice
pub record IsToldClause (told bounds : List Told) (ls : List Signed) : Type 0 where
  pub stand : All (Contains told) bounds
  pub each : All (λ (t : Told). Contains ls (opposite t.literal)) bounds
  pub only : All (λ l. (t : Told) × Contains bounds t × (l ≡ opposite t.literal)) ls
  pub once : AllPairs (λ (a b : Signed). a ≢ b) ls

pub told_clause : (s : Simplex.State) (bounds : List Bound) (tags : List ℕ) (ls : List Signed) → Simplex.IsState s → All (Stands s.columns) bounds → tags ≡ map (tag_in s.bounds) bounds → IsClauseOf tags ls
    → IsToldClause (map told_of s.bounds) (map (told_in s.bounds) bounds) ls
unfolding told_in
told_clause s bounds tags ls state standing exact clause =
    let bs = s.bounds in
    record {
      stand = λ k d lt.
          let short : k < length bounds = omega (arith, lt, length-map bounds (told_in bs)) in
          subst (Contains (map told_of bs)) (sym (told_at k d short)) (stood s.columns bs (get_or bounds k no_bound) state.bounded (standing k no_bound short));
      each = λ k d lt.
          let short : k < length bounds = omega (arith, lt, length-map bounds (told_in bs)) in
          subst (λ (t : Told). Contains ls (opposite t.literal)) (sym (told_at k d short))
          (subst (λ n. Contains ls (complement n)) (tag_at k short) (clause.each k (omega (arith, short, count))));
      only = λ k d lt.
          let r = clause.only (get_or ls k d) (Contains-get_or ls k d lt) in
          let n = r.0 in
          let short : n < length bounds = (let l = r.1 in omega (arith, l, count)) in
          let there = Contains-get_or (map (told_in bs) bounds) n (told_in bs no_bound) (omega (arith, short, length-map bounds (told_in bs))) in
          (told_in bs (get_or bounds n no_bound), subst (Contains (map (told_in bs) bounds)) (told_at n (told_in bs no_bound) short) there, r.2 ∙ ap complement (tag_at n short));
      once = clause.once;
    }
  where
    told_at : (k : ℕ) (d : Told) → k < length bounds → get_or (map (told_in s.bounds) bounds) k d ≡ told_in s.bounds (get_or bounds k no_bound)
    told_at k d lt = get_or-map (told_in s.bounds) bounds k no_bound d lt

    count : length tags ≡ length bounds
    count = ap length exact ∙ length-map bounds (tag_in s.bounds)

    tag_at : (k : ℕ) → k < length bounds → get_or tags k 0 ≡ tag_in s.bounds (get_or bounds k no_bound)
    tag_at k lt = ap (λ xs. get_or xs k 0) exact ∙ get_or-map (tag_in s.bounds) bounds k no_bound 0 lt

-- values that meet the bounds as they were told meet the bounds
pub told_met : (s : Simplex.State) (bounds : List Bound) (w : ℕ → Ratio) → All (Meets (λ i. (column_in s.columns i).sum) w) (map (told_in s.bounds) bounds) → All (MeetsBound (column_values w s.columns)) bounds
unfolding told_in
told_met s bounds w met k d lt =
    let b = get_or bounds k d in
    meets_at (column_values w s.columns) b.variable b.side b.number
    (subst (λ (t : Told). Meets (λ i. (column_in s.columns i).sum) w t) (get_or-map (told_in s.bounds) bounds k d (told_in s.bounds d) lt) (met k (told_in s.bounds d) (omega (arith, lt, length-map bounds (told_in s.bounds)))))

pub conflict_of : (s : Simplex.State) (tags : List ℕ) (ls : List Signed) → Simplex.IsState s → IsTagged s tags → IsClauseOf tags ls
    → IsConflict (λ i. (column_in s.columns i).sum) (map told_of s.bounds) ls
conflict_of s tags ls state tagged clause =
    let bounds = tagged.bounds in
    let c = told_clause s bounds tags ls state (all_stand s bounds tagged.conflict) tagged.exact clause in
    record {
      bounds = map (told_in s.bounds) bounds;
      stand = c.stand;
      each = c.each;
      only = c.only;
      once = c.once;
      apart = λ w fw met. not_all s bounds w state tagged.conflict fw (told_met s bounds w met);
    }

-- ---- what a check finds

abbrev pub state_of : Simplex.State → State
state_of s = record { table = s.table; columns = s.columns; told = map told_of s.bounds }

pub judged : (s : Simplex.State) (v : Verdict) (f : Finding) → Simplex.IsState s → HaveOwnSums s.columns → Simplex.Judges s v → IsFound v f → Judges (state_of s) f
judged s AllFit f state apart h e =
    subst (Judges (state_of s)) (sym e)
    (h.1, sums_meet (state_of s) s.bounds refl state.solution state.meant apart state.known (met_from_within s.columns s.bounds state.bounded state.known h.1))
judged s (Clash tags) f state apart h (inl e) = subst (Judges (state_of s)) (sym e) tt
judged s (Clash tags) f state apart h (inr c) = by f c
  where
    by : (g : Finding) → IsConflictOf tags.items g → Judges (state_of s) g
    by (Conflict ls) c = conflict_of s tags.items ls.items state h.1 c
    by Fits c = absurd c
    by (Range number) c = absurd c
    by UnitsSpent c = absurd c
    by Memory c = absurd c
judged s (NoFit number) f state apart h e = subst (Judges (state_of s)) (sym e) h
judged s Spent f state apart h e = subst (Judges (state_of s)) (sym e) h
judged s NoMemory f state apart h e = subst (Judges (state_of s)) (sym e) tt

pub room_of : (room made : ℕ) (v : Verdict) (f : Finding) → SpendsSimplex room made v → IsFound v f → SpendsRoom room made f
room_of room made AllFit f h e = subst (SpendsRoom room made) (sym e) tt
room_of room made (Clash tags) f h (inl e) = subst (SpendsRoom room made) (sym e) tt
room_of room made (Clash tags) f h (inr c) = by f c
  where
    by : (g : Finding) → IsConflictOf tags.items g → SpendsRoom room made g
    by (Conflict ls) c = tt
    by Fits c = absurd c
    by (Range number) c = absurd c
    by UnitsSpent c = absurd c
    by Memory c = absurd c
room_of room made (NoFit number) f h e = subst (SpendsRoom room made) (sym e) tt
room_of room made Spent f h e = subst (SpendsRoom room made) (sym e) h
room_of room made NoMemory f h e = subst (SpendsRoom room made) (sym e) tt

-- a state that a check found to fit is clean
pub met_where_fits : (s : Simplex.State) → Simplex.IsState s → (f : Finding) → f ≡ Fits → Judges (state_of s) f → AllMet s.columns (map told_of s.bounds)
met_where_fits s state f e h = met_from_within s.columns s.bounds state.bounded state.known (subst (Judges (state_of s)) e h).0
