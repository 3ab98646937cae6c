-- Lists of units are finite, pivots among them.
use Rattle.std.proofs.Common.{◌≡◌, ◌⊎◌, ℕ, ℤ, zero, suc, ◌+◌, ◌*◌, ◌<◌, ◌≤◌, ◌^◌, inl, inr, pos, sym, ap, ◌∙◌, subst, refl, arith, List, [], ◌∷◌, ◌++◌, map, length, get_or, Bool, true, false, Contains, Option, Some, None}
use Rattle.std.proofs.Math.Nat.{pow-suc, suc-mul}
use Rattle.std.proofs.lemmas.List.{length-map, length-append, get_or_default}
use Rattle.std.proofs.lemmas.List.Elements.{Contains-append_left, Contains-append_right}
use Rattle.fraction128.specs.declared.ratio.Ratio.{Ratio}
use Rattle.fraction128.specs.declared.Summand.{Summand}
use Rattle.fraction128.specs.declared.Line.{Line}
use Rattle.fraction128.specs.declared.Grid.{Grid}
use Rattle.fraction128.specs.declared.Side.{Side}
use Rattle.fraction128.specs.declared.Column.{Column}
use Rattle.fraction128.specs.Grid.{leaf, turned, bound_number, pivoted_value}
use Rattle.fraction128.specs.Lines.{Bounding, IsPivotIn, exchanged, first_basis}
use Rattle.fraction128.specs.Chain.{StaysOrRises, StaysOrFalls, ComesFrom, left_by}
use Rattle.simplex_steps.proofs.NextStep.{col}
use Rattle.simplex_steps.proofs.Moments.{length_with}
use Rattle.smt_meaning.specs.declared.clauses.Atom.{Atom}
use Rattle.smt_meaning.specs.declared.clauses.Atom.TheVariants.{Truth, Same, AtMost}
use Rattle.smt_meaning.specs.declared.reports.Unit.{Unit as Spent}
use Rattle.smt_meaning.specs.declared.reports.Unit.TheVariants.{Learnt, Numbered, Pivot}
use Rattle.smt_meaning.specs.Term.{Tree}
use Rattle.smt_meaning.specs.Stack.{Frame}
use Rattle.smt_meaning.specs.CheckAtoms.{IsLeaf, IsFirstAtom, IsKnownSum, IsCheckAtom, IsBoundOf, WithBranch, WithBranches, AreCheckSums, grid_sum, told}
use Rattle.smt_meaning.specs.Report.{AreChained}
use Rattle.report_laws.specs.UnderBounds.{bounds_of}
use Rattle.report_laws.specs.Finite.{most_neighbours, most_others, UnitsAreFinite}
use Rattle.report_laws.proofs.Listed.{in_cons, in_none}
use Rattle.report_laws.proofs.Counted.{AreApart, no_longer, first_in, later_in, in_list}
use Rattle.report_laws.proofs.Limited.{others, few_others}
use Rattle.report_laws.proofs.Tightened.{tight, AreTighter, AreAmong, tighter, among, tight_up, tight_same, tight_most}
use Rattle.report_laws.proofs.UnderBounds.{AreNoLooser, bounds_with, no_looser, IsRunOf, run_before, run_of_one, run_is_short, power}

-- ---- numbers

times_up : (a b k : ℕ) → a ≤ b → a * k ≤ b * k
times_up zero b k h = omega arith
times_up (suc a) zero k h = absurd (omega (arith, h))
times_up (suc a) (suc b) k h =
    let rest = times_up a b k (omega (arith, h)) in
    let one : suc a * k ≡ a * k + k = suc-mul a k in
    let two : suc b * k ≡ b * k + k = suc-mul b k in
    omega (arith, rest, one, two)

power_up : (a b : ℕ) → a ≤ b → 3 ^ a ≤ 3 ^ b
power_up zero b h = let p = power b in omega (arith, p)
power_up (suc a) zero h = absurd (omega (arith, h))
power_up (suc a) (suc b) h =
    let rest = power_up a b (omega (arith, h)) in
    let one : 3 ^ suc a ≡ 3 ^ a * 3 = pow-suc 3 a in
    let two : 3 ^ suc b ≡ 3 ^ b * 3 = pow-suc 3 b in
    omega (arith, rest, one, two)

-- ---- the numbers of bounds

-- the number of an atom's bound, if it is one
number_at : Atom → Bool → ℤ
number_at (Truth i) z = pos 0
number_at (Same i j) z = pos 0
number_at (AtMost ps k) z = bound_number (told ps k z)

bound_numbers : List Atom → List ℤ
bound_numbers [] = []
bound_numbers (a ∷ more) = number_at a true ∷ number_at a false ∷ bound_numbers more

numbers_count : (more : List Atom) → length (bound_numbers more) ≡ 2 * length more
unfolding bound_numbers
numbers_count [] = refl
numbers_count (a ∷ more) = let h = numbers_count more in omega (arith, h)

has_numbers : (more : List Atom) (a : Atom) (z : Bool) → Contains more a → Contains (bound_numbers more) (number_at a z)
unfolding bound_numbers
has_numbers [] a z c = absurd (in_none a c)
has_numbers (b ∷ more) a z c = elim (in_cons b a more c) [
  | inl e ↦ subst (λ x. Contains (number_at b true ∷ number_at b false ∷ bound_numbers more) (number_at x z)) (sym e) (here z)
  | inr later ↦ later_in (number_at b true) (number_at a z) (number_at b false ∷ bound_numbers more) (later_in (number_at b false) (number_at a z) (bound_numbers more) (has_numbers more a z later))
]
  where
    here : (y : Bool) → Contains (number_at b true ∷ number_at b false ∷ bound_numbers more) (number_at b y)
    here true = first_in (number_at b true) (number_at b false ∷ bound_numbers more)
    here false = later_in (number_at b true) (number_at b false) (number_at b false ∷ bound_numbers more) (first_in (number_at b false) (bound_numbers more))

has_number : (Is : Atom → Type 0) (atoms : List Atom) → ((a : Atom) → Is a → Contains atoms a) → (sum : List Summand) (side : Side) (k : ℤ) → IsBoundOf Is sum side k → Contains (bound_numbers atoms) k
unfolding number_at
has_number Is atoms each sum side k b =
    subst (Contains (bound_numbers atoms)) (sym b.number_is) (has_numbers atoms (AtMost b.terms b.most) b.positive (each (AtMost b.terms b.most) b.atom))

-- ---- the sums of variables

sum_at : Atom → List Summand
sum_at (Truth i) = []
sum_at (Same i j) = []
sum_at (AtMost ps k) = turned (grid_sum ps)

-- an atom before any branch is one of the check
first_of_check : (Is Js : Atom → Type 0) (branches : List Line) (a : Atom) → ((b : Atom) → Is b → Js b) → Is a → WithBranches Js branches a
first_of_check Is Js [] a more h = more a h
first_of_check Is Js (l ∷ ls) a more h = first_of_check Is (WithBranch Js l) ls a (λ b k. inl (more b k)) h

few_sums : (ts : List Tree) (frames : List Frame) (branches : List Line) (sums : List (List Summand)) (atoms : List Atom) (leaves : List ℕ) → ((a : Atom) → IsCheckAtom ts frames branches a → Contains atoms a)
    → ((t : ℕ) → IsLeaf ts frames t → Contains leaves t) → AreCheckSums ts frames sums → length sums ≤ length leaves + length atoms
unfolding sum_at
few_sums ts frames branches sums atoms leaves each leaf_in table =
    let all : List (List Summand) = map leaf leaves ++ map sum_at atoms in
    let short : length sums ≤ length all = no_longer (λ (ps qs : List Summand). ps ≡ qs) sums all (apart sums (λ i j lt lj. table.apart i j [] lt lj)) (λ ps c. has ps (subst (IsKnownSum ts frames) c.2 (table.known c.0 ps c.1))) in
    let one : length (map leaf leaves) ≡ length leaves = length-map leaves leaf in
    let two : length (map sum_at atoms) ≡ length atoms = length-map atoms sum_at in
    let both : length all ≡ length (map leaf leaves) + length (map sum_at atoms) = length-append (map leaf leaves) (map sum_at atoms) in
    omega (arith, short, one, two, both)
  where
    apart : (xs : List (List Summand)) → ((i j : ℕ) → i < j → j < length xs → get_or xs i [] ≡ get_or xs j [] → ⊥) → AreApart (λ (ps qs : List Summand). ps ≡ qs) xs
    apart [] h = tt
    apart (x ∷ xs) h = (
      λ z c y k m. h 0 (suc c.0) (omega arith) (let lt = c.1 in omega (arith, lt)) (k ∙ sym m ∙ sym c.2 ∙ get_or_default xs c.0 z [] c.1),
      apart xs (λ i j lt lj. h (suc i) (suc j) (omega (arith, lt)) (omega (arith, lj))),
    )

    has : (ps : List Summand) → IsKnownSum ts frames ps → (qs : List Summand) × Contains (map leaf leaves ++ map sum_at atoms) qs × (ps ≡ qs)
    has ps (IsKnownSum.of_leaf t is e) = (leaf t, Contains-append_left (map leaf leaves) (map sum_at atoms) (leaf t) (in_list leaf leaves t (leaf_in t is)), e)
    has ps (IsKnownSum.of_atom qs k first e) = (
      turned (grid_sum qs),
      Contains-append_right (map leaf leaves) (map sum_at atoms) (turned (grid_sum qs))
          (in_list sum_at atoms (AtMost qs k) (each (AtMost qs k) (first_of_check (IsFirstAtom ts frames) (IsFirstAtom ts frames) branches (AtMost qs k) (λ b h. h) first))),
      e,
    )

-- ---- neighbours among the units

leading : List Spent → ℕ
leading [] = 0
leading (Learnt c ∷ us) = 0
leading (Numbered a ∷ us) = 0
leading (Pivot l ∷ us) = suc (leading us)

module _ (Is : Atom → Type 0) (atoms : List Atom) (each : (a : Atom) → Is a → Contains atoms a) (sums : List (List Summand)) (n : ℕ) (few : length sums ≤ n) where
  abbrev js : List ℤ
  js = bound_numbers atoms

  abbrev B : Bounding
  B = IsBoundOf Is

  abbrev most : ℕ
  most = n * (4 * length atoms + 1)

  known_columns : (is : ℕ → Bool) (l : Line) (p : IsPivotIn sums B is l) → length p.grid.columns ≤ n
  known_columns is l p = by p.grid.columns (λ i lt. (p.sound.columns i lt).0)
    where
      by : (cs : List Column) → ((i : ℕ) → i < length cs → i < length sums) → length cs ≤ n
      by [] h = omega arith
      by (c ∷ cs) h = let last = h (length cs) (omega arith) in omega (arith, last, few)

  at_most : (is : ℕ → Bool) (l : Line) (p : IsPivotIn sums B is l) → tight js p.grid.columns ≤ most
  at_most is l p =
      let one : tight js p.grid.columns ≤ length p.grid.columns * (2 * length js + 1) = tight_most js p.grid.columns in
      let size : 2 * length js + 1 ≡ 4 * length atoms + 1 = (let h = numbers_count atoms in omega (arith, h)) in
      let up : length p.grid.columns * (4 * length atoms + 1) ≤ most = times_up (length p.grid.columns) n (4 * length atoms + 1) (known_columns is l p) in
      let first : tight js p.grid.columns ≤ length p.grid.columns * (4 * length atoms + 1) = subst (λ k. tight js p.grid.columns ≤ length p.grid.columns * k) size one in
      omega (arith, first, up)

  -- a run of so many pivots from this grid on, after which the bounds may be tightened so often
  record IsMeasured (g : Grid) (k : ℕ) : Type 0 where
    ahead : ℕ
    run : IsRunOf ahead g
    rest : ℕ
    within : tight js g.columns + rest ≤ most
    count : k ≤ ahead + rest * 3 ^ n

  alone : (is : ℕ → Bool) (l : Line) (p : IsPivotIn sums B is l) → IsMeasured p.grid 1
  alone is l p = record { ahead = 1; run = run_of_one sums B is l p; rest = 0; within = (let h = at_most is l p in omega (arith, h)); count = omega arith }

  run_few : (is : ℕ → Bool) (l : Line) (p : IsPivotIn sums B is l) (k : ℕ) → IsRunOf k p.grid → k ≤ 3 ^ n
  run_few is l p k r =
      let short : k < 3 ^ length p.grid.columns = run_is_short sums B is l p k r in
      let up : 3 ^ length p.grid.columns ≤ 3 ^ n = power_up (length p.grid.columns) n (known_columns is l p) in
      omega (arith, short, up)

  module _ (is : ℕ → Bool) (l m : Line) (p : IsPivotIn sums B is l) (q : IsPivotIn sums B (exchanged l is) m) (comes : ComesFrom (left_by p) q.grid) where
    f : ℕ → Ratio
    f = pivoted_value p.grid p.leaves p.number p.enters

    goes_tighter : AreTighter js p.grid.columns q.grid.columns
    goes_tighter =
        let b : AreNoLooser (left_by p) q.grid = no_looser (left_by p) q.grid comes in
        let size : length (left_by p).columns ≡ length p.grid.columns = length_with (pivoted_value p.grid p.leaves p.number p.enters) 0 p.grid.columns in
        tighter js p.grid.columns q.grid.columns (let c = b.count in omega (arith, c, size))
        (λ i lt. subst (λ o. StaysOrRises o (col q.grid.columns i).lower) (bounds_with (pivoted_value p.grid p.leaves p.number p.enters) 0 p.grid.columns i).0 (b.lower i (omega (arith, lt, size))))
        (λ i lt. subst (λ o. StaysOrFalls o (col q.grid.columns i).upper) (bounds_with (pivoted_value p.grid p.leaves p.number p.enters) 0 p.grid.columns i).1 (b.upper i (omega (arith, lt, size))))

    are_among : AreAmong js q.grid.columns
    are_among = among js q.grid.columns (λ i lt k e. has_number Is atoms each _ _ k ((q.sound.bounded i lt).lower k e)) (λ i lt k e. has_number Is atoms each _ _ k ((q.sound.bounded i lt).upper k e))

    one_more : (k : ℕ) → IsMeasured q.grid k → IsMeasured p.grid (suc k)
    one_more k r = by (less_or_not (tight js p.grid.columns) (tight js q.grid.columns))
      where
        less_or_not : (a b : ℕ) → (a < b) ⊎ (b ≤ a)
        less_or_not a zero = inr (omega arith)
        less_or_not zero (suc b) = inl (omega arith)
        less_or_not (suc a) (suc b) = elim (less_or_not a b) [ inl h ↦ inl (omega (arith, h)) | inr h ↦ inr (omega (arith, h)) ]

        by : (tight js p.grid.columns < tight js q.grid.columns) ⊎ (tight js q.grid.columns ≤ tight js p.grid.columns) → IsMeasured p.grid (suc k)
        by (inl less) = record {
          ahead = 1;
          run = run_of_one sums B is l p;
          rest = suc r.rest;
          within = (let w = r.within in omega (arith, less, w));
          count = (
              let c = r.count in
              let a : r.ahead ≤ 3 ^ n = run_few (exchanged l is) m q r.ahead r.run in
              let t : suc r.rest * 3 ^ n ≡ r.rest * 3 ^ n + 3 ^ n = suc-mul r.rest (3 ^ n) in
              omega (arith, c, a, t)
              );
        }
        by (inr same) =
            let bounds : bounds_of q.grid ≡ bounds_of p.grid = tight_same js p.grid.columns q.grid.columns goes_tighter are_among same in
            let up : tight js p.grid.columns ≤ tight js q.grid.columns = tight_up js p.grid.columns q.grid.columns goes_tighter in
            record {
              ahead = suc r.ahead;
              run = run_before sums B is l m p q bounds comes r.ahead r.run;
              rest = r.rest;
              within = (let w = r.within in omega (arith, up, w));
              count = (let c = r.count in omega (arith, c));
            }

  measured : (is : ℕ → Bool) (here : Option Grid) (l : Line) (us : List Spent) (c : AreChained sums B is here (Pivot l ∷ us)) → IsMeasured c.0.grid (suc (leading us))
  unfolding leading
  measured is here l [] c = alone is l c.0
  measured is here l (Learnt d ∷ us) c = alone is l c.0
  measured is here l (Numbered a ∷ us) c = alone is l c.0
  measured is here l (Pivot m ∷ us) c = one_more is l m c.0 c.2.0 c.2.1 (suc (leading us)) (measured (exchanged l is) (Some (left_by c.0)) m us c.2)

  few_leading : (is : ℕ → Bool) (here : Option Grid) (us : List Spent) → AreChained sums B is here us → leading us ≤ most_neighbours n (length atoms)
  unfolding leading
  few_leading is here [] c = omega arith
  few_leading is here (Learnt d ∷ us) c = omega arith
  few_leading is here (Numbered a ∷ us) c = omega arith
  few_leading is here (Pivot l ∷ us) c =
      let r : IsMeasured c.0.grid (suc (leading us)) = measured is here l us c in
      let a : r.ahead ≤ 3 ^ n = run_few is l c.0 r.ahead r.run in
      let up : r.rest * 3 ^ n ≤ most * 3 ^ n = times_up r.rest most (3 ^ n) (let w = r.within in omega (arith, w)) in
      let size : suc most * 3 ^ n ≡ most * 3 ^ n + 3 ^ n = suc-mul most (3 ^ n) in
      let same : (most + 1) * 3 ^ n ≡ suc most * 3 ^ n = ap (λ k. k * 3 ^ n) (let h : most + 1 ≡ suc most = omega arith in h) in
      let c = r.count in
      omega (arith, a, up, size, same, c)

  -- ---- all units

  all_few : (is : ℕ → Bool) (here : Option Grid) (us : List Spent) → AreChained sums B is here us → length us ≤ leading us + length (others us) * (most_neighbours n (length atoms) + 1)
  unfolding leading
  all_few is here [] c = omega arith
  all_few is here (Learnt d ∷ us) c =
      let rest = all_few is None us c in
      let few_here = few_leading is None us c in
      let size = suc-mul (length (others us)) (most_neighbours n (length atoms) + 1) in
      omega (arith, rest, few_here, size)
  all_few is here (Numbered a ∷ us) c =
      let rest = all_few is None us c in
      let few_here = few_leading is None us c in
      let size = suc-mul (length (others us)) (most_neighbours n (length atoms) + 1) in
      omega (arith, rest, few_here, size)
  all_few is here (Pivot l ∷ us) c = let rest = all_few (exchanged l is) (Some (left_by c.0)) us c.2 in omega (arith, rest)

pub units_are_finite : UnitsAreFinite
units_are_finite ts frames limit branches us atoms leaves each leaf_in spent =
    let Is : Atom → Type 0 = IsCheckAtom ts frames branches in
    let sums : List (List Summand) = spent.sums in
    let n : ℕ = length leaves + length atoms in
    let few : length sums ≤ n = few_sums ts frames branches sums atoms leaves each leaf_in spent.known in
    let rows = all_few Is atoms each sums n few (first_basis sums) None us spent.chained in
    let lead = few_leading Is atoms each sums n few (first_basis sums) None us spent.chained in
    let other : length (others us) ≤ most_others (length atoms) = few_others ts frames branches limit us atoms each spent.units in
    let up = times_up (length (others us)) (most_others (length atoms)) (most_neighbours n (length atoms) + 1) other in
    omega (arith, rows, lead, up)
