-- Over one leaf with few bounds nothing leaves the range: no step, no folding, no argument and no model.
use Rattle.std.specs.Prelude.{◌&&◌}
use Rattle.std.proofs.Common.{◌≡◌, ℕ, ℤ, zero, ◌<◌, ◌⊎◌, inl, inr, pos, sym, ap, ap₂, ◌∙◌, subst, refl, arith, List, [], ◌∷◌, length, Bool, true, false, Option, Some, None, Contains}
use Rattle.std.proofs.lemmas.Int.{ints}
use Rattle.fraction128.specs.declared.ratio.Ratio.{Ratio}
use Rattle.fraction128.specs.Number.{whole, SameNumber}
use Rattle.fraction128.specs.Listed.{fused}
use Rattle.fraction128.specs.Whole.{is_in_range}
use Rattle.fraction128.specs.declared.Summand.{Summand}
use Rattle.fraction128.specs.declared.TableRow.{TableRow}
use Rattle.fraction128.specs.declared.Column.{Column}
use Rattle.fraction128.specs.declared.Pending.{Pending}
use Rattle.fraction128.specs.declared.Grid.{Grid}
use Rattle.fraction128.specs.declared.Side.{Side}
use Rattle.fraction128.specs.declared.Side.TheVariants.{Lower, Upper}
use Rattle.fraction128.specs.Grid as G
use Rattle.fraction128.specs.Grid.{Step, take, move, pivot, leaf, turned, column_at, value_at, any_crossed, next_step, step_fits, take_fits, move_fits, distance_fits, every_row, fused_fits, distance, coefficient, written_fits}
use Rattle.fraction128.specs.Lines.{AreSums, IsResting, IsSoundGrid}
use Rattle.simplex_steps.proofs.NextStep.{MoveFacts, step_facts}
use Rattle.simplex_steps.proofs.Bland.{missed_cases}
use Rattle.smt_meaning.specs.declared.values.Value.{Value}
use Rattle.smt_meaning.specs.declared.values.Sort.TheVariants.{Int as Ints}
use Rattle.smt_meaning.specs.declared.terms.Head.TheVariants.{Symbol as Function}
use Rattle.smt_meaning.specs.declared.clauses.Summand as Terms
use Rattle.smt_meaning.specs.declared.clauses.Atom.TheVariants.{AtMost}
use Rattle.smt_meaning.specs.declared.reports.RangeSeen.{RangeSeen}
use Rattle.smt_meaning.specs.declared.reports.RangeSeen.TheVariants.{Coefficient, Pair, Argument, Step as SeenStep, Model}
use Rattle.smt_meaning.specs.Term.{Tree, Trees, node, none, more, Interpretation, number_of, in_range, fits}
use Rattle.smt_meaning.specs.TreeShape.{place_of}
use Rattle.smt_meaning.specs.Interpretation.{meaning}
use Rattle.smt_meaning.specs.Signature.{tree_sort}
use Rattle.smt_meaning.specs.Stack.{Frame, signature_of}
use Rattle.smt_meaning.specs.Linear.{folding_fits}
use Rattle.smt_meaning.specs.Comparisons.{pair_fits, compared_fits}
use Rattle.smt_meaning.specs.Parts.{IsOneOf}
use Rattle.smt_meaning.specs.CheckAtoms.{IsPartOfStack, IsFirstAtom, IsKnownSum, IsBoundOf}
use Rattle.smt_meaning.specs.Ranges.{HasValue, IsOnAtom}
use Rattle.smt_meaning.specs.Report.{IsPastRange}
use Rattle.report_laws.specs.OneLeaf.{IsOverOneLeaf, NothingLeaves}
use Rattle.report_laws.specs.Five.{x}
use Rattle.report_laws.proofs.Listed.{AllOf, one_of}
use Rattle.report_laws.proofs.OneLeaf.{none_basic, column_first, column_sum, no_rows, plain, leaves_basic, no_branches}

-- ---- what is asked of a stack over x

-- the bounds of x are among these numbers: from 0 or one of them to one of them is a distance in the range
pub record HasNear (trees : List Tree) (frames : List Frame) (Near : ℤ → Type 0) : Type 0 where
  pub over : IsOverOneLeaf trees frames 1
  pub bounds : (side : Side) (k : ℤ) → IsBoundOf (IsFirstAtom trees frames) (leaf 1) side k → Near k
  pub distances : (k j : ℤ) → Near k → (j ≡ pos 0) ⊎ Near j → distance_fits k (whole j) ≡ true
  pub waiting : (q : List Terms.Summand) (p : Pending) → IsFirstAtom trees frames (AtMost q p.number) → G.number_fits p ≡ true
  pub values : (j : ℤ) → (j ≡ pos 0) ⊎ Near j → is_in_range j ≡ true

-- no declared function with arguments
abbrev pub IsBare : Tree → Type 0
IsBare (node (Function f) (more u us)) = ⊥
IsBare t = Unit {0}

-- the parts of the assertions, x among them, whose numbers are in the range
pub record HasParts (trees : List Tree) (frames : List Frame) (parts : List Tree) : Type 0 where
  pub each : (t : Tree) → IsPartOfStack frames t → Contains parts t
  pub folding : AllOf (λ (t : Tree). folding_fits trees t ≡ true) parts
  pub comparing : AllOf (λ (t : Tree). compared_fits trees (signature_of frames) t ≡ true) parts
  pub pairs : AllOf (λ (s : Tree). AllOf (λ (t : Tree). pair_fits trees s t ≡ true) parts) parts
  pub bare : AllOf IsBare parts
  pub evaluating : (I : Interpretation) → in_range (I 0 []) ≡ true → AllOf (λ (t : Tree). fits I t ≡ true) parts
  pub leaf : IsPartOfStack frames x
  pub int : tree_sort (signature_of frames) x ≡ Some Ints
  pub place : place_of x trees ≡ 1

-- ---- steps

-- a sum that is written where there is no column
written_none : (rows : List TableRow) (ps : List Summand) (f : ℕ → Ratio) → written_fits [] rows f ps ≡ true
written_none rows [] f = refl
written_none rows (p ∷ ps) f = written_none rows ps (λ i. fused (f i) (whole p.coefficient) (G.written_variable rows (G.variable_of [] p.term) i))

-- the row of a sum that has no column
abbrev row_fits : (ℕ → Ratio) → List TableRow → List Column → List Summand → Bool
row_fits v rows cs ps = written_fits cs rows G.no_coefficients ps && G.entries_value_fits v (whole (pos 0)) (G.sum_row cs rows ps).entries

module _ (trees : List Tree) (frames : List Frame) (Near : ℤ → Type 0) (has : HasNear trees frames Near) (sums : List (List Summand)) (table : AreSums (IsKnownSum trees frames) sums) (g : Grid) (sound : IsSoundGrid sums (IsBoundOf (IsFirstAtom trees frames)) g) where
  near : (i : ℕ) (side : Side) (k : ℤ) → i < length g.columns → IsBoundOf (IsFirstAtom trees frames) (column_at g i).sum side k → Near k
  near i side k lt b = has.bounds side k (subst (λ ps. IsBoundOf (IsFirstAtom trees frames) ps side k) (column_sum (IsKnownSum trees frames) 1 has.over sums table (IsBoundOf (IsFirstAtom trees frames)) g sound i lt) b)

  moves : (i : ℕ) (k : ℤ) → MoveFacts g i k → move_fits g i k ≡ true
  moves i k f =
      ap₂ (λ a rows. a && every_row rows (λ r. fused_fits (value_at g r.basic) (coefficient r.entries i) (distance k (value_at g i)))) (by_value (sound.resting i f.known f.free))
      (no_rows (IsKnownSum trees frames) 1 has.over sums table (IsBoundOf (IsFirstAtom trees frames)) g sound g.rows refl)
    where
      target : Near k
      target = elim (missed_cases (column_at g i) k f.outside) [
        | inl h ↦ near i Lower k f.known ((sound.bounded i f.known).lower k h.0)
        | inr h ↦ near i Upper k f.known ((sound.bounded i f.known).upper k h.0)
      ]

      by_value : IsResting (IsBoundOf (IsFirstAtom trees frames)) (column_at g i) → distance_fits k (value_at g i) ≡ true
      by_value (inl e) = ap (distance_fits k) e ∙ has.distances k (pos 0) target (inl refl)
      by_value (inr (side, j, e, b)) = ap (distance_fits k) e ∙ has.distances k j target (inr (near i side j f.known b))

  row_of_new : (cs : List Column) → g.columns ≡ cs → (ps : List Summand) → (ps ≡ []) ⊎ (ps ≡ leaf 1) → G.column_of cs ps ≡ None → row_fits (value_at g) g.rows cs ps ≡ true
  row_of_new [] is ps h e = ap (λ a. a && true) (written_none g.rows ps G.no_coefficients)
  row_of_new (c ∷ d ∷ cs) is ps h e =
      absurd (let z : 1 ≡ 0 = column_first (IsKnownSum trees frames) 1 has.over sums table (IsBoundOf (IsFirstAtom trees frames)) g sound 1 (subst (λ xs. 1 < length xs) (sym is) (omega arith)) in omega (arith, z))
  row_of_new (c ∷ []) is ps (inl h) e = ap (row_fits (value_at g) g.rows (c ∷ [])) h
  row_of_new (c ∷ []) is ps (inr h) e =
      let same : c.sum ≡ leaf 1 =
      ap (λ xs. (G.column_at (record { columns = xs; rows = g.rows; pending = g.pending }) 0).sum) (sym is)
      ∙ column_sum (IsKnownSum trees frames) 1 has.over sums table (IsBoundOf (IsFirstAtom trees frames)) g sound 0 (subst (λ xs. 0 < length xs) (sym is) (omega arith)) in
      let has : G.column_of (c ∷ []) (leaf 1) ≡ Some 0 = ap (λ s. G.column_of (record { sum = s; lower = c.lower; upper = c.upper; value = c.value } ∷ []) (leaf 1)) same in
      let none : G.column_of (c ∷ []) (leaf 1) ≡ None = ap (G.column_of (c ∷ [])) (sym h) ∙ e in
      let z : Some zero ≡ None = sym has ∙ none in absurd (cc)

  takes : (p : Pending) → IsOnAtom (IsFirstAtom trees frames) p → take_fits g p ≡ true
  takes p on = by_column (G.column_of g.columns (turned p.sum)) refl
    where
      sum_here : (turned p.sum ≡ []) ⊎ (turned p.sum ≡ leaf 1)
      sum_here = has.over (turned p.sum) (IsKnownSum.of_atom on.terms p.number on.atom (ap turned on.sum_is))

      by_column : (o : Option ℕ) → G.column_of g.columns (turned p.sum) ≡ o → take_fits g p ≡ true
      by_column (Some i) e = rw e (ap (λ a. a && true) (has.waiting on.terms p on.atom))
      by_column None e =
          rw e (ap₂ (λ a b. a && b) (has.waiting on.terms p on.atom) (row_of_new g.columns refl (turned p.sum) sum_here e))

  each_fits : ((p : Pending) → g.pending ≡ Some p → IsOnAtom (IsFirstAtom trees frames) p) → (s : Step) → next_step g ≡ Some s → step_fits g s ≡ true
  each_fits pending s next = by_kind s next (plain g s next)
    where
      by_step : (s : Step) → next_step g ≡ Some s → g.pending ≡ None → any_crossed g.columns ≡ false → step_fits g s ≡ true
      by_step (take p) n idle e = absurd (step_facts g (take p) idle e n)
      by_step (move i k) n idle e = moves i k (step_facts g (move i k) idle e n)
      by_step (pivot b k c) n idle e =
          absurd (let z : true ≡ false = sym (leaves_basic g b k c n) ∙ none_basic (IsKnownSum trees frames) 1 has.over sums table (IsBoundOf (IsFirstAtom trees frames)) g sound b in cc)

      by_kind : (s : Step) → next_step g ≡ Some s → ((p : Pending) × (g.pending ≡ Some p) × (s ≡ take p)) ⊎ ((g.pending ≡ None) × (any_crossed g.columns ≡ false)) → step_fits g s ≡ true
      by_kind s n (inl (p, e, is)) = ap (step_fits g) is ∙ takes p (pending p e)
      by_kind s n (inr h) = by_step s n h.0 h.1

-- ---- models

value_fits : (v : Value) → is_in_range (number_of v) ≡ true → in_range v ≡ true
value_fits (Value.Truth b) h = refl
value_fits (Value.Whole n) h = h
value_fits (Value.Element k) h = refl

same_whole : (a b : ℤ) → SameNumber (whole a) (whole b) → a ≡ b
same_whole a b w = omega (arith, ints, w)

module _ (trees : List Tree) (frames : List Frame) (Near : ℤ → Type 0) (has : HasNear trees frames Near) (sums : List (List Summand)) (table : AreSums (IsKnownSum trees frames) sums) (g : Grid) (sound : IsSoundGrid sums (IsBoundOf (IsFirstAtom trees frames)) g) where
  model_fits : (v : Value) → HasValue g 1 (whole (number_of v)) → in_range v ≡ true
  model_fits v h = value_fits v (by (sound.resting i h.within (none_basic (IsKnownSum trees frames) 1 has.over sums table (IsBoundOf (IsFirstAtom trees frames)) g sound i)))
    where
      i : ℕ
      i = G.variable_of g.columns 1

      is : (j : ℤ) → value_at g (G.variable_of g.columns 1) ≡ whole j → (j ≡ pos 0) ⊎ Near j → is_in_range (number_of v) ≡ true
      is j e n = subst (λ k. is_in_range k ≡ true) (same_whole j (number_of v) (subst (λ y. SameNumber y (whole (number_of v))) e h.value)) (has.values j n)

      by : IsResting (IsBoundOf (IsFirstAtom trees frames)) (column_at g (G.variable_of g.columns 1)) → is_in_range (number_of v) ≡ true
      by (inl e) = is (pos 0) e (inl refl)
      by (inr (side, j, e, b)) = is j e (inr (near trees frames Near has sums table g sound i side j h.within b))

-- ---- reports

true_false : {X : Type 0} → true ≡ false → X
true_false e = cc

module _ (trees : List Tree) (frames : List Frame) (Near : ℤ → Type 0) (has : HasNear trees frames Near) (parts : List Tree) (have : HasParts trees frames parts) where
  no_application : (f : ℕ) (us : Trees) (t : Tree) → IsPartOfStack frames (node (Function f) us) → IsOneOf t us → ⊥
  no_application f none t part among = among
  no_application f (more u us) t part among = one_of IsBare parts have.bare (node (Function f) (more u us)) (have.each (node (Function f) (more u us)) part)

  past : (seen : RangeSeen) → IsPastRange trees frames [] seen → ⊥
  past (Coefficient p) r = elim r.leaves.leaves [
    | inl e ↦ true_false (sym (one_of (λ (t : Tree). folding_fits trees t ≡ true) parts have.folding r.leaves.tree (have.each r.leaves.tree r.leaves.part)) ∙ e)
    | inr e ↦ true_false (sym (one_of (λ (t : Tree). compared_fits trees (signature_of frames) t ≡ true) parts have.comparing r.leaves.tree (have.each r.leaves.tree r.leaves.part)) ∙ e)
  ]
  past (Pair p q) r =
      let left : AllOf (λ (t : Tree). pair_fits trees r.leaves.left t ≡ true) parts =
      one_of (λ (s : Tree). AllOf (λ (t : Tree). pair_fits trees s t ≡ true) parts) parts have.pairs r.leaves.left (have.each r.leaves.left r.leaves.left_part.part) in
      true_false (sym (one_of (λ (t : Tree). pair_fits trees r.leaves.left t ≡ true) parts left r.leaves.right (have.each r.leaves.right r.leaves.right_part.part)) ∙ r.leaves.leaves)
  past (Argument p g) r = no_application r.leaves.argument.symbol r.leaves.argument.arguments r.leaves.tree r.leaves.argument.application r.leaves.argument.among
  past (SeenStep g) r =
      let next = r.leaves.next in true_false (sym (each_fits trees frames Near has r.sums r.known g r.leaves.grid r.leaves.pending next.step next.next) ∙ next.fails)
  past (Model tables p g) r =
      let m = r.leaves in
      let value = m.values x 1 (record { part = have.leaf; int = have.int; place_is = have.place }) (record { leaf = x; part = record { part = have.leaf; int = have.int; place_is = have.place }; is = refl }) in
      let all : AllOf (λ (t : Tree). fits (meaning tables) t ≡ true) parts = have.evaluating (meaning tables) (model_fits trees frames Near has r.sums r.known g m.grid (meaning tables 0 []) value) in
      true_false (sym (one_of (λ (t : Tree). fits (meaning tables) t ≡ true) parts all m.tree (have.each m.tree m.part)) ∙ m.outside)

  pub nothing_leaves : NothingLeaves trees frames
  nothing_leaves limit [] seen r = past seen r
  nothing_leaves limit (l ∷ ls) seen r = let z : l ∷ ls ≡ [] = no_branches trees frames 1 has.over r.sums (l ∷ ls) r.known r.are_branches in cc
