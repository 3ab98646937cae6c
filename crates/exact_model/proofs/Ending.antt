-- What becomes of tables under which terms have exact values.
use Rattle.std.proofs.Common.{◌≡◌, inl, inr, ℕ, ◌<◌, ◌&&◌, Bool, true, false, List, [], ◌∷◌, length, All, Contains, refl, sym, ap, ap₂, subst, ◌∙◌}
use Rattle.std.specs.Prelude.{Some, ◌+ℤ◌, ◌*ℤ◌, int_le, slice_index}
use Rattle.std.proofs.lemmas.List.Elements.{All-nil, All-cons, All-head, All-tail, All-weaker}
use Rattle.fraction128.specs.Number.{whole}
use Rattle.fraction128.specs.declared.Summand.{Summand}
use Rattle.fraction128.specs.declared.Grid.{Grid}
use Rattle.fraction128.specs.Lines.{IsSoundGrid}
use Rattle.literals.specs.Signed.{Signed, sign, literal_true}
use Rattle.smt_meaning.specs.declared.values.Value.{Value}
use Rattle.smt_meaning.specs.declared.values.Value.TheVariants.{Truth}
use Rattle.smt_meaning.specs.declared.values.Table.{Table}
use Rattle.smt_meaning.specs.declared.values.Sort.TheVariants.{Int as Ints}
use Rattle.smt_meaning.specs.declared.clauses.Summand.{Summand as SummandOf}
use Rattle.smt_meaning.specs.declared.clauses.Atom.{Atom}
use Rattle.smt_meaning.specs.declared.clauses.Atom.TheVariants.{Truth as TruthAtom, AtMost, Same}
use Rattle.smt_meaning.specs.Declaration.{Declaration}
use Rattle.smt_meaning.specs.Term.{Tree, Trees, node, none, more, tree_at, value, values, truth_of, number_of, same_value, fits, all_fit, head_fits, Interpretation}
use Rattle.smt_meaning.specs.TreeShape.{place_of}
use Rattle.smt_meaning.specs.Clause.{atom_true, sum_places, sum_value}
use Rattle.smt_meaning.specs.Parts.{IsPart, IsPartOfOne}
use Rattle.smt_meaning.specs.Interpretation.{meaning, AreTablesFor}
use Rattle.smt_meaning.specs.Signature.{tree_sort}
use Rattle.smt_meaning.specs.Stack.{signature_of, assertions_of, Satisfies, Holds}
use Rattle.smt_meaning.specs.StackCommand.{Stack}
use Rattle.smt_meaning.specs.CheckAtoms.{IsPartOfStack, IsIntPart, IsLeaf, IsBoundOf, is_leaf}
use Rattle.smt_meaning.specs.Ranges.{HasValue, LeavesInModel}
use Rattle.smt_laws.specs.Flat.{flat, SaysTheSame, FlatSaysTheSame}
use Rattle.search_port.specs.State.{atom_at}
use Rattle.term_store.proofs.PlaceLemmas.{place_of-is}
use Rattle.scope_stack.specs.Shown.{IsLawful}
use Rattle.check_atoms.specs.Parts.{IsMarked}
use Rattle.check_atoms.specs.Marks.{AreStackParts}
use Rattle.check_atoms.specs.Laws.{TruthsAreOfBools}
use Rattle.check_atoms.proofs.Marking.{part_of_part}
use Rattle.equality_clauses.specs.Ties.{yes}
use Rattle.first_clauses.specs.Holding.{IsAssertionTold}
use Rattle.first_clauses.proofs.Numbering.{contained}
use Rattle.model_build.proofs.Placing.{mark_within, different_of}
use Rattle.model_eval.specs.Unfit as Unfit
use Rattle.bound_log.specs.Values.{sum_at}
use Rattle.exact_model.specs.Exact.{listed, number_at}
use Rattle.exact_model.specs.Places.{marked_places, AllMarkedFit}
use Rattle.exact_model.specs.Atoms.{HasMarkedPlaces}
use Rattle.exact_model.specs.Verdict.{truth_in, AreTrueIn}
use Rattle.exact_model.specs.Fitting.{AreFitting}
use Rattle.exact_model.specs.Leaves.{HaveLeafValues, IsOverLeaves}
use Rattle.exact_model.specs.Ends.{GiveExactValues, AreWithin, atom_exactly, truth_exactly, TablesWithinAreModels}
use Rattle.exact_model.proofs.Leafs.{listed_by_leaf, bool_leaf, leaf_there}
use Rattle.exact_model.proofs.Deciding.{are_models}

-- ---- parts that don't fit

both_false : (a b : Bool) → b ≡ false → (a && b) ≡ false
both_false true b e = e
both_false false b e = refl

unfit_whole : (I : Interpretation) (t : Tree) → Unfit.fits_alone I t ≡ false → fits I t ≡ false
unfit_whole I (node h us) e = both_false (all_fit I us) (head_fits I h (values I us)) e

mutual
  same_part : (s t : Tree) → Unfit.IsPart s t → IsPart s t
  same_part s (node h us) (inl e) = inl e
  same_part s (node h us) (inr p) = inr (same_part_of_one s us p)

  same_part_of_one : (s : Tree) (us : Trees) → Unfit.IsPartOfOne s us → IsPartOfOne s us
  same_part_of_one s none p = absurd p
  same_part_of_one s (more t us) (inl p) = inl (same_part s t p)
  same_part_of_one s (more t us) (inr p) = inr (same_part_of_one s us p)

-- ---- tables

module _ (flat_law : FlatSaysTheSame) (of_bools : TruthsAreOfBools) (s : Stack) (marks : List Bool) (vs : List Value) (tables : List Table) (lawful : IsLawful s) (size : length marks ≡ length s.trees)
    (fitting : AreFitting s marks vs) (give : GiveExactValues s.trees marks vs tables) where
  abbrev parts : AreStackParts s marks
  parts = fitting.check.parts

  same : SaysTheSame s.frames
  same = flat_law s.frames

  within : (p : ℕ) → IsMarked marks p → p < length s.trees
  within p m = subst (λ n. p < n) size (mark_within marks p m)

  unflat : (t : Tree) → IsPartOfStack (flat s.frames) t → IsPartOfStack s.frames t
  unflat t h = record { assertion = h.assertion; asserted = subst (λ (us : List Tree). Contains us h.assertion) same.assertions h.asserted; part = h.part }

  flat_part : (t : Tree) → IsPartOfStack s.frames t → IsPartOfStack (flat s.frames) t
  flat_part t h = record { assertion = h.assertion; asserted = subst (λ (us : List Tree). Contains us h.assertion) (sym same.assertions) h.asserted; part = h.part }

  -- a part stands at its place, which is marked
  at_place : (t : Tree) (p : ℕ) → IsPartOfStack (flat s.frames) t → place_of t s.trees ≡ p → IsMarked marks p × (tree_at s.trees p ≡ t)
  at_place t p h e =
      let a = parts.each t (unflat t h) in
      let here : a.0 ≡ p = sym (place_of-is t s.trees a.0 (different_of s.trees lawful.in_order) (within a.0 a.1) a.2) ∙ e in
      (subst (IsMarked marks) here a.1, subst (λ q. tree_at s.trees q ≡ t) here a.2)

  -- ---- assertions

  satisfied : (t : Tree) → IsAssertionTold s.trees fitting.check.decided.first fitting.log t → Satisfies (meaning tables) t
  satisfied t told =
      let p : ℕ = told.place in
      let bool = of_bools s marks fitting.check.decided.first fitting.check.decided.atoms p (contained fitting.check.decided.first told.number (TruthAtom p) told.at) in
      let listed_true : listed vs p ≡ Truth true = fitting.truths (yes told.number) p told.told told.at in
      let leaf : is_leaf (tree_at s.trees p) ≡ true = bool_leaf (signature_of s.frames) (tree_at s.trees p) bool.1 in
      subst (Satisfies (meaning tables)) told.term
      (ap truth_of (give p bool.0 ∙ listed_by_leaf s.trees vs p (different_of s.trees lawful.in_order) (within p bool.0) leaf ∙ listed_true))

  pub holds : Holds (meaning tables) s.frames
  holds = All-weaker (IsAssertionTold s.trees fitting.check.decided.first fitting.log) (Satisfies (meaning tables)) satisfied (assertions_of s.frames) fitting.check.decided.asserted

  -- ---- all in the range

  pub are_within : AreTablesFor (signature_of s.frames) tables → AllMarkedFit s.trees marks (meaning tables) → AreWithin s marks vs tables
  are_within for fit = record { tables_for = for; values = give; fit = fit; holds = holds }

  -- ---- a number leaves it

  module _ (g : Grid) (have : HaveLeafValues s marks g (length s.trees) vs) where
    leaf_has : (t : Tree) (p : ℕ) → IsIntPart s.trees (flat s.frames) t p → IsLeaf s.trees (flat s.frames) p → HasValue g p (whole (number_of (value (meaning tables) t)))
    leaf_has t p i l =
        let a = at_place t p i.part i.place_is in
        let b = at_place l.leaf p l.part.part l.part.place_is in
        let less : p < length s.trees = within p a.0 in
        let leaf : is_leaf (tree_at s.trees p) ≡ true = ap is_leaf b.1 ∙ l.is in
        let int : tree_sort (signature_of s.frames) (tree_at s.trees p) ≡ Some Ints =
        ap (tree_sort (signature_of s.frames)) a.1 ∙ subst (λ (ds : List Declaration). tree_sort ds t ≡ Some Ints) same.signature i.int in
        let v : value (meaning tables) t ≡ listed vs p =
        ap (value (meaning tables)) (sym a.1) ∙ give p a.0 ∙ listed_by_leaf s.trees vs p (different_of s.trees lawful.in_order) less leaf in
        subst (λ (w : Value). HasValue g p (whole (number_of w))) (sym v) (have p less (record { within = less; marked = a.0; is_int = int; leaf = leaf }))

    -- the part that doesn't fit is one of the stack's
    unfit_part : (i : ℕ) → Unfit.IsFirstUnfitOfAny (meaning tables) s.trees (marked_places marks) i → All (IsMarked marks) (marked_places marks) → IsPartOfStack s.frames (tree_at s.trees i)
    unfit_part i first marked =
        let k : ℕ = first.part.0 in
        let q : ℕ = slice_index (marked_places marks) k in
        let of = parts.only q (marked k 0 first.part.1) in
        record { assertion = of.assertion; asserted = of.asserted; part = part_of_part (tree_at s.trees i) (tree_at s.trees q) of.assertion (same_part (tree_at s.trees i) (tree_at s.trees q) first.part.2) of.part }

    pub in_model : (sums : List (List Summand)) (Is : Atom → Type 0) (i : ℕ) → AreTablesFor (signature_of s.frames) tables → Unfit.IsFirstUnfitOfAny (meaning tables) s.trees (marked_places marks) i
        → All (IsMarked marks) (marked_places marks) → IsSoundGrid sums (IsBoundOf Is) g → LeavesInModel s.trees (flat s.frames) sums Is tables i g
    in_model sums Is i are first marked sound = record {
      tree = tree_at s.trees i;
      part = flat_part (tree_at s.trees i) (unfit_part i first marked);
      place_is = place_of-is (tree_at s.trees i) s.trees i (different_of s.trees lawful.in_order) first.place refl;
      tables = subst (λ (ds : List Declaration). AreTablesFor ds tables) (sym same.signature) are;
      holds = subst (λ (us : List Tree). All (Satisfies (meaning tables)) us) (sym same.assertions) holds;
      outside = unfit_whole (meaning tables) (tree_at s.trees i) first.unfit;
      grid = sound;
      values = leaf_has;
    }

-- ---- the truth of literals

module _ (flat_law : FlatSaysTheSame) (s : Stack) (marks : List Bool) (vs : List Value) (tables : List Table) (lawful : IsLawful s) (size : length marks ≡ length s.trees) (give : GiveExactValues s.trees marks vs tables) where
  abbrev I : Interpretation
  I = meaning tables

  leaf_number : (p : ℕ) → IsMarked marks p → IsLeaf s.trees (flat s.frames) p → number_at vs p ≡ number_of (value I (tree_at s.trees p))
  leaf_number p m l =
      let less : p < length s.trees = subst (λ n. p < n) size (mark_within marks p m) in
      sym (ap number_of (give p m ∙ listed_by_leaf s.trees vs p (different_of s.trees lawful.in_order) less (leaf_there flat_law s lawful p l).0))

  sum_is : (sum : List SummandOf) → All (IsMarked marks) (sum_places sum) → All (IsLeaf s.trees (flat s.frames)) (sum_places sum) → sum_at (number_at vs) sum ≡ sum_value s.trees I sum
  sum_is [] m l = refl
  sum_is (t ∷ sum) m l =
      ap₂ (λ x y. t.coefficient *ℤ x +ℤ y)
      (leaf_number t.term (All-head (IsMarked marks) t.term (sum_places sum) m) (All-head (IsLeaf s.trees (flat s.frames)) t.term (sum_places sum) l))
      (sum_is sum (All-tail (IsMarked marks) t.term (sum_places sum) m) (All-tail (IsLeaf s.trees (flat s.frames)) t.term (sum_places sum) l))

  atom_is : (a : Atom) → HasMarkedPlaces marks a → IsOverLeaves s a → atom_exactly s.trees vs a ≡ atom_true s.trees I a
  atom_is (TruthAtom p) m l = sym (ap truth_of (give p (All-head (IsMarked marks) p [] m)))
  atom_is (AtMost sum k) m l = ap (λ n. int_le n k) (sum_is sum m l)
  atom_is (Same p q) m l =
      sym (ap₂ same_value (give p (All-head (IsMarked marks) p (q ∷ []) m)) (give q (All-head (IsMarked marks) q [] (All-tail (IsMarked marks) p (q ∷ []) m))))

  module _ (atoms : List Atom) (marked : All (HasMarkedPlaces marks) atoms) (leaves : All (IsOverLeaves s) atoms) where
    literal_is : (l : Signed) → l.atom < length atoms → literal_true (truth_exactly s.trees vs atoms) l ≡ literal_true (truth_in s.trees atoms I) l
    literal_is l less = ap (sign l.positive) (atom_is (atom_at atoms l.atom) (marked l.atom (TruthAtom 0) less) (leaves l.atom (TruthAtom 0) less))

    literals_true : (log : List Signed) → All (λ (l : Signed). l.atom < length atoms) log → All (λ l. literal_true (truth_exactly s.trees vs atoms) l ≡ true) log → AreTrueIn s.trees atoms I log
    literals_true [] below h = All-nil (λ l. literal_true (truth_in s.trees atoms I) l ≡ true)
    literals_true (l ∷ log) below h =
        All-cons (λ m. literal_true (truth_in s.trees atoms I) m ≡ true) l log
        (sym (literal_is l (All-head (λ (m : Signed). m.atom < length atoms) l log below)) ∙ All-head (λ m. literal_true (truth_exactly s.trees vs atoms) m ≡ true) l log h)
        (literals_true log (All-tail (λ (m : Signed). m.atom < length atoms) l log below) (All-tail (λ m. literal_true (truth_exactly s.trees vs atoms) m ≡ true) l log h))

pub within_are_models : FlatSaysTheSame → TablesWithinAreModels
within_are_models flat_law s marks vs tables atoms log lawful size w marked leaves below h =
    are_models s.trees marks atoms log tables (literals_true flat_law s marks vs tables lawful size w.values atoms marked leaves log below h) w.fit
