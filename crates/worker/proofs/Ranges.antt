-- On a stack without integers no number leaves the range, and each assertion fits.
use Rattle.std.proofs.Common.{◌≡◌, inl, inr, ℕ, ◌<◌, Bool, true, false, List, [], ◌∷◌, length, All, Contains, get_or, subst, sym, ◌∙◌, refl, arith}
use Rattle.std.specs.Prelude.{Option, Some, None, flat_map}
use Rattle.std.specs.List.{list_all}
use Rattle.std.proofs.lemmas.List.Elements.{All-nil, All-cons, All-append, All-head, All-tail, All-contains, Contains-get_or}
use Rattle.fraction128.specs.declared.Line.{Line}
use Rattle.fraction128.specs.declared.Summand.{Summand as GridSummand}
use Rattle.fraction128.specs.declared.Column.{Column}
use Rattle.fraction128.specs.declared.TableRow.{TableRow}
use Rattle.fraction128.specs.declared.Pending.{Pending}
use Rattle.fraction128.specs.declared.Grid.{Grid}
use Rattle.fraction128.specs.Grid.{next_step}
use Rattle.smt_meaning.specs.declared.values.Sort.TheVariants.{Bool as Truths}
use Rattle.smt_meaning.specs.declared.values.Table.{Table}
use Rattle.smt_meaning.specs.declared.clauses.Atom.{Atom}
use Rattle.smt_meaning.specs.declared.clauses.Atom.TheVariants.{AtMost}
use Rattle.smt_meaning.specs.declared.reports.RangeSeen.{RangeSeen}
use Rattle.smt_meaning.specs.declared.reports.RangeSeen.TheVariants.{Coefficient, Pair, Argument, Step as StepSeen, Model}
use Rattle.smt_meaning.specs.Declaration.{Declaration}
use Rattle.smt_meaning.specs.Term.{Tree, fits}
use Rattle.smt_meaning.specs.Signature.{tree_sort}
use Rattle.smt_meaning.specs.Interpretation.{meaning, AreTablesFor}
use Rattle.smt_meaning.specs.Stack.{signature_of, assertions_of}
use Rattle.smt_meaning.specs.StackCommand.{Stack}
use Rattle.smt_meaning.specs.Atoms.{atoms_of, pair_atoms, stack_atoms, stack_atoms_are}
use Rattle.smt_meaning.specs.CheckAtoms.{IsPartOfStack, IsIntPart, IsLeaf, IsFirstAtom, IsCheckAtom, AreBranches, IsKnownSum, AreCheckSums}
use Rattle.smt_meaning.specs.CheckAtoms.IsKnownSum.{of_leaf, of_atom}
use Rattle.smt_meaning.specs.Ranges.{LeavesRange, LeavesInStep}
use Rattle.smt_meaning.specs.Kinds.{has_no_int, has_no_integers}
use Rattle.smt_laws.specs.TermLaws.{ValueHasItsSort, TablesInterpret}
use Rattle.scope_stack.specs.Shown.{IsLawful}
use Rattle.worker.specs.Endings.{NothingLeavesRange}
use Rattle.worker.proofs.Free.{IsFree, IsNoBound, left_true, right_true, no_int_sort, part_is_free, it_folds, it_compares, pair_is, atoms_are, it_fits}

all_of_them : (f : Tree → Bool) (ts : List Tree) → list_all f ts ≡ true → All (λ t. f t ≡ true) ts
all_of_them f [] h = All-nil (λ t. f t ≡ true)
all_of_them f (t ∷ ts) h = All-cons (λ u. f u ≡ true) t ts (left_true (f t) _ h) (all_of_them f ts (right_true (f t) _ h))

all_in_lists : (f : Tree → List Atom) (ts : List Tree) → ((t : Tree) → Contains ts t → All IsNoBound (f t)) → All IsNoBound (flat_map f ts)
all_in_lists f ts h = in_order ts (λ k d l. h (get_or ts k d) (Contains-get_or ts k d l))
  where
    in_order : (us : List Tree) → All (λ t. All IsNoBound (f t)) us → All IsNoBound (flat_map f us)
    in_order [] k = All-nil IsNoBound
    in_order (u ∷ us) k = All-append IsNoBound (f u) (flat_map f us) (All-head (λ t. All IsNoBound (f t)) u us k) (in_order us (All-tail (λ t. All IsNoBound (f t)) u us k))

-- without columns and a bound that waits there is no next step
no_step : (columns : List Column) (rows : List TableRow) (pending : Option Pending) → columns ≡ [] → pending ≡ None → next_step (record { columns = columns; rows = rows; pending = pending }) ≡ None
no_step [] rows None c p = refl
no_step [] rows (Some x) c p = absurd cc
no_step (c ∷ cs) rows pending e p = absurd cc

none_where : {X : Type 0} (o : Option X) → ((x : X) → o ≡ Some x → ⊥) → o ≡ None
none_where None h = refl
none_where (Some x) h = absurd (h x refl)

empty_where : {X : Type 0} (xs : List X) → ((x : X) (ys : List X) → xs ≡ x ∷ ys → ⊥) → xs ≡ []
empty_where [] h = refl
empty_where (x ∷ ys) h = absurd (h x ys refl)

both_truths : (b : Bool) → b ≡ true → b ≡ false → ⊥
both_truths b t f = let e : true ≡ false = sym t ∙ f in cc

module _ (s : Stack) (law : IsLawful s) (free : has_no_integers s.frames ≡ true) where
  abbrev ds : List Declaration
  ds = signature_of s.frames

  assertion_is_free : (t : Tree) → Contains (assertions_of s.frames) t → IsFree ds t
  assertion_is_free t k = record {
    sort = Truths;
    sorted = All-contains (λ (u : Tree). tree_sort ds u ≡ Some Truths) (assertions_of s.frames) t law.truths k;
    free = All-contains (λ (u : Tree). has_no_int ds u ≡ true) (assertions_of s.frames) t (all_of_them (has_no_int ds) (assertions_of s.frames) free) k;
  }

  free_part : (t : Tree) → IsPartOfStack s.frames t → IsFree ds t
  free_part t p = part_is_free ds t p.assertion p.part (assertion_is_free p.assertion p.asserted)

  no_int_part : (t : Tree) (place : ℕ) → IsIntPart s.trees s.frames t place → ⊥
  no_int_part t place p = no_int_sort ds t (free_part t p.part).free p.int

  no_leaf : (place : ℕ) → IsLeaf s.trees s.frames place → ⊥
  no_leaf place l = no_int_part l.leaf place l.part

  -- ---- atoms, branches and sums

  first_atom : (a : Atom) → IsFirstAtom s.trees s.frames a → IsNoBound a
  first_atom a (inl k) =
      All-contains IsNoBound (stack_atoms s.trees s.frames) a
      (subst (All IsNoBound) (sym (stack_atoms_are s.trees s.frames)) (all_in_lists (atoms_of s.trees ds) (assertions_of s.frames) (λ t c. atoms_are s.trees ds t (assertion_is_free t c)))) k
  first_atom a (inr (inl c)) = All-contains IsNoBound (pair_atoms s.trees ds c.left c.right) a (pair_is s.trees ds c.left c.right (free_part c.left c.left_part).free) c.among
  first_atom a (inr (inr b)) = absurd (no_leaf b.term b.leaf)

  no_branches : (sums : List (List GridSummand)) (branches : List Line) → AreBranches s.trees s.frames sums branches → branches ≡ []
  no_branches sums [] h = refl
  no_branches sums (l ∷ ls) h = absurd (no_leaf h.0.term h.0.is_leaf)

  check_atom : (branches : List Line) (a : Atom) → branches ≡ [] → IsCheckAtom s.trees s.frames branches a → IsNoBound a
  check_atom branches a none is = first_atom a (subst (λ (ls : List Line). IsCheckAtom s.trees s.frames ls a) none is)

  no_sum : (ps : List GridSummand) → IsKnownSum s.trees s.frames ps → ⊥
  no_sum ps (of_leaf t leaf e) = no_leaf t leaf
  no_sum ps (of_atom qs k a e) = first_atom (AtMost qs k) a

  no_sums : (sums : List (List GridSummand)) → AreCheckSums s.trees s.frames sums → sums ≡ []
  no_sums [] h = refl
  no_sums (ps ∷ sums) h = absurd (no_sum ps (All-head (IsKnownSum s.trees s.frames) ps sums h.known))

  -- ---- what leaves the range

  none_below : (n : ℕ) → n < 0 → ⊥
  none_below n h = omega (arith, h)

  no_columns : (sums : List (List GridSummand)) (g : Grid) (branches : List Line) → sums ≡ [] → LeavesInStep s.trees s.frames sums (IsCheckAtom s.trees s.frames branches) g → g.columns ≡ []
  no_columns sums g branches none h =
      empty_where g.columns (λ c cs e.
      (let some : 0 < length g.columns = subst (λ (xs : List Column). 0 < length xs) (sym e) (omega arith) in
      none_below 0 (subst (λ (xs : List (List GridSummand)). 0 < length xs) none (h.grid.columns 0 some).0)))

  no_pending : (sums : List (List GridSummand)) (g : Grid) (branches : List Line) → branches ≡ [] → LeavesInStep s.trees s.frames sums (IsCheckAtom s.trees s.frames branches) g → g.pending ≡ None
  no_pending sums g branches none h = none_where g.pending (λ p e. (let on = h.pending p e in check_atom branches (AtMost on.terms p.number) none on.atom))

  no_step_leaves : (sums : List (List GridSummand)) (g : Grid) (branches : List Line) → sums ≡ [] → branches ≡ [] → LeavesInStep s.trees s.frames sums (IsCheckAtom s.trees s.frames branches) g → ⊥
  no_step_leaves sums g branches no_sums none h =
      let stands : next_step g ≡ None = no_step g.columns g.rows g.pending (no_columns sums g branches no_sums h) (no_pending sums g branches none h) in
      let next : None ≡ Some h.next.step = sym stands ∙ h.next.next in cc

  pub fits_free : TablesInterpret → ValueHasItsSort → (tables : List Table) (t : Tree) → AreTablesFor ds tables → IsPartOfStack s.frames t → fits (meaning tables) t ≡ true
  fits_free interpret sorts tables t for_these part = it_fits sorts ds (meaning tables) (interpret ds tables law.no_id_twice for_these) t (free_part t part)

  nothing_leaves : TablesInterpret → ValueHasItsSort → (sums : List (List GridSummand)) (branches : List Line) (seen : RangeSeen) → sums ≡ [] → branches ≡ []
      → LeavesRange s.trees s.frames sums (IsCheckAtom s.trees s.frames branches) seen → ⊥
  nothing_leaves interpret sorts sums branches (Coefficient place) e none h =
      elim h.leaves [
        | inl fails ↦ both_truths _ (it_folds s.trees ds h.tree (free_part h.tree h.part)) fails
        | inr fails ↦ both_truths _ (it_compares s.trees ds h.tree (free_part h.tree h.part)) fails
      ]
  nothing_leaves interpret sorts sums branches (Pair left right) e none h = no_int_part h.left left h.left_part
  nothing_leaves interpret sorts sums branches (Argument place g) e none h = no_int_part h.tree place h.argument.int
  nothing_leaves interpret sorts sums branches (StepSeen g) e none h = no_step_leaves sums g branches e none h
  nothing_leaves interpret sorts sums branches (Model tables place g) e none h = both_truths _ (fits_free interpret sorts tables h.tree h.tables h.part) h.outside

pub no_range : TablesInterpret → ValueHasItsSort → NothingLeavesRange
no_range interpret sorts s branches seen law free past =
    nothing_leaves s law free interpret sorts past.sums branches seen (no_sums s law free past.sums past.known) (no_branches s law free past.sums branches past.are_branches) past.leaves
