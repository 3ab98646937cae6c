-- Pivots and bases where variables are added, values are moved, and pivots are made.
use Rattle.std.specs.List.{range_with_len}
use Rattle.std.proofs.Common.{◌≡◌, ◌∙◌, ℕ, ℤ, zero, suc, ◌+◌, ◌<◌, ◌≤◌, Bool, true, false, if◌then◌else◌, List, [], ◌∷◌, ◌++◌, map, length, Contains, Option, Some, None, inl, inr, refl, sym, ap, ap₂, subst, arith}
use Rattle.std.specs.Prelude.{slice_index_or}
use Rattle.std.proofs.lemmas.Bool.{cases_lt}
use Rattle.std.proofs.lemmas.List.{append-nil, length-map}
use Rattle.std.proofs.lemmas.List.FromFn.{get_or-map-range_with_len}
use Rattle.fraction128.specs.declared.Summand.{Summand}
use Rattle.fraction128.specs.declared.Column.{Column}
use Rattle.fraction128.specs.declared.Grid.{Grid}
use Rattle.fraction128.specs.declared.Line.{Line}
use Rattle.fraction128.specs.declared.Pending.{Pending}
use Rattle.fraction128.specs.Grid.{Step, take, pivot, is_basic, any_crossed, next_step, search_step}
use Rattle.fraction128.specs.Lines.{Bounding, HasBasis, first_basis, exchanged, basis_along}
use Rattle.fraction128.specs.Chain.{PivotsLead, begins, left_by, taken, unbounded}
use Rattle.literals.specs.Signed.{Signed}
use Rattle.smt_meaning.specs.declared.clauses.Atom.{Atom}
use Rattle.smt_meaning.specs.CheckAtoms.{IsBoundOf}
use Rattle.search_port.specs.Pivots.{pivot_lines, AreBasic, AreChained}
use Rattle.search_port.specs.State.{Variables}
use Rattle.search_port.specs.declared.budget.Spent.{Spent}
use Rattle.search_port.specs.declared.budget.Spent.TheVariants.{Learnt, Numbered, Pivot}
use Rattle.search_port.proofs.Pivots.{along_at, along_append, bound_by, chained_by, chained_on, chained_pivots, first_longer}
use Rattle.simplex_steps.proofs.NextStep.{PivotFacts, step_facts}
use Rattle.simplex_steps.proofs.Spans.{not_same}
use Rattle.bound_log.specs.Told.{State, column_sums}
use Rattle.bound_log.specs.Growth.{GrowsVariables}
use Rattle.bound_log.specs.Pending.{plain_grid}
use Rattle.theory_combine.specs.Chained.{BoundsAreSaid, HasBoundsOf, KeepsGrid}
use Rattle.theory_combine.specs.Columns.{basic_flags, variables_of}
use Rattle.theory_combine.specs.Pivots.{pivot_units}
use Rattle.theory_combine.proofs.Chained.{numbered_on, pivots_are_units, takes_none}

-- ---- flags

as_many : (b : State) → length (column_sums b) ≡ length b.bounds.columns
as_many b = length-map b.bounds.columns (λ (c : Column). c.sum)

flag_at : (b : State) (i : ℕ) → i < length (column_sums b) → slice_index_or (basic_flags b) i false ≡ is_basic b.bounds.table.rows i
flag_at b i lt = get_or-map-range_with_len (is_basic b.bounds.table.rows) 0 (length (column_sums b)) i i false lt (omega arith)

some_same : (x y : List Bool) → Some x ≡ Some y → x ≡ y
some_same x y e = cc

no_flags : (x : List Bool) → None ≡ Some x → ⊥
no_flags x e = cc

-- the basis of the rows is told by the flags
pub basis_told : (is : ℕ → Bool) (b : State) → HasBasis is (plain_grid b) → AreBasic is (variables_of None b)
basis_told is b has flags e i lt =
    ap (λ fs. slice_index_or fs i false) (sym (some_same (basic_flags b) flags e)) ∙ flag_at b i lt ∙ has i (subst (λ n. i < n) (as_many b) lt)

pub told_basis : (is : ℕ → Bool) (b : State) → AreBasic is (variables_of None b) → HasBasis is (plain_grid b)
told_basis is b h i lt =
    let here : i < length (column_sums b) = subst (λ n. i < n) (sym (as_many b)) lt in
    sym (flag_at b i here) ∙ h (basic_flags b) refl i here

-- nothing is told of it once the search has stopped
pub none_told : (is : ℕ → Bool) (b : State) (n : ℕ) → AreBasic is (variables_of (Some n) b)
none_told is b n flags e = absurd (no_flags flags e)

-- ---- the variables of a pivot

not_take : (p : Pending) (b : ℕ) (k : ℤ) (c : ℕ) → Some (take p) ≡ Some (pivot b k c) → ⊥
not_take p b k c e = cc

no_step : (s : Step) → None ≡ Some s → ⊥
no_step s e = cc

pivot_within : (g : Grid) (b : ℕ) (k : ℤ) (c : ℕ) → next_step g ≡ Some (pivot b k c) → (b < length g.columns) × (c < length g.columns)
pivot_within g b k c next = by_pending g.pending refl
  where
    by_crossed : g.pending ≡ None → (z : Bool) → any_crossed g.columns ≡ z → (b < length g.columns) × (c < length g.columns)
    by_crossed pending false e = let facts : PivotFacts g b k c = step_facts g (pivot b k c) pending e next in (facts.leaves, facts.enters)
    by_crossed pending true e =
        let searched : search_step g ≡ Some (pivot b k c) = rw pending at next in
        let none : None ≡ Some (pivot b k c) = rw e at searched in
        absurd (no_step (pivot b k c) none)

    by_pending : (o : Option Pending) → g.pending ≡ o → (b < length g.columns) × (c < length g.columns)
    by_pending None e = by_crossed e (any_crossed g.columns) refl
    by_pending (Some p) e = absurd (not_take p b k c (rw e at next))

-- the pivots change nothing of variables past these
lines_within : (sums : List (List Summand)) (B : Bounding) (here there : Option Grid) (us : List Spent) (is js : ℕ → Bool) → AreChained sums B is here us there → (i : ℕ) → length sums ≤ i → basis_along js (pivot_lines us) i ≡ js i
lines_within sums B here there [] is js h i past = refl
lines_within sums B here there (Learnt c ∷ us) is js h i past = lines_within sums B None there us is js h i past
lines_within sums B here there (Numbered n ∷ us) is js h i past = lines_within sums B None there us is js h i past
lines_within sums B here there (Pivot l ∷ us) is js h i past = lines_within sums B (Some (left_by h.0)) there us (exchanged l is) (exchanged l js) h.2 i past ∙ one
  where
    one : exchanged l js i ≡ js i
    one =
        let w = pivot_within h.0.grid h.0.leaves h.0.number h.0.enters h.0.next in
        let leaves : h.0.leaves < length sums = (h.0.sound.columns h.0.leaves w.0).0 in
        let enters : h.0.enters < length sums = (h.0.sound.columns h.0.enters w.1).0 in
        subst (λ (m : Line). exchanged m js i ≡ js i) (sym h.0.line)
        (ap₂ (λ x y. if x then true else if y then false else js i) (not_same i h.0.enters (λ e. absurd (omega (arith, past, enters, e)))) (not_same i h.0.leaves (λ e. absurd (omega (arith, past, leaves, e)))))

-- ---- variables are added

pub basis_grown : (old new : State) (B : Bounding) (there : Option Grid) (us : List Spent) → GrowsVariables old new → AreChained (column_sums old) B (first_basis (column_sums old)) None us there
    → HasBasis (basis_along (first_basis (column_sums old)) (pivot_lines us)) (plain_grid old) → HasBasis (basis_along (first_basis (column_sums new)) (pivot_lines us)) (plain_grid new)
basis_grown old new B there us grows pivots has i lt = elim (cases_lt i (length old.bounds.columns)) [
  | inl before ↦
      let here : i < length (column_sums old) = subst (λ n. i < n) (sym (as_many old)) before in
      let first : first_basis (column_sums old) i ≡ first_basis (column_sums new) i = first_longer (column_sums old) grows.more i here ∙ ap (λ xs. first_basis xs i) (sym grows.sums) in
      grows.stay i before ∙ has i before ∙ along_at (pivot_lines us) (first_basis (column_sums old)) (first_basis (column_sums new)) i first
  | inr past ↦
      let beyond : length (column_sums old) ≤ i = omega (arith, past, as_many old) in
      grows.added i (omega (arith, past)) lt ∙ sym (lines_within (column_sums old) B None there us (first_basis (column_sums old)) (first_basis (column_sums new)) pivots i beyond)
]

-- before any pivot
pub first_grown : (old new : State) → GrowsVariables old new → HasBasis (first_basis (column_sums old)) (plain_grid old) → HasBasis (first_basis (column_sums new)) (plain_grid new)
first_grown old new grows has = basis_grown old new (λ sum side k. ⊥) None [] grows tt has

module _ (t u : List Atom) (f : (a : Atom) → Contains t a → Contains u a) where
  abbrev Over : List Atom → Bounding
  Over table = IsBoundOf (Contains table)

  -- the lines go on with more variables and over more atoms
  pub lines_grown : (sums more later : List (List Summand)) (there : Option Grid) (us : List Spent) → later ≡ sums ++ more → AreChained sums (Over t) (first_basis sums) None us there → AreChained later (Over u) (first_basis later) None us there
  lines_grown sums more later there us e h =
      subst (λ xs. AreChained xs (Over u) (first_basis xs) None us there) (sym e)
      (chained_by (Over t) (Over u) (bound_by (Contains t) (Contains u) f) sums more None there us (first_basis sums) (first_basis (sums ++ more)) (λ i lt. first_longer sums more i lt) h)

-- ---- units

pub lines_numbered : (us : List Spent) (n : ℕ) → pivot_lines (us ++ Numbered n ∷ []) ≡ pivot_lines us
lines_numbered [] n = refl
lines_numbered (Learnt c ∷ us) n = lines_numbered us n
lines_numbered (Numbered m ∷ us) n = lines_numbered us n
lines_numbered (Pivot l ∷ us) n = ap (λ (ls : List Line). l ∷ ls) (lines_numbered us n)

pub lines_pivoted : (us : List Spent) (ls : List Line) → pivot_lines (us ++ pivot_units ls) ≡ pivot_lines us ++ ls
lines_pivoted [] [] = refl
lines_pivoted [] (l ∷ ls) = ap (λ (ms : List Line). l ∷ ms) (lines_pivoted [] ls)
lines_pivoted (Learnt c ∷ us) ls = lines_pivoted us ls
lines_pivoted (Numbered m ∷ us) ls = lines_pivoted us ls
lines_pivoted (Pivot l ∷ us) ls = ap (λ (ms : List Line). l ∷ ms) (lines_pivoted us ls)

-- ---- pivots of a state

-- variables were added, over more atoms, and no pivot was made
pub pivots_on : (t u : List Atom) → ((a : Atom) → Contains t a → Contains u a) → (old new : State) (there : Option Grid) (us vs : List Spent) (n : ℕ) → GrowsVariables old new → vs ≡ us ++ Numbered n ∷ []
    → AreChained (column_sums old) (IsBoundOf (Contains t)) (first_basis (column_sums old)) None us there → AreBasic (basis_along (first_basis (column_sums old)) (pivot_lines us)) (variables_of None old)
    → AreChained (column_sums new) (IsBoundOf (Contains u)) (first_basis (column_sums new)) None vs (Some (plain_grid new)) × AreBasic (basis_along (first_basis (column_sums new)) (pivot_lines vs)) (variables_of None new)
pivots_on t u f old new there us vs n grows e lines basis =
    let sums = column_sums new in
    let same : pivot_lines vs ≡ pivot_lines us = ap pivot_lines e ∙ lines_numbered us n in (
      subst (λ ws. AreChained sums (IsBoundOf (Contains u)) (first_basis sums) None ws (Some (plain_grid new))) (sym e)
          (numbered_on sums (IsBoundOf (Contains u)) (first_basis sums) None there (Some (plain_grid new)) us n (lines_grown t u f (column_sums old) grows.more sums there us grows.sums lines)),
      subst (λ ls. AreBasic (basis_along (first_basis sums) ls) (variables_of None new)) (sym same)
          (basis_told (basis_along (first_basis sums) (pivot_lines us)) new
          (basis_grown old new (IsBoundOf (Contains t)) there us grows lines (told_basis (basis_along (first_basis (column_sums old)) (pivot_lines us)) old basis))),
    )

-- these pivots go on from the old bounds' grid, which takes in what the log says
pub chained_made : (t : List Atom) (log : List Signed) (old new : State) (there : Option Grid) (us vs : List Spent) (made : List Line) (g : Grid) → column_sums new ≡ column_sums old → HasBoundsOf t log old
    → unbounded g ≡ unbounded (plain_grid old) → BoundsAreSaid t log g → AreChained (column_sums old) (IsBoundOf (Contains t)) (first_basis (column_sums old)) None us (Some g)
    → PivotsLead (column_sums old) (IsBoundOf (Contains t)) (basis_along (first_basis (column_sums old)) (pivot_lines us)) (Some (plain_grid old)) made there → vs ≡ us ++ pivot_units made
    → AreChained (column_sums new) (IsBoundOf (Contains t)) (first_basis (column_sums new)) None vs there
chained_made t log old new there us vs made g e has same said chained lead units =
    let sums = column_sums old in
    let B = IsBoundOf (Contains t) in
    let first = first_basis sums in
    let on = chained_on sums B first None g (plain_grid old) us chained (taken g (plain_grid old) begins (has.taken g same said)) in
    subst (λ xs. AreChained xs B (first_basis xs) None vs there) (sym e)
    (subst (λ ws. AreChained sums B first None ws there) (sym (units ∙ ap (λ ws. us ++ ws) (sym (pivots_are_units made)))) (chained_pivots sums B first None there (plain_grid old) us made on lead))

-- these pivots were made
pub pivots_made : (old new : State) (us : List Spent) (made : List Line) → column_sums new ≡ column_sums old → ((is : ℕ → Bool) → HasBasis is (plain_grid old) → HasBasis (basis_along is made) (plain_grid new))
    → AreBasic (basis_along (first_basis (column_sums old)) (pivot_lines us)) (variables_of None old) → AreBasic (basis_along (first_basis (column_sums new)) (pivot_lines us ++ made)) (variables_of None new)
pivots_made old new us made e after basis =
    let ls = pivot_lines us in
    let is : ℕ → Bool = basis_along (first_basis (column_sums old)) ls in
    let has : HasBasis is (plain_grid old) = told_basis is old basis in
    subst (λ xs. AreBasic (basis_along (first_basis xs) (ls ++ made)) (variables_of None new)) (sym e)
    (subst (λ js. AreBasic js (variables_of None new)) (sym (along_append ls made (first_basis (column_sums old)))) (basis_told (basis_along is made) new (after is has)))

-- ---- what stays

pub grows_none : (b : State) → GrowsVariables b b
grows_none b = record { more = []; sums = sym (append-nil (column_sums b)); stay = λ i lt. refl; added = λ i past lt. absurd (omega (arith, past, lt)); taken = takes_none (plain_grid b) }

flags_same : (f g : ℕ → Bool) (a n : ℕ) → ((i : ℕ) → i < a + n → f i ≡ g i) → map f (range_with_len a n) ≡ map g (range_with_len a n)
flags_same f g a zero h = refl
flags_same f g a (suc n) h = ap₂ (λ (x : Bool) (xs : List Bool). x ∷ xs) (h a (omega arith)) (flags_same f g (a + 1) n (λ i lt. h i (omega (arith, lt))))

pub variables_same : (o : Option ℕ) (b d : State) → KeepsGrid b d → variables_of o d ≡ variables_of o b
variables_same (Some n) b d keeps = ap (λ xs. let v : Variables = record { sums = xs; basic = None; grid = None } in v) keeps.sums
variables_same None b d keeps =
    ap₂ (λ (xs : List (List Summand)) (fs : List Bool). let v : Variables = record { sums = xs; basic = Some fs; grid = Some (unbounded (plain_grid d)) } in v) keeps.sums
    (ap (λ n. map (is_basic d.bounds.table.rows) (range_with_len 0 n)) same
    ∙ flags_same (is_basic d.bounds.table.rows) (is_basic b.bounds.table.rows) 0 (length (column_sums b))
    (λ i lt. keeps.basis (is_basic b.bounds.table.rows) (λ j l. refl) i (subst (λ n. i < n) (sym same ∙ as_many d) (omega (arith, lt)))))
    ∙ ap (λ (g : Grid). let v : Variables = record { sums = column_sums b; basic = Some (basic_flags b); grid = Some g } in v) keeps.grid
  where
    same : length (column_sums d) ≡ length (column_sums b)
    same = ap (λ (xs : List (List Summand)). length xs) keeps.sums
