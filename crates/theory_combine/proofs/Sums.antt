-- The sums of variables as sums of the check.
use Rattle.std.proofs.Common.{◌≡◌, ◌≢◌, ◌∙◌, ◌⊎◌, ℕ, ◌<◌, List, length, [], ◌∷◌, ◌++◌, map, ℤ, pos, negsuc, neg_ℤ, All, Contains, Some, inl, inr, Bool, true, false, if◌then◌else◌, refl, sym, ap, subst, arith}
use Rattle.std.specs.Prelude.{AllPairs, Option}
use Rattle.std.proofs.lemmas.List.Elements.{All-nil, All-cons, All-head, All-tail, All-weaker, All-contains, All-append, All-map, All-push, Contains-append_cases, Contains-push_cases}
use Rattle.fraction128.specs.declared.Summand.{Summand as GridSummand}
use Rattle.fraction128.specs.declared.Member.{Member}
use Rattle.fraction128.specs.declared.Line.{Line}
use Rattle.fraction128.specs.Grid.{leaf, turned, is_turned}
use Rattle.fraction128.specs.Lines.{IsBranchLine}
use Rattle.smt_meaning.specs.declared.clauses.Summand.{Summand}
use Rattle.smt_meaning.specs.declared.clauses.Atom.{Atom}
use Rattle.smt_meaning.specs.declared.clauses.Atom.TheVariants.{AtMost}
use Rattle.smt_meaning.specs.declared.reports.RangeSeen.{RangeSeen}
use Rattle.smt_meaning.specs.Term.{Tree}
use Rattle.smt_meaning.specs.Stack.{Frame}
use Rattle.smt_meaning.specs.StackCommand.{Stack}
use Rattle.smt_meaning.specs.Clause.{sum_places}
use Rattle.smt_meaning.specs.Linear.{summand}
use Rattle.smt_meaning.specs.Boxes.{term_at_most, negation_at_most}
use Rattle.smt_meaning.specs.CheckAtoms.{IsFirstAtom, IsLeaf, WithBranch, WithBranches, EachIsBranch, AreBranches, IsCheckAtom, IsKnownSum, AreCheckSums, grid_sum}
use Rattle.smt_laws.specs.Flat.{flat}
use Rattle.simplex_steps.specs.State.{no_column, column_in}
use Rattle.sum_bounds.specs.Clauses.{plain}
use Rattle.bound_log.specs.Told.{State, column_sums}
use Rattle.bound_log.specs.Columns.{IsColumnOf}
use Rattle.theory_combine.specs.Columns.{bound_on, with_leaves, HasKnownColumns}
use Rattle.theory_combine.specs.Errors.{IsSumIn}
use Rattle.theory_combine.specs.Shown.{AreShown, IsOfCheck, IsOverLeaves, IsToShow}

-- ---- the sum of an atom of a branch is its leaf

abbrev term_in : List GridSummand → ℕ
term_in [] = 0
term_in (p ∷ ps) = p.term

same_term : (s t : ℕ) → leaf s ≡ leaf t → s ≡ t
same_term s t e = ap term_in e

some_back : (x y : Member) → Some x ≡ Some y → x ≡ y
some_back x y e = cc

at_most_sum : (p q : List Summand) (j k : ℤ) → AtMost q k ≡ AtMost p j → q ≡ p
at_most_sum p q j k e = cc

among_two : (a b x : Atom) → Contains (a ∷ b ∷ []) x → (a ≡ x) ⊎ (b ≡ x)
among_two a b x c = elim (Contains-append_cases (a ∷ []) (b ∷ []) x c) [
  | inl here ↦ elim (Contains-push_cases [] a x here) [ inl gone ↦ absurd (no_item x gone) | inr e ↦ inl e ]
  | inr later ↦ elim (Contains-push_cases [] b x later) [ inl gone ↦ absurd (no_item x gone) | inr e ↦ inr e ]
]
  where
    no_item : (y : Atom) → Contains [] y → ⊥
    no_item y (k, lt, is) = absurd (omega (arith, lt))

branch_sum : (term : ℕ) (m n : ℤ) (qs : List Summand) (k : ℤ) → Contains (term_at_most term m ∷ negation_at_most term n ∷ []) (AtMost qs k) → turned (grid_sum qs) ≡ leaf term
branch_sum term m n qs k c = elim (among_two (term_at_most term m) (negation_at_most term n) (AtMost qs k) c) [
  | inl e ↦ ap (λ q. turned (grid_sum q)) (at_most_sum (record { coefficient = pos 1; term = term } ∷ []) qs m k (sym e))
  | inr e ↦ ap (λ q. turned (grid_sum q)) (at_most_sum (record { coefficient = negsuc 0; term = term } ∷ []) qs n k (sym e))
]

-- a line branches on one term
one_term : (l : Line) (s t : ℕ) (j k : ℤ) → IsBranchLine s j l → IsBranchLine t k l → s ≡ t
one_term l s t j k a b =
    let same : a.basic ≡ b.basic = some_back a.basic b.basic (sym a.is_basic ∙ b.is_basic) in
    same_term s t (sym a.is_term ∙ ap (λ (m : Member). m.column.sum) same ∙ b.is_term)

module _ (ts : List Tree) (frames : List Frame) (sums : List (List GridSummand)) where
  known_with : (Is : Atom → Type 0) (ls : List Line) → ((qs : List Summand) (k : ℤ) → Is (AtMost qs k) → IsKnownSum ts frames (turned (grid_sum qs))) → EachIsBranch ts frames sums Is ls
      → (qs : List Summand) (k : ℤ) → WithBranches Is ls (AtMost qs k) → IsKnownSum ts frames (turned (grid_sum qs))
  known_with Is [] known each qs k a = known qs k a
  known_with Is (l ∷ ls) known each qs k a = known_with (WithBranch Is l) ls known_here each.1 qs k a
    where
      known_here : (ps : List Summand) (j : ℤ) → WithBranch Is l (AtMost ps j) → IsKnownSum ts frames (turned (grid_sum ps))
      known_here ps j (inl h) = known ps j h
      known_here ps j (inr h) =
          IsKnownSum.of_leaf each.0.term each.0.is_leaf (branch_sum h.term h.floor _ ps j h.among ∙ ap leaf (one_term l h.term each.0.term h.floor each.0.floor h.branches each.0.branches))

  -- the sum of each atom of the check is a known one
  known_sum : (branches : List Line) → AreBranches ts frames sums branches → (qs : List Summand) (k : ℤ) → IsCheckAtom ts frames branches (AtMost qs k) → IsKnownSum ts frames (turned (grid_sum qs))
  known_sum branches each qs k a = known_with (IsFirstAtom ts frames) branches (λ ps j h. IsKnownSum.of_atom ps j h refl) each qs k a

-- ---- sums that aren't empty

no_first : (p : GridSummand) (ps : List GridSummand) → p ∷ ps ≡ [] → ⊥
no_first p ps e = cc

turned_some : (ps : List GridSummand) → turned ps ≡ [] → ps ≡ []
turned_some [] e = refl
turned_some (p ∷ ps) e = absurd (by_sign (is_turned (p ∷ ps)) e)
  where
    by_sign : (z : Bool) → (if z then map (λ (q : GridSummand). record { coefficient = neg_ℤ q.coefficient; term = q.term }) (p ∷ ps) else p ∷ ps) ≡ [] → ⊥
    by_sign true f = cc
    by_sign false f = cc

plain_some : (ps : List Summand) → plain ps ≡ [] → ps ≡ []
plain_some [] e = refl
plain_some (p ∷ ps) e = cc

-- ---- the sums of a table's atoms and of leaves

-- what holds of the places of a sum holds of its terms
term_of : (P : ℕ → Type 0) (sum : List Summand) (p : Summand) → All P (sum_places sum) → Contains sum p → P p.term
term_of P sum p h c = All-contains (λ (q : Summand). P q.term) sum p (from_places P sum h) c
  where
    from_places : (P : ℕ → Type 0) (sum : List Summand) → All P (sum_places sum) → All (λ (q : Summand). P q.term) sum
    from_places P [] h = All-nil (λ (q : Summand). P q.term)
    from_places P (q ∷ qs) h = All-cons (λ (r : Summand). P r.term) q qs (All-head P q.term (sum_places qs) h) (from_places P qs (All-tail P q.term (sum_places qs) h))

terms_same : (ps qs : List Summand) (j k : ℤ) → AtMost ps j ≡ AtMost qs k → ps ≡ qs
terms_same ps qs j k e = cc

over_both : (s : Stack) (table : List Atom) → All (IsOverLeaves s) table → (own : List ℕ) → All (IsLeaf s.trees (flat s.frames)) own → All (IsOverLeaves s) (with_leaves own table)
over_both s table over_leaves own leaves =
    All-append (IsOverLeaves s) (map bound_on own) table
    (All-map (IsOverLeaves s) bound_on own
    (All-weaker (IsLeaf s.trees (flat s.frames)) (λ t. IsOverLeaves s (bound_on t)) (λ t h. All-cons (IsLeaf s.trees (flat s.frames)) t [] h (All-nil (IsLeaf s.trees (flat s.frames)))) own leaves))
    over_leaves

module _ (s : Stack) (sums : List (List GridSummand)) (rows : List Line) (branches : AreBranches s.trees (flat s.frames) sums rows) (table : List Atom) (atoms : All (IsOfCheck s rows) table) (over_leaves : All (IsOverLeaves s) table)
    (own : List ℕ) (leaves : All (IsLeaf s.trees (flat s.frames)) own) where
  -- a bound on a leaf alone, or an atom of the check
  abbrev IsOfEither : Atom → Type 0
  IsOfEither a = ((t : ℕ) × IsLeaf s.trees (flat s.frames) t × (a ≡ bound_on t)) ⊎ IsOfCheck s rows a

  either : All IsOfEither (with_leaves own table)
  either =
      All-append IsOfEither (map bound_on own) table
      (All-map IsOfEither bound_on own (All-weaker (IsLeaf s.trees (flat s.frames)) (λ t. IsOfEither (bound_on t)) (λ t h. inl (t, h, refl)) own leaves))
      (All-weaker (IsOfCheck s rows) IsOfEither (λ a h. inr h) table atoms)

  by_atom : (ps : List GridSummand) (terms : List Summand) (most : ℤ) → ps ≡ turned (plain terms) → IsOfEither (AtMost terms most) → IsKnownSum s.trees (flat s.frames) ps
  by_atom ps terms most e (inl (t, h, is)) = IsKnownSum.of_leaf t h (e ∙ ap (λ (qs : List Summand). turned (plain qs)) (terms_same terms (summand t (pos 1) ∷ []) most (pos 0) is))
  by_atom ps terms most e (inr h) = subst (IsKnownSum s.trees (flat s.frames)) (sym e) (known_sum s.trees (flat s.frames) sums rows branches terms most h)

  known : (ps : List GridSummand) → IsSumIn (with_leaves own table) ps → IsKnownSum s.trees (flat s.frames) ps
  known ps (inl h) =
      IsKnownSum.of_leaf h.part.term (term_of (IsLeaf s.trees (flat s.frames)) h.terms h.part (All-contains (IsOverLeaves s) (with_leaves own table) (AtMost h.terms h.most) (over_both s table over_leaves own leaves) h.atom) h.among) h.sum_is
  known ps (inr h) = by_atom ps h.terms h.most h.sum_is (All-contains IsOfEither (with_leaves own table) (AtMost h.terms h.most) either h.atom)

  filled : (ps : List GridSummand) → IsSumIn (with_leaves own table) ps → ps ≢ []
  filled ps (inl h) e = no_first (record { coefficient = pos 1; term = h.part.term }) [] (sym h.sum_is ∙ e)
  filled ps (inr h) e = h.filled (plain_some h.terms (turned_some (plain h.terms) (sym h.sum_is ∙ e)))

  pub check_sums : (later : List (List GridSummand)) → AllPairs (λ (ps qs : List GridSummand). ps ≢ qs) later → All (IsSumIn (with_leaves own table)) later → AreCheckSums s.trees (flat s.frames) later
  check_sums later apart h = record {
    apart = apart;
    filled = All-weaker (IsSumIn (with_leaves own table)) (λ (ps : List GridSummand). ps ≢ []) filled later h;
    known = All-weaker (IsSumIn (with_leaves own table)) (IsKnownSum s.trees (flat s.frames)) known later h;
  }

-- the sums of variables, as those of their columns
pub sums_in : (table : List Atom) (b : State) → All (IsColumnOf table) b.bounds.columns → All (IsSumIn table) (column_sums b)
sums_in table b h = All-map (IsSumIn table) _ b.bounds.columns h

-- with an atom more that may get a number
pub sums_added : (s : Stack) (sums : List (List GridSummand)) (rows : List Line) (left : Option RangeSeen) (table : List Atom) (a : Atom) (b : State) → AreShown s sums rows left table → IsToShow s rows a
    → HasKnownColumns s (table ++ a ∷ []) b → AllPairs (λ (ps qs : List GridSummand). ps ≢ qs) (column_sums b) → AreCheckSums s.trees (flat s.frames) (column_sums b)
sums_added s sums rows left table a b shown to_show h apart =
    check_sums s sums rows shown.branches (table ++ a ∷ []) (All-push (IsOfCheck s rows) table a shown.atoms to_show.of_check) (All-push (IsOverLeaves s) table a shown.leaves to_show.leaves) h.own h.leaves (column_sums b) apart
    (sums_in (with_leaves h.own (table ++ a ∷ [])) b h.columns)

-- ---- a variable of a term alone

first_term : (P : ℕ → Type 0) (terms : List Summand) (t : ℕ) → turned (plain terms) ≡ leaf t → All P (sum_places terms) → P t
first_term P [] t e h = absurd (no_first (record { coefficient = pos 1; term = t }) [] (sym e))
first_term P (p ∷ ps) t e h = subst P (by_sign (is_turned (plain (p ∷ ps))) e) (All-head P p.term (sum_places ps) h)
  where
    by_sign : (z : Bool) → (if z then map (λ (q : GridSummand). record { coefficient = neg_ℤ q.coefficient; term = q.term }) (plain (p ∷ ps)) else plain (p ∷ ps)) ≡ leaf t → p.term ≡ t
    by_sign true f = ap term_in f
    by_sign false f = ap term_in f

term_alone : (s : Stack) (table : List Atom) → All (IsOverLeaves s) table → (ps : List GridSummand) (t : ℕ) → IsSumIn table ps → ps ≡ leaf t → IsLeaf s.trees (flat s.frames) t
term_alone s table over ps t (inl h) e =
    subst (IsLeaf s.trees (flat s.frames)) (same_term h.part.term t (sym h.sum_is ∙ e))
    (term_of (IsLeaf s.trees (flat s.frames)) h.terms h.part (All-contains (IsOverLeaves s) table (AtMost h.terms h.most) over h.atom) h.among)
term_alone s table over ps t (inr h) e =
    first_term (IsLeaf s.trees (flat s.frames)) h.terms t (sym h.sum_is ∙ e) (All-contains (IsOverLeaves s) table (AtMost h.terms h.most) over h.atom)

-- it is a leaf
pub column_leaf : (s : Stack) (table : List Atom) (b : State) → All (IsOverLeaves s) table → HasKnownColumns s table b → (i t : ℕ) → i < length b.bounds.columns → (column_in b.bounds.columns i).sum ≡ leaf t
    → IsLeaf s.trees (flat s.frames) t
column_leaf s table b over h i t within e =
    term_alone s (with_leaves h.own table) (over_both s table over h.own h.leaves) (column_in b.bounds.columns i).sum t (h.columns i no_column within) e

-- what holds of a term holds of those of a bound on it alone
pub sum_alone : (P : ℕ → Type 0) (sum : List Summand) (k : ℤ) (t : ℕ) (n : ℤ) → AtMost sum k ≡ term_at_most t n → P t → All (λ (p : Summand). P p.term) sum
sum_alone P sum k t n e h =
    let alone : List Summand = summand t (pos 1) ∷ [] in
    subst (All (λ (p : Summand). P p.term)) (sym (terms_same sum alone k n e)) (All-cons (λ (p : Summand). P p.term) (summand t (pos 1)) [] h (All-nil (λ (p : Summand). P p.term)))
