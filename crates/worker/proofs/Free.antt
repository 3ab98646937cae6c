-- Sorted terms without integers: no number stands in them, none of them is folded or compared as a number, and no atom of theirs is a bound.
use Rattle.std.proofs.Common.{◌≡◌, ◌≢◌, inl, inr, ℕ, Bool, true, false, ◌&&◌, not, List, [], ◌∷◌, ◌++◌, All, subst, sym, ap, ◌∙◌, refl}
use Rattle.std.specs.Prelude.{Option, Some, None, if◌then◌else◌, nat_le, nat_eq, length}
use Rattle.std.proofs.lemmas.List.Elements.{All-nil, All-cons, All-append}
use Rattle.smt_meaning.specs.declared.values.Sort.{Sort}
use Rattle.smt_meaning.specs.declared.values.Sort.TheVariants.{Bool as Truths, Int as Ints, Free}
use Rattle.smt_meaning.specs.declared.values.Value.{Value}
use Rattle.smt_meaning.specs.declared.values.Value.TheVariants.{Truth as TruthValue, Whole, Element}
use Rattle.smt_meaning.specs.declared.terms.Operator.TheVariants.{True, False, Not, And, Or, Xor, Implies, Equal, Distinct, Ite, Add, Subtract, Multiply, AtMost as IsAtMost, Less, AtLeast, Greater, Divide, Modulo, Absolute, Divisible}
use Rattle.smt_meaning.specs.declared.terms.Head.{Head}
use Rattle.smt_meaning.specs.declared.terms.Head.TheVariants.{Numeral, Theory, Symbol, Place}
use Rattle.smt_meaning.specs.declared.clauses.Atom.{Atom}
use Rattle.smt_meaning.specs.declared.clauses.Atom.TheVariants.{Truth, Same, AtMost}
use Rattle.smt_meaning.specs.Declaration.{Declaration}
use Rattle.smt_meaning.specs.Term.{Tree, Trees, node, none, more, Interpretation, value, values, fits, all_fit, head_fits, in_range, all_in_range, partials}
use Rattle.smt_meaning.specs.TreeShape.{place_of}
use Rattle.smt_meaning.specs.Parts.{IsPart, IsPartOfOne}
use Rattle.smt_meaning.specs.Signature.{tree_sort, tree_sorts, with_sorts, cons_sort, head_sort, if_so, all_of, is_int, is_bool}
use Rattle.smt_meaning.specs.Interpretation.{has_sort, Interprets}
use Rattle.smt_meaning.specs.Linear.{Form, linear_forms, head_folding_fits, folding_fits, foldings_fit}
use Rattle.smt_meaning.specs.Comparisons.{pair_fits, same_pair_fits, neighbours_fit_from, neighbours_fit, each_fits_with, pairs_fit, branches_fit, comparison_fits, compared_fits}
use Rattle.smt_meaning.specs.Atoms.{pair_atoms, at_most_atom, of_neighbours_from, of_neighbours, of_first_with, of_pairs, of_branches, comparison_atoms, is_wide, early_atoms, truth_atom, atoms_of, atoms_of_all}
use Rattle.smt_meaning.specs.Kinds.{has_no_int, have_no_int}
use Rattle.smt_laws.specs.TermLaws.{ValueHasItsSort}

pub left_true : (a b : Bool) → (a && b) ≡ true → a ≡ true
left_true true b h = refl
left_true false b h = h

pub right_true : (a b : Bool) → (a && b) ≡ true → b ≡ true
right_true true b h = h
right_true false b h = absurd cc

both_true : (a b : Bool) → a ≡ true → b ≡ true → (a && b) ≡ true
both_true a b p q = rw (p, q)

is_false : (b : Bool) → not b ≡ true → b ≡ false
is_false true h = absurd cc
is_false false h = refl

-- ---- sorted terms without integers

pub record IsFree (ds : List Declaration) (t : Tree) : Type 0 where
  pub sort : Sort
  pub sorted : tree_sort ds t ≡ Some sort
  pub free : has_no_int ds t ≡ true

record AreFree (ds : List Declaration) (us : Trees) : Type 0 where
  sorts : List Sort
  sorted : tree_sorts ds us ≡ Some sorts
  free : have_no_int ds us ≡ true

pub not_int : (ds : List Declaration) (t : Tree) → has_no_int ds t ≡ true → is_int (tree_sort ds t) ≡ false
not_int ds (node h us) p = is_false (is_int (tree_sort ds (node h us))) (left_true (not (is_int (tree_sort ds (node h us)))) (have_no_int ds us) p)

pub no_int_sort : (ds : List Declaration) (t : Tree) → has_no_int ds t ≡ true → tree_sort ds t ≡ Some Ints → ⊥
no_int_sort ds t p e = let both : true ≡ false = sym (ap is_int e) ∙ not_int ds t p in cc

other_sort : (ds : List Declaration) (t : Tree) (s : Sort) → has_no_int ds t ≡ true → tree_sort ds t ≡ Some s → s ≢ Ints
other_sort ds t s p e same = no_int_sort ds t p (e ∙ ap Some same)

-- ---- arguments

record AreSorted (ds : List Declaration) (h : Head) (us : Trees) (s : Sort) : Type 0 where
  sorts : List Sort
  are : tree_sorts ds us ≡ Some sorts
  head : head_sort ds h sorts ≡ Some s

sorted_arguments : (ds : List Declaration) (h : Head) (us : Trees) (s : Sort) (r : Option (List Sort)) → tree_sorts ds us ≡ r → with_sorts ds h r ≡ Some s → AreSorted ds h us s
sorted_arguments ds h us s None e w = absurd cc
sorted_arguments ds h us s (Some ss) e w = record { sorts = ss; are = e; head = w }

of_head : (ds : List Declaration) (h : Head) (us : Trees) (f : IsFree ds (node h us)) → AreSorted ds h us f.sort
of_head ds h us f = sorted_arguments ds h us f.sort (tree_sorts ds us) refl f.sorted

arguments : (ds : List Declaration) (h : Head) (us : Trees) → IsFree ds (node h us) → AreFree ds us
arguments ds h us f = record {
  sorts = (of_head ds h us f).sorts;
  sorted = (of_head ds h us f).are;
  free = right_true (not (is_int (tree_sort ds (node h us)))) (have_no_int ds us) f.free;
}

record AreBoth (ds : List Declaration) (u : Tree) (us : Trees) (ss : List Sort) : Type 0 where
  sort : Sort
  first : tree_sort ds u ≡ Some sort
  sorts : List Sort
  rest : tree_sorts ds us ≡ Some sorts
  are : ss ≡ sort ∷ sorts

both_sorted : (ds : List Declaration) (u : Tree) (us : Trees) (ss : List Sort) (a : Option Sort) (r : Option (List Sort)) → tree_sort ds u ≡ a → tree_sorts ds us ≡ r → cons_sort a r ≡ Some ss → AreBoth ds u us ss
both_sorted ds u us ss None r p q e = absurd cc
both_sorted ds u us ss (Some s) None p q e = absurd cc
both_sorted ds u us ss (Some s) (Some rs) p q e = record { sort = s; first = p; sorts = rs; rest = q; are = cc }

both : (ds : List Declaration) (u : Tree) (us : Trees) (f : AreFree ds (more u us)) → AreBoth ds u us f.sorts
both ds u us f = both_sorted ds u us f.sorts (tree_sort ds u) (tree_sorts ds us) refl refl f.sorted

first : (ds : List Declaration) (u : Tree) (us : Trees) → AreFree ds (more u us) → IsFree ds u
first ds u us f = record { sort = (both ds u us f).sort; sorted = (both ds u us f).first; free = left_true (has_no_int ds u) (have_no_int ds us) f.free }

rest : (ds : List Declaration) (u : Tree) (us : Trees) → AreFree ds (more u us) → AreFree ds us
rest ds u us f = record { sorts = (both ds u us f).sorts; sorted = (both ds u us f).rest; free = right_true (has_no_int ds u) (have_no_int ds us) f.free }

-- ---- parts

mutual
  pub part_is_free : (ds : List Declaration) (u t : Tree) → IsPart u t → IsFree ds t → IsFree ds u
  part_is_free ds u (node h us) (inl e) f = subst (IsFree ds) (sym e) f
  part_is_free ds u (node h us) (inr k) f = part_of_one_is_free ds u us k (arguments ds h us f)

  part_of_one_is_free : (ds : List Declaration) (u : Tree) (us : Trees) → IsPartOfOne u us → AreFree ds us → IsFree ds u
  part_of_one_is_free ds u none k f = absurd k
  part_of_one_is_free ds u (more t us) (inl k) f = part_is_free ds u t k (first ds t us f)
  part_of_one_is_free ds u (more t us) (inr k) f = part_of_one_is_free ds u us k (rest ds t us f)

-- ---- what the head does

-- the head neither makes nor compares numbers
record IsQuiet (h : Head) : Type 0 where
  folds : (fs : List Form) → head_folding_fits h fs ≡ true
  partial : (vs : List Value) → all_in_range (partials h vs) ≡ true
  compares : (ts : List Tree) (ds : List Declaration) (us : Trees) → comparison_fits ts ds h us ≡ true
  atoms : (ts : List Tree) (ds : List Declaration) (us : Trees) → comparison_atoms ts ds h us ≡ []

data Kind (h : Head) : Type 0 where
  quiet : IsQuiet h → Kind h
  equal : h ≡ Theory Equal → Kind h
  distinct : h ≡ Theory Distinct → Kind h
  choice : h ≡ Theory Ite → Kind h

ints_of : (b c : Bool) (s : Sort) → (if b then if_so c Ints else None) ≡ Some s → s ≡ Ints
ints_of true true s e = cc
ints_of true false s e = absurd cc
ints_of false c s e = absurd cc

-- the first of numbers is an Int
first_int : (c : Bool) (r s : Sort) (ss : List Sort) → (if c then if_so (all_of Ints (s ∷ ss)) Truths else None) ≡ Some r → s ≡ Ints
first_int true r Truths ss e = absurd cc
first_int true r Ints ss e = refl
first_int true r (Free n) ss e = absurd cc
first_int false r s ss e = absurd cc

-- terms without integers, one or more, are no numbers
no_numbers : (ds : List Declaration) (stands : ℕ → Bool) → stands 0 ≡ false → (us : Trees) (r : Sort) (f : AreFree ds us)
    → (if stands (length f.sorts) then if_so (all_of Ints f.sorts) Truths else None) ≡ Some r → ⊥
no_numbers ds stands bare none r f e =
    let none_is : [] ≡ f.sorts = cc in
    let at : (if stands 0 then if_so true Truths else None) ≡ Some r = subst (λ (ss : List Sort). (if stands (length ss) then if_so (all_of Ints ss) Truths else None) ≡ Some r) (sym none_is) e in
    let nothing : None ≡ Some r = subst (λ (b : Bool). (if b then if_so true Truths else None) ≡ Some r) bare at in cc
no_numbers ds stands bare (more u us) r f e =
    let b : AreBoth ds u us f.sorts = both ds u us f in
    let at : (if stands (length (b.sort ∷ b.sorts)) then if_so (all_of Ints (b.sort ∷ b.sorts)) Truths else None) ≡ Some r =
    subst (λ (ss : List Sort). (if stands (length ss) then if_so (all_of Ints ss) Truths else None) ≡ Some r) b.are e in
    other_sort ds u b.sort (first ds u us f).free b.first (first_int (stands (length (b.sort ∷ b.sorts))) r b.sort b.sorts at)

kind : (ds : List Declaration) (h : Head) (us : Trees) (s : Sort) (f : AreFree ds us) → head_sort ds h f.sorts ≡ Some s → s ≢ Ints → Kind h
kind ds (Numeral n) us s f e d = quiet (record { folds = λ fs. refl; partial = λ vs. refl; compares = λ ts ds us. refl; atoms = λ ts ds us. refl })
kind ds (Symbol n) us s f e d = quiet (record { folds = λ fs. refl; partial = λ vs. refl; compares = λ ts ds us. refl; atoms = λ ts ds us. refl })
kind ds (Place n) us s f e d = quiet (record { folds = λ fs. refl; partial = λ vs. refl; compares = λ ts ds us. refl; atoms = λ ts ds us. refl })
kind ds (Theory True) us s f e d = quiet (record { folds = λ fs. refl; partial = λ vs. refl; compares = λ ts ds us. refl; atoms = λ ts ds us. refl })
kind ds (Theory False) us s f e d = quiet (record { folds = λ fs. refl; partial = λ vs. refl; compares = λ ts ds us. refl; atoms = λ ts ds us. refl })
kind ds (Theory Not) us s f e d = quiet (record { folds = λ fs. refl; partial = λ vs. refl; compares = λ ts ds us. refl; atoms = λ ts ds us. refl })
kind ds (Theory And) us s f e d = quiet (record { folds = λ fs. refl; partial = λ vs. refl; compares = λ ts ds us. refl; atoms = λ ts ds us. refl })
kind ds (Theory Or) us s f e d = quiet (record { folds = λ fs. refl; partial = λ vs. refl; compares = λ ts ds us. refl; atoms = λ ts ds us. refl })
kind ds (Theory Xor) us s f e d = quiet (record { folds = λ fs. refl; partial = λ vs. refl; compares = λ ts ds us. refl; atoms = λ ts ds us. refl })
kind ds (Theory Implies) us s f e d = quiet (record { folds = λ fs. refl; partial = λ vs. refl; compares = λ ts ds us. refl; atoms = λ ts ds us. refl })
kind ds (Theory Equal) us s f e d = equal refl
kind ds (Theory Distinct) us s f e d = distinct refl
kind ds (Theory Ite) us s f e d = choice refl
kind ds (Theory Add) us s f e d = absurd (d (ints_of _ _ s e))
kind ds (Theory Subtract) us s f e d = absurd (d (ints_of _ _ s e))
kind ds (Theory Multiply) us s f e d = absurd (d (ints_of _ _ s e))
kind ds (Theory IsAtMost) us s f e d = absurd (no_numbers ds (λ n. nat_le 2 n) refl us s f e)
kind ds (Theory Less) us s f e d = absurd (no_numbers ds (λ n. nat_le 2 n) refl us s f e)
kind ds (Theory AtLeast) us s f e d = absurd (no_numbers ds (λ n. nat_le 2 n) refl us s f e)
kind ds (Theory Greater) us s f e d = absurd (no_numbers ds (λ n. nat_le 2 n) refl us s f e)
kind ds (Theory Divide) us s f e d = absurd (d (ints_of _ _ s e))
kind ds (Theory Modulo) us s f e d = absurd (d (ints_of _ _ s e))
kind ds (Theory Absolute) us s f e d = absurd (d (ints_of _ _ s e))
kind ds (Theory Divisible) us s f e d = absurd (no_numbers ds (λ n. nat_eq n 3) refl us s f e)

kind_of : (ds : List Declaration) (h : Head) (us : Trees) → IsFree ds (node h us) → Kind h
unfolding arguments of_head
kind_of ds h us f = kind ds h us f.sort (arguments ds h us f) (of_head ds h us f).head (other_sort ds (node h us) f.sort f.free f.sorted)

-- ---- folding

folds_at : (h : Head) (fs : List Form) → Kind h → head_folding_fits h fs ≡ true
folds_at h fs (quiet q) = q.folds fs
folds_at h fs (equal e) = subst (λ (x : Head). head_folding_fits x fs ≡ true) (sym e) refl
folds_at h fs (distinct e) = subst (λ (x : Head). head_folding_fits x fs ≡ true) (sym e) refl
folds_at h fs (choice e) = subst (λ (x : Head). head_folding_fits x fs ≡ true) (sym e) refl

mutual
  pub it_folds : (ts : List Tree) (ds : List Declaration) (t : Tree) → IsFree ds t → folding_fits ts t ≡ true
  it_folds ts ds (node h us) f = both_true (foldings_fit ts us) (head_folding_fits h (linear_forms ts us)) (they_fold ts ds us (arguments ds h us f)) (folds_at h (linear_forms ts us) (kind_of ds h us f))

  they_fold : (ts : List Tree) (ds : List Declaration) (us : Trees) → AreFree ds us → foldings_fit ts us ≡ true
  they_fold ts ds none f = refl
  they_fold ts ds (more u us) f = both_true (folding_fits ts u) (foldings_fit ts us) (it_folds ts ds u (first ds u us f)) (they_fold ts ds us (rest ds u us f))

-- ---- comparisons

module _ (ts : List Tree) (ds : List Declaration) where
  pair_compares : (s t : Tree) → has_no_int ds s ≡ true → same_pair_fits ts ds s t ≡ true
  pair_compares s t p = ap (λ b. if b then pair_fits ts s t else true) (not_int ds s p)

  neighbours_from : (t : Tree) (us : Trees) → has_no_int ds t ≡ true → have_no_int ds us ≡ true → neighbours_fit_from (same_pair_fits ts ds) t us ≡ true
  neighbours_from t none p q = refl
  neighbours_from t (more u us) p q =
      both_true (same_pair_fits ts ds t u) (neighbours_fit_from (same_pair_fits ts ds) u us) (pair_compares t u p)
      (neighbours_from u us (left_true (has_no_int ds u) (have_no_int ds us) q) (right_true (has_no_int ds u) (have_no_int ds us) q))

  neighbours : (us : Trees) → have_no_int ds us ≡ true → neighbours_fit (same_pair_fits ts ds) us ≡ true
  neighbours none q = refl
  neighbours (more t us) q = neighbours_from t us (left_true (has_no_int ds t) (have_no_int ds us) q) (right_true (has_no_int ds t) (have_no_int ds us) q)

  with_each : (t : Tree) (us : Trees) → has_no_int ds t ≡ true → each_fits_with (same_pair_fits ts ds) t us ≡ true
  with_each t none p = refl
  with_each t (more u us) p = both_true (same_pair_fits ts ds t u) (each_fits_with (same_pair_fits ts ds) t us) (pair_compares t u p) (with_each t us p)

  pairs : (us : Trees) → have_no_int ds us ≡ true → pairs_fit (same_pair_fits ts ds) us ≡ true
  pairs none q = refl
  pairs (more t us) q =
      both_true (each_fits_with (same_pair_fits ts ds) t us) (pairs_fit (same_pair_fits ts ds) us) (with_each t us (left_true (has_no_int ds t) (have_no_int ds us) q))
      (pairs us (right_true (has_no_int ds t) (have_no_int ds us) q))

  branches : (t : Tree) (us : Trees) → has_no_int ds t ≡ true → branches_fit (same_pair_fits ts ds) t us ≡ true
  branches t none p = refl
  branches t (more c none) p = refl
  branches t (more c (more u none)) p = refl
  branches t (more c (more u (more v none))) p = both_true (same_pair_fits ts ds t u) (same_pair_fits ts ds t v) (pair_compares t u p) (pair_compares t v p)
  branches t (more c (more u (more v (more w us)))) p = refl

-- the head compares no numbers
compares_at : (ts : List Tree) (ds : List Declaration) (h : Head) (us : Trees) → has_no_int ds (node h us) ≡ true → have_no_int ds us ≡ true → Kind h → comparison_fits ts ds h us ≡ true
compares_at ts ds h us p q (quiet k) = k.compares ts ds us
compares_at ts ds h us p q (equal e) = subst (λ (x : Head). comparison_fits ts ds x us ≡ true) (sym e) (neighbours ts ds us q)
compares_at ts ds h us p q (distinct e) = subst (λ (x : Head). comparison_fits ts ds x us ≡ true) (sym e) (pairs ts ds us q)
compares_at ts ds h us p q (choice e) =
    subst (λ (x : Head). comparison_fits ts ds x us ≡ true) (sym e) (branches ts ds (node (Theory Ite) us) us (subst (λ (x : Head). has_no_int ds (node x us) ≡ true) e p))

pub it_compares : (ts : List Tree) (ds : List Declaration) (t : Tree) → IsFree ds t → compared_fits ts ds t ≡ true
it_compares ts ds (node h us) f = compares_at ts ds h us f.free (arguments ds h us f).free (kind_of ds h us f)

-- ---- atoms that are no bounds

abbrev pub IsNoBound : Atom → Type 0
IsNoBound (Truth p) = Unit {0}
IsNoBound (Same i j) = Unit {0}
IsNoBound (AtMost ps k) = ⊥

truth_is : (b : Bool) (p : ℕ) → All IsNoBound (if b then Truth p ∷ [] else [])
truth_is true p = All-cons IsNoBound (Truth p) [] tt (All-nil IsNoBound)
truth_is false p = All-nil IsNoBound

module _ (ts : List Tree) (ds : List Declaration) where
  pub pair_is : (s t : Tree) → has_no_int ds s ≡ true → All IsNoBound (pair_atoms ts ds s t)
  pair_is s t p =
      subst (λ (b : Bool). All IsNoBound (Same (place_of s ts) (place_of t ts) ∷ (if b then at_most_atom ts s t ∷ at_most_atom ts t s ∷ [] else []))) (sym (not_int ds s p))
      (All-cons IsNoBound (Same (place_of s ts) (place_of t ts)) [] tt (All-nil IsNoBound))

  of_neighbours_from_is : (t : Tree) (us : Trees) → has_no_int ds t ≡ true → have_no_int ds us ≡ true → All IsNoBound (of_neighbours_from (pair_atoms ts ds) t us)
  of_neighbours_from_is t none p q = All-nil IsNoBound
  of_neighbours_from_is t (more u us) p q =
      All-append IsNoBound (pair_atoms ts ds t u) (of_neighbours_from (pair_atoms ts ds) u us) (pair_is t u p)
      (of_neighbours_from_is u us (left_true (has_no_int ds u) (have_no_int ds us) q) (right_true (has_no_int ds u) (have_no_int ds us) q))

  of_neighbours_is : (us : Trees) → have_no_int ds us ≡ true → All IsNoBound (of_neighbours (pair_atoms ts ds) us)
  of_neighbours_is none q = All-nil IsNoBound
  of_neighbours_is (more t us) q = of_neighbours_from_is t us (left_true (has_no_int ds t) (have_no_int ds us) q) (right_true (has_no_int ds t) (have_no_int ds us) q)

  of_first_is : (t : Tree) (us : Trees) → has_no_int ds t ≡ true → All IsNoBound (of_first_with (pair_atoms ts ds) t us)
  of_first_is t none p = All-nil IsNoBound
  of_first_is t (more u us) p = All-append IsNoBound (pair_atoms ts ds t u) (of_first_with (pair_atoms ts ds) t us) (pair_is t u p) (of_first_is t us p)

  of_pairs_is : (us : Trees) → have_no_int ds us ≡ true → All IsNoBound (of_pairs (pair_atoms ts ds) us)
  of_pairs_is none q = All-nil IsNoBound
  of_pairs_is (more t us) q =
      All-append IsNoBound (of_first_with (pair_atoms ts ds) t us) (of_pairs (pair_atoms ts ds) us) (of_first_is t us (left_true (has_no_int ds t) (have_no_int ds us) q))
      (of_pairs_is us (right_true (has_no_int ds t) (have_no_int ds us) q))

  of_branches_is : (t : Tree) (us : Trees) → has_no_int ds t ≡ true → All IsNoBound (of_branches (pair_atoms ts ds) t us)
  of_branches_is t none p = All-nil IsNoBound
  of_branches_is t (more c none) p = All-nil IsNoBound
  of_branches_is t (more c (more u none)) p = All-nil IsNoBound
  of_branches_is t (more c (more u (more v none))) p = All-append IsNoBound (pair_atoms ts ds t u) (pair_atoms ts ds t v) (pair_is t u p) (pair_is t v p)
  of_branches_is t (more c (more u (more v (more w us)))) p = All-nil IsNoBound

  comparison_is : (h : Head) (us : Trees) → has_no_int ds (node h us) ≡ true → have_no_int ds us ≡ true → Kind h → All IsNoBound (comparison_atoms ts ds h us)
  comparison_is h us p q (quiet k) = subst (All IsNoBound) (sym (k.atoms ts ds us)) (All-nil IsNoBound)
  comparison_is h us p q (equal e) = subst (λ (x : Head). All IsNoBound (comparison_atoms ts ds x us)) (sym e) (of_neighbours_is us q)
  comparison_is h us p q (distinct e) = subst (λ (x : Head). All IsNoBound (comparison_atoms ts ds x us)) (sym e) (of_pairs_is us q)
  comparison_is h us p q (choice e) =
      subst (λ (x : Head). All IsNoBound (comparison_atoms ts ds x us)) (sym e) (of_branches_is (node (Theory Ite) us) us (subst (λ (x : Head). has_no_int ds (node x us) ≡ true) e p))

  unless : (b : Bool) (xs : List Atom) → All IsNoBound xs → All IsNoBound (if b then [] else xs)
  unless true xs h = All-nil IsNoBound
  unless false xs h = h

  mutual
    pub atoms_are : (t : Tree) → IsFree ds t → All IsNoBound (atoms_of ts ds t)
    atoms_are (node h us) f =
        All-append IsNoBound (atoms_of_all ts ds us) (truth_atom ts ds (node h us) ++ early_atoms ts ds h us) (all_atoms_are us (arguments ds h us f))
        (All-append IsNoBound (truth_atom ts ds (node h us)) (early_atoms ts ds h us) (truth_is (is_bool (tree_sort ds (node h us))) (place_of (node h us) ts))
        (unless (is_wide h us) (comparison_atoms ts ds h us) (comparison_is h us f.free (arguments ds h us f).free (kind_of ds h us f))))

    all_atoms_are : (us : Trees) → AreFree ds us → All IsNoBound (atoms_of_all ts ds us)
    all_atoms_are none f = All-nil IsNoBound
    all_atoms_are (more u us) f = All-append IsNoBound (atoms_of ts ds u) (atoms_of_all ts ds us) (atoms_are u (first ds u us f)) (all_atoms_are us (rest ds u us f))

-- ---- values

within : (v : Value) (s : Sort) → has_sort v s ≡ true → s ≢ Ints → in_range v ≡ true
within (TruthValue b) s h d = refl
within (Element n) s h d = refl
within (Whole n) Truths h d = absurd cc
within (Whole n) Ints h d = absurd (d refl)
within (Whole n) (Free k) h d = absurd cc

partials_fit : (h : Head) (vs : List Value) → Kind h → all_in_range (partials h vs) ≡ true
partials_fit h vs (quiet q) = q.partial vs
partials_fit h vs (equal e) = subst (λ (x : Head). all_in_range (partials x vs) ≡ true) (sym e) refl
partials_fit h vs (distinct e) = subst (λ (x : Head). all_in_range (partials x vs) ≡ true) (sym e) refl
partials_fit h vs (choice e) = subst (λ (x : Head). all_in_range (partials x vs) ≡ true) (sym e) refl

module _ (law : ValueHasItsSort) (ds : List Declaration) (I : Interpretation) (i : Interprets ds I) where
  mutual
    pub it_fits : (t : Tree) → IsFree ds t → fits I t ≡ true
    it_fits (node h us) f =
        both_true (all_fit I us) (head_fits I h (values I us)) (they_fit us (arguments ds h us f))
        (both_true (in_range (value I (node h us))) (all_in_range (partials h (values I us)))
        (within (value I (node h us)) f.sort (law ds I (node h us) f.sort i f.sorted) (other_sort ds (node h us) f.sort f.free f.sorted)) (partials_fit h (values I us) (kind_of ds h us f)))

    they_fit : (us : Trees) → AreFree ds us → all_fit I us ≡ true
    they_fit none f = refl
    they_fit (more u us) f = both_true (fits I u) (all_fit I us) (it_fits u (first ds u us f)) (they_fit us (rest ds u us f))
