-- The literals of the clauses of the table of divisions are over the proof's terms, of the right sorts.
use Rattle.std.proofs.Common.{◌≡◌, ◌⊎◌, inl, inr, ℕ, ◌<◌, ◌≤◌, Bool, true, false, List, [], ◌∷◌, ◌++◌, length, map, All, refl, ap, sym, subst, ◌∙◌, arith}
use Rattle.std.specs.Prelude.{ℤ, pos, ◌-ℤ◌, Option, Some, None, slice_get, if◌then◌else◌}
use Rattle.std.proofs.lemmas.Bool.{cases_lt}
use Rattle.std.proofs.lemmas.Option.{slice_get_within, get_or_from_slice_get}
use Rattle.std.proofs.lemmas.List.{get_or_append_left, get_or_push, length_push}
use Rattle.std.proofs.lemmas.List.Elements.{All-nil, All-cons, All-head, All-append, All-get_or, All-from_recursion}
use Rattle.smt_meaning.specs.declared.values.Sort.{Sort}
use Rattle.smt_meaning.specs.declared.values.Sort.TheVariants.{Bool as Truths, Int as Ints}
use Rattle.smt_meaning.specs.declared.terms.Head.{Head}
use Rattle.smt_meaning.specs.declared.terms.Head.TheVariants.{Numeral, Theory}
use Rattle.smt_meaning.specs.declared.terms.Operator.{Operator}
use Rattle.smt_meaning.specs.declared.terms.Operator.TheVariants.{Divide, Modulo, Absolute}
use Rattle.smt_meaning.specs.declared.clauses.Summand.{Summand}
use Rattle.smt_meaning.specs.declared.nodes.Node.{Node}
use Rattle.smt_meaning.specs.Declaration.{Declaration}
use Rattle.smt_meaning.specs.Signature.{cons_sort, all_of, sort_eq, if_so, operator_sort}
use Rattle.smt_meaning.specs.Term.{Tree, Trees, node, none, more, tree_at}
use Rattle.smt_meaning.specs.Nodes.{pick, tree_of}
use Rattle.smt_meaning.specs.Linear.{Form, form_times}
use Rattle.smt_meaning.specs.Division.{Limit, Row, combined, quotient_rows, remainder_rows, divisible_rows, absolute_rows}
use Rattle.smt_meaning.specs.Atoms.{sum_gcd, normal_bound, limit_atom, row_atoms, positive, truth_literals}
use Rattle.proof_meaning.specs.Proof.{is_written, with_term_sorts, term_sort, term_sorts, AreTerms, no_terms, next_term, node_at, IsSummand, IsAtom, IsLiteral, IsIntAt, IsBoolAt}
use Rattle.smt_laws.specs.Rows.{place_form, placed_literals}
use Rattle.proof_meaning.specs.Rules.{divisor_at, HasRows, of_quotient, of_last_quotient, of_remainder, of_divisibility, of_absolute}
use Rattle.proof_meaning.proofs.Terms.{readable_at}
use Rattle.pair_bounds.proofs.NormalLemmas.{divides}
use Rattle.proof_terms.proofs.BoundLeaves.{IsOver, over_number, over_times, over_plus, over_term, all_summands, pairs_ascend, operator_ints}
use Rattle.proof_terms.proofs.BoundJudging.{Ascend, quotient_summands, quotients_ascend}
use Rattle.proof_terms.proofs.TermBounds.{earlier}
use Rattle.proof_terms.proofs.EuclidDivisions.{inside}
use Rattle.proof_terms.proofs.EuclidRanges.{tree_is}

-- ---- sorts

pub sort_of : (ds : List Declaration) (ns : List Node) (ts : List Tree) → AreTerms ds ns ts → (i : ℕ) → i < length ts → (s : Sort) × (term_sort ds (tree_at ts i) ≡ Some s)
sort_of ds _ _ no_terms i h = absurd (omega (arith, h))
sort_of ds _ _ (next_term {ns = ns} {ts = ts} before n k) i h = by (sort_of ds ns ts before i) (cases_lt i (length ts))
  where
    by : (i < length ts → (s : Sort) × (term_sort ds (tree_at ts i) ≡ Some s)) → (i < length ts) ⊎ (length ts ≤ i) → (s : Sort) × (term_sort ds (tree_at (ts ++ tree_of ts n ∷ []) i) ≡ Some s)
    by same (inl less) = ((same less).0, ap (term_sort ds) (get_or_append_left ts (tree_of ts n ∷ []) _ i less) ∙ (same less).1)
    by same (inr from) = (k.sort, ap (term_sort ds) (get_or_push ts (tree_of ts n) _ i (omega (arith, length_push ts (tree_of ts n), h))) ∙ k.has_sort)

if_so_is : (b : Bool) (r s : Sort) → if_so b r ≡ Some s → s ≡ r
if_so_is true r s e = cc
if_so_is false r s e = absurd (cc)

then_is : (b : Bool) (o : Option Sort) (s : Sort) → (if b then o else None) ≡ Some s → o ≡ Some s
then_is true o s e = e
then_is false o s e = absurd (cc)

-- an operation that gives an Int
gives_int : (ds : List Declaration) (o : Operator) (us : Trees) (s : Sort) → ((ss : List Sort) → operator_sort o ss ≡ if_so (all_of Ints ss) Ints) → term_sort ds (node (Theory o) us) ≡ Some s → s ≡ Ints
gives_int ds o us s law e = by (term_sorts ds us) e
  where
    by : (p : Option (List Sort)) → with_term_sorts ds (Theory o) p ≡ Some s → s ≡ Ints
    by None f = absurd (cc)
    by (Some ss) f = if_so_is (all_of Ints ss) Ints s (sym (law ss) ∙ then_is (is_written o (length ss)) (operator_sort o ss) s f)

divided_int : (a : Sort) (r s : Sort) → if_so (sort_eq a Ints) r ≡ Some s → (a ≡ Ints) × (s ≡ r)
divided_int Ints r s e = (refl, cc)
divided_int a r s e = absurd (cc)

-- a divisibility is a Bool, and what is divided an Int
divisibility_sorts : (ds : List Declaration) (n : ℤ) (t : Tree) (s : Sort) → term_sort ds (node (Numeral n) (more t none)) ≡ Some s → (term_sort ds t ≡ Some Ints) × (s ≡ Truths)
divisibility_sorts ds n t s e = by (term_sort ds t) e
  where
    by : (o : Option Sort) → with_term_sorts ds (Numeral n) (cons_sort o (Some [])) ≡ Some s → (o ≡ Some Ints) × (s ≡ Truths)
    by None f = absurd (cc)
    by (Some a) f = let both = divided_int a Truths s f in (ap Some both.0, both.1)

-- ---- normal bounds

normal_atom : (ds : List Declaration) (ts : List Tree) (ps : List Summand) (k : ℤ) → All (IsSummand ds ts) ps → Ascend ps → IsAtom ds ts (normal_bound ps k)
normal_atom ds ts [] k all up = (all, up)
normal_atom ds ts (p ∷ ps) k all up = (quotient_summands ds ts (sum_gcd (p ∷ ps)) (p ∷ ps) (divides (p ∷ ps)) all, quotients_ascend (sum_gcd (p ∷ ps)) (p ∷ ps) up)

module _ (ds : List Declaration) (ns : List Node) (ts : List Tree) (terms : AreTerms ds ns ts) where
  over_at : (a : ℕ) → IsIntAt ds ts a → IsOver ds ts (place_form ts a)
  over_at a h = over_term ds ts (tree_at ts a) (readable_at ds ns ts terms a h.0).leaves_are h.1

  abbrev AreIntsAt : List (ℤ × ℕ) → Type 0
  AreIntsAt [] = Unit {0}
  AreIntsAt (m ∷ ms) = IsIntAt ds ts m.1 × AreIntsAt ms

  over_combined : (ms : List (ℤ × ℕ)) → AreIntsAt ms → IsOver ds ts (combined (place_form ts) ms)
  over_combined [] h = over_number ds ts (pos 0)
  over_combined (m ∷ ms) h = over_plus ds ts (form_times m.0 (place_form ts m.1)) (combined (place_form ts) ms) (over_times ds ts m.0 (place_form ts m.1) (over_at m.1 h.0)) (over_combined ms h.1)

  limit_is_atom : (l : Limit ℕ) → AreIntsAt l.multiples → IsAtom ds ts (limit_atom (place_form ts) l)
  limit_is_atom l h =
      let f : Form = combined (place_form ts) l.multiples in
      let over : IsOver ds ts f = over_combined l.multiples h in
      normal_atom ds ts f.sum (l.most -ℤ f.constant) (all_summands ds ts 0 f.sum over.is_sum over.over) (pairs_ascend 0 (length ts) f.sum over.is_sum)

  abbrev AreLimits : List (Limit ℕ) → Type 0
  AreLimits [] = Unit {0}
  AreLimits (l ∷ ls) = AreIntsAt l.multiples × AreLimits ls

  abbrev IsTruth : ℕ → Option Bool → Type 0
  IsTruth i None = Unit {0}
  IsTruth i (Some b) = IsBoolAt ds ts i

  abbrev IsSorted : ℕ → Row ℕ → Type 0
  IsSorted i r = IsTruth i r.truth × AreLimits r.limits

  limit_literals : (ls : List (Limit ℕ)) → AreLimits ls → All (IsLiteral ds ts) (map positive (map (limit_atom (place_form ts)) ls))
  limit_literals [] h = All-nil (IsLiteral ds ts)
  limit_literals (l ∷ ls) h =
      All-cons (IsLiteral ds ts) (positive (limit_atom (place_form ts) l)) (map positive (map (limit_atom (place_form ts)) ls)) (limit_is_atom l h.0) (limit_literals ls h.1)

  truth_is : (i : ℕ) (o : Option Bool) → IsTruth i o → All (IsLiteral ds ts) (truth_literals i o)
  truth_is i None h = All-nil (IsLiteral ds ts)
  truth_is i (Some b) h = All-from_recursion (IsLiteral ds ts) (truth_literals i (Some b)) (h, tt)

  sorted_literals : (i : ℕ) (r : Row ℕ) → IsSorted i r → All (IsLiteral ds ts) (placed_literals ts i r)
  sorted_literals i r h = All-append (IsLiteral ds ts) (truth_literals i r.truth) (map positive (row_atoms (place_form ts) r)) (truth_is i r.truth h.0) (limit_literals r.limits h.1)

  -- ---- the table

  sorted_quotient : (a : ℕ) (n : ℤ) (q i : ℕ) → IsIntAt ds ts a → IsIntAt ds ts q → All (IsSorted i) (quotient_rows a n q)
  sorted_quotient a n q i h k = All-from_recursion (IsSorted i) (quotient_rows a n q) ((tt, ((k, (h, tt)), tt)), ((tt, ((h, (k, tt)), tt)), tt))

  sorted_remainder : (a : ℕ) (n : ℤ) (q m i : ℕ) → IsIntAt ds ts a → IsIntAt ds ts q → IsIntAt ds ts m → All (IsSorted i) (remainder_rows a n q m)
  sorted_remainder a n q m i h k l =
      All-from_recursion (IsSorted i) (remainder_rows a n q m)
      ((tt, ((k, (h, tt)), tt)), ((tt, ((h, (k, tt)), tt)), ((tt, ((l, (k, (h, tt))), tt)), ((tt, ((l, (h, (k, tt))), tt)), tt))))

  sorted_divisible : (a : ℕ) (n : ℤ) (q i : ℕ) → IsIntAt ds ts a → IsIntAt ds ts q → IsBoolAt ds ts i → All (IsSorted i) (divisible_rows a n q)
  sorted_divisible a n q i h k b =
      All-from_recursion (IsSorted i) (divisible_rows a n q) ((tt, ((k, (h, tt)), tt)), ((tt, ((h, (k, tt)), tt)), ((b, ((k, (h, tt)), tt)), ((b, ((h, (k, tt)), tt)), tt))))

  sorted_absolute : (a b i : ℕ) → IsIntAt ds ts a → IsIntAt ds ts b → All (IsSorted i) (absolute_rows a b)
  sorted_absolute a b i h k =
      All-from_recursion (IsSorted i) (absolute_rows a b) ((tt, ((h, (k, tt)), tt)), ((tt, ((h, (k, tt)), tt)), ((tt, ((k, (h, tt)), ((k, (h, tt)), tt))), tt)))

  -- a term that is an operation on Ints
  int_at : (j : ℕ) (o : Operator) (us : Trees) → ((ss : List Sort) → operator_sort o ss ≡ if_so (all_of Ints ss) Ints) → j < length ts → tree_at ts j ≡ node (Theory o) us → IsIntAt ds ts j
  int_at j o us law h e =
      let sorted = sort_of ds ns ts terms j h in
      (h, sorted.1 ∙ ap Some (gives_int ds o us sorted.0 law (sym (ap (term_sort ds) e) ∙ sorted.1)))

  -- and its first argument
  argument_at : (j a : ℕ) (o : Operator) (us : Trees) → ((ss : List Sort) → operator_sort o ss ≡ if_so (all_of Ints ss) Ints) → j < length ts → a < length ts → tree_at ts j ≡ node (Theory o) (more (tree_at ts a) us) → IsIntAt ds ts a
  argument_at j a o us law h k e =
      let sorted = sort_of ds ns ts terms j h in
      (k, (operator_ints ds o (more (tree_at ts a) us) sorted.0 law (sym (ap (term_sort ds) e) ∙ sorted.1)).0)

  quotient_at : (q : ℕ) (us : Trees) → tree_at ts q ≡ node (Theory Divide) us → IsIntAt ds ts q
  quotient_at q us e = int_at q Divide us (λ ss. refl) (inside ts q q us e) e

  sorted_rows : (i : ℕ) (h : Head) (is : List ℕ) (rows : List (Row ℕ)) → i < length ts → All (λ j. j < length ts) is → tree_at ts i ≡ node h (pick ts is) → HasRows ts i h is rows → All (IsSorted i) rows
  sorted_rows i _ _ _ l below e (of_quotient a n) =
      sorted_quotient a (divisor_at ts n) i i (argument_at i a Divide (more (tree_at ts n) none) (λ ss. refl) l (All-head (λ j. j < length ts) a (n ∷ []) below) e) (int_at i Divide (pick ts (a ∷ n ∷ [])) (λ ss. refl) l e)
  sorted_rows i _ _ _ l below e (of_last_quotient a n is two t) = sorted_quotient a (divisor_at ts n) i i (quotient_at a (pick ts is) t) (int_at i Divide (pick ts (is ++ n ∷ [])) (λ ss. refl) l e)
  sorted_rows i _ _ _ l below e (of_remainder a n q t) =
      sorted_remainder a (divisor_at ts n) q i i (argument_at i a Modulo (more (tree_at ts n) none) (λ ss. refl) l (All-head (λ j. j < length ts) a (n ∷ []) below) e)
      (quotient_at q (more (tree_at ts a) (more (tree_at ts n) none)) t) (int_at i Modulo (pick ts (a ∷ n ∷ [])) (λ ss. refl) l e)
  sorted_rows i _ _ _ l below e (of_divisibility a q n t) =
      let sorted = sort_of ds ns ts terms i l in
      let sorts = divisibility_sorts ds n (tree_at ts a) sorted.0 (sym (ap (term_sort ds) e) ∙ sorted.1) in
      sorted_divisible a n q i (All-head (λ j. j < length ts) a [] below, sorts.0) (quotient_at q (more (tree_at ts a) (more (node (Numeral n) none) none)) t) (l, sorted.1 ∙ ap Some sorts.1)
  sorted_rows i _ _ _ l below e (of_absolute a) =
      sorted_absolute a i i (argument_at i a Absolute none (λ ss. refl) l (All-head (λ j. j < length ts) a [] below) e) (int_at i Absolute (pick ts (a ∷ [])) (λ ss. refl) l e)

  pub row_literals : (i n : ℕ) (rows : List (Row ℕ)) (row : Row ℕ) → i < length ns → HasRows ts i (node_at ns i).head (node_at ns i).arguments rows → slice_get rows n ≡ Some row → All (IsLiteral ds ts) (placed_literals ts i row)
  row_literals i n rows row h has at =
      let before = earlier ds ns ts terms in
      let count : length ns ≡ length ts = before.0 in
      let within : i < length ts = omega (arith, count, h) in
      let below : All (λ j. j < length ts) (node_at ns i).arguments = λ k d l. (let less = before.1 i h k d l in omega (arith, less, within)) in
      let sorted : All (IsSorted i) rows = sorted_rows i (node_at ns i).head (node_at ns i).arguments rows within below (tree_is ds ns ts terms i h) has in
      sorted_literals i row (subst (IsSorted i) (get_or_from_slice_get rows n row row at) (All-get_or (IsSorted i) rows n row (slice_get_within rows n row at) sorted))
