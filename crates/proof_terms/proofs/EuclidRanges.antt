-- Where the divisor of a division leaves the range, each of its rows does.
use Rattle.std.proofs.Common.{◌≡◌, ◌≢◌, ◌⊎◌, inl, inr, ℕ, zero, suc, ◌*◌, ◌<◌, ◌≤◌, Bool, true, false, ◌&&◌, List, [], ◌∷◌, ◌++◌, length, get_or, All, refl, ap, sym, subst, ◌∙◌, lit<, arith}
use Rattle.std.specs.Prelude.{ℤ, pos, negsuc, neg_ℤ, ◌*ℤ◌, ◌-ℤ◌}
use Rattle.std.proofs.lemmas.Bool.{cases_lt}
use Rattle.std.proofs.lemmas.List.{get_or_append_left, get_or_push, length_push}
use Rattle.std.proofs.lemmas.List.Elements.{All-get_or, All-from_recursion}
use Rattle.std.proofs.lemmas.Option.{slice_get-get_or}
use Rattle.fraction128.specs.Whole.{InRange, is_in_range}
use Rattle.fraction128.specs.Division.{absolute}
use Rattle.smt_meaning.specs.declared.terms.Head.{Head}
use Rattle.smt_meaning.specs.declared.nodes.Node.{Node}
use Rattle.smt_meaning.specs.Declaration.{Declaration}
use Rattle.smt_meaning.specs.Term.{Tree, node, tree_at}
use Rattle.smt_meaning.specs.Nodes.{pick, tree_of}
use Rattle.smt_meaning.specs.Linear.{Form, form_times, form_fits, sum_fits, sum_times, linear_form, leaf_form, folding_fits, foldings_fit}
use Rattle.smt_meaning.specs.Division.{Row, limit, always, beyond, left_by, combined, combined_fits, limit_fits, quotient_rows, remainder_rows, divisible_rows}
use Rattle.smt_laws.proofs.Both.{and_left}
use Rattle.linear_forms.proofs.SumLemmas.{fits_in_range}
use Rattle.linear_forms.proofs.FoldLemmas.{false_if}
use Rattle.linear_forms.proofs.ProductLemmas.{times_each}
use Rattle.proof_meaning.specs.Proof.{AreTerms, no_terms, next_term, node_at}
use Rattle.smt_laws.specs.Rows.{place_form}
use Rattle.proof_meaning.specs.Rules.{divisor_at}
use Rattle.term_store.proofs.NodeLemmas.{pick-agree}
use Rattle.proof_terms.proofs.TermBounds.{earlier}
use Rattle.proof_terms.specs.Range.{terms_fit, limit_stays, row_stays}
use Rattle.proof_terms.specs.TermRows.{DivisorLeaves}
use Rattle.proof_terms.specs.declared.euclid.Division.{Division}
use Rattle.proof_terms.specs.declared.euclid.Division.TheVariants.{Quotient, Remainder, Divisibility, Magnitude}
use Rattle.proof_terms.specs.EuclidRows.{rows_here, IsQuotientBy, HasQuotient, NumberLeaves, IsDivision, RowLeaves}

by_one : (z : ℤ) → z *ℤ pos 1 ≡ z
by_one (pos n) = ap pos (omega arith)
by_one (negsuc n) = ap (λ m. neg_ℤ (pos m)) (let e : suc n * 1 ≡ suc n = omega arith in e)

negated : (n : ℤ) → InRange (neg_ℤ n) → InRange n
negated (pos zero) h = h
negated (pos (suc n)) h = h
negated (negsuc n) h = h

left_false : (a b : Bool) → a ≡ false → (a && b) ≡ false
left_false a b e = ap (λ c. c && b) e

right_false : (a b : Bool) → b ≡ false → (a && b) ≡ false
right_false true b e = e
right_false false b e = refl

module _ (ts : List Tree) where
  -- a multiple by a number that isn't in the range
  leaf_outside : (n : ℤ) (t : Tree) → (InRange n → ⊥) → form_fits (form_times n (leaf_form ts t)) ≡ false
  leaf_outside n t out = false_if (form_fits (form_times n (leaf_form ts t))) (λ h.
      (let f : Form = leaf_form ts t in
      let not_zero : n ≢ pos 0 = λ e. out (subst InRange (sym e) (lit< tt)) in
      let fits : sum_fits (sum_times n f.sum) ≡ true = and_left (sum_fits (sum_times n f.sum)) (is_in_range (n *ℤ pos 0)) h in
      let each : (is_in_range (n *ℤ pos 1) && true) ≡ true = ap sum_fits (sym (times_each n f.sum not_zero)) ∙ fits in
      out (subst InRange (by_one n) (fits_in_range (n *ℤ pos 1) (and_left (is_in_range (n *ℤ pos 1)) true each)))))

  -- folding one of the terms leaves the range, or the sum of the multiples
  abbrev IsBad : List (ℤ × ℕ) → Type 0
  IsBad ms = (terms_fit ts ms ≡ false) ⊎ (combined_fits (place_form ts) ms ≡ false)

  bad_later : (m : ℤ × ℕ) (ms : List (ℤ × ℕ)) → IsBad ms → IsBad (m ∷ ms)
  bad_later m ms (inl e) = inl (right_false (folding_fits ts (tree_at ts m.1)) (terms_fit ts ms) e)
  bad_later m ms (inr e) = inr (left_false (combined_fits (place_form ts) ms) (form_fits (form_times m.0 (place_form ts m.1)) && form_fits (combined (place_form ts) (m ∷ ms))) e)

  bad_limit : (ms : List (ℤ × ℕ)) (k : ℤ) → IsBad ms → limit_stays ts (limit ms k) ≡ false
  bad_limit ms k (inl e) = left_false (terms_fit ts ms) (limit_fits (place_form ts) (limit ms k)) e
  bad_limit ms k (inr e) = right_false (terms_fit ts ms) (limit_fits (place_form ts) (limit ms k)) (left_false (combined_fits (place_form ts) ms) (is_in_range (k -ℤ (combined (place_form ts) ms).constant)) e)

  module _ (q n : ℕ) (by : IsQuotientBy ts q n) (leaves : DivisorLeaves ts n) where
    abbrev k : ℤ
    k = divisor_at ts n

    term_unfit : folding_fits ts (tree_at ts n) ≡ false → folding_fits ts (tree_at ts q) ≡ false
    term_unfit e =
        let arguments : foldings_fit ts by.arguments ≡ false = false_if (foldings_fit ts by.arguments) (λ h. (let f = by.divisor h in let x : true ≡ false = sym f ∙ e in cc)) in
        ap (folding_fits ts) by.tree ∙ left_false (foldings_fit ts by.arguments) true arguments

    leaf : place_form ts q ≡ leaf_form ts (tree_at ts q)
    leaf = subst (λ t. linear_form ts t ≡ leaf_form ts t) (sym by.tree) refl

    bad_here : (c : ℤ) (ms : List (ℤ × ℕ)) → ((InRange k → ⊥) → InRange c → ⊥) → IsBad ((c, q) ∷ ms)
    bad_here c ms out = from leaves
      where
        from : DivisorLeaves ts n → IsBad ((c, q) ∷ ms)
        from (inl e) = inl (left_false (folding_fits ts (tree_at ts q)) (terms_fit ts ms) (term_unfit e))
        from (inr f) =
            inr (right_false (combined_fits (place_form ts) ms) (form_fits (form_times c (place_form ts q)) && form_fits (combined (place_form ts) ((c, q) ∷ ms)))
            (left_false (form_fits (form_times c (place_form ts q))) (form_fits (combined (place_form ts) ((c, q) ∷ ms)))
            (ap (λ g. form_fits (form_times c g)) leaf ∙ leaf_outside c (tree_at ts q) (out f))))

    bad_beyond : (a : ℕ) → IsBad (beyond a k q)
    bad_beyond a = bad_here k ((negsuc 0, a) ∷ []) (λ out h. out h)

    bad_left : (a : ℕ) → IsBad (left_by a k q)
    bad_left a = bad_later (pos 1, a) ((neg_ℤ k, q) ∷ []) (bad_here (neg_ℤ k) [] (λ out h. out (negated k h)))

    abbrev Leaves : Row ℕ → Type 0
    Leaves r = row_stays ts r ≡ false

    one_limit : (ms : List (ℤ × ℕ)) (most : ℤ) → IsBad ms → (limit_stays ts (limit ms most) && true) ≡ false
    one_limit ms most b = left_false (limit_stays ts (limit ms most)) true (bad_limit ms most b)

    quotient_leaves : (a : ℕ) → All Leaves (quotient_rows a k q)
    quotient_leaves a = All-from_recursion Leaves (quotient_rows a k q) (one_limit (beyond a k q) (pos 0) (bad_beyond a), (one_limit (left_by a k q) (absolute k -ℤ pos 1) (bad_left a), tt))

    remainder_leaves : (a m : ℕ) → All Leaves (remainder_rows a k q m)
    remainder_leaves a m =
        All-from_recursion Leaves (remainder_rows a k q m) (
          one_limit (beyond a k q) (pos 0) (bad_beyond a),
          (
            one_limit (left_by a k q) (absolute k -ℤ pos 1) (bad_left a),
            (
              one_limit ((pos 1, m) ∷ beyond a k q) (pos 0) (bad_later (pos 1, m) (beyond a k q) (bad_beyond a)),
              (one_limit ((negsuc 0, m) ∷ left_by a k q) (pos 0) (bad_later (negsuc 0, m) (left_by a k q) (bad_left a)), tt),
            ),
          ),
        )

    divisible_leaves : (a : ℕ) → All Leaves (divisible_rows a k q)
    divisible_leaves a =
        All-from_recursion Leaves (divisible_rows a k q) (
          one_limit (beyond a k q) (pos 0) (bad_beyond a),
          (
            one_limit (left_by a k q) (absolute k -ℤ pos 1) (bad_left a),
            (one_limit (beyond a k q) (negsuc 0) (bad_beyond a), (one_limit (left_by a k q) (pos 0) (bad_left a), tt)),
          ),
        )

  all_leave : (i : ℕ) (d : Division) → HasQuotient ts i d → NumberLeaves ts d → All (λ (r : Row ℕ). row_stays ts r ≡ false) (rows_here ts d i)
  all_leave i (Quotient a n) by leaves = quotient_leaves i n by leaves a
  all_leave i (Remainder a n q) by leaves = remainder_leaves q n by leaves a i
  all_leave i (Divisibility a n q) by leaves = divisible_leaves q n by leaves a
  all_leave i (Magnitude a) by leaves = absurd leaves

  no_row : Row ℕ
  no_row = always [] (pos 0)

  pub row_leaves : (i : ℕ) (h : Head) (is : List ℕ) (d : Division) (n : ℕ) → IsDivision ts i h is d → tree_at ts i ≡ node h (pick ts is) → NumberLeaves ts d → n < length (rows_here ts d i) → RowLeaves ts i h is n
  row_leaves i h is d n division tree leaves within = record {
    rows = rows_here ts d i;
    has = division.has;
    row = get_or (rows_here ts d i) n no_row;
    row_is = slice_get-get_or (rows_here ts d i) n no_row within;
    outside = All-get_or (λ (r : Row ℕ). row_stays ts r ≡ false) (rows_here ts d i) n no_row within (all_leave i d (division.quotient tree) leaves);
  }

-- ---- the tree of a term

picked_more : (ts : List Tree) (t : Tree) (is : List ℕ) → All (λ i. i < length ts) is → pick ts is ≡ pick (ts ++ t ∷ []) is
picked_more ts t is below = go is below
  where
    go : (js : List ℕ) → All (λ i. i < length ts) js → pick ts js ≡ pick (ts ++ t ∷ []) js
    go js a = pick-agree (ts ++ t ∷ []) ts js (length ts) (λ i less. sym (get_or_append_left ts (t ∷ []) _ i less)) a

pub tree_is : (ds : List Declaration) (ns : List Node) (ts : List Tree) → AreTerms ds ns ts → (i : ℕ) → i < length ns → tree_at ts i ≡ tree_of ts (node_at ns i)
tree_is ds _ _ no_terms i h = absurd (omega (arith, h))
tree_is ds _ _ (next_term {ns = ns} {ts = ts} before n k) i h = by (tree_is ds ns ts before i) (cases_lt i (length ns))
  where
    t : Tree
    t = tree_of ts n

    count : length ns ≡ length ts
    count = (earlier ds ns ts before).0

    by : (i < length ns → tree_at ts i ≡ tree_of ts (node_at ns i)) → (i < length ns) ⊎ (length ns ≤ i) → tree_at (ts ++ t ∷ []) i ≡ tree_of (ts ++ t ∷ []) (node_at (ns ++ n ∷ []) i)
    by same (inl less) =
        get_or_append_left ts (t ∷ []) _ i (omega (arith, count)) ∙ same less
        ∙ ap (node (node_at ns i).head) (picked_more ts t (node_at ns i).arguments (λ j d l. (let e = (earlier ds ns ts before).1 i less j d l in omega (arith, count))))
        ∙ ap (tree_of (ts ++ t ∷ [])) (sym (get_or_append_left ns (n ∷ []) _ i less))
    by same (inr from) =
        let last : length ns ≡ i = omega (arith, length_push ns n, h) in
        get_or_push ts t _ i (sym count ∙ last) ∙ ap (node n.head) (picked_more ts t n.arguments k.earlier) ∙ ap (tree_of (ts ++ t ∷ [])) (sym (get_or_push ns n _ i last))
