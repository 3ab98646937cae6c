-- Bounds over the terms of a proof from those over their different trees.
use Rattle.std.proofs.Common.{◌≡◌, ◌≢◌, ◌⊎◌, inl, inr, ℕ, zero, suc, ◌+◌, ◌<◌, ◌≤◌, ◌^◌, Bool, true, false, ◌&&◌, List, [], ◌∷◌, ◌++◌, length, All, refl, ap, sym, subst, ◌∙◌, arith}
use Rattle.std.specs.Prelude.{ℤ, pos, negsuc, neg_ℤ, slice_index, Result, Ok, Err, IfOk, IfErr}
use Rattle.std.proofs.lemmas.Bool.{cases_lt}
use Rattle.std.proofs.lemmas.List.{get_or_append_left, length_push, get_or_push, get_or_past}
use Rattle.std.proofs.lemmas.List.Elements.{All-head, All-tail}
use Rattle.fraction128.specs.Whole.{InRange, is_in_range}
use Rattle.smt_meaning.specs.declared.clauses.Summand.{Summand}
use Rattle.smt_meaning.specs.declared.clauses.Atom.{Atom}
use Rattle.smt_meaning.specs.declared.clauses.Atom.TheVariants.{AtMost}
use Rattle.smt_meaning.specs.declared.nodes.Node.{Node}
use Rattle.smt_meaning.specs.Declaration.{Declaration}
use Rattle.smt_meaning.specs.Term.{Tree, Trees, node, none, more, tree_at}
use Rattle.smt_meaning.specs.TreeShape.{place_of}
use Rattle.smt_meaning.specs.Linear.{Form, folding_fits, sum_fits}
use Rattle.smt_meaning.specs.Atoms.{difference_of, at_most_atom, below_atom}
use Rattle.smt_meaning.specs.Nodes.{pick, tree_of, trees_of}
use Rattle.proof_meaning.specs.Proof.{AreTerms, no_terms, next_term, node_at}
use Rattle.proof_meaning.specs.Rules.{not_above, below, folded_bound}
use Rattle.smt_laws.proofs.Among.{Among, among_append, among_last}
use Rattle.smt_laws.proofs.SameTree.{found_again}
use Rattle.term_store.proofs.PlaceLemmas.{place_of-within, place_of-is}
use Rattle.smt_laws.proofs.Both.{and_left}
use Rattle.linear_forms.specs.Sums.{IsSum}
use Rattle.linear_forms.specs.Folding.{form_of}
use Rattle.linear_forms.proofs.FoldLemmas.{form_constant}
use Rattle.linear_forms.specs.Differences.{difference_fits, IsDifference, Refuses}
use Rattle.linear_forms.specs.declared.differences.DifferenceError.{DifferenceError}
use Rattle.linear_forms.specs.declared.differences.DifferenceError.TheVariants.{Term, Pair, Memory}
use Rattle.pair_bounds.specs.Pairs.{below_fits, threshold_below, IsBound}
use Rattle.proof_terms.specs.Range.{not_above_fits, less_fits}
use Rattle.proof_terms.specs.Comparing.{compared, compared_fits, IsComparison}
use Rattle.proof_terms.specs.declared.terms_bounds.Comparison.{Comparison}
use Rattle.proof_terms.specs.declared.terms_bounds.Comparison.TheVariants.{Undivided, NotAbove, Below}
use Rattle.proof_terms.specs.Terms.{IsBoundOf}
use Rattle.proof_terms.specs.declared.terms_facts.Fact.{Fact}
use Rattle.proof_terms.specs.TermFacts.{fact_past}
use Rattle.proof_terms.specs.TermRenaming.{renamed, renamed_form, renamed_bound, first_at, Ascends}
use Rattle.proof_terms.specs.TermTable.{AreFiled, IsRenamedBound}
use Rattle.proof_terms.proofs.TermForms.{EachPart, EachPartOf, IsRenamed, difference_renamed, difference_fits_renamed, at_most_renamed, below_renamed, below_fits_renamed}
use Rattle.proof_terms.proofs.TermFiling.{trees_count}

-- ---- the parts of terms

abbrev mutual
  parts_weaker : (P Q : Tree → Type 0) → ((t : Tree) → P t → Q t) → (t : Tree) → EachPart P t → EachPart Q t
  parts_weaker P Q f (node h us) a = (f (node h us) a.0, parts_of_weaker P Q f us a.1)

  parts_of_weaker : (P Q : Tree → Type 0) → ((t : Tree) → P t → Q t) → (us : Trees) → EachPartOf P us → EachPartOf Q us
  parts_of_weaker P Q f none a = tt
  parts_of_weaker P Q f (more u us) a = (parts_weaker P Q f u a.0, parts_of_weaker P Q f us a.1)

picked_parts : (P : Tree → Type 0) (ts : List Tree) (is : List ℕ) → ((i : ℕ) → i < length ts → EachPart P (tree_at ts i)) → All (λ i. i < length ts) is → EachPartOf P (pick ts is)
picked_parts P ts [] each all = tt
picked_parts P ts (i ∷ is) each all = (each i (All-head (λ j. j < length ts) i is all), picked_parts P ts is each (All-tail (λ j. j < length ts) i is all))

pub parts_among : (ds : List Declaration) (ns : List Node) (ts : List Tree) → AreTerms ds ns ts → (i : ℕ) → i < length ts → EachPart (λ u. Among u ts) (tree_at ts i)
parts_among ds _ _ no_terms i h = absurd (omega (arith, h))
parts_among ds _ _ (next_term {ns = ns} {ts = ts} hs n k) i h =
    let t : Tree = tree_of ts n in
    let later : (j : ℕ) → j < length ts → EachPart (λ u. Among u (ts ++ t ∷ [])) (tree_at ts j) =
    λ j l. parts_weaker (λ u. Among u ts) (λ u. Among u (ts ++ t ∷ [])) (λ u a. among_append u ts (t ∷ []) a) (tree_at ts j) (parts_among ds ns ts hs j l) in
    elim (cases_lt i (length ts)) [
      | inl less ↦ subst (EachPart (λ u. Among u (ts ++ t ∷ []))) (sym (get_or_append_left ts (t ∷ []) _ i less)) (later i less)
      | inr from ↦
          subst (EachPart (λ u. Among u (ts ++ t ∷ []))) (sym (get_or_push ts t _ i (omega (arith, length_push ts t))))
          (among_last t ts, picked_parts (λ u. Among u (ts ++ t ∷ [])) ts n.arguments later k.earlier)
    ]

-- ---- arguments are earlier

pub earlier : (ds : List Declaration) (ns : List Node) (ts : List Tree) → AreTerms ds ns ts → (length ns ≡ length ts) × ((i : ℕ) → i < length ns → All (λ j. j < i) (node_at ns i).arguments)
earlier ds _ _ no_terms = (refl, λ i h. absurd (omega (arith, h)))
earlier ds _ _ (next_term {ns = ns} {ts = ts} hs n k) =
    let before : (length ns ≡ length ts) × ((i : ℕ) → i < length ns → All (λ j. j < i) (node_at ns i).arguments) = earlier ds ns ts hs in
    let count : length ns ≡ length ts = before.0 in (
      omega (arith, length_push ns n, length_push ts (tree_of ts n)),
      λ i h.
          elim (cases_lt i (length ns)) [
            | inl less ↦ subst (λ (m : Node). All (λ j. j < i) m.arguments) (sym (get_or_append_left ns (n ∷ []) _ i less)) (before.1 i less)
            | inr from ↦
                let last : length ns ≡ i = omega (arith, length_push ns n) in
                subst (λ (m : Node). All (λ j. j < i) m.arguments) (sym (get_or_push ns n _ i last)) (subst (λ b. All (λ j. j < b) n.arguments) (sym count ∙ last) k.earlier)
          ],
    )

-- ---- which folding leaves the range

unfit : (ts : List Tree) (s t : Tree) → (folding_fits ts s ≡ false) ⊎ (folding_fits ts t ≡ false) → difference_fits ts s t ≡ false
unfit ts s t h = by (folding_fits ts s) (folding_fits ts t) _ h
  where
    by : (a b c : Bool) → (a ≡ false) ⊎ (b ≡ false) → ((a && (b && true)) && c) ≡ false
    by false b c h = refl
    by true false c h = refl
    by true true c (inl e) = cc
    by true true c (inr e) = cc

false_and : (a b : Bool) → a ≡ false → (a && b) ≡ false
false_and false b e = refl
false_and true b e = cc

pub refused : (ts : List Tree) (left right : ℕ) (e : DifferenceError) → Refuses ts (difference_fits ts) left right e → e ≢ Memory → not_above_fits ts left right ≡ false
refused ts left right (Term part) (inl o) h = unfit ts (tree_at ts left) (tree_at ts right) (inl o.unfit)
refused ts left right (Term part) (inr o) h = unfit ts (tree_at ts left) (tree_at ts right) (inr o.unfit)
refused ts left right Pair r h = r.outside
refused ts left right Memory r h = absurd (h refl)

pub refused_below : (ts : List Tree) (left right : ℕ) (e : DifferenceError) → Refuses ts (below_fits ts) left right e → e ≢ Memory → less_fits ts left right ≡ false
refused_below ts left right (Term part) (inl o) h =
    false_and (difference_fits ts (tree_at ts left) (tree_at ts right)) (is_in_range (threshold_below (difference_of ts (tree_at ts left) (tree_at ts right))))
    (unfit ts (tree_at ts left) (tree_at ts right) (inl o.unfit))
refused_below ts left right (Term part) (inr o) h =
    false_and (difference_fits ts (tree_at ts left) (tree_at ts right)) (is_in_range (threshold_below (difference_of ts (tree_at ts left) (tree_at ts right))))
    (unfit ts (tree_at ts left) (tree_at ts right) (inr o.unfit))
refused_below ts left right Pair r h = r.outside
refused_below ts left right Memory r h = absurd (h refl)

-- ---- from the places of trees to the first terms with them

module _ (ds : List Declaration) (hs : List Tree) (ns : List Node) (places : List ℕ) (us : List Tree) (facts : List Fact) (filed : AreFiled ds hs ns places us facts) where
  abbrev trees : List Tree
  trees = trees_of ns

  first_past : (p : ℕ) → length us ≤ p → first_at facts p ≡ p + 2 ^ 32
  first_past p h = let count = filed.facts_count in ap (λ (f : Fact). f.first) (get_or_past facts p (fact_past p) (omega arith))

  first_few : (p : ℕ) → p < length us → first_at facts p < 2 ^ 32
  first_few p h =
      let within = (filed.each p h).within in
      let few = filed.few in
      omega (arith, trees_count ds hs ns places us facts filed)

  pub ascends : Ascends (first_at facts)
  ascends = record { at = λ i j less. by i j less (cases_lt i (length us)) (cases_lt j (length us)) }
    where
      by : (i j : ℕ) → i < j → (i < length us) ⊎ (length us ≤ i) → (j < length us) ⊎ (length us ≤ j) → first_at facts i < first_at facts j
      by i j less a (inl b) = filed.ascending i j less b
      by i j less (inl a) (inr b) = let x = first_few i a in let y = first_past j b in omega arith
      by i j less (inr a) (inr b) = let x = first_past i a in let y = first_past j b in omega arith

  renamed_at : (u : Tree) → Among u trees → IsRenamed (first_at facts) trees us u
  renamed_at u a =
      let i : ℕ = place_of u trees in
      let within : i < length trees = place_of-within u trees a in
      let at = filed.placed i (omega (arith, trees_count ds hs ns places us facts filed)) in
      let p : ℕ = slice_index places i in
      let here : tree_at us p ≡ u = at.1 ∙ found_again u trees a in
      let same : place_of u us ≡ p = place_of-is u us p filed.different at.0 here in
      ap (λ v. place_of v trees) (sym here) ∙ (filed.each p at.0).first ∙ ap (first_at facts) (sym same)

  pub each_renamed : (i : ℕ) → i < length ns → EachPart (IsRenamed (first_at facts) trees us) (tree_at trees i)
  each_renamed i h =
      parts_weaker (λ u. Among u trees) (IsRenamed (first_at facts) trees us) renamed_at (tree_at trees i) (parts_among ds ns trees filed.terms i (omega (arith, trees_count ds hs ns places us facts filed)))

  module _ (i j : ℕ) (h : i < length ns) (k : j < length ns) where
    abbrev p : ℕ
    p = slice_index places i

    abbrev q : ℕ
    q = slice_index places j

    first : tree_at us p ≡ tree_at trees i
    first = (filed.placed i h).1

    second : tree_at us q ≡ tree_at trees j
    second = (filed.placed j k).1

    difference_same : difference_of trees (tree_at trees i) (tree_at trees j) ≡ renamed_form (first_at facts) (difference_of us (tree_at us p) (tree_at us q))
    difference_same =
        difference_renamed (first_at facts) ascends trees us (tree_at trees i) (tree_at trees j) (each_renamed i h) (each_renamed j k)
        ∙ ap (λ s. renamed_form (first_at facts) (difference_of us s (tree_at trees j))) (sym first)
        ∙ ap (λ t. renamed_form (first_at facts) (difference_of us (tree_at us p) t)) (sym second)

    pub fits_same : not_above_fits trees i j ≡ not_above_fits us p q
    fits_same =
        difference_fits_renamed (first_at facts) ascends trees us (tree_at trees i) (tree_at trees j) (each_renamed i h) (each_renamed j k)
        ∙ ap (λ s. difference_fits us s (tree_at trees j)) (sym first) ∙ ap (λ t. difference_fits us (tree_at us p) t) (sym second)

    pub less_fits_same : less_fits trees i j ≡ less_fits us p q
    less_fits_same =
        below_fits_renamed (first_at facts) ascends trees us (tree_at trees i) (tree_at trees j) (each_renamed i h) (each_renamed j k)
        ∙ ap (λ s. below_fits us s (tree_at trees j)) (sym first) ∙ ap (λ t. below_fits us (tree_at us p) t) (sym second)

    folded_same : folded_bound trees i j ≡ renamed_bound (first_at facts) (folded_bound us p q)
    folded_same = ap (λ (f : Form). AtMost f.sum (neg_ℤ f.constant)) difference_same

    not_above_same : not_above trees i j ≡ renamed_bound (first_at facts) (not_above us p q)
    not_above_same =
        at_most_renamed (first_at facts) ascends trees us (tree_at trees i) (tree_at trees j) (each_renamed i h) (each_renamed j k)
        ∙ ap (λ s. renamed_bound (first_at facts) (at_most_atom us s (tree_at trees j))) (sym first) ∙ ap (λ t. renamed_bound (first_at facts) (at_most_atom us (tree_at us p) t)) (sym second)

    below_same : below trees i j ≡ renamed_bound (first_at facts) (below us p q)
    below_same =
        below_renamed (first_at facts) ascends trees us (tree_at trees i) (tree_at trees j) (each_renamed i h) (each_renamed j k)
        ∙ ap (λ s. renamed_bound (first_at facts) (below_atom us s (tree_at trees j))) (sym first) ∙ ap (λ t. renamed_bound (first_at facts) (below_atom us (tree_at us p) t)) (sym second)

    lifted : (fit seen : Bool) (a b : Atom) (sum : List Summand) (limit : ℤ) → fit ≡ seen → a ≡ renamed_bound (first_at facts) b → IsRenamedBound facts seen b sum limit
        → (fit ≡ true) × IsBoundOf a sum limit
    lifted fit seen a b sum limit e f r = (e ∙ r.fits, record { atom = r.atom ∙ sym f; coefficients = r.coefficients; in_range = r.in_range })

    compared_fits_same : (c : Comparison) → compared_fits c trees i j ≡ compared_fits c us p q
    compared_fits_same Undivided = fits_same
    compared_fits_same NotAbove = fits_same
    compared_fits_same Below = less_fits_same

    compared_same : (c : Comparison) → compared c trees i j ≡ renamed_bound (first_at facts) (compared c us p q)
    compared_same Undivided = folded_same
    compared_same NotAbove = not_above_same
    compared_same Below = below_same

    pub compared_lifted : (c : Comparison) (a b : ℕ) (sum : List Summand) (limit : ℤ) → a ≡ slice_index places i → b ≡ slice_index places j → IsRenamedBound facts (compared_fits c us a b) (compared c us a b) sum limit
        → (compared_fits c trees i j ≡ true) × IsBoundOf (compared c trees i j) sum limit
    compared_lifted c a b sum limit e f r =
        lifted (compared_fits c trees i j) (compared_fits c us p q) (compared c trees i j) (compared c us p q) sum limit (compared_fits_same c) (compared_same c)
        (subst (λ x. IsRenamedBound facts (compared_fits c us x q) (compared c us x q) sum limit) e (subst (λ y. IsRenamedBound facts (compared_fits c us a y) (compared c us a y) sum limit) f r))

    pub compared_unfit : (c : Comparison) (a b : ℕ) → a ≡ slice_index places i → b ≡ slice_index places j → compared_fits c us a b ≡ false → compared_fits c trees i j ≡ false
    compared_unfit c a b e f h = compared_fits_same c ∙ ap (λ x. compared_fits c us x q) (sym e) ∙ ap (λ y. compared_fits c us a y) (sym f) ∙ h

-- ---- bounds that are renamed

coefficients_same : (r : ℕ → ℕ) (ps : List Summand) → sum_fits (renamed r ps) ≡ sum_fits ps
coefficients_same r [] = refl
coefficients_same r (p ∷ ps) = ap (λ b. is_in_range p.coefficient && b) (coefficients_same r ps)

neg_in_range : (n : ℤ) → InRange n → InRange (neg_ℤ n)
neg_in_range (pos zero) h = h
neg_in_range (pos (suc m)) h = h
neg_in_range (negsuc m) h = h

pub bound_renamed : (facts seen : List Fact) (us : List Tree) (fit : Bool) (a : Atom) (sum new : List Summand) (k m : ℤ) → seen ≡ facts → new ≡ renamed (first_at seen) sum → m ≡ k → fit ≡ true → IsBound us a sum k
    → IsRenamedBound facts fit a new m
bound_renamed facts seen us fit a sum new k m s e f g b =
    let e' : new ≡ renamed (first_at facts) sum = e ∙ ap (λ fs. renamed (first_at fs) sum) s in
    record {
      fits = g;
      atom = ap (λ qs. AtMost qs m) e' ∙ ap (AtMost (renamed (first_at facts) sum)) f ∙ ap (renamed_bound (first_at facts)) b.atom;
      coefficients = ap sum_fits e' ∙ coefficients_same (first_at facts) sum ∙ b.coefficients;
      in_range = subst InRange (sym f) b.in_range;
    }

folded_is_bound : (us : List Tree) (left right : ℕ) (sum : List Summand) (n : ℤ) → IsDifference us left right (form_of sum n) → IsBound us (folded_bound us left right) sum (neg_ℤ n)
folded_is_bound us left right sum n d = record {
  atom = ap (λ (f : Form). AtMost f.sum (neg_ℤ f.constant)) d.form;
  is_sum = d.is_sum;
  coefficients = and_left (sum_fits sum) (is_in_range n) d.ranges;
  in_range = neg_in_range n (form_constant (form_of sum n) d.ranges);
}

pub comparison_folded : (us : List Tree) (left right : ℕ) (sum : List Summand) (n m : ℤ) → m ≡ neg_ℤ n → IsDifference us left right (form_of sum n) → IsComparison us Undivided left right sum m
comparison_folded us left right sum n m e d = subst (IsComparison us Undivided left right sum) (sym e) (record { fits = d.fits; bound = folded_is_bound us left right sum n d })

pub sum_within : (us : List Tree) (facts seen : List Fact) (sum : List Summand) → length facts ≡ length us → seen ≡ facts → IsSum (length us) sum → IsSum (length seen) sum
sum_within us facts seen sum e f s = subst (λ (fs : List Fact). IsSum (length fs) sum) (sym f) (subst (λ n. IsSum n sum) (sym e) s)

-- ---- what calls come to

pub if_ok : {T E : Type 0} (r : Result T E) (P Q : T → Type 0) → IfOk r P → ((x : T) → P x → Q x) → IfOk r Q
if_ok (Ok x) P Q p f = f x p
if_ok (Err e) P Q p f = tt

pub if_err : {T E : Type 0} (r : Result T E) (P Q : E → Type 0) → IfErr r P → ((e : E) → P e → Q e) → IfErr r Q
if_err (Ok x) P Q p f = tt
if_err (Err e) P Q p f = f e p
