-- The limits of rows, over the terms of a proof and over the places of their trees.
use Rattle.std.proofs.Common.{◌≡◌, inl, inr, ℕ, suc, ◌<◌, Bool, true, false, ◌&&◌, List, [], ◌∷◌, map, length, All, refl, ap, sym, subst, ◌∙◌, arith}
use Rattle.std.specs.Prelude.{ℤ, ◌-ℤ◌, slice_index, Option, Some, None, MatchOption, if◌then◌else◌}
use Rattle.std.proofs.lemmas.List.Elements.{All-nil, All-cons, All-head, All-tail}
use Rattle.fraction128.specs.Whole.{InRange, is_in_range}
use Rattle.smt_meaning.specs.declared.terms.Head.{Head}
use Rattle.smt_meaning.specs.declared.clauses.Summand.{Summand}
use Rattle.smt_meaning.specs.declared.nodes.Node.{Node}
use Rattle.smt_meaning.specs.Declaration.{Declaration}
use Rattle.smt_meaning.specs.Term.{Tree, node, tree_at}
use Rattle.smt_meaning.specs.TreeShape.{tree_eq, place_of}
use Rattle.smt_meaning.specs.Linear.{Form, form_plus, form_times, form_fits, folding_fits, linear_form}
use Rattle.smt_meaning.specs.Division.{Limit, limit, combined, combined_fits, limit_fits}
use Rattle.smt_meaning.specs.Atoms.{limit_atom, most_atom}
use Rattle.smt_meaning.specs.Nodes.{trees_of}
use Rattle.smt_laws.specs.Rows.{place_form}
use Rattle.proof_meaning.specs.Rules.{divisor_at}
use Rattle.smt_laws.proofs.SameTree.{tree_eq-true}
use Rattle.smt_laws.proofs.Both.{and_both}
use Rattle.term_store.specs.Terms.{tree_with, IsPlace, IsNew}
use Rattle.linear_forms.specs.declared.multiples.Multiple.{Multiple}
use Rattle.linear_forms.specs.Multiples.{multiples_of, IsMultiple, AreMultiples}
use Rattle.pair_bounds.specs.declared.rows.RowLimit.{RowLimit}
use Rattle.pair_bounds.specs.Rows.{multiples, limit_of_row, IsRowLimit, IsRowBound}
use Rattle.proof_terms.specs.Range.{terms_fit, limit_stays}
use Rattle.proof_terms.specs.Terms.{IsBoundOf}
use Rattle.proof_terms.specs.declared.terms_facts.Fact.{Fact}
use Rattle.proof_terms.specs.TermFacts.{places_at}
use Rattle.proof_terms.specs.TermRenaming.{renamed_form, renamed_bound, first_at, Ascends}
use Rattle.proof_terms.specs.TermTable.{AreFiled, IsRenamedBound}
use Rattle.proof_terms.specs.TermRows.{tree_multiples, tree_limit, trees_fit, tree_limit_stays, multiple_at, limit_at, IsFirst, IsDivisor, DivisorLeaves}
use Rattle.proof_terms.proofs.TermForms.{EachPart, IsRenamed, form_renamed, folding_renamed, form_times_renamed, form_plus_renamed, form_fits_renamed, normal_renamed}
use Rattle.proof_terms.proofs.TermBounds.{ascends, each_renamed}
use Rattle.proof_terms.proofs.TermFiling.{trees_count, picked}

-- ---- places

pub places_within : (n : ℕ) (places is : List ℕ) → All (λ p. p < n) places → All (λ i. i < length places) is → All (λ p. p < n) (places_at places is)
places_within n places [] a b = All-nil (λ p. p < n)
places_within n places (i ∷ is) a b =
    All-cons (λ p. p < n) (slice_index places i) (places_at places is) (a i 0 (All-head (λ j. j < length places) i is b)) (places_within n places is a (All-tail (λ j. j < length places) i is b))

stands_there : (t : Tree) (ts : List Tree) → place_of t ts < length ts → tree_at ts (place_of t ts) ≡ t
stands_there t [] h = absurd (omega arith)
stands_there t (u ∷ us) h = by (tree_eq t u) refl h (stands_there t us)
  where
    by : (b : Bool) → tree_eq t u ≡ b → (if b then 0 else suc (place_of t us)) < length (u ∷ us) → (place_of t us < length us → tree_at us (place_of t us) ≡ t)
        → tree_at (u ∷ us) (if b then 0 else suc (place_of t us)) ≡ t
    by true e k rest = sym (tree_eq-true t u e)
    by false e k rest = rest (omega arith)

-- ---- a limit by the trees of its terms

module _ (ts : List Tree) where
  combined_by_trees : (ms : List (ℤ × ℕ)) → combined (place_form ts) ms ≡ combined (linear_form ts) (tree_multiples ts ms)
  combined_by_trees [] = refl
  combined_by_trees (m ∷ ms) = ap (form_plus (form_times m.0 (place_form ts m.1))) (combined_by_trees ms)

  fits_by_trees : (ms : List (ℤ × ℕ)) → combined_fits (place_form ts) ms ≡ combined_fits (linear_form ts) (tree_multiples ts ms)
  fits_by_trees [] = refl
  fits_by_trees (m ∷ ms) =
      ap (λ b. b && (form_fits (form_times m.0 (place_form ts m.1)) && form_fits (combined (place_form ts) (m ∷ ms)))) (fits_by_trees ms)
      ∙ ap (λ f. combined_fits (linear_form ts) (tree_multiples ts ms) && (form_fits (form_times m.0 (place_form ts m.1)) && form_fits f)) (combined_by_trees (m ∷ ms))

  terms_by_trees : (ms : List (ℤ × ℕ)) → terms_fit ts ms ≡ trees_fit ts (tree_multiples ts ms)
  terms_by_trees [] = refl
  terms_by_trees (m ∷ ms) = ap (λ b. folding_fits ts (tree_at ts m.1) && b) (terms_by_trees ms)

  limit_by_trees : (l : Limit ℕ) → limit_fits (place_form ts) l ≡ limit_fits (linear_form ts) (tree_limit ts l)
  limit_by_trees l =
      ap (λ b. b && is_in_range (l.most -ℤ (combined (place_form ts) l.multiples).constant)) (fits_by_trees l.multiples)
      ∙ ap (λ (f : Form). combined_fits (linear_form ts) (tree_multiples ts l.multiples) && is_in_range (l.most -ℤ f.constant)) (combined_by_trees l.multiples)

  pub stays_by_trees : (l : Limit ℕ) → limit_stays ts l ≡ tree_limit_stays ts (tree_limit ts l)
  stays_by_trees l = ap (λ b. b && limit_fits (place_form ts) l) (terms_by_trees l.multiples) ∙ ap (λ b. trees_fit ts (tree_multiples ts l.multiples) && b) (limit_by_trees l)

  pub atom_by_trees : (l : Limit ℕ) → limit_atom (place_form ts) l ≡ limit_atom (linear_form ts) (tree_limit ts l)
  atom_by_trees l = ap (λ f. most_atom f l.most) (combined_by_trees l.multiples)

  -- ---- what folding comes to

  pub all_terms_fit : (ms : List Multiple) → All (λ (m : Multiple). folding_fits ts (tree_at ts m.term) ≡ true) ms → terms_fit ts (multiples_of ms) ≡ true
  all_terms_fit [] a = refl
  all_terms_fit (m ∷ ms) a =
      and_both (folding_fits ts (tree_at ts m.term)) (terms_fit ts (multiples_of ms)) (All-head (λ (n : Multiple). folding_fits ts (tree_at ts n.term) ≡ true) m ms a)
      (all_terms_fit ms (All-tail (λ (n : Multiple). folding_fits ts (tree_at ts n.term) ≡ true) m ms a))

  pub bound_stays : (l : RowLimit) (sum : List Summand) (k : ℤ) → IsRowBound ts l sum k → limit_stays ts (limit_of_row l) ≡ true
  bound_stays l sum k b = and_both (terms_fit ts (multiples_of (multiples l))) (limit_fits (place_form ts) (limit_of_row l)) (all_terms_fit (multiples l) b.terms_fit) b.fits

-- ---- the same limit over other places of its trees

module _ (r : ℕ → ℕ) (a : Ascends r) (ts us : List Tree) where
  abbrev pub AreRenamed : List (ℤ × Tree) → Type 0
  AreRenamed [] = Unit {0}
  AreRenamed (m ∷ ms) = EachPart (IsRenamed r ts us) m.1 × AreRenamed ms

  combined_renamed : (ms : List (ℤ × Tree)) → AreRenamed ms → combined (linear_form ts) ms ≡ renamed_form r (combined (linear_form us) ms)
  combined_renamed [] h = refl
  combined_renamed (m ∷ ms) h =
      ap (λ f. form_plus (form_times m.0 f) (combined (linear_form ts) ms)) (form_renamed r a ts us m.1 h.0)
      ∙ ap (form_plus (form_times m.0 (renamed_form r (linear_form us m.1)))) (combined_renamed ms h.1)
      ∙ ap (λ f. form_plus f (renamed_form r (combined (linear_form us) ms))) (sym (form_times_renamed r a m.0 (linear_form us m.1)))
      ∙ sym (form_plus_renamed r a (form_times m.0 (linear_form us m.1)) (combined (linear_form us) ms))

  multiple_fits : (m : ℤ × Tree) → EachPart (IsRenamed r ts us) m.1 → form_fits (form_times m.0 (linear_form ts m.1)) ≡ form_fits (form_times m.0 (linear_form us m.1))
  multiple_fits m h =
      ap (λ f. form_fits (form_times m.0 f)) (form_renamed r a ts us m.1 h) ∙ ap form_fits (sym (form_times_renamed r a m.0 (linear_form us m.1)))
      ∙ form_fits_renamed r a (form_times m.0 (linear_form us m.1))

  combined_fits_renamed : (ms : List (ℤ × Tree)) → AreRenamed ms → combined_fits (linear_form ts) ms ≡ combined_fits (linear_form us) ms
  combined_fits_renamed [] h = refl
  combined_fits_renamed (m ∷ ms) h =
      ap (λ b. b && (form_fits (form_times m.0 (linear_form ts m.1)) && form_fits (combined (linear_form ts) (m ∷ ms)))) (combined_fits_renamed ms h.1)
      ∙ ap (λ b. combined_fits (linear_form us) ms && (b && form_fits (combined (linear_form ts) (m ∷ ms)))) (multiple_fits m h.0)
      ∙ ap (λ b. combined_fits (linear_form us) ms && (form_fits (form_times m.0 (linear_form us m.1)) && b))
      (ap form_fits (combined_renamed (m ∷ ms) h) ∙ form_fits_renamed r a (combined (linear_form us) (m ∷ ms)))

  trees_fit_renamed : (ms : List (ℤ × Tree)) → AreRenamed ms → trees_fit ts ms ≡ trees_fit us ms
  trees_fit_renamed [] h = refl
  trees_fit_renamed (m ∷ ms) h =
      ap (λ b. b && trees_fit ts ms) (folding_renamed r a ts us m.1 h.0) ∙ ap (λ b. folding_fits us m.1 && b) (trees_fit_renamed ms h.1)

  pub stays_renamed : (l : Limit Tree) → AreRenamed l.multiples → tree_limit_stays ts l ≡ tree_limit_stays us l
  stays_renamed l h =
      ap (λ b. b && limit_fits (linear_form ts) l) (trees_fit_renamed l.multiples h)
      ∙ ap (λ b. trees_fit us l.multiples && (b && is_in_range (l.most -ℤ (combined (linear_form ts) l.multiples).constant))) (combined_fits_renamed l.multiples h)
      ∙ ap (λ (f : Form). trees_fit us l.multiples && (combined_fits (linear_form us) l.multiples && is_in_range (l.most -ℤ f.constant))) (combined_renamed l.multiples h)

  pub atom_renamed : (l : Limit Tree) → AreRenamed l.multiples → limit_atom (linear_form ts) l ≡ renamed_bound r (limit_atom (linear_form us) l)
  atom_renamed l h =
      ap (λ f. most_atom f l.most) (combined_renamed l.multiples h)
      ∙ normal_renamed r a (combined (linear_form us) l.multiples).sum (l.most -ℤ (combined (linear_form us) l.multiples).constant)

-- ---- from the places of trees to the first terms with them

module _ (ds : List Declaration) (hs : List Tree) (ns : List Node) (places : List ℕ) (us : List Tree) (facts : List Fact) (filed : AreFiled ds hs ns places us facts) where
  abbrev trees : List Tree
  trees = trees_of ns

  -- the first term with the tree at a place
  first_is : (p : ℕ) → p < length us → IsPlace trees (first_at facts p) (tree_at us p)
  first_is p h =
      let fact = filed.each p h in
      let within = fact.within in
      let below : place_of (tree_at us p) trees < length trees = subst (λ i. i < length trees) (sym fact.first) within in
      (within, ap (tree_at trees) (sym fact.first) ∙ stands_there (tree_at us p) trees below)

  pub first_lifted : (h : Head) (is : List ℕ) (o : Option ℕ) → All (λ i. i < length ns) is → IsFirst us facts (tree_with us h (places_at places is)) o
      → MatchOption o (IsNew trees (tree_with trees h is)) (λ i. IsPlace trees i (tree_with trees h is))
  first_lifted h is o below f = by o f
    where
      same : tree_with us h (places_at places is) ≡ tree_with trees h is
      same = ap (node h) (picked ds hs ns places us facts filed is below)

      by : (o : Option ℕ) → IsFirst us facts (tree_with us h (places_at places is)) o → MatchOption o (IsNew trees (tree_with trees h is)) (λ i. IsPlace trees i (tree_with trees h is))
      by None new = λ i less e.
          (let at = filed.placed i (omega (arith, trees_count ds hs ns places us facts filed)) in
          new (slice_index places i) at.0 (at.1 ∙ e ∙ sym same))
      by (Some i) s =
          let p : ℕ = s.0 in
          let at : IsPlace us p (tree_with us h (places_at places is)) = s.1.0 in
          let here : IsPlace trees (first_at facts p) (tree_at us p) = first_is p at.0 in
          subst (λ j. IsPlace trees j (tree_with trees h is)) (sym s.1.1) (here.0, here.1 ∙ at.1 ∙ same)

  constant_same : (i : ℕ) → i < length ns → divisor_at trees i ≡ divisor_at us (slice_index places i)
  constant_same i h =
      ap (λ (f : Form). f.constant) (form_renamed (first_at facts) (ascends ds hs ns places us facts filed) trees us (tree_at trees i) (each_renamed ds hs ns places us facts filed i h))
      ∙ ap (λ t. let f : Form = linear_form us t in f.constant) (sym (filed.placed i h).1)

  fits_same : (i : ℕ) → i < length ns → folding_fits trees (tree_at trees i) ≡ folding_fits us (tree_at us (slice_index places i))
  fits_same i h =
      folding_renamed (first_at facts) (ascends ds hs ns places us facts filed) trees us (tree_at trees i) (each_renamed ds hs ns places us facts filed i h)
      ∙ ap (folding_fits us) (sym (filed.placed i h).1)

  pub divisor_lifted : (i p : ℕ) (n : ℤ) → i < length ns → p ≡ slice_index places i → IsDivisor us p n → IsDivisor trees i n
  divisor_lifted i p n h e d = record { number_is = d.number_is ∙ ap (divisor_at us) e ∙ sym (constant_same i h); in_range = d.in_range }

  pub divisor_leaves : (i p : ℕ) → i < length ns → p ≡ slice_index places i → DivisorLeaves us p → DivisorLeaves trees i
  divisor_leaves i p h e (inl f) = inl (fits_same i h ∙ ap (λ q. folding_fits us (tree_at us q)) (sym e) ∙ f)
  divisor_leaves i p h e (inr out) = inr (λ k. out (subst InRange (constant_same i h ∙ ap (divisor_at us) (sym e)) k))

  -- ---- limits

  same_trees : (ms : List Multiple) → AreMultiples (length ns) ms → tree_multiples trees (multiples_of ms) ≡ tree_multiples us (multiples_of (map (multiple_at places) ms))
  same_trees [] a = refl
  same_trees (m ∷ ms) a =
      let here : IsMultiple (length ns) m = All-head (IsMultiple (length ns)) m ms a in
      ap (λ t. (m.factor, t) ∷ tree_multiples trees (multiples_of ms)) (sym (filed.placed m.term here.within).1)
      ∙ ap (λ xs. (m.factor, tree_at us (slice_index places m.term)) ∷ xs) (same_trees ms (All-tail (IsMultiple (length ns)) m ms a))

  are_renamed : (ms : List Multiple) → AreMultiples (length ns) ms → AreRenamed (first_at facts) (ascends ds hs ns places us facts filed) trees us (tree_multiples trees (multiples_of ms))
  are_renamed [] a = tt
  are_renamed (m ∷ ms) a =
      let here : IsMultiple (length ns) m = All-head (IsMultiple (length ns)) m ms a in
      (each_renamed ds hs ns places us facts filed m.term here.within, are_renamed ms (All-tail (IsMultiple (length ns)) m ms a))

  multiples_at : (l : RowLimit) → multiples (limit_at places l) ≡ map (multiple_at places) (multiples l)
  multiples_at l = by l.third
    where
      by : (o : Option Multiple) → multiples (limit_at places (record l { third = o })) ≡ map (multiple_at places) (multiples (record l { third = o }))
      by None = refl
      by (Some m) = refl

  at_multiples : (ms : List Multiple) → AreMultiples (length ns) ms → AreMultiples (length us) (map (multiple_at places) ms)
  at_multiples [] a = All-nil (IsMultiple (length us))
  at_multiples (m ∷ ms) a =
      let here : IsMultiple (length ns) m = All-head (IsMultiple (length ns)) m ms a in
      All-cons (IsMultiple (length us)) (multiple_at places m) (map (multiple_at places) ms) (record { in_range = here.in_range; within = (filed.placed m.term here.within).0 })
      (at_multiples ms (All-tail (IsMultiple (length ns)) m ms a))

  module _ (l : RowLimit) (h : IsRowLimit (length ns) l) where
    pub at_places : IsRowLimit (length us) (limit_at places l)
    at_places = record { multiples_are = subst (AreMultiples (length us)) (sym (multiples_at l)) (at_multiples (multiples l) h.multiples_are); in_range = h.in_range }

    abbrev here : Limit ℕ
    here = limit_of_row l

    abbrev there : Limit ℕ
    there = limit_of_row (limit_at places l)

    limit_same : tree_limit trees here ≡ tree_limit us there
    limit_same =
        ap (λ ms. limit ms l.most) (same_trees (multiples l) h.multiples_are)
        ∙ ap (λ (ms : List Multiple). limit (tree_multiples us (multiples_of ms)) l.most) (sym (multiples_at l))

    pub stays_same : limit_stays trees here ≡ limit_stays us there
    stays_same =
        stays_by_trees trees here
        ∙ stays_renamed (first_at facts) (ascends ds hs ns places us facts filed) trees us (tree_limit trees here) (are_renamed (multiples l) h.multiples_are)
        ∙ ap (tree_limit_stays us) limit_same ∙ sym (stays_by_trees us there)

    atom_same : limit_atom (place_form trees) here ≡ renamed_bound (first_at facts) (limit_atom (place_form us) there)
    atom_same =
        atom_by_trees trees here
        ∙ atom_renamed (first_at facts) (ascends ds hs ns places us facts filed) trees us (tree_limit trees here) (are_renamed (multiples l) h.multiples_are)
        ∙ ap (λ x. renamed_bound (first_at facts) (limit_atom (linear_form us) x)) limit_same ∙ ap (renamed_bound (first_at facts)) (sym (atom_by_trees us there))

    pub limit_lifted : (sum : List Summand) (k : ℤ) → IsRenamedBound facts (limit_stays us there) (limit_atom (place_form us) there) sum k
        → (limit_stays trees here ≡ true) × IsBoundOf (limit_atom (place_form trees) here) sum k
    limit_lifted sum k r = (stays_same ∙ r.fits, record { atom = r.atom ∙ sym atom_same; coefficients = r.coefficients; in_range = r.in_range })
