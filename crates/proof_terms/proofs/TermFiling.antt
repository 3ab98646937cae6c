-- What is kept of a term follows from what is kept of its arguments, and goes on when terms join.
use Rattle.std.proofs.Common.{◌≡◌, ◌⊎◌, inl, inr, ℕ, suc, ◌+◌, ◌<◌, ◌≤◌, ◌^◌, Bool, true, false, ◌&&◌, List, [], ◌∷◌, ◌++◌, length, get_or, All, refl, ap, sym, subst, ◌∙◌, arith}
use Rattle.std.specs.Prelude.{Option, Some, None, if◌then◌else◌, slice_index}
use Rattle.std.proofs.lemmas.Bool.{cases_lt}
use Rattle.std.proofs.lemmas.List.{get_or_append_left, length_push, get_or_push, get_or_default}
use Rattle.std.proofs.lemmas.List.Elements.{All-nil, All-cons, All-head, All-tail}
use Rattle.smt_meaning.specs.declared.terms.Head.{Head}
use Rattle.smt_meaning.specs.declared.terms.Head.TheVariants.{Numeral, Theory, Symbol, Place}
use Rattle.smt_meaning.specs.declared.terms.Operator.TheVariants.{Multiply, Divide, Modulo, Divisible}
use Rattle.smt_meaning.specs.declared.nodes.Node.{Node}
use Rattle.smt_meaning.specs.Declaration.{Declaration}
use Rattle.smt_meaning.specs.Term.{Tree, Trees, node, none, more, tree_at}
use Rattle.smt_meaning.specs.TreeShape.{tree_eq, place_of, is_constant_head, is_constant, are_constant, at_most_one_varies}
use Rattle.smt_meaning.specs.Signature.{cons_sort}
use Rattle.smt_meaning.specs.Nodes.{pick, tree_of, trees_of}
use Rattle.proof_meaning.specs.Proof.{IsTerm, AreTerms, next_term, written_sort, with_term_sorts, term_sort, term_sorts, is_linear_with, is_linear_term, are_linear_terms, meant, meant_at, all_meant}
use Rattle.smt_laws.proofs.SameTree.{tree_eq-true, tree_eq-self}
use Rattle.smt_laws.proofs.Both.{and_both}
use Rattle.term_store.specs.Terms.{IsPlace, IsNew, AreComplete}
use Rattle.term_store.proofs.NodeLemmas.{trees_of-push, length-trees_of, AreDifferent-push}
use Rattle.proof_terms.specs.declared.terms_facts.Fact.{Fact}
use Rattle.proof_terms.specs.TermFacts.{fact_past, fact_at, facts_at, places_at, sorts_of, all_constant, one_varies, is_linear_here, divides_at, with_held, held_of, IsHeldAt, IsFact}
use Rattle.proof_terms.specs.TermTable.{IsHeldPlace, AreFiled, IsInterned}
use Rattle.proof_terms.proofs.TermHeldLemmas.{AllAmong, meant_among, not_among_new}

-- ---- of each of some trees a fact is kept

abbrev pub AreFactsOf : List Declaration → List Tree → List Tree → Trees → List Fact → Type 0
AreFactsOf ds hs ts none [] = Unit {0}
AreFactsOf ds hs ts (more v vs) (f ∷ fs) = IsFact ds hs ts v f × AreFactsOf ds hs ts vs fs
AreFactsOf ds hs ts _ _ = ⊥

module _ (ds : List Declaration) (hs ts : List Tree) where
  sorts_are : (vs : Trees) (fs : List Fact) → AreFactsOf ds hs ts vs fs → term_sorts ds vs ≡ Some (sorts_of fs)
  sorts_are none [] a = refl
  sorts_are none (f ∷ fs) a = absurd a
  sorts_are (more v vs) [] a = absurd a
  sorts_are (more v vs) (f ∷ fs) a = ap (λ o. cons_sort o (term_sorts ds vs)) a.0.sort ∙ ap (cons_sort (Some f.sort)) (sorts_are vs fs a.1)

  constant_are : (vs : Trees) (fs : List Fact) → AreFactsOf ds hs ts vs fs → are_constant vs ≡ all_constant fs
  constant_are none [] a = refl
  constant_are none (f ∷ fs) a = absurd a
  constant_are (more v vs) [] a = absurd a
  constant_are (more v vs) (f ∷ fs) a = ap (λ b. b && are_constant vs) a.0.constant ∙ ap (λ b. f.constant && b) (constant_are vs fs a.1)

  one_varies_is : (vs : Trees) (fs : List Fact) → AreFactsOf ds hs ts vs fs → at_most_one_varies vs ≡ one_varies fs
  one_varies_is none [] a = refl
  one_varies_is none (f ∷ fs) a = absurd a
  one_varies_is (more v vs) [] a = absurd a
  one_varies_is (more v vs) (f ∷ fs) a =
      ap (λ b. if b then at_most_one_varies vs else are_constant vs) a.0.constant
      ∙ ap (λ b. if f.constant then b else are_constant vs) (one_varies_is vs fs a.1)
      ∙ ap (λ b. if f.constant then one_varies fs else b) (constant_are vs fs a.1)

  linear_are : (vs : Trees) (fs : List Fact) → AreFactsOf ds hs ts vs fs → are_linear_terms vs ≡ true
  linear_are none [] a = refl
  linear_are none (f ∷ fs) a = absurd a
  linear_are (more v vs) [] a = absurd a
  linear_are (more v vs) (f ∷ fs) a = and_both (is_linear_term v) (are_linear_terms vs) a.0.linear (linear_are vs fs a.1)

  with_true : (b : Bool) → b ≡ (b && true)
  with_true true = refl
  with_true false = refl

  linear_here_is : (h : Head) (vs : Trees) (fs : List Fact) → AreFactsOf ds hs ts vs fs → is_linear_with h vs ≡ (is_linear_here h fs && divides_at h vs)
  linear_here_is (Theory Multiply) vs fs a = one_varies_is vs fs a ∙ with_true (one_varies fs)
  linear_here_is (Theory Divide) none fs a = refl
  linear_here_is (Theory Divide) (more v vs) fs a = refl
  linear_here_is (Theory Modulo) none fs a = refl
  linear_here_is (Theory Modulo) (more v vs) fs a = refl
  linear_here_is (Theory Divisible) none fs a = refl
  linear_here_is (Theory Divisible) (more v vs) fs a = refl
  linear_here_is (Theory o) vs fs a = refl
  linear_here_is (Numeral n) none fs a = refl
  linear_here_is (Numeral n) (more v vs) fs a = refl
  linear_here_is (Symbol f) vs fs a = refl
  linear_here_is (Place k) vs fs a = refl

  -- the places among the stack's terms of those for which the arguments stand: one of them has none, or these are the places
  abbrev HaveHeld : Trees → Option (List ℕ) → Type 0
  HaveHeld vs None = AllAmong hs (all_meant vs) → ⊥
  HaveHeld vs (Some is) = (pick hs is ≡ all_meant vs) × All (λ i. i < length hs) is

  have_held_more : (v : Tree) (vs : Trees) (o : Option ℕ) (os : Option (List ℕ)) → IsHeldAt hs (meant v) o → HaveHeld vs os → HaveHeld (more v vs) (with_held o os)
  have_held_more v vs None os a b = λ all. not_among_new hs (meant v) a all.0
  have_held_more v vs (Some i) None a b = λ all. b all.1
  have_held_more v vs (Some i) (Some is) a b = (ap (λ t. more t (pick hs is)) a.1 ∙ ap (more (meant v)) b.0, All-cons (λ j. j < length hs) i is a.0 b.1)

  have_held : (vs : Trees) (fs : List Fact) → AreFactsOf ds hs ts vs fs → HaveHeld vs (held_of fs)
  have_held none [] a = (refl, All-nil (λ i. i < length hs))
  have_held none (f ∷ fs) a = absurd a
  have_held (more v vs) [] a = absurd a
  have_held (more v vs) (f ∷ fs) a = have_held_more v vs f.held (held_of fs) a.0.held (have_held vs fs a.1)

  module _ (h : Head) (vs : Trees) (fs : List Fact) (a : AreFactsOf ds hs ts vs fs) where
    pub sort_is : term_sort ds (node h vs) ≡ written_sort ds h (sorts_of fs)
    sort_is = ap (with_term_sorts ds h) (sorts_are vs fs a)

    pub constant_is : is_constant (node h vs) ≡ (is_constant_head h && all_constant fs)
    constant_is = ap (λ b. is_constant_head h && b) (constant_are vs fs a)

    pub linear_is : is_linear_term (node h vs) ≡ (is_linear_here h fs && divides_at h vs)
    linear_is = ap (λ b. is_linear_with h vs && b) (linear_are vs fs a) ∙ sym (with_true (is_linear_with h vs)) ∙ linear_here_is h vs fs a

    pub held_within : (is : List ℕ) → held_of fs ≡ Some is → All (λ i. i < length hs) is
    held_within is e = (subst (HaveHeld vs) e (have_held vs fs a)).1

    pub held_is : (o : Option ℕ) → AreComplete hs → IsHeldPlace hs h (held_of fs) o → IsHeldAt hs (meant (node h vs)) o
    held_is o complete p = by (held_of fs) (have_held vs fs a) p
      where
        by : (os : Option (List ℕ)) → HaveHeld vs os → IsHeldPlace hs h os o → IsHeldAt hs (meant (node h vs)) o
        by None not_all e =
            subst (IsHeldAt hs (meant (node h vs))) (sym e) (λ i less at. not_all (meant_among hs h (all_meant vs) i complete (less, at)))
        by (Some is) there q = subst (λ us. IsHeldAt hs (meant_at h us) o) there.0 q

-- ---- places in a list that grows

pub place_kept : (u t : Tree) (ts : List Tree) → place_of u ts < length ts → place_of u (ts ++ t ∷ []) ≡ place_of u ts
place_kept u t [] h = absurd (omega arith)
place_kept u t (x ∷ ts) h = by (tree_eq u x) h (place_kept u t ts)
  where
    by : (b : Bool) → (if b then 0 else suc (place_of u ts)) < length (x ∷ ts) → (place_of u ts < length ts → place_of u (ts ++ t ∷ []) ≡ place_of u ts)
        → (if b then 0 else suc (place_of u (ts ++ t ∷ []))) ≡ (if b then 0 else suc (place_of u ts))
    by true k rest = refl
    by false k rest = ap suc (rest (omega arith))

pub place_last : (t : Tree) (ts : List Tree) → IsNew ts t → place_of t (ts ++ t ∷ []) ≡ length ts
place_last t [] new = ap (λ b. if b then 0 else 1) (tree_eq-self t)
place_last t (x ∷ ts) new = by (tree_eq t x) refl (place_last t ts (λ i less e. new (suc i) (omega arith) e))
  where
    by : (b : Bool) → tree_eq t x ≡ b → place_of t (ts ++ t ∷ []) ≡ length ts → (if b then 0 else suc (place_of t (ts ++ t ∷ []))) ≡ suc (length ts)
    by true e rest = absurd (new 0 (omega arith) (sym (tree_eq-true t x e)))
    by false e rest = ap suc rest

fact_kept : (ds : List Declaration) (hs ts : List Tree) (t u : Tree) (f : Fact) → IsFact ds hs ts u f → IsFact ds hs (ts ++ t ∷ []) u f
fact_kept ds hs ts t u f k =
    let first = k.first in
    let within = k.within in
    record {
      sort = k.sort;
      constant = k.constant;
      linear = k.linear;
      first = place_kept u t ts (omega arith) ∙ k.first;
      within = omega (arith, length_push ts t);
      held = k.held;
    }

-- ---- the terms, and one more

module _ (ds : List Declaration) (hs : List Tree) (ns : List Node) (places : List ℕ) (us : List Tree) (facts : List Fact) (filed : AreFiled ds hs ns places us facts) where
  abbrev trees : List Tree
  trees = trees_of ns

  pub place_within : (i : ℕ) → i < length ns → slice_index places i < length us
  place_within i h = (filed.placed i h).0

  pub places_below : All (λ p. p < length facts) places
  places_below k d h =
      let count = filed.places_count in
      let facts_count = filed.facts_count in
      let less : slice_index places k < length us = place_within k (omega arith) in
      let e : get_or places k d ≡ slice_index places k = get_or_default places k d 0 h in
      omega arith

  pub picked : (is : List ℕ) → All (λ i. i < length ns) is → pick us (places_at places is) ≡ pick trees is
  picked [] a = refl
  picked (i ∷ is) a =
      let at = filed.placed i (All-head (λ j. j < length ns) i is a) in
      ap (λ t. more t (pick us (places_at places is))) at.1 ∙ ap (more (tree_at trees i)) (picked is (All-tail (λ j. j < length ns) i is a))

  pub gathered_below : (is : List ℕ) → All (λ i. i < length ns) is → All (λ p. p < length us) (places_at places is)
  gathered_below [] a = All-nil (λ p. p < length us)
  gathered_below (i ∷ is) a =
      All-cons (λ p. p < length us) (slice_index places i) (places_at places is) (place_within i (All-head (λ j. j < length ns) i is a)) (gathered_below is (All-tail (λ j. j < length ns) i is a))

  pub gathered : (is : List ℕ) → All (λ i. i < length ns) is → AreFactsOf ds hs trees (pick trees is) (facts_at facts (places_at places is))
  gathered [] a = tt
  gathered (i ∷ is) a =
      let at = filed.placed i (All-head (λ j. j < length ns) i is a) in
      (subst (λ t. IsFact ds hs trees t (fact_at facts (slice_index places i))) at.1 (filed.each (slice_index places i) at.0), gathered is (All-tail (λ j. j < length ns) i is a))

  pub trees_count : length trees ≡ length ns
  trees_count = length-trees_of ns

  pub fact_of : (i : ℕ) → i < length ns → IsFact ds hs trees (tree_at trees i) (fact_at facts (slice_index places i))
  fact_of i h = let at = filed.placed i h in subst (λ t. IsFact ds hs trees t (fact_at facts (slice_index places i))) at.1 (filed.each (slice_index places i) at.0)

  module _ (n : Node) (term : IsTerm ds trees n) (room : length ns + 1 < 2 ^ 32) where
    abbrev tree : Tree
    tree = tree_of trees n

    more_trees : trees_of (ns ++ n ∷ []) ≡ trees ++ tree ∷ []
    more_trees = trees_of-push ns n

    more_terms : AreTerms ds (ns ++ n ∷ []) (trees_of (ns ++ n ∷ []))
    more_terms = subst (AreTerms ds (ns ++ n ∷ [])) (sym more_trees) (next_term filed.terms n term)

    -- each term is at the place of its tree, where the new one is too
    module _ (p : ℕ) (vs : List Tree) (longer : (i : ℕ) → i < length us → (i < length vs) × (tree_at vs i ≡ tree_at us i)) (here : IsPlace vs p tree) where
      more_placed : (i : ℕ) → i < length (ns ++ n ∷ []) → IsPlace vs (slice_index (places ++ p ∷ []) i) (tree_at (trees_of (ns ++ n ∷ [])) i)
      more_placed i h = subst (λ ts. IsPlace vs (slice_index (places ++ p ∷ []) i) (tree_at ts i)) (sym more_trees) (by (cases_lt i (length ns)))
        where
          by : (i < length ns) ⊎ (length ns ≤ i) → IsPlace vs (slice_index (places ++ p ∷ []) i) (tree_at (trees ++ tree ∷ []) i)
          by (inl less) =
              let count = filed.places_count in
              let at = filed.placed i less in
              let kept = longer (slice_index places i) at.0 in
              subst (λ q. IsPlace vs q (tree_at (trees ++ tree ∷ []) i)) (sym (get_or_append_left places (p ∷ []) 0 i (omega arith)))
              (kept.0, kept.1 ∙ at.1 ∙ sym (get_or_append_left trees (tree ∷ []) _ i (omega (arith, trees_count))))
          by (inr from) =
              let count = filed.places_count in
              let last : length ns ≡ i = omega (arith, length_push ns n) in
              subst (λ q. IsPlace vs q (tree_at (trees ++ tree ∷ []) i)) (sym (get_or_push places p 0 i (count ∙ last)))
              (here.0, here.1 ∙ sym (get_or_push trees tree _ i (trees_count ∙ last)))

    pub filed_old : (p : ℕ) → IsPlace us p tree → AreFiled ds hs (ns ++ n ∷ []) (places ++ p ∷ []) us facts
    filed_old p at = record {
      terms = more_terms;
      few = omega (arith, length_push ns n);
      places_count = length_push places p ∙ ap (λ k. k + 1) filed.places_count ∙ sym (length_push ns n);
      placed = more_placed p us (λ i h. (h, refl)) at;
      different = filed.different;
      facts_count = filed.facts_count;
      each = λ q h. subst (λ ts. IsFact ds hs ts (tree_at us q) (fact_at facts q)) (sym more_trees) (fact_kept ds hs trees tree (tree_at us q) (fact_at facts q) (filed.each q h));
      ascending = filed.ascending;
    }

    module _ (f : Fact) (sort : term_sort ds tree ≡ Some f.sort) (constant : is_constant tree ≡ f.constant) (first : f.first ≡ length ns)
        (held : IsHeldAt hs (meant tree) f.held) where
      module _ (new : IsNew us tree) where
        not_before : IsNew trees tree
        not_before i less e =
            let at = filed.placed i (omega (arith, trees_count)) in
            new (slice_index places i) at.0 (at.1 ∙ e)

        new_fact : IsFact ds hs (trees ++ tree ∷ []) tree f
        new_fact = record {
          sort = sort;
          constant = constant;
          linear = term.linear;
          first = place_last tree trees not_before ∙ trees_count ∙ sym first;
          within = omega (arith, length_push trees tree, trees_count);
          held = held;
        }

        each_of : (q : ℕ) → (q < length us) ⊎ (length us ≤ q) → q < length (us ++ tree ∷ []) → IsFact ds hs (trees ++ tree ∷ []) (tree_at (us ++ tree ∷ []) q) (fact_at (facts ++ f ∷ []) q)
        each_of q (inl less) h =
            let count = filed.facts_count in
            subst (λ t. IsFact ds hs (trees ++ tree ∷ []) t (fact_at (facts ++ f ∷ []) q)) (sym (get_or_append_left us (tree ∷ []) _ q less))
            (subst (IsFact ds hs (trees ++ tree ∷ []) (tree_at us q)) (sym (get_or_append_left facts (f ∷ []) _ q (omega arith))) (fact_kept ds hs trees tree (tree_at us q) (fact_at facts q) (filed.each q less)))
        each_of q (inr from) h =
            let last : length us ≡ q = omega (arith, length_push us tree) in
            subst (λ t. IsFact ds hs (trees ++ tree ∷ []) t (fact_at (facts ++ f ∷ []) q)) (sym (get_or_push us tree _ q last))
            (subst (IsFact ds hs (trees ++ tree ∷ []) tree) (sym (get_or_push facts f _ q (filed.facts_count ∙ last))) new_fact)

        ascending_to : (p q : ℕ) → p < q → (q < length us) ⊎ (length us ≤ q) → q < length (us ++ tree ∷ []) → (fact_at (facts ++ f ∷ []) p).first < (fact_at (facts ++ f ∷ []) q).first
        ascending_to p q less (inl before) h =
            let count = filed.facts_count in
            rw (get_or_append_left facts (f ∷ []) (fact_past p) p (omega arith), get_or_append_left facts (f ∷ []) (fact_past q) q (omega arith)) (filed.ascending p q less before)
        ascending_to p q less (inr from) h =
            let count = filed.facts_count in
            let last : length us ≡ q = omega (arith, length_push us tree) in
            let within = (filed.each p (omega arith)).within in
            rw (get_or_append_left facts (f ∷ []) (fact_past p) p (omega arith), get_or_push facts f (fact_past q) q (count ∙ last)) (omega (arith, trees_count))

        pub filed_new : (p : ℕ) → p ≡ length us → AreFiled ds hs (ns ++ n ∷ []) (places ++ p ∷ []) (us ++ tree ∷ []) (facts ++ f ∷ [])
        filed_new p last = record {
          terms = more_terms;
          few = omega (arith, length_push ns n);
          places_count = length_push places p ∙ ap (λ k. k + 1) filed.places_count ∙ sym (length_push ns n);
          placed =
              more_placed p (us ++ tree ∷ []) (λ i h. (omega (arith, length_push us tree), get_or_append_left us (tree ∷ []) _ i h))
              (omega (arith, length_push us tree), get_or_push us tree _ p (sym last));
          different = AreDifferent-push us tree filed.different new;
          facts_count = length_push facts f ∙ ap (λ k. k + 1) filed.facts_count ∙ sym (length_push us tree);
          each = λ q h. subst (λ ts. IsFact ds hs ts (tree_at (us ++ tree ∷ []) q) (fact_at (facts ++ f ∷ []) q)) (sym more_trees) (each_of q (cases_lt q (length us)) h);
          ascending = λ a b less h. ascending_to a b less (cases_lt b (length us)) h;
        }

      pub filed_more : (p : ℕ) (vs : List Tree) (new_facts : List Fact) → IsInterned us facts vs new_facts tree f p → AreFiled ds hs (ns ++ n ∷ []) (places ++ p ∷ []) vs new_facts
      filed_more p vs new_facts (inl i) = subst (λ ts. AreFiled ds hs (ns ++ n ∷ []) (places ++ p ∷ []) ts new_facts) (sym i.1) (subst (AreFiled ds hs (ns ++ n ∷ []) (places ++ p ∷ []) us) (sym i.2) (filed_old p i.0))
      filed_more p vs new_facts (inr i) =
          subst (λ ts. AreFiled ds hs (ns ++ n ∷ []) (places ++ p ∷ []) ts new_facts) (sym i.2) (subst (AreFiled ds hs (ns ++ n ∷ []) (places ++ p ∷ []) (us ++ tree ∷ [])) (sym i.3) (filed_new i.0 p i.1))
