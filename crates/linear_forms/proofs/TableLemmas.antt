-- What is known of one term more.
use Rattle.std.proofs.Common.{◌≡◌, ◌⊎◌, inl, inr, ℕ, suc, ◌+◌, ◌-◌, ◌<◌, ◌≤◌, true, false, ◌&&◌, List, [], ◌∷◌, ◌++◌, length, get_or, take, drop, All, Option, Some, None, Result, Ok, Err, subst, sym, ap, ◌∙◌, refl, arith}
use Rattle.std.specs.Prelude.{ℤ, slice_range, MatchOption, OnOk, OnErr}
use Rattle.std.proofs.lemmas.Bool.{cases_lt}
use Rattle.std.proofs.lemmas.List.{length-map, map-append, length_push, get_or_push, get_or_append_left, length-append, length-drop, take-append-le, drop-append-le, drop_at, take_all}
use Rattle.std.proofs.lemmas.List.Elements.{All-head, All-tail}
use Rattle.smt_laws.proofs.Both.{and_both}
use Rattle.smt_meaning.specs.declared.clauses.Summand.{Summand}
use Rattle.smt_meaning.specs.declared.terms.Head.{Head}
use Rattle.smt_meaning.specs.Term.{Tree, tree_at}
use Rattle.smt_meaning.specs.Linear.{Form, head_form, head_folding_fits, folding_fits}
use Rattle.term_store.specs.Terms.{tree_with, AreDifferent}
use Rattle.linear_forms.specs.declared.entries.Entry.{Entry}
use Rattle.linear_forms.specs.Folding.{form_of, leaf_at, IsFolded}
use Rattle.linear_forms.specs.Table.{Known, known_at, nothing_known, IsOutside, HasForm, IsKnown, IsLinked, AreFormsTo}
use Rattle.linear_forms.specs.Entries.{known_of, knowns, AreLaid, forms_at, AreSums, HasOutside, IsFoldedNext}
use Rattle.linear_forms.proofs.SumLemmas.{to_higher}
use Rattle.linear_forms.proofs.Unfolding.{forms_in, all_fit, form_unfolds, fits_unfolds, outside_here, part_of_argument, part_of_itself, unfit_argument}

-- ---- the list of summands

range-append : (xs ys : List Summand) (i j : ℕ) → i ≤ j → j ≤ length xs → slice_range (xs ++ ys) i j ≡ slice_range xs i j
range-append xs ys i j o h = ap (take (j - i)) (drop-append-le i xs ys (omega arith)) ∙ take-append-le (j - i) (drop i xs) ys (omega (arith, length-drop i xs))

range-behind : (xs ys : List Summand) (i j : ℕ) → i ≡ length xs → j ≡ length (xs ++ ys) → slice_range (xs ++ ys) i j ≡ ys
range-behind xs ys i j e f =
    ap (λ k. take (j - k) (drop k (xs ++ ys))) e ∙ ap (take (j - length xs)) (drop_at xs ys (length xs) refl) ∙ take_all (j - length xs) ys (omega (arith, length-append xs ys))

laid_tail : (size : ℕ) (e : Entry) (es : List Entry) → AreLaid size (e ∷ es) → AreLaid size es
laid_tail size e es l = record { starts = λ k d h. l.starts (suc k) d (omega arith); ends = λ k d h. l.ends (suc k) d (omega arith) }

pub knowns-append : (all more : List Summand) (es : List Entry) → AreLaid (length all) es → knowns (all ++ more) es ≡ knowns all es
knowns-append all more [] l = refl
knowns-append all more (e ∷ es) l =
    ap (λ (ps : List Summand). let k : Known = record { form = form_of ps e.constant; outside = e.outside } in k ∷ knowns (all ++ more) es) (range-append all more e.start e.end (l.starts 0 e (omega arith)) (l.ends 0 e (omega arith)))
    ∙ ap (λ ks. known_of all e ∷ ks) (knowns-append all more es (laid_tail (length all) e es l))

pub laid_larger : (size larger : ℕ) (es : List Entry) → size ≤ larger → AreLaid size es → AreLaid larger es
laid_larger size larger es h l = record { starts = l.starts; ends = λ k d m. (let a = l.ends k d m in omega arith) }

module _ (all : List Summand) (es : List Entry) (laid : AreLaid (length all) es) (sum : List Summand) (constant : ℤ) (outside : Option ℕ) (more : List Summand) (e : more ≡ all ++ sum) where
  last : Entry
  last = record { start = length all; end = length more; constant = constant; outside = outside }

  size : length more ≡ length all + length sum
  size = ap length e ∙ length-append all sum

  pub laid_push : (fs : List Entry) → fs ≡ es ++ record { start = length all; end = length more; constant = constant; outside = outside } ∷ [] → AreLaid (length more) fs
  unfolding last
  laid_push fs f = subst (AreLaid (length more)) (sym f) (record { starts = λ k d h. start_at k d h (cases_lt k (length es)); ends = λ k d h. end_at k d h (cases_lt k (length es)) })
    where
      start_at : (k : ℕ) (d : Entry) → k < length (es ++ last ∷ []) → (k < length es) ⊎ (length es ≤ k) → (get_or (es ++ last ∷ []) k d).start ≤ (get_or (es ++ last ∷ []) k d).end
      start_at k d h (inl less) = rw (get_or_append_left es (last ∷ []) d k less) (laid.starts k d less)
      start_at k d h (inr from) = let here : length es ≡ k = omega (arith, length_push es last) in rw (get_or_push es last d k here) (omega (arith, size))

      end_at : (k : ℕ) (d : Entry) → k < length (es ++ last ∷ []) → (k < length es) ⊎ (length es ≤ k) → (get_or (es ++ last ∷ []) k d).end ≤ length more
      end_at k d h (inl less) = rw (get_or_append_left es (last ∷ []) d k less) (let l = laid.ends k d less in omega (arith, size))
      end_at k d h (inr from) = let here : length es ≡ k = omega (arith, length_push es last) in rw (get_or_push es last d k here) (omega arith)

  pub knowns_push : (fs : List Entry) → fs ≡ es ++ record { start = length all; end = length more; constant = constant; outside = outside } ∷ []
      → knowns more fs ≡ knowns all es ++ record { form = form_of sum constant; outside = outside } ∷ []
  knowns_push fs f =
      ap (knowns more) f ∙ map-append (known_of more) es (record { start = length all; end = length more; constant = constant; outside = outside } ∷ [])
      ∙ ap (λ (ks : List Known). ks ++ record { form = form_of (slice_range more (length all) (length more)) constant; outside = outside } ∷ []) (ap (λ x. knowns x es) e ∙ knowns-append all sum es laid)
      ∙ ap (λ (ps : List Summand). knowns all es ++ record { form = form_of ps constant; outside = outside } ∷ [])
      (ap (λ x. slice_range x (length all) (length more)) e ∙ range-behind all sum (length all) (length more) refl (ap length e))

pub length-knowns : (all : List Summand) (es : List Entry) → length (knowns all es) ≡ length es
length-knowns all es = length-map es (known_of all)

-- ---- one term more

pub forms_push : (ts : List Tree) (n : ℕ) (known new : List Known) (k : Known) → AreFormsTo ts n known → new ≡ known ++ k ∷ [] → IsLinked ts n → IsKnown ts n k → AreFormsTo ts (n + 1) new
forms_push ts n known new k f e l h = subst (AreFormsTo ts (n + 1)) (sym e) (record {
  size = length_push known k ∙ ap (λ m. m + 1) f.size;
  linked = λ j less. linked j less (cases_lt j n);
  each = λ j less. each j less (cases_lt j n);
})
  where
    linked : (j : ℕ) → j < n + 1 → (j < n) ⊎ (n ≤ j) → IsLinked ts j
    linked j less (inl before) = f.linked j before
    linked j less (inr from) = let here : n ≡ j = omega arith in subst (IsLinked ts) here l

    each : (j : ℕ) → j < n + 1 → (j < n) ⊎ (n ≤ j) → IsKnown ts j (known_at (known ++ k ∷ []) j)
    each j less (inl before) = let s = f.size in subst (IsKnown ts j) (sym (get_or_append_left known (k ∷ []) nothing_known j (omega arith))) (f.each j before)
    each j less (inr from) =
        let here : n ≡ j = omega arith in
        subst (IsKnown ts j) (sym (get_or_push known k nothing_known j (f.size ∙ here))) (subst (λ i. IsKnown ts i k) here h)

module _ (ts : List Tree) (place : ℕ) (known : List Known) (forms : AreFormsTo ts place known) where
  pub known_form : (i : ℕ) → i < place → (known_at known i).outside ≡ None → HasForm ts i (known_at known i).form
  known_form i h e = subst (λ o. MatchOption o (HasForm ts i (known_at known i).form) (IsOutside ts i)) e (forms.each i h)

  pub known_outside : (i p : ℕ) → i < place → (known_at known i).outside ≡ Some p → IsOutside ts i p
  known_outside i p h e = subst (λ o. MatchOption o (HasForm ts i (known_at known i).form) (IsOutside ts i)) e (forms.each i h)

  pub argument_sums : (is : List ℕ) → All (λ i. i < place) is → All (λ i. (known_at known i).outside ≡ None) is → AreSums place known is
  argument_sums is a b k d h =
      let i : ℕ = get_or is k d in
      let less : i < place = a k d h in
      let f : HasForm ts i (known_at known i).form = known_form i less (b k d h) in
      to_higher 0 (i + 1) place (known_at known i).form.sum (omega arith) f.is_sum

  pub argument_forms : (is : List ℕ) → All (λ i. i < place) is → All (λ i. (known_at known i).outside ≡ None) is → forms_in ts is ≡ forms_at known is
  argument_forms [] a b = refl
  argument_forms (i ∷ is) a b =
      let f : HasForm ts i (known_at known i).form = known_form i (All-head (λ j. j < place) i is a) (All-head (λ j. (known_at known j).outside ≡ None) i is b) in
      ap (λ x. x ∷ forms_in ts is) f.form ∙ ap (λ xs. (known_at known i).form ∷ xs) (argument_forms is (All-tail (λ j. j < place) i is a) (All-tail (λ j. (known_at known j).outside ≡ None) i is b))

  pub argument_fits : (is : List ℕ) → All (λ i. i < place) is → All (λ i. (known_at known i).outside ≡ None) is → all_fit ts is ≡ true
  argument_fits [] a b = refl
  argument_fits (i ∷ is) a b =
      let f : HasForm ts i (known_at known i).form = known_form i (All-head (λ j. j < place) i is a) (All-head (λ j. (known_at known j).outside ≡ None) i is b) in
      and_both (folding_fits ts (tree_at ts i)) (all_fit ts is) f.fits (argument_fits is (All-tail (λ j. j < place) i is a) (All-tail (λ j. (known_at known j).outside ≡ None) i is b))

  module _ (different : AreDifferent ts) (inside : place < length ts) (h : Head) (is : List ℕ) (tree : tree_at ts place ≡ tree_with ts h is) (earlier : All (λ i. i < place) is) where
    linked_here : IsLinked ts place
    linked_here = record { head = h; arguments = is; tree = tree; earlier = earlier }

    outside_known : (part : ℕ) → HasOutside known is part → IsOutside ts place part
    outside_known part o =
        let i : ℕ = get_or is o.index 0 in
        let less : i < place = earlier o.index 0 o.within in
        let q : IsOutside ts i part = known_outside i part less o.here in
        let before = q.before in
        record {
          unfit = fits_unfolds ts place h is different inside tree ∙ ap (λ b. b && head_folding_fits h (forms_in ts is)) (unfit_argument ts is o.index o.within q.unfit);
          is_part = part_of_argument ts place h is different inside tree (tree_at ts part) o.index o.within q.is_part;
          before = omega arith;
          own = q.own;
        }

    pub outside_next : (part : ℕ) (k : Known) (new : List Known) → HasOutside known is part → k.outside ≡ Some part → new ≡ known ++ k ∷ [] → AreFormsTo ts (place + 1) new
    outside_next part k new o e f =
        forms_push ts place known new k forms f linked_here (subst (λ x. MatchOption x (HasForm ts place k.form) (IsOutside ts place)) (sym e) (outside_known part o))

    module _ (inner : All (λ i. (known_at known i).outside ≡ None) is) where
      folded_form : (f : Form) → IsFolded h (forms_at known is) place f → HasForm ts place f
      folded_form f g = record {
        fits = fits_unfolds ts place h is different inside tree ∙ ap (λ fs. all_fit ts is && head_folding_fits h fs) (argument_forms is earlier inner) ∙ and_both (all_fit ts is) (head_folding_fits h (forms_at known is)) (argument_fits is earlier inner) g.fits;
        form = form_unfolds ts place h is different inside tree ∙ ap (λ fs. head_form h fs (leaf_at place)) (argument_forms is earlier inner) ∙ sym g.whole;
        is_sum = g.is_sum;
        ranges = g.ranges;
      }

      folded_outside : head_folding_fits h (forms_at known is) ≡ false → IsOutside ts place place
      folded_outside e =
          let unfit : head_folding_fits h (forms_in ts is) ≡ false = ap (head_folding_fits h) (argument_forms is earlier inner) ∙ e in
          record {
            unfit = fits_unfolds ts place h is different inside tree ∙ ap (λ b. all_fit ts is && b) unfit ∙ ap (λ b. b && false) (argument_fits is earlier inner);
            is_part = part_of_itself (tree_at ts place);
            before = omega arith;
            own = outside_here ts place h is different inside tree (argument_fits is earlier inner) unfit;
          }

      folded_known : (k : Known) → MatchOption k.outside (IsFolded h (forms_at known is) place k.form) (λ p. (p ≡ place) × (head_folding_fits h (forms_at known is) ≡ false)) → IsKnown ts place k
      folded_known k m = by k.outside m
        where
          by : (o : Option ℕ) → MatchOption o (IsFolded h (forms_at known is) place k.form) (λ p. (p ≡ place) × (head_folding_fits h (forms_at known is) ≡ false)) → MatchOption o (HasForm ts place k.form) (IsOutside ts place)
          by None g = folded_form k.form g
          by (Some p) g = subst (IsOutside ts place) (sym g.0) (folded_outside g.1)

      pub folded_next : (new : List Known) → IsFoldedNext known new h is place → AreFormsTo ts (place + 1) new
      folded_next new n = forms_push ts place known new n.next forms n.added linked_here (folded_known n.next n.folded)

-- ---- after a call that may want memory

pub of_two : {T E : Type 0} (r : Result T E) (A B C : Type 0) → OnOk r A → OnOk r B → (A → B → C) → OnOk r C
of_two (Ok x) A B C a b f = f a b
of_two (Err e) A B C a b f = tt

pub either_way : {T E : Type 0} (r : Result T E) (A B C D : Type 0) → OnOk r A → OnOk r B → OnErr r C → (A → B → D) → (C → D) → D
either_way (Ok x) A B C D a b c f g = f a b
either_way (Err e) A B C D a b c f g = g c

pub on_ok : {T E : Type 0} (r : Result T E) (A B : Type 0) → OnOk r A → (A → B) → OnOk r B
on_ok (Ok x) A B a f = f a
on_ok (Err e) A B a f = tt

pub on_err : {T E : Type 0} (r : Result T E) (A B : Type 0) → OnErr r A → (A → B) → OnErr r B
on_err (Ok x) A B a f = tt
on_err (Err e) A B a f = f a

pub folded_ok : (known seen new : List Known) (h : Head) (is : List ℕ) (place : ℕ) (made kept : List Summand) (n : ℤ) → seen ≡ known → kept ≡ made → IsFolded h (forms_at seen is) place (form_of made n)
    → new ≡ known ++ record { form = form_of kept n; outside = None } ∷ [] → IsFoldedNext known new h is place
folded_ok known seen new h is place made kept n e s f g = record {
  next = record { form = form_of kept n; outside = None };
  added = g;
  folded = subst (λ ps. IsFolded h (forms_at known is) place (form_of ps n)) (sym s) (subst (λ ks. IsFolded h (forms_at ks is) place (form_of made n)) e f);
}

pub folded_err : (known seen new : List Known) (h : Head) (is : List ℕ) (place : ℕ) (f : Form) → seen ≡ known → head_folding_fits h (forms_at seen is) ≡ false
    → new ≡ known ++ record { form = f; outside = Some place } ∷ [] → IsFoldedNext known new h is place
folded_err known seen new h is place f e u g = record {
  next = record { form = f; outside = Some place };
  added = g;
  folded = (refl, subst (λ ks. head_folding_fits h (forms_at ks is) ≡ false) e u);
}
