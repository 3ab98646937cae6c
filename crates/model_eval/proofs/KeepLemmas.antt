-- Values that are kept: those of a node's arguments, one more, and the first that isn't in the range.
use Rattle.std.proofs.Common.{◌≡◌, ℕ, zero, suc, ◌<◌, ◌≤◌, List, [], ◌∷◌, ◌++◌, length, map, get_or, All, Bool, true, false, Some, None, inl, inr, subst, sym, ap, ◌∙◌, arith, refl}
use Rattle.std.proofs.lemmas.Bool.{cases_lt}
use Rattle.std.proofs.lemmas.List.{length-append, length_push, get_or_append_left, get_or_push}
use Rattle.std.proofs.lemmas.List.Elements.{All-head, All-tail}
use Rattle.smt_meaning.specs.declared.values.Value.{Value}
use Rattle.smt_meaning.specs.declared.values.Value.TheVariants.{Truth}
use Rattle.smt_meaning.specs.declared.terms.Head.{Head}
use Rattle.smt_meaning.specs.Term.{Tree, Trees, node, none, more, tree_at, Interpretation, value, values, fits, all_fit, in_range, all_in_range, head_fits, apply}
use Rattle.smt_meaning.specs.Nodes.{pick}
use Rattle.smt_laws.proofs.Both.{and_left, and_right, and_both}
use Rattle.term_store.specs.Terms.{tree_with, AreDifferent}
use Rattle.model_eval.specs.Fitted.{some_if, fitted_head}
use Rattle.model_eval.specs.Unfit.{IsPart, IsPartOfOne, fits_alone, IsFirstUnfitOfAny, IsCause, IsCauseOfAny}
use Rattle.model_eval.specs.Walk.{is_marked, HasMarkedArguments, AreMarked, value_at, IsKept, AreKept, IsUnfitAt}
use Rattle.model_eval.specs.declared.EvalError.{EvalError}
use Rattle.model_eval.specs.declared.EvalError.TheVariants.{Range, Memory}
use Rattle.model_eval.proofs.MarkLemmas.{part_is_marked, arguments_marked}

-- ---- a tree that fits

fits_in_range : (I : Interpretation) (t : Tree) → fits I t ≡ true → in_range (value I t) ≡ true
fits_in_range I (node h ts) f =
    let alone : head_fits I h (values I ts) ≡ true = and_right (all_fit I ts) (head_fits I h (values I ts)) f in
    and_left (in_range (apply I h (values I ts))) _ alone

all_fit_in_range : (I : Interpretation) (ts : Trees) → all_fit I ts ≡ true → all_in_range (values I ts) ≡ true
all_fit_in_range I none f = refl
all_fit_in_range I (more t ts) f =
    and_both (in_range (value I t)) (all_in_range (values I ts)) (fits_in_range I t (and_left (fits I t) (all_fit I ts) f))
    (all_fit_in_range I ts (and_right (fits I t) (all_fit I ts) f))

pub fits_itself : (I : Interpretation) (t : Tree) → fits I t ≡ true → fits_alone I t ≡ true
fits_itself I (node h ts) f = and_right (all_fit I ts) (head_fits I h (values I ts)) f

mutual
  part_fits : (I : Interpretation) (s t : Tree) → IsPart s t → fits I t ≡ true → fits I s ≡ true
  part_fits I s (node h ts) p f =
      elim p [
        | inl same ↦ ap (fits I) same ∙ f
        | inr inner ↦ part_of_one_fits I s ts inner (and_left (all_fit I ts) (head_fits I h (values I ts)) f)
      ]

  part_of_one_fits : (I : Interpretation) (s : Tree) (ts : Trees) → IsPartOfOne s ts → all_fit I ts ≡ true → fits I s ≡ true
  part_of_one_fits I s none p f = absurd p
  part_of_one_fits I s (more t ts) p f =
      elim p [
        | inl first ↦ part_fits I s t first (and_left (fits I t) (all_fit I ts) f)
        | inr later ↦ part_of_one_fits I s ts later (and_right (fits I t) (all_fit I ts) f)
      ]

not_true : (b : Bool) → (b ≡ true → ⊥) → b ≡ false
not_true true h = absurd (h refl)
not_true false h = refl

apart : (b : Bool) → b ≡ true → b ≡ false → ⊥
apart b p q = cc

pub unfit_part : (I : Interpretation) (s t : Tree) → IsPart s t → fits_alone I s ≡ false → fits I t ≡ false
unfit_part I s t p u = not_true (fits I t) (λ f. apart (fits_alone I s) (fits_itself I s (part_fits I s t p f)) u)

-- ---- the arguments of a node

pub record Gathered (I : Interpretation) (trees : List Tree) (slots : List ℕ) (vs : List Value) (ps : List ℕ) : Type 0 where
  pub slot : All (λ i. get_or slots i 0 < length vs) ps
  pub values : map (value_at slots vs) ps ≡ values I (pick trees ps)
  pub fits : all_fit I (pick trees ps) ≡ true

pub gathered : (I : Interpretation) (trees : List Tree) (marks : List Bool) (slots : List ℕ) (vs : List Value) (ps : List ℕ) → AreKept I trees marks slots vs
    → All (λ i. i < length slots) ps → All (λ i. is_marked marks i ≡ true) ps → Gathered I trees slots vs ps
gathered I trees marks slots vs [] k below marked = record { slot = λ n d h. absurd (omega arith); values = refl; fits = refl }
gathered I trees marks slots vs (p ∷ ps) k below marked =
    let here = k.kept p (All-head (λ i. i < length slots) p ps below) (All-head (λ i. is_marked marks i ≡ true) p ps marked) in
    let rest = gathered I trees marks slots vs ps k (All-tail (λ i. i < length slots) p ps below) (All-tail (λ i. is_marked marks i ≡ true) p ps marked) in
    let first : value_at slots vs p ≡ value I (tree_at trees p) = here.value in
    let others : map (value_at slots vs) ps ≡ values I (pick trees ps) = rest.values in
    record {
      slot = slots_of p ps here.slot rest.slot;
      values = ap (λ v. v ∷ map (value_at slots vs) ps) first ∙ ap (λ ws. value I (tree_at trees p) ∷ ws) others;
      fits = and_both (fits I (tree_at trees p)) (all_fit I (pick trees ps)) here.fits rest.fits;
    }
  where
    slots_of : (p : ℕ) (ps : List ℕ) → get_or slots p 0 < length vs → All (λ i. get_or slots i 0 < length vs) ps → All (λ i. get_or slots i 0 < length vs) (p ∷ ps)
    slots_of p ps h r zero d s = h
    slots_of p ps h r (suc n) d s = r n d (omega arith)

pub node_gathered : (I : Interpretation) (trees : List Tree) (marks : List Bool) (slots : List ℕ) (vs : List Value) (id : ℕ) (head : Head) (ps : List ℕ) → AreKept I trees marks slots vs
    → length slots ≡ id → AreDifferent trees → HasMarkedArguments trees marks id → id < length trees → tree_at trees id ≡ tree_with trees head ps → All (λ k. k < id) ps
    → Gathered I trees slots vs ps
node_gathered I trees marks slots vs id head ps k size different closed short tree below =
    gathered I trees marks slots vs ps k (subst (λ n. All (λ i. i < n) ps) (sym size) below) (arguments_marked trees marks id head ps different closed short tree below)

pub gathered_in_range : (I : Interpretation) (trees : List Tree) (slots : List ℕ) (vs : List Value) (ps : List ℕ) → Gathered I trees slots vs ps
    → all_in_range (map (value_at slots vs) ps) ≡ true
gathered_in_range I trees slots vs ps g = ap all_in_range g.values ∙ all_fit_in_range I (pick trees ps) g.fits

-- ---- a node's value

unfit : (b : Bool) (v : Value) → some_if b v ≡ None → b ≡ false
unfit true v e = cc
unfit false v e = refl

pub node_unfit : (I : Interpretation) (trees : List Tree) (slots : List ℕ) (vs : List Value) (ps : List ℕ) (head : Head) (t : Tree) → Gathered I trees slots vs ps → t ≡ tree_with trees head ps
    → fitted_head I head (map (value_at slots vs) ps) ≡ None → fits_alone I t ≡ false
node_unfit I trees slots vs ps head t g tree e =
    ap (fits_alone I) tree ∙ unfit (head_fits I head (values I (pick trees ps))) (apply I head (values I (pick trees ps))) (ap (fitted_head I head) (sym g.values) ∙ e)

pub record Valued (I : Interpretation) (t : Tree) (v : Value) : Type 0 where
  pub value : v ≡ value I t
  pub fits : fits I t ≡ true

fit : (b : Bool) (v w : Value) → some_if b v ≡ Some w → (b ≡ true) × (w ≡ v)
fit true v w e = (refl, cc)
fit false v w e = cc

pub node_valued : (I : Interpretation) (trees : List Tree) (slots : List ℕ) (vs : List Value) (ps : List ℕ) (head : Head) (t : Tree) (v : Value) → Gathered I trees slots vs ps
    → t ≡ tree_with trees head ps → fitted_head I head (map (value_at slots vs) ps) ≡ Some v → Valued I t v
node_valued I trees slots vs ps head t v g tree e =
    let w = fit (head_fits I head (values I (pick trees ps))) (apply I head (values I (pick trees ps))) v (ap (fitted_head I head) (sym g.values) ∙ e) in
    record {
      value = w.1 ∙ ap (value I) (sym tree);
      fits = ap (fits I) tree ∙ and_both (all_fit I (pick trees ps)) (head_fits I head (values I (pick trees ps))) g.fits w.0;
    }

-- ---- one place more

pub kept_none : (I : Interpretation) (trees : List Tree) (marks : List Bool) → AreKept I trees marks [] []
kept_none I trees marks = record { few = omega arith; kept = λ i h m. absurd (omega arith) }

left_kept : (I : Interpretation) (trees : List Tree) (slots more' : List ℕ) (vs vs' : List Value) (i : ℕ) → i < length slots → IsKept I trees slots vs i → IsKept I trees (slots ++ more') (vs ++ vs') i
left_kept I trees slots more' vs vs' i short k =
    let slot : get_or (slots ++ more') i 0 ≡ get_or slots i 0 = get_or_append_left slots more' 0 i short in
    let within : get_or slots i 0 < length vs = k.slot in
    record {
      slot = omega (arith, length-append vs vs');
      value = ap (λ n. get_or (vs ++ vs') n (Truth false)) slot ∙ get_or_append_left vs vs' (Truth false) (get_or slots i 0) within ∙ k.value;
      fits = k.fits;
    }

pub kept_push : (I : Interpretation) (trees : List Tree) (marks : List Bool) (slots : List ℕ) (vs : List Value) (v : Value) (slot id : ℕ) → AreKept I trees marks slots vs → length slots ≡ id
    → slot ≡ length vs → Valued I (tree_at trees id) v → AreKept I trees marks (slots ++ slot ∷ []) (vs ++ v ∷ [])
kept_push I trees marks slots vs v slot id k size at valued =
    let few : length vs ≤ length slots = k.few in
    record {
      few = omega (arith, length_push slots slot, length_push vs v);
      kept = λ i h m.
          elim (cases_lt i (length slots)) [
            | inl below ↦ left_kept I trees slots (slot ∷ []) vs (v ∷ []) i below (k.kept i below m)
            | inr above ↦
                (let last : length slots ≡ i = omega (arith, length_push slots slot) in
                let here : get_or (slots ++ slot ∷ []) i 0 ≡ length vs = get_or_push slots slot 0 i last ∙ at in
                let tree : tree_at trees i ≡ tree_at trees id = ap (tree_at trees) (sym last ∙ size) in
                record {
                  slot = omega (arith, length_push vs v);
                  value = ap (λ n. get_or (vs ++ v ∷ []) n (Truth false)) here ∙ get_or_push vs v (Truth false) (length vs) refl ∙ valued.value ∙ ap (value I) (sym tree);
                  fits = ap (fits I) tree ∙ valued.fits;
                })
          ];
    }

append_nil : (vs : List Value) → vs ++ [] ≡ vs
append_nil [] = refl
append_nil (v ∷ vs) = ap (λ ws. v ∷ ws) (append_nil vs)

pub kept_skip : (I : Interpretation) (trees : List Tree) (marks : List Bool) (slots : List ℕ) (vs : List Value) (slot id : ℕ) → AreKept I trees marks slots vs → length slots ≡ id
    → is_marked marks id ≡ false → AreKept I trees marks (slots ++ slot ∷ []) vs
kept_skip I trees marks slots vs slot id k size absent =
    let few : length vs ≤ length slots = k.few in
    record {
      few = omega (arith, length_push slots slot);
      kept = λ i h m.
          elim (cases_lt i (length slots)) [
            | inl below ↦ subst (λ ws. IsKept I trees (slots ++ slot ∷ []) ws i) (append_nil vs) (left_kept I trees slots (slot ∷ []) vs [] i below (k.kept i below m))
            | inr above ↦
                (let last : length slots ≡ i = omega (arith, length_push slots slot) in
                absurd (apart (is_marked marks i) m (ap (is_marked marks) (sym last ∙ size) ∙ absent)))
          ];
    }

-- ---- what is said in the end

module _ (I : Interpretation) (trees : List Tree) (terms : List ℕ) (top : ℕ) (marks : List Bool) (slots : List ℕ) (vs : List Value) (marked : AreMarked trees terms top 0 marks) (different : AreDifferent trees)
    (within : All (λ k. k < length trees) terms) (kept : AreKept I trees marks slots vs) where
  first_unfit : (i : ℕ) → length slots ≡ i → i < length trees → is_marked marks i ≡ true → fits_alone I (tree_at trees i) ≡ false → IsFirstUnfitOfAny I trees terms i
  first_unfit i size short here u = record {
    place = short;
    part = marked.parts i here;
    unfit = u;
    first = λ j less p.
        fits_itself I (tree_at trees j) (kept.kept j (omega arith) (part_is_marked trees terms top j marks marked different within (omega arith) p)).fits;
  }

  pub cause_of : (i : ℕ) (e : EvalError) → length slots ≡ i → i < length trees → IsUnfitAt I trees marks i e → IsCauseOfAny I trees terms e
  cause_of i (Range k) size short u =
      let first : IsFirstUnfitOfAny I trees terms i = first_unfit i size short u.1 u.2 in
      let part = first.part in
      ((part.0, part.1, unfit_part I (tree_at trees i) (tree_at trees (get_or terms part.0 0)) part.2 first.unfit), subst (IsFirstUnfitOfAny I trees terms) (sym u.0) first)
  cause_of i Memory size short u = tt

  -- the values of the terms are kept, once all places below the top have been passed
  pub all_kept : length slots ≡ top → All (λ k. k < top) terms → All (IsKept I trees slots vs) terms
  all_kept size below k d h = kept.kept (get_or terms k d) (let less = below k d h in omega arith) (marked.roots k d h)

-- the values that are kept for terms are theirs
pub values_of : (I : Interpretation) (trees : List Tree) (terms slots : List ℕ) (vs : List Value) → All (IsKept I trees slots vs) terms → map (value_at slots vs) terms ≡ map (λ t. value I (tree_at trees t)) terms
values_of I trees [] slots vs kept = refl
values_of I trees (t ∷ ts) slots vs kept =
    ap (λ v. v ∷ map (value_at slots vs) ts) (All-head (IsKept I trees slots vs) t ts kept).value
    ∙ ap (λ ws. value I (tree_at trees t) ∷ ws) (values_of I trees ts slots vs (All-tail (IsKept I trees slots vs) t ts kept))

-- the cause for a list of one term is that for the term
pub cause_of_one : (I : Interpretation) (trees : List Tree) (m : ℕ) (e : EvalError) → IsCauseOfAny I trees (m ∷ []) e → IsCause I trees (tree_at trees m) e
cause_of_one I trees m (Range i) c =
    let unfit = c.0 in
    let first = c.1 in (
      subst (λ k. fits I (tree_at trees k) ≡ false) (only unfit.0 unfit.1) unfit.2,
      record {
        place = first.place;
        part = (let p = first.part in subst (λ k. IsPart (tree_at trees i) (tree_at trees k)) (only p.0 p.1) p.2);
        unfit = first.unfit;
        first = λ j less p. first.first j less (0, omega arith, p);
      },
    )
  where
    only : (k : ℕ) → k < length (m ∷ []) → get_or (m ∷ []) k 0 ≡ m
    only zero h = refl
    only (suc k) h = absurd (omega arith)
cause_of_one I trees m Memory c = tt
