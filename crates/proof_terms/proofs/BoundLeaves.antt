-- The leaves of the forms of a proof's Int terms are Int terms of the proof, and no numeral, sum, difference or product.
use Rattle.std.proofs.Common.{◌≡◌, ◌≢◌, ◌⊎◌, inl, inr, ℕ, zero, suc, ◌+◌, ◌<◌, ◌≤◌, Bool, true, false, ◌||◌, List, [], ◌∷◌, length, All, get_or, ap, sym, subst, ◌∙◌, refl, arith, Option, Some, None}
use Rattle.std.specs.Prelude.{ℤ, pos, negsuc, ◌+ℤ◌, ◌*ℤ◌, AllPairs, IsTrue, if◌then◌else◌}
use Rattle.std.proofs.lemmas.Int.{ints}
use Rattle.std.proofs.Math.IntN.{*ℤ-zero}
use Rattle.std.proofs.lemmas.List.Elements.{All-nil, All-cons, All-head}
use Rattle.smt_meaning.specs.declared.values.Sort.{Sort}
use Rattle.smt_meaning.specs.declared.values.Sort.TheVariants.{Bool as Truths, Int as Ints, Free}
use Rattle.smt_meaning.specs.declared.terms.Operator.{Operator}
use Rattle.smt_meaning.specs.declared.terms.Operator.TheVariants.{Add, Subtract, Multiply}
use Rattle.smt_meaning.specs.declared.terms.Head.{Head}
use Rattle.smt_meaning.specs.declared.terms.Head.TheVariants.{Numeral, Theory, Symbol, Place}
use Rattle.smt_meaning.specs.declared.nodes.Node.{Node}
use Rattle.smt_meaning.specs.declared.clauses.Summand.{Summand}
use Rattle.smt_meaning.specs.Declaration.{Declaration}
use Rattle.smt_meaning.specs.Signature.{cons_sort, all_of, sort_eq, if_so, operator_sort}
use Rattle.smt_meaning.specs.Term.{Tree, Trees, node, none, more, tree_at}
use Rattle.smt_meaning.specs.TreeShape.{tree_eq, is_among, place_of}
use Rattle.smt_meaning.specs.Linear.{Form, form_times, form_plus, form_minus, form_product, fold_forms, folded, difference_form, number_form, leaf_form, linear_form, linear_forms, leaves, leaves_of, sums_added}
use Rattle.smt_meaning.specs.Atoms.{difference_of}
use Rattle.proof_meaning.specs.Proof.{is_written, with_term_sorts, term_sort, term_sorts, AreTerms, IsSummand, IsAtom, IsIntAt, is_leaf}
use Rattle.proof_meaning.specs.Rules.{folded_bound}
use Rattle.proof_meaning.proofs.Terms.{readable_at}
use Rattle.smt_laws.proofs.Both.{and_left, and_right}
use Rattle.smt_laws.proofs.Included.{All-included, included_left, included_right}
use Rattle.smt_laws.proofs.SameTree.{found_again}
use Rattle.linear_forms.specs.Sums.{coefficient_of, IsSumWithin, IsSum}
use Rattle.linear_forms.proofs.SumLemmas.{absent_below, at_first, past_first, sums_added_sum, sums_added_at, sum_times_sum, sum_times_at}

abbrev pub AreAmong : List Tree → List Tree → Type 0
AreAmong ts us = All (λ (u : Tree). IsTrue (is_among u ts)) us

-- ---- forms over such leaves

abbrev pub IsLeafAt : List Declaration → List Tree → ℕ → Type 0
IsLeafAt ds ts i = IsIntAt ds ts i × IsTrue (is_leaf (tree_at ts i))

pub record IsOver (ds : List Declaration) (ts : List Tree) (f : Form) : Type 0 where
  pub is_sum : IsSum (length ts) f.sum
  pub over : (i : ℕ) → coefficient_of f.sum i ≢ pos 0 → IsLeafAt ds ts i

is_zero_or : (z : ℤ) → (z ≡ pos 0) ⊎ (z ≢ pos 0)
is_zero_or (pos zero) = inl refl
is_zero_or (pos (suc n)) = inr (λ e. cc)
is_zero_or (negsuc n) = inr (λ e. cc)

module _ (ds : List Declaration) (ts : List Tree) where
  pub over_number : (n : ℤ) → IsOver ds ts (number_form n)
  over_number n = record { is_sum = tt; over = λ i h. absurd (h refl) }

  pub over_times : (k : ℤ) (f : Form) → IsOver ds ts f → IsOver ds ts (form_times k f)
  over_times k f h = record {
    is_sum = sum_times_sum (length ts) k f.sum h.is_sum;
    over = λ i n. h.over i (λ e. n (sum_times_at k f.sum i ∙ ap (λ z. k *ℤ z) e ∙ *ℤ-zero k));
  }

  pub over_plus : (f g : Form) → IsOver ds ts f → IsOver ds ts g → IsOver ds ts (form_plus f g)
  over_plus f g hf hg = record {
    is_sum = sums_added_sum (length ts) f.sum g.sum hf.is_sum hg.is_sum;
    over = λ i n. by i n (is_zero_or (coefficient_of f.sum i));
  }
    where
      none_left : (z : ℤ) → pos 0 +ℤ z ≡ z
      none_left z = omega (arith, ints)

      by : (i : ℕ) → coefficient_of (sums_added f.sum g.sum) i ≢ pos 0 → (coefficient_of f.sum i ≡ pos 0) ⊎ (coefficient_of f.sum i ≢ pos 0) → IsLeafAt ds ts i
      by i n (inr some) = hf.over i some
      by i n (inl e) =
          hg.over i (λ z. n (sums_added_at (length ts) f.sum g.sum i hf.is_sum hg.is_sum ∙ ap (λ y. y +ℤ coefficient_of g.sum i) e ∙ none_left (coefficient_of g.sum i) ∙ z))

  over_minus : (f g : Form) → IsOver ds ts f → IsOver ds ts g → IsOver ds ts (form_minus f g)
  over_minus f g hf hg = over_plus f (form_times (negsuc 0) g) hf (over_times (negsuc 0) g hg)

  over_product : (f g : Form) → IsOver ds ts f → IsOver ds ts g → IsOver ds ts (form_product f g)
  over_product f g hf hg = by f.sum
    where
      by : (ps : List Summand) → IsOver ds ts (elim ps [ [] ↦ form_times f.constant g | p ∷ rest ↦ form_times g.constant f ])
      by [] = over_times f.constant g hg
      by (p ∷ rest) = over_times g.constant f hf

  abbrev AreOver : List Form → Type 0
  AreOver [] = Unit {0}
  AreOver (f ∷ fs) = IsOver ds ts f × AreOver fs

  over_folds : (op : Form → Form → Form) → ((f g : Form) → IsOver ds ts f → IsOver ds ts g → IsOver ds ts (op f g)) → (f : Form) (fs : List Form) → IsOver ds ts f → AreOver fs → IsOver ds ts (fold_forms op f fs)
  over_folds op closed f [] h all = h
  over_folds op closed f (g ∷ gs) h all = over_folds op closed (op f g) gs (closed f g h all.0) all.1

  over_folded : (op : Form → Form → Form) → ((f g : Form) → IsOver ds ts f → IsOver ds ts g → IsOver ds ts (op f g)) → (fs : List Form) → AreOver fs → IsOver ds ts (folded op fs)
  over_folded op closed [] all = over_number (pos 0)
  over_folded op closed (f ∷ fs) all = over_folds op closed f fs all.0 all.1

  over_difference : (fs : List Form) → AreOver fs → IsOver ds ts (difference_form fs)
  over_difference [] all = over_number (pos 0)
  over_difference (f ∷ []) all = over_times (negsuc 0) f all.0
  over_difference (f ∷ g ∷ gs) all = over_folded form_minus over_minus (f ∷ g ∷ gs) all

-- ---- the sorts of arguments

ints_eq : (a : Sort) → sort_eq Ints a ≡ true → a ≡ Ints
ints_eq Ints e = refl
ints_eq Truths e = absurd (cc)
ints_eq (Free k) e = absurd (cc)

first_sort : (o : Option Sort) (p : Option (List Sort)) (a : Sort) (ss : List Sort) → cons_sort o p ≡ Some (a ∷ ss) → (o ≡ Some a) × (p ≡ Some ss)
first_sort None p a ss e = absurd (cc)
first_sort (Some b) None a ss e = absurd (cc)
first_sort (Some b) (Some rs) a ss e =
    let same : Some (b ∷ rs) ≡ Some (a ∷ ss) = e in
    let h : b ≡ a = cc in
    let k : rs ≡ ss = cc in (ap Some h, ap Some k)

no_sort : (o : Option Sort) (p : Option (List Sort)) → cons_sort o p ≡ Some [] → ⊥
no_sort None p e = cc
no_sort (Some b) None e = cc
no_sort (Some b) (Some rs) e = cc

abbrev pub AreInts : List Declaration → Trees → Type 0
AreInts ds none = Unit {0}
AreInts ds (more u us) = (term_sort ds u ≡ Some Ints) × AreInts ds us

arguments_ints : (ds : List Declaration) (us : Trees) (ss : List Sort) → term_sorts ds us ≡ Some ss → all_of Ints ss ≡ true → AreInts ds us
arguments_ints ds none ss e h = tt
arguments_ints ds (more u us) [] e h = absurd (no_sort (term_sort ds u) (term_sorts ds us) e)
arguments_ints ds (more u us) (a ∷ ss) e h =
    let parts = first_sort (term_sort ds u) (term_sorts ds us) a ss e in
    (parts.0 ∙ ap Some (ints_eq a (and_left (sort_eq Ints a) (all_of Ints ss) h)), arguments_ints ds us ss parts.1 (and_right (sort_eq Ints a) (all_of Ints ss) h))

so_true : (b : Bool) (s r : Sort) → if_so b s ≡ Some r → b ≡ true
so_true true s r e = refl
so_true false s r e = absurd (cc)

then_some : (b : Bool) (o : Option Sort) (s : Sort) → (if b then o else None) ≡ Some s → o ≡ Some s
then_some true o s e = e
then_some false o s e = absurd (cc)

-- of an operator whose arguments are all Int
pub operator_ints : (ds : List Declaration) (o : Operator) (us : Trees) (s : Sort) → ((ss : List Sort) → operator_sort o ss ≡ if_so (all_of Ints ss) Ints) → term_sort ds (node (Theory o) us) ≡ Some s → AreInts ds us
operator_ints ds o us s law e = by (term_sorts ds us) refl e
  where
    by : (p : Option (List Sort)) → term_sorts ds us ≡ p → with_term_sorts ds (Theory o) p ≡ Some s → AreInts ds us
    by None f g = absurd (cc)
    by (Some ss) f g =
        arguments_ints ds us ss f (so_true (all_of Ints ss) Ints s (sym (law ss) ∙ then_some (is_written o (length ss)) (operator_sort o ss) s g))

-- ---- whole terms

place_below : (t : Tree) (ts : List Tree) → is_among t ts ≡ true → place_of t ts < length ts
place_below t [] h = absurd (cc)
place_below t (u ∷ us) h = by (tree_eq t u) h (λ k. place_below t us k)
  where
    by : (b : Bool) → (b || is_among t us) ≡ true → (is_among t us ≡ true → place_of t us < length us) → (if b then 0 else suc (place_of t us)) < length (u ∷ us)
    by true k again = omega arith
    by false k again = let l = again k in omega (arith, l)

module _ (ds : List Declaration) (ts : List Tree) where
  over_leaf : (t : Tree) → AreAmong ts (t ∷ []) → term_sort ds t ≡ Some Ints → IsTrue (is_leaf t) → IsOver ds ts (leaf_form ts t)
  over_leaf t among sort leaf =
      let h : is_among t ts ≡ true = All-head (λ (u : Tree). IsTrue (is_among u ts)) t [] among in
      let below : place_of t ts < length ts = place_below t ts h in
      let same : tree_at ts (place_of t ts) ≡ t = found_again t ts h in
      let here : IsLeafAt ds ts (place_of t ts) = ((below, ap (term_sort ds) same ∙ sort), subst (λ (u : Tree). IsTrue (is_leaf u)) (sym same) leaf) in
      record { is_sum = (omega arith, below, λ e. cc, tt); over = λ i n. by here i (order (place_of t ts) i) n }
    where
      order : (p i : ℕ) → (p ≡ i) ⊎ (p ≢ i)
      order zero zero = inl refl
      order zero (suc i) = inr (λ e. absurd (omega arith))
      order (suc p) zero = inr (λ e. absurd (omega arith))
      order (suc p) (suc i) = elim (order p i) [ inl e ↦ inl (ap suc e) | inr n ↦ inr (λ e. n (omega arith)) ]

      by : IsLeafAt ds ts (place_of t ts) → (i : ℕ) → (place_of t ts ≡ i) ⊎ (place_of t ts ≢ i) → coefficient_of (leaf_form ts t).sum i ≢ pos 0 → IsLeafAt ds ts i
      by here i (inl e) n = subst (IsLeafAt ds ts) e here
      by here i (inr f) n = absurd (n (past_first (record { coefficient = pos 1; term = place_of t ts }) [] i f))

  over_head : (h : Head) (us : Trees) → AreAmong ts (leaves (node h us)) → term_sort ds (node h us) ≡ Some Ints → (AreAmong ts (leaves_of us) → AreInts ds us → AreOver ds ts (linear_forms ts us))
      → IsOver ds ts (linear_form ts (node h us))
  over_head (Numeral n) us a e rest = over_number ds ts n
  over_head (Theory Add) us a e rest = over_folded ds ts form_plus (over_plus ds ts) (linear_forms ts us) (rest a (operator_ints ds Add us Ints (λ ss. refl) e))
  over_head (Theory Subtract) us a e rest = over_difference ds ts (linear_forms ts us) (rest a (operator_ints ds Subtract us Ints (λ ss. refl) e))
  over_head (Theory Multiply) us a e rest = over_folded ds ts form_product (over_product ds ts) (linear_forms ts us) (rest a (operator_ints ds Multiply us Ints (λ ss. refl) e))
  over_head (Theory o) us a e rest = over_leaf (node (Theory o) us) a e refl
  over_head (Symbol f) us a e rest = over_leaf (node (Symbol f) us) a e refl
  over_head (Place k) us a e rest = over_leaf (node (Place k) us) a e refl

mutual
  pub over_term : (ds : List Declaration) (ts : List Tree) (t : Tree) → AreAmong ts (leaves t) → term_sort ds t ≡ Some Ints → IsOver ds ts (linear_form ts t)
  over_term ds ts (node h us) a e = over_head ds ts h us a e (λ b f. over_terms ds ts us b f)

  over_terms : (ds : List Declaration) (ts : List Tree) (us : Trees) → AreAmong ts (leaves_of us) → AreInts ds us → AreOver ds ts (linear_forms ts us)
  over_terms ds ts none a e = tt
  over_terms ds ts (more u us) a e = (
    over_term ds ts u (All-included (λ (x : Tree). IsTrue (is_among x ts)) _ _ (included_left (leaves u) (leaves_of us)) a) e.0,
    over_terms ds ts us (All-included (λ (x : Tree). IsTrue (is_among x ts)) _ _ (included_right (leaves u) (leaves_of us)) a) e.1,
  )

-- ---- as an atom

above_all : (low high : ℕ) (ps : List Summand) → IsSumWithin low high ps → All (λ (q : Summand). low ≤ q.term) ps
above_all low high [] h = All-nil (λ (q : Summand). low ≤ q.term)
above_all low high (p ∷ ps) h = λ i d l. by i d l (above_all (p.term + 1) high ps h.3)
  where
    by : (i : ℕ) (d : Summand) → i < length (p ∷ ps) → All (λ (q : Summand). p.term + 1 ≤ q.term) ps → low ≤ (get_or (p ∷ ps) i d).term
    by zero d l rest = h.0
    by (suc i) d l rest = let k = rest i d (omega arith) in let j = h.0 in omega (arith, k, j)

pub pairs_ascend : (low high : ℕ) (ps : List Summand) → IsSumWithin low high ps → AllPairs (λ (p q : Summand). p.term < q.term) ps
pairs_ascend low high [] h = λ i j d l m. absurd (omega arith)
pairs_ascend low high (p ∷ ps) h = λ i j d l m. by i j d l m (above_all (p.term + 1) high ps h.3) (pairs_ascend (p.term + 1) high ps h.3)
  where
    by : (i j : ℕ) (d : Summand) → i < j → j < length (p ∷ ps) → All (λ (q : Summand). p.term + 1 ≤ q.term) ps → AllPairs (λ (x y : Summand). x.term < y.term) ps
        → (get_or (p ∷ ps) i d).term < (get_or (p ∷ ps) j d).term
    by i zero d l m above rest = absurd (omega arith)
    by zero (suc j) d l m above rest = let k = above j d (omega arith) in omega (arith, k)
    by (suc i) (suc j) d l m above rest = rest i j d (omega arith) (omega arith)

pub all_summands : (ds : List Declaration) (ts : List Tree) (low : ℕ) (ps : List Summand) → IsSumWithin low (length ts) ps → ((i : ℕ) → coefficient_of ps i ≢ pos 0 → IsLeafAt ds ts i) → All (IsSummand ds ts) ps
all_summands ds ts low [] h over = All-nil (IsSummand ds ts)
all_summands ds ts low (p ∷ ps) h over =
    let here : IsLeafAt ds ts p.term = over p.term (λ e. h.2 (sym (at_first p ps p.term refl) ∙ e)) in
    All-cons (IsSummand ds ts) p ps (record { int = here.0; leaf = here.1; not_zero = h.2 })
    (all_summands ds ts (p.term + 1) ps h.3 (λ i n. over i (λ e. n (sym (past_first p ps i (λ s. n (absent_below (p.term + 1) (length ts) ps i h.3 (omega arith)))) ∙ e))))

pub folded_atom : (ds : List Declaration) (ns : List Node) (ts : List Tree) → AreTerms ds ns ts → (i j : ℕ) → IsIntAt ds ts i → IsIntAt ds ts j → IsAtom ds ts (folded_bound ts i j)
folded_atom ds ns ts terms i j hi hj =
    let left : IsOver ds ts (linear_form ts (tree_at ts i)) = over_term ds ts (tree_at ts i) (readable_at ds ns ts terms i hi.0).leaves_are hi.1 in
    let right : IsOver ds ts (linear_form ts (tree_at ts j)) = over_term ds ts (tree_at ts j) (readable_at ds ns ts terms j hj.0).leaves_are hj.1 in
    let f : Form = difference_of ts (tree_at ts i) (tree_at ts j) in
    let both : IsOver ds ts f = over_minus ds ts (linear_form ts (tree_at ts i)) (linear_form ts (tree_at ts j)) left right in
    (all_summands ds ts 0 f.sum both.is_sum both.over, pairs_ascend 0 (length ts) f.sum both.is_sum)
