-- The clauses of the table of divisions.
use Rattle.std.proofs.Common.{◌≡◌, ◌≢◌, ℕ, zero, suc, ◌<◌, Bool, true, ◌||◌, List, [], ◌∷◌, ◌++◌, length, All, map, Option, Some, None, ap, sym, subst, ◌∙◌, refl, arith, inl, inr}
use Rattle.std.specs.Prelude.{ℤ, pos, slice_get, if◌then◌else◌}
use Rattle.std.proofs.lemmas.List.{get_or_past}
use Rattle.std.proofs.lemmas.List.Elements.{All-nil, All-cons, All-head, All-tail}
use Rattle.std.proofs.lemmas.Bool.{cases_lt}
use Rattle.smt_meaning.specs.declared.values.Value.{Value}
use Rattle.smt_meaning.specs.declared.values.Sort.{Sort}
use Rattle.smt_meaning.specs.declared.values.Sort.TheVariants.{Int as Ints}
use Rattle.smt_meaning.specs.declared.terms.Operator.{Operator}
use Rattle.smt_meaning.specs.declared.terms.Operator.TheVariants.{False, Divide, Modulo, Absolute, Divisible}
use Rattle.smt_meaning.specs.declared.terms.Head.{Head}
use Rattle.smt_meaning.specs.declared.terms.Head.TheVariants.{Numeral, Theory}
use Rattle.smt_meaning.specs.declared.nodes.Node.{Node}
use Rattle.smt_meaning.specs.declared.clauses.Literal.{Literal}
use Rattle.smt_meaning.specs.Declaration.{Declaration}
use Rattle.smt_meaning.specs.Term.{Tree, Trees, node, none, more, tree_at, Interpretation, value, values, truth_of, number_of, operate, fold_left, on_numbers, quotient, remainder}
use Rattle.smt_meaning.specs.TreeShape.{is_divisor, are_divisors, quotient_tree}
use Rattle.smt_meaning.specs.Nodes.{pick}
use Rattle.smt_meaning.specs.Clause.{some_true, atom_true, value_at}
use Rattle.smt_meaning.specs.Linear.{form_value}
use Rattle.smt_meaning.specs.Division.{Limit, Row, quotient_rows}
use Rattle.smt_meaning.specs.Atoms.{limit_atom, row_atoms, positive, truth_literals}
use Rattle.smt_meaning.specs.Signature.{all_of, if_so}
use Rattle.proof_meaning.specs.Proof.{is_written, written_sort, term_sort, term_sorts, is_linear_with, is_linear_term, are_linear_terms, meant, all_meant, AreTerms, node_at, IsIntAt}
use Rattle.smt_laws.specs.Rows.{place_form, placed_literals}
use Rattle.proof_meaning.specs.Rules.{divisor_at, HasRows, of_quotient, of_last_quotient, of_remainder, of_divisibility, of_absolute, IsEuclid}
use Rattle.smt_laws.specs.Rows.{limit_holds, one_holds, truth_holds, row_holds, rows_hold}
use Rattle.smt_laws.specs.ClauseLaws.{IsRowOf}
use Rattle.smt_laws.proofs.Both.{and_left, and_right}
use Rattle.smt_laws.proofs.RowLaw.{of_term, rows_force, absolute_forced}
use Rattle.smt_laws.proofs.DivisionLaw.{limits_valued, divisor_is}
use Rattle.proof_meaning.proofs.Meant.{meant_value_at, meant_picked, meant_divisor, apply_written, written_value, Split, split, Sorted, sorted, written_head, is_so, first_int, other_ints}
use Rattle.proof_meaning.proofs.Terms.{Stands, stands, as_many, IsReadable, readable_at, standing_value}
use Rattle.proof_meaning.proofs.Facts.{Facts}
use Rattle.proof_meaning.proofs.Linking.{number_at}

-- ---- a row that holds gives a true clause

both_or : (a b c d : Bool) → a ≡ c → b ≡ d → (a || b) ≡ (c || d)
both_or a b c d p q = rw (p, q)

module _ (ts : List Tree) (I : Interpretation) where
  -- the form of the term at a place has the term's number
  abbrev IsRead : ℕ → Type 0
  IsRead j = form_value (map meant ts) I (place_form ts j) ≡ number_at ts I j

  abbrev AreRead : Limit ℕ → Type 0
  AreRead l = All (λ (m : ℤ × ℕ). IsRead m.1) l.multiples

  limits_value : (ls : List (Limit ℕ)) → All AreRead ls → some_true (map meant ts) I (map positive (map (limit_atom (place_form ts)) ls)) ≡ one_holds (number_at ts I) ls
  limits_value [] h = refl
  limits_value (l ∷ ls) h =
      both_or (atom_true (map meant ts) I (limit_atom (place_form ts) l)) (some_true (map meant ts) I (map positive (map (limit_atom (place_form ts)) ls)))
      (limit_holds (number_at ts I) l) (one_holds (number_at ts I) ls)
      (limits_valued ℕ (map meant ts) I (place_form ts) (number_at ts I) l (All-head AreRead l ls h)) (limits_value ls (All-tail AreRead l ls h))

  row_value : (i : ℕ) (r : Row ℕ) → IsRowOf IsRead r → some_true (map meant ts) I (placed_literals ts i r) ≡ row_holds (number_at ts I) (truth_of (value_at (map meant ts) I i)) r
  row_value i r h = go r.truth
    where
      go : (b : Option Bool) → some_true (map meant ts) I (truth_literals i b ++ map positive (row_atoms (place_form ts) r))
          ≡ (truth_holds (truth_of (value_at (map meant ts) I i)) b || one_holds (number_at ts I) r.limits)
      go None = limits_value r.limits h
      go (Some b) =
          both_or _ (some_true (map meant ts) I (map positive (row_atoms (place_form ts) r))) _ (one_holds (number_at ts I) r.limits) refl (limits_value r.limits h)

-- one of the rows
some_row : (r s : Row ℕ) → Some r ≡ Some s → r ≡ s
some_row r s e = cc

row_of : (value : ℕ → ℤ) (truth : Bool) (rows : List (Row ℕ)) (n : ℕ) (r : Row ℕ) → rows_hold value truth rows ≡ true → slice_get rows n ≡ Some r → row_holds value truth r ≡ true
row_of value truth [] n r h e = absurd (cc)
row_of value truth (s ∷ rows) zero r h e = subst (λ x. row_holds value truth x ≡ true) (some_row s r e) (and_left (row_holds value truth s) (rows_hold value truth rows) h)
row_of value truth (s ∷ rows) (suc n) r h e = row_of value truth rows n r (and_right (row_holds value truth s) (rows_hold value truth rows) h) e

all_row_of : (P : ℕ → Type 0) (rows : List (Row ℕ)) (n : ℕ) (r : Row ℕ) → All (IsRowOf P) rows → slice_get rows n ≡ Some r → IsRowOf P r
all_row_of P [] n r h e = absurd (cc)
all_row_of P (s ∷ rows) zero r h e = subst (IsRowOf P) (some_row s r e) (All-head (IsRowOf P) s rows h)
all_row_of P (s ∷ rows) (suc n) r h e = all_row_of P rows n r (All-tail (IsRowOf P) s rows h) e

-- ---- the terms that a table speaks of

-- the arguments of a term with this head are Ints, and so is the term
abbrev OfInts : Operator → Type 0
OfInts o = (ds : List Declaration) (ss : List Sort) (s : Sort) → written_sort ds (Theory o) ss ≡ Some s → (all_of Ints ss ≡ true) × (s ≡ Ints)

of_ints : (b : Bool) (ss : List Sort) (s : Sort) → (if b then if_so (all_of Ints ss) Ints else None) ≡ Some s → (all_of Ints ss ≡ true) × (s ≡ Ints)
of_ints b ss s e = let p : (all_of Ints ss ≡ true) × (Ints ≡ s) = is_so (all_of Ints ss) Ints s (written_head b (if_so (all_of Ints ss) Ints) s e).1 in (p.0, sym p.1)

divide_of_ints : OfInts Divide
divide_of_ints ds ss s e = of_ints (is_written Divide (length ss)) ss s e

modulo_of_ints : OfInts Modulo
modulo_of_ints ds ss s e = of_ints (is_written Modulo (length ss)) ss s e

absolute_of_ints : OfInts Absolute
absolute_of_ints ds ss s e = of_ints (is_written Absolute (length ss)) ss s e

-- Ints at these places
int_places : (ds : List Declaration) (ts : List Tree) (is : List ℕ) (ss : List Sort) → All (λ j. j < length ts) is → term_sorts ds (pick ts is) ≡ Some ss → all_of Ints ss ≡ true
    → All (IsIntAt ds ts) is
int_places ds ts [] ss below e h = All-nil (IsIntAt ds ts)
int_places ds ts (i ∷ is) ss below e h =
    let s : Split (term_sort ds (tree_at ts i)) (term_sorts ds (pick ts is)) ss = split (term_sort ds (tree_at ts i)) (term_sorts ds (pick ts is)) ss e in
    let ints : all_of Ints (s.first ∷ s.others) ≡ true = subst (λ xs. all_of Ints xs ≡ true) (sym s.all) h in
    All-cons (IsIntAt ds ts) i is (All-head (λ j. j < length ts) i is below, s.first_is ∙ ap Some (first_int s.first s.others ints))
    (int_places ds ts is s.others (All-tail (λ j. j < length ts) i is below) s.others_are (other_ints s.first s.others ints))

-- a term with such a head stands among the terms, and is an Int
int_term : (ds : List Declaration) (ns : List Node) (ts : List Tree) → AreTerms ds ns ts → (o : Operator) (us : Trees) (j : ℕ) → OfInts o
    → (node (Theory False) none ≡ node (Theory o) us → ⊥) → tree_at ts j ≡ node (Theory o) us → IsIntAt ds ts j
int_term ds ns ts terms o us j ints other e = elim (cases_lt j (length ts)) [
  | inl within ↦ (
      let r : IsReadable ds ts (tree_at ts j) = readable_at ds ns ts terms j within in
      let s : Sorted ds (Theory o) us r.sort = sorted ds (Theory o) us r.sort (ap (term_sort ds) (sym e) ∙ r.has_sort) in
      (within, r.has_sort ∙ ap Some (ints ds s.sorts r.sort s.whole).1)
      )
  | inr past ↦ absurd (other (sym (get_or_past ts j (node (Theory False) none) past) ∙ e))
]

-- ---- divisors

-- where the last of these divides
last_divides : (ts : List Tree) (is : List ℕ) (n : ℕ) → are_divisors (pick ts (is ++ n ∷ [])) ≡ true → is_divisor (tree_at ts n) ≡ true
last_divides ts [] n h = and_left (is_divisor (tree_at ts n)) true h
last_divides ts (i ∷ is) n h = last_divides ts is n (and_right (is_divisor (tree_at ts i)) (are_divisors (pick ts (is ++ n ∷ []))) h)

-- the number of a divisor
divisor_number : (ts : List Tree) (I : Interpretation) (n : ℕ) → is_divisor (tree_at ts n) ≡ true → (number_at ts I n ≡ divisor_at ts n) × (divisor_at ts n ≢ pos 0)
divisor_number ts I n h =
    let is : (number_of (value I (tree_at ts n)) ≡ divisor_at ts n) × (divisor_at ts n ≢ pos 0) = divisor_is ts I (tree_at ts n) h in
    (ap number_of (meant_value_at ts I n ∙ ap (value I) (meant_divisor (tree_at ts n) h)) ∙ is.0, is.1)

-- the last is taken by the operation on the others
values_last : (ts : List Tree) (I : Interpretation) (is : List ℕ) (n : ℕ) → values I (pick ts (is ++ n ∷ [])) ≡ values I (pick ts is) ++ value_at ts I n ∷ []
values_last ts I [] n = refl
values_last ts I (i ∷ is) n = ap (λ vs. value_at ts I i ∷ vs) (values_last ts I is n)

fold_last : (f : Value → Value → Value) (v : Value) (ws : List Value) (w : Value) → fold_left f v (ws ++ w ∷ []) ≡ f (fold_left f v ws) w
fold_last f v [] w = refl
fold_last f v (x ∷ ws) w = fold_last f (f v x) ws w

quotient_number : (ts : List Tree) (I : Interpretation) (q a : ℕ) (u : Tree) → tree_at ts q ≡ quotient_tree (tree_at ts a) u
    → number_at ts I q ≡ quotient (number_at ts I a) (number_of (value I (meant u)))
quotient_number ts I q a u e =
    ap number_of (meant_value_at ts I q ∙ ap (λ t. value I (meant t)) e) ∙ ap (λ v. quotient (number_of v) (number_of (value I (meant u)))) (sym (meant_value_at ts I a))

-- ---- rows

-- a term at a place, with its head and the places of its arguments
record Placed (ds : List Declaration) (ts : List Tree) (I : Interpretation) (i : ℕ) (h : Head) (is : List ℕ) : Type 0 where
  within : i < length ts
  tree : tree_at ts i ≡ node h (pick ts is)
  below : All (λ j. j < length ts) is
  readable : IsReadable ds ts (tree_at ts i)
  has_value : value_at (map meant ts) I i ≡ apply_written I h (values I (pick (map meant ts) is))

placed : (ds : List Declaration) (ns : List Node) (ts : List Tree) (I : Interpretation) → AreTerms ds ns ts → (i : ℕ) → i < length ns
    → Placed ds ts I i (node_at ns i).head (node_at ns i).arguments
placed ds ns ts I terms i h =
    let count : length ns ≡ length ts = as_many ds ns ts terms in
    let inside : i < length ts = omega (arith, count, h) in
    let s : Stands ts (node_at ns i) i = stands ds ns ts terms i h in
    record { within = inside; tree = s.tree; below = s.below; readable = readable_at ds ns ts terms i inside; has_value = standing_value ds ns ts I terms i h }

linear_at : (ds : List Declaration) (ts : List Tree) (I : Interpretation) (i : ℕ) (h : Head) (is : List ℕ) → Placed ds ts I i h is → is_linear_with h (pick ts is) ≡ true
linear_at ds ts I i h is p =
    and_left (is_linear_with h (pick ts is)) (are_linear_terms (pick ts is)) (subst (λ t. is_linear_term t ≡ true) p.tree (p.readable).linear)

-- it and its arguments are Ints
ints_at : (ds : List Declaration) (ts : List Tree) (I : Interpretation) (i : ℕ) (o : Operator) (is : List ℕ) → OfInts o → Placed ds ts I i (Theory o) is
    → IsIntAt ds ts i × All (IsIntAt ds ts) is
ints_at ds ts I i o is of_ints p =
    let sort : Sort = (p.readable).sort in
    let s : Sorted ds (Theory o) (pick ts is) sort = sorted ds (Theory o) (pick ts is) sort (ap (term_sort ds) (sym p.tree) ∙ (p.readable).has_sort) in
    let ints : (all_of Ints s.sorts ≡ true) × (sort ≡ Ints) = of_ints ds s.sorts sort s.whole in
    ((p.within, (p.readable).has_sort ∙ ap Some ints.1), int_places ds ts is s.sorts p.below s.arguments ints.0)

-- what a quotient divides is an Int
divided_int : (ds : List Declaration) (t u : Tree) → term_sort ds (quotient_tree t u) ≡ Some Ints → term_sort ds t ≡ Some Ints
divided_int ds t u e =
    let s : Sorted ds (Theory Divide) (more t (more u none)) Ints = sorted ds (Theory Divide) (more t (more u none)) Ints e in
    let a : Split (term_sort ds t) (term_sorts ds (more u none)) s.sorts = split (term_sort ds t) (term_sorts ds (more u none)) s.sorts s.arguments in
    a.first_is ∙ ap Some (first_int a.first a.others (subst (λ xs. all_of Ints xs ≡ true) (sym a.all) (divide_of_ints ds s.sorts Ints s.whole).0))

-- the rows hold of the values, and are over terms that have the numbers of their forms
record Meets (ts : List Tree) (I : Interpretation) (i : ℕ) (rows : List (Row ℕ)) : Type 0 where
  hold : rows_hold (number_at ts I) (truth_of (value_at (map meant ts) I i)) rows ≡ true
  read : All (IsRowOf (IsRead ts I)) rows

two_of : (P : ℕ → Type 0) (a b : ℕ) → P a → P b → All P (a ∷ b ∷ [])
two_of P a b h k = All-cons P a (b ∷ []) h (All-cons P b [] k (All-nil P))

three_of : (P : ℕ → Type 0) (a b c : ℕ) → P a → P b → P c → All P (a ∷ b ∷ c ∷ [])
three_of P a b c h k l = All-cons P a (b ∷ c ∷ []) h (two_of P b c k l)

module _ (ds : List Declaration) (ns : List Node) (ts : List Tree) (I : Interpretation) (terms : AreTerms ds ns ts) (facts : Facts ds ts I) where
  is_read : (j : ℕ) → IsIntAt ds ts j → IsRead ts I j
  is_read j h = sym (facts.number j h)

  -- the term at i is the one at a divided by the one at n
  quotient_meets : (i a n : ℕ) → IsIntAt ds ts i → IsIntAt ds ts a → is_divisor (tree_at ts n) ≡ true → number_at ts I i ≡ quotient (number_at ts I a) (number_at ts I n)
      → Meets ts I i (quotient_rows a (divisor_at ts n) i)
  quotient_meets i a n hi ha d e =
      let number : (number_at ts I n ≡ divisor_at ts n) × (divisor_at ts n ≢ pos 0) = divisor_number ts I n d in
      record {
        hold = (rows_force (number_at ts I) (truth_of (value_at (map meant ts) I i)) (divisor_at ts n) number.1).quotient_meets i a a (e ∙ ap (quotient (number_at ts I a)) number.0);
        read = of_term (IsRead ts I) Divide (divisor_at ts n) i (a ∷ a ∷ []) (is_read i hi) (two_of (IsRead ts I) a a (is_read a ha) (is_read a ha));
      }

  last_meets : (i a n j : ℕ) (js : List ℕ) → tree_at ts a ≡ node (Theory Divide) (pick ts (j ∷ js)) → Placed ds ts I i (Theory Divide) (j ∷ js ++ n ∷ [])
      → Meets ts I i (quotient_rows a (divisor_at ts n) i)
  last_meets i a n j js e p =
      let trees : List Tree = map meant ts in
      quotient_meets i a n (ints_at ds ts I i Divide (j ∷ js ++ n ∷ []) divide_of_ints p).0
      (int_term ds ns ts terms Divide (pick ts (j ∷ js)) a divide_of_ints (λ k. cc) e)
      (last_divides ts js n (linear_at ds ts I i (Theory Divide) (j ∷ js ++ n ∷ []) p))
      (ap number_of
      (p.has_value ∙ ap (fold_left (on_numbers quotient) (value_at trees I j)) (values_last trees I js n)
      ∙ fold_last (on_numbers quotient) (value_at trees I j) (values I (pick trees js)) (value_at trees I n))
      ∙ ap (λ v. quotient (number_of v) (number_at ts I n))
      (sym (meant_value_at ts I a ∙ ap (λ t. value I (meant t)) e ∙ written_value I (Theory Divide) (all_meant (pick ts (j ∷ js)))
      ∙ ap (λ us. operate Divide (values I us)) (sym (meant_picked ts (j ∷ js))))))

  meets : (i : ℕ) (h : Head) (is : List ℕ) (rows : List (Row ℕ)) → HasRows ts i h is rows → Placed ds ts I i h is → Meets ts I i rows
  meets i _ _ _ (of_quotient a n) p =
      let ints : IsIntAt ds ts i × All (IsIntAt ds ts) (a ∷ n ∷ []) = ints_at ds ts I i Divide (a ∷ n ∷ []) divide_of_ints p in
      quotient_meets i a n ints.0 (All-head (IsIntAt ds ts) a (n ∷ []) ints.1) (and_left (is_divisor (tree_at ts n)) true (linear_at ds ts I i (Theory Divide) (a ∷ n ∷ []) p)) (ap number_of p.has_value)
  meets i _ _ _ (of_last_quotient a n [] two e) p = absurd (omega (arith, two))
  meets i _ _ _ (of_last_quotient a n (j ∷ js) two e) p = last_meets i a n j js e p
  meets i _ _ _ (of_remainder a n q e) p =
      let ints : IsIntAt ds ts i × All (IsIntAt ds ts) (a ∷ n ∷ []) = ints_at ds ts I i Modulo (a ∷ n ∷ []) modulo_of_ints p in
      let ha : IsRead ts I a = is_read a (All-head (IsIntAt ds ts) a (n ∷ []) ints.1) in
      let hq : IsRead ts I q = is_read q (int_term ds ns ts terms Divide (more (tree_at ts a) (more (tree_at ts n) none)) q divide_of_ints (λ k. cc) e) in
      let number : (number_at ts I n ≡ divisor_at ts n) × (divisor_at ts n ≢ pos 0) =
      divisor_number ts I n (and_left (is_divisor (tree_at ts n)) true (linear_at ds ts I i (Theory Modulo) (a ∷ n ∷ []) p)) in
      record {
        hold = (rows_force (number_at ts I) (truth_of (value_at (map meant ts) I i)) (divisor_at ts n) number.1).remainder_meets i a a q
            (quotient_number ts I q a (tree_at ts n) e ∙ ap (quotient (number_at ts I a)) (ap number_of (sym (meant_value_at ts I n)) ∙ number.0))
            (ap number_of p.has_value ∙ ap (remainder (number_at ts I a)) number.0);
        read = of_term (IsRead ts I) Modulo (divisor_at ts n) i (a ∷ a ∷ q ∷ []) (is_read i ints.0) (three_of (IsRead ts I) a a q ha ha hq);
      }
  meets i _ _ _ (of_divisibility a q n e) p =
      let iq : IsIntAt ds ts q = int_term ds ns ts terms Divide (more (tree_at ts a) (more (node (Numeral n) none) none)) q divide_of_ints (λ k. cc) e in
      let ha : IsRead ts I a = is_read a (All-head (λ j. j < length ts) a [] p.below, divided_int ds (tree_at ts a) (node (Numeral n) none) (ap (term_sort ds) (sym e) ∙ iq.1)) in
      let number : (n ≡ n) × (n ≢ pos 0) = divisor_is ts I (node (Numeral n) none) (linear_at ds ts I i (Numeral n) (a ∷ []) p) in
      record {
        hold = (rows_force (number_at ts I) (truth_of (value_at (map meant ts) I i)) n number.1).divisibility_meets a a a q
            (quotient_number ts I q a (node (Numeral n) none) e) (ap truth_of p.has_value);
        read = of_term (IsRead ts I) Divisible n a (a ∷ a ∷ q ∷ []) ha (three_of (IsRead ts I) a a q ha ha (is_read q iq));
      }
  meets i _ _ _ (of_absolute a) p =
      let ints : IsIntAt ds ts i × All (IsIntAt ds ts) (a ∷ []) = ints_at ds ts I i Absolute (a ∷ []) absolute_of_ints p in
      record {
        hold = (absolute_forced (number_at ts I) (truth_of (value_at (map meant ts) I i))).absolute_meets (pos 1) i a (ap number_of p.has_value);
        read = of_term (IsRead ts I) Absolute (pos 1) i (a ∷ []) (is_read i ints.0)
            (All-cons (IsRead ts I) a [] (is_read a (All-head (IsIntAt ds ts) a [] ints.1)) (All-nil (IsRead ts I)));
      }

  pub euclid_true : (i n : ℕ) (ls : List Literal) → IsEuclid ns ts i n ls → some_true (map meant ts) I ls ≡ true
  euclid_true i n ls h =
      let m : Meets ts I i h.rows = meets i (node_at ns i).head (node_at ns i).arguments h.rows h.has (placed ds ns ts I terms i h.within) in
      subst (λ ms. some_true (map meant ts) I ms ≡ true) (sym h.clause)
      (row_value ts I i h.row (all_row_of (IsRead ts I) h.rows n h.row m.read h.row_is)
      ∙ row_of (number_at ts I) (truth_of (value_at (map meant ts) I i)) h.rows n h.row m.hold h.row_is)
