-- The places of the sum of a linear form are those of leaves of its term.
use Rattle.std.proofs.Common.{◌≡◌, inl, inr, ℕ, zero, Bool, true, false, List, [], ◌∷◌, length, All, Some, subst, sym, ap, ◌∙◌, refl}
use Rattle.std.specs.Prelude.{ℤ, pos, negsuc, ◌+ℤ◌, neg_ℤ, ◌-ℤ◌, nat_eq, nat_lt, if◌then◌else◌}
use Rattle.std.proofs.lemmas.List.Elements.{All-nil, All-cons, All-head, All-tail}
use Rattle.smt_laws.proofs.Both.{and_left, and_right}
use Rattle.smt_meaning.specs.declared.terms.Operator.TheVariants.{Add, Subtract, Multiply}
use Rattle.smt_meaning.specs.declared.terms.Operator.{Operator}
use Rattle.smt_meaning.specs.declared.terms.Head.TheVariants.{Numeral, Theory}
use Rattle.smt_meaning.specs.declared.clauses.Summand.{Summand}
use Rattle.smt_meaning.specs.Term.{Tree, Trees, node, none, more, tree_at}
use Rattle.smt_meaning.specs.TreeShape.{place_of}
use Rattle.smt_meaning.specs.declared.values.Sort.{Sort}
use Rattle.smt_meaning.specs.declared.values.Sort.TheVariants.{Int as Ints}
use Rattle.smt_meaning.specs.Declaration.{Declaration}
use Rattle.smt_meaning.specs.Signature.{tree_sort, tree_sorts, operator_sort, if_so, all_of, sort_eq, stands_with}
use Rattle.smt_meaning.specs.CheckAtoms.{is_leaf}
use Rattle.scope_stack.proofs.SortLemmas.{HasArguments, arguments_of, HasFirst, first_of, stands_so}
use Rattle.check_atoms.proofs.Sorting.{sort_is, if_so_true}
use Rattle.smt_meaning.specs.Parts.{IsPart, IsPartOfOne}
use Rattle.smt_meaning.specs.Clause.{sum_places, atom_places}
use Rattle.smt_meaning.specs.Linear.{Form, summand, is_zero, unless_zero, placed, with_term, sums_added, each_times, sum_times, form_plus, form_minus, form_product, fold_forms, folded, difference_form, linear_form, linear_forms}
use Rattle.smt_meaning.specs.Division.{combined}
use Rattle.smt_meaning.specs.Atoms.{each_divided, normal_bound, difference_of, limit_atom}
use Rattle.smt_laws.specs.Rows.{place_form}
use Rattle.linear_forms.specs.declared.multiples.Multiple.{Multiple}
use Rattle.linear_forms.specs.Multiples.{multiples_of}
use Rattle.pair_bounds.specs.declared.rows.RowLimit.{RowLimit}
use Rattle.pair_bounds.specs.Rows.{multiples, limit_of_row}
use Rattle.bound_clauses.specs.declared.orders.Sense.{Sense}
use Rattle.bound_clauses.specs.declared.orders.Sense.TheVariants.{NotAbove, Below}
use Rattle.bound_clauses.specs.declared.orders.Order.{Order}
use Rattle.bound_clauses.specs.Orders.{atom_of, bound_atom}

-- ---- the arguments of sums, differences and products

abbrev pub IsInt : List Declaration → Tree → Type 0
IsInt ds t = tree_sort ds t ≡ Some Ints

abbrev AreInts : List Declaration → Trees → Type 0
AreInts ds none = Unit {0}
AreInts ds (more u us) = IsInt ds u × AreInts ds us

all_ints : (ds : List Declaration) (us : Trees) (ss : List Sort) → tree_sorts ds us ≡ Some ss → all_of Ints ss ≡ true → AreInts ds us
all_ints ds none ss e a = tt
all_ints ds (more u us) ss e a =
    let f : HasFirst ds u us ss = first_of ds u us ss e in
    let b : all_of Ints (f.first ∷ f.rest) ≡ true = subst (λ xs. all_of Ints xs ≡ true) f.are a in
    (f.here ∙ ap Some (sym (sort_is Ints f.first (and_left (sort_eq Ints f.first) _ b))), all_ints ds us f.rest f.later (and_right (sort_eq Ints f.first) _ b))

inner_ints : (ds : List Declaration) (o : Operator) (us : Trees) → ((ss : List Sort) → operator_sort o ss ≡ if_so (all_of Ints ss) Ints) → IsInt ds (node (Theory o) us) → AreInts ds us
inner_ints ds o us by i =
    let args : HasArguments ds (Theory o) us Ints = arguments_of ds (Theory o) us Ints i in
    let made : operator_sort o args.sorts ≡ Some Ints = stands_so (stands_with o (length args.sorts)) (operator_sort o args.sorts) Ints args.made in
    all_ints ds us args.sorts args.are (if_so_true (all_of Ints args.sorts) Ints Ints (sym (by args.sorts) ∙ made))

-- ---- places of sums

module _ (P : ℕ → Type 0) where
  -- each place of the sum is one of these
  abbrev pub HasPlaces : List Summand → Type 0
  HasPlaces [] = Unit {0}
  HasPlaces (p ∷ ps) = P p.term × HasPlaces ps

  abbrev pub HavePlaces : List Form → Type 0
  HavePlaces [] = Unit {0}
  HavePlaces (f ∷ fs) = HasPlaces f.sum × HavePlaces fs

  either : (b : Bool) (xs ys : List Summand) → HasPlaces xs → HasPlaces ys → HasPlaces (if b then xs else ys)
  either true xs ys h g = h
  either false xs ys h g = g

  unless : (i : ℕ) (c : ℤ) (ps : List Summand) → P i → HasPlaces ps → HasPlaces (unless_zero i c ps)
  unless i c ps h g = either (is_zero c) ps (summand i c ∷ ps) g (h, g)

  put : (b same : Bool) (i : ℕ) (c : ℤ) (p : Summand) (ps rest : List Summand) → P i → HasPlaces (p ∷ ps) → HasPlaces rest → HasPlaces (placed b same i c p ps rest)
  put true same i c p ps rest h g r = unless i c (p ∷ ps) h g
  put false true i c p ps rest h g r = unless i (c +ℤ p.coefficient) ps h g.1
  put false false i c p ps rest h g r = (g.0, r)

  term_more : (i : ℕ) (c : ℤ) (ps : List Summand) → P i → HasPlaces ps → HasPlaces (with_term i c ps)
  term_more i c [] h g = unless i c [] h g
  term_more i c (p ∷ ps) h g = put (nat_lt i p.term) (nat_eq i p.term) i c p ps (with_term i c ps) h g (term_more i c ps h g.1)

  both : (ps qs : List Summand) → HasPlaces ps → HasPlaces qs → HasPlaces (sums_added ps qs)
  both [] qs h g = g
  both (p ∷ ps) qs h g = term_more p.term p.coefficient (sums_added ps qs) h.0 (both ps qs h.1 g)

  each_multiple : (k : ℤ) (ps : List Summand) → HasPlaces ps → HasPlaces (each_times k ps)
  each_multiple k [] h = h
  each_multiple k (p ∷ ps) h = (h.0, each_multiple k ps h.1)

  multiple : (k : ℤ) (ps : List Summand) → HasPlaces ps → HasPlaces (sum_times k ps)
  multiple k ps h = either (is_zero k) [] (each_times k ps) tt (each_multiple k ps h)

  added : (f g : Form) → HasPlaces f.sum → HasPlaces g.sum → HasPlaces (form_plus f g).sum
  added f g h k = both f.sum g.sum h k

  taken : (f g : Form) → HasPlaces f.sum → HasPlaces g.sum → HasPlaces (form_minus f g).sum
  taken f g h k = both f.sum (sum_times (negsuc zero) g.sum) h (multiple (negsuc zero) g.sum k)

  multiplied : (f g : Form) → HasPlaces f.sum → HasPlaces g.sum → HasPlaces (form_product f g).sum
  multiplied f g h k = by f.sum f.constant h
    where
      by : (ps : List Summand) (n : ℤ) → HasPlaces ps → HasPlaces (form_product (record { sum = ps; constant = n }) g).sum
      by [] n h = multiple n g.sum k
      by (p ∷ ps) n h = multiple g.constant (p ∷ ps) h

  module _ (op : Form → Form → Form) (keeps : (f g : Form) → HasPlaces f.sum → HasPlaces g.sum → HasPlaces (op f g).sum) where
    folded_from : (f : Form) (gs : List Form) → HasPlaces f.sum → HavePlaces gs → HasPlaces (fold_forms op f gs).sum
    folded_from f [] h k = h
    folded_from f (g ∷ gs) h k = folded_from (op f g) gs (keeps f g h k.0) k.1

    all_folded : (fs : List Form) → HavePlaces fs → HasPlaces (folded op fs).sum
    all_folded [] h = tt
    all_folded (f ∷ fs) h = folded_from f fs h.0 h.1

  subtracted : (fs : List Form) → HavePlaces fs → HasPlaces (difference_form fs).sum
  subtracted [] h = tt
  subtracted (f ∷ []) h = multiple (negsuc zero) f.sum h.0
  subtracted (f ∷ g ∷ gs) h = folded_from form_minus taken f (g ∷ gs) h.0 h.1

  module _ (ts : List Tree) (ds : List Declaration) where
    mutual
      form_places : (t : Tree) → IsInt ds t → ((u : Tree) → IsPart u t → is_leaf u ≡ true → IsInt ds u → P (place_of u ts)) → HasPlaces (linear_form ts t).sum
      form_places (node (Numeral n) us) i leaves = tt
      form_places (node (Theory Add) us) i leaves =
          all_folded form_plus added (linear_forms ts us) (forms_places us (inner_ints ds Add us (λ ss. refl) i) (λ u q. leaves u (inr q)))
      form_places (node (Theory Subtract) us) i leaves = subtracted (linear_forms ts us) (forms_places us (inner_ints ds Subtract us (λ ss. refl) i) (λ u q. leaves u (inr q)))
      form_places (node (Theory Multiply) us) i leaves =
          all_folded form_product multiplied (linear_forms ts us) (forms_places us (inner_ints ds Multiply us (λ ss. refl) i) (λ u q. leaves u (inr q)))
      form_places (node h us) i leaves = (leaves (node h us) (inl refl) refl i, tt)

      forms_places : (us : Trees) → AreInts ds us → ((u : Tree) → IsPartOfOne u us → is_leaf u ≡ true → IsInt ds u → P (place_of u ts)) → HavePlaces (linear_forms ts us)
      forms_places none i leaves = tt
      forms_places (more u us) i leaves = (form_places u i.0 (λ v q. leaves v (inl q)), forms_places us i.1 (λ v q. leaves v (inr q)))

    quotients : (g : ℤ) (ps : List Summand) → HasPlaces ps → All P (sum_places (each_divided g ps))
    quotients g [] h = All-nil P
    quotients g (p ∷ ps) h = All-cons P p.term (sum_places (each_divided g ps)) h.0 (quotients g ps h.1)

    normal : (ps : List Summand) (k : ℤ) → HasPlaces ps → All P (atom_places (normal_bound ps k))
    normal [] k h = All-nil P
    normal (p ∷ ps) k h = quotients _ (p ∷ ps) h

    abbrev pub HaveLeaves : Tree → Type 0
    HaveLeaves t = (u : Tree) → IsPart u t → is_leaf u ≡ true → IsInt ds u → P (place_of u ts)

    difference : (s t : Tree) → IsInt ds s → IsInt ds t → HaveLeaves s → HaveLeaves t → HasPlaces (difference_of ts s t).sum
    difference s t i j a b = taken (linear_form ts s) (linear_form ts t) (form_places s i a) (form_places t j b)

    by_sense : (sense : Sense) (s t : Tree) → IsInt ds s → IsInt ds t → HaveLeaves s → HaveLeaves t → All P (atom_places (atom_of sense ts s t))
    by_sense NotAbove s t i j a b = normal (difference_of ts s t).sum (neg_ℤ (difference_of ts s t).constant) (difference s t i j a b)
    by_sense Below s t i j a b = normal (difference_of ts s t).sum (neg_ℤ (difference_of ts s t).constant -ℤ pos 1) (difference s t i j a b)

    -- each place of a bound's sum is one of these, where those of the leaves of both terms are
    pub bound_places : (o : Order) → IsInt ds (tree_at ts o.lesser) → IsInt ds (tree_at ts o.greater) → HaveLeaves (tree_at ts o.lesser) → HaveLeaves (tree_at ts o.greater)
        → All P (atom_places (bound_atom ts o))
    bound_places o i j a b = by_sense o.sense (tree_at ts o.lesser) (tree_at ts o.greater) i j a b

    abbrev HasIntTerm : Multiple → Type 0
    HasIntTerm m = IsInt ds (tree_at ts m.term)

    abbrev HasLeaves : Multiple → Type 0
    HasLeaves m = HaveLeaves (tree_at ts m.term)

    multiples_places : (ms : List Multiple) → All HasIntTerm ms → All HasLeaves ms → HasPlaces (combined (place_form ts) (multiples_of ms)).sum
    multiples_places [] i h = tt
    multiples_places (m ∷ ms) i h =
        both (sum_times m.factor (place_form ts m.term).sum) (combined (place_form ts) (multiples_of ms)).sum
        (multiple m.factor (place_form ts m.term).sum (form_places (tree_at ts m.term) (All-head HasIntTerm m ms i) (All-head HasLeaves m ms h)))
        (multiples_places ms (All-tail HasIntTerm m ms i) (All-tail HasLeaves m ms h))

    -- so is each of a limit's, where those of the leaves of its terms are
    pub limit_places : (l : RowLimit) → All HasIntTerm (multiples l) → All HasLeaves (multiples l) → All P (atom_places (limit_atom (place_form ts) (limit_of_row l)))
    limit_places l i h =
        normal (combined (place_form ts) (multiples_of (multiples l))).sum (l.most -ℤ (combined (place_form ts) (multiples_of (multiples l))).constant) (multiples_places (multiples l) i h)
