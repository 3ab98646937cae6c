-- The clauses are true exactly where the signs fit.
use Rattle.std.proofs.Common.{◌≡◌, ℕ, Bool, true, false, not, nat_eq, ◌||◌, List, [], ◌∷◌, ◌++◌, map, refl, sym, ap, ◌∙◌, arith}
use Rattle.std.specs.Prelude.{◌&&◌, if◌then◌else◌}
use Rattle.std.proofs.lemmas.Bool.{eqb-true}
use Rattle.std.proofs.lemmas.List.{map-append}
use Rattle.std.proofs.lemmas.List.Elements.{All-cons, All-nil, All-head, All-tail}
use Rattle.literals.specs.Signed.{Signed, sign, some_true}
use Rattle.smt_meaning.specs.declared.values.Value.{Value}
use Rattle.smt_meaning.specs.declared.values.Value.TheVariants.{Truth}
use Rattle.smt_meaning.specs.declared.terms.Operator.{Operator}
use Rattle.smt_meaning.specs.declared.terms.Operator.TheVariants.{True, False, Not, And, Or, Xor, Implies, Equal, Distinct, Ite, Add, Subtract, Multiply, AtMost, Less, AtLeast, Greater, Divide, Modulo, Absolute, Divisible}
use Rattle.smt_meaning.specs.Term.{Tree, Interpretation, operate, truth_of, same_value, bool_eq, chain_from, with_each, pairwise, differ}
use Rattle.smt_meaning.specs.Clause.{value_at, atom_true}
use Rattle.smt_laws.proofs.Both.{and_left, and_right, and_both}
use Rattle.smt_laws.proofs.SameValue.{same_value-true, same_value-self}
use Rattle.equality_clauses.specs.Once.{is_in, taken, taken_all, once}
use Rattle.equality_clauses.specs.Ties.{literal, yes, no, joined, parity, choice_clauses}
use Rattle.equality_clauses.specs.Laws.{of_neighbours, of_first, of_pairs, compared, pair_same, AgreeOnPairs, AllTrue, ComparisonIsTied, ChoiceIsTied, SamenessIsTied, InterpretationAgrees}
use Rattle.equality_clauses.proofs.OnceLemmas.{taken_old, taken_new}

-- ---- tests

and_assoc : (a b c : Bool) → ((a && b) && c) ≡ (a && (b && c))
and_assoc true b c = refl
and_assoc false b c = refl

and_true : (a : Bool) → (a && true) ≡ a
and_true true = refl
and_true false = refl

absorbed : (a b : Bool) → (a ≡ true → b ≡ true) → a ≡ (a && b)
absorbed true b h = sym (h refl)
absorbed false b h = refl

or_false : (a : Bool) → (a || false) ≡ a
or_false true = refl
or_false false = refl

-- ---- each has the sign

abbrev pub every : Bool → List Bool → Bool
every s [] = true
every s (b ∷ bs) = sign s b && every s bs

every-append : (s : Bool) (bs cs : List Bool) → every s (bs ++ cs) ≡ (every s bs && every s cs)
every-append s [] cs = refl
every-append s (b ∷ bs) cs = ap (λ x. sign s b && x) (every-append s bs cs) ∙ sym (and_assoc (sign s b) (every s bs) (every s cs))

module _ (a : ℕ → Bool) (s : Bool) where
  all_signed : List ℕ → Bool
  all_signed ns = every s (map a ns)

  signed_in : (ns : List ℕ) (n : ℕ) → is_in n ns ≡ true → every s (map a ns) ≡ true → sign s (a n) ≡ true
  signed_in [] n h all = cc
  signed_in (m ∷ ms) n h all = by (nat_eq n m) refl h (λ k. signed_in ms n k (and_right (sign s (a m)) (every s (map a ms)) all))
    where
      by : (b : Bool) → nat_eq n m ≡ b → (b || is_in n ms) ≡ true → (is_in n ms ≡ true → sign s (a n) ≡ true) → sign s (a n) ≡ true
      by true e h next = ap (λ k. sign s (a k)) (eqb-true n m e) ∙ and_left (sign s (a m)) (every s (map a ms)) all
      by false e h next = next h

  every-taken : (kept : List ℕ) (n : ℕ) → every s (map a (taken kept n)) ≡ (every s (map a kept) && sign s (a n))
  every-taken kept n = by (is_in n kept) refl
    where
      by : (b : Bool) → is_in n kept ≡ b → every s (map a (taken kept n)) ≡ (every s (map a kept) && sign s (a n))
      by true e = ap (λ xs. every s (map a xs)) (taken_old kept n e) ∙ absorbed (every s (map a kept)) (sign s (a n)) (signed_in kept n e)
      by false e =
          ap (λ xs. every s (map a xs)) (taken_new kept n e) ∙ ap (every s) (map-append a kept (n ∷ [])) ∙ every-append s (map a kept) (a n ∷ [])
          ∙ ap (λ x. every s (map a kept) && x) (and_true (sign s (a n)))

  every-taken_all : (kept ns : List ℕ) → every s (map a (taken_all kept ns)) ≡ (every s (map a kept) && every s (map a ns))
  every-taken_all kept [] = sym (and_true (every s (map a kept)))
  every-taken_all kept (n ∷ ns) =
      every-taken_all (taken kept n) ns ∙ ap (λ x. x && every s (map a ns)) (every-taken kept n) ∙ and_assoc (every s (map a kept)) (sign s (a n)) (every s (map a ns))

  every-once : (ns : List ℕ) → every s (map a (once ns)) ≡ every s (map a ns)
  every-once ns = every-taken_all [] ns

  -- ---- the clauses that join

  not_sign : (s b : Bool) → sign (not s) b ≡ not (sign s b)
  not_sign true b = refl
  not_sign false true = refl
  not_sign false false = refl

  not_and : (x y : Bool) → (not x || not y) ≡ not (x && y)
  not_and true y = refl
  not_and false y = refl

  some_opposite : (ns : List ℕ) → some_true a (map (literal (not s)) ns) ≡ not (every s (map a ns))
  some_opposite [] = refl
  some_opposite (n ∷ ns) =
      ap (λ x. x || some_true a (map (literal (not s)) ns)) (not_sign s (a n)) ∙ ap (λ x. not (sign s (a n)) || x) (some_opposite ns) ∙ not_and (sign s (a n)) (every s (map a ns))

  each_true : (t : ℕ) (ns : List ℕ) → (a t ≡ true → every s (map a ns) ≡ true) → AllTrue a (map (λ n. no t ∷ literal s n ∷ []) ns)
  each_true t [] h = All-nil (λ ls. some_true a ls ≡ true)
  each_true t (n ∷ ns) h =
      All-cons (λ ls. some_true a ls ≡ true) (no t ∷ literal s n ∷ []) (map (λ m. no t ∷ literal s m ∷ []) ns) (one (a t) (λ e. and_left (sign s (a n)) (every s (map a ns)) (h e)))
      (each_true t ns (λ e. and_right (sign s (a n)) (every s (map a ns)) (h e)))
    where
      one : (b : Bool) → (b ≡ true → sign s (a n) ≡ true) → (not b || (sign s (a n) || false)) ≡ true
      one true h = or_false (sign s (a n)) ∙ h refl
      one false h = refl

  pub joined_true : (t : ℕ) (ns : List ℕ) → a t ≡ every s (map a ns) → AllTrue a (joined t s ns)
  joined_true t ns e =
      All-cons (λ ls. some_true a ls ≡ true) (yes t ∷ map (literal (not s)) ns) (map (λ n. no t ∷ literal s n ∷ []) ns)
      (ap (λ x. a t || x) (some_opposite ns) ∙ ap (λ x. x || not (every s (map a ns))) e ∙ either (every s (map a ns))) (each_true t ns (λ h. sym e ∙ h))
    where
      either : (b : Bool) → (b || not b) ≡ true
      either true = refl
      either false = refl

  each_signed : (t : ℕ) (ns : List ℕ) → a t ≡ true → AllTrue a (map (λ n. no t ∷ literal s n ∷ []) ns) → every s (map a ns) ≡ true
  each_signed t [] e all = refl
  each_signed t (n ∷ ns) e all =
      and_both (sign s (a n)) (every s (map a ns))
      (sym (or_false (sign s (a n))) ∙ ap (λ b. not b || (sign s (a n) || false)) (sym e)
      ∙ All-head (λ ls. some_true a ls ≡ true) (no t ∷ literal s n ∷ []) (map (λ m. no t ∷ literal s m ∷ []) ns) all)
      (each_signed t ns e (All-tail (λ ls. some_true a ls ≡ true) (no t ∷ literal s n ∷ []) (map (λ m. no t ∷ literal s m ∷ []) ns) all))

  pub joined_says : (t : ℕ) (ns : List ℕ) → AllTrue a (joined t s ns) → a t ≡ every s (map a ns)
  joined_says t ns all =
      by (a t) refl (All-head (λ ls. some_true a ls ≡ true) (yes t ∷ map (literal (not s)) ns) (map (λ n. no t ∷ literal s n ∷ []) ns) all)
      (All-tail (λ ls. some_true a ls ≡ true) (yes t ∷ map (literal (not s)) ns) (map (λ n. no t ∷ literal s n ∷ []) ns) all)
    where
      not_true : (b : Bool) → not b ≡ true → false ≡ b
      not_true true h = cc
      not_true false h = refl

      by : (b : Bool) → a t ≡ b → (b || some_true a (map (literal (not s)) ns)) ≡ true → AllTrue a (map (λ n. no t ∷ literal s n ∷ []) ns) → b ≡ every s (map a ns)
      by true e long rest = sym (each_signed t ns e rest)
      by false e long rest = not_true (every s (map a ns)) (sym (some_opposite ns) ∙ long)

-- ---- `=` and `distinct` of values

module _ (v : ℕ → Value) where
  chain_every : (i : ℕ) (js : List ℕ) → chain_from same_value (v i) (map v js) ≡ every true (map (pair_same v) (of_neighbours i js))
  chain_every i [] = refl
  chain_every i (j ∷ js) = ap (λ x. same_value (v i) (v j) && x) (chain_every j js)

  first_every : (i : ℕ) (js : List ℕ) → with_each differ (v i) (map v js) ≡ every false (map (pair_same v) (of_first i js))
  first_every i [] = refl
  first_every i (j ∷ js) = ap (λ x. differ (v i) (v j) && x) (first_every i js)

  pairs_every : (is : List ℕ) → pairwise differ (map v is) ≡ every false (map (pair_same v) (of_pairs is))
  pairs_every [] = refl
  pairs_every (i ∷ is) =
      ap (λ x. x && pairwise differ (map v is)) (first_every i is) ∙ ap (λ x. every false (map (pair_same v) (of_first i is)) && x) (pairs_every is)
      ∙ sym (every-append false (map (pair_same v) (of_first i is)) (map (pair_same v) (of_pairs is))) ∙ ap (every false) (sym (map-append (pair_same v) (of_first i is) (of_pairs is)))

  pub equal_every : (is : List ℕ) → operate Equal (map v is) ≡ Truth (every true (map (pair_same v) (compared Equal is)))
  equal_every [] = refl
  equal_every (i ∷ is) = ap Truth (chain_every i is)

  pub distinct_every : (is : List ℕ) → operate Distinct (map v is) ≡ Truth (every false (map (pair_same v) (compared Distinct is)))
  distinct_every is = ap Truth (pairs_every is)

  -- with the signs
  module _ (o : Operator) (s : Bool) (a : ℕ → Bool) (t : ℕ) (pairs is : List ℕ) (agree : AgreeOnPairs v a pairs (compared o is))
      (value_is : operate o (map v is) ≡ Truth (every s (map (pair_same v) (compared o is)))) where
    whole : operate o (map v is) ≡ Truth (every s (map a (once pairs)))
    whole = value_is ∙ ap (λ bs. Truth (every s bs)) (sym agree) ∙ ap Truth (sym (every-once a s pairs))

    tied : (a t ≡ truth_of (operate o (map v is)) → AllTrue a (joined t s (once pairs))) × (AllTrue a (joined t s (once pairs)) → Truth (a t) ≡ operate o (map v is))
    tied = (λ e. joined_true a s t (once pairs) (e ∙ ap truth_of whole), λ all. ap Truth (joined_says a s t (once pairs) all) ∙ sym whole)

pub comparison_tied : ComparisonIsTied
comparison_tied Equal v a t pairs is h agree = tied v Equal true a t pairs is agree (equal_every v is)
comparison_tied Distinct v a t pairs is h agree = tied v Distinct false a t pairs is agree (distinct_every v is)
comparison_tied True v a t pairs is h agree = absurd (let x : false ≡ true = h in cc)
comparison_tied False v a t pairs is h agree = absurd (let x : false ≡ true = h in cc)
comparison_tied Not v a t pairs is h agree = absurd (let x : false ≡ true = h in cc)
comparison_tied And v a t pairs is h agree = absurd (let x : false ≡ true = h in cc)
comparison_tied Or v a t pairs is h agree = absurd (let x : false ≡ true = h in cc)
comparison_tied Xor v a t pairs is h agree = absurd (let x : false ≡ true = h in cc)
comparison_tied Implies v a t pairs is h agree = absurd (let x : false ≡ true = h in cc)
comparison_tied Ite v a t pairs is h agree = absurd (let x : false ≡ true = h in cc)
comparison_tied Add v a t pairs is h agree = absurd (let x : false ≡ true = h in cc)
comparison_tied Subtract v a t pairs is h agree = absurd (let x : false ≡ true = h in cc)
comparison_tied Multiply v a t pairs is h agree = absurd (let x : false ≡ true = h in cc)
comparison_tied AtMost v a t pairs is h agree = absurd (let x : false ≡ true = h in cc)
comparison_tied Less v a t pairs is h agree = absurd (let x : false ≡ true = h in cc)
comparison_tied AtLeast v a t pairs is h agree = absurd (let x : false ≡ true = h in cc)
comparison_tied Greater v a t pairs is h agree = absurd (let x : false ≡ true = h in cc)
comparison_tied Divide v a t pairs is h agree = absurd (let x : false ≡ true = h in cc)
comparison_tied Modulo v a t pairs is h agree = absurd (let x : false ≡ true = h in cc)
comparison_tied Absolute v a t pairs is h agree = absurd (let x : false ≡ true = h in cc)
comparison_tied Divisible v a t pairs is h agree = absurd (let x : false ≡ true = h in cc)

-- ---- `ite`

equal_same : (v w : Value) → v ≡ w → same_value v w ≡ true
equal_same v w e = ap (λ x. same_value v x) (sym e) ∙ same_value-self v

two : (a : ℕ → Bool) (c d : List Signed) → some_true a c ≡ true → some_true a d ≡ true → AllTrue a (c ∷ d ∷ [])
two a c d h k =
    All-cons (λ ls. some_true a ls ≡ true) c (d ∷ []) h (All-cons (λ ls. some_true a ls ≡ true) d [] k (All-nil (λ ls. some_true a ls ≡ true)))

module _ (v : ℕ → Value) (a : ℕ → Bool) (condition first second t c i j : ℕ) (hc : a condition ≡ truth_of (v c)) (hf : a first ≡ same_value (v t) (v i))
    (hs : a second ≡ same_value (v t) (v j)) where
  choice_true : (b : Bool) → a condition ≡ b → v t ≡ (if b then v i else v j) → AllTrue a (choice_clauses condition first second)
  choice_true true e k =
      two a (no condition ∷ yes first ∷ []) (yes condition ∷ yes second ∷ [])
      (ap (λ b. not b || (a first || false)) e ∙ or_false (a first) ∙ hf ∙ equal_same (v t) (v i) k) (ap (λ b. b || (a second || false)) e)
  choice_true false e k =
      two a (no condition ∷ yes first ∷ []) (yes condition ∷ yes second ∷ [])
      (ap (λ b. not b || (a first || false)) e) (ap (λ b. b || (a second || false)) e ∙ or_false (a second) ∙ hs ∙ equal_same (v t) (v j) k)

  choice_says : (b : Bool) → a condition ≡ b → AllTrue a (choice_clauses condition first second) → v t ≡ (if b then v i else v j)
  choice_says true e all =
      same_value-true (v t) (v i)
      (sym hf ∙ sym (or_false (a first)) ∙ ap (λ b. not b || (a first || false)) (sym e)
      ∙ All-head (λ ls. some_true a ls ≡ true) (no condition ∷ yes first ∷ []) ((yes condition ∷ yes second ∷ []) ∷ []) all)
  choice_says false e all =
      same_value-true (v t) (v j)
      (sym hs ∙ sym (or_false (a second)) ∙ ap (λ b. b || (a second || false)) (sym e)
      ∙ All-head (λ ls. some_true a ls ≡ true) (yes condition ∷ yes second ∷ []) []
      (All-tail (λ ls. some_true a ls ≡ true) (no condition ∷ yes first ∷ []) ((yes condition ∷ yes second ∷ []) ∷ []) all))

pub choice_tied : ChoiceIsTied
choice_tied v a condition first second t c i j hc hf hs = (
  λ e. choice_true v a condition first second t c i j hc hf hs (a condition) refl (e ∙ ap (λ b. if b then v i else v j) (sym hc)),
  λ all. choice_says v a condition first second t c i j hc hf hs (a condition) refl all ∙ ap (λ b. if b then v i else v j) hc,
)

-- ---- the equality of two Bools

bool_eq-self : (b : Bool) → bool_eq b b ≡ true
bool_eq-self true = refl
bool_eq-self false = refl

four : (a : ℕ → Bool) (c d e f : List Signed) → some_true a c ≡ true → some_true a d ≡ true → some_true a e ≡ true → some_true a f ≡ true → AllTrue a (c ∷ d ∷ e ∷ f ∷ [])
four a c d e f hc hd he hf =
    All-cons (λ ls. some_true a ls ≡ true) c (d ∷ e ∷ f ∷ []) hc (All-cons (λ ls. some_true a ls ≡ true) d (e ∷ f ∷ []) hd (two a e f he hf))

abbrev clause : Bool → Bool → Bool → Bool
clause p q r = p || (q || (r || false))

parity_true : (s p q : Bool) → s ≡ bool_eq p q → (clause (not s) (not p) q ≡ true) × (clause (not s) p (not q) ≡ true) × (clause s p q ≡ true) × (clause s (not p) (not q) ≡ true)
parity_true true true true e = (refl, refl, refl, refl)
parity_true true true false e = absurd cc
parity_true true false true e = absurd cc
parity_true true false false e = (refl, refl, refl, refl)
parity_true false true true e = absurd cc
parity_true false true false e = (refl, refl, refl, refl)
parity_true false false true e = (refl, refl, refl, refl)
parity_true false false false e = absurd cc

parity_says : (s p q : Bool) → clause (not s) (not p) q ≡ true → clause (not s) p (not q) ≡ true → clause s p q ≡ true → clause s (not p) (not q) ≡ true → s ≡ bool_eq p q
parity_says true true true c d e f = refl
parity_says true true false c d e f = cc
parity_says true false true c d e f = cc
parity_says true false false c d e f = refl
parity_says false true true c d e f = cc
parity_says false true false c d e f = refl
parity_says false false true c d e f = refl
parity_says false false false c d e f = cc

module _ (a : ℕ → Bool) (same x y : ℕ) where
  sameness_true : (b : Bool) → nat_eq x y ≡ b → a same ≡ bool_eq (a x) (a y) → AllTrue a (if b then (yes same ∷ []) ∷ [] else parity (yes same) (yes x) (yes y))
  sameness_true true h e =
      All-cons (λ ls. some_true a ls ≡ true) (yes same ∷ []) []
      (or_false (a same) ∙ e ∙ ap (λ n. bool_eq (a x) (a n)) (sym (eqb-true x y h)) ∙ bool_eq-self (a x)) (All-nil (λ ls. some_true a ls ≡ true))
  sameness_true false h e =
      let c = parity_true (a same) (a x) (a y) e in
      four a (no same ∷ no x ∷ yes y ∷ []) (no same ∷ yes x ∷ no y ∷ []) (yes same ∷ yes x ∷ yes y ∷ []) (yes same ∷ no x ∷ no y ∷ []) c.0 c.1 c.2 c.3

  sameness_says : (b : Bool) → nat_eq x y ≡ b → AllTrue a (if b then (yes same ∷ []) ∷ [] else parity (yes same) (yes x) (yes y)) → a same ≡ bool_eq (a x) (a y)
  sameness_says true h all =
      sym (or_false (a same)) ∙ All-head (λ ls. some_true a ls ≡ true) (yes same ∷ []) [] all ∙ sym (ap (λ n. bool_eq (a x) (a n)) (sym (eqb-true x y h)) ∙ bool_eq-self (a x))
  sameness_says false h all =
      parity_says (a same) (a x) (a y) (all 0 [] (omega arith)) (all 1 [] (omega arith)) (all 2 [] (omega arith)) (all 3 [] (omega arith))

pub sameness_tied : SamenessIsTied
sameness_tied a same x y = (sameness_true a same x y (nat_eq x y) refl, sameness_says a same x y (nat_eq x y) refl)

-- ---- under an interpretation

-- each of these atoms is an equality
module _ (ts : List Tree) (I : Interpretation) where
  neighbours_read : (i : ℕ) (js : List ℕ) → map (atom_true ts I) (of_neighbours i js) ≡ map (pair_same (value_at ts I)) (of_neighbours i js)
  neighbours_read i [] = refl
  neighbours_read i (j ∷ js) = ap (λ xs. same_value (value_at ts I i) (value_at ts I j) ∷ xs) (neighbours_read j js)

  first_read : (i : ℕ) (js : List ℕ) → map (atom_true ts I) (of_first i js) ≡ map (pair_same (value_at ts I)) (of_first i js)
  first_read i [] = refl
  first_read i (j ∷ js) = ap (λ xs. same_value (value_at ts I i) (value_at ts I j) ∷ xs) (first_read i js)

  pairs_read : (is : List ℕ) → map (atom_true ts I) (of_pairs is) ≡ map (pair_same (value_at ts I)) (of_pairs is)
  pairs_read [] = refl
  pairs_read (i ∷ is) =
      map-append (atom_true ts I) (of_first i is) (of_pairs is) ∙ ap (λ xs. xs ++ map (atom_true ts I) (of_pairs is)) (first_read i is)
      ∙ ap (λ xs. map (pair_same (value_at ts I)) (of_first i is) ++ xs) (pairs_read is) ∙ sym (map-append (pair_same (value_at ts I)) (of_first i is) (of_pairs is))

  equalities : (o : Operator) (is : List ℕ) → map (atom_true ts I) (compared o is) ≡ map (pair_same (value_at ts I)) (compared o is)
  equalities Equal [] = refl
  equalities Equal (i ∷ is) = neighbours_read i is
  equalities Distinct is = pairs_read is
  equalities True is = refl
  equalities False is = refl
  equalities Not is = refl
  equalities And is = refl
  equalities Or is = refl
  equalities Xor is = refl
  equalities Implies is = refl
  equalities Ite is = refl
  equalities Add is = refl
  equalities Subtract is = refl
  equalities Multiply is = refl
  equalities AtMost is = refl
  equalities Less is = refl
  equalities AtLeast is = refl
  equalities Greater is = refl
  equalities Divide is = refl
  equalities Modulo is = refl
  equalities Absolute is = refl
  equalities Divisible is = refl

map-map : {A B : Type 0} (f : A → B) (g : ℕ → A) (ns : List ℕ) → map (λ n. f (g n)) ns ≡ map f (map g ns)
map-map f g [] = refl
map-map f g (n ∷ ns) = ap (λ xs. f (g n) ∷ xs) (map-map f g ns)

pub interpretation_agrees : InterpretationAgrees
interpretation_agrees ts I atom o pairs is e = map-map (atom_true ts I) atom pairs ∙ ap (map (atom_true ts I)) e ∙ equalities ts I o is
