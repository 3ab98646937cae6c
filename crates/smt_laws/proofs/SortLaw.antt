-- A well-sorted term has a value of its sort under every interpretation of the signature.
use Rattle.std.proofs.Common.{◌≡◌, ℕ, List, [], ◌∷◌, length, subst, sym, ap, ◌∙◌, refl, Bool, true, false, ◌&&◌, ◌||◌, not, Option, Some, None, nat_eq}
use Rattle.std.proofs.lemmas.Bool.{eqb-true}
use Rattle.smt_laws.proofs.Both.{and_left, and_right}
use Rattle.std.specs.Prelude.{if◌then◌else◌}
use Rattle.std.specs.Prelude.{◌+ℤ◌, ◌-ℤ◌, ◌*ℤ◌, ℤ, nat_le}
use Rattle.std.proofs.lemmas.List.Elements.{All-head, All-tail}
use Rattle.smt_meaning.specs.declared.values.Value.{Value}
use Rattle.smt_meaning.specs.declared.values.Value.TheVariants.{Truth, Whole}
use Rattle.smt_meaning.specs.declared.values.Sort.{Sort}
use Rattle.smt_meaning.specs.declared.values.Sort.TheVariants.{Bool as Truths, Int as Ints, Free}
use Rattle.smt_meaning.specs.declared.terms.Operator.{Operator}
use Rattle.smt_meaning.specs.declared.terms.Operator.TheVariants.{True, False, Not, And, Or, Xor, Implies, Equal, Distinct, Ite, Add, Subtract, Multiply, AtMost, Less, AtLeast, Greater, Divide, Modulo, Absolute, Divisible}
use Rattle.smt_meaning.specs.declared.terms.Head.{Head}
use Rattle.smt_meaning.specs.declared.terms.Head.TheVariants.{Numeral, Theory, Symbol, Place}
use Rattle.smt_meaning.specs.Term.{Tree, Trees, node, none, more, Interpretation, value, values, apply, operate, fold_left, fold_right, left_assoc, right_assoc, on_truths, on_numbers, truth_of, choice, difference, magnitude, negation, implies, xor, quotient}
use Rattle.smt_meaning.specs.Declaration.{Declaration}
use Rattle.smt_meaning.specs.Signature.{sort_eq, sorts_eq, all_of, if_so, ite_sort, operator_sort, is_symbol, function_with_id, symbol_sort, stands_with, head_sort, cons_sort, with_sorts, tree_sort, tree_sorts}
use Rattle.smt_meaning.specs.Interpretation.{has_sort, have_sorts, IsFunctionFor, Interprets}

false_and : (b : Bool) → (b && false) ≡ true → ⊥
false_and true h = cc
false_and false h = cc

abbrev Fits : Value → Sort → Type 0
Fits v s = has_sort v s ≡ true

sort_eq-sound : (a b : Sort) → sort_eq a b ≡ true → a ≡ b
sort_eq-sound Truths Truths h = refl
sort_eq-sound Ints Ints h = refl
sort_eq-sound (Free a) (Free b) h = ap Free (eqb-true a b h)
sort_eq-sound Truths Ints h = cc
sort_eq-sound Truths (Free b) h = cc
sort_eq-sound Ints Truths h = cc
sort_eq-sound Ints (Free b) h = cc
sort_eq-sound (Free a) Truths h = cc
sort_eq-sound (Free a) Ints h = cc

sorts_eq-sound : (as' bs : List Sort) → sorts_eq as' bs ≡ true → as' ≡ bs
sorts_eq-sound [] [] h = refl
sorts_eq-sound [] (b ∷ bs) h = cc
sorts_eq-sound (a ∷ as') [] h = cc
sorts_eq-sound (a ∷ as') (b ∷ bs) h = both (sort_eq-sound a b (and_left _ _ h)) (sorts_eq-sound as' bs (and_right _ _ h))
  where
    both : a ≡ b → as' ≡ bs → a ∷ as' ≡ b ∷ bs
    both p q = cc

if_so-is : (b : Bool) (r s : Sort) → if_so b r ≡ Some s → (b ≡ true) × (r ≡ s)
if_so-is true r s h = (refl, cc)
if_so-is false r s h = absurd (cc)

-- each value has this sort
abbrev all_fit_sort : Sort → List Value → Bool
all_fit_sort s [] = true
all_fit_sort s (v ∷ vs) = has_sort v s && all_fit_sort s vs

all_of_fits : (s : Sort) (vs : List Value) (ss : List Sort) → have_sorts vs ss ≡ true → all_of s ss ≡ true → all_fit_sort s vs ≡ true
all_of_fits s [] ss h k = refl
all_of_fits s (v ∷ vs) [] h k = cc
all_of_fits s (v ∷ vs) (r ∷ rs) h k =
    both (subst (λ t. has_sort v t ≡ true) (sym (sort_eq-sound s r (and_left _ _ k))) (and_left _ _ h)) (all_of_fits s vs rs (and_right _ _ h) (and_right _ _ k))
  where
    both : has_sort v s ≡ true → all_fit_sort s vs ≡ true → (has_sort v s && all_fit_sort s vs) ≡ true
    both p q = rw (p, q)

fold_truths : (f : Bool → Bool → Bool) (v : Value) (ws : List Value) → Fits v Truths → Fits (fold_left (on_truths f) v ws) Truths
fold_truths f v [] h = h
fold_truths f v (w ∷ ws) h = fold_truths f (on_truths f v w) ws refl

fold_numbers : (f : ℤ → ℤ → ℤ) (v : Value) (ws : List Value) → Fits v Ints → Fits (fold_left (on_numbers f) v ws) Ints
fold_numbers f v [] h = h
fold_numbers f v (w ∷ ws) h = fold_numbers f (on_numbers f v w) ws refl

right_truths : (f : Bool → Bool → Bool) (v : Value) (ws : List Value) → Fits v Truths → Fits (fold_right (on_truths f) v ws) Truths
right_truths f v [] h = h
right_truths f v (w ∷ ws) h = refl

left_truths : (f : Bool → Bool → Bool) (vs : List Value) → all_fit_sort Truths vs ≡ true → Fits (left_assoc (on_truths f) vs) Truths
left_truths f [] h = refl
left_truths f (v ∷ vs) h = fold_truths f v vs (and_left _ _ h)

arrows : (f : Bool → Bool → Bool) (vs : List Value) → all_fit_sort Truths vs ≡ true → Fits (right_assoc (on_truths f) vs) Truths
arrows f [] h = refl
arrows f (v ∷ vs) h = right_truths f v vs (and_left _ _ h)

left_numbers : (f : ℤ → ℤ → ℤ) (v : Value) (vs : List Value) → all_fit_sort Ints (v ∷ vs) ≡ true → Fits (left_assoc (on_numbers f) (v ∷ vs)) Ints
left_numbers f v vs h = fold_numbers f v vs (and_left _ _ h)

differences : (v : Value) (vs : List Value) → all_fit_sort Ints (v ∷ vs) ≡ true → Fits (difference (v ∷ vs)) Ints
differences v [] h = refl
differences v (w ∷ ws) h = left_numbers ◌-ℤ◌ v (w ∷ ws) h

magnitudes : (v : Value) (vs : List Value) → all_fit_sort Ints (v ∷ vs) ≡ true → Fits (magnitude (v ∷ vs)) Ints
magnitudes v [] h = refl
magnitudes v (w ∷ ws) h = refl

-- so many is at least one
some_of_two : (n : ℕ) → nat_eq n 2 ≡ true → nat_le 1 n ≡ true
some_of_two n h = ap (nat_le 1) (eqb-true n 2 h)

some_of_one : (n : ℕ) → nat_eq n 1 ≡ true → nat_le 1 n ≡ true
some_of_one n h = ap (nat_le 1) (eqb-true n 1 h)

negations : (vs : List Value) → Fits (negation vs) Truths
negations [] = refl
negations (v ∷ []) = refl
negations (v ∷ w ∷ ws) = refl

either : (b : Bool) (v w : Value) (s : Sort) → Fits v s → Fits w s → Fits (if b then v else w) s
either true v w s h k = h
either false v w s h k = k

some_is : (r s : Sort) → Some r ≡ Some s → r ≡ s
some_is r s h = cc

-- an operator on truth values, whose result is one
of_truths : (b : Bool) (v : Value) (s : Sort) → if_so b Truths ≡ Some s → (b ≡ true → Fits v Truths) → Fits v s
of_truths b v s e h = let p : (b ≡ true) × (Truths ≡ s) = if_so-is b Truths s e in subst (Fits v) p.1 (h p.0)

of_numbers : (b : Bool) (v : Value) (s : Sort) → if_so b Ints ≡ Some s → (b ≡ true → Fits v Ints) → Fits v s
of_numbers b v s e h = let p : (b ≡ true) × (Ints ≡ s) = if_so-is b Ints s e in subst (Fits v) p.1 (h p.0)

-- ---- operators

choices : (vs : List Value) (ss : List Sort) (s : Sort) → ite_sort ss ≡ Some s → have_sorts vs ss ≡ true → Fits (choice vs) s
choices (c ∷ v ∷ w ∷ []) (r ∷ p ∷ q ∷ []) s e h =
    let eq : ((sort_eq r Truths && sort_eq p q) ≡ true) × (p ≡ s) = if_so-is _ p s e in
    let same : p ≡ q = sort_eq-sound p q (and_right _ _ eq.0) in
    let rest : (has_sort v p && (has_sort w q && true)) ≡ true = and_right (has_sort c r) _ h in
    either (truth_of c) v w s (subst (Fits v) eq.1 (and_left _ _ rest)) (subst (Fits w) (sym same ∙ eq.1) (and_left _ _ (and_right (has_sort v p) _ rest)))
choices vs [] s e h = absurd (cc)
choices vs (r ∷ []) s e h = absurd (cc)
choices vs (r ∷ p ∷ []) s e h = absurd (cc)
choices vs (r ∷ p ∷ q ∷ x ∷ xs) s e h = absurd (cc)
choices [] (r ∷ p ∷ q ∷ []) s e h = absurd (cc)
choices (c ∷ []) (r ∷ p ∷ q ∷ []) s e h = absurd (false_and (has_sort c r) h)
choices (c ∷ v ∷ []) (r ∷ p ∷ q ∷ []) s e h = absurd (false_and (has_sort v p) (and_right (has_sort c r) _ h))
choices (c ∷ v ∷ w ∷ u ∷ us) (r ∷ p ∷ q ∷ []) s e h = absurd (false_and (has_sort w q) (and_right (has_sort v p) _ (and_right (has_sort c r) _ h)))

not_empty : (vs : List Value) (ss : List Sort) (f : List Value → Value) → nat_le 1 (length ss) ≡ true → have_sorts vs ss ≡ true
    → ((v : Value) (us : List Value) → all_fit_sort Ints (v ∷ us) ≡ true → Fits (f (v ∷ us)) Ints) → all_fit_sort Ints vs ≡ true → Fits (f vs) Ints
not_empty [] [] f b h k a = absurd (cc)
not_empty [] (s ∷ ss) f b h k a = absurd (cc)
not_empty (v ∷ us) ss f b h k a = k v us a

pub operator_fits : (o : Operator) (vs : List Value) (ss : List Sort) (s : Sort) → stands_with o (length ss) ≡ true → operator_sort o ss ≡ Some s → have_sorts vs ss ≡ true → Fits (operate o vs) s
operator_fits True vs ss s b e h = of_truths true (Truth true) s e (λ t. refl)
operator_fits False vs ss s b e h = of_truths true (Truth false) s e (λ t. refl)
operator_fits Not vs ss s b e h = of_truths _ _ s e (λ t. negations vs)
operator_fits And vs ss s b e h = of_truths _ _ s e (λ t. left_truths ◌&&◌ vs (all_of_fits Truths vs ss h t))
operator_fits Or vs ss s b e h = of_truths _ _ s e (λ t. left_truths ◌||◌ vs (all_of_fits Truths vs ss h t))
operator_fits Xor vs ss s b e h = of_truths _ _ s e (λ t. left_truths xor vs (all_of_fits Truths vs ss h t))
operator_fits Implies vs ss s b e h = of_truths _ _ s e (λ t. arrows implies vs (all_of_fits Truths vs ss h t))
operator_fits Equal vs ss s b e h = of_truths _ (operate Equal vs) s e (λ t. refl)
operator_fits Distinct vs ss s b e h = of_truths _ (operate Distinct vs) s e (λ t. refl)
operator_fits Ite vs ss s b e h = choices vs ss s e h
operator_fits Add vs ss s b e h = of_numbers _ _ s e (λ t. not_empty vs ss (left_assoc (on_numbers ◌+ℤ◌)) b h (λ v us. left_numbers ◌+ℤ◌ v us) (all_of_fits Ints vs ss h t))
operator_fits Subtract vs ss s b e h = of_numbers _ _ s e (λ t. not_empty vs ss difference b h differences (all_of_fits Ints vs ss h t))
operator_fits Multiply vs ss s b e h = of_numbers _ _ s e (λ t. not_empty vs ss (left_assoc (on_numbers ◌*ℤ◌)) b h (λ v us. left_numbers ◌*ℤ◌ v us) (all_of_fits Ints vs ss h t))
operator_fits AtMost vs ss s b e h = of_truths _ (operate AtMost vs) s e (λ t. refl)
operator_fits Less vs ss s b e h = of_truths _ (operate Less vs) s e (λ t. refl)
operator_fits AtLeast vs ss s b e h = of_truths _ (operate AtLeast vs) s e (λ t. refl)
operator_fits Greater vs ss s b e h = of_truths _ (operate Greater vs) s e (λ t. refl)
operator_fits Divide vs ss s b e h =
    of_numbers _ _ s e (λ t. not_empty vs ss (left_assoc (on_numbers quotient)) (some_of_two (length ss) b) h (λ v us. left_numbers quotient v us) (all_of_fits Ints vs ss h t))
operator_fits Modulo vs ss s b e h = of_numbers _ (operate Modulo vs) s e (λ t. refl)
operator_fits Absolute vs ss s b e h = of_numbers _ _ s e (λ t. not_empty vs ss magnitude (some_of_one (length ss) b) h magnitudes (all_of_fits Ints vs ss h t))
operator_fits Divisible vs ss s b e h = of_truths _ (operate Divisible vs) s e (λ t. refl)

-- ---- terms

at_decl : (I : Interpretation) (vs : List Value) (ss : List Sort) (s : Sort) (d : Declaration) → have_sorts vs ss ≡ true → IsFunctionFor I d
    → (c : Bool) → (is_symbol d && sorts_eq ss d.rank.arguments) ≡ c → (if c then Some d.rank.result else None) ≡ Some s → Fits (I d.id vs) s
at_decl I vs ss s d h j true k l =
    subst (Fits (I d.id vs)) (some_is d.rank.result s l)
    (j (and_left _ _ k) vs (subst (λ xs. have_sorts vs xs ≡ true) (sorts_eq-sound ss d.rank.arguments (and_right _ _ k)) h))
at_decl I vs ss s d h j false k l = absurd (cc)

step_decl : (I : Interpretation) (vs : List Value) (ss : List Sort) (s : Sort) (d : Declaration) (o : Option Declaration) (g : ℕ) → have_sorts vs ss ≡ true → IsFunctionFor I d
    → (symbol_sort o ss ≡ Some s → Fits (I g vs) s)
    → (b : Bool) → (nat_eq g d.id && not d.is_sort) ≡ b → symbol_sort (if b then Some d else o) ss ≡ Some s → Fits (I g vs) s
step_decl I vs ss s d o g h j rec true p r =
    subst (λ x. Fits (I x vs) s) (sym (eqb-true g d.id (and_left _ _ p))) (at_decl I vs ss s d h j (is_symbol d && sorts_eq ss d.rank.arguments) refl r)
step_decl I vs ss s d o g h j rec false p r = rec r

in_signature : (I : Interpretation) (vs : List Value) (ss : List Sort) (s : Sort) → have_sorts vs ss ≡ true
    → (es : List Declaration) (g : ℕ) → Interprets es I → symbol_sort (function_with_id g es) ss ≡ Some s → Fits (I g vs) s
unfolding Interprets
in_signature I vs ss s h [] g j q = absurd (cc)
in_signature I vs ss s h (d ∷ es) g j q =
    step_decl I vs ss s d (function_with_id g es) g h (All-head (IsFunctionFor I) d es j)
    (in_signature I vs ss s h es g (All-tail (IsFunctionFor I) d es j)) (nat_eq g d.id && not d.is_sort) refl q

head_fits_sort : (ds : List Declaration) (I : Interpretation) (h : Head) (vs : List Value) (ss : List Sort) (s : Sort) → Interprets ds I
    → head_sort ds h ss ≡ Some s → have_sorts vs ss ≡ true → Fits (apply I h vs) s
head_fits_sort ds I (Numeral n) vs [] s i e h = subst (Fits (Whole n)) (some_is Ints s e) refl
head_fits_sort ds I (Numeral n) vs (x ∷ xs) s i e h = absurd (cc)
head_fits_sort ds I (Theory o) vs ss s i e h = go (stands_with o (length ss)) refl e
  where
    go : (b : Bool) → stands_with o (length ss) ≡ b → (if b then operator_sort o ss else None) ≡ Some s → Fits (operate o vs) s
    go true p q = operator_fits o vs ss s p q h
    go false p q = absurd (cc)
head_fits_sort ds I (Symbol f) vs ss s i e h = in_signature I vs ss s h ds f i e
head_fits_sort ds I (Place k) vs ss s i e h = absurd (cc)

some_list : (rs ss : List Sort) → Some rs ≡ Some ss → rs ≡ ss
some_list rs ss h = cc

of_arguments : (ds : List Declaration) (I : Interpretation) (h : Head) (o : Option (List Sort)) (vs : List Value) (s : Sort) → Interprets ds I
    → with_sorts ds h o ≡ Some s → ((ss : List Sort) → o ≡ Some ss → have_sorts vs ss ≡ true) → Fits (apply I h vs) s
of_arguments ds I h None vs s i e k = absurd (cc)
of_arguments ds I h (Some ss) vs s i e k = head_fits_sort ds I h vs ss s i e (k ss refl)

of_first : (o : Option Sort) (r : Option (List Sort)) (v : Value) (vs : List Value) (ss : List Sort) → cons_sort o r ≡ Some ss
    → ((s : Sort) → o ≡ Some s → Fits v s) → ((xs : List Sort) → r ≡ Some xs → have_sorts vs xs ≡ true) → have_sorts (v ∷ vs) ss ≡ true
of_first None r v vs ss e f g = absurd (cc)
of_first (Some s) None v vs ss e f g = absurd (cc)
of_first (Some s) (Some xs) v vs ss e f g =
    subst (λ ys. have_sorts (v ∷ vs) ys ≡ true) (some_list (s ∷ xs) ss e) (both (has_sort v s) (have_sorts vs xs) (f s refl) (g xs refl))
  where
    both : (a b : Bool) → a ≡ true → b ≡ true → (a && b) ≡ true
    both a b p q = rw (p, q)

mutual
  pub value_fits_sort : (ds : List Declaration) (I : Interpretation) (t : Tree) (s : Sort) → Interprets ds I → tree_sort ds t ≡ Some s → Fits (value I t) s
  value_fits_sort ds I (node h us) s i e = of_arguments ds I h (tree_sorts ds us) (values I us) s i e (λ ss k. values_fit_sorts ds I us ss i k)

  pub values_fit_sorts : (ds : List Declaration) (I : Interpretation) (us : Trees) (ss : List Sort) → Interprets ds I → tree_sorts ds us ≡ Some ss → have_sorts (values I us) ss ≡ true
  values_fit_sorts ds I none ss i e = subst (λ xs. have_sorts [] xs ≡ true) (some_list [] ss e) refl
  values_fit_sorts ds I (more u us) ss i e =
      of_first (tree_sort ds u) (tree_sorts ds us) (value I u) (values I us) ss e (λ s k. value_fits_sort ds I u s i k) (λ xs k. values_fit_sorts ds I us xs i k)
