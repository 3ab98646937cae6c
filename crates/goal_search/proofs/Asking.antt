-- What a level that asks for a value adds to the levels below it.
use Rattle.std.proofs.Common.{◌≡◌, ◌∙◌, refl, ap, sym, subst, ℕ, ◌+◌, Bool, true, false, ◌&&◌, List, [], ◌∷◌, ◌++◌, map, append-nil, arith, All, ℤ, pos, negsuc, neg_ℤ}
use Rattle.std.specs.Prelude.{IsTrue, int_le, int_lt, ◌≤ℤ◌, ◌<ℤ◌}
use Rattle.std.proofs.lemmas.Grind.{flat_map-append}
use Rattle.std.proofs.lemmas.Int.{ints}
use Rattle.std.proofs.lemmas.List.Elements.{All-nil, All-cons, All-head, All-tail, All-append}
use Rattle.smt_meaning.specs.declared.tokens.Token.{Token}
use Rattle.smt_meaning.specs.declared.values.Table.{Table}
use Rattle.smt_meaning.specs.declared.values.Value.{Value}
use Rattle.smt_meaning.specs.declared.values.Value.TheVariants.{Truth, Whole, Element}
use Rattle.smt_meaning.specs.declared.terms.Head.TheVariants.{Theory}
use Rattle.smt_meaning.specs.declared.terms.Operator.TheVariants.{Equal}
use Rattle.smt_meaning.specs.Goal.{is_itself, is_at_most, is_below, number_tree, least_number}
use Rattle.smt_meaning.specs.Interpretation.{Interprets, meaning, AreTablesFor}
use Rattle.smt_meaning.specs.Least.{IsModelFor, asking, value_in}
use Rattle.smt_meaning.specs.Model.{Fits, IsModel}
use Rattle.smt_meaning.specs.Stack.{Assertion, Frame, HasNoModel, Holds, Satisfies, assertions_of, signature_of, terms_of, no_model, no_model_is}
use Rattle.smt_meaning.specs.State.{frame_of}
use Rattle.smt_meaning.specs.Term.{Tree, Interpretation, value, number_of, same_value, fits, in_range, all_fit, head_fits, apply, values, node, all_in_range, partials}
use Rattle.smt_laws.proofs.SameValue.{same_value-self}
use Rattle.goal_search.specs.declared.text.Ask.{Ask}
use Rattle.goal_search.specs.declared.text.Ask.TheVariants.{Itself, AtMost, BelowLeast}
use Rattle.goal_search.specs.Asks.{asked}
use Rattle.goal_search.specs.Points.{IsAsAsked, IsFloor}

-- ---- lists in two parts

all_left : {A : Type 0} (P : A → Type 0) (xs ys : List A) → All P (xs ++ ys) → All P xs
all_left P [] ys h = All-nil P
all_left P (x ∷ xs) ys h = All-cons P x xs (All-head P x (xs ++ ys) h) (all_left P xs ys (All-tail P x (xs ++ ys) h))

all_right : {A : Type 0} (P : A → Type 0) (xs ys : List A) → All P (xs ++ ys) → All P ys
all_right P [] ys h = h
all_right P (x ∷ xs) ys h = all_right P xs ys (All-tail P x (xs ++ ys) h)

-- ---- what the level declares and asserts

declared_same : (frames : List Frame) (xs : List Assertion) → signature_of (asking frames xs) ≡ signature_of frames
declared_same frames xs = flat_map-append (λ (f : Frame). f.declared) frames (frame_of xs ∷ []) ∙ append-nil (signature_of frames)

asserted_more : (frames : List Frame) (xs : List Assertion) → assertions_of (asking frames xs) ≡ assertions_of frames ++ map (λ (a : Assertion). a.term) xs
asserted_more frames xs =
    flat_map-append terms_of frames (frame_of xs ∷ []) ∙ ap (λ ts. assertions_of frames ++ ts) (append-nil (terms_of (frame_of xs)))

-- ---- truths

number_is : (J : Interpretation) (k : ℤ) → value J (number_tree k) ≡ Whole k
number_is J (pos n) = refl
number_is J (negsuc n) = ap Whole (negated n)
  where
    negated : (m : ℕ) → neg_ℤ (pos (m + 1)) ≡ negsuc m
    negated m = omega (arith, ints)

and_true : (b : Bool) → b ≡ true → IsTrue (b && true)
and_true true e = refl
and_true false e = absurd (cc)

true_and : (b : Bool) → IsTrue (b && true) → b ≡ true
true_and true h = refl
true_and false h = absurd (cc)

and_left_true : (b d : Bool) → IsTrue (b && d) → b ≡ true
and_left_true true d h = refl
and_left_true false d h = absurd (cc)

and_right_true : (b d : Bool) → IsTrue (b && d) → d ≡ true
and_right_true true d h = h
and_right_true false d h = absurd (cc)

pub itself_true : (J : Interpretation) (text : List Token) (t : Tree) → Satisfies J (is_itself text t).term
itself_true J text t = and_true (same_value (value J t) (value J t)) (same_value-self (value J t))

le_test : (a b : ℤ) → a ≤ℤ b → int_le a b ≡ true
le_test a b h = grind (arith, ints)

le_told : (a b : ℤ) → int_le a b ≡ true → a ≤ℤ b
le_told a b h = grind (arith, ints)

lt_test : (a b : ℤ) → a <ℤ b → int_lt a b ≡ true
lt_test a b h = grind (arith, ints)

lt_told : (a b : ℤ) → int_lt a b ≡ true → a <ℤ b
lt_told a b h = grind (arith, ints)

at_most_true : (J : Interpretation) (text : List Token) (t : Tree) (k : ℤ) → number_of (value J t) ≤ℤ k → Satisfies J (is_at_most text t k).term
at_most_true J text t k h = and_true (int_le (number_of (value J t)) (number_of (value J (number_tree k)))) (ap (λ v. int_le (number_of (value J t)) (number_of v)) (number_is J k) ∙ le_test (number_of (value J t)) k h)

at_most_told : (J : Interpretation) (text : List Token) (t : Tree) (k : ℤ) → Satisfies J (is_at_most text t k).term → number_of (value J t) ≤ℤ k
at_most_told J text t k h =
    le_told (number_of (value J t)) k (ap (λ v. int_le (number_of (value J t)) (number_of v)) (sym (number_is J k)) ∙ true_and (int_le (number_of (value J t)) (number_of (value J (number_tree k)))) h)

below_true : (J : Interpretation) (text : List Token) (t : Tree) (k : ℤ) → number_of (value J t) <ℤ k → Satisfies J (is_below text t k).term
below_true J text t k h = and_true (int_lt (number_of (value J t)) (number_of (value J (number_tree k)))) (ap (λ v. int_lt (number_of (value J t)) (number_of v)) (number_is J k) ∙ lt_test (number_of (value J t)) k h)

below_told : (J : Interpretation) (text : List Token) (t : Tree) (k : ℤ) → Satisfies J (is_below text t k).term → number_of (value J t) <ℤ k
below_told J text t k h =
    lt_told (number_of (value J t)) k (ap (λ v. int_lt (number_of (value J t)) (number_of v)) (sym (number_is J k)) ∙ true_and (int_lt (number_of (value J t)) (number_of (value J (number_tree k)))) h)

one_true : (J : Interpretation) (text : List Token) (t : Tree) → All (Satisfies J) ((is_itself text t).term ∷ [])
one_true J text t = All-cons (Satisfies J) (is_itself text t).term [] (itself_true J text t) (All-nil (Satisfies J))

two_true : (J : Interpretation) (text : List Token) (t u : Tree) → Satisfies J u → All (Satisfies J) ((is_itself text t).term ∷ u ∷ [])
two_true J text t u h = All-cons (Satisfies J) (is_itself text t).term (u ∷ []) (itself_true J text t) (All-cons (Satisfies J) u [] h (All-nil (Satisfies J)))

asked_true : (J : Interpretation) (text : List Token) (t : Tree) (ask : Ask) → IsAsAsked ask (number_of (value J t)) → All (Satisfies J) (map (λ (a : Assertion). a.term) (asked text t ask))
asked_true J text t Itself h = one_true J text t
asked_true J text t (AtMost k) h = two_true J text t (is_at_most text t k).term (at_most_true J text t k h)
asked_true J text t BelowLeast h = two_true J text t (is_below text t least_number).term (below_true J text t least_number h)

second : (P : Tree → Type 0) (t u : Tree) → All P (t ∷ u ∷ []) → P u
second P t u h = All-head P u [] (All-tail P t (u ∷ []) h)

asked_told : (J : Interpretation) (text : List Token) (t : Tree) (ask : Ask) → All (Satisfies J) (map (λ (a : Assertion). a.term) (asked text t ask)) → IsAsAsked ask (number_of (value J t))
asked_told J text t Itself h = tt
asked_told J text t (AtMost k) h = at_most_told J text t k (second (Satisfies J) (is_itself text t).term (is_at_most text t k).term h)
asked_told J text t BelowLeast h = below_told J text t least_number (second (Satisfies J) (is_itself text t).term (is_below text t least_number).term h)

-- ---- no model

-- in no interpretation that makes the assertions true is the value of the term as it was asked for
pub never_as_asked : (frames : List Frame) (text : List Token) (t : Tree) (ask : Ask) → HasNoModel (asking frames (asked text t ask))
    → (J : Interpretation) → Interprets (signature_of frames) J → Holds J frames → IsAsAsked ask (number_of (value J t)) → ⊥
never_as_asked frames text t ask none J interprets holds h =
    no_model_is (asking frames (asked text t ask)) none J (subst (λ ds. Interprets ds J) (sym (declared_same frames (asked text t ask))) interprets)
    (subst (All (Satisfies J)) (sym (asserted_more frames (asked text t ask)))
    (All-append (Satisfies J) (assertions_of frames) (map (λ (a : Assertion). a.term) (asked text t ask)) holds (asked_true J text t ask h)))

above_from : (k n : ℤ) → (n ≤ℤ k → ⊥) → k <ℤ n
above_from k n h = grind (arith, ints)

not_below_from : (k n : ℤ) → (n <ℤ k → ⊥) → k ≤ℤ n
not_below_from k n h = grind (arith, ints)

pub none_at_all : (frames : List Frame) (text : List Token) (t : Tree) → HasNoModel (asking frames (asked text t Itself)) → HasNoModel frames
none_at_all frames text t none = no_model frames (λ J interprets holds. never_as_asked frames text t Itself none J interprets holds tt)

pub floor_from : (frames : List Frame) (text : List Token) (t : Tree) (k : ℤ) → HasNoModel (asking frames (asked text t (AtMost k))) → IsFloor frames t k
floor_from frames text t k none = λ J interprets holds. above_from k (number_of (value J t)) (never_as_asked frames text t (AtMost k) none J interprets holds)

pub least_from : (frames : List Frame) (text : List Token) (t : Tree) → HasNoModel (asking frames (asked text t BelowLeast))
    → (J : Interpretation) → Interprets (signature_of frames) J → Holds J frames → least_number ≤ℤ number_of (value J t)
least_from frames text t none = λ J interprets holds. not_below_from least_number (number_of (value J t)) (never_as_asked frames text t BelowLeast none J interprets holds)

-- ---- a model

first_of : (P : Tree → Type 0) (text : List Token) (t : Tree) (ask : Ask) → All P (map (λ (a : Assertion). a.term) (asked text t ask)) → All P ((is_itself text t).term ∷ [])
first_of P text t Itself h = h
first_of P text t (AtMost k) h = All-cons P (is_itself text t).term [] (All-head P (is_itself text t).term ((is_at_most text t k).term ∷ []) h) (All-nil P)
first_of P text t BelowLeast h = All-cons P (is_itself text t).term [] (All-head P (is_itself text t).term ((is_below text t least_number).term ∷ []) h) (All-nil P)

all_first : (P : Tree → Type 0) (frames : List Frame) (text : List Token) (t : Tree) (ask : Ask) → All P (assertions_of (asking frames (asked text t ask))) → All P (assertions_of (asking frames (is_itself text t ∷ [])))
all_first P frames text t ask h =
    let ts : List Tree = map (λ (a : Assertion). a.term) (asked text t ask) in
    let apart : All P (assertions_of frames ++ ts) = subst (All P) (asserted_more frames (asked text t ask)) h in
    subst (All P) (sym (asserted_more frames (is_itself text t ∷ [])))
    (All-append P (assertions_of frames) ((is_itself text t).term ∷ []) (all_left P (assertions_of frames) ts apart) (first_of P text t ask (all_right P (assertions_of frames) ts apart)))

pub model_for : (frames : List Frame) (text : List Token) (t : Tree) (ask : Ask) (i : List Table) → IsModel (asking frames (asked text t ask)) i → IsModelFor frames text t i
model_for frames text t ask i h = record {
  tables = subst (λ ds. AreTablesFor ds i) (declared_same frames (asked text t ask) ∙ sym (declared_same frames (is_itself text t ∷ []))) h.tables;
  holds = all_first (Satisfies (meaning i)) frames text t ask h.holds;
  fits = all_first (Fits (meaning i)) frames text t ask h.fits;
}

pub as_asked : (frames : List Frame) (text : List Token) (t : Tree) (ask : Ask) (i : List Table) → IsModel (asking frames (asked text t ask)) i → IsAsAsked ask (value_in i t)
as_asked frames text t ask i h =
    asked_told (meaning i) text t ask (all_right (Satisfies (meaning i)) (assertions_of frames) (map (λ (a : Assertion). a.term) (asked text t ask))
    (subst (All (Satisfies (meaning i))) (asserted_more frames (asked text t ask)) h.holds))

goal_fits : (I : Interpretation) (text : List Token) (t : Tree) → Fits I (is_itself text t).term → IsTrue (fits I t)
goal_fits I text t h =
    and_left_true (fits I t) (fits I t && true) (and_left_true (fits I t && (fits I t && true)) (head_fits I (Theory Equal) (value I t ∷ value I t ∷ [])) h)

pub fits_for : (frames : List Frame) (text : List Token) (t : Tree) (i : List Table) → IsModelFor frames text t i → IsTrue (fits (meaning i) t)
fits_for frames text t i h =
    goal_fits (meaning i) text t (All-head (Fits (meaning i)) (is_itself text t).term [] (all_right (Fits (meaning i)) (assertions_of frames) ((is_itself text t).term ∷ [])
    (subst (All (Fits (meaning i))) (asserted_more frames (is_itself text t ∷ [])) h.fits)))

number_fits : (v : Value) → in_range v ≡ true → in_range (Whole (number_of v)) ≡ true
number_fits (Whole n) h = h
number_fits (Truth b) h = refl
number_fits (Element e) h = refl

-- the number that a term is fits where the term does
pub value_fits : (I : Interpretation) (t : Tree) → IsTrue (fits I t) → in_range (Whole (number_of (value I t))) ≡ true
value_fits I (node h ts) f =
    number_fits (value I (node h ts)) (and_left_true (in_range (apply I h (values I ts))) (all_in_range (partials h (values I ts))) (and_right_true (all_fit I ts) (head_fits I h (values I ts)) f))
