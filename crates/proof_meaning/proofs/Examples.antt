-- Each rule of proofs on an example, and inventions that no rule gives. The terms: p, q, (not p), (and p q), x, y, (ite p x y), (f x), (f y), (= x y), 2, (* 2 x), (<= (* 2 x) y).
use Prim.Native.String.{String}
use Rattle.std.proofs.Common.{◌≡◌, ℕ, ◌<◌, Bool, true, false, not, ◌&&◌, ◌||◌, nat_lt, List, [], ◌∷◌, ◌++◌, length, All, Contains, ◌⊎◌, inl, inr, Some, None, ap, sym, subst, ◌∙◌, refl, arith}
use Rattle.std.specs.Prelude.{IsTrue, ℤ, pos, negsuc, ◌<ℤ◌, if◌then◌else◌, nat_eq, map, codes}
use Rattle.std.proofs.lemmas.Int.{ints}
use Rattle.std.proofs.lemmas.Nat.Gcd.{dvd_refl}
use Rattle.std.proofs.lemmas.List.Elements.{All-nil, All-cons, All-head, All-tail, Contains-push_cases}
use Rattle.std.proofs.lemmas.List.Kept.{AllPairs-cons}
use Rattle.fraction128.specs.Gcd.{gcd_of}
use Rattle.smt_meaning.specs.declared.values.Sort.{Sort}
use Rattle.smt_meaning.specs.declared.values.Sort.TheVariants.{Bool as Truths, Int as Ints}
use Rattle.smt_meaning.specs.declared.values.Value.{Value}
use Rattle.smt_meaning.specs.declared.values.Value.TheVariants.{Truth as IsTruth, Whole, Element}
use Rattle.smt_meaning.specs.declared.terms.Head.{Head}
use Rattle.smt_meaning.specs.declared.terms.Head.TheVariants.{Numeral, Theory, Symbol}
use Rattle.smt_meaning.specs.declared.terms.Operator.TheVariants.{Not, And, Equal, Ite, Multiply, AtMost as IsAtMost}
use Rattle.smt_meaning.specs.declared.nodes.Node.{Node}
use Rattle.smt_meaning.specs.declared.clauses.Summand.{Summand}
use Rattle.smt_meaning.specs.declared.clauses.Atom.TheVariants.{Truth, AtMost, Same}
use Rattle.smt_meaning.specs.declared.clauses.Literal.{Literal}
use Rattle.proof_meaning.specs.declared.proof.Step.{Step}
use Rattle.proof_meaning.specs.declared.proof.Step.TheVariants as Rule
use Rattle.smt_meaning.specs.Declaration.{Declaration}
use Rattle.smt_meaning.specs.Interpretation.{Interprets, interprets, IsFunctionFor, has_sort}
use Rattle.smt_meaning.specs.Term.{Tree, Interpretation, node, none, more, tree_at}
use Rattle.smt_meaning.specs.Nodes.{trees_of}
use Rattle.smt_meaning.specs.Signature.{is_bool, is_int}
use Rattle.smt_meaning.specs.Clause.{some_true}
use Rattle.smt_meaning.specs.Linear.{summand, is_zero}
use Rattle.proof_meaning.specs.Proof.{term_sort, meant, AreTerms, IsLiteral, IsSummand, IsBoolAt, IsIntAt, is_leaf, literal, negated, is_true, are_same}
use Rattle.proof_meaning.specs.Rules.{Gives, IsForm, of_bools, of_at_most, AreScaled, IsResolution, Runs, no_steps, next_step, IsGood}
use Rattle.proof_meaning.specs.Reading.{literal_read, step_read, node_read, proof_read, listed, IsYes, IsWrongStep, HasNoEnd}
use Rattle.proof_meaning.specs.declared.proof.Proof.{Proof}
use Rattle.smt_meaning.specs.Sexp.{Sexp, first_of_all}
use Rattle.smt_meaning.specs.Stack.{Frame, signature_of, assertions_of}
use Rattle.smt_meaning.specs.Reading.{text_rest, mark_rest, quoted_rest, lexeme, comment_rest, is_word_byte, is_symbol_byte, is_printable, word_token}
use Rattle.smt_laws.proofs.Script.{script}
use Rattle.smt_laws.proofs.Written.{parts}
use Rattle.proof_meaning.proofs.Tests.{are_terms, terms, less, bool_sort, int_sort, other_than_zero}
use Rattle.proof_meaning.proofs.Running.{alone_true}

abbrev declared : ℕ → List Sort → Sort → Declaration
declared id arguments result = record { id = id; name = []; rank = record { arguments = arguments; result = result }; body = None; is_sort = false; is_name = false }

abbrev signature : List Declaration
signature = declared 0 [] Truths ∷ declared 1 [] Truths ∷ declared 2 [] Ints ∷ declared 3 [] Ints ∷ declared 4 (Ints ∷ []) Ints ∷ []

abbrev term : Head → List ℕ → Node
term h is = record { head = h; arguments = is }

abbrev nodes : List Node
nodes =
    term (Symbol 0) [] ∷ term (Symbol 1) [] ∷ term (Theory Not) (0 ∷ []) ∷ term (Theory And) (0 ∷ 1 ∷ []) ∷ term (Symbol 2) [] ∷ term (Symbol 3) []
    ∷ term (Theory Ite) (0 ∷ 4 ∷ 5 ∷ []) ∷ term (Symbol 4) (4 ∷ []) ∷ term (Symbol 4) (5 ∷ []) ∷ term (Theory Equal) (4 ∷ 5 ∷ []) ∷ term (Numeral (pos 2)) []
    ∷ term (Theory Multiply) (10 ∷ 4 ∷ []) ∷ term (Theory IsAtMost) (11 ∷ 5 ∷ []) ∷ []

abbrev trees : List Tree
trees = trees_of nodes

-- they are terms; a later argument, a term of no sort and a product of two variables aren't
they_are : are_terms signature [] nodes ≡ true
they_are = refl

others_are_not : are_terms signature [] (term (Theory Not) (1 ∷ []) ∷ term (Symbol 0) [] ∷ []) ≡ false
others_are_not = refl

no_sort : are_terms signature [] (term (Symbol 2) [] ∷ term (Theory Not) (0 ∷ []) ∷ []) ≡ false
no_sort = refl

not_linear : are_terms signature [] (term (Symbol 2) [] ∷ term (Symbol 3) [] ∷ term (Theory Multiply) (0 ∷ 1 ∷ []) ∷ []) ≡ false
not_linear = refl

good : AreTerms signature nodes trees
good = terms signature nodes they_are

-- (not p) is asserted, and then p
abbrev asserted : List Tree
asserted = tree_at trees 2 ∷ tree_at trees 0 ∷ []

abbrev p : Literal
p = is_true 0

abbrev q : Literal
q = is_true 1

abbrev at_most : List Summand → ℤ → Literal
at_most ps k = literal true (AtMost ps k)

abbrev Ascend : Summand → Summand → Type 0
Ascend l m = l.term < m.term

abbrev is_negation : Tree → Bool
is_negation (node (Theory Not) us) = true
is_negation t = false

-- ---- a step that gives a clause, and the tests by which literals are over terms of the right sorts

bool_at : (i : ℕ) → nat_lt i (length trees) ≡ true → is_bool (term_sort signature (tree_at trees i)) ≡ true → IsBoolAt signature trees i
bool_at i h k = (less i (length trees) h, bool_sort (term_sort signature (tree_at trees i)) k)

leaf_at : (i : ℕ) (c : ℤ) → nat_lt i (length trees) ≡ true → is_int (term_sort signature (tree_at trees i)) ≡ true → is_leaf (tree_at trees i) ≡ true → is_zero c ≡ false
    → IsSummand signature trees (summand i c)
leaf_at i c h k leaf e = record { int = (less i (length trees) h, int_sort (term_sort signature (tree_at trees i)) k); leaf = leaf; not_zero = other_than_zero c e }

abbrev IsLit : Literal → Type 0
IsLit l = IsLiteral signature trees l

one : (l : Literal) → IsLit l → All IsLit (l ∷ [])
one l h = All-cons IsLit l [] h (All-nil IsLit)

two : (l m : Literal) → IsLit l → IsLit m → All IsLit (l ∷ m ∷ [])
two l m h k = All-cons IsLit l (m ∷ []) h (one m k)

three : (l m n : Literal) → IsLit l → IsLit m → IsLit n → All IsLit (l ∷ m ∷ n ∷ [])
three l m n h k e = All-cons IsLit l (m ∷ n ∷ []) h (two m n k e)

abbrev GivesHere : List (List Literal) → Step → List Literal → Type 0
GivesHere before step ls = Gives signature nodes trees asserted before step ls

p_is : IsLit p
p_is = bool_at 0 refl refl

q_is : IsLit q
q_is = bool_at 1 refl refl

same_is : (i j : ℕ) → nat_lt i (length trees) ≡ true → nat_lt j (length trees) ≡ true → term_sort signature (tree_at trees i) ≡ term_sort signature (tree_at trees j) → IsLit (are_same i j)
same_is i j h k e = (less i (length trees) h, less j (length trees) k, e)

-- ---- assertions: p is the second

asserts : GivesHere [] (Rule.Assert 1 0) (p ∷ [])
asserts = record { by_rule = record { asserted_within = omega arith; within = omega arith; tree_is = refl; clause = refl }; literals = one p p_is }

-- and not the first
asserts_another : GivesHere [] (Rule.Assert 0 0) (p ∷ []) → ⊥
asserts_another g = let e : true ≡ false = ap is_negation (sym (g.by_rule).tree_is) in cc

-- nor is there a third
asserts_no_more : GivesHere [] (Rule.Assert 2 0) (p ∷ []) → ⊥
asserts_no_more g = absurd (omega (arith, (g.by_rule).asserted_within))

-- ---- equality

refl_given : GivesHere [] (Rule.Refl 4) (are_same 4 4 ∷ [])
refl_given = record { by_rule = refl; literals = one (are_same 4 4) (same_is 4 4 refl refl refl) }

sym_given : GivesHere [] (Rule.Sym 4 5) (negated (are_same 4 5) ∷ are_same 5 4 ∷ [])
sym_given = record { by_rule = refl; literals = two (negated (are_same 4 5)) (are_same 5 4) (same_is 4 5 refl refl refl) (same_is 5 4 refl refl refl) }

trans_given : GivesHere [] (Rule.Trans 4 5 6) (negated (are_same 4 5) ∷ negated (are_same 5 6) ∷ are_same 4 6 ∷ [])
trans_given = record {
  by_rule = refl;
  literals = three (negated (are_same 4 5)) (negated (are_same 5 6)) (are_same 4 6) (same_is 4 5 refl refl refl) (same_is 5 6 refl refl refl) (same_is 4 6 refl refl refl);
}

-- a term that isn't there equals nothing, and no Int is a Bool
refl_past : GivesHere [] (Rule.Refl 13) (are_same 13 13 ∷ []) → ⊥
refl_past g = absurd (omega (arith, (All-head IsLit (are_same 13 13) [] g.literals).0))

sym_of_sorts : GivesHere [] (Rule.Sym 0 4) (negated (are_same 0 4) ∷ are_same 4 0 ∷ []) → ⊥
sym_of_sorts g = let e : true ≡ false = ap is_bool (All-head IsLit (negated (are_same 0 4)) (are_same 4 0 ∷ []) g.literals).2 in cc

cong_given : GivesHere [] (Rule.Cong 7 8) (negated (are_same 4 5) ∷ are_same 7 8 ∷ [])
cong_given = record {
  by_rule = record { left_within = omega arith; right_within = omega arith; head = refl; count = refl; clause = refl };
  literals = two (negated (are_same 4 5)) (are_same 7 8) (same_is 4 5 refl refl refl) (same_is 7 8 refl refl refl);
}

-- ---- Bools

truth_given : GivesHere [] (Rule.Truth 0 1) (negated (are_same 0 1) ∷ negated p ∷ q ∷ [])
truth_given = record { by_rule = refl; literals = three (negated (are_same 0 1)) (negated p) q (same_is 0 1 refl refl refl) p_is q_is }

both_given : GivesHere [] (Rule.Both 0 1) (negated p ∷ negated q ∷ are_same 0 1 ∷ [])
both_given = record { by_rule = refl; literals = three (negated p) (negated q) (are_same 0 1) p_is q_is (same_is 0 1 refl refl refl) }

neither_given : GivesHere [] (Rule.Neither 0 1) (p ∷ q ∷ are_same 0 1 ∷ [])
neither_given = record { by_rule = refl; literals = three p q (are_same 0 1) p_is q_is (same_is 0 1 refl refl refl) }

-- of Ints there is no truth
truth_of_ints : GivesHere [] (Rule.Truth 4 5) (negated (are_same 4 5) ∷ negated (is_true 4) ∷ is_true 5 ∷ []) → ⊥
truth_of_ints g =
    let e : true ≡ false = ap is_int (All-head IsLit (negated (is_true 4)) (is_true 5 ∷ []) (All-tail IsLit (negated (are_same 4 5)) (negated (is_true 4) ∷ is_true 5 ∷ []) g.literals)).1 in cc

-- ---- parts: (and p q) is false where p is

abbrev OnParts : Literal → Type 0
OnParts l = (l.atom ≡ Truth 3) ⊎ Contains (Truth 0 ∷ Truth 1 ∷ []) l.atom

and_given : GivesHere [] (Rule.Form 3 (negated (is_true 3) ∷ p ∷ [])) (negated (is_true 3) ∷ p ∷ [])
and_given = record {
  by_rule = (
    record {
      within = omega arith;
      operator = And;
      head = refl;
      parts = _;
      value = _;
      by = of_bools (All-cons (IsBoolAt signature trees) 0 (1 ∷ []) p_is (All-cons (IsBoolAt signature trees) 1 [] q_is (All-nil (IsBoolAt signature trees))));
      on = All-cons OnParts (negated (is_true 3)) (p ∷ []) (inl refl) (All-cons OnParts p [] (inr (0, omega arith, refl)) (All-nil OnParts));
      always = λ v e. by_both (v (Truth 0)) (v (Truth 1)) (v (Truth 3)) e;
    },
    refl,
  );
  literals = two (negated (is_true 3)) p (bool_at 3 refl refl) p_is;
}
  where
    by_both : (a b c : Bool) → c ≡ (a && b) → IsTrue (not c || (a || false))
    by_both true b true e = refl
    by_both true b false e = refl
    by_both false b true e = sym e
    by_both false b false e = refl

-- a sum over the two numbers
abbrev over_both : ℤ → ℤ → List Summand
over_both m n = summand 4 m ∷ summand 5 n ∷ []

over_both_is : (m n : ℤ) → is_zero m ≡ false → is_zero n ≡ false → (b : Bool) (k : ℤ) → IsLit (literal b (AtMost (over_both m n) k))
over_both_is m n e f b k = (
  All-cons (IsSummand signature trees) (summand 4 m) (summand 5 n ∷ []) (leaf_at 4 m refl refl refl e)
      (All-cons (IsSummand signature trees) (summand 5 n) [] (leaf_at 5 n refl refl refl f) (All-nil (IsSummand signature trees))),
  AllPairs-cons Ascend (summand 4 m) (summand 5 n ∷ [])
      (All-cons (Ascend (summand 4 m)) (summand 5 n) [] (omega arith) (All-nil (Ascend (summand 4 m))))
      (AllPairs-cons Ascend (summand 5 n) [] (All-nil (Ascend (summand 5 n))) (λ j l d h k. absurd (omega (arith, k)))),
)

-- the comparison 12 is the bound 2 * x - y <= 0
abbrev compared : List Summand
compared = over_both (pos 2) (negsuc 0)

abbrev OnBound : Literal → Type 0
OnBound l = (l.atom ≡ Truth 12) ⊎ Contains (AtMost compared (pos 0) ∷ []) l.atom

compared_given : GivesHere [] (Rule.Form 12 (is_true 12 ∷ literal false (AtMost compared (pos 0)) ∷ [])) (is_true 12 ∷ literal false (AtMost compared (pos 0)) ∷ [])
unfolding gcd_of
compared_given = record {
  by_rule = (
    record {
      within = omega arith;
      operator = IsAtMost;
      head = refl;
      parts = _;
      value = _;
      by = of_at_most (All-cons (IsIntAt signature trees) 11 (5 ∷ []) (omega arith, refl) (All-cons (IsIntAt signature trees) 5 [] (omega arith, refl) (All-nil (IsIntAt signature trees))));
      on = All-cons OnBound (is_true 12) (literal false (AtMost compared (pos 0)) ∷ []) (inl refl)
          (All-cons OnBound (literal false (AtMost compared (pos 0))) [] (inr (0, omega arith, refl)) (All-nil OnBound));
      always = λ v e. by_bound (v (AtMost compared (pos 0))) (v (Truth 12)) e;
    },
    refl,
  );
  literals = two (is_true 12) (literal false (AtMost compared (pos 0))) (bool_at 12 refl refl) (over_both_is (pos 2) (negsuc 0) refl refl false (pos 0));
}
  where
    by_bound : (a c : Bool) → c ≡ (a && true) → IsTrue (c || (not a || false))
    by_bound true true e = refl
    by_bound true false e = e
    by_bound false true e = refl
    by_bound false false e = refl

-- (ite p x y) is x where p is true
pick_given : GivesHere [] (Rule.Pick 6 0) (negated p ∷ are_same 6 4 ∷ [])
pick_given = record {
  by_rule = record { within = omega arith; which_is = omega arith; condition = 0; first = 4; second = 5; node_is = refl; other = λ b. (let e : true ≡ false = ap is_int b.1 in cc); clause = refl };
  literals = two (negated p) (are_same 6 4) p_is (same_is 6 4 refl refl refl);
}

-- there are two branches
pick_third : (ls : List Literal) → GivesHere [] (Rule.Pick 6 2) ls → ⊥
pick_third ls g = absurd (omega (arith, (g.by_rule).which_is))

-- ---- bounds

abbrev x_minus_y : List Summand
x_minus_y = over_both (pos 1) (negsuc 0)

-- x = y gives x - y <= 0
link_given : GivesHere [] (Rule.Link 4 5 0) (negated (are_same 4 5) ∷ at_most x_minus_y (pos 0) ∷ [])
link_given = record {
  by_rule = record { which_is = omega arith; left = (omega arith, refl); right = (omega arith, refl); clause = refl };
  literals = two (negated (are_same 4 5)) (at_most x_minus_y (pos 0)) (same_is 4 5 refl refl refl) (over_both_is (pos 1) (negsuc 0) refl refl true (pos 0));
}

-- Bools have no difference
link_of_bools : (ls : List Literal) → GivesHere [] (Rule.Link 0 1 0) ls → ⊥
link_of_bools ls g = let e : true ≡ false = ap is_bool (g.by_rule).left.1 in cc

x_is : (b : Bool) (c k : ℤ) → is_zero c ≡ false → IsLit (literal b (AtMost (summand 4 c ∷ []) k))
x_is b c k h = (
  All-cons (IsSummand signature trees) (summand 4 c) [] (leaf_at 4 c refl refl refl h) (All-nil (IsSummand signature trees)),
  AllPairs-cons Ascend (summand 4 c) [] (All-nil (Ascend (summand 4 c))) (λ i j d h k. absurd (omega (arith, k))),
)

-- 2 * x <= -3 gives x <= -2
round_given : GivesHere [] (Rule.Round (at_most (summand 4 (pos 2) ∷ []) (negsuc 2)) 2) (literal false (AtMost (summand 4 (pos 2) ∷ []) (negsuc 2)) ∷ at_most (summand 4 (pos 1) ∷ []) (negsuc 1) ∷ [])
round_given = record {
  by_rule = record { sum = summand 4 (pos 2) ∷ []; most = negsuc 2; literal_is = refl; above = omega arith; divides = (dvd_refl 2, tt); clause = refl };
  literals = two (literal false (AtMost (summand 4 (pos 2) ∷ []) (negsuc 2))) (at_most (summand 4 (pos 1) ∷ []) (negsuc 1)) (x_is false (pos 2) (negsuc 2) refl) (x_is true (pos 1) (negsuc 1) refl);
}

-- x <= 0 or - x <= 0: where both are false, 0 <= -1 - 1
farkas_given : GivesHere [] (Rule.Farkas (record { numerator = 1; denominator = 1; literal = at_most (summand 4 (pos 1) ∷ []) (pos 0) } ∷ record { numerator = 1; denominator = 1; literal = at_most (summand 4 (negsuc 0) ∷ []) (pos 0) } ∷ []))
    (at_most (summand 4 (pos 1) ∷ []) (pos 0) ∷ at_most (summand 4 (negsuc 0) ∷ []) (pos 0) ∷ [])
farkas_given = record {
  by_rule = record {
    scale = 1;
    scale_above = omega arith;
    weights = 1 ∷ 1 ∷ [];
    scaled = (omega arith, omega arith, refl, (omega arith, omega arith, refl, tt));
    constant = pos 2;
    sums = refl;
    above = two_above;
    clause = refl;
  };
  literals = two (at_most (summand 4 (pos 1) ∷ []) (pos 0)) (at_most (summand 4 (negsuc 0) ∷ []) (pos 0)) (x_is true (pos 1) (pos 0) refl) (x_is true (negsuc 0) (pos 0) refl);
}
  where
    two_above : pos 0 <ℤ pos 2
    two_above = omega (arith, ints)

-- a multiplier is above 0
farkas_of_none : (l : Literal) (ls : List Literal) → GivesHere [] (Rule.Farkas (record { numerator = 0; denominator = 1; literal = l } ∷ [])) ls → ⊥
farkas_of_none l ls g = by (g.by_rule).scale (g.by_rule).weights (g.by_rule).scaled
  where
    by : (k : ℕ) (ns : List ℕ) → AreScaled k (record { numerator = 0; denominator = 1; literal = l } ∷ []) ns → ⊥
    by k [] h = h
    by k (n ∷ ns) h = absurd (omega (arith, h.0))

-- ---- resolution

abbrev FromRight : Literal → Type 0
FromRight m = (m ≡ negated p) ⊎ Contains (q ∷ []) m

res_given : GivesHere ((p ∷ []) ∷ (negated p ∷ q ∷ []) ∷ []) (Rule.Res 0 1 p) (q ∷ [])
res_given = record {
  by_rule = record {
    left_earlier = omega arith;
    right_earlier = omega arith;
    gives = record {
      left = (0, omega arith, refl);
      right = (0, omega arith, refl);
      from_left = All-cons (λ (m : Literal). (m ≡ p) ⊎ Contains (q ∷ []) m) p [] (inl refl) (All-nil (λ (m : Literal). (m ≡ p) ⊎ Contains (q ∷ []) m));
      from_right = All-cons FromRight (negated p) (q ∷ []) (inl refl) (All-cons FromRight q [] (inr (0, omega arith, refl)) (All-nil FromRight));
      only = All-cons Only q [] (inr ((1, omega arith, refl), λ e. (let f : true ≡ false = ap (λ (l : Literal). l.positive) e in cc))) (All-nil Only);
    };
  };
  literals = one q q_is;
}
  where
    Only : Literal → Type 0
    Only m = (Contains (p ∷ []) m × (m ≡ p → ⊥)) ⊎ (Contains (negated p ∷ q ∷ []) m × (m ≡ negated p → ⊥))

-- no later clause
res_of_later : (ls : List Literal) → GivesHere ((p ∷ []) ∷ []) (Rule.Res 0 1 p) ls → ⊥
res_of_later ls g = absurd (omega (arith, (g.by_rule).right_earlier))

-- what is resolved on goes
res_keeps : GivesHere ((p ∷ []) ∷ (negated p ∷ []) ∷ []) (Rule.Res 0 1 p) (p ∷ []) → ⊥
res_keeps g = elim (All-head Only p [] (g.by_rule).gives.only) [
  | inl kept ↦ absurd (kept.1 refl)
  | inr other ↦ by other.0
]
  where
    Only : Literal → Type 0
    Only m = (Contains (p ∷ []) m × (m ≡ p → ⊥)) ⊎ (Contains (negated p ∷ []) m × (m ≡ negated p → ⊥))

    by : Contains (negated p ∷ []) p → ⊥
    by c = elim (Contains-push_cases [] (negated p) p c) [
      | inl absent ↦ absurd (omega (arith, absent.1))
      | inr e ↦ (let f : false ≡ true = ap (λ (l : Literal). l.positive) e in cc)
    ]

-- ---- inventions: what some interpretation makes false no step gives where no clause stands before and nothing is asserted

abbrev own : List Value → Value
own (Whole n ∷ vs) = Whole n
own vs = Whole (pos 0)

own_int : (vs : List Value) → IsTrue (has_sort (own vs) Ints)
own_int [] = refl
own_int (Whole n ∷ vs) = refl
own_int (IsTruth b ∷ vs) = refl
own_int (Element k ∷ vs) = refl

abbrev given : Bool → Bool → ℤ → ℤ → Interpretation
given b c m n f vs =
    if nat_eq f 0 then IsTruth b else if nat_eq f 1 then IsTruth c else if nat_eq f 2 then Whole m else if nat_eq f 3 then Whole n else own vs

given_interprets : (b c : Bool) (m n : ℤ) → Interprets signature (given b c m n)
given_interprets b c m n =
    interprets signature (given b c m n)
    (All-cons Is (declared 0 [] Truths) (declared 1 [] Truths ∷ declared 2 [] Ints ∷ declared 3 [] Ints ∷ declared 4 (Ints ∷ []) Ints ∷ []) (λ s vs h. refl)
    (All-cons Is (declared 1 [] Truths) (declared 2 [] Ints ∷ declared 3 [] Ints ∷ declared 4 (Ints ∷ []) Ints ∷ []) (λ s vs h. refl)
    (All-cons Is (declared 2 [] Ints) (declared 3 [] Ints ∷ declared 4 (Ints ∷ []) Ints ∷ []) (λ s vs h. refl)
    (All-cons Is (declared 3 [] Ints) (declared 4 (Ints ∷ []) Ints ∷ []) (λ s vs h. refl)
    (All-cons Is (declared 4 (Ints ∷ []) Ints) [] (λ s vs h. own_int vs) (All-nil Is))))))
  where
    Is : Declaration → Type 0
    Is d = IsFunctionFor (given b c m n) d

refused : (b c : Bool) (m n : ℤ) (ls : List Literal) → some_true (map meant trees) (given b c m n) ls ≡ false → (step : Step) → Gives signature nodes trees [] [] step ls → ⊥
refused b c m n ls e step g =
    let t : some_true (map meant trees) (given b c m n) ls ≡ true = alone_true signature nodes trees (given b c m n) (given_interprets b c m n) good step ls g in
    let f : true ≡ false = sym t ∙ e in
    cc

-- symmetry turned to difference; transitivity with one end; equal results without equal arguments
no_sym : (step : Step) → Gives signature nodes trees [] [] step (negated (are_same 4 5) ∷ negated (are_same 5 4) ∷ []) → ⊥
no_sym = refused true true (pos 1) (pos 1) _ refl

no_trans : (step : Step) → Gives signature nodes trees [] [] step (negated (are_same 4 5) ∷ are_same 4 10 ∷ []) → ⊥
no_trans = refused true true (pos 1) (pos 1) _ refl

no_cong : (step : Step) → Gives signature nodes trees [] [] step (are_same 7 8 ∷ []) → ⊥
no_cong = refused true true (pos 1) (pos 2) _ refl

-- a Bool that is equal to a true one may be false if they needn't be equal; unequal Bools
no_truth : (step : Step) → Gives signature nodes trees [] [] step (negated p ∷ q ∷ []) → ⊥
no_truth = refused true false (pos 0) (pos 0) _ refl

no_both : (step : Step) → Gives signature nodes trees [] [] step (negated p ∷ are_same 0 1 ∷ []) → ⊥
no_both = refused true false (pos 0) (pos 0) _ refl

no_neither : (step : Step) → Gives signature nodes trees [] [] step (p ∷ are_same 0 1 ∷ []) → ⊥
no_neither = refused false true (pos 0) (pos 0) _ refl

-- a conjunction of one true part; the other branch; a bound of equals that is too small; rounding up; bounds that don't exclude one another
no_form : (step : Step) → Gives signature nodes trees [] [] step (is_true 3 ∷ negated p ∷ []) → ⊥
no_form = refused true false (pos 0) (pos 0) _ refl

no_pick : (step : Step) → Gives signature nodes trees [] [] step (negated p ∷ are_same 6 5 ∷ []) → ⊥
no_pick = refused true true (pos 1) (pos 2) _ refl

no_link : (step : Step) → Gives signature nodes trees [] [] step (negated (are_same 4 5) ∷ at_most x_minus_y (negsuc 0) ∷ []) → ⊥
no_link = refused true true (pos 1) (pos 1) _ refl

no_round : (step : Step) → Gives signature nodes trees [] [] step (literal false (AtMost (summand 4 (pos 2) ∷ []) (pos 3)) ∷ at_most (summand 4 (pos 1) ∷ []) (pos 0) ∷ []) → ⊥
no_round = refused true true (pos 1) (pos 0) _ refl

no_farkas : (step : Step) → Gives signature nodes trees [] [] step (literal false (AtMost (summand 4 (pos 1) ∷ []) (pos 0)) ∷ literal false (AtMost (summand 4 (negsuc 0) ∷ []) (pos 0)) ∷ []) → ⊥
no_farkas = refused true true (pos 0) (pos 0) _ refl

-- nor the empty clause
pub no_empty : (step : Step) → Gives signature nodes trees [] [] step [] → ⊥
no_empty = refused true true (pos 0) (pos 0) [] refl

-- ---- proofs as they are written: p and (not p) have no model

abbrev frame : List Tree → Frame
frame ts = record { declared = record { id = 0; name = codes "p"; rank = record { arguments = []; result = Truths }; body = None; is_sort = false; is_name = false } ∷ []; asserted = map (λ (t : Tree). record { text = []; term = t }) ts }

abbrev frames : List Frame
frames = frame (node (Symbol 0) none ∷ node (Theory Not) (more (node (Symbol 0) none) none) ∷ []) ∷ []

abbrev written : String → Sexp
written text = first_of_all (script (codes text) ∷ [])

abbrev by_hand : Proof
by_hand = record {
  nodes = term (Symbol 0) [] ∷ term (Theory Not) (0 ∷ []) ∷ [];
  steps = Rule.Assert 0 0 ∷ Rule.Assert 1 1 ∷ Rule.Form 1 (negated (is_true 1) ∷ negated (is_true 0) ∷ []) ∷ Rule.Res 1 2 (is_true 1) ∷ Rule.Res 0 3 (is_true 0) ∷ [];
}

read_back : proof_read (signature_of frames) (written "(((p) (not 0)) ((assert 0 0) (assert 1 1) (form 1 (not (t 1)) (not (t 0))) (res 1 2 (t 1)) (res 0 3 (t 0))))") ≡ Some by_hand
unfolding text_rest mark_rest quoted_rest lexeme comment_rest is_word_byte is_symbol_byte is_printable word_token
read_back = refl

abbrev hand_trees : List Tree
hand_trees = trees_of by_hand.nodes

abbrev IsOurs : Literal → Type 0
IsOurs l = IsLiteral (signature_of frames) hand_trees l

here : (b : Bool) (i : ℕ) → nat_lt i 2 ≡ true → term_sort (signature_of frames) (tree_at hand_trees i) ≡ Some Truths → IsOurs (literal b (Truth i))
here b i h e = (less i 2 h, e)

ours : (l : Literal) → IsOurs l → All IsOurs (l ∷ [])
ours l h = All-cons IsOurs l [] h (All-nil IsOurs)

abbrev OnNot : Literal → Type 0
OnNot l = (l.atom ≡ Truth 1) ⊎ Contains (Truth 0 ∷ []) l.atom

not_clause : List Literal
not_clause = negated (is_true 1) ∷ negated (is_true 0) ∷ []

not_given : IsForm (signature_of frames) by_hand.nodes hand_trees 1 not_clause
unfolding not_clause
not_given = record {
  within = omega arith;
  operator = Not;
  head = refl;
  parts = _;
  value = _;
  by = of_bools (All-cons (IsBoolAt (signature_of frames) hand_trees) 0 [] (omega arith, refl) (All-nil (IsBoolAt (signature_of frames) hand_trees)));
  on = All-cons OnNot (negated (is_true 1)) (negated (is_true 0) ∷ []) (inl refl) (All-cons OnNot (negated (is_true 0)) [] (inr (0, omega arith, refl)) (All-nil OnNot));
  always = λ v e. by_not (v (Truth 0)) (v (Truth 1)) e;
}
  where
    by_not : (a b : Bool) → b ≡ not a → IsTrue (not b || (not a || false))
    by_not true true e = sym e
    by_not true false e = refl
    by_not false true e = refl
    by_not false false e = refl

unit_resolved : (l : Literal) → IsResolution (l ∷ []) (negated l ∷ []) l []
unit_resolved l = record {
  left = (0, omega arith, refl);
  right = (0, omega arith, refl);
  from_left = All-cons (λ (m : Literal). (m ≡ l) ⊎ Contains [] m) l [] (inl refl) (All-nil (λ (m : Literal). (m ≡ l) ⊎ Contains [] m));
  from_right = All-cons (λ (m : Literal). (m ≡ negated l) ⊎ Contains [] m) (negated l) [] (inl refl) (All-nil (λ (m : Literal). (m ≡ negated l) ⊎ Contains [] m));
  only = All-nil (λ (m : Literal). (Contains (l ∷ []) m × (m ≡ l → ⊥)) ⊎ (Contains (negated l ∷ []) m × (m ≡ negated l → ⊥)));
}

abbrev FromNot : Literal → Type 0
FromNot m = (m ≡ negated (is_true 1)) ⊎ Contains (negated (is_true 0) ∷ []) m

abbrev OnlyOne : Literal → Type 0
OnlyOne m = (Contains (is_true 1 ∷ []) m × (m ≡ is_true 1 → ⊥)) ⊎ (Contains (negated (is_true 1) ∷ negated (is_true 0) ∷ []) m × (m ≡ negated (is_true 1) → ⊥))

abbrev place : Literal → ℕ
place l = elim l.atom [ Truth i ↦ i | AtMost ps k ↦ 0 | Same i j ↦ 0 ]

second_resolved : IsResolution (is_true 1 ∷ []) (negated (is_true 1) ∷ negated (is_true 0) ∷ []) (is_true 1) (negated (is_true 0) ∷ [])
second_resolved = record {
  left = (0, omega arith, refl);
  right = (0, omega arith, refl);
  from_left = All-cons (λ (m : Literal). (m ≡ is_true 1) ⊎ Contains (negated (is_true 0) ∷ []) m) (is_true 1) [] (inl refl) (All-nil (λ (m : Literal). (m ≡ is_true 1) ⊎ Contains (negated (is_true 0) ∷ []) m));
  from_right = All-cons FromNot (negated (is_true 1)) (negated (is_true 0) ∷ []) (inl refl) (All-cons FromNot (negated (is_true 0)) [] (inr (0, omega arith, refl)) (All-nil FromNot));
  only = All-cons OnlyOne (negated (is_true 0)) [] (inr ((1, omega arith, refl), λ e. (let f : 0 ≡ 1 = ap place e in absurd (omega (arith, f))))) (All-nil OnlyOne);
}

first_four : Runs (signature_of frames) by_hand.nodes hand_trees (assertions_of frames)
    (Rule.Assert 0 0 ∷ Rule.Assert 1 1 ∷ Rule.Form 1 (negated (is_true 1) ∷ negated (is_true 0) ∷ []) ∷ Rule.Res 1 2 (is_true 1) ∷ [])
    ((is_true 0 ∷ []) ∷ (is_true 1 ∷ []) ∷ (negated (is_true 1) ∷ negated (is_true 0) ∷ []) ∷ (negated (is_true 0) ∷ []) ∷ [])
unfolding not_clause
first_four =
    next_step (next_step (next_step (next_step no_steps
    (Rule.Assert 0 0) (is_true 0 ∷ []) (record { by_rule = record { asserted_within = omega arith; within = omega arith; tree_is = refl; clause = refl }; literals = ours (is_true 0) (here true 0 refl refl) }))
    (Rule.Assert 1 1) (is_true 1 ∷ []) (record { by_rule = record { asserted_within = omega arith; within = omega arith; tree_is = refl; clause = refl }; literals = ours (is_true 1) (here true 1 refl refl) }))
    (Rule.Form 1 (negated (is_true 1) ∷ negated (is_true 0) ∷ [])) (negated (is_true 1) ∷ negated (is_true 0) ∷ []) (record { by_rule = (not_given, refl); literals = All-cons IsOurs (negated (is_true 1)) (negated (is_true 0) ∷ []) (here false 1 refl refl) (ours (negated (is_true 0)) (here false 0 refl refl)) }))
    (Rule.Res 1 2 (is_true 1)) (negated (is_true 0) ∷ []) (record { by_rule = record { left_earlier = omega arith; right_earlier = omega arith; gives = second_resolved }; literals = ours (negated (is_true 0)) (here false 0 refl refl) })

by_hand_terms : AreTerms (signature_of frames) by_hand.nodes hand_trees
by_hand_terms = terms (signature_of frames) by_hand.nodes refl

by_hand_good : IsGood frames by_hand
by_hand_good = record {
  trees = hand_trees;
  clauses = (is_true 0 ∷ []) ∷ (is_true 1 ∷ []) ∷ (negated (is_true 1) ∷ negated (is_true 0) ∷ []) ∷ (negated (is_true 0) ∷ []) ∷ [];
  by_rules = record {
    terms = by_hand_terms;
    steps = next_step first_four (Rule.Res 0 3 (is_true 0)) [] (record { by_rule = record { left_earlier = omega arith; right_earlier = omega arith; gives = unit_resolved (is_true 0) }; literals = All-nil IsOurs });
  };
}

-- so it is found good
by_hand_yes : IsYes frames (written "(((p) (not 0)) ((assert 0 0) (assert 1 1) (form 1 (not (t 1)) (not (t 0))) (res 1 2 (t 1)) (res 0 3 (t 0))))")
by_hand_yes = record { proof = by_hand; read = read_back; good = by_hand_good }

-- without its last step it doesn't end in the empty clause
without_end : HasNoEnd frames (written "(((p) (not 0)) ((assert 0 0) (assert 1 1) (form 1 (not (t 1)) (not (t 0))) (res 1 2 (t 1))))") 4
unfolding text_rest mark_rest quoted_rest lexeme comment_rest is_word_byte is_symbol_byte is_printable word_token
without_end = record {
  proof = record {
    nodes = by_hand.nodes;
    steps = Rule.Assert 0 0 ∷ Rule.Assert 1 1 ∷ Rule.Form 1 (negated (is_true 1) ∷ negated (is_true 0) ∷ []) ∷ Rule.Res 1 2 (is_true 1) ∷ [];
  };
  read = refl;
  number = refl;
  trees = hand_trees;
  clauses = (is_true 0 ∷ []) ∷ (is_true 1 ∷ []) ∷ (negated (is_true 1) ∷ negated (is_true 0) ∷ []) ∷ (negated (is_true 0) ∷ []) ∷ [];
  by_rules = record { terms = by_hand_terms; steps = first_four };
  not_empty = λ before e. last_is before e;
}
  where
    last_of : List (List Literal) → List Literal
    last_of [] = is_true 0 ∷ []
    last_of (c ∷ []) = c
    last_of (c ∷ d ∷ cs) = last_of (d ∷ cs)

    ends : (before : List (List Literal)) → last_of (before ++ [] ∷ []) ≡ []
    ends [] = refl
    ends (c ∷ []) = refl
    ends (c ∷ d ∷ cs) = ends (d ∷ cs)

    last_is : (before : List (List Literal)) → (is_true 0 ∷ []) ∷ (is_true 1 ∷ []) ∷ (negated (is_true 1) ∷ negated (is_true 0) ∷ []) ∷ (negated (is_true 0) ∷ []) ∷ [] ≡ before ++ [] ∷ [] → ⊥
    last_is before e = let f : negated (is_true 0) ∷ [] ≡ [] = ap last_of e ∙ ends before in cc

-- the second step says that the second assertion is p
another_assertion : IsWrongStep frames (written "(((p) (not 0)) ((assert 0 0) (assert 1 0) (form 1 (not (t 1)) (not (t 0))) (res 1 2 (t 1)) (res 0 3 (t 0))))") 1
unfolding text_rest mark_rest quoted_rest lexeme comment_rest is_word_byte is_symbol_byte is_printable word_token
another_assertion = record {
  terms = parts (written "(p)" ∷ written "(not 0)" ∷ []);
  steps = parts (written "(assert 0 0)" ∷ written "(assert 1 0)" ∷ written "(form 1 (not (t 1)) (not (t 0)))" ∷ written "(res 1 2 (t 1))" ∷ written "(res 0 3 (t 0))" ∷ []);
  lists = refl;
  nodes = by_hand.nodes;
  trees = hand_trees;
  nodes_read = (refl, (refl, tt));
  good = by_hand_terms;
  before = written "(assert 0 0)" ∷ [];
  at = written "(assert 1 0)";
  after = written "(form 1 (not (t 1)) (not (t 0)))" ∷ written "(res 1 2 (t 1))" ∷ written "(res 0 3 (t 0))" ∷ [];
  split = refl;
  number = refl;
  done = Rule.Assert 0 0 ∷ [];
  clauses = (is_true 0 ∷ []) ∷ [];
  steps_read = (refl, tt);
  runs = next_step no_steps (Rule.Assert 0 0) (is_true 0 ∷ []) (record { by_rule = record { asserted_within = omega arith; within = omega arith; tree_is = refl; clause = refl }; literals = ours (is_true 0) (here true 0 refl refl) });
  wrong = λ s ls e g. never s ls e g;
}
  where
    refused_one : (ls : List Literal) → Gives (signature_of frames) by_hand.nodes hand_trees (assertions_of frames) ((is_true 0 ∷ []) ∷ []) (Rule.Assert 1 0) ls → ⊥
    refused_one ls g = let e : false ≡ true = ap is_negation (g.by_rule).tree_is in cc

    never : (s : Step) (ls : List Literal) → Some (Rule.Assert 1 0) ≡ Some s → Gives (signature_of frames) by_hand.nodes hand_trees (assertions_of frames) ((is_true 0 ∷ []) ∷ []) s ls → ⊥
    never s ls e g = refused_one ls (subst (λ r. Gives (signature_of frames) by_hand.nodes hand_trees (assertions_of frames) ((is_true 0 ∷ []) ∷ []) r ls) (sym (let f : Rule.Assert 1 0 ≡ s = cc in f)) g)

-- summands in any order, negative numbers, quotients; and what no proof says
literals_read : map literal_read (listed (script (codes "(le ((2 4) ((- 1) 3)) (- 5)) (not (s 1 2)) (not (not (t 0))) (le ((0 4)) 1) (le ((1 4) (2 4)) 1) (le ((1 4)) (- 0)) (t p) (t 0 1)")))
    ≡ Some (at_most (summand 3 (negsuc 0) ∷ summand 4 (pos 2) ∷ []) (negsuc 4)) ∷ Some (negated (are_same 1 2)) ∷ None ∷ None ∷ None ∷ None ∷ None ∷ None ∷ []
unfolding text_rest mark_rest quoted_rest lexeme comment_rest is_word_byte is_symbol_byte is_printable word_token
literals_read = refl

steps_read : map step_read (listed (script (codes "(none 0 1) (round (le ((2 0)) 1) 2) (farkas (2 (t 0)) ((/ 1 3) (t 1))) (pick 3 1) (euclid 3 1) (refl) (res 0 1) (weaken 0 (t 1)) (trans 0 1)")))
    ≡ Some (Rule.Neither 0 1) ∷ Some (Rule.Round (at_most (summand 0 (pos 2) ∷ []) (pos 1)) 2)
    ∷ Some (Rule.Farkas (record { numerator = 2; denominator = 1; literal = is_true 0 } ∷ record { numerator = 1; denominator = 3; literal = is_true 1 } ∷ []))
    ∷ Some (Rule.Pick 3 1) ∷ Some (Rule.Euclid 3 1) ∷ None ∷ None ∷ None ∷ None ∷ []
unfolding text_rest mark_rest quoted_rest lexeme comment_rest is_word_byte is_symbol_byte is_printable word_token
steps_read = refl

nodes_read : map (node_read (signature_of frames)) (listed (script (codes "(p) (and 0 1) (7) (q) ((- 7)) (170141183460469231731687303715884105728) p (p q)")))
    ≡ Some (term (Symbol 0) []) ∷ Some (term (Theory And) (0 ∷ 1 ∷ [])) ∷ Some (term (Numeral (pos 7)) []) ∷ None ∷ None ∷ None ∷ None ∷ None ∷ []
unfolding text_rest mark_rest quoted_rest lexeme comment_rest is_word_byte is_symbol_byte is_printable word_token
nodes_read = refl
