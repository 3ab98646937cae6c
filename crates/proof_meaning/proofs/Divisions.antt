-- Divisions in proofs: one that is good, written by hand, and what no rule gives. (= (mod x 2) 1) and ((_ divisible 2) x) have no model.
use Prim.Native.String.{String}
use Rattle.std.proofs.Common.{◌≡◌, ℕ, zero, suc, ◌+◌, ◌<◌, Bool, true, false, not, ◌&&◌, ◌||◌, nat_eq, List, [], ◌∷◌, ◌++◌, length, All, Contains, ◌⊎◌, inl, inr, Some, None, ap, sym, subst, ◌∙◌, refl, arith, map}
use Rattle.std.specs.Prelude.{IsTrue, ℤ, pos, negsuc, ◌<ℤ◌, ◌≢◌, codes, slice_get}
use Rattle.std.proofs.lemmas.Int.{ints}
use Rattle.std.proofs.lemmas.Bool.{eq-eqb}
use Rattle.std.proofs.lemmas.List.Elements.{All-nil, All-cons, All-contains_itself, Contains-append_right}
use Rattle.fraction128.specs.Gcd.{gcd_of}
use Rattle.smt_meaning.specs.declared.values.Sort.TheVariants.{Int as Ints}
use Rattle.smt_meaning.specs.declared.values.Value.TheVariants.{Whole}
use Rattle.smt_meaning.specs.declared.terms.Head.{Head}
use Rattle.smt_meaning.specs.declared.terms.Head.TheVariants.{Numeral, Theory, Symbol}
use Rattle.smt_meaning.specs.declared.terms.Operator.TheVariants.{True, Equal, Add, Subtract, Divide, Modulo, Absolute, Divisible}
use Rattle.smt_meaning.specs.declared.nodes.Node.{Node}
use Rattle.smt_meaning.specs.declared.clauses.Summand.{Summand}
use Rattle.smt_meaning.specs.declared.clauses.Atom.TheVariants.{Truth, AtMost, Same}
use Rattle.smt_meaning.specs.declared.clauses.Literal.{Literal}
use Rattle.smt_meaning.specs.Declaration.{Declaration}
use Rattle.smt_meaning.specs.Sexp.{Sexp, first_of_all}
use Rattle.smt_meaning.specs.Stack.{Frame, signature_of, assertions_of}
use Rattle.smt_meaning.specs.Term.{Tree, Interpretation, node, none, more, tree_at}
use Rattle.smt_meaning.specs.Interpretation.{Interprets, interprets, IsFunctionFor}
use Rattle.smt_meaning.specs.Clause.{some_true}
use Rattle.smt_meaning.specs.TreeShape.{tree_eq, operation, quotient_tree}
use Rattle.smt_meaning.specs.Nodes.{trees_of}
use Rattle.smt_meaning.specs.Signature.{is_int}
use Rattle.smt_meaning.specs.Division.{Row}
use Rattle.smt_meaning.specs.Linear.{summand}
use Rattle.smt_meaning.specs.Reading.{text_rest, mark_rest, quoted_rest, lexeme, comment_rest, is_word_byte, is_symbol_byte, is_printable, word_token}
use Rattle.proof_meaning.specs.declared.proof.Proof.{Proof}
use Rattle.proof_meaning.specs.declared.proof.Step.{Step}
use Rattle.proof_meaning.specs.declared.proof.Step.TheVariants as Rule
use Rattle.proof_meaning.specs.Proof.{term_sort, meant, AreTerms, IsTerm, literal, negated, is_true, are_same}
use Rattle.proof_meaning.specs.Rules.{Gives, clause_at, IsForm, of_equal, IsOtherAt, HasRows, of_quotient, of_last_quotient, of_remainder, of_divisibility, of_absolute, IsResolution, Runs, no_steps, next_step, IsGood}
use Rattle.proof_meaning.specs.Reading.{node_read, proof_read, listed, IsYes, IsWrongNode, IsWrongStep}
use Rattle.smt_laws.proofs.Both.{and_left, and_right}
use Rattle.smt_laws.proofs.Script.{script}
use Rattle.smt_laws.proofs.Written.{parts}
use Rattle.proof_meaning.proofs.Running.{alone_true}
use Rattle.proof_meaning.proofs.Tests.{are_terms, terms, are_literals, literals}

abbrev term : Head → List ℕ → Node
term h is = record { head = h; arguments = is }

abbrev x : Tree
x = node (Symbol 0) none

abbrev number : ℕ → Tree
number n = node (Numeral (pos n)) none

abbrev asserted : List Tree
asserted =
    node (Theory Equal) (more (operation Modulo (more x (more (number 2) none))) (more (number 1) none)) ∷ operation Divisible (more x (more (number 2) none)) ∷ []

abbrev frames : List Frame
frames =
    record {
      declared = record { id = 0; name = codes "x"; rank = record { arguments = []; result = Ints }; body = None; is_sort = false; is_name = false } ∷ [];
      asserted = map (λ (t : Tree). record { text = []; term = t }) asserted;
    } ∷ []

abbrev signature : List Declaration
signature = signature_of frames

abbrev written : String → Sexp
written text = first_of_all (script (codes text) ∷ [])

abbrev at_most : List Summand → ℤ → Literal
at_most ps k = literal true (AtMost ps k)

-- x, 2, (div x 2), (mod x 2), 1, (= (mod x 2) 1), ((_ divisible 2) x)
abbrev nodes : List Node
nodes =
    term (Symbol 0) [] ∷ term (Numeral (pos 2)) [] ∷ term (Theory Divide) (0 ∷ 1 ∷ []) ∷ term (Theory Modulo) (0 ∷ 1 ∷ []) ∷ term (Numeral (pos 1)) []
    ∷ term (Theory Equal) (3 ∷ 4 ∷ []) ∷ term (Numeral (pos 2)) (0 ∷ []) ∷ []

abbrev trees : List Tree
trees = trees_of nodes

-- 1 <= (mod x 2)
abbrev some_left : Literal
some_left = at_most (summand 3 (negsuc 0) ∷ []) (negsuc 0)

-- x <= 2 * (div x 2)
abbrev none_left : Literal
none_left = at_most (summand 0 (pos 1) ∷ summand 2 (negsuc 1) ∷ []) (pos 0)

-- (mod x 2) <= x - 2 * (div x 2)
abbrev left : Literal
left = at_most (summand 0 (negsuc 0) ∷ summand 2 (pos 2) ∷ summand 3 (pos 1) ∷ []) (pos 0)

abbrev contradiction : List Literal
contradiction = negated some_left ∷ negated none_left ∷ negated left ∷ []

abbrev steps : List Step
steps =
    Rule.Assert 0 5 ∷ Rule.Assert 1 6 ∷ Rule.Form 5 (negated (is_true 5) ∷ are_same 3 4 ∷ []) ∷ Rule.Res 0 2 (is_true 5) ∷ Rule.Link 3 4 1 ∷ Rule.Res 3 4 (are_same 3 4)
    ∷ Rule.Euclid 6 3 ∷ Rule.Res 1 6 (is_true 6) ∷ Rule.Euclid 3 2
    ∷ Rule.Farkas (map (λ (l : Literal). record { numerator = 1; denominator = 1; literal = l }) contradiction)
    ∷ Rule.Res 5 9 some_left ∷ Rule.Res 7 10 none_left ∷ Rule.Res 8 11 left ∷ []

abbrev by_hand : Proof
by_hand = record { nodes = nodes; steps = steps }

abbrev as_written : Sexp
as_written = written "(((x) (2) (div 0 1) (mod 0 1) (1) (= 3 4) ((_ divisible 2) 0)) ((assert 0 5) (assert 1 6) (form 5 (not (t 5)) (s 3 4)) (res 0 2 (t 5)) (link 3 4 1) (res 3 4 (s 3 4)) (euclid 6 3) (res 1 6 (t 6)) (euclid 3 2) (farkas (1 (not (le (((- 1) 3)) (- 1)))) (1 (not (le ((1 0) ((- 2) 2)) 0))) (1 (not (le (((- 1) 0) (2 2) (1 3)) 0)))) (res 5 9 (le (((- 1) 3)) (- 1))) (res 7 10 (le ((1 0) ((- 2) 2)) 0)) (res 8 11 (le (((- 1) 0) (2 2) (1 3)) 0))))"

read_back : proof_read signature as_written ≡ Some by_hand
unfolding text_rest mark_rest quoted_rest lexeme comment_rest is_word_byte is_symbol_byte is_printable word_token
read_back = refl

they_are : AreTerms signature nodes trees
they_are = terms signature nodes refl

-- ---- its steps

abbrev GivesHere : List (List Literal) → Step → List Literal → Type 0
GivesHere before step ls = Gives signature nodes trees (assertions_of frames) before step ls

-- a literal resolves with a clause of which its negation is the first
module _ (l : Literal) (rest : List Literal) (apart : All (λ m. m ≢ negated l) rest) where
  abbrev FromRight : Literal → Type 0
  FromRight m = (m ≡ negated l) ⊎ Contains rest m

  resolved : IsResolution (l ∷ []) (negated l ∷ rest) l rest
  resolved = record {
    left = (0, omega arith, refl);
    right = (0, omega arith, refl);
    from_left = All-cons (λ m. (m ≡ l) ⊎ Contains rest m) l [] (inl refl) (All-nil (λ m. (m ≡ l) ⊎ Contains rest m));
    from_right = All-cons FromRight (negated l) rest (inl refl) (λ k d h. inr (All-contains_itself rest k d h));
    only = λ k d h. inr (Contains-append_right (negated l ∷ []) rest _ (All-contains_itself rest k d h), apart k d h);
  }

-- the literals of this proof differ in this
abbrev mark : Literal → ℕ
mark l = elim l.atom [ Truth i ↦ i | AtMost ps k ↦ length ps + 10 | Same i j ↦ 20 ]

abbrev marks_differ : ℕ → List Literal → Bool
marks_differ k [] = true
marks_differ k (m ∷ ms) = not (nat_eq k (mark m)) && marks_differ k ms

differ : (k : ℕ) (ls : List Literal) → marks_differ k ls ≡ true → (l : Literal) → mark l ≡ k → All (λ m. m ≢ l) ls
differ k [] h l e = All-nil (λ m. m ≢ l)
differ k (m ∷ ms) h l e =
    All-cons (λ n. n ≢ l) m ms (λ same. apart (nat_eq k (mark m)) refl (and_left (not (nat_eq k (mark m))) (marks_differ k ms) h) (sym e ∙ ap mark (sym same)))
    (differ k ms (and_right (not (nat_eq k (mark m))) (marks_differ k ms) h) l e)
  where
    apart : (b : Bool) → nat_eq k (mark m) ≡ b → not b ≡ true → k ≡ mark m → ⊥
    apart true p q r = let f : false ≡ true = q in cc
    apart false p q r = let f : true ≡ false = sym (eq-eqb k (mark m) r) ∙ p in cc

res_gives : (before : List (List Literal)) (i j : ℕ) (l : Literal) (rest : List Literal) → i < length before → j < length before → clause_at before i ≡ l ∷ [] → clause_at before j ≡ negated l ∷ rest
    → marks_differ (mark l) rest ≡ true → are_literals signature trees rest ≡ true → GivesHere before (Rule.Res i j l) rest
res_gives before i j l rest hi hj e f m k = record {
  by_rule = record {
    left_earlier = hi;
    right_earlier = hj;
    gives = subst (λ c. IsResolution c (clause_at before j) l rest) (sym e)
        (subst (λ c. IsResolution (l ∷ []) c l rest) (sym f) (resolved l rest (differ (mark l) rest m (negated l) refl)));
  };
  literals = literals signature trees rest k;
}

abbrev OnEqual : Literal → Type 0
OnEqual l = (l.atom ≡ Truth 5) ⊎ Contains (Same 3 4 ∷ []) l.atom

no_bool : (i : ℕ) → is_int (term_sort signature (tree_at trees i)) ≡ true → IsOtherAt signature trees i
no_bool i h b = let e : false ≡ true = ap is_int (sym b.1) ∙ h in cc

equal_is_form : IsForm signature nodes trees 5 (negated (is_true 5) ∷ are_same 3 4 ∷ [])
equal_is_form = record {
  within = omega arith;
  operator = Equal;
  head = refl;
  parts = _;
  value = _;
  by = of_equal (All-cons (IsOtherAt signature trees) 3 (4 ∷ []) (no_bool 3 refl) (All-cons (IsOtherAt signature trees) 4 [] (no_bool 4 refl) (All-nil (IsOtherAt signature trees))));
  on = All-cons OnEqual (negated (is_true 5)) (are_same 3 4 ∷ []) (inl refl) (All-cons OnEqual (are_same 3 4) [] (inr (0, omega arith, refl)) (All-nil OnEqual));
  always = λ v e. by_equal (v (Same 3 4)) (v (Truth 5)) e;
}
  where
    by_equal : (a b : Bool) → b ≡ (a && true) → IsTrue (not b || (a || false))
    by_equal true true e = refl
    by_equal true false e = refl
    by_equal false true e = sym e
    by_equal false false e = refl

abbrev first_clauses : List (List Literal)
first_clauses =
    (is_true 5 ∷ []) ∷ (is_true 6 ∷ []) ∷ (negated (is_true 5) ∷ are_same 3 4 ∷ []) ∷ (are_same 3 4 ∷ []) ∷ (negated (are_same 3 4) ∷ some_left ∷ []) ∷ (some_left ∷ []) ∷ []

-- from the first assertion: something is left
first_steps : Runs signature nodes trees (assertions_of frames)
    (Rule.Assert 0 5 ∷ Rule.Assert 1 6 ∷ Rule.Form 5 (negated (is_true 5) ∷ are_same 3 4 ∷ []) ∷ Rule.Res 0 2 (is_true 5) ∷ Rule.Link 3 4 1 ∷ Rule.Res 3 4 (are_same 3 4) ∷ [])
    first_clauses
first_steps =
    next_step (next_step (next_step (next_step (next_step (next_step no_steps
    (Rule.Assert 0 5) (is_true 5 ∷ [])
    (record { by_rule = record { asserted_within = omega arith; within = omega arith; tree_is = refl; clause = refl }; literals = literals signature trees (is_true 5 ∷ []) refl }))
    (Rule.Assert 1 6) (is_true 6 ∷ [])
    (record { by_rule = record { asserted_within = omega arith; within = omega arith; tree_is = refl; clause = refl }; literals = literals signature trees (is_true 6 ∷ []) refl }))
    (Rule.Form 5 (negated (is_true 5) ∷ are_same 3 4 ∷ [])) (negated (is_true 5) ∷ are_same 3 4 ∷ [])
    (record { by_rule = (equal_is_form, refl); literals = literals signature trees (negated (is_true 5) ∷ are_same 3 4 ∷ []) refl }))
    (Rule.Res 0 2 (is_true 5)) (are_same 3 4 ∷ []) (res_gives _ 0 2 (is_true 5) (are_same 3 4 ∷ []) (omega arith) (omega arith) refl refl refl refl))
    (Rule.Link 3 4 1) (negated (are_same 3 4) ∷ some_left ∷ [])
    (record {
      by_rule = record { which_is = omega arith; left = (omega arith, refl); right = (omega arith, refl); clause = refl };
      literals = literals signature trees (negated (are_same 3 4) ∷ some_left ∷ []) refl;
    }))
    (Rule.Res 3 4 (are_same 3 4)) (some_left ∷ []) (res_gives _ 3 4 (are_same 3 4) (some_left ∷ []) (omega arith) (omega arith) refl refl refl refl)

-- where 2 divides x, nothing is left
divisible_gives : (before : List (List Literal)) → GivesHere before (Rule.Euclid 6 3) (negated (is_true 6) ∷ none_left ∷ [])
unfolding gcd_of
divisible_gives before = record {
  by_rule = record { within = omega arith; rows = _; has = of_divisibility 0 2 (pos 2) refl; row = _; row_is = refl; clause = refl };
  literals = literals signature trees (negated (is_true 6) ∷ none_left ∷ []) refl;
}

remainder_gives : (before : List (List Literal)) → GivesHere before (Rule.Euclid 3 2) (left ∷ [])
unfolding gcd_of
remainder_gives before = record {
  by_rule = record { within = omega arith; rows = _; has = of_remainder 0 1 2 refl; row = _; row_is = refl; clause = refl };
  literals = literals signature trees (left ∷ []) refl;
}

contradiction_given : (before : List (List Literal)) → GivesHere before (Rule.Farkas (map (λ (l : Literal). record { numerator = 1; denominator = 1; literal = l }) contradiction)) contradiction
contradiction_given before = record {
  by_rule = record {
    scale = 1;
    scale_above = omega arith;
    weights = 1 ∷ 1 ∷ 1 ∷ [];
    scaled = (omega arith, omega arith, refl, (omega arith, omega arith, refl, (omega arith, omega arith, refl, tt)));
    constant = pos 1;
    sums = refl;
    above = one_above;
    clause = refl;
  };
  literals = literals signature trees contradiction refl;
}
  where
    one_above : pos 0 <ℤ pos 1
    one_above = omega (arith, ints)

abbrev last_clauses : List (List Literal)
last_clauses =
    (negated (is_true 6) ∷ none_left ∷ []) ∷ (none_left ∷ []) ∷ (left ∷ []) ∷ contradiction ∷ (negated none_left ∷ negated left ∷ []) ∷ (negated left ∷ []) ∷ []

all_steps : Runs signature nodes trees (assertions_of frames) steps ((first_clauses ++ last_clauses) ++ [] ∷ [])
all_steps =
    next_step (next_step (next_step (next_step (next_step (next_step (next_step first_steps
    (Rule.Euclid 6 3) (negated (is_true 6) ∷ none_left ∷ []) (divisible_gives _))
    (Rule.Res 1 6 (is_true 6)) (none_left ∷ []) (res_gives _ 1 6 (is_true 6) (none_left ∷ []) (omega arith) (omega arith) refl refl refl refl))
    (Rule.Euclid 3 2) (left ∷ []) (remainder_gives _))
    (Rule.Farkas (map (λ (l : Literal). record { numerator = 1; denominator = 1; literal = l }) contradiction)) contradiction (contradiction_given _))
    (Rule.Res 5 9 some_left) (negated none_left ∷ negated left ∷ []) (res_gives _ 5 9 some_left (negated none_left ∷ negated left ∷ []) (omega arith) (omega arith) refl refl refl refl))
    (Rule.Res 7 10 none_left) (negated left ∷ []) (res_gives _ 7 10 none_left (negated left ∷ []) (omega arith) (omega arith) refl refl refl refl))
    (Rule.Res 8 11 left) [] (res_gives _ 8 11 left [] (omega arith) (omega arith) refl refl refl refl)

by_hand_good : IsGood frames by_hand
by_hand_good = record { trees = trees; clauses = first_clauses ++ last_clauses; by_rules = record { terms = they_are; steps = all_steps } }

by_hand_yes : IsYes frames as_written
by_hand_yes = record { proof = by_hand; read = read_back; good = by_hand_good }

-- ---- other tables

-- (div (div x 2) 2) is (div x 2 2)
abbrev several : List Node
several = term (Symbol 0) [] ∷ term (Numeral (pos 2)) [] ∷ term (Theory Divide) (0 ∷ 1 ∷ []) ∷ term (Theory Divide) (0 ∷ 1 ∷ 1 ∷ []) ∷ []

several_are : are_terms signature [] several ≡ true
several_are = refl

several_given : Gives signature several (trees_of several) [] [] (Rule.Euclid 3 0) (at_most (summand 2 (negsuc 0) ∷ summand 3 (pos 2) ∷ []) (pos 0) ∷ [])
unfolding gcd_of
several_given = record {
  by_rule = record { within = omega arith; rows = _; has = of_last_quotient 2 1 (0 ∷ 1 ∷ []) (omega arith) refl; row = _; row_is = refl; clause = refl };
  literals = literals signature (trees_of several) (at_most (summand 2 (negsuc 0) ∷ summand 3 (pos 2) ∷ []) (pos 0) ∷ []) refl;
}

abbrev negated_two : List Node
negated_two = term (Symbol 0) [] ∷ term (Numeral (pos 2)) [] ∷ term (Theory Subtract) (1 ∷ []) ∷ term (Theory Divide) (0 ∷ 2 ∷ []) ∷ []

-- by -2 at most 1 is left
negated_given : Gives signature negated_two (trees_of negated_two) [] [] (Rule.Euclid 3 1) (at_most (summand 0 (pos 1) ∷ summand 3 (pos 2) ∷ []) (pos 1) ∷ [])
unfolding gcd_of
negated_given = record {
  by_rule = record { within = omega arith; rows = _; has = of_quotient 0 2; row = _; row_is = refl; clause = refl };
  literals = literals signature (trees_of negated_two) (at_most (summand 0 (pos 1) ∷ summand 3 (pos 2) ∷ []) (pos 1) ∷ []) refl;
}

-- |x| <= x or |x| <= - x
abbrev size : List Node
size = term (Symbol 0) [] ∷ term (Theory Absolute) (0 ∷ []) ∷ []

abbrev one_side : List Literal
one_side = at_most (summand 0 (negsuc 0) ∷ summand 1 (pos 1) ∷ []) (pos 0) ∷ at_most (summand 0 (pos 1) ∷ summand 1 (pos 1) ∷ []) (pos 0) ∷ []

size_given : Gives signature size (trees_of size) [] [] (Rule.Euclid 1 2) one_side
unfolding gcd_of
size_given = record {
  by_rule = record { within = omega arith; rows = _; has = of_absolute 0; row = _; row_is = refl; clause = refl };
  literals = literals signature (trees_of size) one_side refl;
}

-- ---- what no rule gives: where x is 1, something is left, and 2 doesn't divide it

abbrev odd : Interpretation
odd f vs = Whole (pos 1)

odd_interprets : Interprets signature odd
odd_interprets = interprets signature odd (All-cons Is _ [] (λ s vs h. refl) (All-nil Is))
  where
    Is : Declaration → Type 0
    Is d = IsFunctionFor odd d

refused : (ls : List Literal) → some_true (map meant trees) odd ls ≡ false → (step : Step) → Gives signature nodes trees [] [] step ls → ⊥
refused ls e step g =
    let t : some_true (map meant trees) odd ls ≡ true = alone_true signature nodes trees odd odd_interprets they_are step ls g in
    let f : true ≡ false = sym t ∙ e in
    cc

no_remainder : (step : Step) → Gives signature nodes trees [] [] step (at_most (summand 3 (pos 1) ∷ []) (pos 0) ∷ []) → ⊥
no_remainder = refused _ refl

no_division : (step : Step) → Gives signature nodes trees [] [] step (none_left ∷ []) → ⊥
no_division = refused _ refl

always_divides : (step : Step) → Gives signature nodes trees [] [] step (is_true 6 ∷ none_left ∷ []) → ⊥
always_divides = refused _ refl

-- ---- a remainder has a table only where its quotient is a term: (div x 3) isn't

abbrev few : List Node
few = term (Symbol 0) [] ∷ term (Numeral (pos 2)) [] ∷ term (Numeral (pos 3)) [] ∷ term (Theory Divide) (0 ∷ 2 ∷ []) ∷ term (Theory Modulo) (0 ∷ 1 ∷ []) ∷ []

abbrev few_trees : List Tree
few_trees = trees_of few

abbrev half : Tree
half = quotient_tree x (number 2)

not_half : (q : ℕ) → tree_eq (tree_at few_trees q) half ≡ false
not_half zero = refl
not_half (suc zero) = refl
not_half (suc (suc zero)) = refl
not_half (suc (suc (suc zero))) = refl
not_half (suc (suc (suc (suc zero)))) = refl
not_half (suc (suc (suc (suc (suc q))))) = refl

no_rows : (h : Head) (is : List ℕ) (rows : List (Row ℕ)) → HasRows few_trees 4 h is rows → h ≡ Theory Modulo → is ≡ 0 ∷ 1 ∷ [] → ⊥
no_rows _ _ _ (of_quotient a n) e f = cc
no_rows _ _ _ (of_last_quotient a n is two k) e f = cc
no_rows _ _ _ (of_remainder a n q k) e f =
    let first : a ≡ 0 = cc in
    let second : n ≡ 1 = cc in
    let same : tree_at few_trees q ≡ half = k ∙ ap (λ i. quotient_tree (tree_at few_trees i) (tree_at few_trees n)) first ∙ ap (λ i. quotient_tree x (tree_at few_trees i)) second in
    let is : false ≡ true = sym (not_half q) ∙ ap (λ t. tree_eq t half) same in
    cc
no_rows _ _ _ (of_divisibility a q n k) e f = cc
no_rows _ _ _ (of_absolute a) e f = cc

no_table : IsWrongStep frames (written "(((x) (2) (3) (div 0 2) (mod 0 1)) ((euclid 3 0) (euclid 4 2)))") 1
unfolding gcd_of text_rest mark_rest quoted_rest lexeme comment_rest is_word_byte is_symbol_byte is_printable word_token
no_table = record {
  terms = parts (written "(x)" ∷ written "(2)" ∷ written "(3)" ∷ written "(div 0 2)" ∷ written "(mod 0 1)" ∷ []);
  steps = parts (written "(euclid 3 0)" ∷ written "(euclid 4 2)" ∷ []);
  lists = refl;
  nodes = few;
  trees = few_trees;
  nodes_read = (refl, (refl, (refl, (refl, (refl, tt)))));
  good = terms signature few refl;
  before = written "(euclid 3 0)" ∷ [];
  at = written "(euclid 4 2)";
  after = [];
  split = refl;
  number = refl;
  done = Rule.Euclid 3 0 ∷ [];
  clauses = (third ∷ []) ∷ [];
  steps_read = (refl, tt);
  runs = next_step no_steps (Rule.Euclid 3 0) (third ∷ []) (record {
    by_rule = record { within = omega arith; rows = _; has = of_quotient 0 2; row = _; row_is = refl; clause = refl };
    literals = literals signature few_trees (third ∷ []) refl;
  });
  wrong = λ s ls e g. never s ls e g;
}
  where
    third : Literal
    third = at_most (summand 0 (negsuc 0) ∷ summand 3 (pos 3) ∷ []) (pos 0)

    refused_one : (ls : List Literal) → Gives signature few few_trees (assertions_of frames) ((third ∷ []) ∷ []) (Rule.Euclid 4 2) ls → ⊥
    refused_one ls g = no_rows _ _ _ (g.by_rule).has refl refl

    never : (s : Step) (ls : List Literal) → Some (Rule.Euclid 4 2) ≡ Some s → Gives signature few few_trees (assertions_of frames) ((third ∷ []) ∷ []) s ls → ⊥
    never s ls e g = refused_one ls (subst (λ r. Gives signature few few_trees (assertions_of frames) ((third ∷ []) ∷ []) r ls) (sym (let f : Rule.Euclid 4 2 ≡ s = cc in f)) g)

-- the table of a remainder has four rows
four_rows : (h : Head) (is : List ℕ) (rows : List (Row ℕ)) → HasRows trees 3 h is rows → h ≡ Theory Modulo → slice_get rows 4 ≡ None
four_rows _ _ _ (of_quotient a n) e = absurd (cc)
four_rows _ _ _ (of_last_quotient a n is two k) e = absurd (cc)
four_rows _ _ _ (of_remainder a n q k) e = refl
four_rows _ _ _ (of_divisibility a q n k) e = absurd (cc)
four_rows _ _ _ (of_absolute a) e = absurd (cc)

no_fifth : (ls : List Literal) → GivesHere [] (Rule.Euclid 3 4) ls → ⊥
no_fifth ls g = none_some (g.by_rule).row (sym (four_rows _ _ _ (g.by_rule).has refl) ∙ (g.by_rule).row_is)
  where
    none_some : (r : Row ℕ) → None ≡ Some r → ⊥
    none_some r e = cc

-- ---- terms

-- `div` has two arguments or more, `mod` two; nothing divides but numerals other than 0 and their negations; what is divided is an Int
one_argument : are_terms signature [] (term (Symbol 0) [] ∷ term (Theory Divide) (0 ∷ []) ∷ []) ≡ false
one_argument = refl

three_arguments : are_terms signature [] (term (Symbol 0) [] ∷ term (Numeral (pos 2)) [] ∷ term (Theory Divide) (0 ∷ 1 ∷ []) ∷ term (Theory Modulo) (0 ∷ 1 ∷ 2 ∷ []) ∷ []) ≡ false
three_arguments = refl

by_variable : are_terms signature [] (term (Symbol 0) [] ∷ term (Theory Divide) (0 ∷ 0 ∷ []) ∷ []) ≡ false
by_variable = refl

by_zero : are_terms signature [] (term (Symbol 0) [] ∷ term (Numeral (pos 0)) [] ∷ term (Theory Modulo) (0 ∷ 1 ∷ []) ∷ []) ≡ false
by_zero = refl

zero_divides : are_terms signature [] (term (Symbol 0) [] ∷ term (Numeral (pos 0)) (0 ∷ []) ∷ []) ≡ false
zero_divides = refl

bool_divided : are_terms signature [] (term (Theory True) [] ∷ term (Numeral (pos 2)) (0 ∷ []) ∷ []) ≡ false
bool_divided = refl

two_divided : are_terms signature [] (term (Symbol 0) [] ∷ term (Numeral (pos 2)) (0 ∷ 0 ∷ []) ∷ []) ≡ false
two_divided = refl

as_number : are_terms signature [] (term (Symbol 0) [] ∷ term (Numeral (pos 2)) (0 ∷ []) ∷ term (Theory Add) (0 ∷ 1 ∷ []) ∷ []) ≡ false
as_number = refl

-- so such a proof goes wrong at that term
divided_alone : IsWrongNode frames (written "(((x) (div 0)) ())") 1
unfolding text_rest mark_rest quoted_rest lexeme comment_rest is_word_byte is_symbol_byte is_printable word_token
divided_alone = record {
  terms = parts (written "(x)" ∷ written "(div 0)" ∷ []);
  steps = parts [];
  lists = refl;
  before = written "(x)" ∷ [];
  at = written "(div 0)";
  after = [];
  split = refl;
  number = refl;
  nodes = term (Symbol 0) [] ∷ [];
  trees = x ∷ [];
  read = (refl, tt);
  good = terms signature (term (Symbol 0) [] ∷ []) refl;
  wrong = λ m e h. never m e h;
}
  where
    refused_one : IsTerm signature (x ∷ []) (term (Theory Divide) (0 ∷ [])) → ⊥
    refused_one h = let e : None ≡ Some h.sort = h.has_sort in cc

    never : (m : Node) → Some (term (Theory Divide) (0 ∷ [])) ≡ Some m → IsTerm signature (x ∷ []) m → ⊥
    never m e h = refused_one (subst (IsTerm signature (x ∷ [])) (sym (let f : term (Theory Divide) (0 ∷ []) ≡ m = cc in f)) h)

nodes_read : map (node_read signature) (listed (script (codes "(div 0 1 2) (mod 0 1) (abs 0) ((_ divisible 3) 0) ((_ divisible 0) 0) (3 0) ((_ divisible 3) 0 1) ((_ divisible 3)) ((_ divisible 3 4) 0) ((_ divides 3) 0) (divisible 0 1) ((_ divisible 170141183460469231731687303715884105728) 0)")))
    ≡ Some (term (Theory Divide) (0 ∷ 1 ∷ 2 ∷ [])) ∷ Some (term (Theory Modulo) (0 ∷ 1 ∷ [])) ∷ Some (term (Theory Absolute) (0 ∷ [])) ∷ Some (term (Numeral (pos 3)) (0 ∷ []))
    ∷ None ∷ None ∷ None ∷ None ∷ None ∷ None ∷ None ∷ None ∷ []
unfolding text_rest mark_rest quoted_rest lexeme comment_rest is_word_byte is_symbol_byte is_printable word_token
nodes_read = refl
