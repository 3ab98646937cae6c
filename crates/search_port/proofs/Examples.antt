-- Which equalities a theory may number, where x and y are Ints, p and q Bools; and what is a model.
use Rattle.std.proofs.Common.{◌≡◌, ℕ, ℤ, pos, true, false, List, [], ◌∷◌, refl, arith}
use Rattle.std.specs.Prelude.{None}
use Rattle.std.proofs.lemmas.List.Elements.{All-nil, All-cons, All-head}
use Rattle.literals.specs.Signed.{literal_true}
use Rattle.smt_meaning.specs.declared.values.Sort.{Sort}
use Rattle.smt_meaning.specs.declared.values.Sort.TheVariants.{Bool as Truths, Int as Ints}
use Rattle.smt_meaning.specs.declared.values.Value.TheVariants.{Whole}
use Rattle.smt_meaning.specs.declared.values.Table.{Table}
use Rattle.smt_meaning.specs.declared.terms.Operator.TheVariants.{Add, AtMost as IsAtMost}
use Rattle.smt_meaning.specs.declared.terms.Head.TheVariants.{Numeral, Theory, Symbol}
use Rattle.smt_meaning.specs.declared.clauses.Atom.{Atom}
use Rattle.smt_meaning.specs.declared.clauses.Atom.TheVariants.{Truth, Same}
use Rattle.smt_meaning.specs.Declaration.{Declaration}
use Rattle.smt_meaning.specs.Term.{Tree, node, none, more}
use Rattle.smt_meaning.specs.Interpretation.{AreTablesFor, meaning}
use Rattle.smt_meaning.specs.Model.{Fits}
use Rattle.smt_meaning.specs.Stack.{Frame, signature_of}
use Rattle.search_port.specs.State.{Reading, TheoryState, ComparesInts, no_variables, truth}
use Rattle.search_port.specs.Calls.{IsTheoryUnit, IsModelOf}
use Rattle.search_port.specs.declared.budget.Spent.TheVariants.{Numbered}

abbrev constant : ℕ → Sort → Declaration
constant id sort = record { id = id; name = []; rank = record { arguments = []; result = sort }; body = None; is_sort = false; is_name = false }

abbrev trees : List Tree
trees = node (Symbol 0) none ∷ node (Symbol 1) none ∷ node (Symbol 2) none ∷ node (Symbol 3) none ∷ []

abbrev frames : List Frame
frames = record { declared = constant 0 Ints ∷ constant 1 Ints ∷ constant 2 Truths ∷ constant 3 Truths ∷ []; asserted = [] } ∷ []

abbrev reading : List Atom → Reading
reading table = record { trees = trees; frames = frames; table = table; closed = false }

-- (= x y) compares Ints, and so does what is no equality; (= p q) and (= x p) don't
of_ints : ComparesInts trees frames (Same 0 1)
of_ints = (refl, refl)

no_equality : ComparesInts trees frames (Truth 2)
no_equality = tt

of_bools : ComparesInts trees frames (Same 2 3) → ⊥
of_bools h = let e = h.0 in cc

of_both : ComparesInts trees frames (Same 0 2) → ⊥
of_both h = let e = h.1 in cc

-- so the one is a unit after p, and the other isn't
is_unit : IsTheoryUnit (reading (Truth 2 ∷ [])) (reading (Truth 2 ∷ Same 0 1 ∷ [])) (Numbered 1)
is_unit = (omega arith, omega arith, of_ints)

is_no_unit : IsTheoryUnit (reading (Truth 2 ∷ [])) (reading (Truth 2 ∷ Same 2 3 ∷ [])) (Numbered 1) → ⊥
is_no_unit h = of_bools h.2

-- ---- models: that x is at most x + (2^127 - 1) is asserted and told

abbrev greatest : ℤ
greatest = pos 170141183460469231731687303715884105727

abbrev sum : Tree
sum = node (Theory Add) (more (node (Symbol 0) none) (more (node (Numeral greatest) none) none))

abbrev below_sum : Tree
below_sum = node (Theory IsAtMost) (more (node (Symbol 0) none) (more sum none))

abbrev asserted : List Frame
asserted = record { declared = constant 0 Ints ∷ []; asserted = record { text = []; term = below_sum } ∷ [] } ∷ []

abbrev told : TheoryState
told = record {
  reading = record { trees = node (Symbol 0) none ∷ node (Numeral greatest) none ∷ sum ∷ below_sum ∷ []; frames = asserted; table = Truth 3 ∷ []; closed = false };
  log = record { atom = 0; positive = true } ∷ [];
  variables = no_variables;
}

abbrev x_is : ℤ → List Table
x_is n = record { symbol = 0; rows = []; default = Whole n } ∷ []

tables_of_x : (n : ℤ) → AreTablesFor (signature_of asserted) (x_is n)
tables_of_x n = (record { symbol = refl; rows = All-nil _; default = refl; no_two = λ i j d k l. absurd (omega (arith, l)); constants = λ e. refl }, tt)

-- where x is 0 the sum is in the range
zero_is_a_model : IsModelOf told (x_is (pos 0))
zero_is_a_model =
    record {
      tables_for = tables_of_x (pos 0);
      makes_true = All-cons (λ l. literal_true (truth told.reading (meaning (x_is (pos 0)))) l ≡ true) (record { atom = 0; positive = true }) [] refl (All-nil (λ l. literal_true (truth told.reading (meaning (x_is (pos 0)))) l ≡ true));
      fits = All-cons (Fits (meaning (x_is (pos 0)))) below_sum [] refl (All-nil (Fits (meaning (x_is (pos 0)))));
    }

-- where x is 1 what was told is true, and the sum isn't in the range
one_makes_it_true : literal_true (truth told.reading (meaning (x_is (pos 1)))) (record { atom = 0; positive = true }) ≡ true
one_makes_it_true = refl

one_is_no_model : IsModelOf told (x_is (pos 1)) → ⊥
one_is_no_model h = let e = All-head (Fits (meaning (x_is (pos 1)))) below_sum [] h.fits in cc
