-- A lawful stack with a product of a constant and a numeral, and an invention with one of two constants, which is none.
use Rattle.std.proofs.Common.{◌≡◌, ◌<◌, inl, inr, ℕ, zero, suc, List, [], ◌∷◌, All, IsTrue, refl, sym, arith}
use Rattle.std.specs.Prelude.{true, false, pos}
use Rattle.std.proofs.lemmas.List.Elements.{All-nil, All-cons, All-head, All-tail}
use Rattle.smt_meaning.specs.declared.terms.Operator.TheVariants.{Multiply}
use Rattle.smt_meaning.specs.declared.terms.Head.TheVariants.{Theory, Symbol, Numeral}
use Rattle.smt_meaning.specs.Term.{Tree, node, none, more, tree_at}
use Rattle.smt_meaning.specs.TreeShape.{is_linear}
use Rattle.smt_meaning.specs.Parts.{IsArgument, StandsBelow}
use Rattle.smt_meaning.specs.Stack.{start_frames}
use Rattle.smt_meaning.specs.StackCommand.{Stack}
use Rattle.smt_laws.specs.Numerals.{numerals_fit}
use Rattle.scope_stack.specs.Shown.{IsLawful}

abbrev times : Tree → Tree → Tree
times t u = node (Theory Multiply) (more t (more u none))

abbrev x : Tree
x = node (Symbol 0) none

abbrev y : Tree
y = node (Symbol 1) none

abbrev two : Tree
two = node (Numeral (pos 2)) none

abbrev IsLinear : Tree → Type 0
IsLinear t = IsTrue (is_linear t)

-- no level asserts anything, and these terms were judged
abbrev with_terms : List Tree → Stack
with_terms ts = record { frames = start_frames; given = 2; trees = ts; global = false }

abbrev doubled : List Tree
doubled = two ∷ x ∷ times two x ∷ []

doubled_apart : (i j : ℕ) → i < 3 → j < 3 → tree_at doubled i ≡ tree_at doubled j → i ≡ j
doubled_apart zero zero p q e = refl
doubled_apart zero (suc zero) p q e = let same : two ≡ x = e in cc
doubled_apart zero (suc (suc zero)) p q e = let same : two ≡ times two x = e in cc
doubled_apart (suc zero) zero p q e = let same : x ≡ two = e in cc
doubled_apart (suc zero) (suc zero) p q e = refl
doubled_apart (suc zero) (suc (suc zero)) p q e = let same : x ≡ times two x = e in cc
doubled_apart (suc (suc zero)) zero p q e = let same : times two x ≡ two = e in cc
doubled_apart (suc (suc zero)) (suc zero) p q e = let same : times two x ≡ x = e in cc
doubled_apart (suc (suc zero)) (suc (suc zero)) p q e = refl
doubled_apart (suc (suc (suc i))) j p q e = absurd (omega (arith, p))
doubled_apart i (suc (suc (suc j))) p q e = absurd (omega (arith, q))

doubled_after : (i : ℕ) (u : Tree) → i < 3 → IsArgument u (tree_at doubled i) → StandsBelow doubled i u
doubled_after zero u p k = absurd k
doubled_after (suc zero) u p k = absurd k
doubled_after (suc (suc zero)) u p (inl e) = (0, omega arith, omega arith, sym e)
doubled_after (suc (suc zero)) u p (inr (inl e)) = (1, omega arith, omega arith, sym e)
doubled_after (suc (suc zero)) u p (inr (inr k)) = absurd k
doubled_after (suc (suc (suc i))) u p k = absurd (omega (arith, p))

-- what computes of each of them
all_doubled : (P : Tree → Type 0) → P two → P x → P (times two x) → All P doubled
all_doubled P h k l = All-cons P two (x ∷ times two x ∷ []) h (All-cons P x (times two x ∷ []) k (All-cons P (times two x) [] l (All-nil P)))

doubled_lawful : IsLawful (with_terms doubled)
doubled_lawful = record {
  no_id_twice = tt;
  truths = λ k d l. absurd (omega (arith, l));
  in_order = record { different = doubled_apart; after_arguments = doubled_after };
  parts = λ k d l. absurd (omega (arith, l));
  numerals = all_doubled (λ (t : Tree). IsTrue (numerals_fit t)) refl refl refl;
  linear = all_doubled IsLinear refl refl refl;
}

product_not_lawful : IsLawful (with_terms (x ∷ y ∷ times x y ∷ [])) → ⊥
product_not_lawful l =
    let last : false ≡ true =
    All-head IsLinear (times x y) [] (All-tail IsLinear y (times x y ∷ []) (All-tail IsLinear x (y ∷ times x y ∷ []) l.linear)) in
    cc
