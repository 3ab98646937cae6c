-- The equality of two Ints, tied to both bounds of their difference.
use Rattle.std.proofs.Common.{◌≡◌, ◌∙◌, ℕ, Bool, true, List, [], ◌∷◌, ◌++◌, length, All, refl, sym, ap, arith}
use Rattle.std.specs.Prelude.{IsTrue}
use Rattle.std.proofs.lemmas.List.{length_push, get_or_append_left, get_or_push}
use Rattle.std.proofs.lemmas.List.Elements.{All-nil, All-cons}
use Rattle.smt_meaning.specs.declared.values.Value.{Value}
use Rattle.smt_meaning.specs.declared.values.Value.TheVariants.{Truth as TruthValue, Whole, Element}
use Rattle.smt_meaning.specs.declared.values.Sort.TheVariants.{Int as Ints}
use Rattle.smt_meaning.specs.declared.clauses.Atom.{Atom}
use Rattle.smt_meaning.specs.declared.clauses.Atom.TheVariants.{Truth, Same}
use Rattle.smt_meaning.specs.Declaration.{Declaration}
use Rattle.smt_meaning.specs.Term.{Interpretation, tree_at, value}
use Rattle.smt_meaning.specs.Interpretation.{Interprets, has_sort}
use Rattle.smt_meaning.specs.Atoms.{at_most_atom}
use Rattle.smt_meaning.specs.Stack.{signature_of}
use Rattle.smt_meaning.specs.StackCommand.{Stack}
use Rattle.smt_laws.specs.TermLaws.{ValueHasItsSort}
use Rattle.smt_laws.specs.Flat.{FlatSaysTheSame}
use Rattle.atom_form.specs.AtomTableNumbers.{IsAt}
use Rattle.atom_form.specs.AtomNumbersAtoms.{Atoms}
use Rattle.search_port.specs.State.{TheoryState, atom_at}
use Rattle.search_port.specs.Calls.{IsLemma}
use Rattle.search_port.specs.declared.budget.Lemma.{Lemma}
use Rattle.congruence.specs.Clauses.{IsToldAtOneLevel}
use Rattle.bound_clauses.specs.Laws.{IsNumber}
use Rattle.bound_log.specs.Clauses.{AreTied}
use Rattle.closure_log.specs.Seen.{state_of}
use Rattle.model_eval.specs.Walk.{is_marked}
use Rattle.exact_model.specs.Atoms.{HasMarkedPlaces}
use Rattle.theory_combine.specs.declared.held.Held.{Held}
use Rattle.theory_combine.specs.Numbering.{IsWhole}
use Rattle.theory_combine.specs.Pairs.{IsFit}
use Rattle.theory_combine.proofs.Holding.{at_one_level}

number_value : (v : Value) → IsTrue (has_sort v Ints) → IsNumber v
number_value (Whole n) h = refl
number_value (TruthValue b) h = cc
number_value (Element e) h = cc

kept_at : (old : List Atom) (a b : Atom) (n : ℕ) → IsAt old n a → atom_at (old ++ b ∷ []) n ≡ a
kept_at old a b n h = get_or_append_left old (b ∷ []) (Truth 0) n h.0 ∙ h.1 (Truth 0)

module _ (flat_law : FlatSaysTheSame) (sort_law : ValueHasItsSort) (s : Stack) (marks : List Bool) where
  pub numbers : (p : ℕ) → IsFit s marks p → (I : Interpretation) → Interprets (signature_of s.frames) I → IsNumber (value I (tree_at s.trees p))
  numbers p fit I interprets = number_value (value I (tree_at s.trees p)) (sort_law (signature_of s.frames) I (tree_at s.trees p) Ints interprets fit.is_int)

  pub tied_lemmas : (old new : Atoms) (h : Held) (i j same low high : ℕ) (cs : List Lemma) → IsWhole s marks new h → new.atoms ≡ old.atoms ++ Same i j ∷ [] → same ≡ length old.atoms → IsFit s marks i → IsFit s marks j
      → IsAt old.atoms low (at_most_atom s.trees (tree_at s.trees i) (tree_at s.trees j)) → IsAt old.atoms high (at_most_atom s.trees (tree_at s.trees j) (tree_at s.trees i))
      → ((ds : List Declaration) (t : TheoryState) (k m : ℕ) → IsToldAtOneLevel ds t → AreTied ds t same low high k m → All (IsLemma t.reading) cs)
      → All (IsLemma (state_of s new.atoms h.closure.log.items).reading) cs
  tied_lemmas old new h i j same low high cs whole added count left right is_low is_high law =
      let size : length new.atoms ≡ length (old.atoms ++ Same i j ∷ []) = ap (λ (table : List Atom). length table) added in
      law (signature_of s.frames) (state_of s new.atoms h.closure.log.items) i j (at_one_level flat_law s new.atoms h whole.setting whole.held)
      (record {
        same_within = omega (arith, size, count, length_push old.atoms (Same i j));
        low_within = omega (arith, size, is_low.0, length_push old.atoms (Same i j));
        high_within = omega (arith, size, is_high.0, length_push old.atoms (Same i j));
        other_than_low = λ e. omega (arith, is_low.0, count);
        other_than_high = λ e. omega (arith, is_high.0, count);
        is_same = ap (λ (table : List Atom). atom_at table same) added ∙ get_or_push old.atoms (Same i j) (Truth 0) same (sym count);
        is_low = ap (λ (table : List Atom). atom_at table low) added ∙ kept_at old.atoms (at_most_atom s.trees (tree_at s.trees i) (tree_at s.trees j)) (Same i j) low is_low;
        is_high = ap (λ (table : List Atom). atom_at table high) added ∙ kept_at old.atoms (at_most_atom s.trees (tree_at s.trees j) (tree_at s.trees i)) (Same i j) high is_high;
        left = left.readable;
        right = right.readable;
        left_number = numbers i left;
        right_number = numbers j right;
      })

pub pair_is_marked : (s : Stack) (marks : List Bool) (i j : ℕ) → IsFit s marks i → IsFit s marks j → HasMarkedPlaces marks (Same i j)
pair_is_marked s marks i j left right = All-cons (λ p. is_marked marks p ≡ true) i (j ∷ []) left.marked (All-cons (λ p. is_marked marks p ≡ true) j [] right.marked (All-nil (λ p. is_marked marks p ≡ true)))
