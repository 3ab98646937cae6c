-- Atoms over marked terms.
use Rattle.std.proofs.Common.{◌≡◌, ℕ, ◌<◌, Bool, true, false, List, [], ◌∷◌, map, length, All, Contains, sym, subst, inl, inr}
use Rattle.std.specs.Prelude.{slice_index_or}
use Rattle.std.proofs.lemmas.Bool.{cases_lt}
use Rattle.std.proofs.lemmas.List.{get_or_past}
use Rattle.std.proofs.lemmas.List.Elements.{All-nil, All-cons, All-append, All-head, All-tail}
use Rattle.smt_meaning.specs.declared.clauses.Atom.{Atom}
use Rattle.smt_meaning.specs.declared.clauses.Summand.{Summand}
use Rattle.smt_meaning.specs.Declaration.{Declaration}
use Rattle.smt_meaning.specs.Term.{tree_at}
use Rattle.smt_meaning.specs.Clause.{symbols, symbols_at, atom_places, sum_places}
use Rattle.smt_meaning.specs.Follows.{declared_ids}
use Rattle.smt_meaning.specs.Stack.{signature_of}
use Rattle.smt_meaning.specs.StackCommand.{Stack}
use Rattle.smt_laws.specs.SortLaws.{SymbolsAreDeclared}
use Rattle.search_port.specs.Valid.{IsOf}
use Rattle.smt_laws.specs.Flat.{flat, SaysTheSame, FlatSaysTheSame}
use Rattle.model_eval.specs.Walk.{is_marked}
use Rattle.model_build.specs.Parts.{AreSortedParts}
use Rattle.exact_model.specs.Atoms.{HasMarkedPlaces}

pub marked_within : (marks : List Bool) (p : ℕ) → is_marked marks p ≡ true → p < length marks
marked_within marks p h = elim (cases_lt p (length marks)) [ inl less ↦ less | inr past ↦ absurd (clash (sym (get_or_past marks p false past)) h) ]
  where
    clash : false ≡ slice_index_or marks p false → slice_index_or marks p false ≡ true → ⊥
    clash a b = cc

module _ (law : SymbolsAreDeclared) (flat_law : FlatSaysTheSame) (s : Stack) (marks : List Bool) (parts : AreSortedParts (signature_of s.frames) s.trees marks) where
  symbols_declared : (p : ℕ) → is_marked marks p ≡ true → All (Contains (declared_ids (flat s.frames))) (symbols (tree_at s.trees p))
  symbols_declared p marked =
      let same : SaysTheSame s.frames = flat_law s.frames in
      let has = parts.sorted p marked in
      subst (λ (es : List Declaration). All (Contains (map (λ (d : Declaration). d.id) es)) (symbols (tree_at s.trees p))) (sym same.signature) (law (signature_of s.frames) (tree_at s.trees p) has.0 has.1)

  pub in_trees : (p : ℕ) → is_marked marks p ≡ true → p < length s.trees
  in_trees p marked = subst (λ n. p < n) parts.size (marked_within marks p marked)

  declared_at : (places : List ℕ) → All (λ p. is_marked marks p ≡ true) places → All (Contains (declared_ids (flat s.frames))) (symbols_at s.trees places)
  declared_at [] h = All-nil (Contains (declared_ids (flat s.frames)))
  declared_at (p ∷ ps) h =
      All-append (Contains (declared_ids (flat s.frames))) (symbols (tree_at s.trees p)) (symbols_at s.trees ps) (symbols_declared p (All-head (λ q. is_marked marks q ≡ true) p ps h))
      (declared_at ps (All-tail (λ q. is_marked marks q ≡ true) p ps h))

  within_at : (places : List ℕ) → All (λ p. is_marked marks p ≡ true) places → All (λ i. i < length s.trees) places
  within_at [] h = All-nil (λ i. i < length s.trees)
  within_at (p ∷ ps) h =
      All-cons (λ i. i < length s.trees) p ps (in_trees p (All-head (λ q. is_marked marks q ≡ true) p ps h)) (within_at ps (All-tail (λ q. is_marked marks q ≡ true) p ps h))

  -- an atom over marked terms is of the stack
  pub marked_is_of : (a : Atom) → HasMarkedPlaces marks a → IsOf s.trees (flat s.frames) a
  marked_is_of a h = record { declared = declared_at (atom_places a) h; within = within_at (atom_places a) h }

-- what holds of the terms of a sum holds of its places
pub at_places : (P : ℕ → Type 0) (sum : List Summand) → All (λ (p : Summand). P p.term) sum → All P (sum_places sum)
at_places P [] h = All-nil P
at_places P (p ∷ ps) h = All-cons P p.term (sum_places ps) (All-head (λ (q : Summand). P q.term) p ps h) (at_places P ps (All-tail (λ (q : Summand). P q.term) p ps h))
