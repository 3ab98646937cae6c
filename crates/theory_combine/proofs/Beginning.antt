-- The parts of a stack and their atoms, before anything is told.
use Rattle.std.proofs.Common.{◌∙◌, ℕ, ◌+◌, ◌<◌, ◌^◌, Bool, List, ◌∷◌, [], length, get_or, All, Contains, ◌≢◌, ap, inl, refl}
use Rattle.std.specs.Prelude.{AllPairs, slice_index_or, None}
use Rattle.std.proofs.lemmas.List.Elements.{All-head, All-nil, All-tail, All-weaker, Contains-get_or}
use Rattle.fraction128.specs.declared.Summand.{Summand}
use Rattle.smt_meaning.specs.declared.values.Sort.{Sort}
use Rattle.smt_meaning.specs.declared.values.Sort.TheVariants.{Bool as Truths}
use Rattle.smt_meaning.specs.declared.clauses.Atom.{Atom}
use Rattle.smt_meaning.specs.declared.clauses.Atom.TheVariants.{Truth, Same, AtMost}
use Rattle.smt_meaning.specs.Clause.{atom_places}
use Rattle.smt_meaning.specs.Signature.{is_bool}
use Rattle.smt_meaning.specs.CheckAtoms.{AreCheckSums, IsLeaf}
use Rattle.smt_meaning.specs.Term.{Tree, node}
use Rattle.smt_meaning.specs.Parts.{IsPart}
use Rattle.smt_meaning.specs.Stack.{signature_of, assertions_of}
use Rattle.smt_meaning.specs.StackCommand.{Stack}
use Rattle.smt_laws.specs.SortLaws.{SymbolsAreDeclared}
use Rattle.scope_stack.specs.Facts.{AreSorts}
use Rattle.scope_stack.specs.Shown.{IsLawful}
use Rattle.search_port.specs.Valid.{IsOf}
use Rattle.smt_laws.specs.Flat.{flat, FlatSaysTheSame}
use Rattle.check_atoms.specs.Parts.{IsMarked}
use Rattle.check_atoms.specs.Marks.{AreStackParts}
use Rattle.check_atoms.specs.OfStack.{AreCheckAtoms}
use Rattle.check_atoms.specs.Laws.{AtomsAreFirst, TruthsAreOfBools}
use Rattle.first_clauses.proofs.Parts as Parts
use Rattle.model_build.specs.Parts.{AreSortedParts}
use Rattle.exact_model.specs.Places.{AreAtMarks}
use Rattle.closure_log.specs.Seen.{IsOfTerms, IsSetting}
use Rattle.bound_log.specs.Told.{State}
use Rattle.theory_combine.specs.declared.errors.BoundError.{BoundError}
use Rattle.theory_combine.specs.declared.errors.BoundError.TheVariants.{Memory, Range}
use Rattle.theory_combine.specs.Begin.{AddsLeaves}
use Rattle.theory_combine.specs.Columns.{with_leaves}
use Rattle.theory_combine.specs.Errors.{IsErrorIn, IsErrorSeen, IsSumIn}
use Rattle.theory_combine.specs.Shown.{AreShown}
use Rattle.theory_combine.proofs.Comparing.{over_leaves}
use Rattle.theory_combine.proofs.Marking.{marked_is_of}
use Rattle.theory_combine.proofs.Past.{step_left}
use Rattle.theory_combine.proofs.Sums.{check_sums}

itself : (t : Tree) → IsPart t t
itself (node h us) = inl refl

-- the assertions are among the parts
pub asserted_at : (s : Stack) (marks : List Bool) → AreStackParts s marks → AreAtMarks s.trees marks (assertions_of s.frames)
asserted_at s marks parts = λ k d l.
    (let t : Tree = get_or (assertions_of s.frames) k d in
    parts.each t (record { assertion = t; asserted = Contains-get_or (assertions_of s.frames) k d l; part = itself t }))

module _ (s : Stack) (marks : List Bool) (law : IsLawful s) (parts : AreStackParts s marks) (table : List Atom) (atoms : AreCheckAtoms s marks table) (sorts : List Sort) (sorted : AreSorts (signature_of s.frames) s.trees (length s.trees) sorts) where
  pub sorted_parts : AreSortedParts (signature_of s.frames) s.trees marks
  sorted_parts = record {
    size = atoms.size;
    sorted = λ p m. (slice_index_or sorts p Truths, Parts.has_sort s marks law parts atoms.size sorts sorted p m);
    closed = Parts.arguments_marked s marks law parts atoms.size;
  }

  of_terms_at : TruthsAreOfBools → (a : Atom) → Contains table a → All (IsMarked marks) (atom_places a) → IsOfTerms s a
  of_terms_at truths (Truth p) h m = (Parts.within s marks law parts atoms.size p (All-head (IsMarked marks) p [] m), ap is_bool (truths s marks table atoms p h).1)
  of_terms_at truths (Same i j) h m = (
    Parts.within s marks law parts atoms.size i (All-head (IsMarked marks) i (j ∷ []) m),
    Parts.within s marks law parts atoms.size j (All-head (IsMarked marks) j [] (All-tail (IsMarked marks) i (j ∷ []) m)),
  )
  of_terms_at truths (AtMost sum k) h m = tt

  pub setting : TruthsAreOfBools → SymbolsAreDeclared → FlatSaysTheSame → length s.trees + 2 < 2 ^ 32 → IsSetting s table
  setting truths symbols flat_law few = record {
    few = few;
    of_terms = λ n d less. of_terms_at truths (slice_index_or table n d) (Contains-get_or table n d less) (atoms.over_parts n d less);
    declared =
        All-weaker (λ (a : Atom). All (IsMarked marks) (atom_places a)) (IsOf s.trees (flat s.frames)) (λ a m. marked_is_of symbols flat_law s marks sorted_parts a m) table atoms.over_parts;
  }

module _ (flat_law : FlatSaysTheSame) (first_law : AtomsAreFirst) (s : Stack) (marks : List Bool) (table : List Atom) (lawful : IsLawful s) (parts : AreStackParts s marks) (atoms : AreCheckAtoms s marks table) where
  -- the sums of leaves and of the first atoms are of the check
  pub begins_known : (own : List ℕ) → All (IsLeaf s.trees (flat s.frames)) own → (sums : List (List Summand)) → AllPairs (λ (ps qs : List Summand). ps ≢ qs) sums → All (IsSumIn (with_leaves own table)) sums
      → AreCheckSums s.trees (flat s.frames) sums
  begins_known own leaves sums apart h =
      check_sums s [] [] tt table (first_law s marks table lawful parts atoms).1.first (over_leaves flat_law s table atoms.leaves) own leaves sums apart h

  -- nothing is seen, and there is no branch
  pub begins_shown : (sums : List (List Summand)) → AreCheckSums s.trees (flat s.frames) sums → AreShown s sums [] None table
  begins_shown sums known = record {
    sums_known = known;
    branches = tt;
    atoms = (first_law s marks table lawful parts atoms).1.first;
    seen = tt;
    leaves = over_leaves flat_law s table atoms.leaves;
  }

  pub error_seen : (e : BoundError) → IsErrorIn table e → IsErrorSeen s e
  error_seen Memory h = tt
  error_seen (Range g) h =
      let known : AreCheckSums s.trees (flat s.frames) h.sums = begins_known [] (All-nil (IsLeaf s.trees (flat s.frames))) h.sums h.apart h.columns in
      record { sums = h.sums; known = known; are_branches = tt; leaves = step_left s h.sums [] None table (begins_shown h.sums known) g h.past }

-- ---- leaves that get variables

pub leaves_none : (s : Stack) (b : State) → AddsLeaves s b b
leaves_none s b = record { knows = λ table k. k; columns = λ table h. h; basis = λ h. h; log = refl; kept = λ p h. h }

pub leaves_then : (s : Stack) (b c d : State) → AddsLeaves s b c → AddsLeaves s c d → AddsLeaves s b d
leaves_then s b c d h k = record {
  knows = λ table known. k.knows table (h.knows table known);
  columns = λ table has. k.columns table (h.columns table has);
  basis = λ has. k.basis (h.basis has);
  log = k.log ∙ h.log;
  kept = λ p has. k.kept p (h.kept p has);
}
