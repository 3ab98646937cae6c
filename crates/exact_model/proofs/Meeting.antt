-- What holds of values that are listed by truths, elements and variables.
use Rattle.std.proofs.Common.{◌≡◌, inl, inr, ℕ, ◌<◌, ◌≤◌, true, false, List, [], ◌∷◌, length, All, refl, sym, ap, ap₂, subst, ◌∙◌}
use Rattle.std.specs.Prelude.{◌⊎◌, ℤ, ◌+ℤ◌, ◌*ℤ◌, int_le, Option, Some, None, slice_index_or}
use Rattle.std.proofs.lemmas.Bool.{cases_lt}
use Rattle.std.proofs.lemmas.List.{get_or_past, get_or_default}
use Rattle.std.proofs.lemmas.List.Elements.{All-head, All-tail}
use Rattle.literals.specs.Signed.{sign}
use Rattle.smt_meaning.specs.declared.values.Value.TheVariants.{Truth}
use Rattle.smt_meaning.specs.declared.values.Sort.{Sort}
use Rattle.smt_meaning.specs.declared.values.Sort.TheVariants.{Bool as Truths, Int as Ints, Free}
use Rattle.smt_meaning.specs.declared.clauses.Summand.{Summand}
use Rattle.smt_meaning.specs.declared.clauses.Atom.{Atom}
use Rattle.smt_meaning.specs.declared.clauses.Atom.TheVariants.{Truth as TruthAtom, AtMost}
use Rattle.smt_meaning.specs.Term.{tree_at, number_of}
use Rattle.smt_meaning.specs.Interpretation.{has_sort}
use Rattle.smt_meaning.specs.Signature.{tree_sort, is_bool}
use Rattle.smt_meaning.specs.Clause.{sum_places}
use Rattle.smt_meaning.specs.CheckAtoms.{IsLeaf, is_leaf}
use Rattle.smt_meaning.specs.Stack.{signature_of}
use Rattle.smt_laws.specs.Flat.{flat, FlatSaysTheSame}
use Rattle.search_port.specs.State.{atom_at}
use Rattle.atom_form.specs.AtomTableNumbers.{IsAt}
use Rattle.check_atoms.specs.Parts.{IsMarked}
use Rattle.check_atoms.specs.Atoms.{is_bool_at}
use Rattle.model_build.proofs.Placing.{mark_within}
use Rattle.bound_log.specs.Values.{sum_at, numbers_of, WholesHold}
use Rattle.exact_model.specs.Exact.{listed, number_at}
use Rattle.exact_model.specs.Atoms.{HasMarkedPlaces}
use Rattle.exact_model.specs.Fitting.{FirstFit}
use Rattle.exact_model.specs.Leaves.{IsListedNumber, IsOfBool, IsOverLeaves, ListedValuesHaveSorts, ListedTruthsFit, ListedBoundsAreMet}
use Rattle.exact_model.proofs.Leafs.{leaf_there}
use Rattle.exact_model.proofs.Listing.{listed_sort}
use Rattle.exact_model.proofs.FullLogs.{in_longer}

-- ---- the first atoms

bound_within : (table : List Atom) (n : ℕ) (sum : List Summand) (k : ℤ) → atom_at table n ≡ AtMost sum k → n < length table
bound_within table n sum k e = by (cases_lt n (length table))
  where
    by : (n < length table) ⊎ (length table ≤ n) → n < length table
    by (inl less) = less
    by (inr past) = absurd (let none : TruthAtom 0 ≡ AtMost sum k = sym (get_or_past table n (TruthAtom 0) past) ∙ e in cc)

bound_at : (table : List Atom) (n : ℕ) (sum : List Summand) (k : ℤ) → atom_at table n ≡ AtMost sum k → IsAt table n (AtMost sum k)
bound_at table n sum k e = let less : n < length table = bound_within table n sum k e in (less, λ d. get_or_default table n d (TruthAtom 0) less ∙ e)

pub fit_first : FirstFit
fit_first s marks table log vs check truths bounds =
    let first : List Atom = check.decided.first in
    let longer : (n : ℕ) (a : Atom) → IsAt first n a → IsAt table n a = λ n a at. in_longer first check.decided.more table n a check.decided.table_is at in (
      λ l p told at. truths l p told (longer l.atom (TruthAtom p) at),
      λ l sum k told e some. bounds l sum k told ((longer l.atom (AtMost sum k) (bound_at first l.atom sum k e)).1 (TruthAtom 0)) some,
    )

-- ---- truths

bool_sort : (x : Option Sort) → is_bool x ≡ true → x ≡ Some Truths
bool_sort None h = absurd cc
bool_sort (Some Truths) h = refl
bool_sort (Some Ints) h = absurd cc
bool_sort (Some (Free a)) h = absurd cc

pub have_sorts : ListedValuesHaveSorts
have_sorts s marks b truths elements vs values sorts parts kept p m =
    let own = parts.sorted p m in
    let less : p < length s.trees = subst (λ n. p < n) parts.size (mark_within marks p m) in
    subst (λ r. has_sort (listed vs p) r ≡ true) (sym (kept.each p own.0 less own.1))
    (listed_sort b p (is_leaf (tree_at s.trees p)) (slice_index_or truths p false) (slice_index_or elements p 0) own.0 (listed vs p) (values p own.0 less m own.1))

pub fit_truths : ListedTruthsFit
fit_truths s marks b truths elements vs values table log size marked bools told l p stands at =
    let m : IsMarked marks p = All-head (IsMarked marks) p [] (subst (HasMarkedPlaces marks) (at.1 (TruthAtom 0)) (marked l.atom (TruthAtom 0) at.0)) in
    let bool : is_bool_at (signature_of s.frames) s.trees p ≡ true = subst (IsOfBool s) (at.1 (TruthAtom 0)) (bools l.atom (TruthAtom 0) at.0) in
    let less : p < length s.trees = subst (λ n. p < n) size (mark_within marks p m) in
    values p Truths less m (bool_sort (tree_sort (signature_of s.frames) (tree_at s.trees p)) bool) ∙ ap Truth (told l p stands at)

-- ---- bounds

same_sum : (f g : ℕ → ℤ) (P Q : ℕ → Type 0) → ((q : ℕ) → P q → Q q → f q ≡ g q) → (sum : List Summand) → All P (sum_places sum) → All Q (sum_places sum) → sum_at f sum ≡ sum_at g sum
same_sum f g P Q same [] h k = refl
same_sum f g P Q same (t ∷ sum) h k =
    ap₂ (λ x y. t.coefficient *ℤ x +ℤ y) (same t.term (All-head P t.term (sum_places sum) h) (All-head Q t.term (sum_places sum) k))
    (same_sum f g P Q same sum (All-tail P t.term (sum_places sum) h) (All-tail Q t.term (sum_places sum) k))

pub bounds_met : FlatSaysTheSame → WholesHold → ListedBoundsAreMet
bounds_met flat_law hold s marks b truths elements vs values table lawful size marked leaves state knows wholes meets l sum k told e some =
    let at : IsAt table l.atom (AtMost sum k) = bound_at table l.atom sum k e in
    subst (λ z. sign l.positive (int_le z k) ≡ true)
    (same_sum (numbers_of b.bounds) (number_at vs) (IsMarked marks) (IsLeaf s.trees (flat s.frames)) number_there sum
    (subst (HasMarkedPlaces marks) e (marked l.atom (TruthAtom 0) at.0)) (subst (IsOverLeaves s) e (leaves l.atom (TruthAtom 0) at.0)))
    (hold table b state knows wholes meets l sum k told e some)
  where
    -- a leaf has the number of its variable listed
    number_there : (q : ℕ) → IsMarked marks q → IsLeaf s.trees (flat s.frames) q → numbers_of b.bounds q ≡ number_at vs q
    number_there q m leaf =
        let there = leaf_there flat_law s lawful q leaf in
        let value : IsListedNumber b q (is_leaf (tree_at s.trees q)) (listed vs q) = values q Ints (subst (λ n. q < n) size (mark_within marks q m)) m there.1 in
        sym (ap number_of (value.of_leaf there.0).number)
