-- The atoms of a setting, and what is broken in it.
use Rattle.std.proofs.Common.{◌≡◌, ℕ, ◌<◌, true, List, length, subst}
use Rattle.literals.specs.Signed.{Signed}
use Rattle.smt_meaning.specs.declared.clauses.Atom.{Atom}
use Rattle.smt_meaning.specs.declared.clauses.Atom.TheVariants.{Truth, Same}
use Rattle.smt_meaning.specs.Stack.{signature_of}
use Rattle.smt_meaning.specs.StackCommand.{Stack}
use Rattle.atom_form.specs.AtomTableNumbers.{IsAt}
use Rattle.search_port.specs.State.{atom_at}
use Rattle.smt_laws.specs.Flat.{SaysTheSame, FlatSaysTheSame}
use Rattle.congruence.specs.declared.congruence.Congruence.{Congruence}
use Rattle.congruence.specs.Recorded.{IsConflict as IsClash}
use Rattle.check_atoms.specs.Atoms.{is_bool_at}
use Rattle.congruence.specs.Clauses.{IsFalseClause, IsToldAtOneLevel}
use Rattle.congruence.specs.Laws.{ClashIsFalseClause}
use Rattle.closure_log.specs.Seen.{state_of, IsOfTerms, IsSetting}
use Rattle.closure_log.specs.Told.{IsTold}

pub atom_is : (table : List Atom) (n : ℕ) (a : Atom) → IsAt table n a → atom_at table n ≡ a
atom_is table n a h = h.1 (Truth 0)

module _ (s : Stack) (table : List Atom) (setting : IsSetting s table) where
  term_at : (n : ℕ) (a : Atom) → IsAt table n a → IsOfTerms s a
  term_at n a h = subst (IsOfTerms s) (h.1 (Truth 0)) (setting.of_terms n (Truth 0) h.0)

  pub truth_within : (n t : ℕ) → IsAt table n (Truth t) → t < length s.trees
  truth_within n t h = (term_at n (Truth t) h).0

  pub truth_bool : (n t : ℕ) → IsAt table n (Truth t) → is_bool_at (signature_of s.frames) s.trees t ≡ true
  truth_bool n t h = (term_at n (Truth t) h).1

  pub left_within : (n i j : ℕ) → IsAt table n (Same i j) → i < length s.trees
  left_within n i j h = (term_at n (Same i j) h).0

  pub right_within : (n i j : ℕ) → IsAt table n (Same i j) → j < length s.trees
  right_within n i j h = (term_at n (Same i j) h).1

  pub at_one_level : FlatSaysTheSame → (c : Congruence) (log : List Signed) (starts : List ℕ) → IsTold s table c log starts → IsToldAtOneLevel (signature_of s.frames) (state_of s table log)
  at_one_level flat_law c log starts told =
      let same : SaysTheSame s.frames = flat_law s.frames in
      record {
        one_level = same.every_level;
        declares = same.signature;
        atoms = setting.declared;
        within = told.numbered;
        consistent = told.consistent;
      }

  pub broken : ClashIsFalseClause → (c : Congruence) (log : List Signed) (starts : List ℕ) (ls : List Signed) → IsTold s table c log starts → IsClash c ls → IsFalseClause (signature_of s.frames) s.trees table log ls
  broken law c log starts ls told clash = law (signature_of s.frames) s.trees table c log ls told.reasoned.read told.reasoned.justified told.reasoned.told clash
