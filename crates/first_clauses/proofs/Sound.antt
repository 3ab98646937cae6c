-- Axioms follow from each stack.
use Rattle.std.proofs.Common.{◌≡◌, ℕ, List, [], ◌++◌, map, All, Contains, ◌∙◌, ap, subst}
use Rattle.std.proofs.lemmas.List.Elements.{All-weaker, All-contains}
use Rattle.literals.specs.Signed.{Signed}
use Rattle.clause_store.specs.Stored.{Kept, Stored}
use Rattle.smt_meaning.specs.declared.clauses.Atom.{Atom}
use Rattle.smt_meaning.specs.declared.clauses.Atom.TheVariants.{AtMost}
use Rattle.smt_meaning.specs.Stack.{signature_of, assertions_of}
use Rattle.smt_meaning.specs.StackCommand.{Stack}
use Rattle.search_port.specs.Valid.{IsOf}
use Rattle.search_port.proofs.Forcing.{ComesBy, from_map, in_map}
use Rattle.atom_form.specs.AtomTableNumbers.{IsAt}
use Rattle.smt_laws.specs.Flat.{FlatSaysTheSame}
use Rattle.order_clauses.specs.Axioms.{BoundsFit, IsSound, AddsAxioms}
use Rattle.order_clauses.specs.Sound.{IsSound as IsSoundIn}
use Rattle.check_atoms.specs.Numbering.{IsNormal, IsNormalBound}
use Rattle.first_clauses.specs.PartClausesFirst.{HasClause, IsAsserted, IsBegun, IsClause}
use Rattle.first_clauses.proofs.PartClausesKeeping.{asserted_stays}
use Rattle.first_clauses.specs.CheckClausesFirst.{reading_of, IsFirst}
use Rattle.first_clauses.specs.Laws.{MoreForceParts}
use Rattle.first_clauses.proofs.Following.{put_clauses}
use Rattle.first_clauses.specs.Kept.{HasAxioms}

there : (table : List Atom) (n : ℕ) (a : Atom) → IsAt table n a → Contains table a
there table n a h = (n, h.0, h.1 a)

pub bounds_fit : (table : List Atom) (count : ℕ) → All (IsNormal count) table → BoundsFit table
bounds_fit table count normal = λ n sum threshold at.
    let bound : IsNormalBound count sum threshold = All-contains (IsNormal count) table (AtMost sum threshold) normal (there table n (AtMost sum threshold) at) in
    record { coefficients = bound.coefficients; in_range = bound.in_range }

module _ (s : Stack) (table : List Atom) where
  sound : (ls : List Signed) → IsSound table ls → IsSoundIn (signature_of s.frames) s.trees table ls
  sound ls h = record { over = h.over; once = h.once; valid = λ I i. h.valid s.trees I }

  pub axioms_follow : FlatSaysTheSame → All (IsOf s.trees s.frames) table → (empty put : List (List Signed)) → empty ≡ [] → AddsAxioms table empty put → All (IsClause (reading_of s table) 0) put
  axioms_follow same declared empty put e h =
      put_clauses same s table declared empty put h.added e h.is (All-weaker (IsSound table) (IsSoundIn (signature_of s.frames) s.trees table) sound h.added h.sound)

  abbrev literals : Kept → List Signed
  literals c = c.literals

  literals_stay : (old new : List Kept) → ((c : Kept) → Contains old c → Contains new c) → (ls : List Signed) → Contains (map literals old) ls → Contains (map literals new) ls
  literals_stay old new stay ls h =
      let r : ComesBy literals old ls = from_map literals old ls h in
      subst (Contains (map literals new)) r.is (in_map literals new r.from (stay r.from r.among))

  pub still_first : MoreForceParts → (old new : Stored) → IsFirst s table old → ((c : Kept) → Contains old.clauses c → Contains new.clauses c) → IsBegun (reading_of s table) new → IsFirst s table new
  still_first more old new first stay begun = record {
    begun = begun;
    assertions = All-weaker (IsAsserted s.trees table old.clauses) (IsAsserted s.trees table new.clauses) (λ t h. asserted_stays s.trees table old.clauses new.clauses t stay h) (assertions_of s.frames) first.assertions;
    forced = more s table (map literals old.clauses) (map literals new.clauses) (literals_stay old.clauses new.clauses stay) first.forced;
  }

pub has_axioms : (table : List Atom) (clauses : List Kept) (empty put : List (List Signed)) → empty ≡ [] → AddsAxioms table empty put → All (HasClause clauses) put → HasAxioms table clauses
has_axioms table clauses empty put e h kept = record {
  axioms = h.added;
  are = h.axioms;
  kept = subst (All (HasClause clauses)) (h.is ∙ ap (λ (cs : List (List Signed)). cs ++ h.added) e) kept;
}
