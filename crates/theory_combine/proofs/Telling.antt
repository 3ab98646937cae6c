-- A literal more of what is held, and an atom more.
use Rattle.std.proofs.Common.{◌≡◌, ◌∙◌, List, [], ◌∷◌, ◌++◌, map, length, Contains, sym, ap, subst}
use Rattle.std.proofs.lemmas.List.{append_assoc}
use Rattle.std.proofs.lemmas.List.Elements.{All-weaker, Contains-append_left}
use Rattle.literals.specs.Signed.{Signed}
use Rattle.smt_meaning.specs.declared.clauses.Atom.{Atom}
use Rattle.smt_meaning.specs.StackCommand.{Stack}
use Rattle.closure_log.specs.Places.{ArePlaces}
use Rattle.closure_log.specs.Told.{IsTold}
use Rattle.bound_log.specs.Atoms.{Knows}
use Rattle.bound_log.specs.Told.{State}
use Rattle.bound_log.specs.Columns.{IsColumnOf, KeepsColumns, AddsColumns, HasColumnsOf}
use Rattle.theory_combine.specs.declared.held.Held.{Held}
use Rattle.theory_combine.specs.Columns.{bound_on, with_leaves, HasKnownColumns}
use Rattle.theory_combine.specs.Held.{IsHeld}
use Rattle.theory_combine.proofs.Past.{column_over}

pub keeps_known : (s : Stack) (table : List Atom) (b d : State) → KeepsColumns b d → HasKnownColumns s table b → HasKnownColumns s table d
keeps_known s table b d keeps h = record { own = h.own; leaves = h.leaves; columns = keeps (with_leaves h.own table) h.columns }

pub adds_known : (s : Stack) (table : List Atom) (a : Atom) (b d : State) → AddsColumns b a d → HasKnownColumns s table b → HasKnownColumns s (table ++ a ∷ []) d
adds_known s table a b d adds h = record {
  own = h.own;
  leaves = h.leaves;
  columns = subst (λ (t : List Atom). HasColumnsOf t d) (append_assoc (map bound_on h.own) table (a ∷ [])) (adds (with_leaves h.own table) h.columns);
}

-- the same variables, as those of an atom more
pub known_more : (s : Stack) (table : List Atom) (a : Atom) (b : State) → HasKnownColumns s table b → HasKnownColumns s (table ++ a ∷ []) b
known_more s table a b h = record {
  own = h.own;
  leaves = h.leaves;
  columns = All-weaker (IsColumnOf (with_leaves h.own table)) (IsColumnOf (with_leaves h.own (table ++ a ∷ [])))
      (column_over (with_leaves h.own table) (with_leaves h.own (table ++ a ∷ []))
      (λ x c. subst (λ (t : List Atom). Contains t x) (append_assoc (map bound_on h.own) table (a ∷ [])) (Contains-append_left (with_leaves h.own table) (a ∷ []) x c))) b.bounds.columns h.columns;
}

pub told_more : (s : Stack) (table : List Atom) (h k : Held) (l : Signed) → IsHeld s table h → IsTold s table k.closure.congruence k.closure.log.items k.closure.starts.items → Knows table k.bounds
    → HasKnownColumns s table k.bounds → k.bounds.log ≡ h.bounds.log ++ l ∷ [] → k.closure.log.items ≡ h.closure.log.items ++ l ∷ [] → length k.scan.places.items ≡ length h.scan.places.items
    → ArePlaces (h.closure.log.items ++ l ∷ []) k.scan.places.items → IsHeld s table k
told_more s table h k l held told knows columns bounds log size places = record {
  told = told;
  knows = knows;
  same = bounds ∙ ap (λ (ls : List Signed). ls ++ l ∷ []) held.same ∙ sym log;
  size = size ∙ held.size;
  told_at = subst (λ (ls : List Signed). ArePlaces ls k.scan.places.items) (sym log) places;
  columns = columns;
}
