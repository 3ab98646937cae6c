-- One atom more.
use Rattle.std.proofs.Common.{◌≡◌, ◌∙◌, Bool, List, [], ◌∷◌, ◌++◌, length, All, sym, ap, subst}
use Rattle.std.proofs.lemmas.List.Elements.{All-push}
use Rattle.literals.specs.Signed.{Signed}
use Rattle.smt_meaning.specs.declared.clauses.Atom.{Atom}
use Rattle.smt_meaning.specs.StackCommand.{Stack}
use Rattle.search_port.specs.Valid.{IsOf}
use Rattle.smt_laws.specs.Flat.{flat}
use Rattle.atom_form.specs.AtomNumbersAtoms.{Atoms}
use Rattle.exact_model.specs.Atoms.{HasMarkedPlaces}
use Rattle.closure_log.specs.declared.told.ClosureLog.{ClosureLog}
use Rattle.closure_log.specs.Laws.{StaysTold}
use Rattle.closure_log.specs.Places.{ArePlaces}
use Rattle.closure_log.specs.Seen.{IsOfTerms, IsSetting}
use Rattle.closure_log.specs.Told.{IsTold}
use Rattle.bound_log.specs.Atoms.{Knows, KnowsOneMore}
use Rattle.bound_log.specs.Columns.{AddsColumns}
use Rattle.bound_log.specs.Growth.{GrowsVariables}
use Rattle.theory_combine.specs.declared.held.Held.{Held}
use Rattle.theory_combine.specs.declared.numbering.NewAtom.{NewAtom}
use Rattle.theory_combine.specs.Columns.{HasKnownColumns}
use Rattle.theory_combine.specs.Numbering.{atom_of, IsNew, IsWhole}
use Rattle.theory_combine.proofs.Telling.{adds_known}
use Rattle.theory_combine.proofs.Variables.{leaves_grown}

setting_more : (s : Stack) (marks : List Bool) (table : List Atom) (a : NewAtom) → IsSetting s table → IsNew s marks a → IsSetting s (table ++ atom_of a ∷ [])
setting_more s marks table a setting new = record {
  few = setting.few;
  of_terms = All-push (IsOfTerms s) table (atom_of a) setting.of_terms new.terms;
  declared = All-push (IsOf s.trees (flat s.frames)) table (atom_of a) setting.declared new.declared;
}

pub whole_more : StaysTold → (s : Stack) (marks : List Bool) (old new : Atoms) (a : NewAtom) (h k : Held) → new.atoms ≡ old.atoms ++ atom_of a ∷ [] → IsWhole s marks old h → IsNew s marks a → k.closure ≡ h.closure
    → KnowsOneMore h.bounds (atom_of a) k.bounds → AddsColumns h.bounds (atom_of a) k.bounds → k.bounds.log ≡ h.bounds.log → length k.scan.places.items ≡ length new.atoms
    → ((log : List Signed) → ArePlaces log h.scan.places.items → ArePlaces log k.scan.places.items) → GrowsVariables h.bounds k.bounds → IsWhole s marks new k
whole_more stays s marks old new a h k e whole is_new same_closure knows columns same_log size places grows = record {
  setting = subst (IsSetting s) (sym e) (setting_more s marks old.atoms a whole.setting is_new);
  marked = subst (λ (table : List Atom). All (HasMarkedPlaces marks) table) (sym e) (All-push (HasMarkedPlaces marks) old.atoms (atom_of a) whole.marked is_new.marked);
  held = record {
    told =
        subst (λ (c : ClosureLog). IsTold s new.atoms c.congruence c.log.items c.starts.items) (sym same_closure)
        (subst (λ (table : List Atom). IsTold s table h.closure.congruence h.closure.log.items h.closure.starts.items) (sym e)
        (stays s old.atoms (atom_of a ∷ []) h.closure.congruence h.closure.log.items h.closure.starts.items whole.held.told));
    knows = subst (λ (table : List Atom). Knows table k.bounds) (sym e) (knows old.atoms whole.held.knows);
    same = same_log ∙ whole.held.same ∙ ap (λ (c : ClosureLog). c.log.items) (sym same_closure);
    size = size;
    columns = subst (λ (table : List Atom). HasKnownColumns s table k.bounds) (sym e) (adds_known s old.atoms (atom_of a) h.bounds k.bounds columns whole.held.columns);
    told_at = subst (λ (c : ClosureLog). ArePlaces c.log.items k.scan.places.items) (sym same_closure) (places h.closure.log.items whole.held.told_at);
  };
  variables = leaves_grown s marks h.bounds k.bounds grows whole.variables;
}
