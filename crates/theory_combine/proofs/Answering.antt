-- What a call leaves with its answer, by what its parts leave.
use Rattle.std.proofs.Common.{◌≡◌, ◌∙◌, ℕ, ◌≤◌, List, length, None, refl, sym, ap, ap₂, subst, arith}
use Rattle.std.specs.Prelude.{Option}
use Rattle.literals.specs.Signed.{Signed}
use Rattle.smt_meaning.specs.declared.clauses.Atom.{Atom}
use Rattle.smt_meaning.specs.StackCommand.{Stack}
use Rattle.search_port.specs.State.{TheoryState, Variables}
use Rattle.search_port.specs.Spending.{Spending}
use Rattle.linear_forms.specs.Table.{AreForms, Known}
use Rattle.bound_log.specs.Told.{State, column_sums}
use Rattle.closure_log.specs.Seen.{state_of}
use Rattle.theory_combine.specs.declared.held.Held.{Held}
use Rattle.theory_combine.specs.declared.held.Looked.{Looked}
use Rattle.theory_combine.specs.declared.held.Met.{Met}
use Rattle.theory_combine.specs.declared.held.Met.TheVariants.{Fits, Conflict, Past, Spent, Ended}
use Rattle.theory_combine.specs.declared.parts.Parts.{Parts}
use Rattle.theory_combine.specs.declared.parts.Progress.{Progress}
use Rattle.theory_combine.specs.declared.step.Step.{Step}
use Rattle.theory_combine.specs.declared.step.Step.TheVariants.{Lemmas, Conflict as StepConflict, Ended as StepEnded}
use Rattle.theory_combine.specs.Chained.{KeepsGrid}
use Rattle.theory_combine.specs.Columns.{variables_of}
use Rattle.theory_combine.specs.Held.{IsHeld, IsMet}
use Rattle.theory_combine.specs.Last.{IsLast}
use Rattle.theory_combine.specs.Numbering.{table_of, IsNumbered}
use Rattle.theory_combine.specs.Pivots.{SpendsAll}
use Rattle.theory_combine.specs.Progress.{full_state, state, AreParts, IsProgress, Went}
use Rattle.theory_combine.specs.Shown.{AreShown}
use Rattle.theory_combine.specs.Steps.{IsStep}
use Rattle.theory_combine.specs.Kept.{IsHeldOf, KeepsHeld}
use Rattle.theory_combine.specs.Ready.{HasMet, IsAtLast, IsReady, Leaves, WentOn}
use Rattle.theory_combine.proofs.Calling.{goes_with, with_variables}
use Rattle.theory_combine.proofs.Going.{held_under_way, went_after}
use Rattle.theory_combine.proofs.Growing.{variables_same}
use Rattle.theory_combine.proofs.Spending.{went_then, units_rise}

-- ---- what is held stays

pub kept_none : (s : Stack) (table : List Atom) (h : Held) → IsHeld s table h → KeepsHeld s table h h
kept_none s table h held = record { held = held; log = refl; bounds = refl }

pub kept_then : (s : Stack) (table : List Atom) (a b c : Held) → KeepsHeld s table a b → KeepsHeld s table b c → KeepsHeld s table a c
kept_then s table a b c h k = record { held = k.held; log = k.log ∙ h.log; bounds = k.bounds ∙ h.bounds }

-- what guides the search changes
pub kept_looked : (s : Stack) (table : List Atom) (h : Held) (l : Looked) → IsHeld s table h → KeepsHeld s table h (record h { looked = l })
kept_looked s table h l held = record {
  held = record { told = held.told; knows = held.knows; same = held.same; size = held.size; told_at = held.told_at; columns = held.columns };
  log = refl;
  bounds = refl;
}

pub held_of : (p : Parts) (w : Progress) → IsReady p w → IsHeldOf p.stack.now w.atoms.atoms w.held
held_of p w ready = record { setting = ready.under_way.1.setting; held = ready.under_way.1.held }

pub ready_held : (p : Parts) (w : Progress) (h : Held) → IsReady p w → IsHeld p.stack.now w.atoms.atoms h → column_sums h.bounds ≡ column_sums w.held.bounds → IsReady p (record w { held = h })
ready_held p w h ready held sums = record { parts = ready.parts; under_way = held_under_way p w h ready.under_way held sums }

pub ready_kept : (p : Parts) (w : Progress) (h : Held) → IsReady p w → KeepsHeld p.stack.now w.atoms.atoms w.held h → IsReady p (record w { held = h })
ready_kept p w h ready keeps = ready_held p w h ready keeps.held (ap (λ (b : State). column_sums b) keeps.bounds)

pub same_held : (p : Parts) (w : Progress) (h : Held) → h.closure.log.items ≡ w.held.closure.log.items → KeepsGrid w.held.bounds h.bounds → full_state p (record w { held = h }) ≡ full_state p w
same_held p w h log keeps =
    ap₂ (λ (ls : List Signed) (v : Variables). with_variables (state_of p.stack.now (table_of w.stopped_at w.atoms.atoms) ls) v) log (variables_same w.stopped_at w.held.bounds h.bounds keeps)

pub same_kept : (p : Parts) (w : Progress) (h : Held) → KeepsHeld p.stack.now w.atoms.atoms w.held h → full_state p (record w { held = h }) ≡ full_state p w
same_kept p w h keeps =
    ap₂ (λ (ls : List Signed) (b : State). with_variables (state_of p.stack.now (table_of w.stopped_at w.atoms.atoms) ls) (variables_of w.stopped_at b)) keeps.log keeps.bounds

-- the same forms under another name
pub ready_forms : (p : Parts) (w : Progress) (f : List Known) → IsReady p w → f ≡ w.forms → IsReady p (record w { forms = f })
ready_forms p w f ready same = record {
  parts = ready.parts;
  under_way = (subst (λ (g : List Known). AreForms p.stack.now.trees g) (sym same) ready.under_way.0, ready.under_way.1, ready.under_way.2, ready.under_way.3);
}

-- the search hasn't stopped
pub to_ready : (p : Parts) (w : Progress) → AreParts p → IsProgress p w → w.stopped_at ≡ None → IsReady p w
to_ready p w parts h none = record {
  parts = parts;
  under_way = (
    h.0,
    subst (λ (o : Option ℕ). IsNumbered p.stack.now p.marks.items o w.atoms w.held) none h.1,
    none,
    subst (λ (o : Option ℕ). AreShown p.stack.now (column_sums w.held.bounds) w.branches w.seen (table_of o w.atoms.atoms)) none h.2,
  );
}

-- ---- a last check goes on

pub last_after : (p : Parts) (old new : Progress) → state p new ≡ state p old → IsReady p new → IsAtLast p old → IsAtLast p new
last_after p old new same ready h = record { ready = ready; last = subst IsLast (sym same) h.last }

pub last_kept : (p : Parts) (w : Progress) (h : Held) → IsAtLast p w → KeepsHeld p.stack.now w.atoms.atoms w.held h → IsAtLast p (record w { held = h })
last_kept p w h at_last keeps =
    last_after p w (record w { held = h }) (ap (λ (ls : List Signed). state_of p.stack.now (table_of w.stopped_at w.atoms.atoms) ls) keeps.log) (ready_kept p w h at_last.ready keeps) at_last

-- ---- the bounds are met

pub spends_all : (c : Spending) (m : Met) → (m ≡ Spent → length c.units ≡ c.bound) → SpendsAll c m
spends_all c Spent all = all refl
spends_all c Fits all = tt
spends_all c (Conflict d) all = tt
spends_all c (Past g) all = tt
spends_all c Ended all = tt

pub has_met : (p : Parts) (w : Progress) (h : Held) (c : Spending) (m : Met) → IsReady p w → IsHeld p.stack.now w.atoms.atoms h → h.closure.log.items ≡ w.held.closure.log.items → column_sums h.bounds ≡ column_sums w.held.bounds
    → IsMet h.bounds (state_of p.stack.now w.atoms.atoms h.closure.log.items) m → SpendsAll c m → HasMet p w (record w { held = h }) c m
has_met p w h c m ready held log sums met spent = record {
  ready = ready_held p w h ready held sums;
  same = ap (λ (ls : List Signed). state_of p.stack.now (table_of w.stopped_at w.atoms.atoms) ls) log;
  met = subst (λ (o : Option ℕ). IsMet h.bounds (state_of p.stack.now (table_of o w.atoms.atoms) h.closure.log.items) m) (sym ready.under_way.2) met;
  spent = spent;
}

-- ---- answers

pub step_before : (t : TheoryState) (b c d : Spending) (s : Step) → length b.units ≤ length c.units → IsStep t c d s → IsStep t b d s
step_before t b c d (Lemmas cs) less h = (h.0, omega (arith, less, h.1))
step_before t b c d (StepConflict e) less h = h
step_before t b c d (StepEnded cause) less h = h

-- with the variables of the bounds
pub went_full : (p : Parts) (old new : Progress) (b c : Spending) → Went p old new b c → WentOn p old new b c
went_full p old new b c h = record {
  progress = h.0;
  goes = goes_with (state p old) (state p new) (variables_of old.stopped_at old.held.bounds) (variables_of new.stopped_at new.held.bounds) b c h.1;
  pivots = h.2;
}

module _ (A : Type 0) (Is : TheoryState → Spending → Spending → A → Type 0) (p : Parts) where
  -- where contracts see the search as before
  pub left_after : (old middle new : Progress) (b c : Spending) (a : A) → full_state p middle ≡ full_state p old → Leaves A Is p middle new b c a → Leaves A Is p old new b c a
  left_after old middle new b c a same h = record { went = went_after p old middle new b c same h.went; found = h.found }

  -- where nothing more is done, of what is held alone
  pub left_now : (old new : Progress) (b : Spending) (a : A) → full_state p new ≡ full_state p old → new.stopped_at ≡ None → Went p new new b b → Is (state_of p.stack.now new.atoms.atoms new.held.closure.log.items) b b a
      → Leaves A Is p old new b b a
  left_now old new b a same stopped_at went is = record {
    went = went_after p old new new b b same went;
    found = subst (λ (o : Option ℕ). Is (state_of p.stack.now (table_of o new.atoms.atoms) new.held.closure.log.items) b b a) (sym stopped_at) is;
  }

  -- where units were spent before
  pub left_then : ((t : TheoryState) (b c d : Spending) (a : A) → length b.units ≤ length c.units → Is t c d a → Is t b d a) → (old middle new : Progress) (b c d : Spending) (a : A) → state p middle ≡ state p old
      → Went p old middle b c → Leaves A Is p middle new c d a → Leaves A Is p old new b d a
  left_then before old middle new b c d a same h k = record {
    went = went_then p old middle new b c d same h k.went;
    found = before (state p new) b c d a (units_rise (state p old) (state p middle) b c h.1) k.found;
  }

  -- as another answer
  pub left_as : (B : Type 0) (Are : TheoryState → Spending → Spending → B → Type 0) (old new : Progress) (b c : Spending) (a : A) (x : B) → ((t : TheoryState) (d e : Spending) → Is t d e a → Are t d e x)
      → Leaves A Is p old new b c a → Leaves B Are p old new b c x
  left_as B Are old new b c a x turn h = record { went = h.went; found = turn (state p new) b c h.found }
