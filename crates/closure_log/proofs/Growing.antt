-- Atoms that are added.
use Rattle.std.proofs.Common.{◌≡◌, ℕ, ◌<◌, ◌++◌, true, List, length, All, Contains, subst, arith}
use Rattle.std.proofs.lemmas.List.{length-append, get_or_append_left}
use Rattle.std.proofs.lemmas.List.Elements.{All-weaker}
use Rattle.literals.specs.Signed.{Signed, literal_true}
use Rattle.smt_meaning.specs.declared.clauses.Atom.{Atom}
use Rattle.smt_meaning.specs.declared.clauses.Atom.TheVariants.{Truth}
use Rattle.smt_meaning.specs.Clause.{atom_true}
use Rattle.smt_meaning.specs.Stack.{signature_of}
use Rattle.smt_meaning.specs.StackCommand.{Stack}
use Rattle.search_port.specs.State.{atom_at}
use Rattle.point_closure.specs.declared.step.Step.{Step}
use Rattle.congruence.specs.declared.congruence.Congruence.{Congruence}
use Rattle.congruence.specs.Reasons.{reason_at}
use Rattle.point_closure.specs.Explained.{step_at}
use Rattle.congruence.specs.Justified.{IsJustified, AreJustified}
use Rattle.closure_log.specs.Laws.{StaysTold}
use Rattle.closure_log.specs.Told.{IsTold}

module _ (s : Stack) (table more : List Atom) where
  atom_stays : (n : ℕ) → n < length table → atom_at (table ++ more) n ≡ atom_at table n
  atom_stays n less = get_or_append_left table more (Truth 0) n less

  justified_stays : (l : Signed) (step : Step) → l.atom < length table → IsJustified (signature_of s.frames) s.trees table l step → IsJustified (signature_of s.frames) s.trees (table ++ more) l step
  justified_stays l step less h = λ I interprets holds. h I interprets (subst (λ (a : Atom). literal_true (λ n. atom_true s.trees I a) l ≡ true) (atom_stays l.atom less) holds)

  known : (log : List Signed) (l : Signed) → All (λ (m : Signed). m.atom < length table) log → Contains log l → l.atom < length table
  known log l numbered c = subst (λ (m : Signed). m.atom < length table) c.2 (numbered c.0 l c.1)

  steps_stay : (steps : List Step) (reasons log : List Signed) → All (λ (m : Signed). m.atom < length table) log → All (Contains log) reasons
      → AreJustified (signature_of s.frames) s.trees table steps reasons → AreJustified (signature_of s.frames) s.trees (table ++ more) steps reasons
  steps_stay steps reasons log numbered told h = record {
    as_many = h.as_many;
    each = λ k less.
        let inside : k < length reasons = omega (arith, h.as_many) in
        justified_stays (reason_at reasons k) (step_at steps k) (known log (reason_at reasons k) numbered (told k (record { atom = 0; positive = true }) inside)) (h.each k less);
  }

  stays : (c : Congruence) (log : List Signed) (starts : List ℕ) → IsTold s table c log starts → IsTold s (table ++ more) c log starts
  stays c log starts h = record {
    reasoned = record {
      recorded = h.reasoned.recorded;
      read = h.reasoned.read;
      every = h.reasoned.every;
      justified = steps_stay c.closure.steps.items c.reasons.items log h.numbered h.reasoned.told h.reasoned.justified;
      told = h.reasoned.told;
    };
    seen = h.seen;
    numbered = All-weaker (λ (l : Signed). l.atom < length table) (λ (l : Signed). l.atom < length (table ++ more)) (λ l less. omega (arith, length-append table more)) log h.numbered;
    consistent = h.consistent;
    as_many = h.as_many;
    ascending = h.ascending;
    marks = h.marks;
  }

pub stays_told : StaysTold
stays_told = stays
