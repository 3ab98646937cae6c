-- Clauses by which literals follow.
use Rattle.std.proofs.Common.{ℕ, ◌<◌, List, [], ◌∷◌, length, All, refl, arith}
use Rattle.std.proofs.lemmas.List.Elements.{All-head, All-weaker}
use Rattle.literals.specs.Signed.{Signed, opposite}
use Rattle.smt_meaning.specs.declared.clauses.Atom.{Atom}
use Rattle.smt_meaning.specs.Stack.{signature_of}
use Rattle.smt_meaning.specs.StackCommand.{Stack}
use Rattle.search_port.specs.State.{TheoryState, IsOpenIn, IsPressing}
use Rattle.search_port.specs.Spending.{Spending}
use Rattle.search_port.specs.Calls.{IsLemma, AreNews}
use Rattle.search_port.specs.declared.budget.Lemma.{Lemma}
use Rattle.smt_laws.specs.Flat.{FlatSaysTheSame}
use Rattle.point_closure.specs.declared.step.Step.{Step}
use Rattle.congruence.specs.declared.congruence.Congruence.{Congruence}
use Rattle.congruence.specs.Implied.{IsPressingLemma, Presses}
use Rattle.closure_log.specs.Seen.{state_of, IsSetting}
use Rattle.closure_log.specs.Said.{AreSaid}
use Rattle.closure_log.specs.Told.{IsTold}
use Rattle.closure_log.proofs.Setting.{at_one_level}

pub presses_here : FlatSaysTheSame → (s : Stack) (table : List Atom) → IsSetting s table → (c : Congruence) (log : List Signed) (starts : List ℕ) (l : Signed) (steps : List Step) (clause : Lemma)
    → IsTold s table c log starts → l.atom < length table → IsOpenIn log l → AreSaid (signature_of s.frames) s.trees table (opposite l) steps → Presses c l steps clause → IsPressingLemma (state_of s table log) clause
presses_here flat_law s table setting c log starts l steps clause told number is_open said presses =
    presses (signature_of s.frames) (state_of s table log) (at_one_level s table setting flat_law c log starts told) told.reasoned number is_open said.justified

-- clauses that press, one at least, are news
pub news_of : (t : TheoryState) (b c : Spending) (cs : List Lemma) → 0 < length cs → All (IsPressingLemma t) cs → AreNews t b c cs (IsPressing t.log)
news_of t b c [] some h = absurd (omega arith)
news_of t b c (d ∷ ds) some h =
    let lemmas : All (IsLemma t.reading) (d ∷ ds) = All-weaker (IsPressingLemma t) (IsLemma t.reading) (λ e p. p.lemma) (d ∷ ds) h in
    record {
      all = lemmas;
      news = λ spent. record {
        lemmas = lemmas;
        one = d;
        among = (0, omega arith, refl);
        is = (All-head (IsPressingLemma t) d ds h).pressing;
      };
    }
