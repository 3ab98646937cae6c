-- How commands are folded, and what is found behind them.
use Rattle.std.proofs.Common.{◌≡◌, ℕ, true, false, List, [], ◌++◌, sym, ap, subst, Some, None, Ok, Err, arith}
use Rattle.smt_meaning.specs.declared.answers.Reply.{Reply}
use Rattle.smt_meaning.specs.declared.replies.Kept.{Kept}
use Rattle.smt_meaning.specs.declared.tokens.Token.{Token}
use Rattle.smt_meaning.specs.Reading.{Unread, IsSExpr}
use Rattle.smt_meaning.specs.LegalJournal.{IsExit}
use Rattle.smt_meaning.specs.MayReply.{Replies}
use Rattle.smt_meaning.specs.Sexp.{sexp}
use Rattle.smt_meaning.specs.State.{State, start, checked_frames}
use Rattle.ports.specs.Flow.{SourceTold}
use Rattle.proof_form.specs.declared.found.Found.{Found}
use Rattle.proof_form.specs.declared.found.Found.TheVariants.{NoProof}
use Rattle.proof_form.specs.Found.{IsFound}
use Rattle.smt_reader.proofs.Skipping.{skips_none}
use Rattle.session.specs.LastCheck.{is_after_check}
use Rattle.proof_check.specs.declared.intake.Halt.{Halt}
use Rattle.proof_check.specs.declared.intake.Intake.{Intake}
use Rattle.session.specs.Taken.{every_stack}
use Rattle.proof_check.specs.Folds.{settings, get_proof, no_command, next_command, unasked, exits, unchecked, unproved, IsOpen, before_question, before_proof}
use Rattle.proof_check.specs.Checked.{without, judged}
use Rattle.proof_check.specs.Progress.{folded, past, Reached, IsOpenAt, SoFar, IsNext, IsAsked, Comes}
use Rattle.ports.proofs.Flows.{Consumes-still, RoseBy-none}
use Rattle.proof_check.proofs.Takings.{read_of, cut_as}

-- a run that begins
pub begins : (budget : ℕ) (source : SourceTold) (s : State) (i : Intake) → s ≡ start settings → i.reader ≡ record { place = 0; bytes = []; finished = false } → i.calls ≡ budget → SoFar budget source source (folded s) i
begins budget source s i is reader calls = record {
  input = [];
  given = 0;
  bytes = Consumes-still source.left;
  calls = RoseBy-none source.given;
  faults = omega arith;
  many = omega arith;
  each = λ e. omega (arith, calls);
  but_one = λ e. let f : i.reader.finished ≡ false = ap (λ (u : Unread). u.finished) reader in cc;
  ended = λ e. let f : i.reader.finished ≡ false = ap (λ (u : Unread). u.finished) reader in absurd cc;
  left = i.reader;
  skips = skips_none i.reader;
  reached = λ more may.
      subst (λ (u : Unread). Reached (folded s) more (u.bytes ++ more)) (sym reader) (subst (λ t. Reached (folded t) more more) (sym is) no_command);
}

-- no line is settled before (get-proof)
open_before : (s : State) (input : List ℕ) → IsOpenAt (folded s) input → IsOpen input
open_before s input h = before_question s h.0 h.1 h.2

-- nor before the proof
open_behind : (s : State) → is_after_check s.mode ≡ true → (input : List ℕ) → IsOpenAt (past (folded s) get_proof) input → IsOpen input
open_behind s after input h = before_proof s h.0 h.1 after h.2

module _ (budget : ℕ) (source now : SourceTold) (s : State) where
  module _ (i : Intake) (tokens : List Token) (sexpr : IsSExpr tokens) (so : SoFar budget source now (past (folded s) tokens) i) where
    -- a command is folded
    pub folds_on : (new : State) → (IsExit tokens → ⊥) → (tokens ≡ get_proof → ⊥) → (reply : Reply) (kept : Kept) → Replies every_stack s tokens reply kept new → SoFar budget source now (folded new) i
    folds_on new other no_question reply kept replies = record {
      input = so.input;
      given = so.given;
      bytes = so.bytes;
      calls = so.calls;
      faults = so.faults;
      many = so.many;
      each = so.each;
      but_one = so.but_one;
      ended = so.ended;
      left = so.left;
      skips = so.skips;
      reached = λ more may.
          let r = so.reached more may in
          next_command r.1 (record { tokens = tokens; sexpr = sexpr; lexes = r.2; no_exit = other; no_question = no_question; reply = reply; kept = kept; replies = replies });
    }

    -- an exit ends the fold
    pub exits_now : (new : State) → IsExit tokens → IsAsked budget source now (Ok false) new i
    exits_now new last = (read_of budget source now (past (folded s) tokens) i so, λ more may. let r = so.reached more may in exits s r.0 (so.left.bytes ++ more) tokens r.1 sexpr r.2 last)

    -- (get-proof) is read
    pub asked_now : tokens ≡ get_proof → IsAsked budget source now (Ok true) s i
    asked_now is = subst (λ ts. SoFar budget source now (past (folded s) ts) i) is so

  -- no s-expression comes
  pub unasked_now : (old i : Intake) → IsNext budget source now (folded s) (Ok None) old → IsAsked budget source now (Ok false) s i
  unasked_now old i h = (h.0, λ more may. let e = h.1 more may in unasked s e.0 e.1 e.2)

  pub cut_before : (halt : Halt) (i j : Intake) (t : State) → IsNext budget source now (folded s) (Err halt) i → IsAsked budget source now (Err halt) t j
  cut_before halt i j t c = cut_as budget source now (IsOpenAt (folded s)) IsOpen halt (open_before s) c

  -- there was no check
  pub unchecked_now : (i : Intake) → SoFar budget source now (past (folded s) get_proof) i → is_after_check s.mode ≡ false → Comes budget source now (Ok NoProof)
  unchecked_now i so after = (read_of budget source now (past (folded s) get_proof) i so, without (λ more may. unchecked s (so.left.bytes ++ more) (so.reached more may) after))

  module _ (after : is_after_check s.mode ≡ true) where
    pub unproved_now : (i : Intake) → IsNext budget source now (past (folded s) get_proof) (Ok None) i → Comes budget source now (Ok NoProof)
    unproved_now i h = (h.0, without (λ more may. let e = h.1 more may in unproved s e.0 e.1 after e.2))

    pub judged_now : (i : Intake) (tokens : List Token) (found : Found) → IsNext budget source now (past (folded s) get_proof) (Ok (Some tokens)) i → IsFound (checked_frames s) (sexp tokens) found → Comes budget source now (Ok found)
    judged_now i tokens found h is =
        let so = h.1 in (
          read_of budget source now (past (past (folded s) get_proof) tokens) i so,
          judged s tokens (λ more may. let r = so.reached more may in record { left = r.0; asks = r.1; after_check = after; rest = so.left.bytes ++ more; sexpr = h.0; lexes = r.2 }) is,
        )

    pub cut_behind : (halt : Halt) (i : Intake) → IsNext budget source now (past (folded s) get_proof) (Err halt) i → Comes budget source now (Err halt)
    cut_behind halt i c = cut_as budget source now (IsOpenAt (past (folded s) get_proof)) IsOpen halt (open_behind s after) c
