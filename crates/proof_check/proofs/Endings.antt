-- How a run ends.
use Rattle.std.proofs.Common.{◌≡◌, ◌∙◌, ℕ, ◌<◌, ◌≤◌, ◌↔◌, ◌⊎◌, Bool, List, [], length, arith, refl, sym, subst, inl, inr, Option, Some, None, Ok, Err}
use Rattle.std.specs.Prelude.{IfSome}
use Rattle.smt_meaning.specs.Sexp.{Sexp, sexp}
use Rattle.smt_meaning.specs.Stack.{Frame}
use Rattle.smt_meaning.specs.State.{checked_frames}
use Rattle.ports.specs.Flow.{SourceTold, SinkTold, Rose}
use Rattle.proof_form.specs.declared.found.Found.{Found}
use Rattle.proof_form.specs.declared.found.Found.TheVariants.{Yes, Node, No, Range, NoProof}
use Rattle.proof_form.specs.Found.{IsFound, IsGoodInRange}
use Rattle.proof_check.specs.declared.checking.CheckEnded.{CheckEnded}
use Rattle.proof_check.specs.declared.intake.Halt.{Halt}
use Rattle.proof_check.specs.declared.intake.Halt.TheVariants.{Memory, ReadFault, TooLong}
use Rattle.proof_check.specs.Folds.{IsOpen}
use Rattle.proof_check.specs.Lines.{IsStatus, status_of}
use Rattle.proof_check.specs.Checked.{Read, Finds, without, judged, Refutes, IsRefuted, IsChecked, IsWritten, IsTorn, Writes}
use Rattle.proof_check.specs.Progress.{Comes}
use Rattle.proof_check.specs.Told.{IsTold, whole, torn, untold, statuses}
use Rattle.ports.proofs.Flows.{Appends-none, RoseBy-none}
use Rattle.proof_check.proofs.Takings.{read_nothing}

-- no status of a line is that of a run that was cut off
abbrev IsOfLine : ℕ → Type 0
IsOfLine n = (n ≡ 0) ⊎ (n ≡ 1) ⊎ (n ≡ 7) ⊎ (n ≡ 8)

of_line : (f : Found) → IsOfLine (status_of f)
of_line Yes = inl refl
of_line (Node n) = inr (inl refl)
of_line (No n) = inr (inl refl)
of_line (Range n) = inr (inr (inr refl))
of_line NoProof = inr (inr (inl refl))

nothing_written : (a : SinkTold) → Writes a a [] 0
nothing_written a = record { appended = Appends-none a.written; called = RoseBy-none a.calls }

none_written : (found : Option Found) (sink now : SinkTold) → found ≡ None → now ≡ sink → IsWritten found sink now
none_written None sink now e same = subst (λ t. Writes sink t [] 0) (sym same) (nothing_written sink)
none_written (Some f) sink now e same = absurd cc

no_finds : (found : Option Found) (P : Found → Type 0) → found ≡ None → IfSome found P
no_finds None P e = tt
no_finds (Some f) P e = absurd cc

some_finds : (found : Option Found) (P : Found → Type 0) (f : Found) → found ≡ Some f → P f → IfSome found P
some_finds found P f e h = subst (λ o. IfSome o P) (sym e) h

no_status : (found : Option Found) (n : ℕ) → found ≡ None → (n ≡ 2) ⊎ (n ≡ 3) ⊎ (n ≡ 5) ⊎ (n ≡ 6) → IsStatus found n
no_status found n e h = subst (λ o. IsStatus o n) (sym e) h

some_status : (found : Option Found) (f : Found) (n : ℕ) → found ≡ Some f → (n ≡ status_of f) ⊎ (n ≡ 4) → IsStatus found n
some_status found f n e h = subst (λ o. IsStatus o n) (sym e) h

none_some : (found : Option Found) (f : Found) → found ≡ None → found ≡ Some f → ⊥
none_some found f e h = cc

some_is : (f g : Found) → Some f ≡ Some g → f ≡ g
some_is f g e = cc

-- a good proof that is found refutes
refuted_by : ((frames : List Frame) (x : Sexp) → IsGoodInRange frames x → Refutes frames x) → (ended : Bool) (input : List ℕ) (f : Found) → Finds ended input f → f ≡ Yes → IsRefuted ended input
refuted_by law ended input NoProof (without h) e = absurd cc
refuted_by law ended input f (judged state tokens has is) e =
    record { state = state; tokens = tokens; has = has; refutes = law (checked_frames state) (sexp tokens) (subst (IsFound (checked_frames state) (sexp tokens)) e is) }

module _ (budget words : ℕ) (source source_now : SourceTold) (sink sink_now : SinkTold) (c : CheckEnded) where
  -- nothing was found, and nothing written
  unfound : (read : Read budget source source_now) → c.found ≡ None → sink_now ≡ sink → (c.status ≡ 2) ⊎ (c.status ≡ 3) ⊎ (c.status ≡ 5) ⊎ (c.status ≡ 6)
      → ((c.status ≡ 3) ⊎ (c.status ≡ 6) → IsOpen read.input) → (c.status ≡ 2) ↔ (1 < words) → (c.status ≡ 3 → Rose source.faults source_now.faults × (read.given < budget))
      → (c.status ≡ 6 → (read.given ≡ budget) × (budget ≤ length read.input)) → IsChecked budget words source source_now sink sink_now c
  unfound read none same status unsettled refuses fault long = record {
    read = read;
    finds = no_finds c.found _ none;
    refuted = λ e. absurd (none_some c.found Yes none e);
    still_open = unsettled;
    written = λ _. none_written c.found sink sink_now none same;
    torn = λ k. absurd (omega (arith, k, status));
    status = no_status c.found c.status none status;
    words_refused = refuses;
    read_fault = fault;
    write_fault = λ k. absurd (omega (arith, k, status));
    long = long;
  }

  -- there are more words, and nothing was done
  pub refused : 1 < words → c.found ≡ None → c.status ≡ 2 → source_now ≡ source → sink_now ≡ sink → IsChecked budget words source source_now sink sink_now c
  refused more none two same_source same_sink =
      unfound (subst (λ t. Read budget source t) (sym same_source) (read_nothing budget source)) none same_sink (inl two)
      (λ h. absurd (omega (arith, h, two))) ((λ _. more), (λ _. two)) (λ h. absurd (omega (arith, h, two))) (λ h. absurd (omega (arith, h, two)))

  module _ (few : words ≤ 1) where
    refuses : (n : ℕ) → c.status ≡ n → (n ≡ 2 → ⊥) → (c.status ≡ 2) ↔ (1 < words)
    refuses n is other = ((λ h. absurd (other (sym is ∙ h))), (λ h. absurd (omega (arith, h, few))))

    -- memory was wanting
    short : Read budget source source_now → c.found ≡ None → c.status ≡ 5 → sink_now ≡ sink → IsChecked budget words source source_now sink sink_now c
    short read none is same =
        unfound read none same (inr (inr (inl is))) (λ k. absurd (omega (arith, k, is))) (refuses 5 is (λ k. omega (arith, k))) (λ k. absurd (omega (arith, k, is))) (λ k. absurd (omega (arith, k, is)))

    -- the run was cut off
    pub cut : (halt : Halt) → Comes budget source source_now (Err halt) → c.found ≡ None → c.status ≡ statuses halt → sink_now ≡ sink → IsChecked budget words source source_now sink sink_now c
    cut Memory h none is same = short h.read none is same
    cut ReadFault h none is same =
        unfound h.read none same (inr (inl is)) (λ _. h.cause.2) (refuses 3 is (λ k. omega (arith, k))) (λ _. (h.cause.0, h.cause.1)) (λ k. absurd (omega (arith, k, is)))
    cut TooLong h none is same =
        unfound h.read none same (inr (inr (inr is))) (λ _. h.cause.2) (refuses 6 is (λ k. omega (arith, k))) (λ k. absurd (omega (arith, k, is))) (λ _. (h.cause.0, h.cause.1))

    module _ (law : (frames : List Frame) (x : Sexp) → IsGoodInRange frames x → Refutes frames x) (f : Found) (h : Comes budget source source_now (Ok f)) where
      -- this was found
      found_as : (n : ℕ) → c.found ≡ Some f → c.status ≡ n → (n ≡ status_of f) ⊎ (n ≡ 4) → ((n ≡ 4 → ⊥) → IsWritten (Some f) sink sink_now) → (n ≡ 4 → IsTorn (Some f) sink sink_now × Rose sink.faults sink_now.faults)
          → IsChecked budget words source source_now sink sink_now c
      found_as n is status of_found in_full in_part = record {
        read = h.0;
        finds = some_finds c.found _ f is h.1;
        refuted = λ e. refuted_by law h.0.ended h.0.input f h.1 (some_is f Yes (sym is ∙ e));
        still_open = λ k. absurd (omega (arith, of_line f, of_found, status, k));
        written = λ k. subst (λ o. IsWritten o sink sink_now) (sym is) (in_full (λ e. k (status ∙ e)));
        torn = λ k. subst (λ o. IsTorn o sink sink_now) (sym is) (in_part (sym status ∙ k)).0;
        status = some_status c.found f c.status is (subst (λ m. (m ≡ status_of f) ⊎ (m ≡ 4)) (sym status) of_found);
        words_refused = refuses n status (λ k. omega (arith, of_line f, of_found, k));
        read_fault = λ k. absurd (omega (arith, of_line f, of_found, status, k));
        write_fault = λ k. (in_part (sym status ∙ k)).1;
        long = λ k. absurd (omega (arith, of_line f, of_found, status, k));
      }

      -- and its line was written, or not
      pub told : IsTold f sink sink_now c → IsChecked budget words source source_now sink sink_now c
      told (whole is status written) = found_as (status_of f) is status (inl refl) (λ _. written) (λ k. absurd (omega (arith, of_line f, k)))
      told (torn is status written rose) = found_as 4 is status (inr refl) (λ k. absurd (k refl)) (λ _. (written, rose))
      told (untold none status same) = short h.0 none status same
