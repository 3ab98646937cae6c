-- What is said of a state, with the variables of the bounds.
use Rattle.std.proofs.Common.{◌≡◌, ◌∙◌, List, [], ◌∷◌, ◌++◌, ap}
use Rattle.literals.specs.Signed.{Signed}
use Rattle.search_port.specs.State.{TheoryState, Variables, IsPressing, IsMadeTrue}
use Rattle.search_port.specs.Spending.{Spending}
use Rattle.search_port.specs.Calls.{AreLemmas, AreNews, AssertedBy, CheckedBy, Goes, InferredBy, IsConflict}
use Rattle.search_port.specs.declared.budget.Lemma.{Lemma}
use Rattle.search_port.specs.declared.budget.Cause.{Cause}
use Rattle.search_port.specs.declared.budget.Cause.TheVariants.{Units, Memory, Cancelled}
use Rattle.search_port.specs.declared.theory.Asserted.{Asserted}
use Rattle.search_port.specs.declared.theory.Asserted.TheVariants.{Taken, Conflict as AssertConflict, Ended as AssertEnded}
use Rattle.search_port.specs.declared.theory.Inferred.{Inferred}
use Rattle.search_port.specs.declared.theory.Inferred.TheVariants.{Quiet, Conflict as InferConflict, Lemmas as InferLemmas, Ended as InferEnded}
use Rattle.search_port.specs.declared.theory.Checked.{Checked}
use Rattle.search_port.specs.declared.theory.Checked.TheVariants.{Fine, Conflict as CheckConflict, Lemmas as CheckLemmas, Ended as CheckEnded}
use Rattle.search_port.specs.Calls.{EndsBy}

-- the state with these variables
abbrev pub with_variables : TheoryState → Variables → TheoryState
with_variables t v = record { reading = t.reading; log = t.log; variables = v }

conflict_with : (t : TheoryState) (v : Variables) (c : Lemma) → IsConflict t c → IsConflict (with_variables t v) c
conflict_with t v c h = record { clause = h.clause; is_false = h.is_false }

lemmas_with : (t : TheoryState) (v : Variables) (cs : List Lemma) (P : List Signed → Type 0) → AreLemmas t cs P → AreLemmas (with_variables t v) cs P
lemmas_with t v cs P h = record { lemmas = h.lemmas; one = h.one; among = h.among; is = h.is }

news_with : (t : TheoryState) (v : Variables) (b c : Spending) (cs : List Lemma) (P : List Signed → Type 0) → AreNews t b c cs P → AreNews (with_variables t v) b c cs P
news_with t v b c cs P h = record { all = h.all; news = λ none. lemmas_with t v cs P (h.news none) }

ends_with : (t : TheoryState) (v : Variables) (b : Spending) (cause : Cause) → EndsBy t b cause → EndsBy (with_variables t v) b cause
ends_with t v b Units h = h
ends_with t v b Memory h = h
ends_with t v b (Cancelled w) h = h

taken_with : (t u : TheoryState) (v w : Variables) (l : Signed) → w ≡ v → u ≡ record t { log = t.log ++ l ∷ [] } → with_variables u w ≡ record (with_variables t v) { log = t.log ++ l ∷ [] }
taken_with t u v w l same e = ap (λ (x : TheoryState). with_variables x w) e ∙ ap (λ (y : Variables). record { reading = t.reading; log = t.log ++ l ∷ []; variables = y }) same

pub asserted_with : (t u : TheoryState) (v w : Variables) (l : Signed) (a : Asserted) → w ≡ v → AssertedBy t u l a → AssertedBy (with_variables t v) (with_variables u w) l a
asserted_with t u v w l Taken same h = taken_with t u v w l same h
asserted_with t u v w l (AssertConflict c) same h = (taken_with t u v w l same h.0, conflict_with u w c h.1)
asserted_with t u v w l (AssertEnded Units) same h = absurd h
asserted_with t u v w l (AssertEnded Memory) same h = ap (λ (x : TheoryState). with_variables x w) h ∙ ap (with_variables t) same
asserted_with t u v w l (AssertEnded (Cancelled k)) same h = absurd h

pub inferred_with : (t : TheoryState) (v : Variables) (b c : Spending) (i : Inferred) → InferredBy t b c i → InferredBy (with_variables t v) b c i
inferred_with t v b c Quiet h = h
inferred_with t v b c (InferConflict d) h = conflict_with t v d h
inferred_with t v b c (InferLemmas cs) h = news_with t v b c cs (IsPressing t.log) h
inferred_with t v b c (InferEnded cause) h = ends_with t v c cause h

pub checked_with : (t : TheoryState) (v : Variables) (b c : Spending) (i : Checked) → CheckedBy t b c i → CheckedBy (with_variables t v) b c i
checked_with t v b c (Fine tables) h = record { tables_for = h.tables_for; makes_true = h.makes_true; fits = h.fits }
checked_with t v b c (CheckConflict d) h = conflict_with t v d h
checked_with t v b c (CheckLemmas cs) h = news_with t v b c cs (λ ls. IsMadeTrue t.log ls → ⊥) h
checked_with t v b c (CheckEnded cause) h = ends_with t v c cause h

pub goes_with : (t u : TheoryState) (v w : Variables) (b c : Spending) → Goes t u b c → Goes (with_variables t v) (with_variables u w) b c
goes_with t u v w b c h = record {
  grown = h.grown;
  log = h.log;
  added = h.added;
  budget = h.budget;
  units = h.units;
  in_bound = h.in_bound;
  no_pivots = h.no_pivots;
  numbered = h.numbered;
  paid = h.paid;
}
