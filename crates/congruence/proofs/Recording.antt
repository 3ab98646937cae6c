-- Steps that are recorded for reasons that justify them.
use Rattle.std.proofs.Common.{◌≡◌, ℕ, ◌+◌, ◌-◌, ◌<◌, ◌≤◌, true, List, ◌++◌, length, take, replicate, All, Contains, refl, sym, ap, ◌∙◌, subst, inl, inr, arith}
use Rattle.std.proofs.lemmas.Bool.{cases_lt}
use Rattle.std.proofs.lemmas.List.{length-append, length-replicate, length-take-le, get_or_append_left, get_or-append_right, get_or-take, get_or-replicate}
use Rattle.std.proofs.lemmas.List.Elements.{All-append, All-replicate}
use Rattle.literals.specs.Signed.{Signed}
use Rattle.smt_meaning.specs.declared.clauses.Atom.{Atom}
use Rattle.smt_meaning.specs.Declaration.{Declaration}
use Rattle.smt_meaning.specs.Term.{Tree}
use Rattle.point_closure.specs.declared.step.Step.{Step}
use Rattle.point_closure.specs.declared.step.Step.TheVariants.{Differ}
use Rattle.point_closure.specs.Closure.{Point, AreRead}
use Rattle.point_closure.specs.Explained.{step_at}
use Rattle.congruence.specs.declared.congruence.Congruence.{Congruence}
use Rattle.congruence.specs.Reasons.{reason_at}
use Rattle.congruence.specs.Recorded.{IsRecorded}
use Rattle.congruence.specs.Justified.{IsJustified, AreJustified}
use Rattle.congruence.specs.Reasoned.{IsReasoned, IsPartly}

abbrev no_reason : Signed
no_reason = record { atom = 0; positive = true }

module _ (ds : List Declaration) (ts : List Tree) (table : List Atom) where
  justified_by : (rs qs : List Signed) (a b : List Step) (s t : ℕ) → reason_at rs s ≡ reason_at qs t → step_at a s ≡ step_at b t → IsJustified ds ts table (reason_at qs t) (step_at b t)
      → IsJustified ds ts table (reason_at rs s) (step_at a s)
  justified_by rs qs a b s t e f h =
      subst (λ (r : Signed). IsJustified ds ts table r (step_at a s)) (sym e) (subst (IsJustified ds ts table (reason_at qs t)) (sym f) h)

  justified_append : (a b : List Step) (rs qs : List Signed) → AreJustified ds ts table a rs → AreJustified ds ts table b qs → AreJustified ds ts table (a ++ b) (rs ++ qs)
  justified_append a b rs qs h k = record {
    as_many = length-append rs qs ∙ ap (λ n. n + length qs) h.as_many ∙ ap (λ n. length a + n) k.as_many ∙ sym (length-append a b);
    each = λ s less. elim (cases_lt s (length a)) [
      | inl before ↦
          justified_by (rs ++ qs) rs (a ++ b) a s s (get_or_append_left rs qs no_reason s (subst (λ n. s < n) (sym h.as_many) before)) (get_or_append_left a b (Differ 0 0) s before) (h.each s before)
      | inr past ↦
          let below : s - length a < length b = omega (arith, length-append a b, less) in
          justified_by (rs ++ qs) qs (a ++ b) b s (s - length a) (get_or-append_right rs qs (length a) s no_reason h.as_many past) (get_or-append_right a b (length a) s (Differ 0 0) refl past) (k.each (s - length a) below)
    ];
  }

  justified_all : (more : List Step) (r : Signed) (n : ℕ) → n ≤ length more → All (IsJustified ds ts table r) more → AreJustified ds ts table (take n more) (replicate n r)
  justified_all more r n within h = record {
    as_many = length-replicate n r ∙ sym (length-take-le n more within);
    each = λ s less.
        let below : s < n = omega (arith, length-take-le n more within, less) in
        subst (λ (q : Signed). IsJustified ds ts table q (step_at (take n more) s)) (sym (get_or-replicate n s r no_reason below))
        (subst (IsJustified ds ts table r) (sym (get_or-take n more s (Differ 0 0) below)) (h s (Differ 0 0) (omega arith)));
  }

  pub reasoned_partly : (log : List Signed) (old new : Congruence) (more : List Step) (r : Signed) → IsPartly old new more r → IsRecorded new → new.closure.graph ≡ old.closure.graph
      → IsReasoned ds ts table log old → Contains log r → All (IsJustified ds ts table r) more → IsReasoned ds ts table log new
  reasoned_partly log old new more r partly recorded graph h told each = record {
    recorded = recorded;
    read = subst (AreRead ts) (sym graph) h.read;
    every = subst (λ (ps : List Point). length ts + 2 ≤ length ps) (sym graph) h.every;
    justified =
        subst (λ (rs : List Signed). AreJustified ds ts table new.closure.steps.items rs) (sym partly.reasons)
        (subst (λ (ss : List Step). AreJustified ds ts table ss (old.reasons.items ++ replicate partly.count r)) (sym partly.steps)
        (justified_append old.closure.steps.items (take partly.count more) old.reasons.items (replicate partly.count r) h.justified (justified_all more r partly.count partly.within each)));
    told = subst (All (Contains log)) (sym partly.reasons) (All-append (Contains log) old.reasons.items (replicate partly.count r) h.told (All-replicate (Contains log) partly.count r told));
  }
