-- Clauses that are false in a log.
use Rattle.std.proofs.Common.{◌≡◌, ℕ, ◌+◌, ◌<◌, Bool, true, false, List, ◌++◌, map, length, All, Contains, sym, ap, ◌∙◌, subst, arith}
use Rattle.std.proofs.lemmas.List.Elements.{All-append, All-map, All-weaker, All-contains, Contains-append_left, Contains-append_right}
use Rattle.literals.specs.Signed.{Signed, opposite, literal_true, some_true}
use Rattle.smt_meaning.specs.declared.clauses.Atom.{Atom}
use Rattle.smt_meaning.specs.declared.clauses.Atom.TheVariants.{Truth as TruthAtom}
use Rattle.smt_meaning.specs.Declaration.{Declaration}
use Rattle.smt_meaning.specs.Term.{Tree}
use Rattle.smt_meaning.specs.Interpretation.{Interprets}
use Rattle.smt_meaning.specs.Stack.{Frame, signature_of}
use Rattle.search_port.specs.State.{TheoryState, atom_at, IsFalseIn, AllFalseIn}
use Rattle.search_port.specs.Valid.{IsOf}
use Rattle.search_port.specs.Calls.{IsConflict}
use Rattle.point_closure.specs.declared.step.Step.{Step}
use Rattle.point_closure.specs.Closure.{Point, AreRead}
use Rattle.congruence.specs.Reasons.{reason_at, AreReasonsOf}
use Rattle.congruence.specs.Justified.{truth_by, AreJustified}
use Rattle.congruence.specs.Clauses.{IsFalseClause, IsToldAtOneLevel, AddsReasons}
use Rattle.congruence.specs.Laws.{ReasonsMakeEqual}
use Rattle.congruence.proofs.Values.{point_of_term}
use Rattle.congruence.proofs.Reasoning.{each_false, true_where, twice, unmapped, reason_told, all_of_same, false_part}

-- ---- a clause of the theory

pub false_is_conflict : (ds : List Declaration) (t : TheoryState) (ls : List Signed) → IsToldAtOneLevel ds t → IsFalseClause ds t.reading.trees t.reading.table t.log ls → IsConflict t (record { literals = ls; level = 0 })
false_is_conflict ds t ls told h = record {
  clause = record {
    over = record {
      within = λ l c. All-contains (λ (m : Signed). m.atom < length t.reading.table) t.log (opposite l) told.within (All-contains (IsFalseIn t.log) ls l h.is_false c);
      no_pair = λ l c d. told.consistent (opposite l) (All-contains (IsFalseIn t.log) ls l h.is_false c) (All-contains (IsFalseIn t.log) ls (opposite l) h.is_false d);
    };
    valid = λ I interprets. h.valid I (subst (λ (es : List Declaration). Interprets es I) (ap signature_of (told.one_level 0) ∙ told.declares) interprets);
    at_level =
        subst (λ (fs : List Frame). All (λ (l : Signed). IsOf t.reading.trees fs (atom_at t.reading.table l.atom)) ls) (sym (told.one_level 0))
        (All-weaker (IsFalseIn t.log) (λ (l : Signed). IsOf t.reading.trees t.reading.frames (atom_at t.reading.table l.atom))
        (λ l c. told.atoms l.atom (TruthAtom 0) (All-contains (λ (m : Signed). m.atom < length t.reading.table) t.log (opposite l) told.within c)) ls h.is_false);
    lowest = λ m at. omega arith;
  };
  is_false = h.is_false;
}

-- ---- reasons of an equality

-- the negations of the reasons are false where the reasons are told
pub opposites_false : (log : List Signed) (ps : List Point) (steps : List Step) (reasons ls : List Signed) (i j : ℕ) → length reasons ≡ length steps → All (Contains log) reasons → AreReasonsOf ps steps reasons i j ls
    → AllFalseIn log (map opposite ls)
opposites_false log ps steps reasons ls i j as_many told are =
    All-map (IsFalseIn log) opposite ls
    (all_of_same (λ (l : Signed). IsFalseIn log (opposite l)) (map (reason_at reasons) are.steps) ls (λ l c. are.literals.same.only l c)
    (All-map (λ (l : Signed). IsFalseIn log (opposite l)) (reason_at reasons) are.steps
    (All-weaker (λ s. s < length steps) (λ s. IsFalseIn log (opposite (reason_at reasons s)))
    (λ s less. subst (Contains log) (sym (twice (reason_at reasons s))) (reason_told log reasons s told (subst (λ n. s < n) (sym as_many) less)))
    are.steps are.explains.steps)))

-- literals are true where their negations are false
pub all_true_where : (f : ℕ → Bool) (ls : List Signed) → some_true f (map opposite ls) ≡ false → All (λ (l : Signed). literal_true f l ≡ true) ls
all_true_where f ls none =
    All-weaker (λ (l : Signed). literal_true f (opposite l) ≡ false) (λ (l : Signed). literal_true f l ≡ true) (λ l h. true_where f l h) ls
    (unmapped (λ (l : Signed). literal_true f l ≡ false) opposite ls (each_false f (map opposite ls) none))

pub reasons_added : ReasonsMakeEqual → (ds : List Declaration) (ts : List Tree) (table : List Atom) (ps : List Point) (steps : List Step) (reasons old ls : List Signed) (i j : ℕ)
    → AreRead ts ps → AreJustified ds ts table steps reasons → AreReasonsOf ps steps reasons (i + 2) (j + 2) ls → AddsReasons ds ts table reasons old (old ++ map opposite ls) i j
reasons_added law ds ts table ps steps reasons old ls i j read justified are = record {
  stays = λ l c. Contains-append_left old (map opposite ls) l c;
  is_false = λ log told before. All-append (IsFalseIn log) old (map opposite ls) before (opposites_false log ps steps reasons ls (i + 2) (j + 2) justified.as_many told are);
  equal = λ I interprets none.
      sym (point_of_term ts I i)
      ∙ law ds ts table ps steps reasons ls (i + 2) (j + 2) I read justified are interprets
      (all_true_where (truth_by ts table I) ls (false_part (truth_by ts table I) (map opposite ls) (old ++ map opposite ls) (λ l c. Contains-append_right old (map opposite ls) l c) none))
      ∙ point_of_term ts I j;
}
