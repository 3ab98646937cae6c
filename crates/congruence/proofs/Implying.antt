-- A clause that gives an open literal from what was told.
use Rattle.std.proofs.Common.{◌≡◌, ℕ, zero, suc, ◌+◌, ◌<◌, ◌⊎◌, Bool, true, false, not, List, [], ◌∷◌, map, length, All, Contains, refl, sym, ap, ◌∙◌, subst, inl, inr, arith}
use Rattle.std.proofs.lemmas.List.Elements.{All-weaker, All-contains, All-contains_itself, Contains-append_cases}
use Rattle.literals.specs.Signed.{Signed, opposite, literal_true, some_true}
use Rattle.smt_meaning.specs.declared.clauses.Atom.TheVariants.{Truth as TruthAtom}
use Rattle.smt_meaning.specs.Declaration.{Declaration}
use Rattle.smt_meaning.specs.Term.{Tree, Interpretation}
use Rattle.smt_meaning.specs.Interpretation.{Interprets}
use Rattle.smt_meaning.specs.Stack.{Frame, signature_of}
use Rattle.search_port.specs.State.{TheoryState, atom_at, IsFalseIn, AllFalseIn, IsOpenIn}
use Rattle.search_port.specs.Valid.{IsOf}
use Rattle.point_closure.specs.declared.step.Step.{Step}
use Rattle.point_closure.specs.declared.step.Step.TheVariants.{Merge, Differ}
use Rattle.point_closure.specs.Explained.{merged}
use Rattle.point_closure.specs.Laws.{point_value}
use Rattle.congruence.specs.declared.congruence.Congruence.{Congruence}
use Rattle.congruence.specs.Reasons.{AreReasonsOf, HaveTheSame}
use Rattle.congruence.specs.declared.implied.Refuted.{Refuted}
use Rattle.congruence.specs.Justified.{StepHolds, truth_by, IsJustified}
use Rattle.congruence.specs.Reasoned.{IsReasoned}
use Rattle.congruence.specs.Clauses.{IsTrueEverywhere, IsToldAtOneLevel}
use Rattle.congruence.specs.Implied.{Opposes, IsOneRefuted, IsPressingLemma}
use Rattle.congruence.specs.Laws.{ReasonsMakeEqual}
use Rattle.congruence.proofs.Reasoning.{left_false, right_false, true_unless, true_where, twice, truths_differ, same_valid}
use Rattle.congruence.proofs.Clausing.{opposites_false, all_true_where}

-- ---- a step that can't hold

not_both : (ts : List Tree) (I : Interpretation) (i j : ℕ) → i + j ≡ 1 → point_value ts I i ≡ point_value ts I j → ⊥
not_both ts I zero zero e h = absurd (omega arith)
not_both ts I zero (suc zero) e h = truths_differ ts I h
not_both ts I zero (suc (suc j)) e h = absurd (omega arith)
not_both ts I (suc zero) zero e h = truths_differ ts I (sym h)
not_both ts I (suc zero) (suc j) e h = absurd (omega arith)
not_both ts I (suc (suc i)) j e h = absurd (omega arith)

cannot_hold : (ts : List Tree) (I : Interpretation) (s : Step) (r : Refuted) → Opposes s r → StepHolds ts I s → point_value ts I r.left ≡ point_value ts I r.right → ⊥
cannot_hold ts I (Differ i j) r o holds e = holds (ap (point_value ts I) (sym o.0) ∙ e ∙ ap (point_value ts I) o.1)
cannot_hold ts I (Merge i j) r o holds e = not_both ts I r.right j o.1 (sym e ∙ ap (point_value ts I) o.0 ∙ holds)

-- ---- literals that are false, and one that is open

abbrev IsOneOrFalse : List Signed → Signed → Signed → Type 0
IsOneOrFalse log l m = (m ≡ l) ⊎ IsFalseIn log m

one_or_false : (log ls ms : List Signed) (l : Signed) → AllFalseIn log ls → HaveTheSame (l ∷ ls) ms → (m : Signed) → Contains ms m → IsOneOrFalse log l m
one_or_false log ls ms l false_ls same m c = elim (Contains-append_cases (l ∷ []) ls m (same.only m c)) [
  | inl here ↦ inl (only_one l m here)
  | inr there ↦ inr (All-contains (IsFalseIn log) ls m false_ls there)
]
  where
    only_one : (l m : Signed) → Contains (l ∷ []) m → m ≡ l
    only_one l m (zero, less, e) = sym e
    only_one l m (suc k, less, e) = absurd (omega arith)

not_own : (b : Bool) → b ≡ not b → ⊥
not_own true e = cc
not_own false e = cc

no_pair : (log : List Signed) (l : Signed) → ((m : Signed) → Contains log m → Contains log (opposite m) → ⊥) → IsOpenIn log l → (m : Signed) → IsOneOrFalse log l m → IsOneOrFalse log l (opposite m) → ⊥
no_pair log l consistent is_open m (inl e) (inl f) = not_own m.positive (ap (λ (x : Signed). x.positive) (e ∙ sym f))
no_pair log l consistent is_open m (inl e) (inr f) = is_open.0 (subst (Contains log) (twice m ∙ e) f)
no_pair log l consistent is_open m (inr e) (inl f) = is_open.0 (subst (Contains log) f e)
no_pair log l consistent is_open m (inr e) (inr f) = consistent (opposite m) e f

pub press : (ds : List Declaration) (t : TheoryState) (l : Signed) (ls ms : List Signed) → IsToldAtOneLevel ds t → l.atom < length t.reading.table → IsOpenIn t.log l → AllFalseIn t.log ls
    → HaveTheSame (l ∷ ls) ms → IsTrueEverywhere ds t.reading.trees t.reading.table ms → IsPressingLemma t (record { literals = ms; level = 0 })
press ds t l ls ms told number is_open false_ls same valid =
    let each : (m : Signed) → Contains ms m → IsOneOrFalse t.log l m = one_or_false t.log ls ms l false_ls same in
    let within : (m : Signed) → Contains ms m → m.atom < length t.reading.table = λ m c. number_of m (each m c) in
    record {
      lemma = record {
        over = record {
          within = within;
          no_pair = λ m c d. no_pair t.log l told.consistent is_open m (each m c) (each (opposite m) d);
        };
        valid = λ I interprets. valid I (subst (λ (es : List Declaration). Interprets es I) (ap signature_of (told.one_level 0) ∙ told.declares) interprets);
        at_level =
            subst (λ (fs : List Frame). All (λ (m : Signed). IsOf t.reading.trees fs (atom_at t.reading.table m.atom)) ms) (sym (told.one_level 0))
            (All-weaker (Contains ms) (λ (m : Signed). IsOf t.reading.trees t.reading.frames (atom_at t.reading.table m.atom)) (λ m c. told.atoms m.atom (TruthAtom 0) (within m c)) ms (All-contains_itself ms));
        lowest = λ m at. omega arith;
      };
      pressing = inr (record {
        literal = l;
        is_open = is_open;
        stands = same.all l (0, omega arith, refl);
        others = All-weaker (Contains ms) (IsOneOrFalse t.log l) each ms (All-contains_itself ms);
      });
    }
  where
    number_of : (m : Signed) → IsOneOrFalse t.log l m → m.atom < length t.reading.table
    number_of m (inl e) = subst (λ (x : Signed). x.atom < length t.reading.table) (sym e) number
    number_of m (inr f) = All-contains (λ (x : Signed). x.atom < length t.reading.table) t.log (opposite m) told.within f

-- ---- what follows from the negation

module _ (law : ReasonsMakeEqual) (ds : List Declaration) (t : TheoryState) (c : Congruence) (reasoned : IsReasoned ds t.reading.trees t.reading.table t.log c) where
  implied_valid : (l : Signed) (ss : List Step) (r : Refuted) (ls : List Signed) → IsOneRefuted c.closure.graph (merged c.closure.steps.items) ss r
      → AreReasonsOf c.closure.graph c.closure.steps.items c.reasons.items r.left r.right ls → All (IsJustified ds t.reading.trees t.reading.table (opposite l)) ss
      → IsTrueEverywhere ds t.reading.trees t.reading.table (l ∷ map opposite ls)
  implied_valid l ss r ls one are justified I interprets =
      let f : ℕ → Bool = truth_by t.reading.trees t.reading.table I in
      true_unless (some_true f (l ∷ map opposite ls)) (λ none.
      let l_false : literal_true f l ≡ false = left_false (literal_true f l) (some_true f (map opposite ls)) none in
      let other_true : literal_true f (opposite l) ≡ true = true_where f (opposite l) (ap (literal_true f) (twice l) ∙ l_false) in
      let holds : StepHolds t.reading.trees I one.step = All-contains (IsJustified ds t.reading.trees t.reading.table (opposite l)) ss one.step justified one.among I interprets other_true in
      cannot_hold t.reading.trees I one.step r one.is.opposes holds
      (law ds t.reading.trees t.reading.table c.closure.graph c.closure.steps.items c.reasons.items ls r.left r.right I reasoned.read reasoned.justified are interprets
      (all_true_where f ls (right_false (literal_true f l) (some_true f (map opposite ls)) none))))

  pub implied_presses : (l : Signed) (ss : List Step) (r : Refuted) (ls ms : List Signed) → IsToldAtOneLevel ds t → l.atom < length t.reading.table → IsOpenIn t.log l
      → IsOneRefuted c.closure.graph (merged c.closure.steps.items) ss r → AreReasonsOf c.closure.graph c.closure.steps.items c.reasons.items r.left r.right ls
      → All (IsJustified ds t.reading.trees t.reading.table (opposite l)) ss → HaveTheSame (l ∷ map opposite ls) ms → IsPressingLemma t (record { literals = ms; level = 0 })
  implied_presses l ss r ls ms told number is_open one are justified same =
      press ds t l (map opposite ls) ms told number is_open (opposites_false t.log c.closure.graph c.closure.steps.items c.reasons.items ls r.left r.right reasoned.justified.as_many reasoned.told are) same
      (same_valid ds t.reading.trees t.reading.table (l ∷ map opposite ls) ms same (implied_valid l ss r ls one are justified))
