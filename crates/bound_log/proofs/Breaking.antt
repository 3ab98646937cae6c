-- Bounds that are told by literals, and conflicts of them as clauses.
use Rattle.std.proofs.Common.{◌≡◌, zero, suc, ◌<◌, Bool, true, false, not, List, [], ◌∷◌, length, ℤ, refl, sym, ap, ◌∙◌, subst, inl, inr, arith}
use Rattle.std.specs.Prelude.{All, Contains}
use Rattle.std.proofs.lemmas.List.Elements.{All-weaker, All-contains, All-contains_itself, Contains-append_cases, Contains-append_left, Contains-append_right}
use Rattle.smt_meaning.specs.Declaration.{Declaration}
use Rattle.smt_meaning.specs.Interpretation.{Interprets}
use Rattle.smt_meaning.specs.Stack.{signature_of}
use Rattle.literals.specs.Signed.{Signed, opposite}
use Rattle.search_port.specs.State.{Reading, atom_at, IsFalseIn, AllFalseIn}
use Rattle.search_port.specs.Valid.{IsValid}
use Rattle.search_port.specs.declared.budget.Lemma.{Lemma}
use Rattle.congruence.specs.Reasons.{NoneTwice}
use Rattle.sum_bounds.specs.declared.writing.SumVariable.{SumVariable}
use Rattle.sum_bounds.specs.declared.finding.Finding.{Finding}
use Rattle.sum_bounds.specs.declared.finding.Finding.TheVariants.{Fits as AllFit, Conflict as Clash, Range as NoFit, UnitsSpent as Spent, Memory as NoMemory}
use Rattle.sum_bounds.specs.Bounds as Bounds
use Rattle.sum_bounds.specs.Bounds.{Told, told_bound, sums}
use Rattle.sum_bounds.specs.Clauses.{IsSaid, ConflictsAreValid}
use Rattle.sum_bounds.specs.Wholes.{IsWholeConflict, WholeConflictsAreValid}
use Rattle.bound_log.specs.declared.said.Said.{Said}
use Rattle.bound_log.specs.declared.said.Said.TheVariants.{Nothing, Bound}
use Rattle.bound_log.specs.declared.report.Report.{Report}
use Rattle.bound_log.specs.declared.report.Report.TheVariants.{Fits, Conflict, Range, UnitsSpent, Memory}
use Rattle.bound_log.specs.Told.{State, said_at, told_by, all_told, IsState}
use Rattle.bound_log.specs.Atoms.{Says, SaysBound, Knows}
use Rattle.bound_log.specs.Reporting.{IsClause, IsLemmaOf, IsReport, Judges}

twice_not : (b : Bool) → not (not b) ≡ b
twice_not true = refl
twice_not false = refl

pub twice : (l : Signed) → opposite (opposite l) ≡ l
twice l = ap (λ (b : Bool). let m : Signed = record { atom = l.atom; positive = b } in m) (twice_not l.positive)

-- ---- bounds of literals

-- the literal says the bound
pub record IsToldBy (s : Said) (l : Signed) (t : Told) : Type 0 where
  pub variable : SumVariable
  pub threshold : ℤ
  pub is : s ≡ Bound variable threshold
  pub exact : t ≡ told_bound l variable.variable variable.turned threshold

one_told : (s : Said) (l : Signed) (t : Told) → Contains (told_by s l) t → IsToldBy s l t
one_told Nothing l t (k, less, e) = absurd (omega (arith, less))
one_told (Bound v n) l t (zero, less, e) = record { variable = v; threshold = n; is = refl; exact = sym e }
one_told (Bound v n) l t (suc k, less, e) = absurd (omega (arith, less))

of_literal : (said : List Said) (log : List Signed) (t : Told) → Contains (all_told said log) t → (l : Signed) × Contains log l × Contains (told_by (said_at said l.atom) l) t
of_literal said [] t (k, less, e) = absurd (omega (arith, less))
of_literal said (l ∷ ls) t c =
    elim (Contains-append_cases (told_by (said_at said l.atom) l) (all_told said ls) t c) [
      | inl here ↦ (l, (0, omega arith, refl), here)
      | inr later ↦ let r = of_literal said ls t later in (r.0, Contains-append_right (l ∷ []) ls r.0 r.1, r.2)
    ]

pub told_in : (said : List Said) (log : List Signed) (l : Signed) (t : Told) → Contains log l → Contains (told_by (said_at said l.atom) l) t → Contains (all_told said log) t
told_in said [] l t (k, less, e) c = absurd (omega (arith, less))
told_in said (m ∷ ms) l t (zero, less, e) c =
    Contains-append_left (told_by (said_at said m.atom) m) (all_told said ms) t (subst (λ (n : Signed). Contains (told_by (said_at said n.atom) n) t) (sym e) c)
told_in said (m ∷ ms) l t (suc k, less, e) c =
    Contains-append_right (told_by (said_at said m.atom) m) (all_told said ms) t (told_in said ms l t (k, omega (arith, less), e) c)

-- each bound told is one of a literal of the log
pub record IsOfLog (s : State) (t : Told) : Type 0 where
  pub literal : Signed
  pub among : Contains s.log literal
  pub by : IsToldBy (said_at s.said literal.atom) literal t

pub of_log : (s : State) (t : Told) → IsState s → Contains s.bounds.told t → IsOfLog s t
of_log s t state c =
    let o = of_literal s.said s.log t (subst (λ (ts : List Told). Contains ts t) state.told c) in
    record { literal = o.0; among = o.1; by = one_told (said_at s.said o.0.atom) o.0 t o.2 }

is_said : (r : Reading) (s : State) (t : Told) → IsState s → Knows r.table s → Contains s.bounds.told t → IsSaid r (sums s.bounds) t
is_said r s t state knows c =
    let o = of_log s t state c in
    let l = o.literal in
    let number : l.atom < length s.said = All-contains (λ (m : Signed). m.atom < length s.said) s.log l state.numbered o.among in
    let says : SaysBound s.bounds (atom_at r.table l.atom) (o.by).variable (o.by).threshold =
    subst (Says s.bounds (atom_at r.table l.atom)) (o.by).is (knows.each l.atom (subst (λ n. l.atom < n) knows.as_many number))
    in
    subst (IsSaid r (sums s.bounds)) (sym (o.by).exact)
    (record {
      of = says.sum;
      number = (o.by).threshold;
      atom = says.atom;
      variable = says.variable.sum;
      exact = ap (λ (b : Bool). told_bound l (o.by).variable.variable b (o.by).threshold) says.variable.sign;
    })

each_said : (r : Reading) (s : State) → IsState s → Knows r.table s → All (IsSaid r (sums s.bounds)) s.bounds.told
each_said r s state knows =
    All-weaker (Contains s.bounds.told) (IsSaid r (sums s.bounds)) (λ t c. is_said r s t state knows c) s.bounds.told (All-contains_itself s.bounds.told)

literal_told : (s : State) (t : Told) → IsState s → Contains s.bounds.told t → Contains s.log t.literal
literal_told s t state c = let o = of_log s t state c in subst (λ (u : Told). Contains s.log u.literal) (sym (o.by).exact) o.among

-- ---- conflicts

false_in : (s : State) (bounds : List Told) (ls : List Signed) → IsState s → All (Contains s.bounds.told) bounds → All (λ l. (t : Told) × Contains bounds t × (l ≡ opposite t.literal)) ls → AllFalseIn s.log ls
false_in s bounds ls state stand only =
    All-weaker (λ l. (t : Told) × Contains bounds t × (l ≡ opposite t.literal)) (IsFalseIn s.log)
    (λ l p.
    subst (IsFalseIn s.log) (sym p.2)
    (subst (Contains s.log) (sym (twice p.0.literal)) (literal_told s p.0 state (All-contains (Contains s.bounds.told) bounds p.0 stand p.1))))
    ls only

clause_of : (s : State) (ls : List Signed) (c : Lemma) → NoneTwice ls → AllFalseIn s.log ls → ((r : Reading) → Knows r.table s → IsValid r 0 ls) → IsLemmaOf ls c → IsClause s c
clause_of s ls c once false_in_log valid m = record {
  level = m.level;
  once = subst NoneTwice (sym m.literals) once;
  is_false = subst (AllFalseIn s.log) (sym m.literals) false_in_log;
  conflict = λ ds t knows same at.
      m.conflict ds t at (record {
        is_false = subst (λ (log : List Signed). AllFalseIn log ls) (sym same) false_in_log;
        valid = λ I interprets.
            valid t.reading knows I
            (subst (λ (es : List Declaration). Interprets es I) (sym (ap signature_of (at.one_level 0) ∙ at.declares)) interprets);
      });
}

broken : ConflictsAreValid → (s : State) (ls : List Signed) (c : Lemma) → IsState s → Bounds.IsConflict (sums s.bounds) s.bounds.told ls → IsLemmaOf ls c → IsClause s c
broken law s ls c state conflict m =
    clause_of s ls c conflict.once (false_in s conflict.bounds ls state conflict.stand conflict.only)
    (λ r knows. law r 0 (sums s.bounds) s.bounds.told ls (each_said r s state knows) conflict) m

pub broken_by_wholes : WholeConflictsAreValid → (s : State) (ls : List Signed) (c : Lemma) → IsState s → IsWholeConflict (sums s.bounds) s.bounds.told ls → IsLemmaOf ls c → IsClause s c
broken_by_wholes law s ls c state conflict m =
    clause_of s ls c conflict.once (false_in s conflict.bounds ls state conflict.stand conflict.only)
    (λ r knows. law r 0 (sums s.bounds) s.bounds.told ls (each_said r s state knows) conflict) m

-- ---- reports

pub judged : ConflictsAreValid → (s : State) (f : Finding) (r : Report) → IsState s → Bounds.Judges s.bounds f → IsReport f r → Judges s r
judged law s AllFit r state j e = subst (Judges s) (sym e) j
judged law s (NoFit n) r state j e = subst (Judges s) (sym e) j
judged law s Spent r state j e = subst (Judges s) (sym e) j
judged law s NoMemory r state j e = subst (Judges s) (sym e) j
judged law s (Clash ls) (Conflict c) state j e = broken law s ls.items c state j e
judged law s (Clash ls) Fits state j e = absurd e
judged law s (Clash ls) (Range n) state j e = absurd e
judged law s (Clash ls) UnitsSpent state j e = absurd e
judged law s (Clash ls) Memory state j e = absurd e
