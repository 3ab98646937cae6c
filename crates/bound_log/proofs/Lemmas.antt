-- Clauses over numbered atoms that are true under every interpretation, as lemmas at level 0.
use Rattle.std.proofs.Common.{◌≡◌, ◌≢◌, ℕ, zero, suc, ◌<◌, Bool, true, false, not, List, [], ◌∷◌, length, ℤ, refl, sym, ap, ◌∙◌, subst, arith}
use Rattle.std.specs.Prelude.{All, Contains}
use Rattle.std.proofs.lemmas.List.Elements.{All-nil, All-cons, All-weaker, All-map, All-contains, All-contains_itself}
use Rattle.literals.specs.Signed.{Signed, opposite, some_true}
use Rattle.smt_meaning.specs.declared.clauses.Atom.TheVariants.{Truth as TruthAtom}
use Rattle.smt_meaning.specs.Declaration.{Declaration}
use Rattle.smt_meaning.specs.Interpretation.{Interprets}
use Rattle.smt_meaning.specs.Stack.{Frame, signature_of}
use Rattle.search_port.specs.State.{TheoryState, atom_at, truth}
use Rattle.search_port.specs.Valid.{IsOf, IsValid}
use Rattle.search_port.specs.Calls.{IsLemma}
use Rattle.search_port.specs.Forcing.{HasNoPair}
use Rattle.congruence.specs.Clauses.{IsToldAtOneLevel}
use Rattle.clause_form.specs.Node.{HasNoAtomTwice}
use Rattle.equality_clauses.specs.Laws.{IsOver}
use Rattle.int_branch.specs.Branch.{either_sign, BranchesAreValid}
use Rattle.bound_clauses.specs.Ties.{equal_clauses}
use Rattle.bound_clauses.specs.Laws.{EqualityClausesAreTrue, EqualityIsOver}
use Rattle.bound_log.specs.Clauses.{at_bottom, branch_clauses, IsBranchOf, tie_clauses, AreTied}

-- ---- at level 0

lemma_at_bottom : (ds : List Declaration) (t : TheoryState) (ls : List Signed) → IsToldAtOneLevel ds t → All (λ (l : Signed). l.atom < length t.reading.table) ls → HasNoPair ls
    → IsValid t.reading 0 ls → IsLemma t.reading (at_bottom ls)
lemma_at_bottom ds t ls told within no_pair valid = record {
  over = record { within = λ l c. All-contains (λ (m : Signed). m.atom < length t.reading.table) ls l within c; no_pair = no_pair };
  valid = valid;
  at_level =
      subst (λ (fs : List Frame). All (λ (l : Signed). IsOf t.reading.trees fs (atom_at t.reading.table l.atom)) ls) (sym (told.one_level 0))
      (All-weaker (λ (l : Signed). l.atom < length t.reading.table) (λ (l : Signed). IsOf t.reading.trees t.reading.frames (atom_at t.reading.table l.atom))
      (λ l less. told.atoms l.atom (TruthAtom 0) less) ls within);
  lowest = λ m at. omega arith;
}

-- ---- branches

not_own : (b : Bool) → b ≡ not b → ⊥
not_own true e = cc
not_own false e = cc

-- literals of one sign
one_sign : (b : Bool) (ls : List Signed) → All (λ (l : Signed). l.positive ≡ b) ls → HasNoPair ls
one_sign b ls h l c d =
    let e : l.positive ≡ b = All-contains (λ (m : Signed). m.positive ≡ b) ls l h c in
    let f : not l.positive ≡ b = All-contains (λ (m : Signed). m.positive ≡ b) ls (opposite l) h d in
    not_own l.positive (e ∙ sym f)

branch_lemma : (ds : List Declaration) (t : TheoryState) (m n : ℕ) (b : Bool) → IsToldAtOneLevel ds t → m < length t.reading.table → n < length t.reading.table → IsValid t.reading 0 (either_sign m n b)
    → IsLemma t.reading (at_bottom (either_sign m n b))
branch_lemma ds t m n b told low high valid =
    lemma_at_bottom ds t (either_sign m n b) told
    (All-cons (λ (l : Signed). l.atom < length t.reading.table) (record { atom = m; positive = b }) (record { atom = n; positive = b } ∷ []) low
    (All-cons (λ (l : Signed). l.atom < length t.reading.table) (record { atom = n; positive = b }) [] high (All-nil (λ (l : Signed). l.atom < length t.reading.table))))
    (one_sign b (either_sign m n b)
    (All-cons (λ (l : Signed). l.positive ≡ b) (record { atom = m; positive = b }) (record { atom = n; positive = b } ∷ []) refl
    (All-cons (λ (l : Signed). l.positive ≡ b) (record { atom = n; positive = b }) [] refl (All-nil (λ (l : Signed). l.positive ≡ b)))))
    valid

pub branches_are_lemmas : BranchesAreValid → (ds : List Declaration) (t : TheoryState) (m n term : ℕ) (floor : ℤ) → IsToldAtOneLevel ds t → IsBranchOf t.reading.table m n term floor
    → All (IsLemma t.reading) (branch_clauses m n)
branches_are_lemmas law ds t m n term floor told h =
    let v = law t.reading 0 m n term floor h.is_below h.is_above in
    All-cons (IsLemma t.reading) (at_bottom (either_sign m n true)) (at_bottom (either_sign m n false) ∷ []) (branch_lemma ds t m n true told h.low h.high v.0)
    (All-cons (IsLemma t.reading) (at_bottom (either_sign m n false)) [] (branch_lemma ds t m n false told h.low h.high v.1) (All-nil (IsLemma t.reading)))

-- ---- equalities

-- a clause with no atom twice
no_pair_once : (ls : List Signed) → HasNoAtomTwice ls → HasNoPair ls
no_pair_once [] once l (j, lj, ej) d = absurd (omega (arith, lj))
no_pair_once (m ∷ ms) once l (zero, lj, ej) (zero, lk, ek) = not_own l.positive (ap (λ (x : Signed). x.positive) (sym ej ∙ ek))
no_pair_once (m ∷ ms) once l (zero, lj, ej) (suc k, lk, ek) =
    All-contains (λ (x : Signed). m.atom ≢ x.atom) ms (opposite l) once.0 (k, omega (arith, lk), ek) (ap (λ (x : Signed). x.atom) ej)
no_pair_once (m ∷ ms) once l (suc j, lj, ej) (zero, lk, ek) =
    All-contains (λ (x : Signed). m.atom ≢ x.atom) ms l once.0 (j, omega (arith, lj), ej) (ap (λ (x : Signed). x.atom) ek)
no_pair_once (m ∷ ms) once l (suc j, lj, ej) (suc k, lk, ek) = no_pair_once ms once.1 l (j, omega (arith, lj), ej) (k, omega (arith, lk), ek)

tied_valid : EqualityClausesAreTrue → (ds : List Declaration) (t : TheoryState) (same low high i j : ℕ) → IsToldAtOneLevel ds t → AreTied ds t same low high i j
    → (ls : List Signed) → Contains (equal_clauses same low high) ls → IsValid t.reading 0 ls
tied_valid law ds t same low high i j told h ls c I interprets =
    let here : Interprets ds I = subst (λ (es : List Declaration). Interprets es I) (ap signature_of (told.one_level 0) ∙ told.declares) interprets in
    All-contains (λ (ms : List Signed). some_true (truth t.reading I) ms ≡ true) (equal_clauses same low high) ls
    (law t.reading.trees I (atom_at t.reading.table) same low high i j h.left h.right (h.left_number I here) (h.right_number I here) h.is_same h.is_low h.is_high) c

within_table : (ds : List Declaration) (t : TheoryState) (same low high i j : ℕ) → AreTied ds t same low high i j → All (λ n. n < length t.reading.table) (same ∷ low ∷ high ∷ [])
within_table ds t same low high i j h =
    All-cons (λ n. n < length t.reading.table) same (low ∷ high ∷ []) h.same_within
    (All-cons (λ n. n < length t.reading.table) low (high ∷ []) h.low_within (All-cons (λ n. n < length t.reading.table) high [] h.high_within (All-nil (λ n. n < length t.reading.table))))

tied_lemma : EqualityClausesAreTrue → EqualityIsOver → (ds : List Declaration) (t : TheoryState) (same low high i j : ℕ) → IsToldAtOneLevel ds t → AreTied ds t same low high i j
    → (ls : List Signed) → Contains (equal_clauses same low high) ls → IsLemma t.reading (at_bottom ls)
tied_lemma law over ds t same low high i j told h ls c =
    let o : IsOver (same ∷ low ∷ high ∷ []) ls = All-contains (IsOver (same ∷ low ∷ high ∷ [])) (equal_clauses same low high) ls (over same low high h.other_than_low h.other_than_high) c in
    lemma_at_bottom ds t ls told
    (All-weaker (λ (l : Signed). Contains (same ∷ low ∷ high ∷ []) l.atom) (λ (l : Signed). l.atom < length t.reading.table)
    (λ l d. All-contains (λ n. n < length t.reading.table) (same ∷ low ∷ high ∷ []) l.atom (within_table ds t same low high i j h) d) ls o.over)
    (no_pair_once ls o.once)
    (tied_valid law ds t same low high i j told h ls c)

pub ties_are_lemmas : EqualityClausesAreTrue → EqualityIsOver → (ds : List Declaration) (t : TheoryState) (same low high i j : ℕ) → IsToldAtOneLevel ds t → AreTied ds t same low high i j
    → All (IsLemma t.reading) (tie_clauses same low high)
ties_are_lemmas law over ds t same low high i j told h =
    All-map (IsLemma t.reading) at_bottom (equal_clauses same low high)
    (All-weaker (Contains (equal_clauses same low high)) (λ (ls : List Signed). IsLemma t.reading (at_bottom ls)) (λ ls c. tied_lemma law over ds t same low high i j told h ls c)
    (equal_clauses same low high) (All-contains_itself (equal_clauses same low high)))
