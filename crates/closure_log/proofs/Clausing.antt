-- Clauses of a part that was read.
use Rattle.std.proofs.Common.{◌≡◌, ℕ, ◌≤◌, inl, inr, Bool, true, false, not, List, [], ◌∷◌, ◌++◌, All, Contains, Some, None, append-nil, subst, sym, refl, arith}
use Rattle.std.specs.List.{AllZip}
use Rattle.std.proofs.lemmas.List.Elements.{All-nil, All-cons, Contains-append_left, Contains-append_right, Contains-append_cases}
use Rattle.literals.specs.Signed.{Signed}
use Rattle.smt_meaning.specs.declared.clauses.Atom.{Atom}
use Rattle.smt_meaning.specs.Declaration.{Declaration}
use Rattle.smt_meaning.specs.Stack.{signature_of}
use Rattle.smt_meaning.specs.StackCommand.{Stack}
use Rattle.smt_meaning.specs.Term.{xor}
use Rattle.smt_laws.specs.Flat.{SaysTheSame, FlatSaysTheSame}
use Rattle.search_port.specs.State.{TheoryState}
use Rattle.search_port.specs.Calls.{IsConflict}
use Rattle.search_port.specs.declared.budget.Lemma.{Lemma}
use Rattle.congruence.specs.Reasons.{HaveTheSame}
use Rattle.check_atoms.specs.Atoms.{is_bool_at}
use Rattle.congruence.specs.Clauses.{IsTrueEverywhere, IsFalseClause, IsToldAtOneLevel}
use Rattle.congruence.specs.Implied.{IsPressingLemma}
use Rattle.congruence.proofs.Reasoning.{same_valid}
use Rattle.congruence.proofs.Implying.{press}
use Rattle.closure_log.specs.Seen.{state_of, IsSetting}
use Rattle.closure_log.proofs.Setting.{truth_bool}
use Rattle.closure_log.specs.Odd.{HasAgainst}
use Rattle.closure_log.specs.OddLaws.{OddClauseIsTrue}
use Rattle.closure_log.specs.Parts.{IsWideXor, IsPlacedLog}
use Rattle.closure_log.specs.Read.{AreAgainst, IsRead, PressesWhereRead, IsFalseWhereRead}

at_one_level : FlatSaysTheSame → (s : Stack) (table : List Atom) (log : List Signed) (places : List ℕ) → IsSetting s table → IsPlacedLog table log places → IsToldAtOneLevel (signature_of s.frames) (state_of s table log)
at_one_level flat_law s table log places setting placed =
    let same : SaysTheSame s.frames = flat_law s.frames in
    record {
      one_level = same.every_level;
      declares = same.signature;
      atoms = setting.declared;
      within = placed.numbered;
      consistent = placed.consistent;
    }

-- terms whose truths have numbers are Bools
are_bools : (s : Stack) (table : List Atom) (ls : List Signed) → IsSetting s table → (qs : List ℕ) (bs : List Bool) → AllZip (HasAgainst table ls) qs bs → All (λ q. is_bool_at (signature_of s.frames) s.trees q ≡ true) qs
are_bools s table ls setting [] bs h = All-nil (λ q. is_bool_at (signature_of s.frames) s.trees q ≡ true)
are_bools s table ls setting (q ∷ qs) [] h = absurd h
are_bools s table ls setting (q ∷ qs) (b ∷ bs) h =
    All-cons (λ r. is_bool_at (signature_of s.frames) s.trees r ≡ true) q qs (truth_bool s table setting h.0.literal.atom q h.0.against.at) (are_bools s table ls setting qs bs h.1)

true_clause : OddClauseIsTrue → (s : Stack) (table : List Atom) (ls : List Signed) (p : ℕ) (is : List ℕ) → IsSetting s table → IsWideXor s.trees p is → AreAgainst table ls (p ∷ is) true
    → IsTrueEverywhere (signature_of s.frames) s.trees table ls
true_clause law s table ls p [] setting is_xor h = absurd (few is_xor.wide)
  where
    few : 4 ≤ 0 → ⊥
    few k = omega arith
true_clause law s table ls p (i ∷ is) setting is_xor h =
    law (signature_of s.frames) s.trees table p i is h.truths ls (record { tree = is_xor.tree; bools = are_bools s table ls setting (p ∷ i ∷ is) h.truths h.against }) h.against h.count

-- ---- all terms told

abbrev IsConflictWhereFalse : List Signed → Lemma → Type 0
IsConflictWhereFalse ls c = (ds : List Declaration) (t : TheoryState) → IsToldAtOneLevel ds t → IsFalseClause ds t.reading.trees t.reading.table t.log ls → IsConflict t c

pub false_where_read : OddClauseIsTrue → FlatSaysTheSame → (ls : List Signed) (c : Lemma) → IsConflictWhereFalse ls c → IsFalseWhereRead ls c
false_where_read law flat_law ls c is s table log places p is_xors setting placed is_xor read =
    is (signature_of s.frames) (state_of s table log) (at_one_level flat_law s table log places setting placed) (record {
      is_false = read.is_false;
      valid = subst (λ (ms : List Signed). IsTrueEverywhere (signature_of s.frames) s.trees table ms) (append-nil ls) (true_clause law s table (ls ++ []) p is_xors setting is_xor (read.against true));
    })

pub presses_where_false : (ls : List Signed) (c : Lemma) → IsFalseWhereRead ls c → PressesWhereRead ls None true c
presses_where_false ls c is s table log places p is_xors setting placed is_xor read =
    let conflict : IsConflict (state_of s table log) c = is s table log places p is_xors setting placed is_xor read in
    record { lemma = conflict.clause; pressing = inl conflict.is_false }

-- ---- one open

first_or_last : (ls ms : List Signed) (l : Signed) → HaveTheSame (ls ++ l ∷ []) ms → HaveTheSame (l ∷ ls) ms
first_or_last ls ms l same = record {
  all = λ m c. same.all m (to_last m c);
  only = λ m c. to_first m (same.only m c);
}
  where
    to_last : (m : Signed) → Contains (l ∷ ls) m → Contains (ls ++ l ∷ []) m
    to_last m c = elim (Contains-append_cases (l ∷ []) ls m c) [
      | inl here ↦ Contains-append_right ls (l ∷ []) m here
      | inr there ↦ Contains-append_left ls (l ∷ []) m there
    ]

    to_first : (m : Signed) → Contains (ls ++ l ∷ []) m → Contains (l ∷ ls) m
    to_first m c = elim (Contains-append_cases ls (l ∷ []) m c) [
      | inl here ↦ Contains-append_right (l ∷ []) ls m here
      | inr there ↦ Contains-append_left (l ∷ []) ls m there
    ]

twice_not : (b : Bool) → not (not b) ≡ b
twice_not true = refl
twice_not false = refl

made_odd : (b : Bool) → xor b (not b) ≡ true
made_odd true = refl
made_odd false = refl

module _ (law : OddClauseIsTrue) (flat_law : FlatSaysTheSame) where
  open_valid : (s : Stack) (table : List Atom) (log ls : List Signed) (l : Signed) (odd : Bool) (p : ℕ) (is : List ℕ) → IsSetting s table → IsWideXor s.trees p is → IsRead table log (p ∷ is) ls (Some l) odd
      → IsTrueEverywhere (signature_of s.frames) s.trees table (ls ++ record { atom = l.atom; positive = odd } ∷ [])
  open_valid s table log ls l odd p is setting is_xor read =
      let against : AreAgainst table (ls ++ record { atom = l.atom; positive = not (not odd) } ∷ []) (p ∷ is) (xor odd (not odd)) = read.against (not odd) in
      subst (λ (b : Bool). IsTrueEverywhere (signature_of s.frames) s.trees table (ls ++ record { atom = l.atom; positive = b } ∷ [])) (twice_not odd)
      (true_clause law s table (ls ++ record { atom = l.atom; positive = not (not odd) } ∷ []) p is setting is_xor
      (subst (λ (b : Bool). AreAgainst table (ls ++ record { atom = l.atom; positive = not (not odd) } ∷ []) (p ∷ is) b) (made_odd odd) against))

  pub presses_open : (ls ms : List Signed) (l m : Signed) (odd : Bool) (c : Lemma) → (l.positive ≡ true → m ≡ record { atom = l.atom; positive = odd }) → ms ≡ ls ++ m ∷ [] → HaveTheSame ms c.literals → c.level ≡ 0
      → PressesWhereRead ls (Some l) odd c
  presses_open ls ms l m odd c is_it made same level s table log places p is setting placed is_xor read =
      let it : Signed = record { atom = l.atom; positive = odd } in
      let with_it : HaveTheSame (ls ++ it ∷ []) c.literals = subst (λ (x : Signed). HaveTheSame (ls ++ x ∷ []) c.literals) (is_it read.has_open.is.positive) (subst (λ (ns : List Signed). HaveTheSame ns c.literals) made same) in
      subst (λ (n : ℕ). IsPressingLemma (state_of s table log) (record { literals = c.literals; level = n })) (sym level)
      (press (signature_of s.frames) (state_of s table log) it ls c.literals (at_one_level flat_law s table log places setting placed) read.has_open.is.at.0 (read.has_open.is.is_open it refl) read.is_false
      (first_or_last ls c.literals it with_it)
      (same_valid (signature_of s.frames) s.trees table (ls ++ it ∷ []) c.literals with_it (open_valid s table log ls l odd p is setting is_xor read)))
