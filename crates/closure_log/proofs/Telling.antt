-- The literals that were told, and the steps recorded of them.
use Rattle.std.proofs.Common.{◌≡◌, ℕ, ◌+◌, ◌<◌, ◌≤◌, Bool, true, false, not, List, [], ◌∷◌, ◌++◌, length, take, drop, min, All, Contains, refl, sym, ap, ◌∙◌, subst, inl, inr, arith}
use Rattle.std.specs.Prelude.{slice_index_or, replicate}
use Rattle.std.proofs.lemmas.Bool.{cases_lt}
use Rattle.std.proofs.lemmas.List.{length-append, length-take, length_push, get_or_append_left, get_or_push, get_or-take, take-take, take-append-le, take_at, take-append-drop}
use Rattle.std.proofs.lemmas.List.Elements.{All-nil, All-weaker, All-push, All-take, Contains-append_left, Contains-push_cases}
use Rattle.literals.specs.Signed.{Signed, opposite}
use Rattle.smt_meaning.specs.declared.clauses.Atom.{Atom}
use Rattle.smt_meaning.specs.Declaration.{Declaration}
use Rattle.smt_meaning.specs.Stack.{signature_of}
use Rattle.smt_meaning.specs.StackCommand.{Stack}
use Rattle.search_port.specs.State.{IsOpenIn, IsConsistent}
use Rattle.point_closure.specs.declared.step.Step.{Step}
use Rattle.point_closure.specs.declared.step.Step.TheVariants.{Differ}
use Rattle.point_closure.specs.Closure.{Point, AreRead}
use Rattle.point_closure.specs.Explained.{step_at}
use Rattle.congruence.specs.declared.congruence.Congruence.{Congruence}
use Rattle.congruence.specs.Reading.{AreSeen}
use Rattle.congruence.specs.Reasons.{reason_at}
use Rattle.congruence.specs.Recorded.{IsRecorded}
use Rattle.congruence.specs.Justified.{IsJustified, AreJustified}
use Rattle.congruence.specs.Reasoned.{IsReasoned, IsPartly}
use Rattle.closure_log.specs.Told.{IsMark, IsTold, IsReady}

-- ---- lists

contains_taken : (n : ℕ) (ls : List Signed) (l : Signed) → Contains (take n ls) l → Contains ls l
contains_taken n ls l c = subst (λ (ms : List Signed). Contains ms l) (take-append-drop n ls) (Contains-append_left (take n ls) (drop n ls) l c)

twice_not : (b : Bool) → not (not b) ≡ b
twice_not true = refl
twice_not false = refl

twice : (l : Signed) → opposite (opposite l) ≡ l
twice l = ap (λ (b : Bool). let m : Signed = record { atom = l.atom; positive = b } in m) (twice_not l.positive)

not_own : (b : Bool) → b ≡ not b → ⊥
not_own true e = cc
not_own false e = cc

-- ---- one literal more

still_consistent : (log : List Signed) (new : Signed) → IsConsistent log → IsOpenIn log new → IsConsistent (log ++ new ∷ [])
still_consistent log new h is_open l c d =
    elim (Contains-push_cases log new l c) [
      | inl old ↦ elim (Contains-push_cases log new (opposite l) d) [
        | inl other ↦ h l old other
        | inr e ↦ is_open.1 (subst (Contains log) (sym (twice l) ∙ ap opposite (sym e)) old)
      ]
      | inr e ↦ elim (Contains-push_cases log new (opposite l) d) [
        | inl other ↦ is_open.1 (subst (λ (m : Signed). Contains log (opposite m)) (sym e) other)
        | inr f ↦ not_own l.positive (ap (λ (m : Signed). m.positive) (sym e ∙ f))
      ]
    ]

module _ (s : Stack) (table : List Atom) where
  ds : List Declaration
  ds = signature_of s.frames

  reasoned_more : (log : List Signed) (new : Signed) (c : Congruence) → IsReasoned (signature_of s.frames) s.trees table log c → IsReasoned (signature_of s.frames) s.trees table (log ++ new ∷ []) c
  reasoned_more log new c h = record {
    recorded = h.recorded;
    read = h.read;
    every = h.every;
    justified = h.justified;
    told = All-weaker (Contains log) (Contains (log ++ new ∷ [])) (λ l m. Contains-append_left log (new ∷ []) l m) c.reasons.items h.told;
  }

  -- a literal that is open, before any step of it
  pub told_push : (c : Congruence) (log : List Signed) (starts : List ℕ) (new : Signed) (start : ℕ) → IsTold s table c log starts → new.atom < length table → IsOpenIn log new → start ≡ length c.reasons.items
      → IsTold s table c (log ++ new ∷ []) (starts ++ start ∷ [])
  told_push c log starts new start h number is_open here = record {
    reasoned = reasoned_more log new c h.reasoned;
    seen = h.seen;
    numbered = All-push (λ (l : Signed). l.atom < length table) log new h.numbered number;
    consistent = still_consistent log new h.consistent is_open;
    as_many = length_push starts start ∙ ap (λ n. n + 1) h.as_many ∙ sym (length_push log new);
    ascending = λ j k le less. elim (cases_lt k (length starts)) [
      | inl before ↦
          let a : slice_index_or (starts ++ start ∷ []) k 0 ≡ slice_index_or starts k 0 = get_or_append_left starts (start ∷ []) 0 k before in
          let b : slice_index_or (starts ++ start ∷ []) j 0 ≡ slice_index_or starts j 0 = get_or_append_left starts (start ∷ []) 0 j (omega arith) in
          let m : slice_index_or starts j 0 ≤ slice_index_or starts k 0 = h.ascending j k le before in
          omega arith
      | inr past ↦
          let last : length starts ≡ k = omega (arith, length_push starts start) in
          let a : slice_index_or (starts ++ start ∷ []) k 0 ≡ start = get_or_push starts start 0 k last in
          elim (cases_lt j (length starts)) [
            | inl below ↦
                let b : slice_index_or (starts ++ start ∷ []) j 0 ≡ slice_index_or starts j 0 = get_or_append_left starts (start ∷ []) 0 j below in
                let m : IsMark log c.reasons.items j (slice_index_or starts j 0) = h.marks j below in
                let w : slice_index_or starts j 0 ≤ length c.reasons.items = m.within in
                omega arith
            | inr same ↦
                let b : slice_index_or (starts ++ start ∷ []) j 0 ≡ start = get_or_push starts start 0 j (omega arith) in
                omega arith
          ]
    ];
    marks = λ k less. elim (cases_lt k (length starts)) [
      | inl before ↦
          let m : IsMark log c.reasons.items k (slice_index_or starts k 0) = h.marks k before in
          let short : k ≤ length log = omega (arith, h.as_many) in
          subst (IsMark (log ++ new ∷ []) c.reasons.items k) (sym (get_or_append_left starts (start ∷ []) 0 k before))
          (record {
            within = m.within;
            told = subst (λ (ms : List Signed). All (Contains ms) (take (slice_index_or starts k 0) c.reasons.items)) (sym (take-append-le k log (new ∷ []) short)) m.told;
          })
      | inr past ↦
          let last : length starts ≡ k = omega (arith, length_push starts start) in
          subst (IsMark (log ++ new ∷ []) c.reasons.items k) (sym (get_or_push starts start 0 k last))
          (record {
            within = omega arith;
            told =
                subst (λ (ms : List Signed). All (Contains ms) (take start c.reasons.items)) (sym (take_at log (new ∷ []) k (sym h.as_many ∙ last)))
                (All-take (Contains log) start c.reasons.items h.reasoned.told);
          })
    ];
  }

  -- steps of a literal that was told
  pub told_recorded : (old new : Congruence) (log : List Signed) (starts : List ℕ) (more : List Step) (r : Signed) → IsTold s table old log starts → IsPartly old new more r → new.closure.graph ≡ old.closure.graph
      → IsReasoned (signature_of s.frames) s.trees table log new → IsTold s table new log starts
  told_recorded old new log starts more r h partly graph reasoned = record {
    reasoned = reasoned;
    seen = subst (AreSeen s.trees) (sym graph) h.seen;
    numbered = h.numbered;
    consistent = h.consistent;
    as_many = h.as_many;
    ascending = h.ascending;
    marks = λ k less.
        let m : IsMark log old.reasons.items k (slice_index_or starts k 0) = h.marks k less in
        subst (λ (rs : List Signed). IsMark log rs k (slice_index_or starts k 0)) (sym partly.reasons)
        (record {
          within = omega (arith, length-append old.reasons.items (replicate partly.count r), m.within);
          told = subst (All (Contains (take k log))) (sym (take-append-le (slice_index_or starts k 0) old.reasons.items (replicate partly.count r) m.within)) m.told;
        });
  }

  justified_taken : (steps : List Step) (rs : List Signed) (n : ℕ) → AreJustified (signature_of s.frames) s.trees table steps rs → AreJustified (signature_of s.frames) s.trees table (take n steps) (take n rs)
  justified_taken steps rs n h = record {
    as_many = length-take n rs ∙ ap (min n) h.as_many ∙ sym (length-take n steps);
    each = λ k less.
        let size : length (take n steps) ≡ min n (length steps) = length-take n steps in
        let below : k < n = omega arith in
        let inside : k < length steps = omega arith in
        subst (λ (r : Signed). IsJustified (signature_of s.frames) s.trees table r (step_at (take n steps) k)) (sym (get_or-take n rs k (record { atom = 0; positive = true }) below))
        (subst (IsJustified (signature_of s.frames) s.trees table (reason_at rs k)) (sym (get_or-take n steps k (Differ 0 0) below)) (h.each k inside));
  }

  -- without the newest literals and their steps
  pub told_undone : (old new : Congruence) (log : List Signed) (starts : List ℕ) (count start : ℕ) → IsTold s table old log starts → count < length starts → slice_index_or starts count 0 ≡ start
      → IsRecorded new → new.closure.graph ≡ old.closure.graph → new.closure.steps.items ≡ take start old.closure.steps.items → new.reasons.items ≡ take start old.reasons.items
      → IsTold s table new (take count log) (take count starts)
  told_undone old new log starts count start h less at recorded graph steps reasons = record {
    reasoned = record {
      recorded = recorded;
      read = subst (AreRead s.trees) (sym graph) h.reasoned.read;
      every = subst (λ (ps : List Point). length s.trees + 2 ≤ length ps) (sym graph) h.reasoned.every;
      justified =
          subst (λ (rs : List Signed). AreJustified (signature_of s.frames) s.trees table new.closure.steps.items rs) (sym reasons)
          (subst (λ (ss : List Step). AreJustified (signature_of s.frames) s.trees table ss (take start old.reasons.items)) (sym steps) (justified_taken old.closure.steps.items old.reasons.items start h.reasoned.justified));
      told = subst (All (Contains (take count log))) (sym reasons) mark.told;
    };
    seen = subst (AreSeen s.trees) (sym graph) h.seen;
    numbered = All-take (λ (l : Signed). l.atom < length table) count log h.numbered;
    consistent = λ l c d. h.consistent l (contains_taken count log l c) (contains_taken count log (opposite l) d);
    as_many = length-take count starts ∙ ap (min count) h.as_many ∙ sym (length-take count log);
    ascending = λ j k le lt.
        let below : k < count = in_taken k lt in
        let a : slice_index_or (take count starts) k 0 ≡ slice_index_or starts k 0 = get_or-take count starts k 0 below in
        let b : slice_index_or (take count starts) j 0 ≡ slice_index_or starts j 0 = get_or-take count starts j 0 (omega arith) in
        let m : slice_index_or starts j 0 ≤ slice_index_or starts k 0 = h.ascending j k le (omega arith) in
        omega arith;
    marks = λ k lt.
        let below : k < count = in_taken k lt in
        let m : IsMark log old.reasons.items k (slice_index_or starts k 0) = h.marks k (omega arith) in
        let le : slice_index_or starts k 0 ≤ slice_index_or starts count 0 = h.ascending k count (omega arith) less in
        let le_start : slice_index_or starts k 0 ≤ start = omega arith in
        subst (IsMark (take count log) new.reasons.items k) (sym (get_or-take count starts k 0 below))
        (subst (λ (rs : List Signed). IsMark (take count log) rs k (slice_index_or starts k 0)) (sym reasons)
        (record {
          within = omega (arith, length-take start old.reasons.items, m.within);
          told =
              subst (λ (ms : List Signed). All (Contains ms) (take (slice_index_or starts k 0) (take start old.reasons.items))) (sym (take-take k count log (omega arith)))
              (subst (All (Contains (take k log))) (sym (take-take (slice_index_or starts k 0) start old.reasons.items le_start)) m.told);
        }));
  }
    where
      mark : IsMark log old.reasons.items count start
      mark = subst (IsMark log old.reasons.items count) at (h.marks count less)

      in_taken : (k : ℕ) → k < length (take count starts) → k < count
      in_taken k lt = omega (arith, length-take count starts, lt)

  -- the same steps and reasons
  pub told_same : (old new : Congruence) (log : List Signed) (starts : List ℕ) → IsTold s table old log starts → IsRecorded new → new.closure.graph ≡ old.closure.graph → new.closure.steps.items ≡ old.closure.steps.items
      → new.reasons.items ≡ old.reasons.items → IsTold s table new log starts
  told_same old new log starts h recorded graph steps reasons = record {
    reasoned = record {
      recorded = recorded;
      read = subst (AreRead s.trees) (sym graph) h.reasoned.read;
      every = subst (λ (ps : List Point). length s.trees + 2 ≤ length ps) (sym graph) h.reasoned.every;
      justified =
          subst (λ (rs : List Signed). AreJustified (signature_of s.frames) s.trees table new.closure.steps.items rs) (sym reasons)
          (subst (λ (ss : List Step). AreJustified (signature_of s.frames) s.trees table ss old.reasons.items) (sym steps) h.reasoned.justified);
      told = subst (All (Contains log)) (sym reasons) h.reasoned.told;
    };
    seen = subst (AreSeen s.trees) (sym graph) h.seen;
    numbered = h.numbered;
    consistent = h.consistent;
    as_many = h.as_many;
    ascending = h.ascending;
    marks = λ k less. subst (λ (rs : List Signed). IsMark log rs k (slice_index_or starts k 0)) (sym reasons) (h.marks k less);
  }

  -- nothing is told
  pub told_nothing : (c : Congruence) → IsReady s.trees c → IsTold s table c [] []
  told_nothing c r =
      let none : c.reasons.items ≡ [] = no_reasons c.reasons.items (r.recorded.reasons ∙ ap length r.first) in
      record {
        reasoned = record {
          recorded = r.recorded;
          read = r.read;
          every = r.every;
          justified = record { as_many = r.recorded.reasons; each = λ k less. absurd (empty k (subst (λ (ss : List Step). k < length ss) r.first less)) };
          told = subst (All (Contains [])) (sym none) (All-nil (Contains []));
        };
        seen = r.seen;
        numbered = All-nil (λ (l : Signed). l.atom < length table);
        consistent = λ l k d. absurd (empty k.0 k.1);
        as_many = refl;
        ascending = λ j k le less. absurd (empty k less);
        marks = λ k less. absurd (empty k less);
      }
    where
      no_reasons : (rs : List Signed) → length rs ≡ 0 → rs ≡ []
      no_reasons [] e = refl
      no_reasons (x ∷ xs) e = absurd (omega arith)

      empty : (k : ℕ) → k < 0 → ⊥
      empty k less = omega arith
