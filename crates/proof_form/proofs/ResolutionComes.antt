-- The clause of a resolution, by its codes.
use Rattle.std.proofs.Common.{◌≡◌, ◌≢◌, ℕ, Bool, true, false, ◌+◌, ◌*◌, ◌<◌, ◌≤◌, List, [], ◌∷◌, length, get_or, not, sym, ap, subst, ◌∙◌, inl, inr, arith, refl}
use Rattle.std.specs.Prelude.{◌⊎◌, All, Contains, IsTrue}
use Rattle.std.proofs.lemmas.Bool.{false≢true, cases_lt, cases_eq}
use Rattle.std.proofs.lemmas.List.Elements.{All-contains, All-get_or, Contains-get_or, Contains-append_left, Contains-append_right, Contains-push}
use Rattle.smt_meaning.specs.declared.clauses.Atom.{Atom}
use Rattle.smt_meaning.specs.declared.clauses.Literal.{Literal}
use Rattle.proof_meaning.specs.declared.proof.Step.TheVariants.{Res}
use Rattle.smt_meaning.specs.Term.{Tree}
use Rattle.proof_meaning.specs.Proof.{IsLiteral, literal, negated}
use Rattle.proof_meaning.specs.Rules.{IsResolution, IsEarlierResolution, clause_at}
use Rattle.proof_terms.specs.Terms.{ProofTerms}
use Rattle.proof_terms.specs.Kept.{Kept, KeepsAll, IsCodeOf, AreCodesOf, IsKept, AreApart, sign_code}
use Rattle.proof_terms.specs.Comes.{Comes, GoesOn, Stays, AreLiterals}
use Rattle.proof_terms.specs.ClausesMerged.{IsResolvent, IsResolved}
use Rattle.proof_form.specs.ResolutionCodes.{IsOpposite}
use Rattle.proof_terms.specs.declared.verdict.Verdict.TheVariants.{Good, Wrong}
use Rattle.proof_terms.proofs.ClausesCodes.{no_codes, codes_cons, kept_length, kept_at, kept_push}

-- ---- a code is of one literal

same_parts : (m n : ℕ) (a b : Bool) → m * 2 + sign_code a ≡ n * 2 + sign_code b → (m ≡ n) × (a ≡ b)
same_parts m n true true e = ((omega arith), refl)
same_parts m n false false e = ((omega arith), refl)
same_parts m n true false e = absurd (omega arith)
same_parts m n false true e = absurd (omega arith)

same_literals : (l m : Literal) → l.atom ≡ m.atom → l.positive ≡ m.positive → l ≡ m
same_literals l m e f = ap (λ (a : Atom). literal l.positive a) e ∙ ap (λ (b : Bool). literal b m.atom) f

pub one_literal : (atoms : List Atom) (c : ℕ) (l m : Literal) → IsCodeOf atoms c l → IsCodeOf atoms c m → l ≡ m
one_literal atoms c l m p q =
    let parts = same_parts p.number q.number l.positive m.positive (sym p.code_is ∙ q.code_is) in
    same_literals l m (sym (p.atom l.atom) ∙ ap (λ n. get_or atoms n l.atom) parts.0 ∙ q.atom l.atom) parts.1

-- where no atom has two numbers, a literal has one code
one_number : (atoms : List Atom) → AreApart atoms → (i j : ℕ) (a : Atom) → i < length atoms → j < length atoms → get_or atoms i a ≡ a → get_or atoms j a ≡ a → i ≡ j
one_number atoms apart i j a h k e f = by (cases_lt i j) (cases_lt j i)
  where
    by : (i < j) ⊎ (j ≤ i) → (j < i) ⊎ (i ≤ j) → i ≡ j
    by (inl less) more = absurd (apart i j a less k (e ∙ sym f))
    by (inr less) (inl more) = absurd (apart j i a more h (f ∙ sym e))
    by (inr less) (inr more) = omega arith

pub one_code_each : (atoms : List Atom) → AreApart atoms → (c d : ℕ) (l : Literal) → IsCodeOf atoms c l → IsCodeOf atoms d l → c ≡ d
one_code_each atoms apart c d l p q =
    let same = one_number atoms apart p.number q.number l.atom p.within q.within (p.atom l.atom) (q.atom l.atom) in
    p.code_is ∙ ap (λ n. n * 2 + sign_code l.positive) same ∙ sym q.code_is

pub opposite_code : (atoms : List Atom) (code negation : ℕ) (l : Literal) → IsOpposite code negation → IsCodeOf atoms code l → IsCodeOf atoms negation (negated l)
opposite_code atoms code negation l o p = record { number = p.number; within = p.within; code_is = by l.positive p.code_is o.1; atom = p.atom }
  where
    by : (b : Bool) → code ≡ p.number * 2 + sign_code b → ((code ≡ o.0 * 2) × (negation ≡ o.0 * 2 + 1)) ⊎ ((code ≡ o.0 * 2 + 1) × (negation ≡ o.0 * 2)) → negation ≡ p.number * 2 + sign_code (not b)
    by true e (inl f) = let g = f.0 in absurd (omega arith)
    by true e (inr f) = let g = f.0 in let h = f.1 in omega arith
    by false e (inl f) = let g = f.0 in let h = f.1 in omega arith
    by false e (inr f) = let g = f.0 in absurd (omega arith)

pub opposites_differ : (code negation : ℕ) → IsOpposite code negation → code ≢ negation
opposites_differ code negation (n, inl f) e = let g = f.0 in let h = f.1 in absurd (omega arith)
opposites_differ code negation (n, inr f) e = let g = f.0 in let h = f.1 in absurd (omega arith)

-- ---- the clause

-- literals of codes that each have one
pub decoded : (atoms : List Atom) (cs : List ℕ) → ((c : ℕ) → Contains cs c → (l : Literal) × IsCodeOf atoms c l) → (ls : List Literal) × AreCodesOf atoms cs ls
decoded atoms [] f = ([], no_codes atoms)
decoded atoms (c ∷ cs) f =
    let first = f c (Contains-append_left (c ∷ []) cs c (Contains-push [] c)) in
    let rest = decoded atoms cs (λ d h. f d (Contains-append_right (c ∷ []) cs d h)) in
    (first.0 ∷ rest.0, codes_cons atoms cs rest.0 c first.0 first.1 rest.1)

module _ (atoms : List Atom) (apart : AreApart atoms) (code negation : ℕ) (l : Literal) (opposite : IsOpposite code negation) (is : IsCodeOf atoms code l) where
  -- a literal's code is in its clause
  pub code_in : (cs : List ℕ) (ls : List Literal) (c : ℕ) (m : Literal) → IsKept atoms cs ls → IsCodeOf atoms c m → Contains ls m → Contains cs c
  code_in cs ls c m k h w =
      let found = k.are_codes.coded m w in
      subst (λ (x : ℕ). Contains cs x) (one_code_each atoms apart found.0 c m found.1.0 h) found.1.1

  -- a code's literal is
  pub literal_in : (cs : List ℕ) (ls : List Literal) (c : ℕ) (m : Literal) → AreCodesOf atoms cs ls → IsCodeOf atoms c m → Contains cs c → Contains ls m
  literal_in cs ls c m k h w =
      let found = k.of_literals c w in
      subst (λ (x : Literal). Contains ls x) (one_literal atoms c found.0 m found.1.0 h) found.1.1

  module _ (ps qs cs : List ℕ) (lp lq : List Literal) (kp : IsKept atoms ps lp) (kq : IsKept atoms qs lq) (in_p : Contains ps code) (in_q : Contains qs negation) (r : IsResolvent ps qs code negation cs) where
    pub readable : (c : ℕ) → Contains cs c → (m : Literal) × IsCodeOf atoms c m
    readable c h = by (r.only c h)
      where
        by : (Contains ps c × (c ≢ code)) ⊎ (Contains qs c × (c ≢ negation)) → (m : Literal) × IsCodeOf atoms c m
        by (inl w) = let found = kp.are_codes.of_literals c w.0 in (found.0, found.1.0)
        by (inr w) = let found = kq.are_codes.of_literals c w.0 in (found.0, found.1.0)

    is_negation : IsCodeOf atoms negation (negated l)
    is_negation = opposite_code atoms code negation l opposite is

    module _ (ls : List Literal) (a : AreCodesOf atoms cs ls) where
      from_one : (xs : List ℕ) (ms : List Literal) (without : ℕ) (n : Literal) → IsKept atoms xs ms → IsCodeOf atoms without n → ((c : ℕ) → Contains xs c → c ≢ without → Contains cs c) → All (λ (m : Literal). (m ≡ n) ⊎ Contains ls m) ms
      from_one xs ms without n k of from i d h = by (cases_eq found.0 without)
        where
          m : Literal
          m = get_or ms i d

          found : (c : ℕ) × (IsCodeOf atoms c (get_or ms i d) × Contains xs c)
          found = k.are_codes.coded (get_or ms i d) (Contains-get_or ms i d h)

          by : (found.0 ≡ without) ⊎ (found.0 ≡ without → ⊥) → (get_or ms i d ≡ n) ⊎ Contains ls (get_or ms i d)
          by (inl e) = inl (one_literal atoms without (get_or ms i d) n (subst (λ (c : ℕ). IsCodeOf atoms c (get_or ms i d)) e found.1.0) of)
          by (inr o) = inr (literal_in cs ls found.0 (get_or ms i d) a found.1.0 (from found.0 found.1.1 o))

      only_these : (m : Literal) → Contains ls m → (Contains lp m × (m ≢ l)) ⊎ (Contains lq m × (m ≢ negated l))
      only_these m h = by found (r.only found.0 found.1.1)
        where
          found : (c : ℕ) × (IsCodeOf atoms c m × Contains cs c)
          found = a.coded m h

          by : (f : (c : ℕ) × (IsCodeOf atoms c m × Contains cs c)) → (Contains ps f.0 × (f.0 ≢ code)) ⊎ (Contains qs f.0 × (f.0 ≢ negation)) → (Contains lp m × (m ≢ l)) ⊎ (Contains lq m × (m ≢ negated l))
          by f (inl w) = inl (literal_in ps lp f.0 m kp.are_codes f.1.0 w.0, λ e. w.1 (one_code_each atoms apart f.0 code l (subst (λ (x : Literal). IsCodeOf atoms f.0 x) e f.1.0) is))
          by f (inr w) =
              inr (literal_in qs lq f.0 m kq.are_codes f.1.0 w.0, λ e. w.1 (one_code_each atoms apart f.0 negation (negated l) (subst (λ (x : Literal). IsCodeOf atoms f.0 x) e f.1.0) is_negation))

      pub resolved : IsResolution lp lq l ls
      resolved = record {
        left = literal_in ps lp code l kp.are_codes is in_p;
        right = literal_in qs lq negation (negated l) kq.are_codes is_negation in_q;
        from_left = from_one ps lp code l kp is r.from_left;
        from_right = from_one qs lq negation (negated l) kq is_negation r.from_right;
        only = λ i d h. only_these (get_or ls i d) (Contains-get_or ls i d h);
      }

      pub all_over : (P : Literal → Type 0) → All P lp → All P lq → All P ls
      all_over P hp hq i d h = by (only_these (get_or ls i d) (Contains-get_or ls i d h))
        where
          by : (Contains lp (get_or ls i d) × (get_or ls i d ≢ l)) ⊎ (Contains lq (get_or ls i d) × (get_or ls i d ≢ negated l)) → P (get_or ls i d)
          by (inl w) = All-contains P lp (get_or ls i d) hp w.0
          by (inr w) = All-contains P lq (get_or ls i d) hq w.0

-- ---- what the step comes to

module _ (t : ProofTerms) (asserted : List Tree) (p q : ℕ) (l : Literal) (in_range : Stays t (Res p q l)) (old mid : Kept) (kept : (before : List (List Literal)) → KeepsAll old before → KeepsAll mid before) where
  same_length : (before : List (List Literal)) → KeepsAll old before → length before ≡ length mid.clauses
  same_length before k = kept_length mid.atoms mid.clauses before (kept before k)

  -- a step that isn't there
  pub resolves_none : (new : Kept) → (length mid.clauses ≤ p) ⊎ (length mid.clauses ≤ q) → Comes t asserted old new (Res p q l) Wrong
  resolves_none new missing = (in_range, λ before ls k a g. by before k g.by_rule missing)
    where
      by : (before : List (List Literal)) → KeepsAll old before → {ls : List Literal} → IsEarlierResolution before p q l ls → (length mid.clauses ≤ p) ⊎ (length mid.clauses ≤ q) → ⊥
      by before k e (inl h) = let less = e.left_earlier in let same = same_length before k in absurd (omega arith)
      by before k e (inr h) = let less = e.right_earlier in let same = same_length before k in absurd (omega arith)

  module _ (apart : AreApart mid.atoms) (code negation : ℕ) (opposite : IsOpposite code negation) (is : IsCodeOf mid.atoms code l) (left_there : p < length mid.clauses) (right_there : q < length mid.clauses) where
    pub lacks_left : (new : Kept) → (Contains (get_or mid.clauses p []) code → ⊥) → Comes t asserted old new (Res p q l) Wrong
    lacks_left new lacks = (
      in_range,
      λ before ls k a g.
          lacks (code_in mid.atoms apart code negation l opposite is (get_or mid.clauses p []) (clause_at before p) code l (kept_at mid.atoms mid.clauses before p (kept before k) left_there) is g.by_rule.gives.left),
    )

    pub lacks_right : (new : Kept) → (Contains (get_or mid.clauses q []) negation → ⊥) → Comes t asserted old new (Res p q l) Wrong
    lacks_right new lacks = (
      in_range,
      λ before ls k a g.
          lacks (code_in mid.atoms apart code negation l opposite is (get_or mid.clauses q []) (clause_at before q) negation (negated l) (kept_at mid.atoms mid.clauses before q (kept before k) right_there)
          (opposite_code mid.atoms code negation l opposite is) g.by_rule.gives.right),
    )

    pub resolves : (new : Kept) → Contains (get_or mid.clauses p []) code → Contains (get_or mid.clauses q []) negation → IsResolved mid.clauses new.clauses p q code negation → new.atoms ≡ mid.atoms → Comes t asserted old new (Res p q l) Good
    resolves new in_p in_q r same = (in_range, λ before k a. goes before (kept before k) a)
      where
        goes : (before : List (List Literal)) → KeepsAll mid before → AreLiterals t before → GoesOn t asserted before (Res p q l) new
        goes before k a =
            let ps = get_or mid.clauses p [] in
            let qs = get_or mid.clauses q [] in
            let lp = clause_at before p in
            let lq = clause_at before q in
            let kp = kept_at mid.atoms mid.clauses before p k left_there in
            let kq = kept_at mid.atoms mid.clauses before q k right_there in
            let count = kept_length mid.atoms mid.clauses before k in
            let clause = decoded mid.atoms r.codes (readable mid.atoms apart code negation l opposite is ps qs r.codes lp lq kp kq in_p in_q r.resolvent) in
            let P : Literal → Type 0 = IsLiteral t.declared t.trees in
            let Q : List Literal → Type 0 = λ ls. All P ls in
            record {
              clause = clause.0;
              gives = record {
                by_rule = record {
                  left_earlier = omega arith;
                  right_earlier = omega arith;
                  gives = resolved mid.atoms apart code negation l opposite is ps qs r.codes lp lq kp kq in_p in_q r.resolvent clause.0 clause.1;
                };
                literals = all_over mid.atoms apart code negation l opposite is ps qs r.codes lp lq kp kq in_p in_q r.resolvent clause.0 clause.1 P
                    (All-get_or Q before p [] (omega arith) a) (All-get_or Q before q [] (omega arith) a);
              };
              keeps = kept_push mid new r.codes clause.0 same r.clauses before k (record { ascending = r.resolvent.ascending; are_codes = clause.1 });
            }

-- ---- a test for a code

pub has_one : (cs ds : List ℕ) (c : ℕ) (b : Bool) → cs ≡ ds → (IsTrue b → Contains ds c) → b ≡ true → Contains cs c
has_one cs ds c b e f t = subst (λ (xs : List ℕ). Contains xs c) (sym e) (f t)

pub has_none : (cs ds : List ℕ) (c : ℕ) (b : Bool) → cs ≡ ds → (Contains ds c → IsTrue b) → b ≡ false → Contains cs c → ⊥
has_none cs ds c b e f t h = false≢true (sym t ∙ f (subst (λ (xs : List ℕ). Contains xs c) e h))
