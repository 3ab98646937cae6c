-- How long literals last, and from when on they are true.
use Rattle.std.proofs.Common.{◌≡◌, ℕ, ◌+◌, ◌^◌, ◌<◌, ◌≤◌, min, max, List, [], ◌∷◌, ◌++◌, All, Contains, subst, sym, refl, inl, inr, ◌⊎◌, arith}
use Rattle.std.proofs.lemmas.List.Elements.{All-contains, All-nil, All-push, All-weaker}
use Rattle.literals.specs.Signed.{Signed, opposite}
use Rattle.clause_store.specs.declared.trail.Step.{Step}
use Rattle.clause_store.specs.Trail.{Assigns, IsOpen, IsTrueOn, up_to}
use Rattle.clause_store.specs.Stored.{IsFalseOn, IsQuiet}
use Rattle.cdcl_core.specs.declared.quiet.Span.{Span}
use Rattle.cdcl_core.specs.declared.quiet.Latest.{Latest}
use Rattle.cdcl_core.specs.Quiet.{FallsFrom, HasTrue, HasTwo, IsLatest, IsLongest, IsUntrueTo, Lasts}
use Rattle.cdcl_core.specs.Search.{IsNarrow}
use Rattle.cdcl_core.proofs.Depths.{on-all, quiet-two, quiet-true}
use Rattle.clause_store.specs.From.{IsFrom}

pub open-lasts : (steps : List Step) (l : Signed) (until from : ℕ) → 2 ^ 32 ≤ until + 1 → 2 ^ 32 ≤ from + 1 → IsOpen steps l → Lasts steps l (record { until = until; from = from })
open-lasts steps l until from wide big o = record {
  until = λ d lt on. o.1 (on-all steps d (opposite l) on);
  falls = λ d le small. absurd (omega arith);
  from = λ d le small. absurd (omega arith);
  untrue = λ d lt on. o.0 (on-all steps d l on);
}

pub true-lasts : (steps : List Step) (l : Signed) (until from : ℕ) → 2 ^ 32 ≤ until + 1 → IsTrueOn steps l → IsFrom steps l from → Lasts steps l (record { until = until; from = from })
true-lasts steps l until from wide t f = record {
  until = λ d lt on. t.1 (on-all steps d (opposite l) on);
  falls = λ d le small. absurd (omega arith);
  from = λ d le small. f.after d le;
  untrue = λ d lt on. f.before d lt on;
}

pub false-lasts : (steps : List Step) (l : Signed) (until from : ℕ) → 2 ^ 32 ≤ from + 1 → (Assigns steps l → ⊥) → IsFrom steps (opposite l) until → Lasts steps l (record { until = until; from = from })
false-lasts steps l until from big off f = record {
  until = λ d lt on. f.before d lt on;
  falls = λ d le small. f.after d le;
  from = λ d le small. absurd (omega arith);
  untrue = λ d lt on. off (on-all steps d l on);
}

least-cases : (a b d : ℕ) → min a b ≤ d → (a ≤ d) ⊎ (b ≤ d)
least-cases a b d h = grind arith

greatest-cases : (a b d : ℕ) → d < max a b → (d < a) ⊎ (d < b)
greatest-cases a b d h = grind arith

module _ (steps : List Step) (ls : List Signed) (s : Latest) (l : Signed) (x : Span) (c : Contains ls l) (h : Lasts steps l x) (k : IsLatest steps ls s) where
  pub from-either : (d : ℕ) → min s.from x.from ≤ d → d + 1 < 2 ^ 32 → HasTrue (up_to d steps) ls
  from-either d le small = elim (least-cases s.from x.from d le) [
    | inl old ↦ k.from d old small
    | inr here ↦ record { one = l; one_in = c; is_true = h.from d here small }
  ]

  pub latest-same : (from : ℕ) → from ≡ min s.from x.from → IsLatest steps ls (record { literal = s.literal; until = s.until; both = s.both; from = from })
  latest-same from e = record { stands = k.stands; until = k.until; both = k.both; from = λ d le small. from-either d (subst (λ n. n ≤ d) e le) small }

  two : (l ≡ s.literal → ⊥) → (d : ℕ) → d < s.until → d < x.until → HasTwo (up_to d steps) ls
  two differ d a b = record { one = l; other = s.literal; one_in = c; other_in = k.stands; differ = differ; one_lasts = h.until d b; other_lasts = k.until d a }

  pub latest-longer : (from : ℕ) → from ≡ min s.from x.from → (l ≡ s.literal → ⊥) → s.until < x.until → IsLatest steps ls (record { literal = l; until = x.until; both = s.until; from = from })
  latest-longer from e differ lt = record {
    stands = c;
    until = h.until;
    both = λ d below. two differ d below (omega arith);
    from = λ d le small. from-either d (subst (λ n. n ≤ d) e le) small;
  }

  pub latest-shorter : (from both : ℕ) → from ≡ min s.from x.from → both ≡ max s.both x.until → (l ≡ s.literal → ⊥) → x.until ≤ s.until → IsLatest steps ls (record { literal = s.literal; until = s.until; both = both; from = from })
  latest-shorter from both e m differ le = record {
    stands = k.stands;
    until = k.until;
    both = λ d below. elim (greatest-cases s.both x.until d (subst (λ n. d < n) m below)) [
      | inl old ↦ k.both d old
      | inr here ↦ two differ d (omega arith) here
    ];
    from = λ d le2 small. from-either d (subst (λ n. n ≤ d) e le2) small;
  }

pub first-latest : (steps : List Step) (ls : List Signed) (l : Signed) (x : Span) → Contains ls l → Lasts steps l x → IsLatest steps ls (record { literal = l; until = x.until; both = 0; from = x.from })
first-latest steps ls l x c h = record {
  stands = c;
  until = h.until;
  both = λ d lt. absurd (omega (arith, lt));
  from = λ d le small. record { one = l; one_in = c; is_true = h.from d le small };
}

-- ---- the literals looked at so far

less-left : (a b d : ℕ) → d < min a b → d < a
less-left a b d h = grind arith

less-right : (a b d : ℕ) → d < min a b → d < b
less-right a b d h = grind arith

module _ (steps : List Step) (seen : List Signed) (s : Latest) (l : Signed) (x : Span) (h : Lasts steps l x) (k : IsLongest steps seen s) where
  still-untrue : (from : ℕ) → from ≡ min s.from x.from → All (λ m. IsUntrueTo steps m from) (seen ++ l ∷ [])
  still-untrue from e = All-push (λ m. IsUntrueTo steps m from) seen l
      (All-weaker (λ m. IsUntrueTo steps m s.from) (λ m. IsUntrueTo steps m from) (λ m u d lt. u d (less-left s.from x.from d (subst (λ n. d < n) e lt))) seen k.untrue)
      (λ d lt. h.untrue d (less-right s.from x.from d (subst (λ n. d < n) e lt)))

  pub longest-same : (from : ℕ) → from ≡ min s.from x.from → l ≡ s.literal → IsLongest steps (seen ++ l ∷ []) (record { literal = s.literal; until = s.until; both = s.both; from = from })
  longest-same from e same = record {
    falls = k.falls;
    others = All-push (λ m. (m ≡ s.literal) ⊎ FallsFrom steps m s.both) seen l k.others (inl same);
    untrue = still-untrue from e;
    order = k.order;
  }

  pub longest-longer : (from : ℕ) → from ≡ min s.from x.from → s.until < x.until → IsLongest steps (seen ++ l ∷ []) (record { literal = l; until = x.until; both = s.until; from = from })
  longest-longer from e lt = record {
    falls = h.falls;
    others = All-push (λ m. (m ≡ l) ⊎ FallsFrom steps m s.until) seen l
        (All-weaker (λ m. (m ≡ s.literal) ⊎ FallsFrom steps m s.both) (λ m. (m ≡ l) ⊎ FallsFrom steps m s.until) (λ m o. elim o [
          | inl same ↦ inr (subst (λ y. FallsFrom steps y s.until) (sym same) k.falls)
          | inr falls ↦ inr (λ d le small. falls d (let order : s.both ≤ s.until = k.order in omega arith) small)
        ]) seen k.others)
        (inl refl);
    untrue = still-untrue from e;
    order = omega arith;
  }

  pub longest-shorter : (from both : ℕ) → from ≡ min s.from x.from → both ≡ max s.both x.until → x.until ≤ s.until → IsLongest steps (seen ++ l ∷ []) (record { literal = s.literal; until = s.until; both = both; from = from })
  longest-shorter from both e m le = record {
    falls = k.falls;
    others = All-push (λ y. (y ≡ s.literal) ⊎ FallsFrom steps y both) seen l
        (All-weaker (λ y. (y ≡ s.literal) ⊎ FallsFrom steps y s.both) (λ y. (y ≡ s.literal) ⊎ FallsFrom steps y both) (λ y o. elim o [
          | inl same ↦ inl same
          | inr falls ↦ inr (λ d at small. falls d (omega arith) small)
        ]) seen k.others)
        (inr (λ d at small. h.falls d (omega arith) small));
    untrue = still-untrue from e;
    order = (let order : s.both ≤ s.until = k.order in omega arith);
  }

pub first-longest : (steps : List Step) (l : Signed) (x : Span) → Lasts steps l x → IsLongest steps [] (record { literal = l; until = x.until; both = 0; from = x.from })
first-longest steps l x h = record {
  falls = h.falls;
  others = All-nil (λ m. (m ≡ l) ⊎ FallsFrom steps m 0);
  untrue = All-nil (λ m. IsUntrueTo steps m x.from);
  order = omega arith;
}

-- where it isn't true yet, all but one of the literals are false, and that one isn't true
pub narrow-at : (steps : List Step) (ls : List Signed) (s : Latest) → IsLatest steps ls s → IsLongest steps ls s → s.both < s.from → s.both + 1 < 2 ^ 32 → IsNarrow (up_to s.both steps) ls
narrow-at steps ls s h k lt small = record {
  literal = s.literal;
  stands = h.stands;
  untrue = All-contains (λ m. IsUntrueTo steps m s.from) ls s.literal k.untrue h.stands s.both lt;
  others = All-weaker (λ m. (m ≡ s.literal) ⊎ FallsFrom steps m s.both) (λ m. (m ≡ s.literal) ⊎ IsFalseOn (up_to s.both steps) m) (λ m o. elim o [
    | inl same ↦ inl same
    | inr falls ↦ inr (falls s.both (omega arith) small)
  ]) ls k.others;
}

-- so the clause is quiet below a depth
both-or-true : (a b d : ℕ) → a ≤ b → (d < b) ⊎ (a ≤ d)
both-or-true a b d h = grind arith

pub apart-up-to : (steps : List Step) (d : ℕ) → ((l : Signed) → Assigns steps l → Assigns steps (opposite l) → ⊥) → (l : Signed) → Assigns (up_to d steps) l → Assigns (up_to d steps) (opposite l) → ⊥
apart-up-to steps d apart l a b = apart l (on-all steps d l a) (on-all steps d (opposite l) b)

pub quiet-all : (steps : List Step) (ls : List Signed) (s : Latest) → ((l : Signed) → Assigns steps l → Assigns steps (opposite l) → ⊥) → IsLatest steps ls s → s.from ≤ s.both → (d : ℕ) → d + 1 < 2 ^ 32 → IsQuiet (up_to d steps) ls
quiet-all steps ls s apart h le d small = elim (both-or-true s.from s.both d le) [
  | inl below ↦ quiet-two (up_to d steps) ls (h.both d below)
  | inr from ↦ quiet-true (up_to d steps) ls (apart-up-to steps d apart) (h.from d from small)
]
