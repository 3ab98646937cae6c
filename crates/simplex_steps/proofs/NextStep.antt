-- What a next step says of its grid.
use Rattle.std.proofs.Common.{◌≡◌, ℕ, ℤ, zero, suc, ◌+◌, ◌<◌, pos, sym, ap, ap₂, ◌∙◌, subst, refl, arith, List, [], ◌∷◌, length, get_or, Bool, true, false, not, Option, Some, None}
use Rattle.fraction128.specs.Number.{whole, is_less}
use Rattle.fraction128.specs.declared.Column.{Column}
use Rattle.fraction128.specs.declared.Grid.{Grid}
use Rattle.fraction128.specs.Grid.{Step, take, move, pivot, value_at, cell, is_basic, missed, helps, any_crossed, first_place, only_if, with_place, least_outside, least_broken, entering, blands_pivot, next_step, search_step}

abbrev pub no_col : Column
no_col = record { sum = []; lower = None; upper = None; value = whole (pos 0) }

abbrev pub col : List Column → ℕ → Column
col cs j = get_or cs j no_col

-- ---- places

pub first_some : {A : Type 0} (f : ℕ → Column → Option A) (i : ℕ) (cs : List Column) (x : A) → first_place f i cs ≡ Some x
    → (j : ℕ) × (n : ℕ) × (n ≡ i + j) × (j < length cs) × (f n (col cs j) ≡ Some x) × ((m k : ℕ) → k ≡ i + m → m < j → f k (col cs m) ≡ None)
first_some f i [] x h = absurd (cc)
first_some {A = A} f i (c ∷ cs) x h = by_head (f i c) refl (λ e. first_some f (i + 1) cs x (rw e at h))
  where
    by_head : (o : Option A) → f i c ≡ o
        → (f i c ≡ None → (j : ℕ) × (n : ℕ) × (n ≡ i + 1 + j) × (j < length cs) × (f n (col cs j) ≡ Some x) × ((m k : ℕ) → k ≡ i + 1 + m → m < j → f k (col cs m) ≡ None))
        → (j : ℕ) × (n : ℕ) × (n ≡ i + j) × (j < length (c ∷ cs)) × (f n (col (c ∷ cs) j) ≡ Some x) × ((m k : ℕ) → k ≡ i + m → m < j → f k (col (c ∷ cs) m) ≡ None)
    by_head (Some y) e ih =
        let h' : Some y ≡ Some x = rw e at h in
        (zero, i, omega arith, omega arith, e ∙ h', λ m k q l. absurd (omega (arith, l)))
    by_head None e ih =
        let r = ih e in
        (suc r.0, r.1, let q = r.2 in omega (arith, q), let q = r.3 in omega (arith, q), r.4, λ m k q l. earlier e m k q l r.5)
      where
        earlier : {j : ℕ} → f i c ≡ None → (m k : ℕ) → k ≡ i + m → m < suc j → ((a b : ℕ) → b ≡ i + 1 + a → a < j → f b (col cs a) ≡ None) → f k (col (c ∷ cs) m) ≡ None
        earlier e zero k q l r = let same : k ≡ i = omega (arith, q) in ap (λ z. f z c) same ∙ e
        earlier e (suc m) k q l r = r m k (omega (arith, q)) (omega (arith, l))

pub first_none : {A : Type 0} (f : ℕ → Column → Option A) (i : ℕ) (cs : List Column) → first_place f i cs ≡ None → (m k : ℕ) → k ≡ i + m → m < length cs → f k (col cs m) ≡ None
first_none f i [] h m k e lt = absurd (omega (arith, lt))
first_none {A = A} f i (c ∷ cs) h m k e lt = by_head (f i c) refl m k e lt (λ w a b p q. first_none f (i + 1) cs (rw w at h) a b p q)
  where
    by_head : (o : Option A) → f i c ≡ o → (m k : ℕ) → k ≡ i + m → m < length (c ∷ cs) → (f i c ≡ None → (a b : ℕ) → b ≡ i + 1 + a → a < length cs → f b (col cs a) ≡ None) → f k (col (c ∷ cs) m) ≡ None
    by_head (Some y) w m k e lt ih = let h' : Some y ≡ None = rw w at h in absurd (cc)
    by_head None w zero k e lt ih = let same : k ≡ i = omega (arith, e) in ap (λ z. f z c) same ∙ w
    by_head None w (suc m) k e lt ih = ih w m k (omega (arith, e)) (omega (arith, lt))

-- ---- options

only_some : {A : Type 0} (z : Bool) (o : Option A) (x : A) → only_if z o ≡ Some x → (z ≡ true) × (o ≡ Some x)
only_some true o x h = (refl, h)
only_some false o x h = absurd (cc)

only_none : {A : Type 0} (z : Bool) (o : Option A) → only_if z o ≡ None → z ≡ true → o ≡ None
only_none true o h e = h
only_none false o h e = absurd (cc)

place_some : {A B : Type 0} (f : A → B) (o : Option A) (y : B) → with_place f o ≡ Some y → (x : A) × (o ≡ Some x) × (Some (f x) ≡ Some y)
place_some f (Some x) y h = (x, refl, h)
place_some f None y h = absurd (cc)

place_none : {A B : Type 0} (f : A → B) (o : Option A) → with_place f o ≡ None → o ≡ None
place_none f (Some x) h = absurd (cc)
place_none f None h = refl

-- ---- the step

pub record MoveFacts (g : Grid) (i : ℕ) (k : ℤ) : Type 0 where
  pub known : i < length g.columns
  pub free : is_basic g.rows i ≡ false
  pub outside : missed (col g.columns i) ≡ Some k

pub record PivotFacts (g : Grid) (b : ℕ) (k : ℤ) (c : ℕ) : Type 0 where
  pub settled : (j : ℕ) → j < length g.columns → is_basic g.rows j ≡ false → missed (col g.columns j) ≡ None
  pub leaves : b < length g.columns
  pub basic : is_basic g.rows b ≡ true
  pub outside : missed (col g.columns b) ≡ Some k
  pub least : (j : ℕ) → j < b → is_basic g.rows j ≡ true → missed (col g.columns j) ≡ None
  pub enters : c < length g.columns
  pub willing : helps (is_less (value_at g b) (whole k)) (cell g.rows b c) (col g.columns c) ≡ true
  pub idle : (j : ℕ) → j < c → helps (is_less (value_at g b) (whole k)) (cell g.rows b j) (col g.columns j) ≡ false

abbrev pub StepFacts : Grid → Step → Type 0
StepFacts g (take p) = ⊥
StepFacts g (move i k) = MoveFacts g i k
StepFacts g (pivot b k c) = PivotFacts g b k c

not_true : (z : Bool) → not z ≡ true → z ≡ false
not_true true h = absurd (cc)
not_true false h = refl

not_false : (z : Bool) → z ≡ false → not z ≡ true
not_false true h = absurd (cc)
not_false false h = refl

from_outside : (g : Grid) (s : Step) → least_outside g ≡ Some s → StepFacts g s
from_outside g s h =
    let r = first_some (λ i c. only_if (not (is_basic g.rows i)) (with_place (move i) (missed c))) 0 g.columns s h in
    let same : r.1 ≡ r.0 = let e = r.2 in omega (arith, e) in
    let o = only_some (not (is_basic g.rows r.1)) (with_place (move r.1) (missed (col g.columns r.0))) s r.4 in
    let p = place_some (move r.1) (missed (col g.columns r.0)) s o.1 in
    let is : move r.1 p.0 ≡ s = cc in
    subst (StepFacts g) is
    (record {
      known = let l = r.3 in omega (arith, same, l);
      free = not_true (is_basic g.rows r.1) o.0;
      outside = ap (λ q. missed (col g.columns q)) same ∙ p.1;
    })

settled_from : (g : Grid) → least_outside g ≡ None → (j : ℕ) → j < length g.columns → is_basic g.rows j ≡ false → missed (col g.columns j) ≡ None
settled_from g h j lt free =
    place_none (move j) (missed (col g.columns j))
    (only_none (not (is_basic g.rows j)) (with_place (move j) (missed (col g.columns j)))
    (first_none (λ i c. only_if (not (is_basic g.rows i)) (with_place (move i) (missed c))) 0 g.columns h j j (omega arith) lt) (not_false (is_basic g.rows j) free))

from_broken : (g : Grid) (s : Step) → least_outside g ≡ None → (o : Option (ℕ × ℤ)) → least_broken g ≡ o → blands_pivot g o ≡ Some s → StepFacts g s
from_broken g s none None e h = absurd (cc)
from_broken g s none (Some q) e h =
    let r = first_some (λ i c. only_if (is_basic g.rows i) (with_place (λ k. (i, k)) (missed c))) 0 g.columns q e in
    let same : r.1 ≡ r.0 = let w = r.2 in omega (arith, w) in
    let o = only_some (is_basic g.rows r.1) (with_place (λ k. (r.1, k)) (missed (col g.columns r.0))) q r.4 in
    let p = place_some (λ (k : ℤ). let w : ℕ × ℤ = (r.1, k) in w) (missed (col g.columns r.0)) q o.1 in
    let pair : (r.1, p.0) ≡ q = cc in
    let b_is : r.1 ≡ q.0 = ap (λ (w : ℕ × ℤ). w.0) pair in
    let k_is : p.0 ≡ q.1 = ap (λ (w : ℕ × ℤ). w.1) pair in
    let place : r.0 ≡ q.0 = sym same ∙ b_is in
    let t = place_some (pivot q.0 q.1) (entering g q.0 (is_less (value_at g q.0) (whole q.1))) s h in
    let u = first_some (λ j c. only_if (helps (is_less (value_at g q.0) (whole q.1)) (cell g.rows q.0 j) c) (Some j)) 0 g.columns t.0 t.1 in
    let at : u.1 ≡ u.0 = let w = u.2 in omega (arith, w) in
    let v = only_some (helps (is_less (value_at g q.0) (whole q.1)) (cell g.rows q.0 u.1) (col g.columns u.0)) (Some u.1) t.0 u.4 in
    let c_is : u.1 ≡ t.0 = cc in
    let c_place : u.0 ≡ t.0 = sym at ∙ c_is in
    let is : pivot q.0 q.1 t.0 ≡ s = cc in
    subst (StepFacts g) is
    (record {
      settled = settled_from g none;
      leaves = let l = r.3 in omega (arith, l, place);
      basic = subst (λ i. is_basic g.rows i ≡ true) b_is o.0;
      outside = ap (λ i. missed (col g.columns i)) (sym place) ∙ p.1 ∙ ap Some k_is;
      least = λ j l w. place_none (λ (k : ℤ). let y : ℕ × ℤ = (j, k) in y) (missed (col g.columns j))
          (only_none (is_basic g.rows j) (with_place (λ k. (j, k)) (missed (col g.columns j))) (r.5 j j (omega arith) (omega (arith, l, place))) w);
      enters = let l = u.3 in omega (arith, l, c_place);
      willing = ap₂ (λ x y. helps (is_less (value_at g q.0) (whole q.1)) (cell g.rows q.0 x) (col g.columns y)) (sym c_is) (sym c_place) ∙ v.0;
      idle = λ j l. no_help j (helps (is_less (value_at g q.0) (whole q.1)) (cell g.rows q.0 j) (col g.columns j)) (u.5 j j (omega arith) (omega (arith, l, c_place)));
    })
  where
    no_help : (j : ℕ) (z : Bool) → only_if z (Some j) ≡ None → z ≡ false
    no_help j true w = absurd (cc)
    no_help j false w = refl

pub step_facts : (g : Grid) (s : Step) → g.pending ≡ None → any_crossed g.columns ≡ false → next_step g ≡ Some s → StepFacts g s
step_facts g s pending crossed h = by_outside (least_outside g) refl
  where
    by_outside : (o : Option Step) → least_outside g ≡ o → StepFacts g s
    by_outside (Some y) e =
        let h1 : search_step g ≡ Some s = rw pending at h in
        let h2 = rw crossed at h1 in
        let h3 : Some y ≡ Some s = rw e at h2 in
        from_outside g s (e ∙ h3)
    by_outside None e =
        let h1 : search_step g ≡ Some s = rw pending at h in
        let h2 = rw crossed at h1 in
        let h3 : blands_pivot g (least_broken g) ≡ Some s = rw e at h2 in
        from_broken g s e (least_broken g) refl h3
