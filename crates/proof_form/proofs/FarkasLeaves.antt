-- Leaf by leaf along entries in ascending order of their leaves.
use Rattle.std.proofs.Common.{◌≡◌, ◌≢◌, ℕ, suc, ◌<◌, ◌≤◌, Bool, true, false, ◌||◌, List, [], ◌∷◌, length, get_or, nat_eq, sym, ap, subst, ◌∙◌, refl, arith, eq-eqb}
use Rattle.std.specs.Prelude.{pos, if◌then◌else◌}
use Rattle.std.specs.List.Sorted.{IsNonDecreasingBy}
use Rattle.std.proofs.lemmas.Bool.{eqb-true, eqb-false, ne_eqb}
use Rattle.fraction128.specs.declared.ratio.Ratio.{Ratio}
use Rattle.fraction128.specs.Listed.{sum_of}
use Rattle.fraction128.specs.Number.{whole, is_zero}
use Rattle.smt_laws.proofs.Both.{and_left, and_right, and_both}
use Rattle.proof_form.specs.declared.farkas_entries.Entry.{Entry}
use Rattle.proof_form.specs.FarkasSums.{sum_inside, so_far, leaves_inside, leaves_vanish}
use Rattle.proof_form.proofs.FarkasRange.{sums_inside, added, at_leaf}

abbrev pub Ascend : ℕ → List Entry → Type 0
Ascend low [] = Unit {0}
Ascend low (e ∷ es) = (low ≤ e.leaf) × Ascend e.leaf es

pub ascending : (low : ℕ) (es : List Entry) → ((k : ℕ) (d : Entry) → k < length es → low ≤ (get_or es k d).leaf) → IsNonDecreasingBy (λ (e : Entry). e.leaf) es → Ascend low es
ascending low [] above h = tt
ascending low (e ∷ es) above h = (
  above 0 e (omega arith),
  ascending e.leaf es (λ k d l. h 0 (suc k) d (omega arith) (omega arith)) (λ i j d l m. h (suc i) (suc j) d (omega arith) (omega arith)),
)

same_leaf : (x : ℕ) (e : Entry) (es : List Entry) → x ≡ e.leaf → at_leaf x (e ∷ es) ≡ e.multiple ∷ at_leaf x es
same_leaf x e es h = ap (λ b. if b then e.multiple ∷ at_leaf x es else at_leaf x es) (eq-eqb x e.leaf h)

other_leaf : (x : ℕ) (e : Entry) (es : List Entry) → x ≢ e.leaf → at_leaf x (e ∷ es) ≡ at_leaf x es
other_leaf x e es h = ap (λ b. if b then e.multiple ∷ at_leaf x es else at_leaf x es) (ne_eqb x e.leaf h)

-- a leaf before all others has no entry
absent : (low x : ℕ) (es : List Entry) → Ascend low es → x < low → at_leaf x es ≡ []
absent low x [] h l = refl
absent low x (e ∷ es) h l = let a : low ≤ e.leaf = h.0 in other_leaf x e es (λ s. absurd (omega arith)) ∙ absent e.leaf x es h.1 (omega arith)

here_so_far : (leaf x : ℕ) (sum : Ratio) → leaf ≡ x → so_far leaf sum x ≡ sum
here_so_far leaf x sum h = ap (λ b. if b then sum else whole (pos 0)) (eq-eqb leaf x h)

there_so_far : (leaf x : ℕ) (sum : Ratio) → leaf ≢ x → so_far leaf sum x ≡ whole (pos 0)
there_so_far leaf x sum h = ap (λ b. if b then sum else whole (pos 0)) (ne_eqb leaf x h)

-- what holds of each leaf's sum so far and its further multiples, where it holds of a leaf without any, and of the leaf that came last if it has no more
module _ (P : Ratio → List Ratio → Type 0) where
  abbrev pub Each : ℕ → Ratio → List Entry → Type 0
  Each last sum es = (x : ℕ) → P (so_far last sum x) (at_leaf x es)

  -- on to the next entry
  forth : (last : ℕ) (sum : Ratio) (e : Entry) (es : List Entry) → Ascend last (e ∷ es) → P (whole (pos 0)) []
      → ((y : Ratio) (ms : List Ratio) → P y (e.multiple ∷ ms) → P (sum_of y e.multiple) ms)
      → Each last sum (e ∷ es) → Each e.leaf (sum_of (so_far last sum e.leaf) e.multiple) es
  forth last sum e es up none step h x = by (nat_eq e.leaf x) refl
    where
      next : Ratio
      next = sum_of (so_far last sum e.leaf) e.multiple

      apart : e.leaf ≢ x → (b : Bool) → nat_eq last x ≡ b → P (so_far e.leaf next x) (at_leaf x es)
      apart other true t =
          let same : last ≡ x = eqb-true last x t in
          let l : last ≤ e.leaf = up.0 in
          subst (λ y. P y (at_leaf x es)) (sym (there_so_far e.leaf x next other)) (subst (P (whole (pos 0))) (sym (absent e.leaf x es up.1 (omega arith))) none)
      apart other false f =
          subst (λ y. P y (at_leaf x es)) (there_so_far last x sum (eqb-false last x f) ∙ sym (there_so_far e.leaf x next other))
          (subst (P (so_far last sum x)) (other_leaf x e es (λ s. other (sym s))) (h x))

      by : (b : Bool) → nat_eq e.leaf x ≡ b → P (so_far e.leaf next x) (at_leaf x es)
      by true t =
          let same : e.leaf ≡ x = eqb-true e.leaf x t in
          subst (λ y. P y (at_leaf x es)) (ap (λ i. sum_of (so_far last sum i) e.multiple) (sym same) ∙ sym (here_so_far e.leaf x next same))
          (step (so_far last sum x) (at_leaf x es) (subst (P (so_far last sum x)) (same_leaf x e es (sym same)) (h x)))
      by false f = apart (eqb-false e.leaf x f) (nat_eq last x) refl

  -- and back
  back : (last : ℕ) (sum : Ratio) (e : Entry) (es : List Entry) → Ascend last (e ∷ es)
      → (last ≢ e.leaf → P sum [])
      → ((ms : List Ratio) → P (sum_of (so_far last sum e.leaf) e.multiple) ms → P (so_far last sum e.leaf) (e.multiple ∷ ms))
      → Each e.leaf (sum_of (so_far last sum e.leaf) e.multiple) es → Each last sum (e ∷ es)
  back last sum e es up over step h x = by (nat_eq e.leaf x) refl
    where
      next : Ratio
      next = sum_of (so_far last sum e.leaf) e.multiple

      apart : e.leaf ≢ x → (b : Bool) → nat_eq last x ≡ b → P (so_far last sum x) (at_leaf x (e ∷ es))
      apart other true t =
          let same : last ≡ x = eqb-true last x t in
          let l : last ≤ e.leaf = up.0 in
          subst (λ y. P y (at_leaf x (e ∷ es))) (sym (here_so_far last x sum same))
          (subst (P sum) (sym (other_leaf x e es (λ s. other (sym s)) ∙ absent e.leaf x es up.1 (omega arith))) (over (λ s. other (sym s ∙ same))))
      apart other false f =
          subst (P (so_far last sum x)) (sym (other_leaf x e es (λ s. other (sym s))))
          (subst (λ y. P y (at_leaf x es)) (there_so_far e.leaf x next other ∙ sym (there_so_far last x sum (eqb-false last x f))) (h x))

      by : (b : Bool) → nat_eq e.leaf x ≡ b → P (so_far last sum x) (at_leaf x (e ∷ es))
      by true t =
          let same : e.leaf ≡ x = eqb-true e.leaf x t in
          subst (P (so_far last sum x)) (sym (same_leaf x e es (sym same)))
          (subst (λ i. P (so_far last sum i) (e.multiple ∷ at_leaf x es)) same (step (at_leaf x es) (subst (λ y. P y (at_leaf x es)) (here_so_far e.leaf x next same) (h x))))
      by false f = apart (eqb-false e.leaf x f) (nat_eq last x) refl

abbrev pub Inside : Ratio → List Ratio → Type 0
Inside y ms = sums_inside y ms ≡ true

abbrev pub Vanishes : Ratio → List Ratio → Type 0
Vanishes y ms = is_zero (added y ms) ≡ true

-- ---- in the range

pub each_inside : (last : ℕ) (sum : Ratio) (es : List Entry) → Ascend last es → leaves_inside last sum es ≡ true → Each Inside last sum es
each_inside last sum [] up e = λ x. refl
each_inside last sum (f ∷ es) up e =
    let y = so_far last sum f.leaf in
    let here : sum_inside y f.multiple ≡ true = and_left (sum_inside y f.multiple) (leaves_inside f.leaf (sum_of y f.multiple) es) e in
    back Inside last sum f es up (λ other. refl) (λ ms h. and_both (sum_inside y f.multiple) (sums_inside (sum_of y f.multiple) ms) here h)
    (each_inside f.leaf (sum_of y f.multiple) es up.1 (and_right (sum_inside y f.multiple) (leaves_inside f.leaf (sum_of y f.multiple) es) e))

pub inside_each : (last : ℕ) (sum : Ratio) (es : List Entry) → Ascend last es → Each Inside last sum es → leaves_inside last sum es ≡ true
inside_each last sum [] up h = refl
inside_each last sum (f ∷ es) up h =
    let y = so_far last sum f.leaf in
    and_both (sum_inside y f.multiple) (leaves_inside f.leaf (sum_of y f.multiple) es)
    (and_left (sum_inside y f.multiple) (sums_inside (sum_of y f.multiple) (at_leaf f.leaf es)) (subst (Inside y) (same_leaf f.leaf f es refl) (h f.leaf)))
    (inside_each f.leaf (sum_of y f.multiple) es up.1
    (forth Inside last sum f es up refl (λ z ms k. and_right (sum_inside z f.multiple) (sums_inside (sum_of z f.multiple) ms) k) h))

-- ---- zero

pub each_vanishes : (last : ℕ) (sum : Ratio) (es : List Entry) → Ascend last es → leaves_vanish last sum es ≡ true → Each Vanishes last sum es
each_vanishes last sum [] up e = λ x. by x (nat_eq last x)
  where
    by : (x : ℕ) (b : Bool) → is_zero (if b then sum else whole (pos 0)) ≡ true
    by x true = e
    by x false = refl
each_vanishes last sum (f ∷ es) up e =
    let y = so_far last sum f.leaf in
    back Vanishes last sum f es up (λ other. by (nat_eq last f.leaf) (ne_eqb last f.leaf other) (and_left (nat_eq last f.leaf || is_zero sum) (leaves_vanish f.leaf (sum_of y f.multiple) es) e))
    (λ ms h. h)
    (each_vanishes f.leaf (sum_of y f.multiple) es up.1 (and_right (nat_eq last f.leaf || is_zero sum) (leaves_vanish f.leaf (sum_of y f.multiple) es) e))
  where
    by : (b : Bool) → b ≡ false → (b || is_zero sum) ≡ true → is_zero sum ≡ true
    by true t k = absurd (cc)
    by false t k = k

pub vanish_each : (last : ℕ) (sum : Ratio) (es : List Entry) → Ascend last es → Each Vanishes last sum es → leaves_vanish last sum es ≡ true
vanish_each last sum [] up h = ap is_zero (sym (here_so_far last last sum refl)) ∙ h last
vanish_each last sum (f ∷ es) up h =
    let y = so_far last sum f.leaf in
    and_both (nat_eq last f.leaf || is_zero sum) (leaves_vanish f.leaf (sum_of y f.multiple) es) (by (nat_eq last f.leaf) refl)
    (vanish_each f.leaf (sum_of y f.multiple) es up.1 (forth Vanishes last sum f es up refl (λ z ms k. k) h))
  where
    by : (b : Bool) → nat_eq last f.leaf ≡ b → (b || is_zero sum) ≡ true
    by true t = refl
    by false t =
        let other : last ≢ f.leaf = eqb-false last f.leaf t in
        let l : last ≤ f.leaf = up.0 in
        let gone : at_leaf last (f ∷ es) ≡ [] = other_leaf last f es other ∙ absent f.leaf last es up.1 (omega arith) in
        sym (ap (λ z. is_zero z) (here_so_far last last sum refl)) ∙ subst (Vanishes (so_far last sum last)) gone (h last)
