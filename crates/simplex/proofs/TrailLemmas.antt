-- A bound that is set or taken back, and what stands then.
use Rattle.std.proofs.Common.{◌≡◌, ℕ, zero, suc, ◌<◌, ◌≤◌, ◌⊎◌, inl, inr, sym, ap, ap₂, ◌∙◌, subst, refl, arith, List, [], ◌∷◌, ◌++◌, length, map, take, set, get_or, get_or-set_other, get_or-set_same, length-append, Bool, true, false, cond, eqb, eqb-true, eq-eqb, ◌&&◌, Option, None}
use Rattle.std.proofs.lemmas.List.{get_or_append_left, get_or_push, length-set, take-append-le, take_all, length-map, get_or_default}
use Rattle.std.proofs.lemmas.Bool.{cases_lt}
use Rattle.fraction128.specs.declared.Side.{Side}
use Rattle.fraction128.specs.declared.Side.TheVariants.{Lower, Upper}
use Rattle.simplex.specs.declared.trail.Set.{Set}
use Rattle.simplex.specs.declared.trail.Held.{Held}
use Rattle.simplex.specs.declared.trail.Mark.{Mark}
use Rattle.simplex.specs.declared.trail.Standing.{Standing}
use Rattle.simplex.specs.Trail.{same_side, tighter, held_next, held_after, tightest, set_of, no_mark, mark_at, nothing, standing_at, held_on, with_held, IsTrail}

held_append : (h : Option Held) (xs ys : List Set) (i : ℕ) (s : Side) → held_after h (xs ++ ys) i s ≡ held_after (held_after h xs i s) ys i s
held_append h [] ys i s = refl
held_append h (x ∷ xs) ys i s = held_append (held_next h x i s) xs ys i s

pub tightest_more : (bs : List Set) (b : Set) (i : ℕ) (s : Side) → tightest (bs ++ b ∷ []) i s ≡ held_next (tightest bs i s) b i s
tightest_more bs b i s = held_append None bs (b ∷ []) i s

same_itself : (s : Side) → same_side s s ≡ true
same_itself Lower = refl
same_itself Upper = refl

same_is : (a b : Side) → same_side a b ≡ true → a ≡ b
same_is Lower Lower e = refl
same_is Lower Upper e = absurd (cc)
same_is Upper Lower e = absurd (cc)
same_is Upper Upper e = refl

pub next_on : (h : Option Held) (b : Set) → held_next h b b.variable b.side ≡ tighter b.side h b
next_on h b = ap (λ z. cond z (tighter b.side h b) h) (ap₂ ◌&&◌ (eq-eqb b.variable b.variable refl) (same_itself b.side))

pub next_elsewhere : (h : Option Held) (b : Set) (i : ℕ) (s : Side) → eqb b.variable i ≡ false → held_next h b i s ≡ h
next_elsewhere h b i s e = ap (λ z. cond (z && same_side b.side s) (tighter s h b) h) e

never : (p : Bool) → (p && false) ≡ false
never true = refl
never false = refl

pub next_other_side : (h : Option Held) (b : Set) (i : ℕ) (s : Side) → same_side b.side s ≡ false → held_next h b i s ≡ h
next_other_side h b i s e = ap (λ z. cond z (tighter s h b) h) (ap (λ z. eqb b.variable i && z) e ∙ never (eqb b.variable i))

held_same : (h : Standing) (s : Side) (o : Option Held) → held_on (with_held h s o) s ≡ o
held_same h Lower o = refl
held_same h Upper o = refl

held_other : (h : Standing) (a s : Side) (o : Option Held) → same_side a s ≡ false → held_on (with_held h a o) s ≡ held_on h s
held_other h Lower Lower o e = absurd (cc)
held_other h Lower Upper o e = refl
held_other h Upper Lower o e = refl
held_other h Upper Upper o e = absurd (cc)

map_more : (ms : List Mark) (m : Mark) → map set_of (ms ++ m ∷ []) ≡ map set_of ms ++ m.set ∷ []
map_more [] m = refl
map_more (x ∷ xs) m = ap (λ bs. x.set ∷ bs) (map_more xs m)

-- what stands after one place changed
placed : (held : List Standing) (v : ℕ) (side : Side) (o : Option Held) (i : ℕ) (s : Side) (f : ℕ → Side → Option Held) → v < length held → f v side ≡ o
    → ((j : ℕ) (t : Side) → j < length held → ((eqb v j ≡ false) ⊎ (same_side side t ≡ false)) → held_on (standing_at held j) t ≡ f j t) → i < length held
    → held_on (standing_at (set held v (with_held (standing_at held v) side o)) i) s ≡ f i s
placed held v side o i s f lt here elsewhere li = by_place (eqb v i) refl (same_side side s) refl
  where
    by_place : (z : Bool) → eqb v i ≡ z → (w : Bool) → same_side side s ≡ w → held_on (standing_at (set held v (with_held (standing_at held v) side o)) i) s ≡ f i s
    by_place false e w d =
        ap (λ h. held_on h s) (get_or-set_other held v i (with_held (standing_at held v) side o) nothing (λ q. let z : true ≡ false = sym (eq-eqb v i (sym q)) ∙ e in absurd (cc))) ∙ elsewhere i s li (inl e)
    by_place true e true d =
        let at : v ≡ i = eqb-true v i e in
        let side_at : side ≡ s = same_is side s d in
        subst (λ n. held_on (standing_at (set held v (with_held (standing_at held v) side o)) n) s ≡ f n s) at
        (subst (λ t. held_on (standing_at (set held v (with_held (standing_at held v) side o)) v) t ≡ f v t) side_at
        (ap (λ h. held_on h side) (get_or-set_same held v (with_held (standing_at held v) side o) nothing lt) ∙ held_same (standing_at held v) side o ∙ sym here))
    by_place true e false d =
        let at : v ≡ i = eqb-true v i e in
        subst (λ n. held_on (standing_at (set held v (with_held (standing_at held v) side o)) n) s ≡ f n s) at
        (ap (λ h. held_on h s) (get_or-set_same held v (with_held (standing_at held v) side o) nothing lt) ∙ held_other (standing_at held v) side s o d ∙ elsewhere v s lt (inr d))

take_before : (ms : List Mark) (m : Mark) (k : ℕ) → k ≤ length ms → take k (ms ++ m ∷ []) ≡ take k ms
take_before ms m k le = take-append-le k ms (m ∷ []) le

mark_before : (ms : List Mark) (m : Mark) (k : ℕ) → k < length ms → mark_at (ms ++ m ∷ []) k ≡ mark_at ms k
mark_before ms m k lt = get_or_append_left ms (m ∷ []) no_mark k lt

pub trail_set : (held : List Standing) (ms : List Mark) (b : Set) → IsTrail held ms → b.variable < length held
    → IsTrail (set held b.variable (with_held (standing_at held b.variable) b.side (tighter b.side (held_on (standing_at held b.variable) b.side) b)))
    (ms ++ record { set = b; before = held_on (standing_at held b.variable) b.side } ∷ [])
trail_set held ms b t lt =
    record {
      standing = λ i s li.
          placed held b.variable b.side (tighter b.side (held_on (standing_at held b.variable) b.side) b) i s (λ j q. tightest (map set_of (ms ++ m ∷ [])) j q) lt
          (more_ b.variable b.side ∙ next_on (tightest (map set_of ms) b.variable b.side) b ∙ ap (λ h. tighter b.side h b) (sym (t.standing b.variable b.side lt)))
          (λ j q lj off. t.standing j q lj ∙ sym (more_ j q ∙ off_is j q off)) (omega (arith, li, length-set {A = Standing}));
      known = λ k lk. by_end k lk (λ (x : Mark). x.set.variable < length now) (λ l. let r = t.known k l in omega (arith, r, length-set {A = Standing})) (omega (arith, lt, length-set {A = Standing}));
      before = λ k lk. by_order k lk (cases_lt k (length ms));
    }
  where
    m : Mark
    m = record { set = b; before = held_on (standing_at held b.variable) b.side }

    now : List Standing
    now = set held b.variable (with_held (standing_at held b.variable) b.side (tighter b.side (held_on (standing_at held b.variable) b.side) b))

    more_ : (j : ℕ) (q : Side) → tightest (map set_of (ms ++ m ∷ [])) j q ≡ held_next (tightest (map set_of ms) j q) b j q
    more_ j q = ap (λ bs. tightest bs j q) (map_more ms m) ∙ tightest_more (map set_of ms) b j q

    off_is : (j : ℕ) (q : Side) → (eqb b.variable j ≡ false) ⊎ (same_side b.side q ≡ false) → held_next (tightest (map set_of ms) j q) b j q ≡ tightest (map set_of ms) j q
    off_is j q (inl e) = next_elsewhere (tightest (map set_of ms) j q) b j q e
    off_is j q (inr e) = next_other_side (tightest (map set_of ms) j q) b j q e

    at_end : (k : ℕ) → k < length (ms ++ m ∷ []) → length ms ≤ k → mark_at (ms ++ m ∷ []) k ≡ m
    at_end k lk le = get_or_push ms m no_mark k (let e : length ms ≡ k = omega (arith, lk, le, length-append ms (m ∷ [])) in e)

    by_end : (k : ℕ) → k < length (ms ++ m ∷ []) → (P : Mark → Type 0) → (k < length ms → P (mark_at ms k)) → P m → P (mark_at (ms ++ m ∷ []) k)
    by_end k lk P first last = on (cases_lt k (length ms))
      where
        on : (k < length ms) ⊎ (length ms ≤ k) → P (mark_at (ms ++ m ∷ []) k)
        on (inl l) = subst P (sym (mark_before ms m k l)) (first l)
        on (inr le) = subst P (sym (at_end k lk le)) last

    by_order : (k : ℕ) → k < length (ms ++ m ∷ []) → (k < length ms) ⊎ (length ms ≤ k)
        → (mark_at (ms ++ m ∷ []) k).before ≡ tightest (map set_of (take k (ms ++ m ∷ []))) (mark_at (ms ++ m ∷ []) k).set.variable (mark_at (ms ++ m ∷ []) k).set.side
    by_order k lk (inl l) =
        subst (λ (x : Mark). x.before ≡ tightest (map set_of (take k (ms ++ m ∷ []))) x.set.variable x.set.side) (sym (mark_before ms m k l))
        (subst (λ xs. (mark_at ms k).before ≡ tightest (map set_of xs) (mark_at ms k).set.variable (mark_at ms k).set.side) (sym (take_before ms m k (omega (arith, l)))) (t.before k l))
    by_order k lk (inr le) =
        let e : length ms ≡ k = omega (arith, lk, le, length-append ms (m ∷ [])) in
        subst (λ (x : Mark). x.before ≡ tightest (map set_of (take k (ms ++ m ∷ []))) x.set.variable x.set.side) (sym (at_end k lk le))
        (subst (λ xs. m.before ≡ tightest (map set_of xs) b.variable b.side) (sym (take_before ms m k (omega (arith, e)) ∙ take_all k ms (omega (arith, e)))) (t.standing b.variable b.side lt))

pub trail_undone : (held : List Standing) (ms : List Mark) (m : Mark) → IsTrail held (ms ++ m ∷ [])
    → IsTrail (set held m.set.variable (with_held (standing_at held m.set.variable) m.set.side m.before)) ms
trail_undone held ms m t =
    record {
      standing = λ i s li.
          placed held b.variable b.side m.before i s (λ j q. tightest (map set_of ms) j q) lt
          (sym (last.0 ∙ ap (λ xs. tightest (map set_of xs) b.variable b.side) (take_before ms m (length ms) (omega arith) ∙ take_all (length ms) ms (omega arith))))
          (λ j q lj off. t.standing j q lj ∙ more_ j q ∙ off_is j q off) (omega (arith, li, length-set {A = Standing}));
      known = λ k lk.
          let r = t.known k (omega (arith, lk, length-append ms (m ∷ []))) in
          let e : (mark_at (ms ++ m ∷ []) k).set.variable ≡ (mark_at ms k).set.variable = ap (λ (x : Mark). x.set.variable) (mark_before ms m k lk) in
          omega (arith, r, e, length-set {A = Standing});
      before = λ k lk.
          subst (λ xs. (mark_at ms k).before ≡ tightest (map set_of xs) (mark_at ms k).set.variable (mark_at ms k).set.side) (take_before ms m k (omega (arith, lk)))
          (subst (λ (x : Mark). x.before ≡ tightest (map set_of (take k (ms ++ m ∷ []))) x.set.variable x.set.side) (mark_before ms m k lk) (t.before k (omega (arith, lk, length-append ms (m ∷ [])))));
    }
  where
    b : Set
    b = m.set

    at_end : mark_at (ms ++ m ∷ []) (length ms) ≡ m
    at_end = get_or_push ms m no_mark (length ms) refl

    inside : length ms < length (ms ++ m ∷ [])
    inside = omega (arith, length-append ms (m ∷ []))

    lt : b.variable < length held
    lt = subst (λ (x : Mark). x.set.variable < length held) at_end (t.known (length ms) inside)

    last : (m.before ≡ tightest (map set_of (take (length ms) (ms ++ m ∷ []))) b.variable b.side) × Unit {0}
    last = (subst (λ (x : Mark). x.before ≡ tightest (map set_of (take (length ms) (ms ++ m ∷ []))) x.set.variable x.set.side) at_end (t.before (length ms) inside), tt)

    more_ : (j : ℕ) (q : Side) → tightest (map set_of (ms ++ m ∷ [])) j q ≡ held_next (tightest (map set_of ms) j q) b j q
    more_ j q = ap (λ bs. tightest bs j q) (map_more ms m) ∙ tightest_more (map set_of ms) b j q

    off_is : (j : ℕ) (q : Side) → (eqb b.variable j ≡ false) ⊎ (same_side b.side q ≡ false) → held_next (tightest (map set_of ms) j q) b j q ≡ tightest (map set_of ms) j q
    off_is j q (inl e) = next_elsewhere (tightest (map set_of ms) j q) b j q e
    off_is j q (inr e) = next_other_side (tightest (map set_of ms) j q) b j q e

-- one more variable
pub tightest_past : (bs : List Set) (i : ℕ) (s : Side) (h : Option Held) → ((k : ℕ) (d : Set) → k < length bs → eqb (get_or bs k d).variable i ≡ false) → held_after h bs i s ≡ h
tightest_past [] i s h off = refl
tightest_past (b ∷ bs) i s h off =
    ap (λ o. held_after o bs i s) (next_elsewhere h b i s (off 0 b (omega arith))) ∙ tightest_past bs i s h (λ k d lt. off (suc k) d (omega (arith, lt)))

pub trail_grown : (held : List Standing) (ms : List Mark) → IsTrail held ms → IsTrail (held ++ nothing ∷ []) ms
trail_grown held ms t =
    record {
      standing = λ i s li. by_order i s li (cases_lt i (length held));
      known = λ k lk. let r = t.known k lk in omega (arith, r, length-append held (nothing ∷ []));
      before = t.before;
    }
  where
    none_on : (s : Side) → held_on nothing s ≡ None
    none_on Lower = refl
    none_on Upper = refl

    off : (i : ℕ) → length held ≤ i → (k : ℕ) (d : Set) → k < length (map set_of ms) → eqb (get_or (map set_of ms) k d).variable i ≡ false
    off i le k d lt = by_test (eqb (get_or (map set_of ms) k d).variable i) refl
      where
        inside : k < length ms
        inside = omega (arith, lt, length-map ms set_of)

        at : get_or (map set_of ms) k d ≡ (mark_at ms k).set
        at = map_at ms k d inside
          where
            map_at : (xs : List Mark) (n : ℕ) (e : Set) → n < length xs → get_or (map set_of xs) n e ≡ (mark_at xs n).set
            map_at [] n e l = absurd (omega (arith, l))
            map_at (x ∷ xs) zero e l = refl
            map_at (x ∷ xs) (suc n) e l = map_at xs n e (omega (arith, l))

        by_test : (z : Bool) → eqb (get_or (map set_of ms) k d).variable i ≡ z → z ≡ false
        by_test true e = absurd (let q : (get_or (map set_of ms) k d).variable ≡ i = eqb-true (get_or (map set_of ms) k d).variable i e in let r = t.known k inside in let f = ap (λ (x : Set). x.variable) at in omega (arith, q, r, f, le))
        by_test false e = refl

    by_order : (i : ℕ) (s : Side) → i < length (held ++ nothing ∷ []) → (i < length held) ⊎ (length held ≤ i) → held_on (standing_at (held ++ nothing ∷ []) i) s ≡ tightest (map set_of ms) i s
    by_order i s li (inl l) = ap (λ h. held_on h s) (get_or_append_left held (nothing ∷ []) nothing i l) ∙ t.standing i s l
    by_order i s li (inr le) =
        ap (λ h. held_on h s) (get_or_push held nothing nothing i (let e : length held ≡ i = omega (arith, li, le, length-append held (nothing ∷ [])) in e))
        ∙ none_on s ∙ sym (tightest_past (map set_of ms) i s None (off i le))

-- ---- as the calls say it

pub set_as : (held : List Standing) (ms now_ms : List Mark) (b : Set) (st now : Standing) (before after_ : Option Held) → IsTrail held ms → b.variable < length held → st ≡ get_or held b.variable st
    → before ≡ held_on st b.side → after_ ≡ tighter b.side before b → now ≡ with_held st b.side after_ → now_ms ≡ ms ++ record { set = b; before = before } ∷ [] → IsTrail (set held b.variable now) now_ms
set_as held ms now_ms b st now before after_ t lt at before_is after_is now_is ms_is =
    let st_is : st ≡ standing_at held b.variable = at ∙ get_or_default held b.variable st nothing lt in
    let bf : before ≡ held_on (standing_at held b.variable) b.side = before_is ∙ ap (λ h. held_on h b.side) st_is in
    let af : after_ ≡ tighter b.side (held_on (standing_at held b.variable) b.side) b = after_is ∙ ap (λ h. tighter b.side h b) bf in
    let nw : now ≡ with_held (standing_at held b.variable) b.side (tighter b.side (held_on (standing_at held b.variable) b.side) b) = now_is ∙ ap₂ (λ h o. with_held h b.side o) st_is af in
    subst (λ n. IsTrail (set held b.variable n) now_ms) (sym nw)
    (subst (IsTrail (set held b.variable (with_held (standing_at held b.variable) b.side (tighter b.side (held_on (standing_at held b.variable) b.side) b))))
    (sym (ms_is ∙ ap (λ o. ms ++ record { set = b; before = o } ∷ []) bf))
    (trail_set held ms b t lt))

last_known : (held : List Standing) (ms : List Mark) (m : Mark) → IsTrail held (ms ++ m ∷ []) → m.set.variable < length held
last_known held ms m t = subst (λ (x : Mark). x.set.variable < length held) (get_or_push ms m no_mark (length ms) refl) (t.known (length ms) (omega (arith, length-append ms (m ∷ []))))

pub undone_as : (held : List Standing) (ms old_ms : List Mark) (m : Mark) (st now : Standing) → IsTrail held old_ms → old_ms ≡ ms ++ m ∷ [] → st ≡ get_or held m.set.variable st
    → now ≡ with_held st m.set.side m.before → IsTrail (set held m.set.variable now) ms
undone_as held ms old_ms m st now t e at now_is =
    let t' : IsTrail held (ms ++ m ∷ []) = subst (IsTrail held) e t in
    let lt : m.set.variable < length held = last_known held ms m t' in
    let st_is : st ≡ standing_at held m.set.variable = at ∙ get_or_default held m.set.variable st nothing lt in
    subst (λ n. IsTrail (set held m.set.variable n) ms) (sym (now_is ∙ ap (λ h. with_held h m.set.side m.before) st_is)) (trail_undone held ms m (subst (IsTrail held) e t))
