-- What propagation over the axioms reaches.
use Rattle.std.proofs.Common.{◌≡◌, ℕ, zero, suc, ◌+◌, ◌<◌, ◌≤◌, ◌&&◌, Bool, true, false, nat_eq, List, [], ◌∷◌, length, get_or, Contains, refl, sym, ap, subst, ◌∙◌, arith, eq-eqb}
use Rattle.std.specs.Prelude.{nat_lt, cond, if◌then◌else◌, ℤ, int_le, ◌≤ℤ◌}
use Rattle.std.specs.List.Sorted.{IsSorted}
use Rattle.std.specs.declared.cmp.Ordering.{Ordering}
use Rattle.std.specs.declared.cmp.Ordering.TheVariants.{Less}
use Rattle.std.specs.Ordering.{is_lt, ordering_then, nat_cmp, int_cmp}
use Rattle.std.proofs.lemmas.Bool.Decides.{nat_tests}
use Rattle.std.proofs.lemmas.Int.{ints}
use Rattle.std.proofs.lemmas.List.Elements.{Contains-append_left, Contains-append_right}
use Rattle.literals.specs.Signed.{Signed}
use Rattle.bound_clauses.proofs.Reached.{reached_on, refuted_back}
use Rattle.order_clauses.specs.declared.links.Link.{Link}
use Rattle.order_clauses.specs.Links.{literal_of, link_cmp, implication, implied, between, between_neighbours, between_links}
use Rattle.order_clauses.specs.Reached.{Leads, AxiomsReachAll}

-- ---- from link to link

leads_self : (cs : List (List Signed)) (x : Link) → Leads cs x x
leads_self cs x = record { on = λ given h. h; back = λ given h. h }

leads_on : (cs : List (List Signed)) (x y z : Link) → Leads cs x y → Leads cs y z → Leads cs x z
leads_on cs x y z h k = record { on = λ given r. k.on given (h.on given r); back = λ given r. h.back given (k.back given r) }

leads_by : (cs : List (List Signed)) (x y : Link) → Contains cs (implication x y) → Leads cs x y
leads_by cs x y c = record { on = reached_on cs (literal_of x) (literal_of y) c; back = refuted_back cs (literal_of x) (literal_of y) c }

-- ---- links in order

record Up (x y : Link) : Type 0 where
  group : x.group ≤ y.group
  threshold : x.group ≡ y.group → x.threshold ≤ℤ y.threshold

not_less : (b : Bool) (p o : Ordering) → is_lt (ordering_then (cond b Less p) o) ≡ false → b ≡ false
not_less true p o h = absurd (let x : true ≡ false = h in cc)
not_less false p o h = refl

not_above : (m n : ℕ) → nat_lt n m ≡ false → m ≤ n
not_above m n h = grind (arith, nat_tests)

up_by_group : (m n : ℕ) (o : Ordering) → is_lt (ordering_then (nat_cmp n m) o) ≡ false → m ≤ n
up_by_group m n o h = not_above m n (not_less (nat_lt n m) _ o h)

up_by_threshold : (m n : ℕ) (j k : ℤ) (o : Ordering) → n ≡ m → is_lt (ordering_then (nat_cmp n m) (ordering_then (int_cmp k j) o)) ≡ false → j ≤ℤ k
up_by_threshold m n j k o same h = grind (arith, ints)

up_of : (x y : Link) → is_lt (link_cmp y x) ≡ false → Up x y
up_of x y h = record {
  group = up_by_group x.group y.group _ h;
  threshold = λ e. up_by_threshold x.group y.group x.threshold y.threshold _ (sym e) h;
}

abbrev Rising : Link → List Link → Type 0
Rising x [] = Unit {0}
Rising x (y ∷ ys) = Up x y × Rising y ys

rising_of : (x : Link) (ys : List Link) → IsSorted link_cmp (x ∷ ys) → Rising x ys
rising_of x [] h = tt
rising_of x (y ∷ ys) h = (
  up_of x y (h 0 x (omega arith) (omega arith)),
  rising_of y ys (λ k d low less.
      let shift : suc k + 1 ≡ suc (k + 1) = omega arith in
      subst (λ i. is_lt (link_cmp (get_or (x ∷ y ∷ ys) i d) (get_or (y ∷ ys) k d)) ≡ false) shift (h (suc k) d (omega arith) (omega arith))),
)

above : (x : Link) (ys : List Link) (k : ℕ) (d : Link) → Rising x ys → k < length ys → Up x (get_or ys k d)
above x [] k d r l = absurd (omega (arith, l))
above x (y ∷ ys) zero d r l = r.0
above x (y ∷ ys) (suc k) d r l =
    let z : Link = get_or ys k d in
    let rest : Up y z = above y ys k d r.1 (omega arith) in
    let first : Up x y = r.0 in
    let low : x.group ≤ y.group = first.group in
    let high : y.group ≤ z.group = rest.group in
    record {
      group = omega arith;
      threshold = λ e.
          let one : x.group ≡ y.group = omega (arith, e) in
          let two : y.group ≡ z.group = omega (arith, e) in
          let a : x.threshold ≤ℤ y.threshold = first.threshold one in
          let b : y.threshold ≤ℤ z.threshold = rest.threshold two in
          grind (arith, ints);
    }

-- ---- the clauses of neighbours

true_le : (j k : ℤ) → j ≤ℤ k → int_le j k ≡ true
true_le j k h = grind (arith, ints)

both : (a b : Bool) → a ≡ true → b ≡ true → (a && b) ≡ true
both true b h k = k
both false b h k = cc

there : (x y : Link) → x.group ≡ y.group → x.threshold ≤ℤ y.threshold → Contains (implied x y) (implication x y)
there x y e l = by (nat_eq x.group y.group && int_le x.threshold y.threshold) (both (nat_eq x.group y.group) (int_le x.threshold y.threshold) (eq-eqb x.group y.group e) (true_le x.threshold y.threshold l))
  where
    by : (b : Bool) → b ≡ true → Contains (if b then implication x y ∷ [] else []) (implication x y)
    by true h = (zero, omega arith, refl)
    by false h = absurd (let z : false ≡ true = h in cc)

module _ (cs : List (List Signed)) where
  abbrev Has : List (List Signed) → Type 0
  Has ds = (c : List Signed) → Contains ds c → Contains cs c

  later : (x y : Link) (ys : List Link) → Has (between_neighbours x (y ∷ ys)) → Has (between_neighbours y ys)
  later x y ys h c k = h c (Contains-append_right (between x y) (between_neighbours y ys) c k)

  step : (x y : Link) (ys : List Link) → Has (between_neighbours x (y ∷ ys)) → x.group ≡ y.group → x.threshold ≤ℤ y.threshold → Leads cs x y
  step x y ys h e l =
      leads_by cs x y
      (h (implication x y) (Contains-append_left (between x y) (between_neighbours y ys) (implication x y) (Contains-append_left (implied x y) (implied y x) (implication x y) (there x y e l))))

  step_back : (x y : Link) (ys : List Link) → Has (between_neighbours x (y ∷ ys)) → x.group ≡ y.group → y.threshold ≤ℤ x.threshold → Leads cs y x
  step_back x y ys h e l =
      leads_by cs y x
      (h (implication y x) (Contains-append_left (between x y) (between_neighbours y ys) (implication y x) (Contains-append_right (implied x y) (implied y x) (implication y x) (there y x (sym e) l))))

  along : (x : Link) (ys : List Link) (k : ℕ) (d : Link) → Has (between_neighbours x ys) → Rising x ys → k < length ys → x.group ≡ (get_or ys k d).group → Leads cs x (get_or ys k d)
  along x [] k d h r l e = absurd (omega (arith, l))
  along x (y ∷ ys) zero d h r l e = step x y ys h e (r.0.threshold e)
  along x (y ∷ ys) (suc k) d h r l e =
      let z : Link = get_or ys k d in
      let low : x.group ≤ y.group = r.0.group in
      let high : y.group ≤ z.group = (above y ys k d r.1 (omega arith)).group in
      let one : x.group ≡ y.group = omega (arith, e) in
      let two : y.group ≡ z.group = omega (arith, e) in
      leads_on cs x y z (step x y ys h one (r.0.threshold one)) (along y ys k d (later x y ys h) r.1 (omega arith) two)

  along_back : (x : Link) (ys : List Link) (k : ℕ) (d : Link) → Has (between_neighbours x ys) → Rising x ys → k < length ys → x.group ≡ (get_or ys k d).group
      → (get_or ys k d).threshold ≤ℤ x.threshold → Leads cs (get_or ys k d) x
  along_back x [] k d h r l e t = absurd (omega (arith, l))
  along_back x (y ∷ ys) zero d h r l e t = step_back x y ys h e t
  along_back x (y ∷ ys) (suc k) d h r l e t =
      let z : Link = get_or ys k d in
      let up : Up y z = above y ys k d r.1 (omega arith) in
      let low : x.group ≤ y.group = r.0.group in
      let high : y.group ≤ z.group = up.group in
      let one : x.group ≡ y.group = omega (arith, e) in
      let two : y.group ≡ z.group = omega (arith, e) in
      let a : x.threshold ≤ℤ y.threshold = r.0.threshold one in
      let b : y.threshold ≤ℤ z.threshold = up.threshold two in
      let same_y : y.threshold ≤ℤ x.threshold = grind (arith, ints) in
      let same_z : z.threshold ≤ℤ y.threshold = grind (arith, ints) in
      leads_on cs z y x (along_back y ys k d (later x y ys h) r.1 (omega arith) two same_z) (step_back x y ys h one same_y)

  any_two : (x : Link) (ys : List Link) (i j : ℕ) (d : Link) → Has (between_neighbours x ys) → Rising x ys → i < length (x ∷ ys) → j < length (x ∷ ys)
      → (get_or (x ∷ ys) i d).group ≡ (get_or (x ∷ ys) j d).group → (get_or (x ∷ ys) i d).threshold ≤ℤ (get_or (x ∷ ys) j d).threshold → Leads cs (get_or (x ∷ ys) i d) (get_or (x ∷ ys) j d)
  any_two x ys zero zero d h r li lj e t = leads_self cs x
  any_two x ys zero (suc j) d h r li lj e t = along x ys j d h r (omega arith) e
  any_two x ys (suc i) zero d h r li lj e t = along_back x ys i d h r (omega arith) (sym e) t
  any_two x [] (suc i) (suc j) d h r li lj e t = absurd (omega (arith, li))
  any_two x (y ∷ ys) (suc i) (suc j) d h r li lj e t = any_two y ys i j d (later x y ys h) r.1 (omega arith) (omega arith) e t

  among : (links : List Link) (i j : ℕ) (d : Link) → Has (between_links links) → IsSorted link_cmp links → i < length links → j < length links
      → (get_or links i d).group ≡ (get_or links j d).group → (get_or links i d).threshold ≤ℤ (get_or links j d).threshold → Leads cs (get_or links i d) (get_or links j d)
  among [] i j d h s li lj e t = absurd (omega (arith, li))
  among (x ∷ xs) i j d h s li lj e t = any_two x xs i j d h (rising_of x xs s) li lj e t

default_same : (links : List Link) (i : ℕ) (d x : Link) → i < length links → get_or links i x ≡ x → get_or links i d ≡ x
default_same [] i d x l e = absurd (omega (arith, l))
default_same (y ∷ ys) zero d x l e = e
default_same (y ∷ ys) (suc i) d x l e = default_same ys i d x (omega arith) e

pub reached : AxiomsReachAll
reached table cs a x y cx cy e t =
    let second : get_or a.links cy.0 x ≡ y = default_same a.links cy.0 x y cy.1 cy.2 in
    let first : get_or a.links cx.0 x ≡ x = cx.2 in
    let leads : Leads cs (get_or a.links cx.0 x) (get_or a.links cy.0 x) =
    among cs a.links cx.0 cy.0 x (λ c k. subst (λ ds. Contains ds c) (sym a.clauses) k) a.sorted cx.1 cy.1
    (ap (λ (l : Link). l.group) first ∙ e ∙ sym (ap (λ (l : Link). l.group) second))
    (subst (λ (l : Link). l.threshold ≤ℤ (get_or a.links cy.0 x).threshold) (sym first) (subst (λ (l : Link). x.threshold ≤ℤ l.threshold) (sym second) t)) in
    subst (λ l. Leads cs x l) second (subst (λ l. Leads cs l (get_or a.links cy.0 x)) first leads)
