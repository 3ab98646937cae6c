-- A value that isn't whole meets no bound that is a side of its branch.
use Rattle.std.proofs.Common.{◌≡◌, ◌≢◌, ℕ, ◌*◌, Bool, true, false, List, [], ℤ, pos, negsuc, ◌+ℤ◌, ◌*ℤ◌, ◌<ℤ◌, ◌≤ℤ◌, neg_ℤ, unsigned_abs, sym, ap, ap₂, ◌∙◌, subst, inl, inr, arith}
use Rattle.std.specs.Prelude.{Contains, int_lt}
use Rattle.std.specs.Int.{◌∣◌}
use Rattle.std.proofs.Math.Nat.{dvd-mul_left, dvd-mul_right, mul-one}
use Rattle.std.proofs.lemmas.Int.{ints, unsigned_abs-mul}
use Rattle.std.proofs.lemmas.List.Elements.{All-contains}
use Rattle.fraction128.specs.declared.ratio.Ratio.{Ratio}
use Rattle.fraction128.specs.Number.{whole, unreduced_sum, unreduced_product}
use Rattle.fraction128.specs.Ratio.{IsFraction}
use Rattle.fraction128.proofs.Divisors.{gcd_is}
use Rattle.fraction128.specs.declared.Side.TheVariants.{Lower, Upper}
use Rattle.fraction128.specs.Grid.{leaf}
use Rattle.fraction128.specs.Lines.{IsFloor, sum_value}
use Rattle.smt_meaning.specs.declared.clauses.Atom.{Atom}
use Rattle.literals.specs.Signed.{Signed}
use Rattle.search_port.specs.State.{atom_at}
use Rattle.simplex_steps.specs.State.{values}
use Rattle.sum_bounds.specs.declared.fractions.FractionalLeaf.{FractionalLeaf}
use Rattle.sum_bounds.specs.Bounds.{told_bound, told_side, told_number, MeetsSide, Meets, sums, leaf_values, IsFirstIn}
use Rattle.simplex.proofs.Leaves.{leaf_found}
use Rattle.bound_log.specs.Told.{State, IsState}
use Rattle.bound_log.specs.Atoms.{Knows}
use Rattle.bound_log.specs.Values.{MeetsAll, IsToldOf, BoundsAreTold}
use Rattle.int_branch.specs.Branch.{below, above, multiple, other_number}
use Rattle.bound_log.specs.Sides.{IsSide, SidesAreOpen}

-- ---- a value between two whole numbers

-- a fraction in lowest terms that isn't whole is no multiple of its denominator
no_multiple : (x : Ratio) (k : ℤ) → IsFraction x → x.denominator ≢ 1 → k *ℤ pos x.denominator ≡ x.numerator → ⊥
no_multiple x k h broken e =
    let d = x.denominator in
    let size : unsigned_abs x.numerator ≡ unsigned_abs k * d = ap unsigned_abs (sym e) ∙ unsigned_abs-mul k (pos d) in
    let divides : d ∣ unsigned_abs x.numerator = subst (λ n. d ∣ n) (sym size) (dvd-mul_left d (unsigned_abs k)) in
    let itself : d ∣ d = subst (λ n. d ∣ n) (mul-one d) (dvd-mul_right d 1) in
    broken (sym (gcd_is (unsigned_abs x.numerator) d d (divides, itself, λ m p q. q)) ∙ h.lowest)

pub record IsBetween (k : ℤ) (x : Ratio) : Type 0 where
  pub low : (k *ℤ pos x.denominator) <ℤ x.numerator
  pub high : x.numerator <ℤ ((k +ℤ pos 1) *ℤ pos x.denominator)

strictly : (a b : ℤ) → a ≤ℤ b → (a ≡ b → ⊥) → a <ℤ b
strictly a b le ne = omega (arith, ints)

is_between : (x : Ratio) (k : ℤ) → IsFraction x → x.denominator ≢ 1 → IsFloor k x → IsBetween k x
is_between x k h broken floor = record { low = strictly (k *ℤ pos x.denominator) x.numerator floor.0 (no_multiple x k h broken); high = floor.1 }

not_less : (a b : ℤ) → a <ℤ b → int_lt a (b *ℤ pos 1) ≡ false → ⊥
not_less a b less e = grind (arith, ints)

not_less_either : (a b : ℤ) → a <ℤ b → int_lt (a *ℤ pos 1) b ≡ false → ⊥
not_less_either a b less e = grind (arith, ints)

above_floor : (k : ℤ) (x : Ratio) → IsBetween k x → MeetsSide Upper k x → ⊥
above_floor k x b e = not_less (k *ℤ pos x.denominator) x.numerator b.low e

below_next : (k : ℤ) (x : Ratio) → IsBetween k x → MeetsSide Lower (k +ℤ pos 1) x → ⊥
below_next k x b e = not_less_either x.numerator ((k +ℤ pos 1) *ℤ pos x.denominator) b.high e

-- ---- bounds of the term, and of its negation

of_below : (positive : Bool) (k : ℤ) (x : Ratio) → IsBetween k x → MeetsSide (told_side positive false) (told_number positive false k) x → ⊥
of_below true k x b e = above_floor k x b e
of_below false k x b e = below_next k x b e

negation_more : (k : ℤ) → neg_ℤ (other_number k) ≡ k +ℤ pos 1
negation_more k = omega (arith, ints)

negation_same : (k : ℤ) → neg_ℤ (other_number k +ℤ pos 1) ≡ k
negation_same k = omega (arith, ints)

of_above : (positive : Bool) (k : ℤ) (x : Ratio) → IsBetween k x → MeetsSide (told_side positive true) (told_number positive true (other_number k)) x → ⊥
of_above true k x b e = below_next k x b (subst (λ z. MeetsSide Lower z x) (negation_more k) e)
of_above false k x b e = above_floor k x b (subst (λ z. MeetsSide Upper z x) (negation_same k) e)

-- ---- the value of a term alone

over_same : (x : Ratio) (n : ℤ) (d : ℕ) → n ≡ x.numerator → d ≡ x.denominator → (let y : Ratio = record { numerator = n; denominator = d } in y) ≡ x
over_same x n d e f = ap₂ (λ (m : ℤ) (c : ℕ). let y : Ratio = record { numerator = m; denominator = c } in y) e f

once_more : (n : ℤ) (d : ℕ) → (pos 1 *ℤ n) *ℤ pos 1 +ℤ pos 0 *ℤ pos (1 * d) ≡ n
once_more n d = grind (arith, ints)

value_alone : (x : Ratio) → unreduced_sum (unreduced_product (whole (pos 1)) x) (whole (pos 0)) ≡ x
value_alone x = over_same x ((pos 1 *ℤ x.numerator) *ℤ pos 1 +ℤ pos 0 *ℤ pos (1 * x.denominator)) (1 * x.denominator * 1) (once_more x.numerator x.denominator) (omega arith)

-- ---- the log

module _ (law : BoundsAreTold) (f : FractionalLeaf) (fraction : IsFraction f.value) (table : List Atom) (s : State) (l : Signed) (state : IsState s) (knows : Knows table s) (met : MeetsAll s)
    (first : IsFirstIn s.bounds.columns f) (among : Contains s.log l) where
  between : IsBetween f.floor f.value
  between =
      let x = values s.bounds.columns f.variable in
      let is : f.value ≡ x = first.fraction.value in
      is_between f.value f.floor fraction (subst (λ (y : Ratio). y.denominator ≢ 1) (sym is) first.fraction.broken) (subst (IsFloor f.floor) (sym is) first.fraction.floor)

  own_value : leaf_values s.bounds f.term ≡ f.value
  own_value =
      ap (values s.bounds.columns) (leaf_found s.bounds.columns f.term f.variable state.bounds.apart first.known first.fraction.is_leaf) ∙ sym first.fraction.value

  -- the bound that the literal tells is one on the value
  told_value : (sum : List _) (k : ℤ) (o : IsToldOf s l sum k) → sums s.bounds o.of.variable ≡ leaf f.term → MeetsSide (told_side l.positive o.of.turned) (told_number l.positive o.of.turned k) f.value
  told_value sum k o is =
      let t = told_bound l o.of.variable o.of.turned k in
      let meets : Meets (sums s.bounds) (leaf_values s.bounds) t = All-contains (Meets (sums s.bounds) (leaf_values s.bounds)) s.bounds.told t met o.told in
      let value : sum_value (leaf_values s.bounds) (sums s.bounds o.of.variable) ≡ f.value = ap (sum_value (leaf_values s.bounds)) is ∙ value_alone (leaf_values s.bounds f.term) ∙ own_value in
      subst (λ (x : Ratio). MeetsSide (told_side l.positive o.of.turned) (told_number l.positive o.of.turned k) x) value meets

  some_summand : (c : ℤ) → multiple c f.term ≢ []
  some_summand c e = cc

  not_below : atom_at table l.atom ≡ below f.term f.floor → ⊥
  not_below is =
      let o = law table s state knows l (multiple (pos 1) f.term) f.floor among is (some_summand (pos 1)) in
      let sign : o.of.turned ≡ false = o.stands.sign in
      of_below l.positive f.floor f.value between
      (subst (λ (b : Bool). MeetsSide (told_side l.positive b) (told_number l.positive b f.floor) f.value) sign (told_value (multiple (pos 1) f.term) f.floor o o.stands.sum))

  not_above : atom_at table l.atom ≡ above f.term f.floor → ⊥
  not_above is =
      let o = law table s state knows l (multiple (negsuc 0) f.term) (other_number f.floor) among is (some_summand (negsuc 0)) in
      let sign : o.of.turned ≡ true = o.stands.sign in
      of_above l.positive f.floor f.value between
      (subst (λ (b : Bool). MeetsSide (told_side l.positive b) (told_number l.positive b (other_number f.floor)) f.value) sign
      (told_value (multiple (negsuc 0) f.term) (other_number f.floor) o o.stands.sum))

  pub not_told : IsSide f.term f.floor (atom_at table l.atom) → ⊥
  not_told (inl e) = not_below e
  not_told (inr e) = not_above e

pub sides_open : BoundsAreTold → (f : FractionalLeaf) → IsFraction f.value → SidesAreOpen f
sides_open law f fraction table s l state knows met first side among = not_told law f fraction table s l state knows met first among side
