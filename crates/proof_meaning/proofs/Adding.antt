-- Multiples of bounds that add up to a contradiction.
use Rattle.std.proofs.Common.{◌≡◌, ℕ, Bool, true, false, not, ◌||◌, List, [], ◌∷◌, ap, sym, subst, ◌∙◌, refl, arith, map, Option, Some, None}
use Rattle.std.specs.Prelude.{ℤ, pos, negsuc, ◌+ℤ◌, ◌*ℤ◌, neg_ℤ, int_le, ◌≤ℤ◌, ◌<ℤ◌}
use Rattle.std.proofs.lemmas.Int.{ints}
use Rattle.smt_meaning.specs.Term.{Tree, Interpretation}
use Rattle.smt_meaning.specs.declared.clauses.Literal.{Literal}
use Rattle.smt_meaning.specs.declared.clauses.Atom.TheVariants.{Truth, AtMost, Same}
use Rattle.std.proofs.Math.IntN.{zero-*ℤ, *ℤ_comm}
use Rattle.smt_meaning.specs.declared.clauses.Atom.{Atom}
use Rattle.fraction128.proofs.RationalOrder.{mul_mono}
use Rattle.smt_meaning.specs.Clause.{some_true, literal_true, sum_value, signed, atom_true}
use Rattle.smt_meaning.specs.Linear.{Form, form_value, form_times, number_form}
use Rattle.proof_meaning.specs.declared.proof.Weighted.{Weighted}
use Rattle.proof_meaning.specs.Rules.{false_bound, add_times, total, IsFarkas}
use Rattle.smt_laws.proofs.LinearLaw.{minus_one, form_times_value, form_plus_value}

times_at_most : (n : ℕ) (z : ℤ) → z ≤ℤ pos 0 → (pos n *ℤ z) ≤ℤ pos 0
times_at_most n z h =
    let m : (z *ℤ pos n) ≤ℤ (pos 0 *ℤ pos n) = mul_mono z (pos 0) n h in
    subst (λ x. x ≤ℤ pos 0) (*ℤ_comm z (pos n)) (subst (λ y. (z *ℤ pos n) ≤ℤ y) (zero-*ℤ (pos n)) m)

-- at most 0, where there is a form
abbrev AtMostZero : List Tree → Interpretation → Option Form → Type 0
AtMostZero ts I None = Unit {0}
AtMostZero ts I (Some f) = form_value ts I f ≤ℤ pos 0

true_le : (a b : ℤ) → int_le a b ≡ true → a ≤ℤ b
true_le a b h = grind (arith, ints)

false_le : (a b : ℤ) → int_le a b ≡ false → b <ℤ a
false_le a b h = grind (arith, ints)

not_false : (b : Bool) → not b ≡ false → b ≡ true
not_false true h = refl
not_false false h = let e : true ≡ false = h in cc

false_at_most : (ts : List Tree) (I : Interpretation) (b : Bool) (a : Atom) → signed b (atom_true ts I a) ≡ false → AtMostZero ts I (false_bound b a)
false_at_most ts I true (AtMost ps k) h =
    let less : k <ℤ sum_value ts I ps = false_le (sum_value ts I ps) k h in
    subst (λ z. z ≤ℤ pos 0) (sym (form_plus_value ts I (form_times (negsuc 0) (record { sum = ps; constant = neg_ℤ k })) (number_form (pos 1))
    ∙ ap (λ z. z +ℤ (pos 0 +ℤ pos 1)) (form_times_value ts I (negsuc 0) (record { sum = ps; constant = neg_ℤ k }) ∙ minus_one (sum_value ts I ps +ℤ neg_ℤ k))))
    (above (sum_value ts I ps) k less)
  where
    above : (s k : ℤ) → k <ℤ s → (neg_ℤ (s +ℤ neg_ℤ k) +ℤ (pos 0 +ℤ pos 1)) ≤ℤ pos 0
    above s k h = omega (arith, ints)
false_at_most ts I false (AtMost ps k) h = below (sum_value ts I ps) k (true_le (sum_value ts I ps) k (not_false (int_le (sum_value ts I ps) k) h))
  where
    below : (s k : ℤ) → s ≤ℤ k → (s +ℤ neg_ℤ k) ≤ℤ pos 0
    below s k h = omega (arith, ints)
false_at_most ts I true (Truth i) h = tt
false_at_most ts I true (Same i j) h = tt
false_at_most ts I false (Truth i) h = tt
false_at_most ts I false (Same i j) h = tt

added : (ts : List Tree) (I : Interpretation) (w : ℕ) (o p : Option Form) → AtMostZero ts I o → AtMostZero ts I p → AtMostZero ts I (add_times w o p)
added ts I w (Some f) (Some g) hf hg =
    subst (λ z. z ≤ℤ pos 0) (sym (form_plus_value ts I (form_times (pos w) f) g ∙ ap (λ z. z +ℤ form_value ts I g) (form_times_value ts I (pos w) f)))
    (both_below (pos w *ℤ form_value ts I f) (form_value ts I g) (times_at_most w (form_value ts I f) hf) hg)
  where
    both_below : (a b : ℤ) → a ≤ℤ pos 0 → b ≤ℤ pos 0 → (a +ℤ b) ≤ℤ pos 0
    both_below a b h k = omega (arith, ints)
added ts I w (Some f) None hf hg = tt
added ts I w None o hf hg = tt

or_first : (a b : Bool) → (a || b) ≡ false → a ≡ false
or_first true b h = h
or_first false b h = refl

or_second : (a b : Bool) → (a || b) ≡ false → b ≡ false
or_second true b h = let e : true ≡ false = h in cc
or_second false b h = h

total_at_most : (ts : List Tree) (I : Interpretation) (ws : List Weighted) (ns : List ℕ) → some_true ts I (map (λ (w : Weighted). w.literal) ws) ≡ false → AtMostZero ts I (total ws ns)
total_at_most ts I [] ns h = none_below
  where
    none_below : (pos 0 +ℤ pos 0) ≤ℤ pos 0
    none_below = omega (arith, ints)
total_at_most ts I (w ∷ ws) [] h = tt
total_at_most ts I (w ∷ ws) (n ∷ ns) h =
    added ts I n (false_bound w.literal.positive w.literal.atom) (total ws ns)
    (false_at_most ts I (w.literal).positive (w.literal).atom (or_first (literal_true ts I w.literal) (some_true ts I (map (λ (x : Weighted). x.literal) ws)) h))
    (total_at_most ts I ws ns (or_second (literal_true ts I w.literal) (some_true ts I (map (λ (x : Weighted). x.literal) ws)) h))

pub farkas_true : (ts : List Tree) (I : Interpretation) (ws : List Weighted) (ls : List Literal) → IsFarkas ws ls → some_true ts I ls ≡ true
farkas_true ts I ws ls h = subst (λ ms. some_true ts I ms ≡ true) (sym h.clause) (by (some_true ts I (map (λ (w : Weighted). w.literal) ws)) refl)
  where
    above_below : (c : ℤ) → pos 0 <ℤ c → (pos 0 +ℤ c) ≤ℤ pos 0 → ⊥
    above_below c a b = omega (arith, ints)

    by : (b : Bool) → some_true ts I (map (λ (w : Weighted). w.literal) ws) ≡ b → b ≡ true
    by true e = refl
    by false e = absurd (above_below h.constant h.above (subst (AtMostZero ts I) h.sums (total_at_most ts I ws h.weights e)))
