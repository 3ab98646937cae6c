-- A wide `xor` has the truth that it makes of those of its arguments, in a settled check.
use Rattle.std.proofs.Common.{◌≡◌, ℕ, ◌≤◌, Bool, true, false, List, [], ◌∷◌, map, length, All, refl, sym, ap, ◌∙◌, arith}
use Rattle.std.specs.Prelude.{nat_lt}
use Rattle.std.specs.List.{AllZip}
use Rattle.std.proofs.lemmas.Bool.Decides.{nat_tests}
use Rattle.std.proofs.lemmas.List.Elements.{All-cons, All-head, All-tail, All-contains}
use Rattle.smt_meaning.specs.declared.values.Value.{Value}
use Rattle.smt_meaning.specs.declared.values.Value.TheVariants.{Truth}
use Rattle.smt_meaning.specs.declared.values.Sort.TheVariants.{Bool as Truths}
use Rattle.smt_meaning.specs.declared.terms.Operator.TheVariants.{Xor}
use Rattle.smt_meaning.specs.declared.terms.Head.TheVariants.{Theory}
use Rattle.smt_meaning.specs.Term.{xor, truth_of, on_truths, fold_left, operate}
use Rattle.equality_clauses.specs.Ties.{literal}
use Rattle.check_atoms.specs.Parts.{IsMarked}
use Rattle.check_atoms.specs.OfStack.{IsNode}
use Rattle.order_clauses.specs.Clauses.{truth_number}
use Rattle.closure_log.specs.Odd.{is_odd}
use Rattle.closure_log.specs.Parts.{IsWideXor, TellsTruth, KeepsXorAt}
use Rattle.exact_model.specs.Operators.{HasValueOf}
use Rattle.exact_model.proofs.FullLogs.{truth_exact, truth_given}
use Rattle.exact_model.proofs.PartSorts.{HasListed, arguments_marked, asked_sort}
use Rattle.theory_combine.proofs.SettledCase.{SettledCase, stack, marks, table, log, first, full, v, sort, numbered_at}

-- ---- parities

xor_turned : (a b c : Bool) → xor (xor a b) c ≡ xor a (xor b c)
xor_turned true true true = refl
xor_turned true true false = refl
xor_turned true false true = refl
xor_turned true false false = refl
xor_turned false true true = refl
xor_turned false true false = refl
xor_turned false false true = refl
xor_turned false false false = refl

with_none : (a : Bool) → a ≡ xor a false
with_none true = refl
with_none false = refl

same_parity : (a b : Bool) → xor a b ≡ false → a ≡ b
same_parity true true h = refl
same_parity false false h = refl
same_parity true false h = absurd cc
same_parity false true h = absurd cc

module _ (f : ℕ → Value) where
  abbrev truths : List ℕ → List Bool
  truths is = map (λ i. truth_of (f i)) is

  folded : (a : Bool) (is : List ℕ) → fold_left (on_truths xor) (Truth a) (map f is) ≡ Truth (xor a (is_odd (truths is)))
  folded a [] = ap Truth (with_none a)
  folded a (i ∷ is) = folded (xor a (truth_of (f i))) is ∙ ap Truth (xor_turned a (truth_of (f i)) (is_odd (truths is)))

  made_parity : (i : ℕ) (is : List ℕ) → f i ≡ Truth (truth_of (f i)) → operate Xor (map f (i ∷ is)) ≡ Truth (is_odd (truths (i ∷ is)))
  made_parity i is e = ap (λ w. fold_left (on_truths xor) w (map f is)) e ∙ folded (truth_of (f i)) is

-- ---- a wide `xor`

is_wide : (n : ℕ) → nat_lt 3 n ≡ true → 4 ≤ n
is_wide n h = grind (arith, nat_tests)

module _ (k : SettledCase) where
  tells : (q : ℕ) → IsMarked (marks k) q → sort k q ≡ Truths → TellsTruth (table k) (log k) q (truth_of (v k q))
  tells q m e = record { literal = literal (truth_of (v k q)) (truth_number (first k) q); told = truth_given (full k) q m e; at = numbered_at k q m e; sign = refl }

  all_tell : (qs : List ℕ) → All (IsMarked (marks k)) qs → All (HasListed (full k) Truths) qs → AllZip (TellsTruth (table k) (log k)) qs (truths (v k) qs)
  all_tell [] m h = tt
  all_tell (q ∷ qs) m h = (
    tells q (All-head (IsMarked (marks k)) q qs m) (All-head (HasListed (full k) Truths) q qs h),
    all_tell qs (All-tail (IsMarked (marks k)) q qs m) (All-tail (HasListed (full k) Truths) q qs h),
  )

  pub xor_has : (p : ℕ) (is : List ℕ) → IsMarked (marks k) p → IsNode (stack k).trees p (Theory Xor) is → nat_lt 3 (length is) ≡ true → HasValueOf (stack k).trees k.values p Xor is
  xor_has p [] m n wide = absurd cc
  xor_has p (i ∷ is) m n wide =
      let so : All (HasListed (full k) Truths) (i ∷ is) × (sort k p ≡ Truths) = asked_sort (full k) p Xor (i ∷ is) m n Truths Truths refl in
      let marked : All (IsMarked (marks k)) (i ∷ is) = arguments_marked (full k) p Xor (i ∷ is) m n in
      let x : IsWideXor (stack k).trees p (i ∷ is) = record { tree = n.tree; earlier = n.arguments; wide = is_wide (length (i ∷ is)) wide } in
      let keeps : KeepsXorAt (stack k).trees (table k) (log k) p =
      All-contains (KeepsXorAt (stack k).trees (table k) (log k)) k.parts.wide_xors.items p k.settled.parts.xors (k.are_parts.3 p (i ∷ is) m x) in
      let even : xor (truth_of (v k p)) (is_odd (truths (v k) (i ∷ is))) ≡ false =
      keeps (i ∷ is) (truths (v k) (p ∷ i ∷ is)) x
      (all_tell (p ∷ i ∷ is) (All-cons (IsMarked (marks k)) p (i ∷ is) m marked) (All-cons (HasListed (full k) Truths) p (i ∷ is) so.1 so.0)) in
      truth_exact (full k) p m so.1 ∙ ap Truth (same_parity (truth_of (v k p)) (is_odd (truths (v k) (i ∷ is))) even)
      ∙ sym (made_parity (v k) i is (truth_exact (full k) i (All-head (IsMarked (marks k)) i is marked) (All-head (HasListed (full k) Truths) i is so.0)))
