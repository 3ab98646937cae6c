-- Clauses over a `distinct` of terms that are no Bools, and its pairs.
use Rattle.std.proofs.Common.{◌≡◌, ◌≢◌, ℕ, zero, suc, ◌<◌, ◌+◌, ◌*◌, Bool, true, false, not, ◌&&◌, Option, None, List, [], ◌∷◌, length, get_or, All, Contains, refl, sym, ap, ◌∙◌, subst, inl, inr, ◌⊎◌, arith}
use Rattle.std.proofs.lemmas.Bool.{false≢true}
use Rattle.std.proofs.lemmas.List.Elements.{All-head, All-tail, All-weaker, All-contains, All-contains_itself}
use Rattle.smt_meaning.specs.declared.clauses.Atom.{Atom}
use Rattle.smt_meaning.specs.declared.clauses.Atom.TheVariants.{Truth, Same, AtMost}
use Rattle.smt_meaning.specs.declared.clauses.Literal.{Literal}
use Rattle.smt_laws.proofs.Both.{and_left, and_right}
use Rattle.proof_meaning.specs.Rules.{pairs, no_one}
use Rattle.proof_meaning.specs.Proof.{literal}
use Rattle.proof_terms.specs.Kept.{sign_code, IsCodeOf, AreCodesOf, AreApart}
use Rattle.proof_terms.specs.FormValues.{chosen, AreFalse, HasNoClash, IsFree, IsGiven}
use Rattle.proof_terms.specs.FormParts.{IsNumberOf, AreOnParts, AreTrueBy}
use Rattle.proof_terms.specs.FormPairs.{AreFirstPlaces, IsBackward, IsPositive, HasPairs, AreTruePairs, by_clash, by_pairs, by_negative, AreFalsePairs, lacking, no_negative, without, IsOnPair}
use Rattle.proof_terms.proofs.FormChosen.{free_or_given, chosen_free, chosen_given, chosen_makes_false}
use Rattle.proof_terms.proofs.FormForcing.{is_so, clash}
use Rattle.proof_terms.proofs.FormAlways.{always_clash, with_own, at_own, elsewhere}
use Rattle.proof_terms.proofs.FormLifting.{number_of, number_at, atom_of_number, IsFalseBy, true_by, not_true_by, all_codes_false, all_literals_false, IsHalved, halved}
use Rattle.proof_terms.proofs.FormPlaces.{IsPairAt, IsPair, pair_of, has_pair_at, from_places, to_places, IsListedPair, listed_pair}

no_one_from : (v : Atom → Bool) (ps : List Atom) → All (λ a. v a ≡ false) ps → no_one v ps ≡ true
no_one_from v [] h = refl
no_one_from v (p ∷ ps) h = ap (λ b. not b && no_one v ps) (All-head (λ a. v a ≡ false) p ps h) ∙ no_one_from v ps (All-tail (λ a. v a ≡ false) p ps h)

not_true : (b : Bool) → not b ≡ true → b ≡ false
not_true true h = absurd (false≢true h)
not_true false h = refl

none_is : (v : Atom → Bool) (ps : List Atom) → no_one v ps ≡ true → (a : Atom) → Contains ps a → v a ≡ false
none_is v [] h a k = absurd (omega (arith, k.1))
none_is v (p ∷ ps) h a k = by k.0 k.1 k.2 (none_is v ps (and_right (not (v p)) (no_one v ps) h) a)
  where
    by : (i : ℕ) → i < length (p ∷ ps) → get_or (p ∷ ps) i a ≡ a → (Contains ps a → v a ≡ false) → v a ≡ false
    by zero l e rest = sym (ap v e) ∙ not_true (v p) (and_left (not (v p)) (no_one v ps) h)
    by (suc i) l e rest = rest (i, omega (arith, l), e)

some_one : (v : Atom → Bool) (ps : List Atom) (a : Atom) → Contains ps a → v a ≡ true → no_one v ps ≡ false
some_one v ps a k h = is_so (no_one v ps) false (λ e. clash h (none_is v ps e a k))

same_no_one : (v w : Atom → Bool) (ps : List Atom) → ((a : Atom) → Contains ps a → v a ≡ w a) → no_one v ps ≡ no_one w ps
same_no_one v w [] h = refl
same_no_one v w (p ∷ ps) h =
    ap (λ b. not b && no_one v ps) (h p (0, omega arith, refl)) ∙ ap (λ b. not (w p) && b) (same_no_one v w ps (λ a k. h a (suc k.0, omega (arith, k.1), k.2)))

module _ (atoms : List Atom) (apart : AreApart atoms) (codes : List ℕ) (ls : List Literal) (coded : AreCodesOf atoms codes ls) (i own : ℕ) (own_is : IsNumberOf atoms own (Truth i)) (xs ys : List ℕ) (backward : IsBackward xs ys)
    (look back : ℕ → Option ℕ) (fronts rears : List ℕ) (front_places : AreFirstPlaces xs (length xs) look fronts) (rear_places : AreFirstPlaces ys (length ys) back rears) where
  own_number : number_of atoms (Truth i) ≡ own
  own_number = number_at atoms own (Truth i) apart own_is.within (own_is.atom (Truth i))

  -- no pair is the term's own truth
  no_pair_own : (a : Atom) → Contains (pairs xs) a → a ≢ Truth i
  no_pair_own a k e = let p : IsPair xs a = pair_of xs a k in let two : Same p.left p.right ≡ Truth i = sym p.atom ∙ e in cc

  not_own : (a : Atom) → Contains (pairs xs) a → number_of atoms a ≢ own
  not_own a k e =
      no_pair_own a k (sym (atom_of_number atoms a (Truth 0) (subst (λ n. n < length atoms) (sym e) own_is.within)) ∙ ap (λ n. get_or atoms n (Truth 0)) e ∙ own_is.atom (Truth 0))

  positive_of : (a : Atom) → Contains (pairs xs) a → ((front : ℕ) → Contains fronts front → HasPairs atoms codes xs ys front rears) → IsPositive atoms codes a
  positive_of a k h =
      let p : IsPair xs a = pair_of xs a k in
      let q : IsListedPair xs ys backward look back fronts rears front_places rear_places p.left p.right = to_places xs ys backward look back fronts rears front_places rear_places p.left p.right p.at in
      let t : IsPositive atoms codes (Same (get_or xs q.by.front 0) (get_or ys q.by.rear 0)) = h q.by.front q.front_listed q.by.rear q.rear_listed q.by.order in
      subst (IsPositive atoms codes) (ap (λ x. Same x (get_or ys q.by.rear 0)) q.left ∙ ap (Same p.left) q.right ∙ sym p.atom) t

  pub true_pairs : AreTruePairs atoms codes own xs ys fronts rears → AreOnParts i (pairs xs) ls → AreTrueBy i (λ v. no_one v (pairs xs)) ls
  true_pairs (by_clash c) on = true_by i (λ v. no_one v (pairs xs)) ls (λ v e all. always_clash codes (λ n. v (get_or atoms n (Truth 0))) c (all_codes_false atoms codes ls coded v all))
  true_pairs (by_pairs k h) on = true_by i (λ v. no_one v (pairs xs)) ls (λ v e all. at v e (all_codes_false atoms codes ls coded v all))
    where
      at : (v : Atom → Bool) → v (Truth i) ≡ no_one v (pairs xs) → AreFalse (λ n. v (get_or atoms n (Truth 0))) codes → ⊥
      at v e f =
          clash (e ∙ no_one_from v (pairs xs) (All-weaker (Contains (pairs xs)) (λ a. v a ≡ false) each (pairs xs) (All-contains_itself (pairs xs)))) (sym (ap v (own_is.atom (Truth 0))) ∙ f own true k)
        where
          each : (a : Atom) → Contains (pairs xs) a → v a ≡ false
          each a m =
              let t : IsPositive atoms codes a = positive_of a m h in
              sym (ap v (t.is_code.atom (Truth 0))) ∙ f t.is_code.number true (subst (Contains codes) t.is_code.code_is t.inside)
  true_pairs (by_negative k h) on = true_by i (λ v. no_one v (pairs xs)) ls (λ v e all. at v e (all_codes_false atoms codes ls coded v all))
    where
      at : (v : Atom → Bool) → v (Truth i) ≡ no_one v (pairs xs) → AreFalse (λ n. v (get_or atoms n (Truth 0))) codes → ⊥
      at v e f = by (All-contains (λ (l : Literal). (l.atom ≡ Truth i) ⊎ Contains (pairs xs) l.atom) ls t.0 on t.1.1)
        where
          zero_more : (n : ℕ) → n * 2 ≡ n * 2 + 0
          zero_more n = omega arith

          here : Contains codes (h.atom * 2 + sign_code false)
          here = subst (Contains codes) (zero_more h.atom) h.inside

          t : (l : Literal) × (IsCodeOf atoms (h.atom * 2 + sign_code false) l × Contains ls l)
          t = coded.of_literals (h.atom * 2 + sign_code false) here

          s : IsHalved h.atom t.1.0.number false t.0.positive
          s = halved h.atom t.1.0.number false t.0.positive t.1.0.code_is

          its_number : number_of atoms t.0.atom ≡ h.atom
          its_number = number_at atoms t.1.0.number t.0.atom apart t.1.0.within (t.1.0.atom t.0.atom) ∙ sym s.number

          is_true : v t.0.atom ≡ true
          is_true = sym (ap (λ n. v (get_or atoms n (Truth 0))) s.number ∙ ap v (t.1.0.atom (Truth 0))) ∙ f h.atom false here

          own_true : v (Truth i) ≡ true
          own_true = sym (ap v (own_is.atom (Truth 0))) ∙ f own false (subst (Contains codes) (zero_more own) k)

          by : (t.0.atom ≡ Truth i) ⊎ Contains (pairs xs) t.0.atom → ⊥
          by (inl q) = h.other (sym its_number ∙ ap (number_of atoms) q ∙ own_number)
          by (inr m) = clash (sym e ∙ own_true) (some_one v (pairs xs) t.0.atom m is_true)

  false_by : (rest b : Bool) → HasNoClash codes → Contains codes (own * 2 + sign_code b) → no_one (λ a. chosen codes rest None (number_of atoms a)) (pairs xs) ≡ not b → AreTrueBy i (λ v. no_one v (pairs xs)) ls → ⊥
  false_by rest b clear k value = not_true_by i (λ v. no_one v (pairs xs)) ls (λ a. chosen codes rest None (number_of atoms a))
      (ap (chosen codes rest None) own_number ∙ chosen_given codes rest None own b clear k ∙ sym value)
      (all_literals_false atoms codes ls coded apart (chosen codes rest None) (chosen_makes_false codes rest None clear))

  pub false_pairs : AreFalsePairs atoms codes own xs ys fronts rears → AreTrueBy i (λ v. no_one v (pairs xs)) ls → ⊥
  false_pairs (lacking clear k s) = false_by true true clear k (some_one (λ a. chosen codes true None (number_of atoms a)) (pairs xs) pair inside is_true)
    where
      pair : Atom
      pair = Same (get_or xs s.front 0) (get_or ys s.pair.rear 0)

      inside : Contains (pairs xs) pair
      inside = has_pair_at xs (get_or xs s.front 0) (get_or ys s.pair.rear 0) (listed_pair xs ys backward look back fronts rears front_places rear_places s.front s.pair.rear s.pair.order)

      code : IsCodeOf atoms s.pair.lacks.code (literal true pair)
      code = s.pair.lacks.is_code

      at : IsFree codes code.number ⊎ IsGiven codes code.number → chosen codes true None code.number ≡ true
      at (inl f) = chosen_free codes true None code.number f
      at (inr g) = by g.0 g.1
        where
          by : (b : Bool) → Contains codes (code.number * 2 + sign_code b) → chosen codes true None code.number ≡ true
          by true m = absurd (s.pair.lacks.outside (subst (Contains codes) (sym code.code_is) m))
          by false m = chosen_given codes true None code.number false clear m

      is_true : chosen codes true None (number_of atoms pair) ≡ true
      is_true = ap (chosen codes true None) (number_at atoms code.number pair apart code.within (code.atom pair)) ∙ at (free_or_given codes code.number)
  false_pairs (no_negative clear k h) =
      false_by false false clear (subst (Contains codes) (zero_more own) k)
      (no_one_from (λ a. chosen codes false None (number_of atoms a)) (pairs xs)
      (All-weaker (Contains (pairs xs)) (λ a. chosen codes false None (number_of atoms a) ≡ false) each (pairs xs) (All-contains_itself (pairs xs))))
    where
      zero_more : (n : ℕ) → n * 2 ≡ n * 2 + 0
      zero_more n = omega arith

      each : (a : Atom) → Contains (pairs xs) a → chosen codes false None (number_of atoms a) ≡ false
      each a m = at (free_or_given codes (number_of atoms a))
        where
          by : (b : Bool) → Contains codes (number_of atoms a * 2 + sign_code b) → chosen codes false None (number_of atoms a) ≡ false
          by true q = chosen_given codes false None (number_of atoms a) true clear q
          by false q = absurd (h (number_of atoms a) (not_own a m) (subst (Contains codes) (sym (zero_more (number_of atoms a))) q))

          at : IsFree codes (number_of atoms a) ⊎ IsGiven codes (number_of atoms a) → chosen codes false None (number_of atoms a) ≡ false
          at (inl f) = chosen_free codes false None (number_of atoms a) f
          at (inr g) = by g.0 g.1
  false_pairs (without clear free) = not_true_by i (λ v. no_one v (pairs xs)) ls (λ a. with_own own value (chosen codes true None) (number_of atoms a)) here all
    where
      value : Bool
      value = no_one (λ a. chosen codes true None (number_of atoms a)) (pairs xs)

      here : with_own own value (chosen codes true None) (number_of atoms (Truth i)) ≡ no_one (λ a. with_own own value (chosen codes true None) (number_of atoms a)) (pairs xs)
      here =
          ap (with_own own value (chosen codes true None)) own_number ∙ at_own own value (chosen codes true None)
          ∙ same_no_one (λ a. chosen codes true None (number_of atoms a)) (λ a. with_own own value (chosen codes true None) (number_of atoms a)) (pairs xs)
          (λ a k. sym (elsewhere own value (chosen codes true None) (number_of atoms a) (λ e. not_own a k (sym e))))

      makes_false : AreFalse (with_own own value (chosen codes true None)) codes
      makes_false n b k =
          elsewhere own value (chosen codes true None) n (λ e. free b (subst (λ m. Contains codes (m * 2 + sign_code b)) (sym e) k)) ∙ chosen_given codes true None n b clear k

      all : All (IsFalseBy (λ a. with_own own value (chosen codes true None) (number_of atoms a))) ls
      all = all_literals_false atoms codes ls coded apart (with_own own value (chosen codes true None)) makes_false

-- ---- which literals are on pairs

module _ (ls : List Literal) (i : ℕ) (xs ys : List ℕ) (backward : IsBackward xs ys) (look back : ℕ → Option ℕ) (fronts rears : List ℕ) (front_places : AreFirstPlaces xs (length xs) look fronts) (rear_places : AreFirstPlaces ys (length ys) back rears) where
  pub on_pairs : All (λ (l : Literal). IsOnPair look back (length xs) i l.atom) ls → AreOnParts i (pairs xs) ls
  on_pairs all = All-weaker (λ (l : Literal). IsOnPair look back (length xs) i l.atom) (λ (l : Literal). (l.atom ≡ Truth i) ⊎ Contains (pairs xs) l.atom) (λ l h. at l.atom h) ls all
    where
      at : (a : Atom) → IsOnPair look back (length xs) i a → (a ≡ Truth i) ⊎ Contains (pairs xs) a
      at (Truth j) e = inl (ap Truth e)
      at (Same x y) p = inr (has_pair_at xs x y (from_places xs ys backward look back fronts rears front_places rear_places x y p))
      at (AtMost ps k) h = absurd h

  pub off_pairs : (All (λ (l : Literal). IsOnPair look back (length xs) i l.atom) ls → ⊥) → AreOnParts i (pairs xs) ls → ⊥
  off_pairs bad on = bad (All-weaker (λ (l : Literal). (l.atom ≡ Truth i) ⊎ Contains (pairs xs) l.atom) (λ (l : Literal). IsOnPair look back (length xs) i l.atom) (λ l h. at l.atom h) ls on)
    where
      by_pair : (a : Atom) (x y : ℕ) → a ≡ Same x y → IsPairAt xs x y → IsOnPair look back (length xs) i a
      by_pair a x y e p =
          subst (IsOnPair look back (length xs) i) (sym e)
          (let q : IsListedPair xs ys backward look back fronts rears front_places rear_places x y = to_places xs ys backward look back fronts rears front_places rear_places x y p in q.by)

      at : (a : Atom) → (a ≡ Truth i) ⊎ Contains (pairs xs) a → IsOnPair look back (length xs) i a
      at a (inl e) = subst (IsOnPair look back (length xs) i) (sym e) refl
      at a (inr k) = let p : IsPair xs a = pair_of xs a k in by_pair a p.left p.right p.atom p.at
