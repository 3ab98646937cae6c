-- Truth values of atoms, by those of their numbers.
use Rattle.std.proofs.Common.{◌≡◌, ℕ, zero, suc, ◌<◌, ◌+◌, ◌*◌, ◌/◌, Bool, true, false, not, ◌&&◌, ◌||◌, nat_eq, List, [], ◌∷◌, length, get_or, map, All, Contains, refl, sym, ap, ◌∙◌, subst, inl, inr, ◌⊎◌, arith}
use Rattle.std.specs.Prelude.{if◌then◌else◌}
use Rattle.std.specs.List.Sorted.{IsPermutation}
use Rattle.std.proofs.lemmas.Bool.{false≢true, eqb-true}
use Rattle.std.proofs.lemmas.Bool.Decides.{nat_tests}
use Rattle.std.proofs.lemmas.List.Elements.{All-nil, All-cons, All-head, All-tail, All-weaker, All-contains, All-contains_itself}
use Rattle.std.proofs.lemmas.List.Sorted.{Contains-permutation, IsPermutation-sym}
use Rattle.smt_meaning.specs.declared.clauses.Summand.{Summand}
use Rattle.smt_meaning.specs.declared.clauses.Atom.{Atom}
use Rattle.smt_meaning.specs.declared.clauses.Atom.TheVariants.{Truth, AtMost, Same}
use Rattle.smt_meaning.specs.declared.clauses.Literal.{Literal}
use Rattle.smt_meaning.specs.Term.{int_eq}
use Rattle.smt_meaning.specs.Clause.{signed}
use Rattle.smt_laws.proofs.Both.{and_left, and_right}
use Rattle.smt_laws.proofs.SameValue.{int_eq-true, int_eq-self}
use Rattle.proof_meaning.specs.Rules.{some_by}
use Rattle.proof_terms.specs.declared.form_values.Connective.{Connective}
use Rattle.proof_terms.specs.Kept.{Kept, sign_code, IsCodeOf, AreCodesOf, AreApart}
use Rattle.proof_terms.specs.FormValues.{connective_value, AreFalse, IsAmong, IsAlways, IsSometimesFalse}
use Rattle.proof_terms.proofs.FormForcing.{or_left, or_right}
use Rattle.proof_terms.specs.FormParts.{IsNumberOf, AreNumbersOf, AreOnParts, AreTrueBy, by_connective, Extends, IsTrueClause}

-- ---- which atom it is

nat_itself : (n : ℕ) → nat_eq n n ≡ true
nat_itself n = grind (arith, nat_tests)

abbrev same_sum : List Summand → List Summand → Bool
same_sum [] [] = true
same_sum (p ∷ ps) (q ∷ qs) = (int_eq p.coefficient q.coefficient && nat_eq p.term q.term) && same_sum ps qs
same_sum _ _ = false

abbrev same_atom : Atom → Atom → Bool
same_atom (Truth i) (Truth j) = nat_eq i j
same_atom (Same i j) (Same k l) = nat_eq i k && nat_eq j l
same_atom (AtMost ps k) (AtMost qs l) = same_sum ps qs && int_eq k l
same_atom _ _ = false

and_both : (a b : Bool) → a ≡ true → b ≡ true → (a && b) ≡ true
and_both a b h g = ap (λ c. c && b) h ∙ g

sum_itself : (ps : List Summand) → same_sum ps ps ≡ true
sum_itself [] = refl
sum_itself (p ∷ ps) =
    and_both (int_eq p.coefficient p.coefficient && nat_eq p.term p.term) (same_sum ps ps)
    (and_both (int_eq p.coefficient p.coefficient) (nat_eq p.term p.term) (int_eq-self p.coefficient) (nat_itself p.term)) (sum_itself ps)

atom_itself : (a : Atom) → same_atom a a ≡ true
atom_itself (Truth i) = nat_itself i
atom_itself (Same i j) = and_both (nat_eq i i) (nat_eq j j) (nat_itself i) (nat_itself j)
atom_itself (AtMost ps k) = and_both (same_sum ps ps) (int_eq k k) (sum_itself ps) (int_eq-self k)

sum_same : (ps qs : List Summand) → same_sum ps qs ≡ true → ps ≡ qs
sum_same [] [] h = refl
sum_same [] (q ∷ qs) h = absurd (false≢true h)
sum_same (p ∷ ps) [] h = absurd (false≢true h)
sum_same (p ∷ ps) (q ∷ qs) h =
    let first : (int_eq p.coefficient q.coefficient && nat_eq p.term q.term) ≡ true = and_left (int_eq p.coefficient q.coefficient && nat_eq p.term q.term) (same_sum ps qs) h in
    let c : p.coefficient ≡ q.coefficient = int_eq-true p.coefficient q.coefficient (and_left (int_eq p.coefficient q.coefficient) (nat_eq p.term q.term) first) in
    let t : p.term ≡ q.term = eqb-true p.term q.term (and_right (int_eq p.coefficient q.coefficient) (nat_eq p.term q.term) first) in
    let rest : ps ≡ qs = sum_same ps qs (and_right (int_eq p.coefficient q.coefficient && nat_eq p.term q.term) (same_sum ps qs) h) in
    ap (λ x. let s : Summand = record { coefficient = x; term = p.term } in s ∷ ps) c ∙ ap (λ x. let s : Summand = record { coefficient = q.coefficient; term = x } in s ∷ ps) t ∙ ap (λ xs. q ∷ xs) rest

atom_same : (a b : Atom) → same_atom a b ≡ true → a ≡ b
atom_same (Truth i) (Truth j) h = ap Truth (eqb-true i j h)
atom_same (Same i j) (Same k l) h = ap (λ x. Same x j) (eqb-true i k (and_left (nat_eq i k) (nat_eq j l) h)) ∙ ap (Same k) (eqb-true j l (and_right (nat_eq i k) (nat_eq j l) h))
atom_same (AtMost ps k) (AtMost qs l) h =
    ap (λ xs. AtMost xs k) (sum_same ps qs (and_left (same_sum ps qs) (int_eq k l) h)) ∙ ap (AtMost qs) (int_eq-true k l (and_right (same_sum ps qs) (int_eq k l) h))
atom_same (Truth i) (Same k l) h = absurd (false≢true h)
atom_same (Truth i) (AtMost qs l) h = absurd (false≢true h)
atom_same (Same i j) (Truth k) h = absurd (false≢true h)
atom_same (Same i j) (AtMost qs l) h = absurd (false≢true h)
atom_same (AtMost ps k) (Truth j) h = absurd (false≢true h)
atom_same (AtMost ps k) (Same i j) h = absurd (false≢true h)

-- ---- its number, or how many have one

pub number_of : List Atom → Atom → ℕ
number_of [] a = 0
number_of (b ∷ bs) a = if same_atom b a then 0 else suc (number_of bs a)

apart_tail : (b : Atom) (bs : List Atom) → AreApart (b ∷ bs) → AreApart bs
apart_tail b bs h i j d l g = h (suc i) (suc j) d (omega (arith, l)) (omega (arith, g))

pub number_at : (atoms : List Atom) (n : ℕ) (a : Atom) → AreApart atoms → n < length atoms → get_or atoms n a ≡ a → number_of atoms a ≡ n
unfolding number_of
number_at [] n a apart h e = absurd (omega (arith, h))
number_at (b ∷ bs) zero a apart h e = ap (λ t. if t then 0 else suc (number_of bs a)) (subst (λ x. same_atom x a ≡ true) (sym e) (atom_itself a))
number_at (b ∷ bs) (suc n) a apart h e = by (same_atom b a) refl (number_at bs n a (apart_tail b bs apart) (omega (arith, h)) e)
  where
    by : (t : Bool) → same_atom b a ≡ t → number_of bs a ≡ n → number_of (b ∷ bs) a ≡ suc n
    by true q r = absurd (apart zero (suc n) a (omega arith) h (atom_same b a q ∙ sym e))
    by false q r = ap (λ t. if t then 0 else suc (number_of bs a)) q ∙ ap suc r

pub atom_of_number : (atoms : List Atom) (a d : Atom) → number_of atoms a < length atoms → get_or atoms (number_of atoms a) d ≡ a
unfolding number_of
atom_of_number [] a d h = absurd (omega (arith, h))
atom_of_number (b ∷ bs) a d h = by (same_atom b a) refl (atom_of_number bs a d)
  where
    by : (t : Bool) → same_atom b a ≡ t → (number_of bs a < length bs → get_or bs (number_of bs a) d ≡ a) → get_or (b ∷ bs) (number_of (b ∷ bs) a) d ≡ a
    by true q r = ap (λ t. get_or (b ∷ bs) (if t then 0 else suc (number_of bs a)) d) q ∙ atom_same b a q
    by false q r =
        let more : number_of (b ∷ bs) a ≡ suc (number_of bs a) = ap (λ t. if t then 0 else suc (number_of bs a)) q in
        ap (λ n. get_or (b ∷ bs) n d) more ∙ r (let l : suc (number_of bs a) < length (b ∷ bs) = subst (λ n. n < length (b ∷ bs)) more h in omega (arith, l))

-- ---- codes

pub record IsHalved (n m : ℕ) (b c : Bool) : Type 0 where
  pub number : n ≡ m
  pub sign : b ≡ c

pub halved : (n m : ℕ) (b c : Bool) → n * 2 + sign_code b ≡ m * 2 + sign_code c → IsHalved n m b c
halved n m true true h = record { number = omega (arith, h); sign = refl }
halved n m false false h = record { number = omega (arith, h); sign = refl }
halved n m true false h = absurd (omega (arith, h))
halved n m false true h = absurd (omega (arith, h))

pub half_is : (n c : ℕ) (b : Bool) → c ≡ n * 2 + sign_code b → c / 2 ≡ n
half_is n c true h = omega (arith, h)
half_is n c false h = omega (arith, h)

pub codes_permuted : (atoms : List Atom) (xs ys : List ℕ) (ls : List Literal) → IsPermutation xs ys → AreCodesOf atoms xs ls → AreCodesOf atoms ys ls
codes_permuted atoms xs ys ls p h = record {
  coded = λ l k. (let t = h.coded l k in (t.0, (t.1.0, Contains-permutation xs ys t.0 p t.1.1)));
  of_literals = λ c k. h.of_literals c (Contains-permutation ys xs c (IsPermutation-sym xs ys p) k);
}

-- ---- literals that are false

literal_false : (b x : Bool) → signed b x ≡ false → x ≡ not b
literal_false true x h = h
literal_false false true h = refl
literal_false false false h = sym h

false_literal : (b x : Bool) → x ≡ not b → signed b x ≡ false
false_literal true x h = h
false_literal false x h = ap not h

abbrev pub IsFalseBy : (Atom → Bool) → Literal → Type 0
IsFalseBy v l = v l.atom ≡ not l.positive

pub each_false : (v : Atom → Bool) (ls : List Literal) → some_by v ls ≡ false → All (IsFalseBy v) ls
each_false v [] h = All-nil (IsFalseBy v)
each_false v (l ∷ ls) h = All-cons (IsFalseBy v) l ls (literal_false l.positive (v l.atom) (or_left (signed l.positive (v l.atom)) (some_by v ls) h)) (each_false v ls (or_right (signed l.positive (v l.atom)) (some_by v ls) h))

pub none_true : (v : Atom → Bool) (ls : List Literal) → All (IsFalseBy v) ls → some_by v ls ≡ false
none_true v [] h = refl
none_true v (l ∷ ls) h =
    ap (λ b. b || some_by v ls) (false_literal l.positive (v l.atom) (All-head (IsFalseBy v) l ls h)) ∙ none_true v ls (All-tail (IsFalseBy v) l ls h)

-- where each literal is false, no truth values of the term and its parts agree
pub true_by : (i : ℕ) (value : (Atom → Bool) → Bool) (ls : List Literal) → ((v : Atom → Bool) → v (Truth i) ≡ value v → All (IsFalseBy v) ls → ⊥) → AreTrueBy i value ls
true_by i value ls h v e = at (some_by v ls) refl
  where
    at : (b : Bool) → some_by v ls ≡ b → some_by v ls ≡ true
    at true q = q
    at false q = absurd (h v e (each_false v ls q))

pub not_true_by : (i : ℕ) (value : (Atom → Bool) → Bool) (ls : List Literal) (v : Atom → Bool) → v (Truth i) ≡ value v → All (IsFalseBy v) ls → AreTrueBy i value ls → ⊥
not_true_by i value ls v e all h = false≢true (sym (none_true v ls all) ∙ h v e)

-- ---- from numbers to atoms and back

module _ (atoms : List Atom) (codes : List ℕ) (ls : List Literal) (coded : AreCodesOf atoms codes ls) where
  pub all_codes_false : (v : Atom → Bool) → All (IsFalseBy v) ls → AreFalse (λ n. v (get_or atoms n (Truth 0))) codes
  all_codes_false v all n b k =
      let t = coded.of_literals (n * 2 + sign_code b) k in
      let l : Literal = t.0 in
      let c : IsCodeOf atoms (n * 2 + sign_code b) l = t.1.0 in
      let s : IsHalved n c.number b l.positive = halved n c.number b l.positive c.code_is in
      ap (λ m. v (get_or atoms m (Truth 0))) s.number ∙ ap v (c.atom (Truth 0)) ∙ All-contains (IsFalseBy v) ls l all t.1.1 ∙ ap not (sym s.sign)

  pub all_literals_false : AreApart atoms → (u : ℕ → Bool) → AreFalse u codes → All (IsFalseBy (λ a. u (number_of atoms a))) ls
  all_literals_false apart u f = All-weaker (Contains ls) (IsFalseBy (λ a. u (number_of atoms a))) at ls (All-contains_itself ls)
    where
      at : (l : Literal) → Contains ls l → u (number_of atoms l.atom) ≡ not l.positive
      at l k =
          let t = coded.coded l k in
          let c : IsCodeOf atoms t.0 l = t.1.0 in
          ap u (number_at atoms c.number l.atom apart c.within (c.atom l.atom)) ∙ f c.number l.positive (subst (Contains codes) c.code_is t.1.1)

number_is : (atoms : List Atom) (n : ℕ) (a : Atom) → AreApart atoms → IsNumberOf atoms n a → number_of atoms a ≡ n
number_is atoms n a apart h = number_at atoms n a apart h.within (h.atom a)

same_by_number : (atoms : List Atom) (v : Atom → Bool) (ns : List ℕ) (ps : List Atom) → AreNumbersOf atoms ns ps → map (λ n. v (get_or atoms n (Truth 0))) ns ≡ map v ps
same_by_number atoms v [] [] h = refl
same_by_number atoms v [] (p ∷ ps) h = absurd h
same_by_number atoms v (n ∷ ns) [] h = absurd h
same_by_number atoms v (n ∷ ns) (p ∷ ps) h =
    ap (λ b. b ∷ map (λ m. v (get_or atoms m (Truth 0))) ns) (ap v (h.0.atom (Truth 0))) ∙ ap (λ bs. v p ∷ bs) (same_by_number atoms v ns ps h.1)

same_by_atom : (atoms : List Atom) (u : ℕ → Bool) (ns : List ℕ) (ps : List Atom) → AreApart atoms → AreNumbersOf atoms ns ps → map (λ a. u (number_of atoms a)) ps ≡ map u ns
same_by_atom atoms u [] [] apart h = refl
same_by_atom atoms u [] (p ∷ ps) apart h = absurd h
same_by_atom atoms u (n ∷ ns) [] apart h = absurd h
same_by_atom atoms u (n ∷ ns) (p ∷ ps) apart h =
    ap (λ b. b ∷ map (λ a. u (number_of atoms a)) ps) (ap u (number_is atoms n p apart h.0)) ∙ ap (λ bs. u n ∷ bs) (same_by_atom atoms u ns ps apart h.1)

pub part_of_number : (atoms : List Atom) (ns : List ℕ) (ps : List Atom) (n : ℕ) → AreNumbersOf atoms ns ps → Contains ns n → (a : Atom) → ((d : Atom) → get_or atoms n d ≡ a) → Contains ps a
part_of_number atoms [] ps n h k a e = absurd (omega (arith, k.1))
part_of_number atoms (m ∷ ns) [] n h k a e = absurd h
part_of_number atoms (m ∷ ns) (p ∷ ps) n h k a e = at k.0 k.1 k.2 (part_of_number atoms ns ps n h.1)
  where
    at : (i : ℕ) → i < length (m ∷ ns) → get_or (m ∷ ns) i n ≡ n → (Contains ns n → (a : Atom) → ((d : Atom) → get_or atoms n d ≡ a) → Contains ps a) → Contains (p ∷ ps) a
    at zero l q rest = (0, omega arith, sym (h.0.atom (Truth 0)) ∙ ap (λ x. get_or atoms x (Truth 0)) q ∙ e (Truth 0))
    at (suc i) l q rest = let t : Contains ps a = rest (i, omega (arith, l), q) a e in (suc t.0, omega (arith, t.1), t.2)

number_of_part : (atoms : List Atom) (ns : List ℕ) (ps : List Atom) (n : ℕ) (a : Atom) → AreApart atoms → AreNumbersOf atoms ns ps → Contains ps a → number_of atoms a ≡ n → Contains ns n
number_of_part atoms ns [] n a apart h k e = absurd (omega (arith, k.1))
number_of_part atoms [] (p ∷ ps) n a apart h k e = absurd h
number_of_part atoms (m ∷ ns) (p ∷ ps) n a apart h k e = at k.0 k.1 k.2 (number_of_part atoms ns ps n a apart h.1)
  where
    at : (i : ℕ) → i < length (p ∷ ps) → get_or (p ∷ ps) i a ≡ a → (Contains ps a → number_of atoms a ≡ n → Contains ns n) → Contains (m ∷ ns) n
    at zero l q rest = (0, omega arith, sym (number_is atoms m p apart h.0) ∙ ap (number_of atoms) q ∙ e)
    at (suc i) l q rest = let t : Contains ns n = rest (i, omega (arith, l), q) e in (suc t.0, omega (arith, t.1), t.2)

module _ (atoms : List Atom) (codes : List ℕ) (ls : List Literal) (coded : AreCodesOf atoms codes ls) (i own : ℕ) (own_is : IsNumberOf atoms own (Truth i)) (ns : List ℕ) (ps : List Atom) (numbers : AreNumbersOf atoms ns ps) where
  pub lift_always : (c : Connective) → IsAlways c codes own ns → AreTrueBy i (by_connective c ps) ls
  lift_always c always = true_by i (by_connective c ps) ls (λ v e all.
      always (λ n. v (get_or atoms n (Truth 0))) (ap v (own_is.atom (Truth 0)) ∙ e ∙ ap (connective_value c) (sym (same_by_number atoms v ns ps numbers)))
      (all_codes_false atoms codes ls coded v all))

  pub lift_sometimes : AreApart atoms → (c : Connective) → IsSometimesFalse c codes own ns → AreTrueBy i (by_connective c ps) ls → ⊥
  lift_sometimes apart c s = not_true_by i (by_connective c ps) ls (λ a. s.0 (number_of atoms a))
      (ap s.0 (number_is atoms own (Truth i) apart own_is) ∙ s.1 ∙ ap (connective_value c) (sym (same_by_atom atoms s.0 ns ps apart numbers)))
      (all_literals_false atoms codes ls coded apart s.0 s.2)

  pub lift_among : All (IsAmong own ns) codes → AreOnParts i ps ls
  lift_among all = All-weaker (Contains ls) (λ (l : Literal). (l.atom ≡ Truth i) ⊎ Contains ps l.atom) at ls (All-contains_itself ls)
    where
      at : (l : Literal) → Contains ls l → (l.atom ≡ Truth i) ⊎ Contains ps l.atom
      at l k = by (All-contains (IsAmong own ns) codes t.0 all t.1.1)
        where
          t : (c : ℕ) × (IsCodeOf atoms c l × Contains codes c)
          t = coded.coded l k

          half : t.0 / 2 ≡ t.1.0.number
          half = half_is t.1.0.number t.0 l.positive t.1.0.code_is

          by : (t.0 / 2 ≡ own) ⊎ Contains ns (t.0 / 2) → (l.atom ≡ Truth i) ⊎ Contains ps l.atom
          by (inl e) = inl (sym (t.1.0.atom (Truth 0)) ∙ ap (λ n. get_or atoms n (Truth 0)) (sym half ∙ e) ∙ own_is.atom (Truth 0))
          by (inr h) = inr (part_of_number atoms ns ps t.1.0.number numbers (subst (Contains ns) half h) l.atom t.1.0.atom)

  pub lift_not_among : AreApart atoms → (All (IsAmong own ns) codes → ⊥) → AreOnParts i ps ls → ⊥
  lift_not_among apart h on = h (All-weaker (Contains codes) (IsAmong own ns) at codes (All-contains_itself codes))
    where
      at : (c : ℕ) → Contains codes c → IsAmong own ns c
      at c k = by (All-contains (λ (l : Literal). (l.atom ≡ Truth i) ⊎ Contains ps l.atom) ls t.0 on t.1.1)
        where
          t : (l : Literal) × (IsCodeOf atoms c l × Contains ls l)
          t = coded.of_literals c k

          half : c / 2 ≡ t.1.0.number
          half = half_is t.1.0.number c t.0.positive t.1.0.code_is

          here : number_of atoms t.0.atom ≡ t.1.0.number
          here = number_at atoms t.1.0.number t.0.atom apart t.1.0.within (t.1.0.atom t.0.atom)

          by : (t.0.atom ≡ Truth i) ⊎ Contains ps t.0.atom → IsAmong own ns c
          by (inl e) = inl (half ∙ sym here ∙ ap (number_of atoms) e ∙ number_is atoms own (Truth i) apart own_is)
          by (inr m) = inr (subst (Contains ns) (sym half) (number_of_part atoms ns ps t.1.0.number t.0.atom apart numbers m here))

pub own_apart : (atoms : List Atom) (own i : ℕ) (ns : List ℕ) (ps : List Atom) → IsNumberOf atoms own (Truth i) → AreNumbersOf atoms ns ps → (Contains ps (Truth i) → ⊥) → Contains ns own → ⊥
own_apart atoms own i ns ps own_is numbers h k = h (part_of_number atoms ns ps own numbers k (Truth i) own_is.atom)

pub small_numbers : (atoms : List Atom) (ns : List ℕ) (ps : List Atom) → AreNumbersOf atoms ns ps → All (λ n. n < 2147483648) ns
small_numbers atoms [] ps h = All-nil (λ n. n < 2147483648)
small_numbers atoms (n ∷ ns) [] h = absurd h
small_numbers atoms (n ∷ ns) (p ∷ ps) h = All-cons (λ m. m < 2147483648) n ns h.0.small (small_numbers atoms ns ps h.1)

pub codes_later : (old new : Kept) (codes : List ℕ) (ls : List Literal) → Extends old new → AreCodesOf old.atoms codes ls → AreCodesOf new.atoms codes ls
codes_later old new codes ls e h = record {
  coded = λ l k. (let t = h.coded l k in (t.0, (e.codes t.0 l t.1.0, t.1.1)));
  of_literals = λ c k. (let t = h.of_literals c k in (t.0, (e.codes c t.0 t.1.0, t.1.1)));
}

pub concluded_right : (atoms : List Atom) (codes seen : List ℕ) (own i : ℕ) (ns : List ℕ) (c : Connective) (ls : List Literal) (ps : List Atom) → IsNumberOf atoms own (Truth i) → IsPermutation codes seen
    → All (IsAmong own ns) seen → IsAlways c seen own ns → AreCodesOf atoms codes ls → AreNumbersOf atoms ns ps → IsTrueClause i ps (by_connective c ps) ls
concluded_right atoms codes seen own i ns c ls ps own_is p among always coded numbers =
    let d : AreCodesOf atoms seen ls = codes_permuted atoms codes seen ls p coded in
    record { on = lift_among atoms seen ls d i own own_is ns ps numbers among; always = lift_always atoms seen ls d i own own_is ns ps numbers c always }

pub concluded_wrong : (atoms : List Atom) (codes seen : List ℕ) (own i : ℕ) (ns : List ℕ) (c : Connective) (ls : List Literal) (ps : List Atom) → AreApart atoms → IsNumberOf atoms own (Truth i) → IsPermutation codes seen
    → (All (IsAmong own ns) seen → ⊥) ⊎ IsSometimesFalse c seen own ns → AreCodesOf atoms codes ls → AreNumbersOf atoms ns ps → IsTrueClause i ps (by_connective c ps) ls → ⊥
concluded_wrong atoms codes seen own i ns c ls ps apart own_is p (inl h) coded numbers t =
    lift_not_among atoms seen ls (codes_permuted atoms codes seen ls p coded) i own own_is ns ps numbers apart h t.on
concluded_wrong atoms codes seen own i ns c ls ps apart own_is p (inr s) coded numbers t =
    lift_sometimes atoms seen ls (codes_permuted atoms codes seen ls p coded) i own own_is ns ps numbers apart c s t.always
