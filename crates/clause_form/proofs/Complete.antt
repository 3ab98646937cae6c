-- A clause that is true of a node, without both signs of a place, has all literals of one of the node's clauses.
use Rattle.std.proofs.Common.{◌≡◌, ℕ, suc, List, [], ◌∷◌, map, refl, sym, ◌∙◌, ap, subst, arith, Bool, true, false, not, ◌&&◌, ◌||◌, nat_eq, Contains, All, inl, inr, eq-eqb}
use Rattle.std.specs.Prelude.{if◌then◌else◌}
use Rattle.std.proofs.lemmas.Bool.{eqb-true}
use Rattle.std.proofs.lemmas.List.Elements.{All-contains, All-contains_itself, All-nil, All-cons, All-weaker, All-head}
use Rattle.smt_meaning.specs.Term.{bool_eq}
use Rattle.smt_meaning.specs.Forced.{Sign}
use Rattle.clause_form.specs.Signs.{sign, yes, no, negated, sign_true, sign_eq, is_sign_in, once, clashes}
use Rattle.clause_form.specs.NodeClauses.{conjunction, never, all_of}
use Rattle.clause_form.proofs.Signs.{true_or_false, in_cases, in_contains, twice}
use Rattle.clause_form.proofs.TrueClauses.{IsMet, each_true, clash_false, once_true}
use Rattle.clause_form.proofs.Hits.{is_once, Hits}
use Rattle.clause_form.proofs.Falsified.{NoClash, no_both, false_if, assigned, inside_false, opposite_true, free_value, counter, in_negated_back, once_negated, in_once, once_once, both, to_not, find, each_of, each_not, each_same, no_clash}

pub bool_eq-back : (v b : Bool) → bool_eq (bool_eq v b) b ≡ v
bool_eq-back true true = refl
bool_eq-back true false = refl
bool_eq-back false true = refl
bool_eq-back false false = refl

not_eq : (b : Bool) → bool_eq (not b) b ≡ false
not_eq true = refl
not_eq false = refl

pub place_self : (i : ℕ) → nat_eq i i ≡ true
place_self i = eq-eqb i i refl

pub sign_eq-place : (s u : Sign) → nat_eq s.place u.place ≡ false → sign_eq s u ≡ false
sign_eq-place s u h = ap (λ b. b && bool_eq s.positive u.positive) h

-- the open place of the node is given the value that it is to have
abbrev pub set_at : ℕ → Bool → ℕ → Bool
set_at i v j = if nat_eq j i then v else false

pub set_here : (i : ℕ) (v : Bool) → set_at i v i ≡ v
set_here i v = ap (λ b. if b then v else false) (place_self i)

pub set_other : (i j : ℕ) (v : Bool) → nat_eq j i ≡ false → set_at i v j ≡ false
set_other i j v h = ap (λ b. if b then v else false) h

abbrev pub blank : ℕ → Bool
blank i = false

-- what a clause assigns to a place depends on what the place is given
pub same_given : (ss : List Sign) (d e : ℕ → Bool) (i : ℕ) → d i ≡ e i → assigned ss d i ≡ assigned ss e i
same_given ss d e i h = ap (λ b. if is_sign_in (no i) ss then true else (if is_sign_in (yes i) ss then false else b)) h

-- ---- a literal that is never true

out_false : (ss : List Sign) (out : Sign) → NoClash ss → is_sign_in (negated out) ss ≡ false → sign_true (assigned ss (λ i. not out.positive)) out ≡ false
out_false ss out nc h =
    elim (true_or_false (is_sign_in out ss)) [
      | inl i ↦ inside_false ss (λ i. not out.positive) out nc i
      | inr i ↦ ap (λ b. bool_eq b out.positive) (free_value ss (λ i. not out.positive) out i h) ∙ not_eq out.positive
    ]

pub never_complete : (out : Sign) (ss : List Sign) → NoClash ss → ((a : ℕ → Bool) → sign_true a out ≡ false → IsMet a ss) → Hits (never out) ss
never_complete out ss nc holds =
    elim (true_or_false (is_sign_in (negated out) ss)) [
      | inl i ↦ record {
        clause = negated out ∷ [];
        kept = All-head (Contains (never out)) (negated out ∷ []) [] (All-contains_itself (never out));
        inside = λ s h. in_cases (λ x. is_sign_in x ss ≡ true) s (negated out) [] i (λ g. no_both false g refl) h;
        once = refl;
      }
      | inr i ↦ counter ss (λ i. not out.positive) nc (holds (assigned ss (λ i. not out.positive)) (out_false ss out nc i))
    ]

-- ---- conjunctions

abbrev pub Apart : Sign → List Sign → Type 0
Apart out us = (s : Sign) → is_sign_in s us ≡ true → nat_eq s.place out.place ≡ false

in_pairs : (out : Sign) (us : List Sign) (s : Sign) → is_sign_in s us ≡ true → Contains (map (λ (s : Sign). negated out ∷ s ∷ []) us) (negated out ∷ s ∷ [])
in_pairs out us s h = All-contains (λ u. Contains (map (λ (s : Sign). negated out ∷ s ∷ []) us) (negated out ∷ u ∷ [])) us s (all us) (in_contains s us h)
  where
    all : (us : List Sign) → All (λ u. Contains (map (λ (s : Sign). negated out ∷ s ∷ []) us) (negated out ∷ u ∷ [])) us
    all [] = All-nil (λ u. Contains (map (λ (s : Sign). negated out ∷ s ∷ []) []) (negated out ∷ u ∷ []))
    all (u ∷ us) =
        All-cons (λ x. Contains (map (λ (s : Sign). negated out ∷ s ∷ []) (u ∷ us)) (negated out ∷ x ∷ [])) u us
        (0, omega arith, refl)
        (All-weaker (λ x. Contains (map (λ (s : Sign). negated out ∷ s ∷ []) us) (negated out ∷ x ∷ [])) (λ x. Contains (map (λ (s : Sign). negated out ∷ s ∷ []) (u ∷ us)) (negated out ∷ x ∷ []))
        (λ x c. (suc c.0, omega (arith, c.1), c.2)) us (all us))

contains_rest : (c d : List Sign) (cs : List (List Sign)) → Contains cs c → Contains (d ∷ cs) c
contains_rest c d cs h = (suc h.0, omega (arith, h.1), h.2)

-- the long clause is inside
long_hit : (out : Sign) (us ss : List Sign) → is_once us ≡ true → Apart out us → is_sign_in out ss ≡ true → ((s : Sign) → is_sign_in s us ≡ true → is_sign_in (negated s) ss ≡ true)
    → Hits (conjunction out us) ss
long_hit out us ss o apart first all = record {
  clause = out ∷ map negated us;
  kept = (0, omega arith, refl);
  inside = λ s h.
      in_cases (λ x. is_sign_in x ss ≡ true) s out (map negated us) first
      (λ g. subst (λ x. is_sign_in x ss ≡ true) (twice s) (all (negated s) (in_negated_back s us g))) h;
  once =
      both (not (is_sign_in out (map negated us))) (is_once (map negated us))
      (to_not (is_sign_in out (map negated us))
      (false_if (is_sign_in out (map negated us)) (λ g. no_both (nat_eq out.place out.place) (place_self out.place) (apart (negated out) (in_negated_back out us g)))))
      (once_negated us o);
}

pair_hit : (out : Sign) (us ss : List Sign) (s : Sign) → Apart out us → is_sign_in s us ≡ true → is_sign_in (negated out) ss ≡ true → is_sign_in s ss ≡ true → Hits (conjunction out us) ss
pair_hit out us ss s apart inside n h = record {
  clause = negated out ∷ s ∷ [];
  kept = contains_rest (negated out ∷ s ∷ []) (out ∷ map negated us) (map (λ (s : Sign). negated out ∷ s ∷ []) us) (in_pairs out us s inside);
  inside = λ m g. in_cases (λ x. is_sign_in x ss ≡ true) m (negated out) (s ∷ []) n (λ k. in_cases (λ x. is_sign_in x ss ≡ true) m s [] h (λ q. no_both false q refl) k) g;
  once =
      (let apart' : sign_eq (negated out) s ≡ false = flip (nat_eq out.place s.place) refl in
      ap (λ b. not (b || false) && true) apart');
}
  where
    flip : (b : Bool) → nat_eq out.place s.place ≡ b → sign_eq (negated out) s ≡ false
    flip true e = no_both (nat_eq s.place s.place) (place_self s.place) (subst (λ i. nat_eq s.place i ≡ false) (same e) (apart s inside))
      where
        same : nat_eq out.place s.place ≡ true → out.place ≡ s.place
        same e = eqb-true out.place s.place e
    flip false e = sign_eq-place (negated out) s e

pub conjunction_complete : (out : Sign) (us ss : List Sign) → NoClash ss → is_once us ≡ true → NoClash us → Apart out us
    → ((a : ℕ → Bool) → sign_true a out ≡ each_true a us → IsMet a ss) → Hits (conjunction out us) ss
conjunction_complete out us ss nc o clear apart holds =
    elim (true_or_false (is_sign_in out ss)) [
      | inl i ↦
          elim (find (λ s. not (is_sign_in (negated s) ss)) us) [
            | inr all ↦ long_hit out us ss o apart i (λ s h. from_double (is_sign_in (negated s) ss) (all s h))
            | inl f ↦
                (let d : ℕ → Bool = λ i. not f.literal.positive in
                let low : sign_true (assigned ss d) f.literal ≡ false = out_false ss f.literal nc (from_not' (is_sign_in (negated f.literal) ss) f.passes) in
                counter ss d nc (holds (assigned ss d) (inside_false ss d out nc i ∙ sym (each_not (assigned ss d) us f.literal f.inside low))))
          ]
      | inr i ↦
          elim (true_or_false (is_sign_in (negated out) ss)) [
            | inl n ↦
                elim (find (λ s. is_sign_in s ss) us) [
                  | inl f ↦ pair_hit out us ss f.literal apart f.inside n f.passes
                  | inr none ↦
                      (let d : ℕ → Bool = λ i. is_sign_in (yes i) us in
                      counter ss d nc
                      (holds (assigned ss d)
                      (opposite_true ss d out nc n ∙ sym (each_of (assigned ss d) us (λ s h. high s h (none s h))))))
                ]
            | inr n ↦
                (let v : Bool = each_true (assigned ss blank) us in
                let d : ℕ → Bool = set_at out.place (bool_eq v out.positive) in
                let here : sign_true (assigned ss d) out ≡ v =
                ap (λ b. bool_eq b out.positive) (free_value ss d out i n ∙ set_here out.place (bool_eq v out.positive)) ∙ bool_eq-back v out.positive in
                counter ss d nc
                (holds (assigned ss d)
                (here ∙ sym (each_same (assigned ss d) (assigned ss blank) us (λ s h. same_given ss d blank s.place (set_other out.place s.place (bool_eq v out.positive) (apart s h)))))))
          ]
    ]
  where
    from_double : (b : Bool) → not b ≡ false → b ≡ true
    from_double true h = refl
    from_double false h = sym h

    from_not' : (b : Bool) → not b ≡ true → b ≡ false
    from_not' true h = sym h
    from_not' false h = refl

    given_true : (i : ℕ) (b : Bool) → is_sign_in (sign i b) us ≡ true → bool_eq (is_sign_in (yes i) us) b ≡ true
    given_true i true h = ap (λ b. bool_eq b true) h
    given_true i false h = ap (λ b. bool_eq b false) (false_if (is_sign_in (yes i) us) (λ g. clear (yes i) g h))

    high : (s : Sign) → is_sign_in s us ≡ true → is_sign_in s ss ≡ false → sign_true (assigned ss (λ i. is_sign_in (yes i) us)) s ≡ true
    high s h out' =
        elim (true_or_false (is_sign_in (negated s) ss)) [
          | inl n ↦ opposite_true ss (λ i. is_sign_in (yes i) us) s nc n
          | inr n ↦ ap (λ b. bool_eq b s.positive) (free_value ss (λ i. is_sign_in (yes i) us) s out' n) ∙ given_true s.place s.positive h
        ]

-- of any literals
pub all_of_complete : (out : Sign) (us ss : List Sign) → NoClash ss → Apart out us → ((a : ℕ → Bool) → sign_true a out ≡ each_true a us → IsMet a ss) → Hits (all_of out us) ss
all_of_complete out us ss nc apart holds = at (clashes us) refl
  where
    at : (b : Bool) → clashes us ≡ b → Hits (if b then never out else conjunction out (once us)) ss
    at true c = never_complete out ss nc (λ a h. holds a (h ∙ sym (false_if (each_true a us) (clash_false a us c))))
    at false c =
        conjunction_complete out (once us) ss nc (once_once us) (λ p h k. no_clash us c p (in_once p us h) (in_once (negated p) us k))
        (λ s h. apart s (in_once s us h)) (λ a h. holds a (h ∙ once_true a us))
