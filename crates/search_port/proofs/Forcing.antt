-- What clauses force, with other names for atoms, and in turn.
use Rattle.std.proofs.Common.{◌≡◌, Bool, true, false, not, List, [], ◌∷◌, ◌++◌, map, All, Contains, get_or, subst, sym, ap, ◌∙◌, refl, inl, inr, ◌⊎◌, arith}
use Rattle.std.proofs.lemmas.List.{map-append}
use Rattle.std.proofs.lemmas.List.Elements.{All-map, All-cons, All-head, All-tail, All-contains, All-contains_itself, Contains-get_or, Contains-append_left, Contains-append_right, Contains-append_cases, Contains-push, Contains-push_cases}
use Rattle.literals.specs.Signed.{Signed, opposite}
use Rattle.smt_meaning.specs.Forced.{Reaches, Conflicts, Forces}
use Rattle.smt_meaning.specs.Forced.Reaches.{start, unit}
use Rattle.search_port.specs.Forcing.{negation, numbered, ForcesByNumbers, IsForcedBy, HasNoPair, ForcesInTurn}

-- ---- lists

pub all_of : {X : Type 0} (P : X → Type 0) (xs : List X) → ((x : X) → Contains xs x → P x) → All P xs
all_of P xs h k d lt = h (get_or xs k d) (Contains-get_or xs k d lt)

All-unmap : {X Y : Type 0} (P : Y → Type 0) (f : X → Y) (xs : List X) → All P (map f xs) → All (λ x. P (f x)) xs
All-unmap P f [] all = λ k d h. absurd (omega arith)
All-unmap P f (x ∷ xs) all =
    All-cons (λ y. P (f y)) x xs (All-head P (f x) (map f xs) all) (All-unmap P f xs (All-tail P (f x) (map f xs) all))

pub in_map : {X Y : Type 0} (f : X → Y) (xs : List X) (x : X) → Contains xs x → Contains (map f xs) (f x)
in_map f xs x h = All-contains (λ y. Contains (map f xs) (f y)) xs x (All-unmap (Contains (map f xs)) f xs (All-contains_itself (map f xs))) h

-- where an element of a mapped list comes from
pub record ComesBy {X Y : Type 0} (f : X → Y) (xs : List X) (y : Y) : Type 0 where
  pub from : X
  pub among : Contains xs from
  pub is : f from ≡ y

pub from_map : {X Y : Type 0} (f : X → Y) (xs : List X) (y : Y) → Contains (map f xs) y → ComesBy f xs y
from_map f xs y h =
    All-contains (ComesBy f xs) (map f xs) y (All-map (ComesBy f xs) f xs (all_of (λ x. ComesBy f xs (f x)) xs (λ x c. record { from = x; among = c; is = refl }))) h

pub here_is : {X : Type 0} (x y : X) (xs ys : List X) → x ∷ xs ≡ y ∷ ys → x ≡ y
here_is x y xs ys e = cc

pub after_is : {X : Type 0} (x y : X) (xs ys : List X) → x ∷ xs ≡ y ∷ ys → xs ≡ ys
after_is x y xs ys e = cc

pub none_is : {X : Type 0} (x : X) (xs : List X) → [] ≡ x ∷ xs → ⊥
none_is x xs e = cc

-- ---- other names

-- where a mapped list is cut, the list is cut too
pub record Split {L M : Type 0} (f : L → M) (c : List L) (before after : List M) (l : M) : Type 0 where
  pub front : List L
  pub one : L
  pub back : List L
  pub is : c ≡ front ++ one ∷ back
  pub front_is : map f front ≡ before
  pub one_is : f one ≡ l
  pub back_is : map f back ≡ after

pub split : {L M : Type 0} (f : L → M) (c : List L) (before after : List M) (l : M) → map f c ≡ before ++ l ∷ after → Split f c before after l
split f [] [] after l e = absurd (none_is l after e)
split f [] (b ∷ bs) after l e = absurd (none_is b (bs ++ l ∷ after) e)
split f (x ∷ c) [] after l e = record { front = []; one = x; back = c; is = refl; front_is = refl; one_is = here_is (f x) l (map f c) after e; back_is = after_is (f x) l (map f c) after e }
split f (x ∷ c) (b ∷ bs) after l e =
    let r = split f c bs after l (after_is (f x) b (map f c) (bs ++ l ∷ after) e) in
    record {
      front = x ∷ r.front;
      one = r.one;
      back = r.back;
      is = ap (λ ys. x ∷ ys) r.is;
      front_is = ap (λ y. y ∷ map f r.front) (here_is (f x) b (map f c) (bs ++ l ∷ after) e) ∙ ap (λ ys. b ∷ ys) r.front_is;
      one_is = r.one_is;
      back_is = r.back_is;
    }

module _ {L M : Type 0} (f : L → M) (n : L → L) (m : M → M) (turned : (l : L) → f (n l) ≡ m (f l)) where
  reaches_renamed : (cs : List (List L)) (given : List L) (l : L) → Reaches n cs given l → Reaches m (map (map f) cs) (map f given) (f l)
  reaches_renamed cs given l (start c) = start (in_map f given l c)
  reaches_renamed cs given l (unit before after kept others) =
      unit (map f before) (map f after) (subst (Contains (map (map f) cs)) (map-append f before (l ∷ after)) (in_map (map f) cs (before ++ l ∷ after) kept))
      (λ x c.
      let r : ComesBy f (before ++ after) x = from_map f (before ++ after) x (subst (λ ys. Contains ys x) (sym (map-append f before after)) c) in
      subst (Reaches m (map (map f) cs) (map f given)) (turned r.from ∙ ap m r.is) (reaches_renamed cs given (n r.from) (others r.from r.among)))

  turned_all : (ls : List L) → map f (map n ls) ≡ map m (map f ls)
  turned_all [] = refl
  turned_all (l ∷ ls) = ap (λ x. x ∷ map f (map n ls)) (turned l) ∙ ap (λ xs. m (f l) ∷ xs) (turned_all ls)

  conflicts_renamed : (cs : List (List L)) (given : List L) → Conflicts n cs given → Conflicts m (map (map f) cs) (map f given)
  conflicts_renamed cs given k = record {
    clause = map f k.clause;
    kept = in_map (map f) cs k.clause k.kept;
    all_false = λ x c.
        let r : ComesBy f k.clause x = from_map f k.clause x c in
        subst (Reaches m (map (map f) cs) (map f given)) (turned r.from ∙ ap m r.is) (reaches_renamed cs given (n r.from) (k.all_false r.from r.among));
  }

  pub forces_renamed : (cs : List (List L)) (ls : List L) → Forces n cs ls → Forces m (map (map f) cs) (map f ls)
  forces_renamed cs ls h before after l e =
      let s = split f ls before after l e in
      let given : map f (map n (s.front ++ s.back)) ≡ map m (before ++ after) =
      turned_all (s.front ++ s.back) ∙ ap (map m) (map-append f s.front s.back ∙ (ap (λ xs. xs ++ map f s.back) s.front_is ∙ ap (λ xs. before ++ xs) s.back_is)) in
      elim (h s.front s.back s.one s.is) [
        | inl r ↦
            inl (subst (λ xs. Reaches m (map (map f) cs) xs l) given
            (subst (Reaches m (map (map f) cs) (map f (map n (s.front ++ s.back)))) s.one_is (reaches_renamed cs (map n (s.front ++ s.back)) s.one r)))
        | inr k ↦ inr (subst (Conflicts m (map (map f) cs)) given (conflicts_renamed cs (map n (s.front ++ s.back)) k))
      ]

pub by_numbers : ForcesByNumbers
by_numbers number cs ls h = forces_renamed (numbered number) negation opposite (λ l. refl) cs ls h

-- ---- in turn

twice : (l : Signed) → opposite (opposite l) ≡ l
twice l = ap (λ b. record { atom = l.atom; positive = b }) (not_not l.positive)
  where
    not_not : (b : Bool) → not (not b) ≡ b
    not_not true = refl
    not_not false = refl

module _ (known : List (List Signed)) (given : List Signed) where
  abbrev Got : Signed → Type 0
  Got l = Reaches opposite known given l

  abbrev Clash : Type 0
  Clash = Conflicts opposite known given

  -- what is reached from what is reached is reached
  cut : (mid : List Signed) → ((x : Signed) → Contains mid x → Got x) → (l : Signed) → Reaches opposite known mid l → Got l
  cut mid h l (start c) = h l c
  cut mid h l (unit before after kept others) = unit before after kept (λ m c. cut mid h (opposite m) (others m c))

  cut_clash : (mid : List Signed) → ((x : Signed) → Contains mid x → Got x) → Conflicts opposite known mid → Clash
  cut_clash mid h k = record { clause = k.clause; kept = k.kept; all_false = λ m c. cut mid h (opposite m) (k.all_false m c) }

  all_or : (xs : List Signed) → ((m : Signed) → Contains xs m → Got (opposite m) ⊎ Clash) → ((m : Signed) → Contains xs m → Got (opposite m)) ⊎ Clash
  all_or [] h = inl (λ m c. absurd (omega (arith, c.1)))
  all_or (x ∷ xs) h = elim (h x (Contains-append_left (x ∷ []) xs x (Contains-push [] x))) [
    | inl r ↦ elim (all_or xs (λ m c. h m (Contains-append_right (x ∷ []) xs m c))) [
      | inl rs ↦ inl (λ m c. elim (Contains-append_cases (x ∷ []) xs m c) [
        | inl one ↦ elim (Contains-push_cases [] x m one) [ inl none ↦ absurd (omega (arith, none.1)) | inr e ↦ subst (λ y. Got (opposite y)) e r ]
        | inr later ↦ rs m later
      ])
      | inr k ↦ inr k
    ]
    | inr k ↦ inr k
  ]

  negated_got : (xs : List Signed) → ((m : Signed) → Contains xs m → Got (opposite m)) → (x : Signed) → Contains (map opposite xs) x → Got x
  negated_got xs h x c = let r : ComesBy opposite xs x = from_map opposite xs x c in subst Got r.is (h r.from r.among)

  module _ (apart : (l : Signed) → Contains given l → Contains given (opposite l) → ⊥) where
    unit_clash : (l : Signed) (before after : List Signed) → Contains known (before ++ l ∷ after) → ((m : Signed) → Contains (before ++ after) m → Got (opposite m)) → Got (opposite l) → Clash
    unit_clash l before after kept others r = record {
      clause = before ++ l ∷ after;
      kept = kept;
      all_false = λ m c. elim (Contains-append_cases before (l ∷ after) m c) [
        | inl b ↦ others m (Contains-append_left before after m b)
        | inr a ↦ elim (Contains-append_cases (l ∷ []) after m a) [
          | inl one ↦ elim (Contains-push_cases [] l m one) [ inl none ↦ absurd (omega (arith, none.1)) | inr e ↦ subst (λ y. Got (opposite y)) e r ]
          | inr later ↦ others m (Contains-append_right before after m later)
        ]
      ];
    }

    clash_given : (l k : Signed) → k ≡ opposite l → Contains given l → Got k → Clash
    clash_given l k e c (start d) = absurd (apart l c (subst (Contains given) e d))
    clash_given l k e c (unit before after kept others) = unit_clash k before after kept others (subst Got (sym (twice l) ∙ ap opposite (sym e)) (start c))

    clash : (l : Signed) → Got l → Got (opposite l) → Clash
    clash l (start c) r = clash_given l (opposite l) refl c r
    clash l (unit before after kept others) r = unit_clash l before after kept others r

    module _ (cs : List (List Signed)) (each : (c : List Signed) → Contains cs c → IsForcedBy known c) where
      turn : (l : Signed) → Reaches opposite cs given l → Got l ⊎ Clash
      turn l (start c) = inl (start c)
      turn l (unit before after kept others) = elim (all_or (before ++ after) (λ m c. turn (opposite m) (others m c))) [
        | inl rs ↦ elim ((each (before ++ l ∷ after) kept).forced before after l refl) [
          | inl r ↦ inl (cut (map opposite (before ++ after)) (negated_got (before ++ after) rs) l r)
          | inr k ↦ inr (cut_clash (map opposite (before ++ after)) (negated_got (before ++ after) rs) k)
        ]
        | inr k ↦ inr k
      ]

      all_false_clash : (c : List Signed) → IsForcedBy known c → ((m : Signed) → Contains c m → Got (opposite m)) → Clash
      all_false_clash [] f h = absurd (f.some refl)
      all_false_clash (l ∷ ls) f h =
          let rest : (m : Signed) → Contains ls m → Got (opposite m) = λ m c. h m (Contains-append_right (l ∷ []) ls m c) in
          elim (f.forced [] ls l refl) [
            | inl r ↦ clash l (cut (map opposite ls) (negated_got ls rest) l r) (h l (Contains-append_left (l ∷ []) ls l (Contains-push [] l)))
            | inr k ↦ cut_clash (map opposite ls) (negated_got ls rest) k
          ]

      turn_clash : Conflicts opposite cs given → Clash
      turn_clash k = elim (all_or k.clause (λ m c. turn (opposite m) (k.all_false m c))) [ inl rs ↦ all_false_clash k.clause (each k.clause k.kept) rs | inr d ↦ d ]

-- the literals that are given aren't opposite where the clause has no pair
given_apart : (ls before after : List Signed) (l : Signed) → HasNoPair ls → ls ≡ before ++ l ∷ after → (x : Signed) → Contains (map opposite (before ++ after)) x → Contains (map opposite (before ++ after)) (opposite x) → ⊥
given_apart ls before after l single e x c d =
    let a : ComesBy opposite (before ++ after) x = from_map opposite (before ++ after) x c in
    let b : ComesBy opposite (before ++ after) (opposite x) = from_map opposite (before ++ after) (opposite x) d in
    let b_is : b.from ≡ x = sym (twice b.from) ∙ (ap opposite b.is ∙ twice x) in
    let a_is : a.from ≡ opposite x = sym (twice a.from) ∙ ap opposite a.is in
    single x (within x (subst (Contains (before ++ after)) b_is b.among)) (within (opposite x) (subst (Contains (before ++ after)) a_is a.among))
  where
    within : (y : Signed) → Contains (before ++ after) y → Contains ls y
    within y h = subst (λ ys. Contains ys y) (sym e) (elim (Contains-append_cases before after y h) [
      | inl i ↦ Contains-append_left before (l ∷ after) y i
      | inr i ↦ Contains-append_right before (l ∷ after) y (Contains-append_right (l ∷ []) after y i)
    ])

pub in_turn : ForcesInTurn
in_turn known cs ls each single h before after l e = elim (h before after l e) [
  | inl r ↦ turn known (map opposite (before ++ after)) (given_apart ls before after l single e) cs each l r
  | inr k ↦ inr (turn_clash known (map opposite (before ++ after)) (given_apart ls before after l single e) cs each k)
]
