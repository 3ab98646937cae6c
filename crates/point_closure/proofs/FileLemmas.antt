-- Points that are filed: after one more union, and after one more of those that wait.
use Rattle.std.proofs.Common.{◌≡◌, ◌≢◌, ℕ, ◌+◌, ◌<◌, ◌≤◌, ◌⊎◌, Bool, true, false, List, [], ◌∷◌, ◌++◌, length, get_or, All, refl, sym, ap, ◌∙◌, subst, inl, inr, arith}
use Rattle.std.specs.Prelude.{IsTrue, Contains}
use Rattle.std.proofs.lemmas.Bool.{cases_eq, cases_lt}
use Rattle.std.proofs.lemmas.List.{get_or_append_left, get_or_push, length_push, get_or_default}
use Rattle.point_closure.specs.declared.classes.Union.{Union}
use Rattle.point_closure.specs.Closure.{Point, point_at, takes_part}
use Rattle.point_closure.specs.declared.pending.Pending.{Pending}
use Rattle.point_closure.specs.declared.lists.Change.{Change}
use Rattle.point_closure.specs.Lists.{list_of}
use Rattle.point_closure.specs.Signature.{signature, signature_hash, Filed}
use Rattle.point_closure.specs.Rest.{Begins, AreTied, Waits, IsFound, AreFiled, Files, FilesWherePart, FiledGrows, UsesAre, TakesPart, Pairs}
use Rattle.point_closure.proofs.RestLemmas.{begins_get, begins_length, tied_more, tied_on, signature_on, signature_stays, argument_in, begins_on}

pub waits_from_contains : (list : List ℕ) (i : ℕ) → Contains list i → Waits list 0 i
waits_from_contains list i c = (c.0, omega arith, c.1, get_or_default list c.0 0 i c.1 ∙ c.2)

pub found_more : (ps : List Point) (us : List Union) (t t' : Filed) (xs ys : List Pending) (i : ℕ) → FiledGrows t t' → length t.hashes ≡ length t.points → Begins xs ys → IsFound ps us t xs i → IsFound ps us t' ys i
found_more ps us t t' xs ys i g size b f =
    let p : get_or t'.points f.at 0 ≡ get_or t.points f.at 0 = begins_get t.points t'.points f.at 0 g.points f.within in
    let less : f.at < length t.points = f.within in
    let h : get_or t'.hashes f.at 0 ≡ get_or t.hashes f.at 0 = begins_get t.hashes t'.hashes f.at 0 g.hashes (omega arith) in
    record {
      at = f.at;
      within = omega (arith, begins_length t.points t'.points g.points);
      hash = h ∙ f.hash;
      one = ap (signature ps us) p ∙ f.one;
      tied = subst (λ n. AreTied us ys n i) (sym p) (tied_more us xs ys (get_or t.points f.at 0) i b f.tied);
    }

-- ---- one more union

found_on : (ps : List Point) (us : List Union) (u : Union) (t : Filed) (xs : List Pending) (i : ℕ) → signature ps (us ++ u ∷ []) i ≡ signature ps us i → IsFound ps us t xs i → IsFound ps (us ++ u ∷ []) t xs i
found_on ps us u t xs i e f = record {
  at = f.at;
  within = f.within;
  hash = f.hash ∙ ap signature_hash (sym e);
  one = signature_on ps us u (get_or t.points f.at 0) i f.one;
  tied = tied_on us u xs (get_or t.points f.at 0) i f.tied;
}

stays_or_waits : (ps : List Point) (us : List Union) (u : Union) (cs : List Change) (i : ℕ) → i < length ps → UsesAre ps us cs → Waits (list_of cs u.gone) 0 i ⊎ (signature ps (us ++ u ∷ []) i ≡ signature ps us i)
stays_or_waits ps us u cs i within uses = elim (argument_in us u.gone (point_at ps i).arguments) [
  | inl h ↦ inl (waits_from_contains (list_of cs u.gone) i (subst (λ r. Contains (list_of cs r) i) h.2 (uses i h.0 within h.1)))
  | inr none ↦ inr (signature_stays ps us u i none)
]

pub filed_on : (ps : List Point) (us : List Union) (u : Union) (t : Filed) (xs : List Pending) (cs : List Change) → All (TakesPart ps) t.points → UsesAre ps us cs
    → AreFiled ps us t xs [] 0 → AreFiled ps (us ++ u ∷ []) t xs (list_of cs u.gone) 0
filed_on ps us u t xs cs below uses filed = record {
  sizes = filed.sizes;
  found = λ i within takes. elim (stays_or_waits ps us u cs i within uses) [
    | inl waits ↦ inl waits
    | inr e ↦ elim (filed.found i within takes) [
      | inl w ↦ absurd (omega (arith, w.2))
      | inr f ↦ inr (found_on ps us u t xs i e f)
    ]
  ];
  one = λ j k less_j less_k e hash_j hash_k.
      let x : ℕ = get_or t.points j 0 in
      let y : ℕ = get_or t.points k 0 in
      elim (stays_or_waits ps us u cs x (below j 0 less_j).0 uses) [
        | inl waits ↦ inl waits
        | inr stays_x ↦ elim (stays_or_waits ps us u cs y (below k 0 less_k).0 uses) [
          | inl waits ↦ inr (inl waits)
          | inr stays_y ↦ elim (filed.one j k less_j less_k (sym stays_x ∙ e ∙ stays_y) (hash_j ∙ ap signature_hash stays_x) (hash_k ∙ ap signature_hash stays_y)) [
            | inl w ↦ absurd (omega (arith, w.2))
            | inr f ↦ elim f [
              | inl w ↦ absurd (omega (arith, w.2))
              | inr tied ↦ inr (inr (tied_on us u xs x y tied))
            ]
          ]
        ]
      ];
}

-- ---- one more of those that wait

waits_next : (list : List ℕ) (from i : ℕ) → Waits list from i → (get_or list from 0 ≡ i) ⊎ Waits list (from + 1) i
waits_next list from i w = elim (cases_eq w.0 from) [
  | inl here ↦ inl (ap (λ n. get_or list n 0) (sym here) ∙ w.3)
  | inr later ↦ let le : from ≤ w.0 = w.1 in inr (w.0, omega arith, w.2, w.3)
]

flip : (us : List Union) (xs : List Pending) (i j : ℕ) → AreTied us xs i j → AreTied us xs j i
flip us xs i j t class r = sym (t class r)

-- what was filed, after the next is filed too
step_found : (ps : List Point) (us : List Union) (t t' : Filed) (xs ys : List Pending) (list : List ℕ) (from : ℕ) → length t.hashes ≡ length t.points → FiledGrows t t' → Begins xs ys
    → FilesWherePart ps us t t' ys (get_or list from 0) → AreFiled ps us t xs list from
    → (i : ℕ) → i < length ps → IsTrue (takes_part (point_at ps i).shape) → Waits list (from + 1) i ⊎ IsFound ps us t' ys i
step_found ps us t t' xs ys list from size grows b files filed i within takes = elim (filed.found i within takes) [
  | inr f ↦ inr (found_more ps us t t' xs ys i grows size b f)
  | inl w ↦ elim (waits_next list from i w) [
    | inr later ↦ inl later
    | inl here ↦ elim files [
      | inl f ↦ inr (subst (λ n. IsFound ps us t' ys n) here f.1.found)
      | inr none ↦ absurd (no_part takes (ap (λ n. takes_part (point_at ps n).shape) (sym here) ∙ none.0))
    ]
  ]
]
  where
    no_part : {b : Bool} → IsTrue b → b ≡ false → ⊥
    no_part takes e = cc

-- an old place's tie to the point that was filed
old_tied : (ps : List Point) (us : List Union) (t t' : Filed) (ys : List Pending) (i j k : ℕ) → FilesWherePart ps us t t' ys i → All (TakesPart ps) t.points
    → j < length t.points → k < length t.points → i ≡ get_or t.points j 0
    → signature ps us (get_or t.points j 0) ≡ signature ps us (get_or t.points k 0) → get_or t.hashes k 0 ≡ signature_hash (signature ps us (get_or t.points k 0))
    → AreTied us ys (get_or t.points k 0) (get_or t.points j 0)
old_tied ps us t t' ys i j k files part less_j less_k here e hash_k = elim files [
  | inl f ↦
      let same : signature ps us (get_or t.points k 0) ≡ signature ps us i = sym e ∙ ap (signature ps us) (sym here) in
      subst (λ n. AreTied us ys (get_or t.points k 0) n) here (f.1.tied k less_k (hash_k ∙ ap signature_hash same) same)
  | inr none ↦ absurd (no_part (part j 0 less_j).1 (ap (λ n. takes_part (point_at ps n).shape) (sym here) ∙ none.0))
]
  where
    no_part : {b : Bool} → IsTrue b → b ≡ false → ⊥
    no_part takes e = cc

-- two places, after the point is filed: both were there, or one is the new one
step_one : (ps : List Point) (us : List Union) (t t' : Filed) (xs ys : List Pending) (list : List ℕ) (from : ℕ) → length t.hashes ≡ length t.points → FiledGrows t t' → Begins xs ys
    → FilesWherePart ps us t t' ys (get_or list from 0) → All (TakesPart ps) t.points → AreFiled ps us t xs list from
    → (j k : ℕ) → j < length t.points → k < length t.points → signature ps us (get_or t.points j 0) ≡ signature ps us (get_or t.points k 0)
    → get_or t.hashes j 0 ≡ signature_hash (signature ps us (get_or t.points j 0)) → get_or t.hashes k 0 ≡ signature_hash (signature ps us (get_or t.points k 0))
    → Waits list (from + 1) (get_or t.points j 0) ⊎ (Waits list (from + 1) (get_or t.points k 0) ⊎ AreTied us ys (get_or t.points j 0) (get_or t.points k 0))
step_one ps us t t' xs ys list from size grows b files part filed j k less_j less_k e hash_j hash_k =
    let i : ℕ = get_or list from 0 in
    elim (filed.one j k less_j less_k e hash_j hash_k) [
      | inl w ↦ elim (waits_next list from (get_or t.points j 0) w) [
        | inr later ↦ inl later
        | inl here ↦ inr (inr (flip us ys (get_or t.points k 0) (get_or t.points j 0) (old_tied ps us t t' ys i j k files part less_j less_k here e hash_k)))
      ]
      | inr f ↦ elim f [
        | inl w ↦ elim (waits_next list from (get_or t.points k 0) w) [
          | inr later ↦ inr (inl later)
          | inl here ↦ inr (inr (old_tied ps us t t' ys i k j files part less_k less_j here (sym e) hash_j))
        ]
        | inr tied ↦ inr (inr (tied_more us xs ys (get_or t.points j 0) (get_or t.points k 0) b tied))
      ]
    ]

abbrev OneOf : List Point → List Union → Filed → List Pending → List ℕ → ℕ → Type 0
OneOf ps us t pending list from = (j k : ℕ) → j < length t.points → k < length t.points → signature ps us (get_or t.points j 0) ≡ signature ps us (get_or t.points k 0)
    → get_or t.hashes j 0 ≡ signature_hash (signature ps us (get_or t.points j 0)) → get_or t.hashes k 0 ≡ signature_hash (signature ps us (get_or t.points k 0))
    → Waits list from (get_or t.points j 0) ⊎ (Waits list from (get_or t.points k 0) ⊎ AreTied us pending (get_or t.points j 0) (get_or t.points k 0))

-- a place of the longer list: one of before, or the last
place_of : (xs ys : List ℕ) (x k : ℕ) → ys ≡ xs ++ x ∷ [] → k < length ys → ((k < length xs) × (get_or ys k 0 ≡ get_or xs k 0)) ⊎ ((k ≡ length xs) × (get_or ys k 0 ≡ x))
place_of xs ys x k e less = elim (cases_lt k (length xs)) [
  | inl before ↦ inl (before, ap (λ zs. get_or zs k 0) e ∙ get_or_append_left xs (x ∷ []) 0 k before)
  | inr above ↦ let last : k ≡ length xs = omega (arith, ap length e, length_push xs x) in inr (last, ap (λ zs. get_or zs k 0) e ∙ get_or_push xs x 0 k (sym last))
]

added_one : (ps : List Point) (us : List Union) (t t' : Filed) (ys : List Pending) (list : List ℕ) (from i : ℕ) → length t.hashes ≡ length t.points
    → (t'.points ≡ t.points ++ i ∷ []) × (t'.hashes ≡ t.hashes ++ signature_hash (signature ps us i) ∷ [])
    × ((k : ℕ) → k < length t.points → get_or t.hashes k 0 ≡ signature_hash (signature ps us i) → signature ps us (get_or t.points k 0) ≢ signature ps us i)
    → OneOf ps us t ys list (from + 1) → OneOf ps us t' ys list (from + 1)
added_one ps us t t' ys list from i size new old j k less_j less_k e hash_j hash_k = elim (place_of t.points t'.points i j new.0 less_j) [
  | inl pj ↦ elim (place_of t.points t'.points i k new.0 less_k) [
    | inl pk ↦
        let hj : get_or t'.hashes j 0 ≡ get_or t.hashes j 0 = hash_left j (let l : j < length t.points = pj.0 in omega arith) in
        let hk : get_or t'.hashes k 0 ≡ get_or t.hashes k 0 = hash_left k (let l : k < length t.points = pk.0 in omega arith) in
        subst (λ n. Waits list (from + 1) n ⊎ (Waits list (from + 1) (get_or t'.points k 0) ⊎ AreTied us ys n (get_or t'.points k 0))) (sym pj.1)
        (subst (λ n. Waits list (from + 1) (get_or t.points j 0) ⊎ (Waits list (from + 1) n ⊎ AreTied us ys (get_or t.points j 0) n)) (sym pk.1)
        (old j k pj.0 pk.0 (ap (signature ps us) (sym pj.1) ∙ e ∙ ap (signature ps us) pk.1)
        (sym hj ∙ hash_j ∙ ap (λ n. signature_hash (signature ps us n)) pj.1) (sym hk ∙ hash_k ∙ ap (λ n. signature_hash (signature ps us n)) pk.1)))
    | inr pk ↦
        let hj : get_or t'.hashes j 0 ≡ get_or t.hashes j 0 = hash_left j (let l : j < length t.points = pj.0 in omega arith) in
        let same : signature ps us (get_or t.points j 0) ≡ signature ps us i = ap (signature ps us) (sym pj.1) ∙ e ∙ ap (signature ps us) pk.1 in
        absurd (new.2 j pj.0 (sym hj ∙ hash_j ∙ ap (λ n. signature_hash (signature ps us n)) pj.1 ∙ ap signature_hash same) same)
  ]
  | inr pj ↦ elim (place_of t.points t'.points i k new.0 less_k) [
    | inl pk ↦
        let hk : get_or t'.hashes k 0 ≡ get_or t.hashes k 0 = hash_left k (let l : k < length t.points = pk.0 in omega arith) in
        let same : signature ps us (get_or t.points k 0) ≡ signature ps us i = ap (signature ps us) (sym pk.1) ∙ sym e ∙ ap (signature ps us) pj.1 in
        absurd (new.2 k pk.0 (sym hk ∙ hash_k ∙ ap (λ n. signature_hash (signature ps us n)) pk.1 ∙ ap signature_hash same) same)
    | inr pk ↦ inr (inr (λ class r. ap class (pj.1 ∙ sym pk.1)))
  ]
]
  where
    hash_left : (k : ℕ) → k < length t.hashes → get_or t'.hashes k 0 ≡ get_or t.hashes k 0
    hash_left k less = ap (λ zs. get_or zs k 0) new.1 ∙ get_or_append_left t.hashes (signature_hash (signature ps us i) ∷ []) 0 k less

pub filed_step : (ps : List Point) (us : List Union) (t t' : Filed) (xs ys : List Pending) (list : List ℕ) (from : ℕ) → FiledGrows t t' → Begins xs ys
    → FilesWherePart ps us t t' ys (get_or list from 0) → All (TakesPart ps) t.points → AreFiled ps us t xs list from → AreFiled ps us t' ys list (from + 1)
filed_step ps us t t' xs ys list from grows b files part filed =
    let size : length t.hashes ≡ length t.points = filed.sizes in
    let i : ℕ = get_or list from 0 in
    let old : OneOf ps us t ys list (from + 1) = step_one ps us t t' xs ys list from size grows b files part filed in
    record { sizes = sizes_now i files; found = step_found ps us t t' xs ys list from size grows b files filed; one = one_now i files old }
  where
    one_now : (i : ℕ) → FilesWherePart ps us t t' ys i → OneOf ps us t ys list (from + 1) → OneOf ps us t' ys list (from + 1)
    one_now i (inr none) old = subst (λ (v : Filed). OneOf ps us v ys list (from + 1)) (sym none.1) old
    one_now i (inl f) old = elim f.1.added [
      | inl same ↦ subst (λ (v : Filed). OneOf ps us v ys list (from + 1)) (sym same) old
      | inr new ↦ added_one ps us t t' ys list from i filed.sizes new old
    ]

    sizes_now : (i : ℕ) → FilesWherePart ps us t t' ys i → length t'.hashes ≡ length t'.points
    sizes_now i (inr none) = subst (λ (v : Filed). length v.hashes ≡ length v.points) (sym none.1) filed.sizes
    sizes_now i (inl f) = elim f.1.added [
      | inl same ↦ subst (λ (v : Filed). length v.hashes ≡ length v.points) (sym same) filed.sizes
      | inr new ↦ omega (arith, ap length new.0, ap length new.1, length_push t.points i, length_push t.hashes (signature_hash (signature ps us i)), filed.sizes)
    ]

pub filed_done : (ps : List Point) (us : List Union) (t : Filed) (xs : List Pending) (list : List ℕ) (from : ℕ) → length list ≤ from → AreFiled ps us t xs list from → AreFiled ps us t xs [] 0
filed_done ps us t xs list from le filed = record {
  sizes = filed.sizes;
  found = λ i within takes. elim (filed.found i within takes) [
    | inl w ↦ absurd (omega (arith, w.1, w.2))
    | inr f ↦ inr f
  ];
  one = λ j k less_j less_k e hash_j hash_k. elim (filed.one j k less_j less_k e hash_j hash_k) [
    | inl w ↦ absurd (omega (arith, w.1, w.2))
    | inr f ↦ elim f [
      | inl w ↦ absurd (omega (arith, w.1, w.2))
      | inr tied ↦ inr (inr tied)
    ]
  ];
}

pub grows_on : (t u v : Filed) → FiledGrows t u → FiledGrows u v → FiledGrows t v
grows_on t u v a b = record { hashes = begins_on t.hashes u.hashes v.hashes a.hashes b.hashes; points = begins_on t.points u.points v.points a.points b.points }

-- ---- what filing does

pub file_new : (ps : List Point) (us : List Union) (t t' : Filed) (xs : List Pending) (i hash : ℕ) → length t.hashes ≡ length t.points → hash ≡ signature_hash (signature ps us i) → Pairs ps us t xs hash i 0 false
    → t' ≡ record { hashes = t.hashes ++ hash ∷ []; points = t.points ++ i ∷ [] } → Files ps us t t' xs i
file_new ps us t t' xs i hash size e pairs new =
    let ps' : t'.points ≡ t.points ++ i ∷ [] = ap (λ (v : Filed). v.points) new in
    let hs' : t'.hashes ≡ t.hashes ++ hash ∷ [] = ap (λ (v : Filed). v.hashes) new in
    let at : get_or t'.points (length t.points) 0 ≡ i = ap (λ l. get_or l (length t.points) 0) ps' ∙ get_or_push t.points i 0 (length t.points) refl in
    record {
      tied = λ k less is one. pairs.tied k (omega arith) less (is ∙ sym e) one;
      found = record {
        at = length t.points;
        within = omega (arith, ap length ps', length_push t.points i);
        hash = ap (λ l. get_or l (length t.points) 0) hs' ∙ get_or_push t.hashes hash 0 (length t.points) size ∙ e;
        one = ap (signature ps us) at;
        tied = λ class r. ap class at;
      };
      added = inr (ps', hs' ∙ ap (λ h. t.hashes ++ h ∷ []) e, λ k less is. pairs.none refl k (omega arith) less (is ∙ sym e));
    }

pub file_old : (ps : List Point) (us : List Union) (t : Filed) (xs : List Pending) (i hash : ℕ) → hash ≡ signature_hash (signature ps us i) → Pairs ps us t xs hash i 0 true → Files ps us t t xs i
file_old ps us t xs i hash e pairs =
    let old = pairs.some refl in
    record {
      tied = λ k less is one. pairs.tied k (omega arith) less (is ∙ sym e) one;
      found = record { at = old.0; within = old.1; hash = old.2 ∙ e; one = old.3; tied = old.4 };
      added = inl refl;
    }
