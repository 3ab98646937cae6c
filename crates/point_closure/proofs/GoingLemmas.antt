-- What stands while classes are joined.
use Rattle.std.proofs.Common.{◌≡◌, ◌≢◌, ℕ, zero, suc, ◌+◌, ◌<◌, ◌⊎◌, List, [], ◌∷◌, ◌++◌, length, map, get_or, All, refl, sym, ap, ◌∙◌, subst, inl, inr, arith}
use Rattle.std.specs.Prelude.{IsTrue, Contains}
use Rattle.std.proofs.lemmas.Bool.{cases_eq, cases_lt}
use Rattle.std.proofs.lemmas.List.{get_or_append_left, get_or_push, length_push, append_assoc}
use Rattle.std.proofs.lemmas.List.Elements.{Contains-append_left, Contains-append_right, Contains-append_cases, Contains-push, All-append, All-push}
use Rattle.point_closure.specs.declared.classes.Union.{Union}
use Rattle.point_closure.specs.declared.shape.Shape.{Shape}
use Rattle.point_closure.specs.declared.step.Step.{Step}
use Rattle.point_closure.specs.declared.step.Step.TheVariants.{Merge, Differ}
use Rattle.point_closure.specs.Closure.{Point, Pair, point_at, takes_part, AreAlike}
use Rattle.point_closure.specs.Unions.{root_of, after}
use Rattle.point_closure.specs.Explained.{merged, step_pairs}
use Rattle.point_closure.specs.Laws.{AreAtRest}
use Rattle.point_closure.proofs.UnionLemmas.{root_push, after_other, after_gone}
use Rattle.point_closure.proofs.ClosureLaws.{point_within}
use Rattle.point_closure.specs.declared.pending.Pending.{Pending}
use Rattle.point_closure.specs.declared.watch.Watch.{Watch}
use Rattle.point_closure.specs.declared.lists.Change.{Change}
use Rattle.point_closure.specs.declared.lists.Change.TheVariants.{Put, Join}
use Rattle.point_closure.specs.Lists.{list_from, list_of, changed}
use Rattle.point_closure.specs.Signature.{Signature, signature, signature_hash, Filed}
use Rattle.point_closure.specs.Rest.{Begins, AreTied, AreFiled, WatchesAre, AreMet, Meets, IsAcross, PutsBelow, Puts, TakesPart, watch_at}
use Rattle.point_closure.specs.State.{State, Stands, IsAtRest, AreWatched}
use Rattle.point_closure.proofs.ListsLemmas.{list_push, join_here, join_other, put_here, put_other}
use Rattle.point_closure.proofs.SignatureLemmas.{map_from}
use Rattle.point_closure.proofs.RestLemmas.{tied_more, tied_on, tied_done, tied_pending, root_tied, same_on}
use Rattle.point_closure.proofs.FileLemmas.{filed_on}

-- ---- the items of the lists

pub list_below : (n : ℕ) (cs : List Change) (r : ℕ) → All (PutsBelow n) cs → All (λ x. x < n) (list_of cs r)
unfolding list_from
list_below n cs r all = from_below (λ k. []) cs r (λ k i d less. absurd (omega arith)) all
  where
    changed_below : (f : ℕ → List ℕ) (c : Change) (r : ℕ) → ((k : ℕ) → All (λ x. x < n) (f k)) → PutsBelow n c → All (λ x. x < n) (changed f c r)
    changed_below f (Put c x) r below is = elim (cases_eq r c) [
      | inl here ↦ subst (λ l. All (λ x. x < n) l) (sym (put_here f c x r here)) (All-push (λ x. x < n) (f r) x (below r) is)
      | inr other ↦ subst (λ l. All (λ x. x < n) l) (sym (put_other f c x r other)) (below r)
    ]
    changed_below f (Join k g) r below is = elim (cases_eq r k) [
      | inl here ↦ subst (λ l. All (λ x. x < n) l) (sym (join_here f k g r here)) (All-append (λ x. x < n) (f r) (f g) (below r) (below g))
      | inr other ↦ subst (λ l. All (λ x. x < n) l) (sym (join_other f k g r other)) (below r)
    ]

    from_below : (f : ℕ → List ℕ) (cs : List Change) (r : ℕ) → ((k : ℕ) → All (λ x. x < n) (f k)) → All (PutsBelow n) cs → All (λ x. x < n) (list_from f cs r)
    from_below f [] r below all = below r
    from_below f (c ∷ cs) r below all = from_below (changed f c) cs r (λ k. changed_below f c k below (all 0 c (omega arith))) (λ k d less. all (suc k) d (omega arith))

pub gone_stays : (cs : List Change) (k g : ℕ) → g ≢ k → list_of (cs ++ Join k g ∷ []) g ≡ list_of cs g
gone_stays cs k g other = list_push cs (Join k g) g ∙ join_other (list_of cs) k g g other

cover_join : (cs : List Change) (us : List Union) (u : Union) (a x : ℕ) → u.gone ≢ u.kept → Contains (list_of cs (root_of us a)) x → Contains (list_of (cs ++ Join u.kept u.gone ∷ []) (root_of (us ++ u ∷ []) a)) x
cover_join cs us u a x different has =
    let c : Change = Join u.kept u.gone in
    elim (cases_eq (root_of us a) u.gone) [
      | inl gone ↦
          let now : root_of (us ++ u ∷ []) a ≡ u.kept = root_push us u a ∙ after_gone u (root_of us a) (sym gone) in
          subst (λ l. Contains l x) (sym (ap (list_of (cs ++ c ∷ [])) now ∙ list_push cs c u.kept ∙ join_here (list_of cs) u.kept u.gone u.kept refl))
          (Contains-append_right (list_of cs u.kept) (list_of cs u.gone) x (subst (λ r. Contains (list_of cs r) x) gone has))
      | inr stays ↦
          let r : ℕ = root_of us a in
          let now : root_of (us ++ u ∷ []) a ≡ r = root_push us u a ∙ after_other u (root_of us a) (λ e. stays (sym e)) in
          elim (cases_eq r u.kept) [
            | inl here ↦ subst (λ l. Contains l x) (sym (ap (list_of (cs ++ c ∷ [])) now ∙ list_push cs c r ∙ join_here (list_of cs) u.kept u.gone r here))
                (Contains-append_left (list_of cs r) (list_of cs u.gone) x has)
            | inr other ↦ subst (λ l. Contains l x) (sym (ap (list_of (cs ++ c ∷ [])) now ∙ list_push cs c r ∙ join_other (list_of cs) u.kept u.gone r other)) has
          ]
    ]

pub cover_put : (cs : List Change) (k y r x : ℕ) → Contains (list_of cs r) x → Contains (list_of (cs ++ Put k y ∷ []) r) x
cover_put cs k y r x has = elim (cases_eq r k) [
  | inl here ↦ subst (λ l. Contains l x) (sym (list_push cs (Put k y) r ∙ put_here (list_of cs) k y r here)) (Contains-append_left (list_of cs r) (y ∷ []) x has)
  | inr other ↦ subst (λ l. Contains l x) (sym (list_push cs (Put k y) r ∙ put_other (list_of cs) k y r other)) has
]

pub cover_new : (cs : List Change) (k y : ℕ) → Contains (list_of (cs ++ Put k y ∷ []) k) y
cover_new cs k y = subst (λ l. Contains l y) (sym (list_push cs (Put k y) k ∙ put_here (list_of cs) k y k refl)) (Contains-push (list_of cs k) y)

pub puts_start : (us : List Union) (args : List ℕ) (point : ℕ) (cs : List Change) → Puts us args point 0 cs cs
puts_start us args point cs = record { old = λ r x has. has; new = λ a less. absurd (omega arith) }

pub puts_step : (us : List Union) (args : List ℕ) (point n k : ℕ) (cs ds : List Change) → k ≡ root_of us (get_or args n 0) → Puts us args point n cs ds → Puts us args point (n + 1) cs (ds ++ Put k point ∷ [])
puts_step us args point n k cs ds e puts = record {
  old = λ r x has. cover_put ds k point r x (puts.old r x has);
  new = λ a less. elim (cases_lt a n) [
    | inl before ↦ cover_put ds k point (root_of us (get_or args a 0)) point (puts.new a before)
    | inr above ↦ subst (λ r. Contains (list_of (ds ++ Put k point ∷ []) r) point) (e ∙ ap (λ m. root_of us (get_or args m 0)) (let last : n ≡ a = omega arith in last)) (cover_new ds k point)
  ];
}

-- ---- one more union

met_join : (ws : List Watch) (us : List Union) (u : Union) (cs : List Change) (met met' : List ℕ) → AreMet ws us met → WatchesAre ws us cs → Meets ws us u.kept u.gone met met'
    → ((k : ℕ) → Contains (list_of cs u.gone) k → IsAcross us u.kept u.gone (watch_at ws k) → Contains met' k) → AreMet ws (us ++ u ∷ []) met'
met_join ws us u cs met met' old watched meets all = record {
  each = λ k has. elim (meets.each k has) [
    | inl before ↦ let h = old.each k before in (h.0, same_on us u (watch_at ws k).left (watch_at ws k).right h.1)
    | inr new ↦ (new.0, across (watch_at ws k).left (watch_at ws k).right new.1)
  ];
  all = λ k less e.
      let a : ℕ = (watch_at ws k).left in
      let b : ℕ = (watch_at ws k).right in
      let e' : after u (root_of us a) ≡ after u (root_of us b) = sym (root_push us u a) ∙ e ∙ root_push us u b in
      elim (cases_eq (root_of us a) u.gone) [
        | inl a_gone ↦ elim (cases_eq (root_of us b) u.gone) [
          | inl b_gone ↦ meets.before k (old.all k less (a_gone ∙ sym b_gone))
          | inr b_stays ↦ all k (subst (λ r. Contains (list_of cs r) k) a_gone (watched k less).0)
              (inl (a_gone, sym (after_other u (root_of us b) (λ h. b_stays (sym h))) ∙ sym e' ∙ after_gone u (root_of us a) (sym a_gone)))
        ]
        | inr a_stays ↦ elim (cases_eq (root_of us b) u.gone) [
          | inl b_gone ↦ all k (subst (λ r. Contains (list_of cs r) k) b_gone (watched k less).1)
              (inr (sym (after_other u (root_of us a) (λ h. a_stays (sym h))) ∙ e' ∙ after_gone u (root_of us b) (sym b_gone), b_gone))
          | inr b_stays ↦ meets.before k (old.all k less (sym (after_other u (root_of us a) (λ h. a_stays (sym h))) ∙ e' ∙ after_other u (root_of us b) (λ h. b_stays (sym h))))
        ]
      ];
}
  where
    after_kept : (r : ℕ) → r ≡ u.kept → after u r ≡ u.kept
    after_kept r e = elim (cases_eq r u.gone) [
      | inl gone ↦ after_gone u r (sym gone)
      | inr other ↦ after_other u r (λ h. other (sym h)) ∙ e
    ]

    across : (a b : ℕ) → ((root_of us a ≡ u.gone) × (root_of us b ≡ u.kept)) ⊎ ((root_of us a ≡ u.kept) × (root_of us b ≡ u.gone)) → root_of (us ++ u ∷ []) a ≡ root_of (us ++ u ∷ []) b
    across a b (inl h) = root_push us u a ∙ after_gone u (root_of us a) (sym h.0) ∙ sym (after_kept (root_of us b) h.1) ∙ sym (root_push us u b)
    across a b (inr h) = root_push us u a ∙ after_kept (root_of us a) h.0 ∙ sym (after_gone u (root_of us b) (sym h.1)) ∙ sym (root_push us u b)

pub stands_joined : (ps : List Point) (log : List Step) (s : State) (pending : List Pending) (u : Union) (met' : List ℕ) → u.gone ≢ u.kept → All (TakesPart ps) s.points
    → Meets s.pairs s.unions u.kept u.gone s.met met' → ((k : ℕ) → Contains (list_of s.watches u.gone) k → IsAcross s.unions u.kept u.gone (watch_at s.pairs k) → Contains met' k)
    → Stands ps log s pending [] 0
    → Stands ps log (record { unions = s.unions ++ u ∷ []; hashes = s.hashes; points = s.points; uses = s.uses ++ Join u.kept u.gone ∷ []; watches = s.watches ++ Join u.kept u.gone ∷ []; pairs = s.pairs; met = met' })
    pending (list_of (s.uses ++ Join u.kept u.gone ∷ []) u.gone) 0
stands_joined ps log s pending u met' different below meets all st = record {
  merges = λ p has. tied_on s.unions u pending p.left p.right (st.merges p has);
  filed = subst (λ l. AreFiled ps (s.unions ++ u ∷ []) (record { hashes = s.hashes; points = s.points }) pending l 0) (sym (gone_stays s.uses u.kept u.gone different))
      (filed_on ps s.unions u (record { hashes = s.hashes; points = s.points }) pending s.uses below st.uses st.filed);
  uses = λ i a within less. cover_join s.uses s.unions u (get_or (point_at ps i).arguments a 0) i different (st.uses i a within less);
  watched = λ k less. let h = st.watched k less in
      (cover_join s.watches s.unions u (watch_at s.pairs k).left k different h.0, cover_join s.watches s.unions u (watch_at s.pairs k).right k different h.1);
  met = met_join s.pairs s.unions u s.watches s.met met' st.met st.watched meets all;
  differs = st.differs;
  slots = All-push (PutsBelow (length s.pairs)) s.watches (Join u.kept u.gone) st.slots tt;
}

pub stands_refiled : (ps : List Point) (log : List Step) (s : State) (t : Filed) (xs ys : List Pending) (list : List ℕ) (from : ℕ) → Begins xs ys → AreFiled ps s.unions t ys [] 0 → Stands ps log s xs list from
    → Stands ps log (record { unions = s.unions; hashes = t.hashes; points = t.points; uses = s.uses; watches = s.watches; pairs = s.pairs; met = s.met }) ys [] 0
stands_refiled ps log s t xs ys list from b filed st = record {
  merges = λ p has. tied_more s.unions xs ys p.left p.right b (st.merges p has);
  filed = filed;
  uses = st.uses;
  watched = st.watched;
  met = st.met;
  differs = st.differs;
  slots = st.slots;
}

-- once the pending pairs are in one class, all is at rest
pub stands_done : (ps : List Point) (log : List Step) (s : State) (xs : List Pending) → ((k : ℕ) (d : Pending) → k < length xs → root_of s.unions (get_or xs k d).left ≡ root_of s.unions (get_or xs k d).right)
    → Stands ps log s xs [] 0 → IsAtRest ps log s
stands_done ps log s xs done st = record {
  merges = λ p has. tied_done s.unions xs p.left p.right done (st.merges p has);
  filed = record {
    sizes = st.filed.sizes;
    found = λ i within takes. elim (st.filed.found i within takes) [
      | inl w ↦ inl w
      | inr f ↦ inr (record { at = f.at; within = f.within; hash = f.hash; one = f.one; tied = tied_done s.unions xs (get_or s.points f.at 0) i done f.tied })
    ];
    one = λ j k less_j less_k e hash_j hash_k. elim (st.filed.one j k less_j less_k e hash_j hash_k) [
      | inl w ↦ inl w
      | inr f ↦ elim f [
        | inl w ↦ inr (inl w)
        | inr tied ↦ inr (inr (tied_done s.unions xs (get_or s.points j 0) (get_or s.points k 0) done tied))
      ]
    ];
  };
  uses = st.uses;
  watched = st.watched;
  met = st.met;
  differs = st.differs;
  slots = st.slots;
}

-- more pairs are pending
pub stands_more : (ps : List Point) (log : List Step) (s : State) (xs ys : List Pending) (list : List ℕ) (from : ℕ) → Begins xs ys → Stands ps log s xs list from → Stands ps log s ys list from
stands_more ps log s xs ys list from b st = record {
  merges = λ p has. tied_more s.unions xs ys p.left p.right b (st.merges p has);
  filed = record {
    sizes = st.filed.sizes;
    found = λ i within takes. elim (st.filed.found i within takes) [
      | inl w ↦ inl w
      | inr f ↦ inr (record { at = f.at; within = f.within; hash = f.hash; one = f.one; tied = tied_more s.unions xs ys (get_or s.points f.at 0) i b f.tied })
    ];
    one = λ j k less_j less_k e hash_j hash_k. elim (st.filed.one j k less_j less_k e hash_j hash_k) [
      | inl w ↦ inl w
      | inr f ↦ elim f [
        | inl w ↦ inr (inl w)
        | inr tied ↦ inr (inr (tied_more s.unions xs ys (get_or s.points j 0) (get_or s.points k 0) b tied))
      ]
    ];
  };
  uses = st.uses;
  watched = st.watched;
  met = st.met;
  differs = st.differs;
  slots = st.slots;
}

-- ---- one more step

pub merged_append : (log more' : List Step) → merged (log ++ more') ≡ merged log ++ merged more'
merged_append [] more' = refl
merged_append (t ∷ ts) more' = ap (λ l. step_pairs t ++ l) (merged_append ts more') ∙ sym (append_assoc (step_pairs t) (merged ts) (merged more'))

-- a step that merges watches nothing
watched_merge : (log : List Step) (i j : ℕ) (ws : List Watch) → AreWatched log ws → AreWatched (log ++ Merge i j ∷ []) ws
watched_merge log i j ws w = record {
  steps = λ s a b less is. elim (cases_lt s (length log)) [
    | inl before ↦ w.steps s a b before (sym (get_or_append_left log (Merge i j ∷ []) (Differ 0 0) s before) ∙ is)
    | inr above ↦ absurd (no_differ (sym (get_or_push log (Merge i j) (Differ 0 0) s (omega (arith, length_push log (Merge i j)))) ∙ is))
  ];
  pairs = λ k less. let h = w.pairs k less in let l : (watch_at ws k).step < length log = h.0 in
      (omega (arith, length_push log (Merge i j)), get_or_append_left log (Merge i j ∷ []) (Differ 0 0) (watch_at ws k).step h.0 ∙ h.1);
}
  where
    no_differ : {a b : ℕ} → Merge i j ≡ Differ a b → ⊥
    no_differ e = cc

pub stands_merge : (ps : List Point) (log : List Step) (s : State) (xs : List Pending) (p : Pending) → IsAtRest ps log s → Stands ps (log ++ Merge p.left p.right ∷ []) s (xs ++ p ∷ []) [] 0
stands_merge ps log s xs p rest =
    let st : Stands ps log s (xs ++ p ∷ []) [] 0 = stands_more ps log s [] (xs ++ p ∷ []) [] 0 refl rest in
    record {
      merges = λ q has. elim (Contains-append_cases (merged log) (merged (Merge p.left p.right ∷ [])) q (subst (λ l. Contains l q) (merged_append log (Merge p.left p.right ∷ [])) has)) [
        | inl old ↦ st.merges q old
        | inr new ↦ subst (λ (r : Pair). AreTied s.unions (xs ++ p ∷ []) r.left r.right) (only q new) (tied_pending s.unions xs p)
      ];
      filed = st.filed;
      uses = st.uses;
      watched = st.watched;
      met = st.met;
      differs = watched_merge log p.left p.right s.pairs st.differs;
      slots = st.slots;
    }
  where
    only : (q : Pair) → Contains (record { left = p.left; right = p.right } ∷ []) q → record { left = p.left; right = p.right } ≡ q
    only q has = first_of has.0 has.1 has.2
      where
        first_of : (k : ℕ) → k < 1 → get_or (record { left = p.left; right = p.right } ∷ []) k q ≡ q → record { left = p.left; right = p.right } ≡ q
        first_of zero less e = e
        first_of (suc k) less e = absurd (omega arith)

-- ---- at rest the classes are the closure

abbrev signature_with : Shape → List ℕ → Signature
signature_with x cs = record { shape = x; classes = cs }

pub rest_is : (ps : List Point) (log : List Step) (s : State) → IsAtRest ps log s → AreAtRest ps log s.unions
rest_is ps log s rest = record {
  merges = λ p has. root_tied s.unions p.left p.right (rest.merges p has);
  congruent = λ i j alike each.
      let takes_j : IsTrue (takes_part (point_at ps j).shape) = subst (λ x. IsTrue (takes_part x)) alike.shape alike.takes in
      let one : signature ps s.unions i ≡ signature ps s.unions j = same_signature (point_at ps i) (point_at ps j) alike each in
      elim (rest.filed.found i (point_within ps i alike.takes) alike.takes) [
        | inl w ↦ absurd (omega (arith, w.2))
        | inr f ↦ elim (rest.filed.found j (point_within ps j takes_j) takes_j) [
          | inl w ↦ absurd (omega (arith, w.2))
          | inr g ↦ elim (rest.filed.one f.at g.at f.within g.within (f.one ∙ one ∙ sym g.one) (f.hash ∙ ap signature_hash (sym f.one)) (g.hash ∙ ap signature_hash (sym g.one))) [
            | inl w ↦ absurd (omega (arith, w.2))
            | inr h ↦ elim h [
              | inl w ↦ absurd (omega (arith, w.2))
              | inr tied ↦ sym (root_tied s.unions (get_or s.points f.at 0) i f.tied) ∙ root_tied s.unions (get_or s.points f.at 0) (get_or s.points g.at 0) tied ∙ root_tied s.unions (get_or s.points g.at 0) j g.tied
            ]
          ]
        ]
      ];
}
  where
    same_signature : (p q : Point) → AreAlike p q → ((k : ℕ) → k < length p.arguments → root_of s.unions (get_or p.arguments k 0) ≡ root_of s.unions (get_or q.arguments k 0))
        → signature_with p.shape (map (root_of s.unions) p.arguments) ≡ signature_with q.shape (map (root_of s.unions) q.arguments)
    same_signature p q alike each =
        ap (λ x. signature_with x (map (root_of s.unions) p.arguments)) alike.shape ∙ ap (signature_with q.shape) (map_from (root_of s.unions) p.arguments q.arguments alike.count each)
