-- Back to a mark; one more point, one more watched pair.
use Rattle.std.proofs.Common.{◌≡◌, ℕ, ◌+◌, ◌<◌, ◌≤◌, ◌⊎◌, List, [], ◌∷◌, ◌++◌, length, take, map, get_or, All, refl, sym, ap, ◌∙◌, subst, inl, inr, arith}
use Rattle.std.specs.Prelude.{IsTrue, Contains}
use Rattle.std.proofs.lemmas.Bool.{cases_lt}
use Rattle.std.proofs.lemmas.List.{get_or_append_left, get_or_push, length_push, take_all, append-nil, take_at, take-take, get_or-take, length-take-le}
use Rattle.std.proofs.lemmas.List.Elements.{All-push, All-take, Contains-append_left, Contains-push, Contains-push_cases}
use Rattle.point_closure.specs.declared.classes.Union.{Union}
use Rattle.point_closure.specs.declared.shape.Shape.TheVariants.{Leaf}
use Rattle.point_closure.specs.declared.step.Step.{Step}
use Rattle.point_closure.specs.declared.step.Step.TheVariants.{Merge, Differ}
use Rattle.point_closure.specs.Closure.{Point, point_at, takes_part}
use Rattle.point_closure.specs.Unions.{root_of, IsUnion, AreUnions}
use Rattle.point_closure.specs.Explained.{merged, step_at, StepsAreMerges}
use Rattle.point_closure.specs.declared.pending.Pending.{Pending}
use Rattle.point_closure.specs.declared.pending.Mark.{Mark}
use Rattle.point_closure.specs.declared.watch.Watch.{Watch}
use Rattle.point_closure.specs.declared.lists.Change.{Change}
use Rattle.point_closure.specs.declared.lists.Change.TheVariants.{Put, Join}
use Rattle.point_closure.specs.Lists.{list_of}
use Rattle.point_closure.specs.Signature.{Signature, signature, signature_hash}
use Rattle.point_closure.specs.Rest.{Begins, UsesAre, WatchesAre, AreMet, PutsBelow, Puts, TakesPart, watch_at}
use Rattle.point_closure.specs.State.{State, Stands, IsAtRest, AreWatched, Grows, IsFull, Fits, cut, Watches, watched, IsMetAtOnce}
use Rattle.point_closure.specs.Whole.{AreParts, IsLast}
use Rattle.point_closure.proofs.RestLemmas.{begins_itself, begins_append}
use Rattle.point_closure.proofs.StateLemmas.{cut_grows, cut_full, fits_full, marks_cut, marks_grow}
use Rattle.point_closure.proofs.SoundLemmas.{alike_take, alike_wider}
use Rattle.point_closure.proofs.GoingLemmas.{cover_put, cover_new, merged_append, stands_more, stands_merge}

-- ---- back to a mark

back : (m : Mark) (s s' : State) → IsFull m s → Grows s s' → cut m s' ≡ s
back m s s' full grows = cut_grows m s s' (fits_full m s full) grows ∙ cut_full m s full

pub parts_back : (ps ps' : List Point) (log log' : List Step) (s s' : State) (ms ms' : List Mark) (m : Mark) (n : ℕ) → take n ps' ≡ ps → log' ≡ log → ms' ≡ ms → IsFull m s → Grows s s'
    → AreParts ps log s ms → AreParts (take n ps') log' (cut m s') ms'
parts_back ps ps' log log' s s' ms ms' m n p l e full grows parts =
    subst (λ qs. AreParts qs log' (cut m s') ms') (sym p)
    (subst (λ x. AreParts ps x (cut m s') ms') (sym l)
    (subst (λ (x : State). AreParts ps log x ms') (sym (back m s s' full grows))
    (subst (λ (x : List Mark). AreParts ps log s x) (sym e) parts)))

pub rest_back : (ps ps' : List Point) (log log' : List Step) (s s' : State) (m : Mark) (n : ℕ) → take n ps' ≡ ps → log' ≡ log → IsFull m s → Grows s s' → IsAtRest ps log s → IsAtRest (take n ps') log' (cut m s')
rest_back ps ps' log log' s s' m n p l full grows rest =
    subst (λ qs. IsAtRest qs log' (cut m s')) (sym p) (subst (λ x. IsAtRest ps x (cut m s')) (sym l) (subst (λ (x : State). IsAtRest ps log x) (sym (back m s s' full grows)) rest))

pub unions_back : (m : Mark) (s s' : State) → IsFull m s → Grows s s' → take m.unions s'.unions ≡ s.unions
unions_back m s s' full grows = ap (λ (x : State). x.unions) (back m s s' full grows)

-- ---- undone to a step

pub parts_cut : (ps : List Point) (log : List Step) (s : State) (ms : List Mark) (d : ℕ) (m : Mark) → d < length ms → get_or ms d m ≡ m → AreParts ps log s ms → AreParts ps (take d log) (cut m s) (take d ms)
parts_cut ps log s ms d m less is w =
    let fits : Fits m s = subst (λ (x : Mark). Fits x s) is (w.marks.at d m less).fits in
    record {
      owners = All-take (PutsBelow (length ps)) m.uses s.uses w.owners;
      slots = subst (λ (x : Mark). All (PutsBelow (length (take x.pairs s.pairs))) (take x.watches s.watches)) is (w.marks.at d m less).rest.slots;
      ends = All-take (λ (x : Watch). (x.left < length ps) × (x.right < length ps)) m.pairs s.pairs w.ends;
      filed = All-take (TakesPart ps) m.filed s.points w.filed;
      alike = alike_take ps s.unions m.unions w.alike fits.unions;
      merges = subst (λ (x : Mark). StepsAreMerges (take d log) (take x.unions s.unions)) is (w.marks.at d m less).merges;
      marks = marks_cut ps log s ms d m less is w.marks;
    }

-- ---- one more watched pair

-- a place of the longer list: one of before, or the last
watch_of : (ws : List Watch) (w : Watch) (k : ℕ) → k < length (ws ++ w ∷ []) → ((k < length ws) × (watch_at (ws ++ w ∷ []) k ≡ watch_at ws k)) ⊎ ((k ≡ length ws) × (watch_at (ws ++ w ∷ []) k ≡ w))
watch_of ws w k less = elim (cases_lt k (length ws)) [
  | inl before ↦ inl (before, get_or_append_left ws (w ∷ []) (record { left = 0; right = 0; step = 0 }) k before)
  | inr above ↦ let last : k ≡ length ws = omega (arith, length_push ws w) in inr (last, get_or_push ws w (record { left = 0; right = 0; step = 0 }) k (sym last))
]

watched_lists : (s : State) (w : Watch) → WatchesAre s.pairs s.unions s.watches
    → WatchesAre (s.pairs ++ w ∷ []) s.unions ((s.watches ++ Put (root_of s.unions w.left) (length s.pairs) ∷ []) ++ Put (root_of s.unions w.right) (length s.pairs) ∷ [])
watched_lists s w old k less =
    let n : ℕ = length s.pairs in
    let l : ℕ = root_of s.unions w.left in
    let r : ℕ = root_of s.unions w.right in
    let cs = s.watches ++ Put l n ∷ [] in
    elim (watch_of s.pairs w k less) [
      | inl h ↦
          let both = old k h.0 in
          subst (λ (v : Watch). Contains (list_of (cs ++ Put r n ∷ []) (root_of s.unions v.left)) k × Contains (list_of (cs ++ Put r n ∷ []) (root_of s.unions v.right)) k) (sym h.1) (
            cover_put cs r n (root_of s.unions (watch_at s.pairs k).left) k (cover_put s.watches l n (root_of s.unions (watch_at s.pairs k).left) k both.0),
            cover_put cs r n (root_of s.unions (watch_at s.pairs k).right) k (cover_put s.watches l n (root_of s.unions (watch_at s.pairs k).right) k both.1),
          )
      | inr h ↦
          subst (λ (v : Watch). Contains (list_of (cs ++ Put r n ∷ []) (root_of s.unions v.left)) k × Contains (list_of (cs ++ Put r n ∷ []) (root_of s.unions v.right)) k) (sym h.1)
          (subst (λ m. Contains (list_of (cs ++ Put r n ∷ []) l) m × Contains (list_of (cs ++ Put r n ∷ []) r) m) (sym h.0)
          (cover_put cs r n l n (cover_new s.watches l n), cover_new cs r n))
    ]

watched_met : (s : State) (w : Watch) (met' : List ℕ) → IsMetAtOnce s w met' → AreMet s.pairs s.unions s.met → AreMet (s.pairs ++ w ∷ []) s.unions met'
watched_met s w met' (inl now) old = subst (λ l. AreMet (s.pairs ++ w ∷ []) s.unions l) (sym now.1) (record {
  each = λ k has. elim (Contains-push_cases s.met (length s.pairs) k has) [
    | inl before ↦ old_met s w old k before
    | inr e ↦ (omega (arith, length_push s.pairs w), subst (λ (v : Watch). root_of s.unions v.left ≡ root_of s.unions v.right) (sym (get_or_push s.pairs w (record { left = 0; right = 0; step = 0 }) k e)) now.0)
  ];
  all = λ k less e. elim (watch_of s.pairs w k less) [
    | inl h ↦ Contains-append_left s.met (length s.pairs ∷ []) k (old.all k h.0 (subst (λ (v : Watch). root_of s.unions v.left ≡ root_of s.unions v.right) h.1 e))
    | inr h ↦ subst (λ n. Contains (s.met ++ length s.pairs ∷ []) n) (sym h.0) (Contains-push s.met (length s.pairs))
  ];
})
  where
    old_met : (s : State) (w : Watch) → AreMet s.pairs s.unions s.met → (k : ℕ) → Contains s.met k → (k < length (s.pairs ++ w ∷ [])) × (root_of s.unions (watch_at (s.pairs ++ w ∷ []) k).left ≡ root_of s.unions (watch_at (s.pairs ++ w ∷ []) k).right)
    old_met s w old k has =
        let h = old.each k has in
        let less : k < length s.pairs = h.0 in (
          omega (arith, length_push s.pairs w),
          subst (λ (v : Watch). root_of s.unions v.left ≡ root_of s.unions v.right) (sym (get_or_append_left s.pairs (w ∷ []) (record { left = 0; right = 0; step = 0 }) k h.0)) h.1,
        )
watched_met s w met' (inr later) old = subst (λ l. AreMet (s.pairs ++ w ∷ []) s.unions l) (sym later.1) (record {
  each = λ k has.
      let h = old.each k has in
      let less : k < length s.pairs = h.0 in (
        omega (arith, length_push s.pairs w),
        subst (λ (v : Watch). root_of s.unions v.left ≡ root_of s.unions v.right) (sym (get_or_append_left s.pairs (w ∷ []) (record { left = 0; right = 0; step = 0 }) k h.0)) h.1,
      );
  all = λ k less e. elim (watch_of s.pairs w k less) [
    | inl h ↦ old.all k h.0 (subst (λ (v : Watch). root_of s.unions v.left ≡ root_of s.unions v.right) h.1 e)
    | inr h ↦ absurd (later.0 (subst (λ (v : Watch). root_of s.unions v.left ≡ root_of s.unions v.right) h.1 e))
  ];
})

puts_wider : (m n : ℕ) (c : Change) → m ≤ n → PutsBelow m c → PutsBelow n c
puts_wider m n (Put k x) le is = omega arith
puts_wider m n (Join k g) le is = tt

pub all_puts_wider : (m n : ℕ) (cs : List Change) → m ≤ n → All (PutsBelow m) cs → All (PutsBelow n) cs
all_puts_wider m n cs le all k d less = puts_wider m n (get_or cs k d) le (all k d less)

slots_watched : (s : State) (w : Watch) → All (PutsBelow (length s.pairs)) s.watches
    → All (PutsBelow (length (s.pairs ++ w ∷ []))) ((s.watches ++ Put (root_of s.unions w.left) (length s.pairs) ∷ []) ++ Put (root_of s.unions w.right) (length s.pairs) ∷ [])
slots_watched s w all =
    let n : ℕ = length (s.pairs ++ w ∷ []) in
    let more : n ≡ length s.pairs + 1 = length_push s.pairs w in
    let less : length s.pairs < n = omega arith in
    All-push (PutsBelow n) (s.watches ++ Put (root_of s.unions w.left) (length s.pairs) ∷ []) (Put (root_of s.unions w.right) (length s.pairs))
    (All-push (PutsBelow n) s.watches (Put (root_of s.unions w.left) (length s.pairs)) (all_puts_wider (length s.pairs) n s.watches (omega arith) all) less) less

pub rest_watched : (ps : List Point) (log log' : List Step) (s : State) (w : Watch) (met' : List ℕ) → IsMetAtOnce s w met' → merged log' ≡ merged log → AreWatched log' (s.pairs ++ w ∷ []) → IsAtRest ps log s → IsAtRest ps log' (watched s w met')
rest_watched ps log log' s w met' met same differs rest = record {
  merges = λ p has. rest.merges p (subst (λ l. Contains l p) same has);
  filed = rest.filed;
  uses = rest.uses;
  watched = watched_lists s w rest.watched;
  met = watched_met s w met' met rest.met;
  differs = differs;
  slots = slots_watched s w rest.slots;
}

-- ---- a step that keeps points apart

abbrev watch_with : ℕ → ℕ → ℕ → Watch
watch_with i j n = record { left = i; right = j; step = n }

-- the pair is that of its step
abbrev IsWatchedAt : List Step → Watch → Type 0
IsWatchedAt log w = (w.step < length log) × (step_at log w.step ≡ Differ w.left w.right)

pub watched_differ : (log : List Step) (i j : ℕ) (ws : List Watch) → AreWatched log ws → AreWatched (log ++ Differ i j ∷ []) (ws ++ record { left = i; right = j; step = length log } ∷ [])
watched_differ log i j ws w =
    let t : Step = Differ i j in
    let v : Watch = record { left = i; right = j; step = length log } in
    record {
      steps = λ s a b less is. elim (cases_lt s (length log)) [
        | inl before ↦
            let h = w.steps s a b before (sym (get_or_append_left log (t ∷ []) (Differ 0 0) s before) ∙ is) in
            let l : h.0 < length ws = h.1 in
            (h.0, omega (arith, length_push ws v), get_or_append_left ws (v ∷ []) (record { left = 0; right = 0; step = 0 }) h.0 h.1 ∙ h.2)
        | inr above ↦
            let last : s ≡ length log = omega (arith, length_push log t) in
            let e : Differ i j ≡ Differ a b = sym (get_or_push log t (Differ 0 0) s (sym last)) ∙ is in
            (length ws, omega (arith, length_push ws v), get_or_push ws v (record { left = 0; right = 0; step = 0 }) (length ws) refl ∙ same_watch i j a b s e last)
      ];
      pairs = λ k less. elim (watch_of ws v k less) [
        | inl h ↦
            let old = w.pairs k h.0 in
            let l : (watch_at ws k).step < length log = old.0 in
            subst (IsWatchedAt (log ++ t ∷ [])) (sym h.1) (omega (arith, length_push log t), get_or_append_left log (t ∷ []) (Differ 0 0) (watch_at ws k).step old.0 ∙ old.1)
        | inr h ↦
            let l : length log < length (log ++ t ∷ []) = omega (arith, length_push log t) in
            subst (IsWatchedAt (log ++ t ∷ [])) (sym h.1) (l, get_or_push log t (Differ 0 0) (length log) refl)
      ];
    }
  where
    same_watch : (i j a b s : ℕ) → Differ i j ≡ Differ a b → s ≡ length log → watch_with i j (length log) ≡ watch_with a b s
    same_watch i j a b s e l = cc

pub merged_differ : (log : List Step) (i j : ℕ) → merged (log ++ Differ i j ∷ []) ≡ merged log
merged_differ log i j = merged_append log (Differ i j ∷ []) ∙ append-nil (merged log)

-- ---- one more point

point_left : (ps : List Point) (p : Point) (i : ℕ) → i < length ps → point_at (ps ++ p ∷ []) i ≡ point_at ps i
point_left ps p i less = get_or_append_left ps (p ∷ []) (record { shape = Leaf; arguments = [] }) i less

abbrev signature_of : List Union → Point → Signature
signature_of us q = record { shape = q.shape; classes = map (root_of us) q.arguments }

signature_left : (ps : List Point) (p : Point) (us : List Union) (i : ℕ) → i < length ps → signature (ps ++ p ∷ []) us i ≡ signature ps us i
signature_left ps p us i less = ap (signature_of us) (point_left ps p i less)

takes_left : (ps : List Point) (p : Point) (i : ℕ) → TakesPart ps i → TakesPart (ps ++ p ∷ []) i
takes_left ps p i h = let l : i < length ps = h.0 in (omega (arith, length_push ps p), subst (λ (q : Point). IsTrue (takes_part q.shape)) (sym (point_left ps p i h.0)) h.1)

pub filed_left : (ps : List Point) (p : Point) (xs : List ℕ) → All (TakesPart ps) xs → All (TakesPart (ps ++ p ∷ [])) xs
filed_left ps p xs all k d less = takes_left ps p (get_or xs k d) (all k d less)

pub ends_left : (ps : List Point) (p : Point) (ws : List Watch) → All (λ (w : Watch). (w.left < length ps) × (w.right < length ps)) ws → All (λ (w : Watch). (w.left < length (ps ++ p ∷ [])) × (w.right < length (ps ++ p ∷ []))) ws
ends_left ps p ws all k d less =
    let h = all k d less in
    let a : (get_or ws k d).left < length ps = h.0 in
    let b : (get_or ws k d).right < length ps = h.1 in
    (omega (arith, length_push ps p), omega (arith, length_push ps p))

abbrev pub with_uses : State → List Change → State
with_uses s cs = record { unions = s.unions; hashes = s.hashes; points = s.points; uses = cs; watches = s.watches; pairs = s.pairs; met = s.met }

pub uses_grow : (s : State) (cs : List Change) → Begins s.uses cs → Grows s (with_uses s cs)
uses_grow s cs b = record {
  unions = begins_itself s.unions;
  hashes = begins_itself s.hashes;
  points = begins_itself s.points;
  uses = b;
  watches = begins_itself s.watches;
  pairs = begins_itself s.pairs;
  met = begins_itself s.met;
}

pub parts_point : (ps : List Point) (p : Point) (log : List Step) (s : State) (ms : List Mark) (cs : List Change) → length log ≡ 0 → ((n : ℕ) → length ps < n → All (PutsBelow n) s.uses → All (PutsBelow n) cs)
    → AreParts ps log s ms → AreParts (ps ++ p ∷ []) log (with_uses s cs) ms
parts_point ps p log s ms cs none below w =
    let more : length (ps ++ p ∷ []) ≡ length ps + 1 = length_push ps p in
    let count : length ms ≡ length log = w.marks.count in
    record {
      owners = below (length (ps ++ p ∷ [])) (omega arith) (all_puts_wider (length ps) (length (ps ++ p ∷ [])) s.uses (omega arith) w.owners);
      slots = w.slots;
      ends = ends_left ps p s.pairs w.ends;
      filed = filed_left ps p s.points w.filed;
      alike = alike_wider ps p s.unions w.alike;
      merges = w.merges;
      marks = record { count = count; at = λ d m less. absurd (omega arith); ordered = λ i d m le less. absurd (omega arith) };
    }

pub stands_point : (ps : List Point) (p : Point) (log : List Step) (s : State) (cs : List Change) (xs : List Pending) → All (TakesPart ps) s.points → Puts s.unions p.arguments (length ps) (length p.arguments) s.uses cs → IsAtRest ps log s
    → Stands (ps ++ p ∷ []) log (with_uses s cs) xs (length ps ∷ []) 0
stands_point ps p log s cs xs part puts rest =
    let us = s.unions in
    let st : Stands ps log s xs [] 0 = stands_more ps log s [] xs [] 0 refl rest in
    let sig : (i : ℕ) → i < length ps → signature (ps ++ p ∷ []) us i ≡ signature ps us i = λ i less. signature_left ps p us i less in
    record {
      merges = st.merges;
      filed = record {
        sizes = st.filed.sizes;
        found = λ i within takes. elim (cases_lt i (length ps)) [
          | inl before ↦ elim (st.filed.found i before (subst (λ (q : Point). IsTrue (takes_part q.shape)) (point_left ps p i before) takes)) [
            | inl w ↦ absurd (omega (arith, w.2))
            | inr f ↦
                let less : get_or s.points f.at 0 < length ps = (part f.at 0 f.within).0 in
                inr (record {
                  at = f.at;
                  within = f.within;
                  hash = f.hash ∙ ap signature_hash (sym (sig i before));
                  one = sig (get_or s.points f.at 0) less ∙ f.one ∙ sym (sig i before);
                  tied = f.tied;
                })
          ]
          | inr above ↦ inl (0, omega arith, omega arith, (let last : length ps ≡ i = omega (arith, length_push ps p) in last))
        ];
        one = λ j k less_j less_k e hash_j hash_k.
            let lj : get_or s.points j 0 < length ps = (part j 0 less_j).0 in
            let lk : get_or s.points k 0 < length ps = (part k 0 less_k).0 in
            let sj = sig (get_or s.points j 0) lj in
            let sk = sig (get_or s.points k 0) lk in
            elim (st.filed.one j k less_j less_k (sym sj ∙ e ∙ sk) (hash_j ∙ ap signature_hash sj) (hash_k ∙ ap signature_hash sk)) [
              | inl w ↦ absurd (omega (arith, w.2))
              | inr f ↦ elim f [
                | inl w ↦ absurd (omega (arith, w.2))
                | inr tied ↦ inr (inr tied)
              ]
            ];
      };
      uses = λ i a within less. uses_left i a within less;
      watched = st.watched;
      met = st.met;
      differs = st.differs;
      slots = st.slots;
    }
  where
    uses_left : UsesAre (ps ++ p ∷ []) s.unions cs
    uses_left i a within less = elim (cases_lt i (length ps)) [
      | inl before ↦
          let e : point_at (ps ++ p ∷ []) i ≡ point_at ps i = point_left ps p i before in
          subst (λ (q : Point). Contains (list_of cs (root_of s.unions (get_or q.arguments a 0))) i) (sym e)
          (puts.old (root_of s.unions (get_or (point_at ps i).arguments a 0)) i (rest.uses i a before (subst (λ (q : Point). a < length q.arguments) e less)))
      | inr above ↦
          let last : length ps ≡ i = omega (arith, length_push ps p) in
          let e : point_at (ps ++ p ∷ []) i ≡ p = get_or_push ps p (record { shape = Leaf; arguments = [] }) i last in
          subst (λ (q : Point). Contains (list_of cs (root_of s.unions (get_or q.arguments a 0))) i) (sym e)
          (subst (λ n. Contains (list_of cs (root_of s.unions (get_or p.arguments a 0))) n) last (puts.new a (subst (λ (q : Point). a < length q.arguments) e less)))
    ]

-- ---- the last step is done

before_last : (log : List Step) (index : ℕ) (t : Step) (last : IsLast log index t) → take index log ++ t ∷ [] ≡ log
before_last log index t last =
    let at : take index log ≡ last.0 = ap (λ l. take index l) last.1 ∙ take_at last.0 (t ∷ []) index (sym last.2) in
    ap (λ l. l ++ t ∷ []) at ∙ sym last.1

index_is : (log : List Step) (index : ℕ) (t : Step) (last : IsLast log index t) → length (take index log) ≡ index
index_is log index t last =
    let at : take index log ≡ last.0 = ap (λ l. take index l) last.1 ∙ take_at last.0 (t ∷ []) index (sym last.2) in
    ap length at ∙ sym last.2

pub merge_stands : (ps ps' : List Point) (log log' : List Step) (s s' : State) (xs : List Pending) (p : Pending) (index : ℕ) → ps' ≡ ps → log' ≡ log → s' ≡ s → xs ≡ p ∷ [] → IsLast log index (Merge p.left p.right)
    → IsAtRest ps (take index log) s → Stands ps' log' s' xs [] 0
merge_stands ps ps' log log' s s' xs p index e l q x last rest =
    subst (λ qs. Stands qs log' s' xs [] 0) (sym e)
    (subst (λ y. Stands ps y s' xs [] 0) (sym (l))
    (subst (λ (y : State). Stands ps log y xs [] 0) (sym q)
    (subst (λ (ys : List Pending). Stands ps log s ys [] 0) (sym x)
    (subst (λ y. Stands ps y s (p ∷ []) [] 0) (before_last log index (Merge p.left p.right) last) (stands_merge ps (take index log) s [] p rest)))))

pub differ_rest : (ps ps' : List Point) (log log' : List Step) (s s' : State) (i j index : ℕ) → ps' ≡ ps → log' ≡ log → IsLast log index (Differ i j) → IsAtRest ps (take index log) s
    → Watches s s' (record { left = i; right = j; step = index }) → IsAtRest ps' log' s'
differ_rest ps ps' log log' s s' i j index e l last rest watches =
    let w : Watch = record { left = i; right = j; step = index } in
    let front : List Step = take index log in
    let size : length front ≡ index = index_is log index (Differ i j) last in
    subst (λ qs. IsAtRest qs log' s') (sym e)
    (subst (λ y. IsAtRest ps y s') (before_last log index (Differ i j) last ∙ sym l)
    (subst (λ (y : State). IsAtRest ps (front ++ Differ i j ∷ []) y) (sym watches.state)
    (rest_watched ps front (front ++ Differ i j ∷ []) s w s'.met watches.met (merged_differ front i j)
    (subst (λ n. AreWatched (front ++ Differ i j ∷ []) (s.pairs ++ record { left = i; right = j; step = n } ∷ [])) size (watched_differ front i j s.pairs rest.differs)) rest)))

-- ---- a watched pair, perhaps not yet in all lists

abbrev pub with_watches : State → List Change → List Watch → List ℕ → State
with_watches s cs ws met' = record { unions = s.unions; hashes = s.hashes; points = s.points; uses = s.uses; watches = cs; pairs = ws; met = met' }

pub begins_pairs : (ws ws' : List Watch) (w : Watch) → (ws' ≡ ws) ⊎ (ws' ≡ ws ++ w ∷ []) → Begins ws ws'
begins_pairs ws ws' w (inl e) = subst (Begins ws) (sym e) (begins_itself ws)
begins_pairs ws ws' w (inr e) = subst (Begins ws) (sym e) (begins_append ws (w ∷ []))

pub watches_grow : (s : State) (cs : List Change) (ws : List Watch) (met' : List ℕ) → Begins s.watches cs → Begins s.pairs ws → Begins s.met met' → Grows s (with_watches s cs ws met')
watches_grow s cs ws met' a b c = record {
  unions = begins_itself s.unions;
  hashes = begins_itself s.hashes;
  points = begins_itself s.points;
  uses = begins_itself s.uses;
  watches = a;
  pairs = b;
  met = c;
}

pub parts_watches : (ps : List Point) (log : List Step) (s : State) (ms : List Mark) (w : Watch) (cs : List Change) (ws : List Watch) (met' : List ℕ) → w.left < length ps → w.right < length ps
    → (ws ≡ s.pairs) ⊎ (ws ≡ s.pairs ++ w ∷ []) → Begins s.watches cs → Begins s.met met' → (All (PutsBelow (length s.pairs)) s.watches → All (PutsBelow (length ws)) cs)
    → AreParts ps log s ms → AreParts ps log (with_watches s cs ws met') ms
parts_watches ps log s ms w cs ws met' left right pairs lists met below parts = record {
  owners = parts.owners;
  slots = below parts.slots;
  ends = ends_now pairs;
  filed = parts.filed;
  alike = parts.alike;
  merges = parts.merges;
  marks = marks_grow ps log s (with_watches s cs ws met') ms (watches_grow s cs ws met' lists (begins_pairs s.pairs ws w pairs) met) parts.marks;
}
  where
    ends_now : (ws ≡ s.pairs) ⊎ (ws ≡ s.pairs ++ w ∷ []) → All (λ (x : Watch). (x.left < length ps) × (x.right < length ps)) ws
    ends_now (inl e) = subst (λ xs. All (λ (x : Watch). (x.left < length ps) × (x.right < length ps)) xs) (sym e) parts.ends
    ends_now (inr e) = subst (λ xs. All (λ (x : Watch). (x.left < length ps) × (x.right < length ps)) xs) (sym e) (All-push (λ (x : Watch). (x.left < length ps) × (x.right < length ps)) s.pairs w parts.ends (left, right))

-- ---- the same points, undone

pub same_points : (ps ps' : List Point) (n : ℕ) → ps' ≡ ps → n ≡ length ps → take n ps' ≡ ps
same_points ps ps' n e size = ap (take n) e ∙ take_all n ps (omega arith)

pub unions_take : (n k : ℕ) (us : List Union) → AreUnions n us → AreUnions n (take k us)
unions_take n k us are = record {
  at = λ j d less. elim (cases_lt k (length us)) [
    | inl short ↦
        let size : length (take k us) ≡ k = length-take-le k us (omega arith) in
        let early : j < k = omega arith in
        let before : take j (take k us) ≡ take j us = take-take j k us (omega arith) in
        let here : get_or (take k us) j d ≡ get_or us j d = get_or-take k us j d early in
        subst (λ vs. IsUnion n vs (get_or (take k us) j d)) (sym before) (subst (λ (u : Union). IsUnion n (take j us) u) (sym here) (are.at j d (omega arith)))
    | inr long ↦
        let all : take k us ≡ us = take_all k us long in
        subst (λ vs. IsUnion n (take j vs) (get_or vs j d)) (sym all) (are.at j d (subst (λ vs. j < length vs) all less))
  ];
}
