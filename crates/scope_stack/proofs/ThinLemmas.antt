-- What becomes of assertions by levels, of their frames and of a lawful stack where some assertions are left out.
use Rattle.std.proofs.Common.{◌≡◌, ◌∙◌, ◌⊎◌, inl, inr, refl, ap, ap₂, sym, subst, ℕ, zero, suc, ◌+◌, ◌-◌, ◌<◌, ◌≤◌, Bool, true, false, List, [], ◌∷◌, ◌++◌, map, take, drop, length, get_or, replicate, slice_index, arith, All, IsTrue, Some}
use Rattle.std.specs.Prelude.{if◌then◌else◌}
use Rattle.std.proofs.lemmas.List.{take-append-drop, take_at, drop_at, length-take-le, length-drop, length-map, length_push, get_or_push, length-replicate, append-nil, take_more}
use Rattle.std.proofs.lemmas.List.Elements.{All-nil, All-cons, All-head, All-tail, All-append}
use Rattle.smt_meaning.specs.declared.values.Sort.{Sort}
use Rattle.smt_meaning.specs.declared.values.Sort.TheVariants.{Bool as Truths}
use Rattle.smt_meaning.specs.Declaration.{Declaration}
use Rattle.smt_meaning.specs.Term.{Tree}
use Rattle.smt_meaning.specs.TreeShape.{is_among, is_linear}
use Rattle.smt_meaning.specs.Parts.{IsPart, AreInOrder}
use Rattle.smt_meaning.specs.Signature.{tree_sort, HasNoIdTwice}
use Rattle.smt_meaning.specs.Keeping.{kept_from, keeping_from, keeping}
use Rattle.smt_meaning.specs.Stack.{Assertion as Asserted, Frame, signature_of, assertions_of}
use Rattle.smt_meaning.specs.StackCommand.{Stack}
use Rattle.smt_sorts.specs.Names.{Names}
use Rattle.term_store.specs.Terms.{Terms}
use Rattle.smt_laws.specs.Numerals.{numerals_fit}
use Rattle.scope_stack.specs.declared.answers.Assertion.{Assertion}
use Rattle.scope_stack.specs.Pieces.{pieces, AreCuts, all_of}
use Rattle.scope_stack.specs.Inside.{asserted_by, frames_by, stack_by, IsWithin}
use Rattle.scope_stack.specs.Seen.{IsSeen, names_of}
use Rattle.scope_stack.specs.Shown.{IsLawful, AreAsserted}
use Rattle.scope_stack.specs.Trials.{marks, counted, AreCounts, kept_levels, IsThinned}
use Rattle.scope_stack.proofs.PieceLemmas.{All-left, All-right, end_after}
use Rattle.scope_stack.proofs.FrameLemmas.{length-frames, shown_terms}
use Rattle.scope_stack.proofs.SeenLemmas.{names_back, names_again}

-- ---- counts

counted-next : (keeps : ℕ → Bool) (n : ℕ) → counted keeps (n + 1) ≡ counted keeps n + (if keeps n then 1 else 0)
counted-next keeps n = ap (counted keeps) next
  where
    next : n + 1 ≡ suc n
    next = omega arith

counted_grows : (keeps : ℕ → Bool) (a k b : ℕ) → a + k ≡ b → counted keeps a ≤ counted keeps b
counted_grows keeps a zero b e = let same : a ≡ b = omega (arith, e) in let c : counted keeps a ≡ counted keeps b = ap (counted keeps) same in omega (arith, c)
counted_grows keeps a (suc k) zero e = absurd (omega (arith, e))
counted_grows keeps a (suc k) (suc b) e = let below : counted keeps a ≤ counted keeps b = counted_grows keeps a k b (omega (arith, e)) in omega (arith, below)

counted-le : (keeps : ℕ → Bool) (a b : ℕ) → a ≤ b → counted keeps a ≤ counted keeps b
counted-le keeps a b le = counted_grows keeps a (b - a) b (omega (arith, le))

pub one_at_most : (b : Bool) → (if b then 1 else 0) ≤ 1
one_at_most true = omega arith
one_at_most false = omega arith

pub counted_small : (keeps : ℕ → Bool) (n : ℕ) → counted keeps n ≤ n
counted_small keeps zero = omega arith
counted_small keeps (suc n) = let below : counted keeps n ≤ n = counted_small keeps n in let one : (if keeps n then 1 else 0) ≤ 1 = one_at_most (keeps n) in omega (arith, below, one)

-- the counts so far, of the first marks
pub record CountsSoFar (kept : List Bool) (n count : ℕ) (counts : List ℕ) : Type 0 where
  pub size : length counts ≡ n + 1
  pub each : (k : ℕ) → k ≤ n → slice_index counts k ≡ counted (marks kept) k
  pub now : count ≡ counted (marks kept) n

pub no_counts : (kept : List Bool) → CountsSoFar kept 0 0 (0 ∷ [])
no_counts kept = record { size = omega arith; each = λ k le. first k le; now = refl }
  where
    first : (k : ℕ) → k ≤ 0 → slice_index (0 ∷ []) k ≡ counted (marks kept) k
    first zero le = refl
    first (suc k) le = absurd (omega (arith, le))

pub one_count_more : (kept : List Bool) (n count more : ℕ) (counts : List ℕ) → CountsSoFar kept n count counts → more ≡ count + (if marks kept n then 1 else 0) → CountsSoFar kept (n + 1) more (counts ++ more ∷ [])
one_count_more kept n count more counts h e =
    let long : length (counts ++ more ∷ []) ≡ length counts + 1 = length_push counts more in
    let next : more ≡ counted (marks kept) (n + 1) = e ∙ ap (λ c. c + (if marks kept n then 1 else 0)) h.now ∙ sym (counted-next (marks kept) n) in
    record { size = omega (arith, long, h.size); each = λ k le. one k le (split k n le); now = next }
  where
    get_or_front : (xs ys : List ℕ) (k : ℕ) → k < length xs → slice_index (xs ++ ys) k ≡ slice_index xs k
    get_or_front [] ys k lt = absurd (omega (arith, lt))
    get_or_front (x ∷ xs) ys zero lt = refl
    get_or_front (x ∷ xs) ys (suc k) lt = get_or_front xs ys k (omega (arith, lt))

    split : (k m : ℕ) → k ≤ m + 1 → (k ≤ m) ⊎ (k ≡ m + 1)
    split zero m le = inl (omega arith)
    split (suc k) zero le = inr (omega (arith, le))
    split (suc k) (suc m) le = elim (split k m (omega (arith, le))) [ inl l ↦ inl (omega (arith, l)) | inr s ↦ inr (omega (arith, s)) ]

    one : (k : ℕ) → k ≤ n + 1 → (k ≤ n) ⊎ (k ≡ n + 1) → slice_index (counts ++ more ∷ []) k ≡ counted (marks kept) k
    one k le (inl l) = get_or_front counts (more ∷ []) k (omega (arith, l, h.size)) ∙ h.each k l
    one k le (inr s) =
        let last : k ≡ length counts = omega (arith, s, h.size) in
        get_or_push counts more 0 k (sym last) ∙ e ∙ ap (λ c. c + (if marks kept n then 1 else 0)) h.now ∙ sym (counted-next (marks kept) n) ∙ ap (counted (marks kept)) (sym s)

pub so_far_small : (kept : List Bool) (n count : ℕ) (counts : List ℕ) → CountsSoFar kept n count counts → count ≤ n
so_far_small kept n count counts h = let small : counted (marks kept) n ≤ n = counted_small (marks kept) n in omega (arith, small, h.now)

pub all_counts : (kept : List Bool) (n count : ℕ) (counts : List ℕ) → n ≡ length kept → CountsSoFar kept n count counts → AreCounts kept counts
all_counts kept n count counts e h = record { size = omega (arith, h.size, e); each = λ k le. h.each k (omega (arith, le, e)) }

-- ---- items that are kept

module _ {A : Type 0} (keeps : ℕ → Bool) where
  one_more : (b : Bool) (x : A) (us vs ws : List A) → us ≡ vs ++ ws → (if b then x ∷ us else us) ≡ (if b then x ∷ vs else vs) ++ ws
  one_more true x us vs ws e = ap (λ r. x ∷ r) e
  one_more false x us vs ws e = e

  pub kept-append : (at : ℕ) (xs ys : List A) → kept_from keeps at (xs ++ ys) ≡ kept_from keeps at xs ++ kept_from keeps (at + length xs) ys
  kept-append at [] ys = ap (λ n. kept_from keeps n ys) (omega arith)
  kept-append at (x ∷ xs) ys =
      one_more (keeps at) x (kept_from keeps (at + 1) (xs ++ ys)) (kept_from keeps (at + 1) xs) (kept_from keeps (at + length (x ∷ xs)) ys)
      (kept-append (at + 1) xs ys ∙ ap (λ n. kept_from keeps (at + 1) xs ++ kept_from keeps n ys) (omega arith))

  one_counted : (b : Bool) (x : A) (us : List A) (n m : ℕ) → length us + (n + (if b then 1 else 0)) ≡ m → length (if b then x ∷ us else us) + n ≡ m
  one_counted true x us n m e = omega (arith, e)
  one_counted false x us n m e = omega (arith, e)

  pub length-kept : (at : ℕ) (xs : List A) (end : ℕ) → at + length xs ≡ end → length (kept_from keeps at xs) + counted keeps at ≡ counted keeps end
  length-kept at [] end e = let same : at ≡ end = omega (arith, e) in let c : counted keeps at ≡ counted keeps end = ap (counted keeps) same in omega (arith, c)
  length-kept at (x ∷ xs) end e =
      one_counted (keeps at) x (kept_from keeps (at + 1) xs) (counted keeps at) (counted keeps end)
      (ap (λ c. length (kept_from keeps (at + 1) xs) + c) (sym (counted-next keeps at)) ∙ length-kept (at + 1) xs end (omega (arith, e)))

  pub length-levels : (at : ℕ) (xss : List (List A)) → length (kept_levels keeps at xss) ≡ length xss
  length-levels at [] = refl
  length-levels at (xs ∷ xss) = let e : length (kept_levels keeps (at + length xs) xss) ≡ length xss = length-levels (at + length xs) xss in omega (arith, e)

  pub kept-pieces : (at : ℕ) (xs : List A) (ss : List ℕ) (end : ℕ) → at + length xs ≡ end → AreCuts at end ss
      → pieces (counted keeps at) (kept_from keeps at xs) (map (counted keeps) ss) ≡ kept_levels keeps at (pieces at xs ss)
  kept-pieces at xs [] end e h = refl
  kept-pieces at xs (s ∷ ss) end e h =
      let q : s ≤ end = end_after s end ss h.1 in
      let p : at ≤ s = h.0 in
      let size : length (take (s - at) xs) ≡ s - at = length-take-le (s - at) xs (omega (arith, e, q)) in
      let there : at + length (take (s - at) xs) ≡ s = omega (arith, size, p) in
      let parted : kept_from keeps at xs ≡ kept_from keeps at (take (s - at) xs) ++ kept_from keeps s (drop (s - at) xs) =
      ap (kept_from keeps at) (sym (take-append-drop (s - at) xs)) ∙ kept-append at (take (s - at) xs) (drop (s - at) xs)
      ∙ ap (λ m. kept_from keeps at (take (s - at) xs) ++ kept_from keeps m (drop (s - at) xs)) there in
      let count : length (kept_from keeps at (take (s - at) xs)) + counted keeps at ≡ counted keeps s = length-kept at (take (s - at) xs) s there in
      let first : length (kept_from keeps at (take (s - at) xs)) ≡ counted keeps s - counted keeps at = omega (arith, count) in
      let left : s + length (drop (s - at) xs) ≡ end = let d : length (drop (s - at) xs) ≡ length xs - (s - at) = length-drop (s - at) xs in omega (arith, d, e, p, q) in
      ap₂ (λ a b. a ∷ b)
      (ap (take (counted keeps s - counted keeps at)) parted ∙ take_at (kept_from keeps at (take (s - at) xs)) (kept_from keeps s (drop (s - at) xs)) (counted keeps s - counted keeps at) first)
      (
      ap (λ zs. pieces (counted keeps s) zs (map (counted keeps) ss))
      (ap (drop (counted keeps s - counted keeps at)) parted ∙ drop_at (kept_from keeps at (take (s - at) xs)) (kept_from keeps s (drop (s - at) xs)) (counted keeps s - counted keeps at) first)
      ∙ kept-pieces s (drop (s - at) xs) ss end left h.1
      ∙ ap (λ m. kept_levels keeps m (pieces s (drop (s - at) xs) ss)) (sym there)
      )

  one_at_end : (b : Bool) (x : A) (us : List A) → (if b then us ++ x ∷ [] else us) ≡ us ++ (if b then x ∷ [] else [])
  one_at_end true x us = refl
  one_at_end false x us = sym (append-nil us)

  pub kept-more : (xs : List A) (n : ℕ) (x : A) (us : List A) → n < length xs → x ≡ get_or xs n x → us ≡ kept_from keeps 0 (take n xs) → (if keeps n then us ++ x ∷ [] else us) ≡ kept_from keeps 0 (take (n + 1) xs)
  kept-more xs n x us lt at e =
      let size : length (take n xs) ≡ n = length-take-le n xs (omega (arith, lt)) in
      one_at_end (keeps n) x us
      ∙ ap₂ (λ vs k. vs ++ kept_from keeps k (x ∷ [])) e (let there : n ≡ 0 + length (take n xs) = omega (arith, size) in there)
      ∙ sym (kept-append 0 (take n xs) (x ∷ []))
      ∙ ap (λ y. kept_from keeps 0 (take n xs ++ y ∷ [])) at
      ∙ ap (kept_from keeps 0) (sym (take_more xs n x lt))

  -- what is true of all items stays true
  module _ (P : A → Type 0) where
    one_if_kept : (b : Bool) (x : A) (us : List A) → P x → All P us → All P (if b then x ∷ us else us)
    one_if_kept true x us p h = All-cons P x us p h
    one_if_kept false x us p h = h

    pub all_kept : (at : ℕ) (xs : List A) → All P xs → All P (kept_from keeps at xs)
    all_kept at [] h = h
    all_kept at (x ∷ xs) h = one_if_kept (keeps at) x (kept_from keeps (at + 1) xs) (All-head P x xs h) (all_kept (at + 1) xs (All-tail P x xs h))

    pub all_in_levels : (at : ℕ) (xss : List (List A)) → All P (all_of xss) → All P (all_of (kept_levels keeps at xss))
    all_in_levels at [] h = h
    all_in_levels at (xs ∷ xss) h =
        All-append P (kept_from keeps at xs) (all_of (kept_levels keeps (at + length xs) xss)) (all_kept at xs (All-left P xs (all_of xss) h)) (all_in_levels (at + length xs) xss (All-right P xs (all_of xss) h))

-- where the levels start
pub cuts_kept : (keeps : ℕ → Bool) (at end : ℕ) (ss : List ℕ) → AreCuts at end ss → AreCuts (counted keeps at) (counted keeps end) (map (counted keeps) ss)
cuts_kept keeps at end [] h = counted-le keeps at end h
cuts_kept keeps at end (s ∷ ss) h = (counted-le keeps at s h.0, cuts_kept keeps s end ss h.1)

pub cuts_below : (at end n : ℕ) (ss : List ℕ) → AreCuts at end ss → end < n → All (λ s. s < n) ss
cuts_below at end n [] h lt = All-nil (λ s. s < n)
cuts_below at end n (s ∷ ss) h lt = let q : s ≤ end = end_after s end ss h.1 in All-cons (λ t. t < n) s ss (omega (arith, q, lt)) (cuts_below s end n ss h.1 lt)

pub counts_at_cuts : (kept : List Bool) (counts : List ℕ) (at end : ℕ) (ss : List ℕ) → AreCounts kept counts → AreCuts at end ss → end ≤ length kept → map (slice_index counts) ss ≡ map (counted (marks kept)) ss
counts_at_cuts kept counts at end [] c h le = refl
counts_at_cuts kept counts at end (s ∷ ss) c h le =
    let q : s ≤ end = end_after s end ss h.1 in ap₂ (λ a b. a ∷ b) (c.each s (omega (arith, q, le))) (counts_at_cuts kept counts s end ss c h.1 le)

module _ (kept : List Bool) (xs ys : List Assertion) (ss rs counts : List ℕ) (cuts : AreCuts 0 (length xs) ss) (size : length kept ≡ length xs) (known : AreCounts kept counts)
    (items : ys ≡ kept_from (marks kept) 0 xs) (starts : rs ≡ map (slice_index counts) ss) where
  starts_are : rs ≡ map (counted (marks kept)) ss
  starts_are = starts ∙ counts_at_cuts kept counts 0 (length xs) ss known cuts (omega (arith, size))

  pub cuts_of_kept : AreCuts 0 (length ys) rs
  cuts_of_kept =
      let e : length (kept_from (marks kept) 0 xs) + 0 ≡ counted (marks kept) (length xs) = length-kept (marks kept) 0 xs (length xs) (omega arith) in
      let long : length (kept_from (marks kept) 0 xs) ≡ counted (marks kept) (length xs) = omega (arith, e) in
      subst (λ n. AreCuts 0 n rs) (sym (ap length items ∙ long)) (subst (AreCuts 0 (counted (marks kept) (length xs))) (sym starts_are) (cuts_kept (marks kept) 0 (length xs) ss cuts))

  pub pieces_of_kept : (xss : List (List Assertion)) → pieces 0 xs ss ≡ xss → pieces 0 ys rs ≡ kept_levels (marks kept) 0 xss
  pieces_of_kept xss e = ap₂ (pieces 0) items starts_are ∙ kept-pieces (marks kept) 0 xs ss (length xs) (omega arith) cuts ∙ ap (kept_levels (marks kept) 0) e

-- ---- frames

map-kept : {A B : Type 0} (f : A → B) (keeps : ℕ → Bool) (at : ℕ) (xs : List A) → map f (kept_from keeps at xs) ≡ kept_from keeps at (map f xs)
map-kept f keeps at [] = refl
map-kept {A} {B} f keeps at (x ∷ xs) = one (keeps at) (kept_from keeps (at + 1) xs) (kept_from keeps (at + 1) (map f xs)) (map-kept f keeps (at + 1) xs)
  where
    one : (b : Bool) (us : List A) (vs : List B) → map f us ≡ vs → map f (if b then x ∷ us else us) ≡ (if b then f x ∷ vs else vs)
    one true us vs e = ap (λ r. f x ∷ r) e
    one false us vs e = e

pub frames-kept : (ts : List Tree) (keeps : ℕ → Bool) (at : ℕ) (dss : List (List Declaration)) (xss : List (List Assertion)) → length xss ≡ length dss
    → frames_by ts dss (kept_levels keeps at xss) ≡ keeping_from keeps at (frames_by ts dss xss)
frames-kept ts keeps at [] xss e = refl
frames-kept ts keeps at (ds ∷ dss) [] e = absurd (omega (arith, e))
frames-kept ts keeps at (ds ∷ dss) (xs ∷ xss) e =
    ap₂ (λ zs r. record { declared = ds; asserted = zs } ∷ r) (map-kept (asserted_by ts) keeps at xs)
    (frames-kept ts keeps (at + length xs) dss xss (omega (arith, e)) ∙ ap (λ n. keeping_from keeps (at + n) (frames_by ts dss xss)) (sym (length-map xs (asserted_by ts))))

pub signature-keeping : (keeps : ℕ → Bool) (at : ℕ) (frames : List Frame) → signature_of (keeping_from keeps at frames) ≡ signature_of frames
signature-keeping keeps at [] = refl
signature-keeping keeps at (f ∷ frames) = ap (λ ds. f.declared ++ ds) (signature-keeping keeps (at + length f.asserted) frames)

pub assertions_keeping : (P : Tree → Type 0) (keeps : ℕ → Bool) (at : ℕ) (frames : List Frame) → All P (assertions_of frames) → All P (assertions_of (keeping_from keeps at frames))
assertions_keeping P keeps at [] h = h
assertions_keeping P keeps at (f ∷ frames) h =
    let term : Asserted → Tree = λ a. a.term in
    All-append P (map term (kept_from keeps at f.asserted)) (assertions_of (keeping_from keeps (at + length f.asserted) frames))
    (subst (All P) (sym (map-kept term keeps at f.asserted)) (all_kept {A = Tree} keeps P at (map term f.asserted) (All-left P (map term f.asserted) (assertions_of frames) h)))
    (assertions_keeping P keeps (at + length f.asserted) frames (All-right P (map term f.asserted) (assertions_of frames) h))

-- ---- lawful stacks

pub lawful_kept : (keeps : ℕ → Bool) (s u : Stack) → IsLawful s → u.frames ≡ keeping keeps s.frames → u.trees ≡ s.trees → IsLawful u
lawful_kept keeps s u h e t =
    let same : signature_of u.frames ≡ signature_of s.frames = ap signature_of e ∙ signature-keeping keeps 0 s.frames in
    record {
      no_id_twice = subst HasNoIdTwice (sym same) h.no_id_twice;
      truths = subst (λ ds. All (λ (v : Tree). tree_sort ds v ≡ Some Truths) (assertions_of u.frames)) (sym same)
          (subst (λ (fs : List Frame). All (λ (v : Tree). tree_sort (signature_of s.frames) v ≡ Some Truths) (assertions_of fs)) (sym e)
          (assertions_keeping (λ (v : Tree). tree_sort (signature_of s.frames) v ≡ Some Truths) keeps 0 s.frames h.truths));
      in_order = subst AreInOrder (sym t) h.in_order;
      numerals = subst (All (λ (v : Tree). IsTrue (numerals_fit v))) (sym t) h.numerals;
      linear = subst (All (λ (v : Tree). IsTrue (is_linear v))) (sym t) h.linear;
      parts = subst (λ (ts : List Tree). All (λ (v : Tree). (w : Tree) → IsPart w v → IsTrue (is_among w ts)) (assertions_of u.frames)) (sym t)
          (subst (λ (fs : List Frame). All (λ (v : Tree). (w : Tree) → IsPart w v → IsTrue (is_among w s.trees)) (assertions_of fs)) (sym e)
          (assertions_keeping (λ (v : Tree). (w : Tree) → IsPart w v → IsTrue (is_among w s.trees)) keeps 0 s.frames h.parts));
    }

-- where declarations are global or not
module _ {global : Bool} (t : Names) (store : Terms) (xss : List (List Assertion)) (rs : List Sort) (ls : List ℕ) (kept : List Bool) (h : IsSeen global t store xss rs ls) where
  fewer : List (List Assertion)
  fewer = kept_levels (marks kept) 0 xss

  fewer_frames : frames_by store.trees t.levels (kept_levels (marks kept) 0 xss) ≡ keeping (marks kept) (frames_by store.trees t.levels xss)
  fewer_frames = frames-kept store.trees (marks kept) 0 t.levels xss h.stack.as_many

  pub marked_levels : length kept ≡ length (assertions_of (frames_by store.trees t.levels xss)) → length kept ≡ length (all_of xss)
  marked_levels e = e ∙ ap length (sym (shown_terms store.trees t.levels xss h.stack.as_many)) ∙ length-map (all_of xss) _

  pub seen_of_kept_levels : IsSeen global t store (kept_levels (marks kept) 0 xss) rs ls
  seen_of_kept_levels =
      record {
        stack = record {
          limit = h.stack.limit;
          as_many = length-levels (marks kept) 0 xss ∙ h.stack.as_many;
          some = h.stack.some;
          few = h.stack.few;
          within = all_in_levels (marks kept) (IsWithin store.trees) 0 xss h.stack.within;
        };
        lawful = lawful_kept (marks kept) (stack_by global t store.trees xss) (stack_by global t store.trees (kept_levels (marks kept) 0 xss)) h.lawful fewer_frames refl;
        facts = h.facts;
        levels = h.levels;
      }

  pub thinned_levels : length kept ≡ length (all_of xss) → IsThinned (stack_by global t store.trees (kept_levels (marks kept) 0 xss)) xss kept
  thinned_levels e =
      let back : names_of (stack_by global t store.trees (kept_levels (marks kept) 0 xss)) ≡ t = names_back global t store.trees (kept_levels (marks kept) 0 xss) in
      record {
        as_many = h.stack.as_many ∙ sym (length-frames store.trees t.levels (kept_levels (marks kept) 0 xss));
        within = h.stack.within;
        lawful = subst (λ n. IsLawful (stack_by global n store.trees xss)) (sym back) h.lawful;
        marked = e;
        frames = fewer_frames ∙ ap (λ (n : Names). keeping (marks kept) (frames_by store.trees n.levels xss)) (sym back);
      }

  pub whole_of_levels : stack_by global (names_of (stack_by global t store.trees (kept_levels (marks kept) 0 xss))) store.trees xss ≡ stack_by global t store.trees xss
  whole_of_levels = ap (λ n. stack_by global n store.trees xss) (names_back global t store.trees (kept_levels (marks kept) 0 xss))

-- the whole again
module _ {global : Bool} (t : Names) (store : Terms) (yss : List (List Assertion)) (rs : List Sort) (ls : List ℕ) (h : IsSeen global t store yss rs ls)
    (s : Stack) (xss : List (List Assertion)) (kept : List Bool) (e : stack_by global t store.trees yss ≡ s) (k : IsThinned s xss kept) where
  names : names_of s ≡ t
  names = names_again {global = global} t store.trees yss s e

  pub whole_is : stack_by global t store.trees xss ≡ stack_by s.global (names_of s) s.trees xss
  whole_is = ap (λ n. stack_by global n store.trees xss) (sym names) ∙ ap (λ (u : Stack). stack_by u.global (names_of s) u.trees xss) e

  pub seen_again : IsSeen global t store xss rs ls
  seen_again =
      let many : length s.frames ≡ length t.levels = ap (λ (u : Stack). length u.frames) (sym e) ∙ length-frames store.trees t.levels yss in
      record {
        stack = record {
          limit = h.stack.limit;
          as_many = k.as_many ∙ many;
          some = h.stack.some;
          few = h.stack.few;
          within = subst (λ (u : Stack). All (IsWithin u.trees) (all_of xss)) (sym e) k.within;
        };
        lawful = subst IsLawful (sym whole_is) k.lawful;
        facts = h.facts;
        levels = h.levels;
      }

  pub marked_again : length kept ≡ length (assertions_of (frames_by store.trees t.levels xss))
  marked_again = k.marked ∙ sym (length-map (all_of xss) _) ∙ ap length (shown_terms store.trees t.levels xss seen_again.stack.as_many)

-- ---- marks

pub all_marked : (s : Stack) (xs : List Assertion) (n : ℕ) → AreAsserted s xs → n ≡ length xs → length (replicate n true) ≡ length (assertions_of s.frames)
all_marked s xs n h e = length-replicate {A = Bool} n true ∙ e ∙ sym (length-map xs _) ∙ ap length h.terms
