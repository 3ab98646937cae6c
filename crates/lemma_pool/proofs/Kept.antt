-- What follows still does as a pool's levels come and go.
use Rattle.std.proofs.Common.{◌≡◌, ℕ, zero, suc, ◌+◌, ◌-◌, ◌<◌, ◌≤◌, min, List, [], ◌∷◌, take, length, get_or, All, Contains, Bool, true, false, eq-eqb, subst, sym, ap, ◌∙◌, refl, arith}
use Rattle.std.specs.Prelude.{filter, replicate, nat_lt, ◌==◌, ◌||◌, IsTrue}
use Rattle.std.proofs.lemmas.Bool.{eqb-true}
use Rattle.std.proofs.lemmas.Bool.Decides.{nat_tests}
use Rattle.std.proofs.lemmas.List.{length-take-le, length-append, length-replicate, append-nil}
use Rattle.std.proofs.lemmas.List.Elements.{All-weaker, All-filter, filter_passes}
use Rattle.smt_meaning.specs.declared.clauses.Clause.{Clause}
use Rattle.smt_meaning.specs.Declaration.{Declaration}
use Rattle.smt_meaning.specs.Stack.{Frame, Assertion, depth, up_to, on_top, with_declared, pushed, empty_frame}
use Rattle.smt_meaning.specs.Clause.{clause_symbols}
use Rattle.smt_meaning.specs.Follows.{declared_ids, follows, follows_from}
use Rattle.race_model.specs.declared.event.Entry.{Entry}
use Rattle.race_model.specs.Base.{Base}
use Rattle.race_model.specs.declared.event.Addition.{Addition}
use Rattle.race_model.specs.declared.event.Event.TheVariants.{Push, Pop, Assert}
use Rattle.race_model.specs.Race.{entries_below, asserted_by}
use Rattle.race_model.specs.Shelves.{ShelfState, racing}
use Rattle.race_model.specs.Laws.{IsSound, SoundAfterPush, SoundAfterDeclared, SoundAfterAssert, SoundAfterCut, SoundWithTrees}
use Rattle.lemma_pool.specs.Pools.{Growth, levels, declarations, members, grown, Grows, cut_base, is_one_of, IsKnown, IsCut, IsStep, IsSameButBase, on_base, with_more}

take_all : (fs : List Frame) (n : ℕ) → n ≡ length fs → take n fs ≡ fs
take_all [] zero e = refl
take_all [] (suc n) e = absurd (omega arith)
take_all (f ∷ fs) zero e = absurd (omega arith)
take_all (f ∷ fs) (suc n) e = ap (λ gs. f ∷ gs) (take_all fs n (omega arith))

pub whole : (b : Base) (n : ℕ) → n ≡ length b.frames → cut_base n b ≡ b
whole b n e = λ i. record { trees = b.trees; frames = take_all b.frames n e i }

module _ (push : SoundAfterPush) (declared : SoundAfterDeclared) (more : SoundAfterAssert) (trees : SoundWithTrees) where
  sound_grown : (gs : List Growth) (b : Base) (c : Clause) → IsSound b c → IsSound (record b { frames = grown gs b.frames }) c
  sound_grown [] b c h = h
  sound_grown (levels n ∷ gs) b c h = sound_grown gs _ c (push b n c h)
  sound_grown (declarations global ds ∷ gs) b c h = sound_grown gs _ c (declared b global ds c h)
  sound_grown (members ds xs ∷ gs) b c h = sound_grown gs _ c (more b ds xs c h)

  sound_after : (b d : Base) → Grows b d → (c : Clause) → IsSound b c → IsSound d c
  sound_after b d g c h =
      subst (λ z. IsSound z c) (λ i. record { trees = sym g.trees i; frames = sym g.frames i })
      (trees (record b { frames = grown g.steps b.frames }) g.more c (sound_grown g.steps b c h))

  -- all entries of a pool that follows a stack
  pub still_sound : (b d : Base) (n : ℕ) (es : List Entry) → Grows b d → n ≡ length d.frames → All (λ (e : Entry). IsSound b e.clause) es → All (λ (e : Entry). IsSound (cut_base n d) e.clause) es
  still_sound b d n es g size all =
      All-weaker (λ (e : Entry). IsSound b e.clause) (λ (e : Entry). IsSound (cut_base n d) e.clause)
      (λ e h. subst (λ z. IsSound z e.clause) (sym (whole d n size)) (sound_after b d g e.clause h)) es all

length-take-min : (n : ℕ) (fs : List Frame) → length (take n fs) ≡ min n (length fs)
length-take-min zero fs = omega arith
length-take-min (suc n) [] = omega arith
length-take-min (suc n) (f ∷ fs) = let t = length-take-min n fs in omega arith

take_take : (m n : ℕ) (fs : List Frame) → take m (take n fs) ≡ take (min n m) fs
take_take zero n fs = let e : min n 0 ≡ 0 = omega arith in sym (ap (λ k. take k fs) e)
take_take (suc m) zero fs = let e : min 0 (suc m) ≡ 0 = omega arith in sym (ap (λ k. take k fs) e)
take_take (suc m) (suc n) [] = let e : min (suc n) (suc m) ≡ suc (min n m) = omega arith in sym (ap (λ k. take k []) e)
take_take (suc m) (suc n) (f ∷ fs) =
    let e : min (suc n) (suc m) ≡ suc (min n m) = omega arith in
    ap (λ gs. f ∷ gs) (take_take m n fs) ∙ sym (ap (λ k. take k (f ∷ fs)) e)

pub cut_cut : (b : Base) (m n : ℕ) → cut_base (min n m) b ≡ cut_base m (cut_base n b)
cut_cut b m n = λ i. record { trees = b.trees; frames = sym (take_take m n b.frames) i }

pub levels_kept : (b : Base) (n : ℕ) → n ≤ length b.frames → length (cut_base n b).frames ≡ n
levels_kept b n le = length-take-le n b.frames le

-- fewer levels of those that were cut before
cut_again : (b : Base) (k n : ℕ) → k ≤ n → cut_base k b ≡ cut_base k (cut_base n b)
cut_again b k n le = let e : min n k ≡ k = omega arith in ap (λ j. cut_base j b) (sym e) ∙ cut_cut b k n

filtered : {X : Type 0} (p : X → Bool) (P Q : X → Type 0) → ((x : X) → p x ≡ true → P x → Q x) → (xs : List X) → All P xs → All Q (filter p xs)
filtered p P Q f xs all = λ k d h. f _ (filter_passes p xs k d h) (All-filter p P xs all k d h)

module _ (cut : SoundAfterCut) where
  one_cut : (b : Base) (m n : ℕ) (c : Clause) → n ≤ length b.frames → nat_lt c.level m ≡ true → IsSound (cut_base n b) c → IsSound (cut_base (min n m) b) c
  one_cut b m n c le below h =
      let size = levels_kept b n le in
      let w : c.level < length (cut_base n b).frames = h.within in
      let lt : c.level < m = grind (arith, nat_tests) in
      let few : min n m ≤ length (cut_base n b).frames = omega arith in
      let inside : c.level < min n m = omega arith in
      let least : min n m ≤ n = omega arith in
      subst (λ z. IsSound z c) (sym (cut_again b (min n m) n least)) (cut (cut_base n b) (min n m) c inside few h)

  -- the entries that a cut leaves
  pub cut_sound : (b : Base) (m n : ℕ) (es : List Entry) → n ≤ length b.frames → All (λ (e : Entry). IsSound (cut_base n b) e.clause) es
      → All (λ (e : Entry). IsSound (cut_base (min n m) b) e.clause) (entries_below m es)
  cut_sound b m n es le all =
      filtered (λ (e : Entry). nat_lt e.clause.level m) (λ (e : Entry). IsSound (cut_base n b) e.clause) (λ (e : Entry). IsSound (cut_base (min n m) b) e.clause)
      (λ e below h. one_cut b m n e.clause le below h) es all

-- ---- the two ways to say that a clause follows

one_or : (b c : Bool) → (b ≡ false → IsTrue c) → IsTrue (b || c)
one_or true c f = refl
one_or false c f = f refl

rest_true : (b c : Bool) → b ≡ false → IsTrue (b || c) → IsTrue c
rest_true true c e h = absurd (cc)
rest_true false c e h = h

later : (i j : ℕ) (js : List ℕ) → (i == j) ≡ false → (k : ℕ) → k < length (j ∷ js) → get_or (j ∷ js) k i ≡ i → Contains js i
later i j js ne zero lt at = let f : (i == j) ≡ true = eq-eqb i j (sym at) in absurd (cc)
later i j js ne (suc k) lt at = (k, omega arith, at)

is_one : (i : ℕ) (js : List ℕ) → Contains js i → IsTrue (is_one_of i js)
is_one i [] h = let lt = h.1 in absurd (omega arith)
is_one i (j ∷ js) h = one_or (i == j) (is_one_of i js) (λ ne. is_one i js (later i j js ne h.0 h.1 h.2))

placed : (i j : ℕ) (js : List ℕ) (b : Bool) → (i == j) ≡ b → (b ≡ false → Contains js i) → Contains (j ∷ js) i
placed i j js true e f = (0, omega arith, sym (eqb-true i j e))
placed i j js false e f = let t = f refl in (suc t.0, (let lt = t.1 in omega arith), t.2)

contains : (i : ℕ) (js : List ℕ) → IsTrue (is_one_of i js) → Contains js i
contains i [] h = absurd (cc)
contains i (j ∷ js) h = placed i j js (i == j) refl (λ ne. contains i js (rest_true (i == j) (is_one_of i js) ne h))

pub known_of : (b : Base) (c : Clause) → IsSound b c → IsKnown b c
known_of b c h =
    let f = follows_from b.trees b.frames c.level c h.follows in
    record {
      true_wherever = f.true_wherever;
      declared = All-weaker _ (λ i. IsTrue (is_one_of i (declared_ids (up_to c.level b.frames)))) (λ i. is_one i (declared_ids (up_to c.level b.frames))) (clause_symbols b.trees c) f.declared;
      places = f.within;
      within = h.within;
    }

pub sound_of : (b : Base) (c : Clause) → IsKnown b c → IsSound b c
sound_of b c h = record {
  follows = follows b.trees b.frames c.level c record {
    true_wherever = h.true_wherever;
    declared = All-weaker (λ i. IsTrue (is_one_of i (declared_ids (up_to c.level b.frames)))) (Contains (declared_ids (up_to c.level b.frames))) (λ i. contains i (declared_ids (up_to c.level b.frames))) (clause_symbols b.trees c) h.declared;
    within = h.places;
  };
  within = h.within;
}

pub all_known : (b : Base) (es : List Entry) → All (λ (e : Entry). IsSound b e.clause) es → All (λ (e : Entry). IsKnown b e.clause) es
all_known b es h = All-weaker (λ (e : Entry). IsSound b e.clause) (λ (e : Entry). IsKnown b e.clause) (λ e. known_of b e.clause) es h

pub all_sound : (b : Base) (es : List Entry) → All (λ (e : Entry). IsKnown b e.clause) es → All (λ (e : Entry). IsSound b e.clause) es
all_sound b es h = All-weaker (λ (e : Entry). IsKnown b e.clause) (λ (e : Entry). IsSound b e.clause) (λ e. sound_of b e.clause) es h

pub levels_left : (n m k size : ℕ) → k ≡ min n m → n ≤ size → k ≤ size
levels_left n m k size e le = omega arith

-- ---- pushes, pops and assertions as events

pub push_grows : (s : ShelfState) (n : ℕ) (d : Base) → IsStep (Push n) s (on_base d s) → Grows s.base d
push_grows s n d h = record {
  steps = levels n ∷ [];
  frames = ap (λ (b : Base). b.frames) h.base;
  more = h.more;
  trees = ap (λ (b : Base). b.trees) h.base;
}

pub assert_grows : (s : ShelfState) (a : Addition) (d : Base) → IsStep (Assert a) s (on_base d s) → Grows s.base d
assert_grows s a d h = record {
  steps = declarations s.global a.declared ∷ members a.named (asserted_by (racing 0 (with_more h.more s)) a) ∷ [];
  frames = ap (λ (b : Base). b.frames) h.base;
  more = h.more;
  trees = ap (λ (b : Base). b.trees) h.base;
}

length_pushed : (n : ℕ) (fs : List Frame) → length (pushed n fs) ≡ length fs + n
length_pushed n fs = length-append fs (replicate n empty_frame) ∙ ap (λ k. length fs + k) (length-replicate n empty_frame)

length_on_top : (ds : List Declaration) (xs : List Assertion) (fs : List Frame) → length (on_top ds xs fs) ≡ length fs
length_on_top ds xs [] = refl
length_on_top ds xs (f ∷ []) = refl
length_on_top ds xs (f ∷ g ∷ fs) = let t = length_on_top ds xs (g ∷ fs) in omega arith

length_declared : (b : Bool) (ds : List Declaration) (fs : List Frame) → length (with_declared b ds fs) ≡ length fs
length_declared true ds [] = refl
length_declared true ds (f ∷ fs) = refl
length_declared false ds fs = length_on_top ds [] fs

pub push_levels : (s : ShelfState) (n : ℕ) (d : Base) → IsStep (Push n) s (on_base d s) → length d.frames ≡ length s.base.frames + n
push_levels s n d h = ap (λ (b : Base). length b.frames) h.base ∙ length_pushed n s.base.frames

pub assert_levels : (s : ShelfState) (a : Addition) (d : Base) → IsStep (Assert a) s (on_base d s) → length d.frames ≡ length s.base.frames
assert_levels s a d h =
    ap (λ (b : Base). length b.frames) h.base
    ∙ length_on_top a.named (asserted_by (racing 0 (with_more h.more s)) a) (with_declared s.global a.declared s.base.frames)
    ∙ length_declared s.global a.declared s.base.frames

pub push_step : (s t : ShelfState) (n : ℕ) (d : Base) → IsStep (Push n) s (on_base d s) → t.base ≡ d → IsSameButBase s t → IsStep (Push n) s t
push_step s t n d h e same = record { more = h.more; allowed = h.allowed; base = e ∙ h.base; entries = same.entries; ended = same.ended; room = same.room; global = same.global }

pub assert_step : (s t : ShelfState) (a : Addition) (d : Base) → IsStep (Assert a) s (on_base d s) → t.base ≡ d → IsSameButBase s t → IsStep (Assert a) s t
assert_step s t a d h e same = record { more = h.more; allowed = h.allowed; base = e ∙ h.base; entries = same.entries; ended = same.ended; room = same.room; global = same.global }

pub pop_step : (s t : ShelfState) (n : ℕ) → n ≤ depth s.base.frames → IsCut (length s.base.frames - n) s t → IsStep (Pop n) s t
pop_step s t n le h = record {
  more = [];
  allowed = (le, tt);
  base = h.base ∙ (λ i. record { trees = sym (append-nil s.base.trees) i; frames = (cut_base (length s.base.frames - n) s.base).frames });
  entries = h.entries;
  ended = h.ended;
  room = h.room;
  global = h.global;
}
