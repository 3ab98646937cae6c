-- Taking the terms of a question, or the level of assumptions, back.
use Rattle.std.proofs.Common.{◌≡◌, ◌∙◌, sym, refl, ap, ap₂, subst, ℕ, suc, ◌+◌, ◌-◌, ◌<◌, Bool, true, false, ◌||◌, List, [], ◌∷◌, ◌++◌, map, take, length, arith, All, inl}
use Rattle.std.specs.Prelude.{IsTrue}
use Rattle.std.proofs.lemmas.List.{take_at, length-append}
use Rattle.std.proofs.lemmas.List.Elements.{All-nil, All-cons, All-head, All-tail}
use Rattle.elaborate.specs.Values.{IsLonger}
use Rattle.smt_meaning.specs.declared.tokens.Token.{Token}
use Rattle.smt_meaning.specs.Term.{Tree, node, tree_at}
use Rattle.smt_meaning.specs.TreeShape.{tree_eq, is_among}
use Rattle.smt_meaning.specs.Parts.{IsPart, AreInOrder}
use Rattle.smt_meaning.specs.Stack.{Assertion as Asserted, Frame, assertions_of}
use Rattle.smt_meaning.specs.State.{frame_of}
use Rattle.smt_meaning.specs.StackCommand.{Stack}
use Rattle.smt_sorts.specs.Names.{Names, without_levels}
use Rattle.smt_laws.specs.TermLaws.{TreeEqualityDecides}
use Rattle.smt_laws.specs.SortLaws.{TreesAreInOrder, PartsAreAmongTheTrees}
use Rattle.term_store.specs.Terms.{Terms}
use Rattle.scope_stack.specs.declared.answers.Asked.{Asked}
use Rattle.scope_stack.specs.declared.answers.Assertion.{Assertion}
use Rattle.scope_stack.specs.Pieces.{all_of}
use Rattle.scope_stack.specs.Inside.{frames_by, stack_by, IsStack, IsReached, IsWithin}
use Rattle.scope_stack.specs.Carries.{IsAsked, IsAfterQuestion, IsAssumed, IsUnderAssumptions}
use Rattle.scope_stack.proofs.FrameLemmas.{frames-longer, frames-taken, length-frames, shown_terms, tree_at-longer}

abbrev StandsIn : List Tree → Tree → Type 0
StandsIn ts t = (j : ℕ) × (j < length ts) × (tree_at ts j ≡ t)

found_next : (t u : Tree) (us : List Tree) (b : Bool) → (b ≡ true → t ≡ u) → (is_among t us ≡ true → StandsIn us t) → (b || is_among t us) ≡ true → StandsIn (u ∷ us) t
found_next t u us true e h g = (0, omega arith, sym (e refl))
found_next t u us false e h g = let p = h g in (suc p.0, omega (arith, p.1), p.2)

found : TreeEqualityDecides → (t : Tree) (ts : List Tree) → is_among t ts ≡ true → StandsIn ts t
found d t [] h = cc
found d t (u ∷ us) h = found_next t u us (tree_eq t u) (d t u).0 (found d t us) h

part_of_itself : (t : Tree) → IsPart t t
part_of_itself (node h ts) = inl refl

abbrev HasPartsAmong : List Tree → Tree → Type 0
HasPartsAmong ts t = (u : Tree) → IsPart u t → IsTrue (is_among u ts)

-- an assertion whose term is among the trees has its place there
one_before : TreeEqualityDecides → (ts us : List Tree) (i : ℕ) → AreInOrder (ts ++ us) → i < length (ts ++ us) → HasPartsAmong ts (tree_at (ts ++ us) i) → i < length ts
one_before d ts us i o lt h =
    let t = tree_at (ts ++ us) i in
    let p : StandsIn ts t = found d t ts (h t (part_of_itself t)) in
    let within : p.0 < length (ts ++ us) = (let e : length (ts ++ us) ≡ length ts + length us = length-append ts us in omega (arith, e, p.1)) in
    let same : p.0 ≡ i = o.different p.0 i within lt (tree_at-longer ts us p.0 p.1 ∙ p.2) in
    subst (λ n. n < length ts) same p.1

all_before : TreeEqualityDecides → (ts us : List Tree) (xs : List Assertion) → AreInOrder (ts ++ us) → All (IsWithin (ts ++ us)) xs
    → All (HasPartsAmong ts) (map (λ (a : Assertion). tree_at (ts ++ us) a.term) xs) → All (IsWithin ts) xs
all_before d ts us [] o w h = All-nil (IsWithin ts)
all_before d ts us (x ∷ xs) o w h =
    let f : Assertion → Tree = λ a. tree_at (ts ++ us) a.term in
    All-cons (IsWithin ts) x xs
    (one_before d ts us x.term o (All-head (IsWithin (ts ++ us)) x xs w) (All-head (HasPartsAmong ts) (f x) (map f xs) h))
    (all_before d ts us xs o (All-tail (IsWithin (ts ++ us)) x xs w) (All-tail (HasPartsAmong ts) (f x) (map f xs) h))

pub reached_order : TreesAreInOrder → (s : Stack) → IsReached s → AreInOrder s.trees
unfolding IsReached
reached_order law s h = subst (λ (t : Stack). AreInOrder t.trees) h.1 (law h.0)

reached_parts : PartsAreAmongTheTrees → (s : Stack) → IsReached s → All (HasPartsAmong s.trees) (assertions_of s.frames)
unfolding IsReached
reached_parts law s h = subst (λ (t : Stack). All (HasPartsAmong t.trees) (assertions_of t.frames)) h.1 (law h.0)

-- the last of a list goes
pub without_last : (fs : List Frame) (f : Frame) → take (length (fs ++ f ∷ []) - 1) (fs ++ f ∷ []) ≡ fs
without_last fs f = take_at fs (f ∷ []) (length (fs ++ f ∷ []) - 1) (let e : length (fs ++ f ∷ []) ≡ length fs + length (f ∷ []) = length-append fs (f ∷ []) in omega (arith, e))

-- where declarations are global or not
module _ (global : Bool) where
  -- the assertions' places are those of terms before these
  within_before : TreeEqualityDecides → TreesAreInOrder → PartsAreAmongTheTrees → (t : Names) (ts us : List Tree) (xss : List (List Assertion)) (old : Stack)
      → length xss ≡ length t.levels → All (IsWithin (ts ++ us)) (all_of xss) → IsReached (stack_by global t (ts ++ us) xss) → IsReached old
      → old.trees ≡ ts → old.frames ≡ frames_by (ts ++ us) t.levels xss → All (IsWithin ts) (all_of xss)
  within_before d order parts t ts us xss old m w r q e f =
      all_before d ts us (all_of xss) (reached_order order (stack_by global t (ts ++ us) xss) r) w
      (subst (λ zs. All (HasPartsAmong ts) zs) (sym (shown_terms (ts ++ us) t.levels xss m))
      (subst (λ (fs : List Frame). All (HasPartsAmong ts) (assertions_of fs)) f
      (subst (λ zs. All (HasPartsAmong zs) (assertions_of old.frames)) e (reached_parts parts old q))))

  -- what is left of the stack, once the terms after these are taken away
  record IsBack (t : Names) (ts : List Tree) (xss : List (List Assertion)) (old : Stack) : Type 0 where
    within : All (IsWithin ts) (all_of xss)
    same : stack_by global t ts xss ≡ old

  back_at : TreeEqualityDecides → TreesAreInOrder → PartsAreAmongTheTrees → (t : Names) (ts us : List Tree) (xss : List (List Assertion)) (frames : List Frame) (given : ℕ) (b : Bool)
      → length xss ≡ length t.levels → All (IsWithin (ts ++ us)) (all_of xss) → IsReached (stack_by global t (ts ++ us) xss) → IsReached (record { frames = frames; given = given; trees = ts; global = b })
      → frames ≡ frames_by (ts ++ us) t.levels xss → given ≡ t.given → b ≡ global → IsBack t ts xss (record { frames = frames; given = given; trees = ts; global = b })
  back_at d order parts t ts us xss frames given b m w r q f g h =
      let within : All (IsWithin ts) (all_of xss) = within_before d order parts t ts us xss (record { frames = frames; given = given; trees = ts; global = b }) m w r q refl f in
      record {
        within = within;
        same = ap₂ (λ (fs : List Frame) (n : ℕ). record { frames = fs; given = n; trees = ts; global = global }) (sym (frames-longer ts us t.levels xss within) ∙ sym f) (sym g)
            ∙ ap (λ (c : Bool). record { frames = frames; given = given; trees = ts; global = c }) (sym h);
      }

  back : TreeEqualityDecides → TreesAreInOrder → PartsAreAmongTheTrees → (t : Names) (store : Terms) (xss : List (List Assertion)) (n : ℕ) (old : Stack)
      → IsStack global t store xss → length old.trees ≡ n → IsReached old → IsLonger old.trees store.trees
      → old.frames ≡ frames_by store.trees t.levels xss → old.given ≡ t.given → old.global ≡ global → IsBack t (take n store.trees) xss old
  back d order parts t store xss n old h e r l f g b =
      let cut : take n store.trees ≡ old.trees = ap (take n) l.1 ∙ take_at old.trees l.0 n e in
      subst (λ ts. IsBack t ts xss old) (sym cut)
      (back_at d order parts t old.trees l.0 xss old.frames old.given old.global h.as_many
      (subst (λ ts. All (IsWithin ts) (all_of xss)) l.1 h.within)
      (subst (λ ts. IsReached (stack_by global t ts xss)) l.1 h.reached)
      r
      (f ∙ ap (λ ts. frames_by ts t.levels xss) l.1)
      g b)

  is_back : (t : Names) (store : Terms) (xss : List (List Assertion)) (n : ℕ) (old : Stack) → IsStack global t store xss → IsReached old → IsBack t (take n store.trees) xss old
      → IsStack global t (record { limit = store.limit; trees = take n store.trees }) xss
  is_back t store xss n old h r b = record { limit = h.limit; as_many = h.as_many; some = h.some; few = h.few; within = b.within; reached = subst IsReached (sym b.same) r }

  -- ---- the terms of a question

  asked_back : TreeEqualityDecides → TreesAreInOrder → PartsAreAmongTheTrees → (t : Names) (store : Terms) (xss : List (List Assertion)) (n : ℕ) (texts : List (List Token)) (asked : List Asked) (old : Stack)
      → IsStack global t store xss → length old.trees ≡ n → IsAsked texts asked old (stack_by global t store.trees xss) → IsBack t (take n store.trees) xss old
  asked_back d order parts t store xss n texts asked old h e k =
      back d order parts t store xss n old h e k.reached k.longer
      (sym (ap (λ (s : Stack). s.frames) k.new_is)) (sym (ap (λ (s : Stack). s.given) k.new_is)) (sym (ap (λ (s : Stack). s.global) k.new_is))

  pub forgotten_is : TreeEqualityDecides → TreesAreInOrder → PartsAreAmongTheTrees → (t : Names) (store : Terms) (xss : List (List Assertion)) (n : ℕ) (texts : List (List Token)) (asked : List Asked) (old : Stack)
      → IsStack global t store xss → length old.trees ≡ n → IsAsked texts asked old (stack_by global t store.trees xss) → stack_by global t (take n store.trees) xss ≡ old
  forgotten_is d order parts t store xss n texts asked old h e k = (asked_back d order parts t store xss n texts asked old h e k).same

  pub forgotten_keeps : TreeEqualityDecides → TreesAreInOrder → PartsAreAmongTheTrees → (t : Names) (store : Terms) (xss : List (List Assertion)) (n : ℕ)
      → IsStack global t store xss → IsAfterQuestion n (stack_by global t store.trees xss) → IsStack global t (record { limit = store.limit; trees = take n store.trees }) xss
  forgotten_keeps d order parts t store xss n h k =
      is_back t store xss n k.old h k.is_asked.reached (asked_back d order parts t store xss n k.texts k.asked k.old h k.many k.is_asked)

  -- ---- the level of assumptions

  -- the levels without the newest one, and the stack before the assumptions
  lower : (t : Names) (ts : List Tree) (xss : List (List Assertion)) (texts : List (List Token)) (assumed : List Asserted) (old : Stack)
      → length xss ≡ length t.levels → IsAssumed texts assumed old (stack_by global t ts xss) → frames_by ts (without_levels 1 t).levels (take (length xss - 1) xss) ≡ old.frames
  lower t ts xss texts assumed old e k =
      ap (λ m. frames_by ts (take (length t.levels - 1) t.levels) (take (m - 1) xss)) e
      ∙ frames-taken ts (length t.levels - 1) t.levels xss e
      ∙ ap (λ m. take (m - 1) (frames_by ts t.levels xss)) (sym (length-frames ts t.levels xss))
      ∙ ap (λ (fs : List Frame). take (length fs - 1) fs) (ap (λ (s : Stack). s.frames) k.new_is)
      ∙ without_last old.frames (frame_of assumed)

  pub two_levels : (t : Names) (ts : List Tree) (xss : List (List Assertion)) (texts : List (List Token)) (assumed : List Asserted) (old : Stack) → IsAssumed texts assumed old (stack_by global t ts xss)
      → 1 < length t.levels
  two_levels t ts xss texts assumed old k =
      let frames : length (frames_by ts t.levels xss) ≡ length (old.frames ++ frame_of assumed ∷ []) = ap (λ (s : Stack). length s.frames) k.new_is in
      let more' : length (old.frames ++ frame_of assumed ∷ []) ≡ length old.frames + 1 = length-append old.frames (frame_of assumed ∷ []) in
      let levels : length (frames_by ts t.levels xss) ≡ length t.levels = length-frames ts t.levels xss in
      omega (arith, frames, more', levels, k.some)

  pub withdrawn_is : (t : Names) (ts : List Tree) (xss : List (List Assertion)) (texts : List (List Token)) (assumed : List Asserted) (old : Stack)
      → length xss ≡ length t.levels → IsAssumed texts assumed old (stack_by global t ts xss) → stack_by global (without_levels 1 t) ts (take (length xss - 1) xss) ≡ record old { trees = ts }
  withdrawn_is t ts xss texts assumed old e k =
      ap₂ (λ (fs : List Frame) (n : ℕ). record { frames = fs; given = n; trees = ts; global = global }) (lower t ts xss texts assumed old e k) (ap (λ (s : Stack). s.given) k.new_is)
      ∙ ap (λ (b : Bool). record { frames = old.frames; given = old.given; trees = ts; global = b }) (ap (λ (s : Stack). s.global) k.new_is)

  assumed_back : TreeEqualityDecides → TreesAreInOrder → PartsAreAmongTheTrees → (t : Names) (store : Terms) (xss : List (List Assertion)) (n : ℕ) (texts : List (List Token)) (assumed : List Asserted) (old : Stack)
      → IsStack global (without_levels 1 t) store (take (length xss - 1) xss) → length xss ≡ length t.levels → length old.trees ≡ n → IsAssumed texts assumed old (stack_by global t store.trees xss)
      → IsBack (without_levels 1 t) (take n store.trees) (take (length xss - 1) xss) old
  assumed_back d order parts t store xss n texts assumed old h m e k =
      back d order parts (without_levels 1 t) store (take (length xss - 1) xss) n old h e k.reached k.longer
      (sym (lower t store.trees xss texts assumed old m k)) (sym (ap (λ (s : Stack). s.given) k.new_is)) (sym (ap (λ (s : Stack). s.global) k.new_is))

  pub taken_back_is : TreeEqualityDecides → TreesAreInOrder → PartsAreAmongTheTrees → (t : Names) (store : Terms) (xss : List (List Assertion)) (n : ℕ) (texts : List (List Token)) (assumed : List Asserted) (old : Stack)
      → IsStack global (without_levels 1 t) store (take (length xss - 1) xss) → length xss ≡ length t.levels → length old.trees ≡ n → IsAssumed texts assumed old (stack_by global t store.trees xss)
      → stack_by global (without_levels 1 t) (take n store.trees) (take (length xss - 1) xss) ≡ old
  taken_back_is d order parts t store xss n texts assumed old h m e k = (assumed_back d order parts t store xss n texts assumed old h m e k).same

  pub taken_back_keeps : TreeEqualityDecides → TreesAreInOrder → PartsAreAmongTheTrees → (t : Names) (store : Terms) (xss : List (List Assertion)) (n : ℕ)
      → IsStack global (without_levels 1 t) store (take (length xss - 1) xss) → length xss ≡ length t.levels → IsUnderAssumptions n (stack_by global t store.trees xss)
      → IsStack global (without_levels 1 t) (record { limit = store.limit; trees = take n store.trees }) (take (length xss - 1) xss)
  taken_back_keeps d order parts t store xss n h m k =
      is_back (without_levels 1 t) store (take (length xss - 1) xss) n k.old h k.is_assumed.reached (assumed_back d order parts t store xss n k.texts k.assumed k.old h m k.many k.is_assumed)
