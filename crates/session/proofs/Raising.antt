-- A core of a stack with a level above it, whose trees are among the stack's already.
use Rattle.std.proofs.Common.{◌≡◌, ◌∙◌, ℕ, ℤ, List, [], ◌∷◌, ◌++◌, map, ap, sym, subst, refl, inl, inr, All}
use Rattle.std.specs.Prelude.{IsTrue}
use Rattle.std.proofs.lemmas.List.Elements.{All-head, All-tail}
use Rattle.std.proofs.lemmas.Grind.{flat_map-append}
use Rattle.smt_meaning.specs.declared.replies.Held.{Held}
use Rattle.smt_meaning.specs.Term.{Tree, Trees, node, none, more}
use Rattle.smt_meaning.specs.TreeShape.{is_among, with_tree, with_parts, with_all_parts}
use Rattle.smt_meaning.specs.Parts.{IsPart, IsPartOfOne}
use Rattle.smt_meaning.specs.Core.{IsReduced}
use Rattle.smt_meaning.specs.Sorts.{with_all}
use Rattle.smt_meaning.specs.Stack.{Frame, assertions_of, terms_of}
use Rattle.smt_meaning.specs.StackCommand.{Stack}
use Rattle.smt_meaning.specs.State.{frame_of}
use Rattle.scope_stack.specs.declared.answers.Assertion.{Assertion}
use Rattle.scope_stack.specs.Inside.{asserted_by}
use Rattle.scope_stack.specs.Raised.{MayAssertAbove}
use Rattle.session.specs.declared.above.Above.TheVariants.{Assumed}
use Rattle.session.specs.Reduced.{IsReducedUnder}

pub of_right : {A : Type 0} (P : A → Type 0) (xs ys : List A) → All P (xs ++ ys) → All P ys
of_right P [] ys h = h
of_right P (x ∷ xs) ys h = of_right P xs ys (All-tail P x (xs ++ ys) h)

-- ---- trees whose parts are among a list add none

stays : (ts : List Tree) (t : Tree) → IsTrue (is_among t ts) → with_tree ts t ≡ ts
stays ts t h = rw h refl

mutual
  part_stays : (ts : List Tree) (t : Tree) → ((u : Tree) → IsPart u t → IsTrue (is_among u ts)) → with_parts ts t ≡ ts
  part_stays ts (node h us) k = ap (λ xs. with_tree xs (node h us)) (parts_stay ts us (λ u p. k u (inr p))) ∙ stays ts (node h us) (k (node h us) (inl refl))

  parts_stay : (ts : List Tree) (us : Trees) → ((u : Tree) → IsPartOfOne u us → IsTrue (is_among u ts)) → with_all_parts ts us ≡ ts
  parts_stay ts none k = refl
  parts_stay ts (more u us) k = ap (λ xs. with_all_parts xs us) (part_stays ts u (λ v p. k v (inl p))) ∙ parts_stay ts us (λ v p. k v (inr p))

abbrev pub AreAmong : List Tree → Tree → Type 0
AreAmong ts t = (u : Tree) → IsPart u t → IsTrue (is_among u ts)

pub all_stay : (ts us : List Tree) → All (AreAmong ts) us → with_all ts us ≡ ts
all_stay ts [] h = refl
all_stay ts (u ∷ us) h = ap (λ xs. with_all xs us) (part_stays ts u (All-head (AreAmong ts) u us h)) ∙ all_stay ts us (All-tail (AreAmong ts) u us h)

-- ---- cores

pub reduced_under : (s : Stack) (xs : List Assertion) (workers : ℕ) (limit : ℤ) (cs : List ℕ) (hs : List Held) → MayAssertAbove xs s
    → IsReduced workers s.trees (s.frames ++ frame_of (map (asserted_by s.trees) xs) ∷ []) limit cs hs → IsReducedUnder s (Assumed xs) workers limit cs hs
reduced_under s xs workers limit cs hs may h =
    let fs : List Frame = frame_of (map (asserted_by s.trees) xs) ∷ [] in
    let among : All (AreAmong s.trees) (assertions_of fs) =
    of_right (AreAmong s.trees) (assertions_of s.frames) (assertions_of fs) (subst (All (AreAmong s.trees)) (flat_map-append terms_of s.frames fs) may.lawful.parts) in
    subst (λ ts. IsReduced workers ts (s.frames ++ fs) limit cs hs) (sym (all_stay s.trees (assertions_of fs) among)) h
