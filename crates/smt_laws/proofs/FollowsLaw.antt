-- What follows from frames follows from more of them, and is read alike by more trees.
use Rattle.std.proofs.Common.{ℕ, Bool, true, false, zero, suc, ◌+◌, ◌-◌, ◌<◌, ◌≤◌, List, [], ◌∷◌, ◌++◌, take, length, arith}
use Rattle.std.specs.Prelude.{flat_map, replicate}
use Rattle.std.proofs.lemmas.List.{take-append-le, take-take}
use Rattle.std.proofs.lemmas.List.Elements.{All-weaker}
use Rattle.smt_meaning.specs.Declaration.{Declaration}
use Rattle.smt_meaning.specs.declared.clauses.Clause.{Clause}
use Rattle.smt_meaning.specs.Term.{Tree}
use Rattle.smt_meaning.specs.Interpretation.{IsFunctionFor, Interprets}
use Rattle.smt_meaning.specs.Stack.{Frame, Assertion, Satisfies, signature_of, assertions_of, terms_of, on_top, at_base, with_declared, pushed, popped, empty_frame}
use Rattle.smt_meaning.specs.Clause.{clause_symbols}
use Rattle.smt_meaning.specs.Follows.{FollowsFrom, Follows}
use Rattle.smt_laws.proofs.Included.{Included, All-included, included_same, included_left, included_append, included_map}

-- each declaration and assertion of fs is one of gs
pub record Extends (fs gs : List Frame) : Type 0 where
  pub signature : Included (signature_of fs) (signature_of gs)
  pub assertions : Included (assertions_of fs) (assertions_of gs)

pub follows_more : (ts : List Tree) (fs gs : List Frame) (c : Clause) → Extends fs gs → FollowsFrom ts fs c → FollowsFrom ts gs c
unfolding Interprets
follows_more ts fs gs c e f = record {
  true_wherever = λ I interprets holds.
      f.true_wherever I (All-included (IsFunctionFor I) (signature_of fs) (signature_of gs) e.signature interprets)
      (All-included (Satisfies I) (assertions_of fs) (assertions_of gs) e.assertions holds);
  declared = All-weaker _ _ (λ g h. included_map (λ (d : Declaration). d.id) _ _ e.signature g h) (clause_symbols ts c) f.declared;
  within = f.within;
}

-- ---- more frames

take_included : {X : Type 0} (g : Frame → List X) (m n : ℕ) (frames : List Frame) → m ≤ n → Included (flat_map g (take m frames)) (flat_map g (take n frames))
take_included g zero n frames h = λ x c. absurd (omega arith)
take_included g (suc m) zero frames h = absurd (omega arith)
take_included g (suc m) (suc n) [] h = included_same []
take_included g (suc m) (suc n) (fr ∷ frames) h =
    included_append (g fr) (g fr) _ _ (included_same (g fr)) (take_included g m n frames (omega arith))

take_of_all : {X : Type 0} (g : Frame → List X) (n : ℕ) (frames : List Frame) → Included (flat_map g (take n frames)) (flat_map g frames)
take_of_all g zero frames = λ x c. absurd (omega arith)
take_of_all g (suc n) [] = included_same []
take_of_all g (suc n) (fr ∷ frames) = included_append (g fr) (g fr) _ _ (included_same (g fr)) (take_of_all g n frames)

take_extends : (m n : ℕ) (frames : List Frame) → m ≤ n → Extends (take m frames) (take n frames)
take_extends m n frames h = record {
  signature = take_included (λ (f : Frame). f.declared) m n frames h;
  assertions = take_included terms_of m n frames h;
}

pub take_extends_all : (n : ℕ) (frames : List Frame) → Extends (take n frames) frames
take_extends_all n frames = record {
  signature = take_of_all (λ (f : Frame). f.declared) n frames;
  assertions = take_of_all terms_of n frames;
}

on_top_included : {X : Type 0} (g : Frame → List X) (ds : List Declaration) (xs : List Assertion)
    → ((f : Frame) → Included (g f) (g (record { declared = f.declared ++ ds; asserted = f.asserted ++ xs })))
    → (n : ℕ) (frames : List Frame) → Included (flat_map g (take n frames)) (flat_map g (take n (on_top ds xs frames)))
on_top_included g ds xs grows zero frames = included_same []
on_top_included g ds xs grows (suc n) [] = included_same []
on_top_included g ds xs grows (suc n) (fr ∷ []) =
    included_append (g fr) _ (flat_map g (take n [])) _ (grows fr) (included_same (flat_map g (take n [])))
on_top_included g ds xs grows (suc n) (fr ∷ gr ∷ frames) =
    included_append (g fr) (g fr) _ _ (included_same (g fr)) (on_top_included g ds xs grows n (gr ∷ frames))

on_top_extends : (ds : List Declaration) (xs : List Assertion) (n : ℕ) (frames : List Frame) → Extends (take n frames) (take n (on_top ds xs frames))
on_top_extends ds xs n frames = record {
  signature = on_top_included (λ (f : Frame). f.declared) ds xs (λ f. included_left f.declared ds) n frames;
  assertions = on_top_included terms_of ds xs (λ f. included_map (λ (a : Assertion). a.term) f.asserted (f.asserted ++ xs) (included_left f.asserted xs)) n frames;
}

at_base_extends : (ds : List Declaration) (n : ℕ) (frames : List Frame) → Extends (take n frames) (take n (at_base ds frames))
at_base_extends ds zero frames = record { signature = included_same []; assertions = included_same [] }
at_base_extends ds (suc n) [] = record { signature = included_same []; assertions = included_same [] }
at_base_extends ds (suc n) (f ∷ frames) = record {
  signature = included_append f.declared (f.declared ++ ds) _ _ (included_left f.declared ds) (included_same (signature_of (take n frames)));
  assertions = included_same (assertions_of (f ∷ take n frames));
}

declared_extends : (b : Bool) (ds : List Declaration) (n : ℕ) (frames : List Frame) → Extends (take n frames) (take n (with_declared b ds frames))
declared_extends true ds n frames = at_base_extends ds n frames
declared_extends false ds n frames = on_top_extends ds [] n frames

-- ---- after commands

pub after_push : (ts : List Tree) (frames : List Frame) (l n : ℕ) (c : Clause) → l < length frames → Follows ts frames l c → Follows ts (pushed n frames) l c
unfolding Follows
after_push ts frames l n c h f = rw (take-append-le (l + 1) frames (replicate n empty_frame) (omega arith)) f

pub after_more : (ts : List Tree) (frames : List Frame) (l : ℕ) (c : Clause) (ds : List Declaration) (xs : List Assertion) → Follows ts frames l c → Follows ts (on_top ds xs frames) l c
unfolding Follows
after_more ts frames l c ds xs f = follows_more ts _ _ c (on_top_extends ds xs (l + 1) frames) f

pub after_pop : (ts : List Tree) (frames : List Frame) (l n : ℕ) (c : Clause) → l + n < length frames → Follows ts frames l c → Follows ts (popped n frames) l c
unfolding Follows
after_pop ts frames l n c h f = rw (take-take (l + 1) (length frames - n) frames (omega arith)) f

pub above : (ts : List Tree) (frames : List Frame) (l m : ℕ) (c : Clause) → l ≤ m → Follows ts frames l c → Follows ts frames m c
unfolding Follows
above ts frames l m c h f = follows_more ts _ _ c (take_extends (l + 1) (m + 1) frames (omega arith)) f

pub after_declared : (ts : List Tree) (frames : List Frame) (l : ℕ) (c : Clause) (b : Bool) (ds : List Declaration) → Follows ts frames l c → Follows ts (with_declared b ds frames) l c
unfolding Follows
after_declared ts frames l c b ds f = follows_more ts _ _ c (declared_extends b ds (l + 1) frames) f
