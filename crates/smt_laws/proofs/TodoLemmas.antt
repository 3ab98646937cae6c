-- The parts of a tree join a list, by steps.
use Rattle.std.proofs.Common.{◌≡◌, ◌<◌, List, [], ◌∷◌, Bool, true, false, ◌||◌, ap, subst, refl, length, arith}
use Rattle.std.specs.Prelude.{if◌then◌else◌, suc}
use Rattle.smt_meaning.specs.Term.{Tree, Trees, node, none, more}
use Rattle.smt_meaning.specs.TreeShape.{tree_eq, is_among, with_parts, with_all_parts, place_of}
use Rattle.smt_laws.proofs.SameTree.{found_again}
use Rattle.smt_laws.specs.Todo.{Todo, keep, after, visits, VisitsParts, StoredTreesStay}

visited : (us : Trees) (todo : List Todo) (out : List Tree) → after (visits us todo) out ≡ after todo (with_all_parts out us)
visited none todo out = refl
visited (more u us) todo out = visited us todo (with_parts out u)

pub visits_parts : VisitsParts
visits_parts h us todo out = go (visited us (keep (node h us) ∷ todo) out)
  where
    go : after (visits us (keep (node h us) ∷ todo)) out ≡ after (keep (node h us) ∷ todo) (with_all_parts out us) → after todo (with_parts out (node h us)) ≡ after (visits us (keep (node h us) ∷ todo)) out
    go e = cc

place_within : (t : Tree) (ts : List Tree) → is_among t ts ≡ true → place_of t ts < length ts
place_within t [] h = absurd (cc)
place_within t (u ∷ ts) h = go (tree_eq t u) h (place_within t ts)
  where
    go : (b : Bool) → (b || is_among t ts) ≡ true → (is_among t ts ≡ true → place_of t ts < length ts) → (if b then 0 else suc (place_of t ts)) < length (u ∷ ts)
    go true e f = omega arith
    go false e f = let lt : place_of t ts < length ts = f e in omega arith

pub stored_stay : StoredTreesStay
stored_stay t todo out complete h = ap (after todo) (subst (λ u. with_parts out u ≡ out) (found_again t out h) (complete (place_of t out) (place_within t out h)))
