-- What the arguments of a node are given.
use Rattle.std.proofs.Common.{◌≡◌, ℕ, suc, ◌<◌, List, [], ◌∷◌, length, get_or, map, All, ap, subst, ◌∙◌, refl, sym, true, arith}
use Rattle.std.proofs.lemmas.List.{get_or-map}
use Rattle.std.proofs.lemmas.List.Elements.{All-head, All-tail, All-weaker}
use Rattle.smt_meaning.specs.declared.terms.Head.{Head}
use Rattle.smt_meaning.specs.declared.terms.Head.TheVariants.{Symbol}
use Rattle.smt_meaning.specs.Term.{Tree, tree_at}
use Rattle.smt_meaning.specs.Nodes.{pick}
use Rattle.term_store.specs.Terms.{tree_with, AreDifferent}
use Rattle.term_store.proofs.PlaceLemmas.{place_of-is}
use Rattle.model_build.specs.declared.given.Given.{Given}
use Rattle.model_build.specs.declared.given.Given.TheVariants.{Unmarked}
use Rattle.model_build.specs.Given.{given_at, is_marked, givens, arguments_of, head_of}
use Rattle.model_build.specs.Keys.{IsApplicationOf}

pub givens-pick : (ts : List Tree) (gs : List Given) (is : List ℕ) → AreDifferent ts → All (λ i. i < length ts) is → givens ts gs (pick ts is) ≡ map (given_at gs) is
givens-pick ts gs [] different below = refl
givens-pick ts gs (i ∷ is) different below =
    ap (λ p. given_at gs p ∷ givens ts gs (pick ts is)) (place_of-is (tree_at ts i) ts i different (All-head (λ j. j < length ts) i is below) refl)
    ∙ ap (λ xs. given_at gs i ∷ xs) (givens-pick ts gs is different (All-tail (λ j. j < length ts) i is below))

-- a node that is read is the application at its place
pub read : (ts : List Tree) (gs : List Given) (p f : ℕ) (h : Head) (is : List ℕ) → AreDifferent ts → length gs ≡ length ts → p < length ts → is_marked (given_at gs p) ≡ true
    → tree_at ts p ≡ tree_with ts h is → All (λ i. i < length ts) is → h ≡ Symbol f → IsApplicationOf ts gs p f is
read ts gs p f h is different size within marked tree below head = record {
  application = record { within = within; marked = marked; symbol = ap head_of tree ∙ head };
  arguments = ap (λ t. givens ts gs (arguments_of t)) tree ∙ givens-pick ts gs is different below;
  below = All-weaker (λ i. i < length ts) (λ i. i < length gs) (λ i h. rw size h) is below;
}

-- ---- lists of places that are given the same

pub maps_same : (f : ℕ → Given) (xs ys : List ℕ) → length xs ≡ length ys → ((k : ℕ) → k < length xs → f (get_or xs k 0) ≡ f (get_or ys k 0)) → map f xs ≡ map f ys
maps_same f [] [] size same = refl
maps_same f [] (b ∷ ys) size same = cc
maps_same f (a ∷ xs) [] size same = cc
maps_same f (a ∷ xs) (b ∷ ys) size same =
    let rest : map f xs ≡ map f ys = maps_same f xs ys (omega arith) (λ k h. same (suc k) (omega arith)) in
    ap (λ x. x ∷ map f xs) (same 0 (omega arith)) ∙ ap (λ zs. f b ∷ zs) rest

pub maps_at : (f : ℕ → Given) (xs ys : List ℕ) (k : ℕ) → length xs ≡ length ys → k < length xs → map f xs ≡ map f ys → f (get_or xs k 0) ≡ f (get_or ys k 0)
maps_at f xs ys k size within e =
    sym (get_or-map f xs k 0 Unmarked within) ∙ ap (λ zs. get_or zs k Unmarked) e ∙ get_or-map f ys k 0 Unmarked (subst (λ n. k < n) size within)
