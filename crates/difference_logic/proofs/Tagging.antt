-- Tags of edges in a list.
use Rattle.std.proofs.Common.{ℕ, List, [], ◌∷◌, ◌++◌, refl}
use Rattle.std.specs.Prelude.{Contains}
use Rattle.std.proofs.lemmas.List.Elements.{All-append, All-cons, All-nil, All-weaker, Contains-append_left, Contains-push}
use Rattle.difference_logic.specs.declared.edge.Edge.{Edge}
use Rattle.difference_logic.specs.Edges.{IsTagOf, AreTags, AreTagsWith}

pub one_more : (edges : List Edge) (tags : List ℕ) (e : Edge) → Contains edges e → AreTags edges tags → AreTags edges (tags ++ e.tag ∷ [])
one_more edges tags e among all =
    All-append (IsTagOf edges) tags (e.tag ∷ []) all (All-cons (IsTagOf edges) e.tag [] (e, among, refl) (All-nil (IsTagOf edges)))

more_edges : (edges : List Edge) (edge : Edge) (tag : ℕ) → IsTagOf edges tag → IsTagOf (edges ++ edge ∷ []) tag
more_edges edges edge tag h = (h.0, Contains-append_left edges (edge ∷ []) h.0 h.1, h.2)

pub with_own : (edges : List Edge) (edge : Edge) (tags : List ℕ) → AreTags edges tags → AreTagsWith edges edge (tags ++ edge.tag ∷ [])
with_own edges edge tags all =
    one_more (edges ++ edge ∷ []) tags edge (Contains-push edges edge) (All-weaker (IsTagOf edges) (IsTagOf (edges ++ edge ∷ [])) (λ tag h. more_edges edges edge tag h) tags all)
