-- Lists of trees that grow at their end.
use Rattle.std.proofs.Common.{◌≡◌, ◌∙◌, List, [], ◌∷◌, ◌++◌, refl, ap, sym, Bool, true, false, append_assoc, append-nil}
use Rattle.std.specs.Prelude.{if◌then◌else◌}
use Rattle.smt_meaning.specs.Term.{Tree, Trees, node, none, more}
use Rattle.smt_meaning.specs.TreeShape.{is_among, with_tree, with_parts, with_all_parts}
use Rattle.smt_meaning.specs.Sorts.{with_all}

pub record Grown (ts us : List Tree) : Type 0 where
  pub joined : List Tree
  pub is : us ≡ ts ++ joined

pub unchanged : (ts : List Tree) → Grown ts ts
unchanged ts = record { joined = []; is = sym (append-nil ts) }

pub both_grown : (ts us vs : List Tree) → Grown ts us → Grown us vs → Grown ts vs
both_grown ts us vs g h = record { joined = g.joined ++ h.joined; is = h.is ∙ ap (λ xs. xs ++ h.joined) g.is ∙ append_assoc ts g.joined h.joined }

pub tree_grown : (ts : List Tree) (t : Tree) → Grown ts (with_tree ts t)
tree_grown ts t = go (is_among t ts)
  where
    go : (b : Bool) → Grown ts (if b then ts else ts ++ t ∷ [])
    go true = unchanged ts
    go false = record { joined = t ∷ []; is = refl }

mutual
  pub parts_grown : (ts : List Tree) (t : Tree) → Grown ts (with_parts ts t)
  parts_grown ts (node h us) = both_grown ts (with_all_parts ts us) (with_tree (with_all_parts ts us) (node h us)) (all_parts_grown ts us) (tree_grown (with_all_parts ts us) (node h us))

  pub all_parts_grown : (ts : List Tree) (us : Trees) → Grown ts (with_all_parts ts us)
  all_parts_grown ts none = unchanged ts
  all_parts_grown ts (more u us) = both_grown ts (with_parts ts u) (with_all_parts (with_parts ts u) us) (parts_grown ts u) (all_parts_grown (with_parts ts u) us)

pub all_grown : (ts us : List Tree) → Grown ts (with_all ts us)
all_grown ts [] = unchanged ts
all_grown ts (u ∷ us) = both_grown ts (with_parts ts u) (with_all (with_parts ts u) us) (parts_grown ts u) (all_grown (with_parts ts u) us)
