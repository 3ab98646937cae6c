-- At each place of a list in which each tree stands after its arguments, the leaves are among the trees.
use Rattle.std.proofs.Common.{◌≡◌, ℕ, zero, suc, ◌<◌, List, [], ◌∷◌, length, All, subst, sym, refl, inl, inr, arith}
use Rattle.std.proofs.lemmas.List.Elements.{All-weaker}
use Rattle.smt_meaning.specs.Term.{Tree, Trees, node, none, more, tree_at}
use Rattle.smt_meaning.specs.Parts.{IsPart, IsPartOfOne, IsOneOf, IsArgument, StandsBelow, AreInOrder}
use Rattle.smt_meaning.specs.Linear.{leaves}
use Rattle.smt_meaning.specs.StackCommand.{start, after_all}
use Rattle.smt_laws.specs.SortLaws.{TreesAreInOrder}
use Rattle.smt_laws.proofs.Among.{Among, among_first, among_rest}
use Rattle.smt_laws.specs.LinearLaws.{LeavesAreParts, TreesAreLinear}
use Rattle.bound_clauses.specs.Laws.{IsReadable}
use Rattle.check_atoms.specs.ReadablePartsLaws.{PlacesAreReadable, LawfulPlacesAreReadable}
use Rattle.check_atoms.proofs.Readable.{IsLinear, linear_at}

abbrev Stands : List Tree → Tree → Type 0
Stands ts t = (i : ℕ) × (i < length ts) × (tree_at ts i ≡ t)

argument_stands : (ts : List Tree) (t v : Tree) → AreInOrder ts → Stands ts t → IsArgument v t → Stands ts v
argument_stands ts t v o w k =
    let below : StandsBelow ts w.0 v = o.after_arguments w.0 v w.1 (subst (IsArgument v) (sym w.2) k) in (below.0, below.2, below.3)

mutual
  part_stands : (ts : List Tree) (t u : Tree) → AreInOrder ts → Stands ts t → IsPart u t → Stands ts u
  part_stands ts (node h us) u o w (inl e) = subst (Stands ts) (sym e) w
  part_stands ts (node h us) u o w (inr k) = part_of_one_stands ts us u o (λ v one. argument_stands ts (node h us) v o w one) k

  part_of_one_stands : (ts : List Tree) (us : Trees) (u : Tree) → AreInOrder ts → ((v : Tree) → IsOneOf v us → Stands ts v) → IsPartOfOne u us → Stands ts u
  part_of_one_stands ts none u o f k = absurd k
  part_of_one_stands ts (more t us) u o f (inl k) = part_stands ts t u o (f t (inl refl)) k
  part_of_one_stands ts (more t us) u o f (inr k) = part_of_one_stands ts us u o (λ v one. f v (inr one)) k

at_among : (ts : List Tree) (i : ℕ) → i < length ts → Among (tree_at ts i) ts
at_among [] i h = absurd (omega arith)
at_among (t ∷ ts) zero h = among_first t ts
at_among (t ∷ ts) (suc i) h = among_rest (tree_at ts i) t ts (at_among ts i (omega arith))

own_part : (t : Tree) → IsPart t t
own_part (node h us) = inl refl

readable : (ts : List Tree) (p : ℕ) → LeavesAreParts → AreInOrder ts → All IsLinear ts → p < length ts → IsReadable ts p
readable ts p parts order linear within = record {
  linear = linear_at ts p linear;
  leaves_within =
      let among : (u : Tree) → IsPart u (tree_at ts p) → Among u ts =
      λ u k. (let w : Stands ts u = part_stands ts (tree_at ts p) u order (p, within, refl) k in subst (λ x. Among x ts) w.2 (at_among ts w.0 w.1))
      in All-weaker (λ v. IsPart v (tree_at ts p)) (λ v. Among v ts) among (leaves (tree_at ts p)) (parts (tree_at ts p) (tree_at ts p) (own_part (tree_at ts p)));
}

pub places_readable : LeavesAreParts → TreesAreInOrder → TreesAreLinear → PlacesAreReadable
places_readable parts order linear cs p within = readable (after_all start cs).trees p parts (order cs) (linear cs) within

pub lawful_places : LeavesAreParts → LawfulPlacesAreReadable
lawful_places parts s p lawful within = readable s.trees p parts lawful.in_order lawful.linear within
