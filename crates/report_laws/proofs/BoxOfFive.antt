-- A leaf with a box, and one without.
use Rattle.std.proofs.Common.{◌≡◌, ℕ, ◌⊎◌, inl, inr, pos, sym, ap, ◌∙◌, subst, refl, arith, [], ◌∷◌, true, false, Some, Contains}
use Rattle.fraction128.specs.Gcd.{gcd_of}
use Rattle.smt_meaning.specs.declared.values.Sort.TheVariants.{Int as Ints}
use Rattle.smt_meaning.specs.Term.{Tree}
use Rattle.smt_meaning.specs.TreeShape.{place_of}
use Rattle.smt_meaning.specs.Parts.{IsPart}
use Rattle.smt_meaning.specs.Signature.{tree_sort}
use Rattle.smt_meaning.specs.Stack.{signature_of}
use Rattle.smt_meaning.specs.CheckAtoms.{IsPartOfStack, IsLeaf, is_leaf}
use Rattle.report_laws.specs.Boxed.{HasBox}
use Rattle.report_laws.specs.Five.{x, five}
use Rattle.report_laws.specs.Five as Five
use Rattle.report_laws.specs.BoxOfFive.{nought, low, high, both, trees, frames, XIsBoxed, FiveIsUnboxed}
use Rattle.report_laws.proofs.Listed.{in_cons, in_none}
use Rattle.report_laws.proofs.Five as FiveProofs

-- a part that isn't x is a numeral or a Bool
abbrev IsOther : Tree → Type 0
IsOther t = ((t ≡ nought) ⊎ (t ≡ five)) ⊎ ((t ≡ low) ⊎ ((t ≡ high) ⊎ (t ≡ both)))

part_is : (t : Tree) → IsPartOfStack frames t → (t ≡ x) ⊎ IsOther t
part_is t h = by_assertion h.assertion h.asserted h.part
  where
    by : IsPart t both → (t ≡ x) ⊎ IsOther t
    by (inl e) = inr (inr (inr (inr e)))
    by (inr (inl (inl e))) = inr (inr (inl e))
    by (inr (inl (inr (inl (inl e))))) = inr (inl (inl e))
    by (inr (inl (inr (inl (inr w))))) = absurd w
    by (inr (inl (inr (inr (inl (inl e)))))) = inl e
    by (inr (inl (inr (inr (inl (inr w)))))) = absurd w
    by (inr (inl (inr (inr (inr w))))) = absurd w
    by (inr (inr (inl (inl e)))) = inr (inr (inr (inl e)))
    by (inr (inr (inl (inr (inl (inl e)))))) = inl e
    by (inr (inr (inl (inr (inl (inr w)))))) = absurd w
    by (inr (inr (inl (inr (inr (inl (inl e))))))) = inr (inl (inr e))
    by (inr (inr (inl (inr (inr (inl (inr w))))))) = absurd w
    by (inr (inr (inl (inr (inr (inr w)))))) = absurd w
    by (inr (inr (inr w))) = absurd w

    by_assertion : (a : Tree) → Contains (both ∷ []) a → IsPart t a → (t ≡ x) ⊎ IsOther t
    by_assertion a c part = elim (in_cons both a [] c) [ inl e ↦ by (subst (IsPart t) e part) | inr w ↦ absurd (in_none a w) ]

no_leaf : (t : Tree) → IsOther t → tree_sort (signature_of frames) t ≡ Some Ints → is_leaf t ≡ true → ⊥
no_leaf t (inl (inl e)) int is = let z : false ≡ true = subst (λ u. is_leaf u ≡ true) e is in cc
no_leaf t (inl (inr e)) int is = let z : false ≡ true = subst (λ u. is_leaf u ≡ true) e is in cc
no_leaf t (inr (inl e)) int is = let z = subst (λ u. tree_sort (signature_of frames) u ≡ Some Ints) e int in cc
no_leaf t (inr (inr (inl e))) int is = let z = subst (λ u. tree_sort (signature_of frames) u ≡ Some Ints) e int in cc
no_leaf t (inr (inr (inr e))) int is = let z = subst (λ u. tree_sort (signature_of frames) u ≡ Some Ints) e int in cc

leaf_is : (t : ℕ) → IsLeaf trees frames t → t ≡ 1
leaf_is t h = by h.leaf (part_is h.leaf h.part.part) h.part.int h.is h.part.place_is
  where
    by : (l : Tree) → (l ≡ x) ⊎ IsOther l → tree_sort (signature_of frames) l ≡ Some Ints → is_leaf l ≡ true → place_of l trees ≡ t → t ≡ 1
    by l (inl e) int is place = sym place ∙ ap (λ u. place_of u trees) e
    by l (inr other) int is place = absurd (no_leaf l other int is)

box : HasBox trees frames 1
unfolding gcd_of
box = record { least = pos 0; greatest = pos 5; has_least = (0, omega arith, refl); has_greatest = (1, omega arith, refl) }

pub x_is_boxed : XIsBoxed
x_is_boxed t h = subst (HasBox trees frames) (sym (leaf_is t h)) box

five_leaf : IsLeaf Five.trees Five.frames 1
five_leaf = record {
  leaf = x;
  part = record {
    part = record { assertion = Five.low; asserted = (0, omega arith, refl); part = inr (inr (inl (inl refl))) };
    int = refl;
    place_is = refl;
  };
  is = refl;
}

pub five_is_unboxed : FiveIsUnboxed
five_is_unboxed boxed = let b = boxed 1 five_leaf in FiveProofs.no_box 1 b.greatest b.has_greatest
