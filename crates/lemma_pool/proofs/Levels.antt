-- A stack, built level by level.
use Rattle.std.proofs.Common.{◌≡◌, List, [], ◌∷◌, ◌++◌, ap, sym, refl, ◌∙◌, append_assoc, append-nil}
use Rattle.smt_meaning.specs.Stack.{Frame, on_top, pushed}
use Rattle.lemma_pool.specs.Pools.{Growth, levels, members, grown, GrowsFromNothing}

abbrev steps_of : List Frame → List Growth
steps_of [] = []
steps_of (f ∷ fs) = levels 1 ∷ members f.declared f.asserted ∷ steps_of fs

fills : (f : Frame) (before : List Frame) → on_top f.declared f.asserted (pushed 1 before) ≡ before ++ f ∷ []
fills f [] = refl
fills f (g ∷ []) = refl
fills f (g ∷ h ∷ before) = ap (λ l. g ∷ l) (fills f (h ∷ before))

builds : (fs before : List Frame) → grown (steps_of fs) before ≡ before ++ fs
builds [] before = sym (append-nil before)
builds (f ∷ fs) before = ap (grown (steps_of fs)) (fills f before) ∙ (builds fs (before ++ f ∷ []) ∙ append_assoc before (f ∷ []) fs)

pub grows_from_nothing : GrowsFromNothing
grows_from_nothing b = record {
  steps = steps_of b.frames;
  frames = sym (builds b.frames []);
  more = [];
  trees = sym (append-nil b.trees);
}
