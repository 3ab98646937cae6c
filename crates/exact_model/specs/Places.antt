-- Values by the places of terms.
use Rattle.std.specs.Prelude.{◌≡◌, ℕ, suc, Bool, true, false, List, [], ◌∷◌, length, slice_index_or, All, IsTrue}
use Rattle.smt_meaning.specs.declared.values.Value.{Value}
use Rattle.smt_meaning.specs.declared.values.Value.TheVariants.{Truth}
use Rattle.smt_meaning.specs.Term.{Tree, tree_at, Interpretation, value, fits}
use Rattle.model_eval.specs.Walk.{is_marked}

abbrev pub value_at : List Value → ℕ → Value
value_at values p = slice_index_or values p (Truth false)

-- the marked places, where the first mark is that of this place
abbrev pub marked_from : ℕ → List Bool → List ℕ
marked_from p [] = []
marked_from p (true ∷ marks) = p ∷ marked_from (suc p) marks
marked_from p (false ∷ marks) = marked_from (suc p) marks

abbrev pub marked_places : List Bool → List ℕ
marked_places marks = marked_from 0 marks

-- each marked term has its value under the interpretation
pub record AreValues (trees : List Tree) (marks : List Bool) (I : Interpretation) (values : List Value) : Type 0 where
  pub size : length values ≡ length trees
  pub each : (p : ℕ) → is_marked marks p ≡ true → value_at values p ≡ value I (tree_at trees p)

-- of each marked term every number on the way is in the range
abbrev pub AllMarkedFit : List Tree → List Bool → Interpretation → Type 0
AllMarkedFit trees marks I = (p : ℕ) → is_marked marks p ≡ true → IsTrue (fits I (tree_at trees p))

-- each of these terms stands at a marked place
abbrev pub AreAtMarks : List Tree → List Bool → List Tree → Type 0
AreAtMarks trees marks ts = All (λ t. (p : ℕ) × (is_marked marks p ≡ true) × (tree_at trees p ≡ t)) ts
