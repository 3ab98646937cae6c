-- Two empty levels, and a clause that is always true.
use Rattle.std.specs.Prelude.{ℕ, true, [], ◌∷◌, pos}
use Rattle.smt_meaning.specs.declared.clauses.Atom.TheVariants.{AtMost}
use Rattle.smt_meaning.specs.declared.clauses.Clause.{Clause}
use Rattle.smt_meaning.specs.Stack.{empty_frame}
use Rattle.race_model.specs.Base.{Base}

abbrev pub two_levels : Base
two_levels = record { trees = []; frames = empty_frame ∷ empty_frame ∷ [] }

-- 0 is at most 0
abbrev pub true_at : ℕ → Clause
true_at l = record { literals = record { atom = AtMost [] (pos 0); positive = true } ∷ []; level = l }
