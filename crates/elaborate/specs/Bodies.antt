-- The parameters of a definition as bindings.
use Rattle.std.specs.Prelude.{ℕ, ◌+◌, true, false, List, [], ◌∷◌}
use Rattle.elaborate.specs.declared.Parameter.{Parameter}
use Rattle.elaborate.specs.declared.frame.Binding.{Binding}

-- each parameter with the place of its tree, which is its own
abbrev pub bindings_from : ℕ → List Parameter → List Binding
bindings_from k [] = []
bindings_from k (p ∷ ps) = record { name = p.name; value = record { id = k; sort = p.sort; constant = false; linear = true } } ∷ bindings_from (k + 1) ps
