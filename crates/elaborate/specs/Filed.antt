-- How bindings are filed.
use Rattle.std.specs.Prelude.{ℕ, List}
use Rattle.term_store.specs.Newest.{hashes_of}
use Rattle.elaborate.specs.declared.frame.Binding.{Binding}

abbrev pub bound_hashes : List Binding → List ℕ
bound_hashes bs = hashes_of (λ (b : Binding). b.name) bs
