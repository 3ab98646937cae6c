-- Terms of a definition, with arguments put in for its parameters.
use Rattle.std.specs.Prelude.{◌≡◌, ℕ, true, List, map, slice_index_or}
use Rattle.smt_meaning.specs.declared.values.Sort.TheVariants.{Bool as Truths}
use Rattle.smt_meaning.specs.declared.terms.Head.{Head}
use Rattle.smt_meaning.specs.Term.{Tree, Trees, tree_at}
use Rattle.smt_meaning.specs.TreeShape.{put, put_at, with_parts}
use Rattle.smt_meaning.specs.Sorts.{with_all, trees_of}
use Rattle.elaborate.specs.declared.value.Value.{Value}
use Rattle.elaborate.specs.Values.{typed, IsValue, AreValues}

abbrev pub some_value : Value
some_value = record { id = 0; sort = Truths; constant = true; linear = true }

abbrev pub value_at : List Value → ℕ → Value
value_at vs i = slice_index_or vs i some_value

-- the value is the term of a definition with this head, over the terms of these values, with arguments put in; it joined the trees unless it was there
pub record IsPut (arguments : Trees) (h : Head) (vs : List Value) (ts us : List Tree) (v : Value) : Type 0 where
  pub trees : us ≡ with_parts ts (put_at arguments h (trees_of (map (typed ts) vs)))
  pub tree : tree_at us v.id ≡ put_at arguments h (trees_of (map (typed ts) vs))
  pub value : IsValue us v

-- the values are these terms with arguments put in, which joined the trees in order
pub record ArePut (arguments : Trees) (before : List Tree) (terms : List Tree) (vs : List Value) (ts : List Tree) : Type 0 where
  pub values : AreValues ts vs
  pub trees : map (λ (v : Value). tree_at ts v.id) vs ≡ map (put arguments) terms
  pub noted : ts ≡ with_all before (map (put arguments) terms)
