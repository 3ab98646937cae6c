-- The kinds of problems, by the terms that stand in them.
use Rattle.std.specs.Prelude.{ℕ, ◌+◌, Bool, true, false, not, ◌&&◌, nat_eq, List, []}
use Rattle.std.specs.List.{list_all}
use Rattle.smt_meaning.specs.declared.terms.Operator.{Operator}
use Rattle.smt_meaning.specs.declared.terms.Operator.TheVariants.{Add, Subtract, Multiply, AtMost, Less, AtLeast, Greater, Divide, Modulo, Absolute, Divisible}
use Rattle.smt_meaning.specs.declared.terms.Head.{Head}
use Rattle.smt_meaning.specs.declared.terms.Head.TheVariants.{Theory, Symbol}
use Rattle.smt_meaning.specs.Declaration.{Declaration}
use Rattle.smt_meaning.specs.Term.{Tree, Trees, node, none, more}
use Rattle.smt_meaning.specs.Signature.{function_with_id, symbol_sort, tree_sort, stands_with, is_bool, is_int}
use Rattle.smt_meaning.specs.Stack.{Frame, signature_of, assertions_of}

-- ---- propositional logic: Bool constants, true, false, not, and, or, xor, =>, =, distinct and ite

abbrev pub is_connective : Operator → Bool
is_connective Add = false
is_connective Subtract = false
is_connective Multiply = false
is_connective AtMost = false
is_connective Less = false
is_connective AtLeast = false
is_connective Greater = false
is_connective Divide = false
is_connective Modulo = false
is_connective Absolute = false
is_connective Divisible = false
is_connective _ = true

abbrev pub count_trees : Trees → ℕ
count_trees none = 0
count_trees (more t ts) = count_trees ts + 1

-- the head may stand so over this many propositional arguments, which are all of sort Bool
abbrev pub is_propositional_head : List Declaration → Head → ℕ → Bool
is_propositional_head ds (Theory o) n = is_connective o && stands_with o n
is_propositional_head ds (Symbol f) n = nat_eq n 0 && is_bool (symbol_sort (function_with_id f ds) [])
is_propositional_head ds _ n = false

abbrev mutual
  pub is_propositional_tree : List Declaration → Tree → Bool
  is_propositional_tree ds (node h ts) = is_propositional_head ds h (count_trees ts) && are_propositional_trees ds ts

  pub are_propositional_trees : List Declaration → Trees → Bool
  are_propositional_trees ds none = true
  are_propositional_trees ds (more t ts) = is_propositional_tree ds t && are_propositional_trees ds ts

-- each assertion is a propositional term
abbrev pub is_propositional : List Frame → Bool
is_propositional frames = list_all (is_propositional_tree (signature_of frames)) (assertions_of frames)

-- ---- terms without integers

abbrev mutual
  -- no part of it is an Int
  pub has_no_int : List Declaration → Tree → Bool
  has_no_int ds (node h ts) = not (is_int (tree_sort ds (node h ts))) && have_no_int ds ts

  pub have_no_int : List Declaration → Trees → Bool
  have_no_int ds none = true
  have_no_int ds (more t ts) = has_no_int ds t && have_no_int ds ts

-- no part of an assertion is an Int
abbrev pub has_no_integers : List Frame → Bool
has_no_integers frames = list_all (has_no_int (signature_of frames)) (assertions_of frames)
