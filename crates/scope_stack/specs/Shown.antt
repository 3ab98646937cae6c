-- What a stack shows of itself: its assertions, each by its text and the place of its term, and what is true of every stack.
use Rattle.std.specs.Prelude.{◌≡◌, ◌<◌, List, map, flat_map, length, All, IsTrue, Some}
use Rattle.smt_meaning.specs.declared.values.Sort.TheVariants.{Bool as Truths}
use Rattle.smt_meaning.specs.Term.{Tree, tree_at}
use Rattle.smt_meaning.specs.TreeShape.{is_among, is_linear}
use Rattle.smt_meaning.specs.Parts.{IsPart, AreInOrder}
use Rattle.smt_meaning.specs.Signature.{tree_sort, HasNoIdTwice}
use Rattle.smt_meaning.specs.Stack.{signature_of, assertions_of}
use Rattle.smt_meaning.specs.State.{texts_of}
use Rattle.smt_meaning.specs.StackCommand.{Stack}
use Rattle.smt_laws.specs.Numerals.{numerals_fit}
use Rattle.scope_stack.specs.declared.answers.Assertion.{Assertion}
use Rattle.scope_stack.specs.Inside.{IsReached}

-- these are the stack's assertions, in order
pub record AreAsserted (s : Stack) (xs : List Assertion) : Type 0 where
  pub texts : map (λ (a : Assertion). a.text) xs ≡ flat_map texts_of s.frames
  pub terms : map (λ (a : Assertion). tree_at s.trees a.term) xs ≡ assertions_of s.frames
  pub within : All (λ (a : Assertion). a.term < length s.trees) xs

-- what is true of each stack that commands make
pub record IsLawful (s : Stack) : Type 0 where
  pub no_id_twice : HasNoIdTwice (signature_of s.frames)
  pub truths : All (λ (t : Tree). tree_sort (signature_of s.frames) t ≡ Some Truths) (assertions_of s.frames)
  pub in_order : AreInOrder s.trees
  pub parts : All (λ (t : Tree). (u : Tree) → IsPart u t → IsTrue (is_among u s.trees)) (assertions_of s.frames)
  pub numerals : All (λ (t : Tree). IsTrue (numerals_fit t)) s.trees
  pub linear : All (λ (t : Tree). IsTrue (is_linear t)) s.trees

-- so it is of each that commands give
abbrev pub ReachedStacksAreLawful : Type 0
ReachedStacksAreLawful = (s : Stack) → IsReached s → IsLawful s
