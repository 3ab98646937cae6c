-- Where a part of an assertion stands, the tree is linear and its leaves are among the trees.
use Rattle.std.proofs.Common.{ℕ, zero, suc, List, [], ◌∷◌, All, refl}
use Rattle.std.specs.Prelude.{IsTrue}
use Rattle.std.proofs.lemmas.List.Elements.{All-head, All-tail, All-contains, All-weaker}
use Rattle.smt_meaning.specs.Term.{Tree, tree_at}
use Rattle.smt_meaning.specs.TreeShape.{is_among, is_linear}
use Rattle.smt_meaning.specs.Parts.{IsPart}
use Rattle.smt_meaning.specs.Linear.{leaves}
use Rattle.smt_meaning.specs.Stack.{assertions_of}
use Rattle.smt_meaning.specs.StackCommand.{start, after_all}
use Rattle.smt_laws.specs.LinearLaws.{AssertionsAreLinear, LeavesAreAmongTheTrees, LeavesAreParts}
use Rattle.check_atoms.specs.ReadablePartsLaws.{PartsAreReadable, LawfulPartsAreReadable}

abbrev pub IsLinear : Tree → Type 0
IsLinear t = IsTrue (is_linear t)

abbrev IsAmong : List Tree → Tree → Type 0
IsAmong ts t = IsTrue (is_among t ts)

pub parts_readable : AssertionsAreLinear → LeavesAreAmongTheTrees → PartsAreReadable
parts_readable linear among cs p k = record {
  linear = All-contains (λ (t : Tree). (u : Tree) → IsPart u t → IsLinear u) (assertions_of (after_all start cs).frames) k.assertion (linear cs) k.asserted (tree_at (after_all start cs).trees p) k.part;
  leaves_within =
      All-contains (λ (t : Tree). (u : Tree) → IsPart u t → All (IsAmong (after_all start cs).trees) (leaves u)) (assertions_of (after_all start cs).frames) k.assertion (among cs) k.asserted
      (tree_at (after_all start cs).trees p) k.part;
}

pub linear_at : (ts : List Tree) (p : ℕ) → All IsLinear ts → IsLinear (tree_at ts p)
linear_at [] p h = refl
linear_at (t ∷ ts) zero h = All-head IsLinear t ts h
linear_at (t ∷ ts) (suc p) h = linear_at ts p (All-tail IsLinear t ts h)

pub lawful_readable : LeavesAreParts → LawfulPartsAreReadable
lawful_readable parts s p lawful k = record {
  linear = linear_at s.trees p lawful.linear;
  leaves_within =
      let within : (u : Tree) → IsPart u k.assertion → IsAmong s.trees u =
      All-contains (λ (t : Tree). (u : Tree) → IsPart u t → IsAmong s.trees u) (assertions_of s.frames) k.assertion lawful.parts k.asserted
      in All-weaker (λ v. IsPart v k.assertion) (IsAmong s.trees) within (leaves (tree_at s.trees p)) (parts k.assertion (tree_at s.trees p) k.part);
}
