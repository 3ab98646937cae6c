-- Each part of an assertion is linear, and its leaves are among the trees.
use Rattle.std.proofs.Common.{List, [], ◌∷◌, ◌++◌, All, subst, refl, inl, inr}
use Rattle.std.specs.Prelude.{IsTrue}
use Rattle.std.proofs.lemmas.List.Elements.{All-weaker}
use Rattle.smt_meaning.specs.declared.terms.Operator.TheVariants.{Add, Subtract, Multiply}
use Rattle.smt_meaning.specs.declared.terms.Head.{Head}
use Rattle.smt_meaning.specs.declared.terms.Head.TheVariants.{Numeral, Theory, Symbol, Place}
use Rattle.smt_meaning.specs.Term.{Tree, Trees, node, none, more}
use Rattle.smt_meaning.specs.TreeShape.{is_among, is_linear}
use Rattle.smt_meaning.specs.Parts.{IsPart, IsPartOfOne}
use Rattle.smt_meaning.specs.Linear.{leaves, leaves_at, leaves_of}
use Rattle.smt_meaning.specs.Stack.{assertions_of}
use Rattle.smt_meaning.specs.StackCommand.{start, after_all}
use Rattle.smt_laws.specs.SortLaws.{PartsAreAmongTheTrees}
use Rattle.smt_laws.specs.LinearLaws.{AssertionsAreLinear, LeavesAreAmongTheTrees, LeavesAreParts}
use Rattle.smt_laws.proofs.Each.{Each, each_all, each_among}
use Rattle.smt_laws.proofs.Shapes.{Linear}
use Rattle.smt_laws.proofs.LinearLawsStackLaw.{each_linear}

mutual
  -- a part of a part
  part_of_part : (v u t : Tree) → IsPart v u → IsPart u t → IsPart v t
  part_of_part v u (node h ts) k (inl e) = subst (IsPart v) e k
  part_of_part v u (node h ts) k (inr w) = inr (part_of_one v u ts k w)

  part_of_one : (v u : Tree) (ts : Trees) → IsPart v u → IsPartOfOne u ts → IsPartOfOne v ts
  part_of_one v u none k w = w
  part_of_one v u (more t ts) k (inl w) = inl (part_of_part v u t k w)
  part_of_one v u (more t ts) k (inr w) = inr (part_of_one v u ts k w)

each_weaker : (P Q : Tree → Type 0) (ts : List Tree) → ((t : Tree) → P t → Q t) → Each P ts → Each Q ts
each_weaker P Q [] f h = tt
each_weaker P Q (t ∷ ts) f h = (f t h.0, each_weaker P Q ts f h.1)

each_append : (P : Tree → Type 0) (ts us : List Tree) → Each P ts → Each P us → Each P (ts ++ us)
each_append P [] us h k = k
each_append P (t ∷ ts) us h k = (h.0, each_append P ts us h.1 k)

head_leaves : (h : Head) (us : Trees) (inner : List Tree) → Each (λ v. IsPart v (node h us)) inner → Each (λ v. IsPart v (node h us)) (leaves_at h (node h us) inner)
head_leaves (Numeral n) us inner k = tt
head_leaves (Theory Add) us inner k = k
head_leaves (Theory Subtract) us inner k = k
head_leaves (Theory Multiply) us inner k = k
head_leaves (Theory _) us inner k = (inl refl, tt)
head_leaves (Symbol f) us inner k = (inl refl, tt)
head_leaves (Place j) us inner k = (inl refl, tt)

mutual
  own_leaves : (t : Tree) → Each (λ v. IsPart v t) (leaves t)
  own_leaves (node h us) = head_leaves h us (leaves_of us) (each_weaker (λ v. IsPartOfOne v us) (λ v. IsPart v (node h us)) (leaves_of us) (λ v k. inr k) (leaves_of_parts us))

  leaves_of_parts : (us : Trees) → Each (λ v. IsPartOfOne v us) (leaves_of us)
  leaves_of_parts none = tt
  leaves_of_parts (more u us) =
      each_append (λ v. IsPartOfOne v (more u us)) (leaves u) (leaves_of us)
      (each_weaker (λ v. IsPart v u) (λ v. IsPartOfOne v (more u us)) (leaves u) (λ v k. inl k) (own_leaves u))
      (each_weaker (λ v. IsPartOfOne v us) (λ v. IsPartOfOne v (more u us)) (leaves_of us) (λ v k. inr k) (leaves_of_parts us))

-- ---- the laws

abbrev HasPartsAmong : List Tree → Tree → Type 0
HasPartsAmong ts t = (u : Tree) → IsPart u t → IsTrue (is_among u ts)

abbrev HasLinearParts : Tree → Type 0
HasLinearParts t = (u : Tree) → IsPart u t → IsTrue (is_linear u)

abbrev HasLeavesAmong : List Tree → Tree → Type 0
HasLeavesAmong ts t = (u : Tree) → IsPart u t → All (λ (v : Tree). IsTrue (is_among v ts)) (leaves u)

pub assertions_linear : PartsAreAmongTheTrees → AssertionsAreLinear
assertions_linear parts cs =
    All-weaker (HasPartsAmong (after_all start cs).trees) HasLinearParts (λ t h u k. each_among Linear u (after_all start cs).trees (each_linear cs) (h u k))
    (assertions_of (after_all start cs).frames) (parts cs)

pub leaves_are_parts : LeavesAreParts
leaves_are_parts t u k = each_all (λ v. IsPart v t) (leaves u) (each_weaker (λ v. IsPart v u) (λ v. IsPart v t) (leaves u) (λ v p. part_of_part v u t p k) (own_leaves u))

leaves_within : (ts : List Tree) (t : Tree) → HasPartsAmong ts t → HasLeavesAmong ts t
leaves_within ts t h u k = All-weaker (λ v. IsPart v t) (λ v. IsTrue (is_among v ts)) (λ v p. h v p) (leaves u) (leaves_are_parts t u k)

pub leaves_among : PartsAreAmongTheTrees → LeavesAreAmongTheTrees
leaves_among parts cs =
    All-weaker (HasPartsAmong (after_all start cs).trees) (HasLeavesAmong (after_all start cs).trees) (λ t h. leaves_within (after_all start cs).trees t h)
    (assertions_of (after_all start cs).frames) (parts cs)
