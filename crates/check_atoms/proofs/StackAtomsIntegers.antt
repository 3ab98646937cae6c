-- Terms without integers, by their parts.
use Rattle.std.proofs.Common.{◌≡◌, inl, inr, Bool, true, false, ◌&&◌, not, List, [], ◌∷◌, All, subst, sym, ap, refl}
use Rattle.std.specs.List.{list_all}
use Rattle.std.specs.Prelude.{Contains}
use Rattle.std.proofs.lemmas.List.Elements.{All-nil, All-cons, All-head, All-tail, All-contains, Contains-get_or}
use Rattle.smt_laws.proofs.Both.{and_left, and_right}
use Rattle.smt_meaning.specs.Declaration.{Declaration}
use Rattle.smt_meaning.specs.Term.{Tree, Trees, node, none, more}
use Rattle.smt_meaning.specs.Parts.{IsPart, IsPartOfOne}
use Rattle.smt_meaning.specs.Signature.{tree_sort, is_int}
use Rattle.smt_meaning.specs.Stack.{Frame, signature_of, assertions_of}
use Rattle.smt_meaning.specs.Report.{IsPartOfStack}
use Rattle.smt_meaning.specs.Kinds.{has_no_int, have_no_int, has_no_integers}

not_true : (b : Bool) → not b ≡ true → b ≡ false
not_true true h = absurd cc
not_true false h = refl

both_true : (a b : Bool) → a ≡ true → b ≡ true → (a && b) ≡ true
both_true a b p q = rw (p, q)

mutual
  part_is_no_int : (ds : List Declaration) (u t : Tree) → IsPart u t → has_no_int ds t ≡ true → is_int (tree_sort ds u) ≡ false
  part_is_no_int ds u (node h us) (inl e) b =
      subst (λ v. is_int (tree_sort ds v) ≡ false) (sym e) (not_true (is_int (tree_sort ds (node h us))) (and_left (not (is_int (tree_sort ds (node h us)))) (have_no_int ds us) b))
  part_is_no_int ds u (node h us) (inr q) b = some_is_no_int ds u us q (and_right (not (is_int (tree_sort ds (node h us)))) (have_no_int ds us) b)

  some_is_no_int : (ds : List Declaration) (u : Tree) (us : Trees) → IsPartOfOne u us → have_no_int ds us ≡ true → is_int (tree_sort ds u) ≡ false
  some_is_no_int ds u none q b = absurd q
  some_is_no_int ds u (more t us) (inl q) b = part_is_no_int ds u t q (and_left (has_no_int ds t) (have_no_int ds us) b)
  some_is_no_int ds u (more t us) (inr q) b = some_is_no_int ds u us q (and_right (has_no_int ds t) (have_no_int ds us) b)

mutual
  without : (ds : List Declaration) (t : Tree) → ((u : Tree) → IsPart u t → is_int (tree_sort ds u) ≡ false) → has_no_int ds t ≡ true
  without ds (node h us) f =
      both_true (not (is_int (tree_sort ds (node h us)))) (have_no_int ds us) (ap not (f (node h us) (inl refl))) (withouts ds us (λ u q. f u (inr q)))

  withouts : (ds : List Declaration) (us : Trees) → ((u : Tree) → IsPartOfOne u us → is_int (tree_sort ds u) ≡ false) → have_no_int ds us ≡ true
  withouts ds none f = refl
  withouts ds (more t us) f = both_true (has_no_int ds t) (have_no_int ds us) (without ds t (λ u q. f u (inl q))) (withouts ds us (λ u q. f u (inr q)))

-- ---- of a list of terms

all_of_them : (f : Tree → Bool) (ts : List Tree) → list_all f ts ≡ true → All (λ t. f t ≡ true) ts
all_of_them f [] h = All-nil (λ t. f t ≡ true)
all_of_them f (t ∷ ts) h = All-cons (λ u. f u ≡ true) t ts (and_left (f t) _ h) (all_of_them f ts (and_right (f t) _ h))

all_together : (f : Tree → Bool) (ts : List Tree) → All (λ t. f t ≡ true) ts → list_all f ts ≡ true
all_together f [] h = refl
all_together f (t ∷ ts) h = both_true (f t) (list_all f ts) (All-head (λ u. f u ≡ true) t ts h) (all_together f ts (All-tail (λ u. f u ≡ true) t ts h))

pub part_of_stack_is_no_int : (frames : List Frame) (u : Tree) → IsPartOfStack frames u → has_no_integers frames ≡ true → is_int (tree_sort (signature_of frames) u) ≡ false
part_of_stack_is_no_int frames u p h =
    part_is_no_int (signature_of frames) u p.assertion p.part
    (All-contains (λ t. has_no_int (signature_of frames) t ≡ true) (assertions_of frames) p.assertion (all_of_them (has_no_int (signature_of frames)) (assertions_of frames) h) p.asserted)

each_asserted : (frames : List Frame) (ts : List Tree) → ((t : Tree) → Contains ts t → has_no_int (signature_of frames) t ≡ true) → All (λ t. has_no_int (signature_of frames) t ≡ true) ts
each_asserted frames ts f = λ k d l. f _ (Contains-get_or ts k d l)

pub stack_without_integers : (frames : List Frame) → ((u : Tree) → IsPartOfStack frames u → is_int (tree_sort (signature_of frames) u) ≡ false) → has_no_integers frames ≡ true
stack_without_integers frames f =
    all_together (has_no_int (signature_of frames)) (assertions_of frames)
    (each_asserted frames (assertions_of frames) (λ t c. without (signature_of frames) t (λ u q. f u (record { assertion = t; asserted = c; part = q }))))
