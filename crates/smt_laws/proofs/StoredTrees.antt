-- Trees that stand in a list with their parts: joined again they add nothing.
use Rattle.std.proofs.Common.{◌≡◌, List, [], ◌∷◌, ◌++◌, Bool, true, false, ◌||◌, ap, ◌∙◌, refl}
use Rattle.std.specs.Prelude.{if◌then◌else◌}
use Rattle.smt_meaning.specs.Term.{Tree, Trees, node, none, more}
use Rattle.smt_meaning.specs.TreeShape.{is_among, with_tree, with_parts, with_all_parts}
use Rattle.smt_meaning.specs.Sorts.{with_all}
use Rattle.smt_laws.specs.Again.{Stored, AllStored}
use Rattle.smt_laws.proofs.Among.{among_append, among_parts, kept_with_parts}

pub either_way : (b c : Bool) (P : Type 0) → (b ≡ true → P) → (c ≡ true → P) → (b || c) ≡ true → P
either_way true c P f g e = f refl
either_way false c P f g e = g e

abbrev pub EachStored : List Tree → List Tree → Type 0
EachStored [] ts = Unit {0}
EachStored (u ∷ us) ts = Stored u ts × EachStored us ts

mutual
  pub parts_again : (ts : List Tree) (u : Tree) → Stored u ts → with_parts ts u ≡ ts
  parts_again ts (node h us) w = ap (λ xs. with_tree xs (node h us)) (all_parts_again ts us w.1) ∙ ap (λ b. if b then ts else ts ++ node h us ∷ []) w.0

  pub all_parts_again : (ts : List Tree) (us : Trees) → AllStored us ts → with_all_parts ts us ≡ ts
  all_parts_again ts none w = refl
  all_parts_again ts (more u us) w = ap (λ xs. with_all_parts xs us) (parts_again ts u w.0) ∙ all_parts_again ts us w.1

mutual
  pub stored_longer : (u : Tree) (ts vs : List Tree) → Stored u ts → Stored u (ts ++ vs)
  stored_longer (node h us) ts vs w = (among_append (node h us) ts vs w.0, all_stored_longer us ts vs w.1)

  pub all_stored_longer : (us : Trees) (ts vs : List Tree) → AllStored us ts → AllStored us (ts ++ vs)
  all_stored_longer none ts vs w = tt
  all_stored_longer (more u us) ts vs w = (stored_longer u ts vs w.0, all_stored_longer us ts vs w.1)

mutual
  stored_still : (u v : Tree) (ts : List Tree) → Stored u ts → Stored u (with_parts ts v)
  stored_still (node h us) v ts w = (kept_with_parts (node h us) ts v w.0, all_stored_still us v ts w.1)

  all_stored_still : (us : Trees) (v : Tree) (ts : List Tree) → AllStored us ts → AllStored us (with_parts ts v)
  all_stored_still none v ts w = tt
  all_stored_still (more u us) v ts w = (stored_still u v ts w.0, all_stored_still us v ts w.1)

stored_through : (u : Tree) (vs : Trees) (ts : List Tree) → Stored u ts → Stored u (with_all_parts ts vs)
stored_through u none ts w = w
stored_through u (more v vs) ts w = stored_through u vs (with_parts ts v) (stored_still u v ts w)

all_stored_with : (us : Trees) (t : Tree) (ts : List Tree) → AllStored us ts → AllStored us (with_tree ts t)
all_stored_with us t ts w = go (is_among t ts)
  where
    go : (b : Bool) → AllStored us (if b then ts else ts ++ t ∷ [])
    go true = w
    go false = all_stored_longer us ts (t ∷ []) w

mutual
  pub stored_after : (ts : List Tree) (u : Tree) → Stored u (with_parts ts u)
  stored_after ts (node h us) = (among_parts (node h us) ts, all_stored_with us (node h us) (with_all_parts ts us) (all_stored_after ts us))

  pub all_stored_after : (ts : List Tree) (us : Trees) → AllStored us (with_all_parts ts us)
  all_stored_after ts none = tt
  all_stored_after ts (more u us) = (stored_through u us (with_parts ts u) (stored_after ts u), all_stored_after (with_parts ts u) us)

pub stored_with_all : (u : Tree) (vs ts : List Tree) → Stored u ts → Stored u (with_all ts vs)
stored_with_all u [] ts w = w
stored_with_all u (v ∷ vs) ts w = stored_with_all u vs (with_parts ts v) (stored_still u v ts w)

pub each_stored_after : (ts us : List Tree) → EachStored us (with_all ts us)
each_stored_after ts [] = tt
each_stored_after ts (u ∷ us) = (stored_with_all u us (with_parts ts u) (stored_after ts u), each_stored_after (with_parts ts u) us)

pub each_longer : (us ts more' : List Tree) → EachStored us ts → EachStored us (ts ++ more')
each_longer [] ts more' w = tt
each_longer (u ∷ us) ts more' w = (stored_longer u ts more' w.0, each_longer us ts more' w.1)

pub each_again : (ts us : List Tree) → EachStored us ts → with_all ts us ≡ ts
each_again ts [] w = refl
each_again ts (u ∷ us) w = ap (λ xs. with_all xs us) (parts_again ts u w.0) ∙ each_again ts us w.1
