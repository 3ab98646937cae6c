-- A clause over numbers follows where the clause with its atoms written out does, and the other way round.
use Rattle.std.proofs.Common.{◌≡◌, ℕ, ◌<◌, Bool, true, false, ◌||◌, List, [], ◌∷◌, ◌++◌, length, get_or, All, Contains, ap, sym, ◌∙◌, refl}
use Rattle.std.proofs.lemmas.List.Elements.{All-append, All-cons, All-contains, All-head, All-tail, All-nil, Contains-append_left, Contains-append_right, Contains-get_or}
use Rattle.literals.specs.Signed.{Signed, sign, literal_true, some_true}
use Rattle.smt_meaning.specs.Term.{Tree, Interpretation, tree_at}
use Rattle.smt_meaning.specs.Stack.{Frame, up_to}
use Rattle.smt_meaning.specs.Clause.{signed, places, atom_places, symbols, symbols_at}
use Rattle.smt_meaning.specs.Clause.{some_true as some_written}
use Rattle.smt_meaning.specs.Follows.{declared_ids, Follows, FollowsFrom, follows, follows_from}
use Rattle.search_port.specs.State.{Reading, atom_at, truth, written}
use Rattle.search_port.specs.Valid.{IsOf, FollowsAt}

same_sign : (p b : Bool) → signed p b ≡ sign p b
same_sign true b = refl
same_sign false b = refl

same_truth : (r : Reading) (I : Interpretation) (ls : List Signed) → some_written r.trees I (written r ls) ≡ some_true (truth r I) ls
same_truth r I [] = refl
same_truth r I (l ∷ ls) =
    ap (λ b. b || some_written r.trees I (written r ls)) (same_sign l.positive (truth r I l.atom)) ∙ ap (λ b. literal_true (truth r I) l || b) (same_truth r I ls)

append_left : {X : Type 0} (P : X → Type 0) (xs ys : List X) → All P (xs ++ ys) → All P xs
append_left P xs ys h k d lt = All-contains P (xs ++ ys) (get_or xs k d) h (Contains-append_left xs ys (get_or xs k d) (Contains-get_or xs k d lt))

append_right : {X : Type 0} (P : X → Type 0) (xs ys : List X) → All P (xs ++ ys) → All P ys
append_right P xs ys h k d lt = All-contains P (xs ++ ys) (get_or ys k d) h (Contains-append_right xs ys (get_or ys k d) (Contains-get_or ys k d lt))

symbols-append : (ts : List Tree) (is js : List ℕ) (P : ℕ → Type 0) → All P (symbols_at ts is) → All P (symbols_at ts js) → All P (symbols_at ts (is ++ js))
symbols-append ts [] js P h k = k
symbols-append ts (i ∷ is) js P h k =
    All-append P (symbols (tree_at ts i)) (symbols_at ts (is ++ js)) (append_left P (symbols (tree_at ts i)) (symbols_at ts is) h)
    (symbols-append ts is js P (append_right P (symbols (tree_at ts i)) (symbols_at ts is) h) k)

symbols-left : (ts : List Tree) (is js : List ℕ) (P : ℕ → Type 0) → All P (symbols_at ts (is ++ js)) → All P (symbols_at ts is)
symbols-left ts [] js P h = All-nil P
symbols-left ts (i ∷ is) js P h =
    All-append P (symbols (tree_at ts i)) (symbols_at ts is) (append_left P (symbols (tree_at ts i)) (symbols_at ts (is ++ js)) h)
    (symbols-left ts is js P (append_right P (symbols (tree_at ts i)) (symbols_at ts (is ++ js)) h))

symbols-right : (ts : List Tree) (is js : List ℕ) (P : ℕ → Type 0) → All P (symbols_at ts (is ++ js)) → All P (symbols_at ts js)
symbols-right ts [] js P h = h
symbols-right ts (i ∷ is) js P h = symbols-right ts is js P (append_right P (symbols (tree_at ts i)) (symbols_at ts (is ++ js)) h)

module _ (r : Reading) (frames : List Frame) where
  declared_of : (ls : List Signed) → All (λ (l : Signed). IsOf r.trees frames (atom_at r.table l.atom)) ls → All (Contains (declared_ids frames)) (symbols_at r.trees (places (written r ls)))
  declared_of [] h = All-nil (Contains (declared_ids frames))
  declared_of (l ∷ ls) h =
      let here : IsOf r.trees frames (atom_at r.table l.atom) = All-head (λ (m : Signed). IsOf r.trees frames (atom_at r.table m.atom)) l ls h in
      symbols-append r.trees (atom_places (atom_at r.table l.atom)) (places (written r ls)) (Contains (declared_ids frames)) here.declared (declared_of ls (All-tail (λ (m : Signed). IsOf r.trees frames (atom_at r.table m.atom)) l ls h))

  within_of : (ls : List Signed) → All (λ (l : Signed). IsOf r.trees frames (atom_at r.table l.atom)) ls → All (λ i. i < length r.trees) (places (written r ls))
  within_of [] h = All-nil (λ i. i < length r.trees)
  within_of (l ∷ ls) h =
      let here : IsOf r.trees frames (atom_at r.table l.atom) = All-head (λ (m : Signed). IsOf r.trees frames (atom_at r.table m.atom)) l ls h in
      All-append (λ i. i < length r.trees) (atom_places (atom_at r.table l.atom)) (places (written r ls)) here.within (within_of ls (All-tail (λ (m : Signed). IsOf r.trees frames (atom_at r.table m.atom)) l ls h))

  of_written : (ls : List Signed) → All (Contains (declared_ids frames)) (symbols_at r.trees (places (written r ls))) → All (λ i. i < length r.trees) (places (written r ls)) → All (λ (l : Signed). IsOf r.trees frames (atom_at r.table l.atom)) ls
  of_written [] h k = All-nil (λ (m : Signed). IsOf r.trees frames (atom_at r.table m.atom))
  of_written (l ∷ ls) h k =
      All-cons (λ (m : Signed). IsOf r.trees frames (atom_at r.table m.atom)) l ls
      (record {
        declared = symbols-left r.trees (atom_places (atom_at r.table l.atom)) (places (written r ls)) (Contains (declared_ids frames)) h;
        within = append_left (λ i. i < length r.trees) (atom_places (atom_at r.table l.atom)) (places (written r ls)) k;
      })
      (of_written ls (symbols-right r.trees (atom_places (atom_at r.table l.atom)) (places (written r ls)) (Contains (declared_ids frames)) h)
      (append_right (λ i. i < length r.trees) (atom_places (atom_at r.table l.atom)) (places (written r ls)) k))

pub written-follows : (r : Reading) (level : ℕ) (ls : List Signed) → FollowsAt r level ls → Follows r.trees r.frames level (record { literals = written r ls; level = level })
written-follows r level ls f = follows r.trees r.frames level (record { literals = written r ls; level = level }) (record {
  true_wherever = λ I interprets holds. same_truth r I ls ∙ f.true_wherever I interprets holds;
  declared = declared_of r (up_to level r.frames) ls f.at_level;
  within = within_of r (up_to level r.frames) ls f.at_level;
})

pub follows-written : (r : Reading) (level : ℕ) (ls : List Signed) → Follows r.trees r.frames level (record { literals = written r ls; level = level }) → FollowsAt r level ls
follows-written r level ls h =
    let f : FollowsFrom r.trees (up_to level r.frames) (record { literals = written r ls; level = level }) = follows_from r.trees r.frames level (record { literals = written r ls; level = level }) h in
    record {
      true_wherever = λ I interprets holds. sym (same_truth r I ls) ∙ f.true_wherever I interprets holds;
      at_level = of_written r (up_to level r.frames) ls f.declared f.within;
    }
