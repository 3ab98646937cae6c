-- Clauses of a race over numbers and written out.
use Rattle.std.proofs.Common.{◌≡◌, ℕ, zero, suc, ◌+◌, ◌-◌, ◌<◌, ◌≤◌, Bool, true, false, not, nat_eq, List, [], ◌∷◌, ◌++◌, drop, map, length, get_or, All, Contains, subst, sym, ap, ◌∙◌, arith, refl, append_assoc}
use Rattle.std.specs.Prelude.{◌==◌, Option, Some, Result, Ok, Err, IfSome, OnOk, ⊤}
use Rattle.std.proofs.lemmas.List.{take_all, length-map}
use Rattle.std.proofs.lemmas.List.Elements.{All-contains, All-push, Contains-get_or}
use Rattle.std.proofs.lemmas.Bool.Decides.{nat_tests}
use Rattle.literals.specs.Signed.{Signed, packed}
use Rattle.smt_meaning.specs.declared.clauses.Atom.{Atom}
use Rattle.smt_meaning.specs.declared.clauses.Literal.{Literal}
use Rattle.smt_meaning.specs.declared.clauses.Clause.{Clause}
use Rattle.smt_meaning.specs.Declaration.{Declaration}
use Rattle.smt_meaning.specs.Term.{Tree, tree_at}
use Rattle.smt_meaning.specs.Interpretation.{Interprets}
use Rattle.smt_meaning.specs.Stack.{Frame, Satisfies, assertions_of, depth, up_to}
use Rattle.smt_meaning.specs.StackCommand.{Stack}
use Rattle.smt_meaning.specs.Follows.{Follows, FollowsFrom, follows, follows_from}
use Rattle.smt_meaning.specs.Clause.{clause_symbols}
use Rattle.smt_laws.specs.Flat.{flat, FlatSaysTheSame, SaysTheSame}
use Rattle.smt_laws.specs.ClauseLaws.{StillFollowsAbove}
use Rattle.scope_stack.specs.Shown.{AreAsserted}
use Rattle.scope_stack.specs.declared.answers.Assertion.{Assertion}
use Rattle.race_model.specs.Base.{Base}
use Rattle.race_model.specs.Laws.{IsSound}
use Rattle.search_port.specs.State.{Reading, IsGrown, atom_at, written}
use Rattle.search_port.specs.Valid.{FollowsAt, FollowsAsWritten, IsOver}
use Rattle.search_port.specs.Forcing.{HasNoPair}
use Rattle.search_port.specs.declared.budget.Lemma.{Lemma}
use Rattle.search_port.proofs.Forcing.{in_map}
use Rattle.first_clauses.specs.PartClausesFirst.{written_literal}
use Rattle.cdcl_core.specs.Search.{IsAddable}
use Rattle.worker.specs.Shown.{clause_of}
use Rattle.worker.specs.Racing.{base_of_stack, first_reading}
use Rattle.worker.specs.Import.{HasPair, MayTake}

-- ---- the levels of the stack, and all of them as one

module _ (flatly : FlatSaysTheSame) (s : Stack) where
  one : SaysTheSame s.frames
  one = flatly s.frames

  -- from all levels as one to the levels
  by_levels : (c : Clause) → FollowsFrom s.trees (flat s.frames) c → FollowsFrom s.trees s.frames c
  by_levels c g = record {
    true_wherever = λ I i holds.
        g.true_wherever I (subst (λ (ds : List Declaration). Interprets ds I) (sym one.signature) i) (subst (λ (ts : List Tree). All (Satisfies I) ts) (sym one.assertions) holds);
    declared = subst (λ (ds : List Declaration). All (Contains (map (λ (d : Declaration). d.id) ds)) (clause_symbols s.trees c)) one.signature g.declared;
    within = g.within;
  }

  -- and back
  by_one : (c : Clause) → FollowsFrom s.trees s.frames c → FollowsFrom s.trees (flat s.frames) c
  by_one c g = record {
    true_wherever = λ I i holds.
        g.true_wherever I (subst (λ (ds : List Declaration). Interprets ds I) one.signature i) (subst (λ (ts : List Tree). All (Satisfies I) ts) one.assertions holds);
    declared = subst (λ (ds : List Declaration). All (Contains (map (λ (d : Declaration). d.id) ds)) (clause_symbols s.trees c)) (sym one.signature) g.declared;
    within = g.within;
  }

  -- the level at which a clause is noted doesn't matter
  at_any_level : (fs : List Frame) (ls : List Literal) (k l : ℕ) → FollowsFrom s.trees fs (record { literals = ls; level = k }) → FollowsFrom s.trees fs (record { literals = ls; level = l })
  at_any_level fs ls k l g = record { true_wherever = g.true_wherever; declared = g.declared; within = g.within }

  module _ (as_written : FollowsAsWritten) (r : Reading) (grown : IsGrown (first_reading s) r) where
    trees : r.trees ≡ s.trees
    trees = ap (λ (q : Reading). q.trees) grown.is

    frames : r.frames ≡ flat s.frames
    frames = ap (λ (q : Reading). q.frames) grown.is

    -- a clause that is written out at the depth of the stack follows from its levels
    pub exported : (c : Lemma) → IsAddable r c → 0 < length s.frames → IsSound (base_of_stack s) (clause_of r.table (depth s.frames) c.literals)
    exported c addable some =
        let levels : up_to c.level r.frames ≡ flat s.frames = ap (up_to c.level) frames ∙ one.every_level c.level in
        let f : FollowsFrom r.trees (up_to c.level r.frames) (record { literals = written r c.literals; level = c.level }) =
        follows_from r.trees r.frames c.level (record { literals = written r c.literals; level = c.level }) ((as_written r c.level c.literals).0 addable.0) in
        let g : FollowsFrom s.trees (flat s.frames) (record { literals = written r c.literals; level = c.level }) =
        subst (λ (fs : List Frame). FollowsFrom s.trees fs (record { literals = written r c.literals; level = c.level })) levels
        (subst (λ (ts : List Tree). FollowsFrom ts (up_to c.level r.frames) (record { literals = written r c.literals; level = c.level })) trees f) in
        let whole : up_to (depth s.frames) s.frames ≡ s.frames = take_all (depth s.frames + 1) s.frames (at_most (length s.frames)) in
        record {
          follows = follows s.trees s.frames (depth s.frames) (clause_of r.table (depth s.frames) c.literals)
              (subst (λ (fs : List Frame). FollowsFrom s.trees fs (clause_of r.table (depth s.frames) c.literals)) (sym whole)
              (by_levels (clause_of r.table (depth s.frames) c.literals) (at_any_level (flat s.frames) (written r c.literals) c.level (depth s.frames) g)));
          within = below (length s.frames) some;
        }
      where
        at_most : (n : ℕ) → n ≤ n - 1 + 1
        at_most n = omega arith

        below : (n : ℕ) → 0 < n → n - 1 < n
        below n h = omega (arith, h)

    -- a clause of the race over numbers follows from all levels as one
    pub imported : StillFollowsAbove → (c : Clause) (ls : List Signed) → IsSound (base_of_stack s) c → map (written_literal r.table) ls ≡ c.literals → FollowsAt r 0 ls
    imported above c ls sound same =
        let top : Follows s.trees s.frames (length s.frames) c = above s.trees s.frames c.level (length s.frames) c (lower c.level (length s.frames) sound.within) sound.follows in
        let whole : up_to (length s.frames) s.frames ≡ s.frames = take_all (length s.frames + 1) s.frames (one_more (length s.frames)) in
        let f : FollowsFrom s.trees s.frames c = subst (λ (fs : List Frame). FollowsFrom s.trees fs c) whole (follows_from s.trees s.frames (length s.frames) c top) in
        let g : FollowsFrom s.trees s.frames (record { literals = written r ls; level = c.level }) =
        subst (λ (ms : List Literal). FollowsFrom s.trees s.frames (record { literals = ms; level = c.level })) (sym same) f in
        let h : FollowsFrom s.trees (flat s.frames) (record { literals = written r ls; level = 0 }) =
        by_one (record { literals = written r ls; level = 0 }) (at_any_level s.frames (written r ls) c.level 0 g) in
        let levels : up_to 0 r.frames ≡ flat s.frames = ap (up_to 0) frames ∙ one.every_level 0 in
        (as_written r 0 ls).1 (follows r.trees r.frames 0 (record { literals = written r ls; level = 0 })
        (subst (λ (ts : List Tree). FollowsFrom ts (up_to 0 r.frames) (record { literals = written r ls; level = 0 })) (sym trees)
        (subst (λ (fs : List Frame). FollowsFrom s.trees fs (record { literals = written r ls; level = 0 })) (sym levels) h)))
      where
        lower : (m n : ℕ) → m < n → m ≤ n
        lower m n h = omega (arith, h)

        one_more : (n : ℕ) → n ≤ n + 1
        one_more n = omega arith

-- where there is an assertion there is a level
some_level : (frames : List Frame) (n : ℕ) → length (assertions_of frames) ≡ n → 0 < n → 0 < length frames
some_level [] n e h = absurd (omega (arith, e, h))
some_level (f ∷ fs) n e h = omega arith

pub has_level : (s : Stack) (xs : List Assertion) → AreAsserted s xs → 0 < length xs → 0 < length s.frames
has_level s xs asserted some =
    some_level s.frames (length xs) (ap length (sym asserted.terms) ∙ length-map xs (λ (a : Assertion). tree_at s.trees a.term)) some

-- ---- both signs

by_sign : (table : List Atom) (ls : List Signed) (n : ℕ) (b : Bool) → Contains ls (record { atom = n; positive = b }) → Contains ls (record { atom = n; positive = not b })
    → MayTake table (map (written_literal table) ls) → ⊥
by_sign table ls n true h k m = m.no_pair (atom_at table n) (in_map (written_literal table) ls (record { atom = n; positive = true }) h) (in_map (written_literal table) ls (record { atom = n; positive = false }) k)
by_sign table ls n false h k m = m.no_pair (atom_at table n) (in_map (written_literal table) ls (record { atom = n; positive = true }) k) (in_map (written_literal table) ls (record { atom = n; positive = false }) h)

-- a clause that has an atom with both signs as numbers has one as it is written
pub pair_shown : (table : List Atom) (ls : List Signed) (ms : List Literal) → map (written_literal table) ls ≡ ms → HasPair ls → MayTake table ms → ⊥
pair_shown table ls ms same pair may = by_sign table ls pair.0.atom pair.0.positive pair.1 pair.2 (subst (MayTake table) (sym same) may)

-- ---- as the calls have it

pub of_some : {A : Type 0} (P : A → Type 0) (o : Option A) (x : A) → o ≡ Some x → IfSome o P → P x
of_some P o x e h = subst (λ q. IfSome q P) e h

pub on_ok : {E : Type 0} (r : Result ⊤ E) (P Q : Type 0) → OnOk r P → (P → Q) → OnOk r Q
on_ok (Ok u) P Q h f = f h
on_ok (Err e) P Q h f = h

pub not_none : (n : ℕ) → false ≡ (n == 0) → 0 < n
not_none zero e = absurd cc
not_none (suc n) e = omega arith

pub over_all : (n : ℕ) (ls ms : List Signed) → ms ≡ ls → IsOver n ls → All (λ (l : Signed). l.atom < n) ms
over_all n ls ms e h = subst (λ (xs : List Signed). All (λ (l : Signed). l.atom < n) xs) (sym e) (λ k d lt. h.within (get_or ls k d) (Contains-get_or ls k d lt))

-- what is shared follows from the levels on which the race began
pub shared_follows : FlatSaysTheSame → FollowsAsWritten → (s : Stack) (r : Reading) (c : Lemma) (b : Base) (d : Clause) (k : ℕ) (ls : List Signed) (xs : List Assertion) → b ≡ base_of_stack s
    → IsGrown (first_reading s) r → IsAddable r c → AreAsserted s xs → 0 < length xs → k ≡ depth s.frames → ls ≡ c.literals → d ≡ clause_of r.table k ls → IsSound b d
shared_follows flatly as_written s r c b d k ls xs base grown addable asserted some at same is =
    let e : d ≡ clause_of r.table (depth s.frames) c.literals =
    is ∙ (ap (λ (n : ℕ). clause_of r.table n ls) at ∙ ap (λ (ms : List Signed). clause_of r.table (depth s.frames) ms) same) in
    subst (λ (x : Base). IsSound x d) (sym base) (subst (λ (x : Clause). IsSound (base_of_stack s) x) (sym e) (exported flatly s as_written r grown c addable (has_level s xs asserted some)))

-- what is taken may be added
pub addable_here : FlatSaysTheSame → FollowsAsWritten → StillFollowsAbove → (s : Stack) (r : Reading) (c : Clause) (xs ys zs : List Signed) → IsGrown (first_reading s) r → IsSound (base_of_stack s) c
    → map (written_literal r.table) xs ≡ c.literals → All (λ (l : Signed). l.atom < length r.table) xs → HasNoPair ys → ys ≡ xs → zs ≡ xs → IsAddable r (record { literals = zs; level = 0 })
addable_here flatly as_written above s r c xs ys zs grown sound same within apart ys_are zs_are =
    let over : IsOver (length r.table) xs =
    record { within = λ l k. All-contains (λ (m : Signed). m.atom < length r.table) xs l within k; no_pair = subst HasNoPair ys_are apart } in
    subst (λ (ls : List Signed). IsAddable r (record { literals = ls; level = 0 })) (sym zs_are) (imported flatly s as_written r grown above c xs sound same, over)

-- ---- numbering

map_push : (table : List Atom) (xs : List Signed) (x : Signed) → map (written_literal table) (xs ++ x ∷ []) ≡ map (written_literal table) xs ++ written_literal table x ∷ []
map_push table [] x = refl
map_push table (y ∷ ys) x = ap (λ (ls : List Literal). written_literal table y ∷ ls) (map_push table ys x)

drop_next : (ls : List Literal) (i : ℕ) (d : Literal) → i < length ls → drop i ls ≡ get_or ls i d ∷ drop (suc i) ls
drop_next [] i d h = absurd (omega (arith, h))
drop_next (l ∷ ls) zero d h = refl
drop_next (l ∷ ls) (suc i) d h = drop_next ls i d (omega (arith, h))

drop_one : (ls : List Literal) (i : ℕ) (d : Literal) → i < length ls → drop i ls ≡ get_or ls i d ∷ drop (i + 1) ls
drop_one ls i d h = drop_next ls i d h ∙ ap (λ (n : ℕ). get_or ls i d ∷ drop n ls) (next i)
  where
    next : (n : ℕ) → suc n ≡ n + 1
    next n = omega arith

pub numbered_more : (table : List Atom) (xs ys : List Signed) (x : Signed) (n : ℕ) (ls : List Literal) (i : ℕ) (l : Literal) → i < length ls → l ≡ get_or ls i l → ys ≡ xs ++ x ∷ []
    → x ≡ record { atom = n; positive = l.positive } → atom_at table n ≡ l.atom → map (written_literal table) xs ++ drop i ls ≡ ls → map (written_literal table) ys ++ drop (i + 1) ls ≡ ls
numbered_more table xs ys x n ls i l lt item are is atom before =
    let says : written_literal table x ≡ get_or ls i l =
    ap (written_literal table) is ∙ (ap (λ (a : Atom). record { atom = a; positive = l.positive }) atom ∙ item) in
    let rest : written_literal table x ∷ drop (i + 1) ls ≡ drop i ls = ap (λ (m : Literal). m ∷ drop (i + 1) ls) says ∙ sym (drop_one ls i l lt) in
    ap (λ (zs : List Signed). map (written_literal table) zs ++ drop (i + 1) ls) are
    ∙ (ap (λ (ms : List Literal). ms ++ drop (i + 1) ls) (map_push table xs x)
    ∙ (append_assoc (map (written_literal table) xs) (written_literal table x ∷ []) (drop (i + 1) ls) ∙ (ap (λ (ms : List Literal). map (written_literal table) xs ++ ms) rest ∙ before)))

pub within_more : (m : ℕ) (xs ys : List Signed) (x : Signed) (n : ℕ) (b : Bool) → ys ≡ xs ++ x ∷ [] → x ≡ record { atom = n; positive = b } → n < m → All (λ (l : Signed). l.atom < m) xs
    → All (λ (l : Signed). l.atom < m) ys
within_more m xs ys x n b are is lt before =
    subst (λ (zs : List Signed). All (λ (l : Signed). l.atom < m) zs) (sym are)
    (All-push (λ (l : Signed). l.atom < m) xs x before (subst (λ (l : Signed). l.atom < m) (sym is) lt))

same_number : (n : ℕ) → nat_eq n n ≡ true
same_number n = grind (arith, nat_tests)

-- a literal whose word is none of theirs is none of these
pub not_among : (xs : List Signed) (m n : Signed) → n ≡ m → ((k : ℕ) (d : Signed) → 0 ≤ k → k < length xs → nat_eq (packed (get_or xs k d)) (packed n) ≡ false) → Contains xs m → ⊥
not_among xs m n e h among =
    let no : nat_eq (packed (get_or xs among.0 m)) (packed n) ≡ false = h among.0 m (omega arith) among.1 in
    let yes : nat_eq (packed (get_or xs among.0 m)) (packed n) ≡ true =
    ap (λ (x : Signed). nat_eq (packed x) (packed n)) among.2 ∙ (ap (λ (x : Signed). nat_eq (packed m) (packed x)) e ∙ same_number (packed m)) in
    absurd cc
