-- What the units of a search show.
use Rattle.std.proofs.Common.{true, ◌≡◌, ◌≢◌, inl, inr, ◌⊎◌, ℕ, ◌+◌, ◌-◌, ◌<◌, ◌≤◌, false, List, [], ◌∷◌, ◌++◌, map, length, All, Contains, get_or, subst, sym, ap, ◌∙◌, arith, refl, append_assoc}
use Rattle.std.specs.Prelude.{ℤ, AllPairs, Some}
use Rattle.std.proofs.lemmas.List.{take_all, append-nil}
use Rattle.std.proofs.lemmas.List.Kept.{AllPairs-cons}
use Rattle.std.proofs.lemmas.List.Elements.{All-head, All-tail, All-contains, All-map}
use Rattle.literals.specs.Signed.{Signed, opposite}
use Rattle.clause_store.specs.Stored.{Kept, Stored}
use Rattle.fraction128.specs.declared.Line.{Line}
use Rattle.smt_meaning.specs.declared.clauses.Atom.{Atom}
use Rattle.smt_meaning.specs.declared.values.Sort.{Sort}
use Rattle.smt_meaning.specs.declared.values.Sort.TheVariants.{Int as Ints}
use Rattle.smt_meaning.specs.declared.clauses.Atom.TheVariants.{Truth, Same}
use Rattle.smt_meaning.specs.declared.clauses.Literal.{Literal}
use Rattle.smt_meaning.specs.declared.clauses.Clause.{Clause}
use Rattle.smt_meaning.specs.declared.reports.Unit.{Unit as ShownUnit}
use Rattle.smt_meaning.specs.declared.reports.Unit.TheVariants as Shown
use Rattle.smt_meaning.specs.Declaration.{Declaration}
use Rattle.smt_meaning.specs.Term.{Tree, tree_at}
use Rattle.smt_meaning.specs.TreeShape.{place_of}
use Rattle.smt_meaning.specs.Parts.{AreInOrder}
use Rattle.smt_meaning.specs.Interpretation.{Interprets}
use Rattle.smt_meaning.specs.Signature.{tree_sort}
use Rattle.smt_meaning.specs.Stack.{Frame, signature_of, assertions_of, up_to, depth, Satisfies}
use Rattle.smt_meaning.specs.StackCommand.{Stack}
use Rattle.smt_meaning.specs.Atoms.{stack_atoms}
use Rattle.smt_meaning.specs.Follows.{Follows, FollowsFrom, follows, follows_from}
use Rattle.smt_meaning.specs.Clause.{clause_symbols}
use Rattle.smt_meaning.specs.Forced.{Sign, Forces, literals_of}
use Rattle.smt_meaning.specs.Forced.Reaches.{start, unit}
use Rattle.smt_meaning.specs.Report.{IsCheckAtom, IsPartClause, IsAsserted as IsAssertedClause, IsEarlier, IsGiven, IsLearnt, IsNumbered, WorkCosts}
use Rattle.scope_stack.specs.Shown.{IsLawful}
use Rattle.term_store.specs.Terms.{AreDifferent}
use Rattle.term_store.proofs.PlaceLemmas.{place_of-is}
use Rattle.conflict_learn.specs.Learning.{HaveOwnAtoms}
use Rattle.search_port.specs.State.{Reading, ComparesInts, atom_at, written}
use Rattle.search_port.specs.Valid.{FollowsAt, FollowsAsWritten, IsOf}
use Rattle.search_port.specs.Forcing.{numbered, ForcesByNumbers, ForcesInTurn, IsForcedBy}
use Rattle.search_port.specs.Calls.{numbers}
use Rattle.search_port.specs.declared.budget.Lemma.{Lemma}
use Rattle.search_port.specs.declared.budget.Spent.{Spent}
use Rattle.search_port.specs.declared.budget.Spent.TheVariants.{Learnt, Numbered, Pivot}
use Rattle.search_port.proofs.Forcing.{ComesBy, all_of, from_map, in_map}
use Rattle.clause_form.proofs.More.{forces_more}
use Rattle.smt_laws.specs.Flat.{flat, FlatSaysTheSame, SaysTheSame}
use Rattle.check_atoms.specs.Laws.{IsSameOfNoInts}
use Rattle.first_clauses.specs.PartClausesFirst.{ForcesParts, IsAsserted, IsForced, written_literal, unit as unit_clause}
use Rattle.cdcl_core.specs.Search.{literal_lists}
use Rattle.cdcl_core.specs.Turns.{AreNew, IsNewUnit, IsUnforced, IsShown}
use Rattle.worker.specs.Shown.{clause_of, unit_of}
use Rattle.worker.proofs.Lists.{first_or_later}
use Rattle.worker.proofs.Numbers.{IsApart, number_in, number_again}

-- ---- the numbers among units

pub numbers_of_both : (us vs : List Spent) → numbers (us ++ vs) ≡ numbers us ++ numbers vs
numbers_of_both [] vs = refl
numbers_of_both (Learnt c ∷ us) vs = numbers_of_both us vs
numbers_of_both (Numbered n ∷ us) vs = ap (λ ns. n ∷ ns) (numbers_of_both us vs)
numbers_of_both (Pivot l ∷ us) vs = numbers_of_both us vs

-- ---- what is new is new at its place, and isn't empty, where no clause is forgotten

pub new_at : (base : List Kept) (before us vs : List Spent) (x : Spent) → AreNew false base before (us ++ x ∷ vs) → IsNewUnit false base (before ++ us) x
new_at base before [] vs x h = subst (λ xs. IsNewUnit false base xs x) (sym (append-nil before)) h.0
new_at base before (u ∷ us) vs x h = subst (λ xs. IsNewUnit false base xs x) (append_assoc before (u ∷ []) us) (new_at base (before ++ u ∷ []) us vs x h.1)

pub new_front : (base : List Kept) (before us vs : List Spent) → AreNew false base before (us ++ vs) → AreNew false base before us
new_front base before [] vs h = tt
new_front base before (u ∷ us) vs h = (h.0, new_front base (before ++ u ∷ []) us vs h.1)

not_empty : (base : List Kept) (before us : List Spent) (c : Lemma) → AreNew false base before us → Contains us (Learnt c) → c.literals ≡ [] → ⊥
not_empty base before [] c h k e = absurd (omega (arith, k.1))
not_empty base before (u ∷ us) c h k e =
    first_or_later ⊥ u (Learnt c) us (λ same.
    (let new : IsUnforced false base before c.literals = subst (IsNewUnit false base before) same h.0 in
    new.unforced (λ bs cs l f. absurd (none_is bs cs l (sym e ∙ f)))))
    (λ later. not_empty base (before ++ u ∷ []) us c h.1 later e) k
  where
    none_is : (bs cs : List Signed) (l : Signed) → [] ≡ bs ++ l ∷ cs → ⊥
    none_is [] cs l e = cc
    none_is (b ∷ bs) cs l e = cc

-- a kept clause is forced
forced_by_itself : (known : List (List Signed)) (ls : List Signed) → Contains known ls → Forces opposite known ls
forced_by_itself known ls c before after l e = inl (unit before after (subst (Contains known) e c) (λ m k. start (in_map opposite (before ++ after) m k)))

-- ---- no atom twice

other_atoms : (table : List Atom) → IsApart table → (ls : List Signed) → All (λ (l : Signed). l.atom < length table) ls → HaveOwnAtoms ls
    → AllPairs (λ (l m : Literal). l.atom ≢ m.atom) (map (written_literal table) ls)
other_atoms table apart [] h own = λ i j d l m. absurd (omega arith)
other_atoms table apart (l ∷ ls) h own =
    AllPairs-cons (λ (x y : Literal). x.atom ≢ y.atom) (written_literal table l) (map (written_literal table) ls)
    (All-map (λ (y : Literal). atom_at table l.atom ≢ y.atom) (written_literal table) ls (λ k d lt.
    (λ e. (let same : l.atom ≡ (get_or ls k d).atom = apart l.atom (get_or ls k d).atom (All-head (λ (m : Signed). m.atom < length table) l ls h) (All-tail (λ (m : Signed). m.atom < length table) l ls h k d lt) e in
    own.0 k d lt (sym same)))))
    (other_atoms table apart ls (All-tail (λ (m : Signed). m.atom < length table) l ls h) own.1)

-- ---- the end of a search over a stack

different_trees : (trees : List Tree) → AreInOrder trees → AreDifferent trees
different_trees trees order j k l h e = let same : j ≡ k = order.different j k (omega arith) h e in omega arith

-- what is known of the last reading, the branches and the first clauses
pub record IsLast (s : Stack) (branches : List Line) (stored : Stored) (q : Reading) : Type 0 where
  pub trees : q.trees ≡ s.trees
  pub frames : q.frames ≡ flat s.frames
  pub apart : IsApart q.table
  pub atoms : All (IsCheckAtom s.trees s.frames branches) q.table
  pub forced : ForcesParts s q.table (literal_lists stored.clauses)
  pub assertions : All (IsAsserted s.trees q.table stored.clauses) (assertions_of s.frames)
  pub follow : (k : Kept) → Contains stored.clauses k → FollowsAt q k.level k.literals

module _ (s : Stack) (branches : List Line) (stored : Stored) (q : Reading) (last : IsLast s branches stored q) (lawful : IsLawful s) where
  again : (n : ℕ) → n < length q.table → number_in q.table (atom_at q.table n) ≡ n
  again n h = number_again q.table n last.apart h

  -- ---- as written

  numbered_back : (ls : List Signed) → All (λ (l : Signed). l.atom < length q.table) ls → map (numbered (number_in q.table)) (map (written_literal q.table) ls) ≡ ls
  numbered_back [] h = refl
  numbered_back (l ∷ ls) h =
      ap (λ n. record { atom = n; positive = l.positive } ∷ map (numbered (number_in q.table)) (map (written_literal q.table) ls)) (again l.atom (All-head (λ (m : Signed). m.atom < length q.table) l ls h))
      ∙ ap (λ ms. l ∷ ms) (numbered_back ls (All-tail (λ (m : Signed). m.atom < length q.table) l ls h))

  pub inside : (c : Lemma) → IsShown q (Learnt c) → All (λ (l : Signed). l.atom < length q.table) c.literals
  inside c h = all_of (λ (l : Signed). l.atom < length q.table) c.literals (λ l k. h.0.1.within l k)

  -- the place of an assertion is that of its atom
  place_again : (t : Tree) (top : IsAsserted s.trees q.table stored.clauses t) → place_of t s.trees ≡ top.place
  place_again t top =
      let follows_here : FollowsAt q top.kept.kept.level top.kept.kept.literals = last.follow top.kept.kept top.kept.among in
      let of_unit : IsOf q.trees (up_to top.kept.kept.level q.frames) (atom_at q.table top.number) =
      All-head (λ (l : Signed). IsOf q.trees (up_to top.kept.kept.level q.frames) (atom_at q.table l.atom)) (record { atom = top.number; positive = true }) []
      (subst (λ ls. All (λ (l : Signed). IsOf q.trees (up_to top.kept.kept.level q.frames) (atom_at q.table l.atom)) ls) top.kept.literals follows_here.at_level) in
      let of_truth : IsOf q.trees (up_to top.kept.kept.level q.frames) (Truth top.place) = subst (IsOf q.trees (up_to top.kept.kept.level q.frames)) top.atom of_unit in
      let within : top.place < length s.trees =
      subst (λ (ts : List Tree). top.place < length ts) last.trees (All-head (λ i. i < length q.trees) top.place [] of_truth.within) in
      ap (λ (u : Tree). place_of u s.trees) (sym top.term) ∙ place_of-is (tree_at s.trees top.place) s.trees top.place (different_trees s.trees lawful.in_order) within refl

  -- ---- a clause that is given is forced

  module _ (before : List Spent) (shown : All (IsShown q) before) (new : AreNew false stored.clauses [] before) (known : List (List Signed))
      (base_in : (k : Kept) → Contains stored.clauses k → Contains known k.literals) (learnt_in : (d : Lemma) → Contains before (Learnt d) → Contains known d.literals) where
    base_known : (ls : List Signed) → Contains (literal_lists stored.clauses) ls → Contains known ls
    base_known ls h = let r : ComesBy (λ (k : Kept). k.literals) stored.clauses ls = from_map (λ (k : Kept). k.literals) stored.clauses ls h in subst (Contains known) r.is (base_in r.from r.among)

    part_given : (ls : List Literal) → IsPartClause s.trees s.frames ls → IsForcedBy known (map (numbered (number_in q.table)) ls)
    part_given ls p =
        let f : IsForced q.table (literal_lists stored.clauses) p.signs = last.forced p.operator p.arguments p.signs p.part p.clause in
        let same : map (numbered (number_in q.table)) ls ≡ f.literals = ap (map (numbered (number_in q.table))) (p.same ∙ sym f.reads) ∙ numbered_back f.literals f.within in
        subst (IsForcedBy known) (sym same) (record {
          forced = forces_more opposite (literal_lists stored.clauses) known f.literals base_known f.forced;
          some = λ e. f.some (no_signs p.signs (sym f.reads ∙ ap (map (written_literal q.table)) e));
        })
      where
        no_signs : (ss : List Sign) → literals_of ss ≡ [] → ss ≡ []
        no_signs [] e = refl
        no_signs (x ∷ ss) e = absurd cc

    assertion_given : (ls : List Literal) → IsAssertedClause s.trees s.frames ls → IsForcedBy known (map (numbered (number_in q.table)) ls)
    assertion_given ls a =
        let top : IsAsserted s.trees q.table stored.clauses a.assertion = All-contains (IsAsserted s.trees q.table stored.clauses) (assertions_of s.frames) a.assertion last.assertions a.asserted in
        let number : number_in q.table (Truth (place_of a.assertion s.trees)) ≡ top.number =
        ap (λ p. number_in q.table (Truth p)) (place_again a.assertion top) ∙ (ap (number_in q.table) (sym top.atom) ∙ again top.number top.within) in
        let same : map (numbered (number_in q.table)) ls ≡ unit_clause top.number =
        ap (map (numbered (number_in q.table))) a.same ∙ ap (λ n. record { atom = n; positive = true } ∷ []) number in
        let kept : Contains known (unit_clause top.number) = subst (Contains known) top.kept.literals (base_in top.kept.kept top.kept.among) in
        subst (IsForcedBy known) (sym same) (record { forced = forced_by_itself known (unit_clause top.number) kept; some = λ e. cc })

    earlier_given : (level : ℕ) (ls : List Literal) → IsEarlier (map (unit_of q.table level) before) ls → IsForcedBy known (map (numbered (number_in q.table)) ls)
    earlier_given level ls e =
        let r : ComesBy (unit_of q.table level) before (Shown.Learnt e.clause) = from_map (unit_of q.table level) before (Shown.Learnt e.clause) e.learnt in
        of_unit r.from r.among r.is
      where
        clause_in : Clause → ShownUnit → Clause
        clause_in other (Shown.Learnt c) = c
        clause_in other (Shown.Numbered a) = other
        clause_in other (Shown.Pivot l) = other

        of_unit : (x : Spent) → Contains before x → unit_of q.table level x ≡ Shown.Learnt e.clause → IsForcedBy known (map (numbered (number_in q.table)) ls)
        of_unit (Numbered n) c f = cc
        of_unit (Pivot l) c f = cc
        of_unit (Learnt d) c f =
            let is : clause_of q.table level d.literals ≡ e.clause = ap (clause_in e.clause) f in
            let within : All (λ (l : Signed). l.atom < length q.table) d.literals = inside d (All-contains (IsShown q) before (Learnt d) shown c) in
            let same : map (numbered (number_in q.table)) ls ≡ d.literals =
            ap (map (numbered (number_in q.table))) (e.same ∙ ap (λ (x : Clause). x.literals) (sym is)) ∙ numbered_back d.literals within in
            subst (IsForcedBy known) (sym same) (record {
              forced = forced_by_itself known d.literals (learnt_in d c);
              some = λ empty. not_empty stored.clauses [] before d new c empty;
            })

    pub given : (level : ℕ) (ls : List Literal) → IsGiven s.trees s.frames (map (unit_of q.table level) before) ls → IsForcedBy known (map (numbered (number_in q.table)) ls)
    given level ls (inl p) = part_given ls p
    given level ls (inr (inl a)) = assertion_given ls a
    given level ls (inr (inr e)) = earlier_given level ls e

  -- ---- one learnt clause

  at_depth : FollowsAsWritten → FlatSaysTheSame → (c : Lemma) → IsShown q (Learnt c) → Follows s.trees s.frames (depth s.frames) (clause_of q.table (depth s.frames) c.literals)
  at_depth as_written flatly c shown =
      let one : SaysTheSame s.frames = flatly s.frames in
      let levels : up_to c.level q.frames ≡ flat s.frames = ap (up_to c.level) last.frames ∙ one.every_level c.level in
      let f : FollowsFrom q.trees (up_to c.level q.frames) (record { literals = written q c.literals; level = c.level }) =
      follows_from q.trees q.frames c.level (record { literals = written q c.literals; level = c.level }) ((as_written q c.level c.literals).0 shown.0.0) in
      let g : FollowsFrom s.trees (flat s.frames) (record { literals = written q c.literals; level = c.level }) =
      subst (λ (fs : List Frame). FollowsFrom s.trees fs (record { literals = written q c.literals; level = c.level })) levels
      (subst (λ (ts : List Tree). FollowsFrom ts (up_to c.level q.frames) (record { literals = written q c.literals; level = c.level })) last.trees f) in
      let whole : up_to (depth s.frames) s.frames ≡ s.frames = take_all (depth s.frames + 1) s.frames (at_most (length s.frames)) in
      follows s.trees s.frames (depth s.frames) (clause_of q.table (depth s.frames) c.literals)
      (subst (λ (fs : List Frame). FollowsFrom s.trees fs (clause_of q.table (depth s.frames) c.literals)) (sym whole)
      (record {
        true_wherever = λ I i holds.
            g.true_wherever I (subst (λ (ds : List Declaration). Interprets ds I) (sym one.signature) i) (subst (λ (ts : List Tree). All (Satisfies I) ts) (sym one.assertions) holds);
        declared = subst (λ (ds : List Declaration). All (Contains (map (λ (d : Declaration). d.id) ds)) (clause_symbols s.trees (clause_of q.table (depth s.frames) c.literals))) one.signature g.declared;
        within = g.within;
      }))
    where
      at_most : (n : ℕ) → n ≤ n - 1 + 1
      at_most n = omega arith

  pub learnt : FollowsAsWritten → ForcesByNumbers → ForcesInTurn → FlatSaysTheSame → (limit : ℤ) → WorkCosts limit → (before : List Spent) (c : Lemma) → All (IsShown q) before → IsShown q (Learnt c)
      → AreNew false stored.clauses [] before → IsUnforced false stored.clauses before c.literals
      → IsLearnt s.trees s.frames branches limit (map (unit_of q.table (depth s.frames)) before) (clause_of q.table (depth s.frames) c.literals)
  learnt as_written by_numbers in_turn flatly limit costs before c all shown new u =
      let within : All (λ (l : Signed). l.atom < length q.table) c.literals = inside c shown in
      record {
        costs = costs;
        follows = at_depth as_written flatly c shown;
        of_check = All-map (λ (l : Literal). IsCheckAtom s.trees s.frames branches l.atom) (written_literal q.table) c.literals
            (all_of (λ (l : Signed). IsCheckAtom s.trees s.frames branches (atom_at q.table l.atom)) c.literals (λ l k. last.atoms l.atom (Truth 0) (shown.0.1.within l k)));
        no_two = other_atoms q.table last.apart c.literals within shown.1;
        unforced = λ clauses all_given f.
            let by : Forces opposite (map (map (numbered (number_in q.table))) clauses) c.literals =
            subst (Forces opposite (map (map (numbered (number_in q.table))) clauses)) (numbered_back c.literals within) (by_numbers (number_in q.table) clauses (map (written_literal q.table) c.literals) f) in
            let each : (ls : List Signed) → Contains (map (map (numbered (number_in q.table))) clauses) ls → IsForcedBy u.known ls =
            λ ls k. (let r : ComesBy (map (numbered (number_in q.table))) clauses ls = from_map (map (numbered (number_in q.table))) clauses ls k in
            subst (IsForcedBy u.known) r.is
            (given before all new u.known u.base_in (λ d m. u.learnt_in d m tt) (depth s.frames) r.from
            (All-contains (IsGiven s.trees s.frames (map (unit_of q.table (depth s.frames)) before)) clauses r.from all_given r.among))) in
            u.unforced (in_turn u.known (map (map (numbered (number_in q.table))) clauses) c.literals each shown.0.1.no_pair by);
      }

  -- ---- one numbered atom

  -- it has one of the first numbers
  abbrev pub HasFirstNumber : ℕ → Atom → Type 0
  HasFirstNumber first a = (m : ℕ) × (m < first) × (atom_at q.table m ≡ a)

  module _ (first : ℕ) (of_stack : (a : Atom) → Contains (stack_atoms s.trees s.frames) a → HasFirstNumber first a ⊎ IsSameOfNoInts s a) (n : ℕ) (from : first ≤ n) (within : n < length q.table)
      (flatly : FlatSaysTheSame) (ints : ComparesInts q.trees q.frames (atom_at q.table n)) where
    is_int : (i j : ℕ) → atom_at q.table n ≡ Same i j → tree_sort (signature_of s.frames) (tree_at s.trees i) ≡ Some Ints
    is_int i j e =
        let by_stack : ComparesInts s.trees (flat s.frames) (atom_at q.table n) =
        subst (λ (fs : List Frame). ComparesInts s.trees fs (atom_at q.table n)) last.frames (subst (λ (ts : List Tree). ComparesInts ts q.frames (atom_at q.table n)) last.trees ints) in
        let here : ComparesInts s.trees (flat s.frames) (Same i j) = subst (ComparesInts s.trees (flat s.frames)) e by_stack in
        subst (λ (ds : List Declaration). tree_sort ds (tree_at s.trees i) ≡ Some Ints) (flatly s.frames).signature here.0

    of_integers : (i j : ℕ) (sort : Sort) → atom_at q.table n ≡ Same i j → tree_sort (signature_of s.frames) (tree_at s.trees i) ≡ Some sort → sort ≡ Ints
    of_integers i j sort e f = let same : Some sort ≡ Some Ints = sym f ∙ is_int i j e in cc

    other : IsSameOfNoInts s (atom_at q.table n) → ⊥
    other h = h.no_int (of_integers h.left h.right h.sort h.atom h.has_sort)

    not_of_first : HasFirstNumber first (atom_at q.table n) → ⊥
    not_of_first h =
        let below : h.0 < first = h.1 in
        let same : h.0 ≡ n = last.apart h.0 n (omega (arith, below, from, within)) within h.2 in
        omega (arith, below, from, same)

    not_of_stack : Contains (stack_atoms s.trees s.frames) (atom_at q.table n) → ⊥
    not_of_stack h = elim (of_stack (atom_at q.table n) h) [ inl i ↦ not_of_first i | inr b ↦ other b ]

    not_earlier : (before : List Spent) → ((m : ℕ) → Contains before (Numbered m) → m < n) → (level : ℕ) → Contains (map (unit_of q.table level) before) (Shown.Numbered (atom_at q.table n)) → ⊥
    not_earlier before earlier level h =
        let r : ComesBy (unit_of q.table level) before (Shown.Numbered (atom_at q.table n)) = from_map (unit_of q.table level) before (Shown.Numbered (atom_at q.table n)) h in
        of_unit r.from r.among r.is
      where
        atom_in : Atom → ShownUnit → Atom
        atom_in other (Shown.Learnt c) = other
        atom_in other (Shown.Numbered a) = a
        atom_in other (Shown.Pivot l) = other

        of_unit : (x : Spent) → Contains before x → unit_of q.table level x ≡ Shown.Numbered (atom_at q.table n) → ⊥
        of_unit (Learnt d) c f = cc
        of_unit (Pivot l) c f = cc
        of_unit (Numbered m) c f =
            let below : m < n = earlier m c in
            let same : m ≡ n = last.apart m n (omega (arith, below, within)) within (ap (atom_in (Truth 0)) f) in
            omega (arith, below, same)

    pub newly_numbered : (before : List Spent) → ((m : ℕ) → Contains before (Numbered m) → m < n) → (level : ℕ) → IsNumbered s.trees s.frames branches (map (unit_of q.table level) before) (atom_at q.table n)
    newly_numbered before earlier level = record { of_check = last.atoms n (Truth 0) within; not_of_stack = not_of_stack; of_integers = of_integers; new = not_earlier before earlier level }
