-- What a log decides of the parts of a stack it decides of those of each stack with the same terms, symbols and assertions.
use Rattle.std.proofs.Common.{◌≡◌, inl, inr, ℕ, ◌<◌, Bool, true, false, List, [], ◌∷◌, Some, map, length, get_or, All, Contains, subst, sym, ap, ◌∙◌, arith, refl}
use Rattle.std.proofs.lemmas.List.{ext_get_or}
use Rattle.std.proofs.lemmas.List.Elements.{All-cons, All-head, All-tail, All-weaker}
use Rattle.literals.specs.Signed.{Signed}
use Rattle.smt_meaning.specs.declared.values.Sort.{Sort}
use Rattle.smt_meaning.specs.declared.values.Sort.TheVariants.{Int as Ints, Free}
use Rattle.smt_meaning.specs.declared.terms.Operator.{Operator}
use Rattle.smt_meaning.specs.declared.terms.Operator.TheVariants.{True, False, Not, And, Or, Xor, Implies, Equal, Distinct, Ite, Add, Subtract, Multiply, AtMost, Less, AtLeast, Greater, Divide, Modulo, Absolute, Divisible}
use Rattle.smt_meaning.specs.declared.terms.Head.{Head}
use Rattle.smt_meaning.specs.declared.terms.Head.TheVariants.{Theory}
use Rattle.smt_meaning.specs.declared.clauses.Atom.{Atom}
use Rattle.smt_meaning.specs.Declaration.{Declaration}
use Rattle.smt_meaning.specs.Term.{Tree, tree_at}
use Rattle.smt_meaning.specs.Clause.{atom_places, symbols_at}
use Rattle.smt_meaning.specs.CheckAtoms.{IsLeaf, IsPartOfStack}
use Rattle.smt_meaning.specs.Parts.{AreInOrder}
use Rattle.smt_meaning.specs.Signature.{tree_sort}
use Rattle.smt_meaning.specs.Stack.{Frame, signature_of, assertions_of}
use Rattle.smt_meaning.specs.StackCommand.{Stack}
use Rattle.smt_laws.specs.Flat.{flat, FlatSaysTheSame}
use Rattle.smt_laws.specs.Rows.{place_divisor}
use Rattle.scope_stack.specs.Facts.{AreSorts}
use Rattle.scope_stack.specs.Shown.{IsLawful}
use Rattle.scope_stack.proofs.SortLemmas.{the_some}
use Rattle.search_port.specs.State.{IsMadeTrue}
use Rattle.search_port.specs.Valid.{IsOf}
use Rattle.check_atoms.specs.Parts.{IsMarked}
use Rattle.check_atoms.specs.Marks.{AreStackParts}
use Rattle.check_atoms.specs.AssertedDistinct.{IsNoBool, IsAssertedDistinct}
use Rattle.check_atoms.specs.PartAtoms.{atom_of, truth_by_sort, compared_by_head, of_part, sort_of}
use Rattle.check_atoms.specs.OfStack.{HasAtoms, IsAtomOfPart, ComparesMarked, AreCheckAtoms, bound_terms}
use Rattle.check_atoms.proofs.Marking.{below}
use Rattle.order_clauses.specs.Clauses.{sort_at, by_sort, of_ints, equality_part, choice_part, equality_clauses_of, choice_clauses_of, part_clauses_of}
use Rattle.first_clauses.specs.CheckClausesFirst.{AreBools}
use Rattle.first_clauses.specs.Holding.{HoldsPart, HoldsParts, IsAssertionTold, IsDecided}
use Rattle.first_clauses.specs.Laws.{FirstClausesSayStanding, FirstClausesDecideParts, FirstClausesAgree, PartsHoldOfEach}
use Rattle.first_clauses.proofs.Deciding.{trees_stay, frames_stay}
use Rattle.first_clauses.proofs.Parts.{arguments_marked, has_sort}

-- ---- marks

bools_same : (a b : Bool) → (a ≡ true → b ≡ true) → (b ≡ true → a ≡ true) → a ≡ b
bools_same true true f g = refl
bools_same true false f g = sym (f refl)
bools_same false true f g = g refl
bools_same false false f g = refl

marked_there : (ts : List Tree) (marks marks' : List Bool) (P Q : Tree → Type 0) → AreInOrder ts → length marks ≡ length ts → length marks' ≡ length ts → ((p : ℕ) → IsMarked marks p → P (tree_at ts p))
    → ((u : Tree) → P u → Q u) → ((u : Tree) → Q u → (p : ℕ) × IsMarked marks' p × (tree_at ts p ≡ u)) → (p : ℕ) → IsMarked marks p → IsMarked marks' p
marked_there ts marks marks' P Q order size size' only over each p m =
    let at = each (tree_at ts p) (over (tree_at ts p) (only p m)) in
    let here : p < length ts = let short : p < length marks = below marks p m in omega (arith, short, size) in
    let there : at.0 < length ts = let short : at.0 < length marks' = below marks' at.0 at.1 in omega (arith, short, size') in
    subst (IsMarked marks') (order.different at.0 p there here at.2) at.1

-- ---- clauses by sorts

module _ (sorts sorts' : List Sort) where
  abbrev HasSameSort : ℕ → Type 0
  HasSameSort p = sort_at sorts p ≡ sort_at sorts' p

  bools_there : (is : List ℕ) → All HasSameSort is → AreBools sorts' is → AreBools sorts is
  bools_there is same bools = λ k d l. same k d l ∙ bools k d l

  module _ (ts : List Tree) (table : List Atom) where
    equality_same : (o : Operator) (p : ℕ) (is : List ℕ) → All HasSameSort is → equality_clauses_of sorts ts table o p is ≡ equality_clauses_of sorts' ts table o p is
    equality_same o p [] h = refl
    equality_same o p (i ∷ is) h = ap (λ r. by_sort r (length (i ∷ is)) (λ int. equality_part ts table int o p (i ∷ is))) (All-head HasSameSort i is h)

    choice_same : (p : ℕ) (is : List ℕ) → HasSameSort p → choice_clauses_of sorts ts table p is ≡ choice_clauses_of sorts' ts table p is
    choice_same p [] h = refl
    choice_same p (c ∷ []) h = refl
    choice_same p (c ∷ i ∷ []) h = refl
    choice_same p (c ∷ i ∷ j ∷ []) h = ap (λ r. of_ints r (choice_part ts table p c i j)) h
    choice_same p (c ∷ i ∷ j ∷ k ∷ is) h = refl

    clauses_same : (o : Operator) (p : ℕ) (is : List ℕ) → All HasSameSort (p ∷ is) → part_clauses_of sorts ts table o p is ≡ part_clauses_of sorts' ts table o p is
    clauses_same Equal p is h = equality_same Equal p is (All-tail HasSameSort p is h)
    clauses_same Distinct p is h = equality_same Distinct p is (All-tail HasSameSort p is h)
    clauses_same Ite p is h = choice_same p is (All-head HasSameSort p is h)
    clauses_same True p is h = refl
    clauses_same False p is h = refl
    clauses_same Not p is h = refl
    clauses_same And p is h = refl
    clauses_same Or p is h = refl
    clauses_same Xor p is h = refl
    clauses_same Implies p is h = refl
    clauses_same Add p is h = refl
    clauses_same Subtract p is h = refl
    clauses_same Multiply p is h = refl
    clauses_same AtMost p is h = refl
    clauses_same Less p is h = refl
    clauses_same AtLeast p is h = refl
    clauses_same Greater p is h = refl
    clauses_same Divide p is h = refl
    clauses_same Modulo p is h = refl
    clauses_same Absolute p is h = refl
    clauses_same Divisible p is h = refl

-- ---- a stack with the same terms, symbols and assertions

module _ (frames : List Frame) (given : ℕ) (global : Bool) (t : Stack) (signature : signature_of frames ≡ signature_of t.frames) (assertions : assertions_of frames ≡ assertions_of t.frames) where
  abbrev ts : List Tree
  ts = t.trees

  abbrev s : Stack
  s = record { frames = frames; given = given; trees = ts; global = global }

  part_over : (u : Tree) → IsPartOfStack frames u → IsPartOfStack t.frames u
  part_over u h = record { assertion = h.assertion; asserted = subst (λ (xs : List Tree). Contains xs h.assertion) assertions h.asserted; part = h.part }

  part_back : (u : Tree) → IsPartOfStack t.frames u → IsPartOfStack frames u
  part_back u h = record { assertion = h.assertion; asserted = subst (λ (xs : List Tree). Contains xs h.assertion) (sym assertions) h.asserted; part = h.part }

  no_bool_over : (p : ℕ) → IsNoBool s p → IsNoBool t p
  no_bool_over p h = record { sort = h.sort; has = subst (λ ds. tree_sort ds (tree_at ts p) ≡ Some h.sort) signature h.has; other = h.other }

  distinct_over : (p : ℕ) (h : Head) (is : List ℕ) → IsAssertedDistinct s p h is → IsAssertedDistinct t p h is
  distinct_over p h is d =
      record {
        operator = d.operator;
        wide = d.wide;
        no_bools = All-weaker (IsNoBool s) (IsNoBool t) no_bool_over is d.no_bools;
        asserted = subst (λ (xs : List Tree). Contains xs (tree_at ts p)) assertions d.asserted;
      }

  -- ---- its numbered atoms

  atoms_of_part : (table : List Atom) (p : ℕ) (h : Head) (is : List ℕ) → HasAtoms s table p h is → HasAtoms t table p h is
  atoms_of_part table p h is a =
      record {
        truth = subst (λ ds. All (Contains table) (map (atom_of ts) (truth_by_sort (sort_of ds ts p) p))) signature a.truth;
        compared = elim a.compared [
          | inl d ↦ inl (distinct_over p h is d)
          | inr all ↦ inr (subst (λ ds. All (Contains table) (map (atom_of ts) (compared_by_head (sort_of ds ts) (place_divisor ts is) h p is))) signature all)
        ];
      }

  of_part_over : (marks : List Bool) (a : Atom) → IsAtomOfPart s marks a → IsAtomOfPart t marks a
  of_part_over marks a h =
      record {
        place = h.place;
        head = h.head;
        arguments = h.arguments;
        marked = h.marked;
        term = h.term;
        among = subst (λ ds. Contains (map (atom_of ts) (of_part (sort_of ds ts) (place_divisor ts h.arguments) h.place h.head h.arguments)) a) signature h.among;
      }

  compares_over : (marks : List Bool) (a : Atom) → ComparesMarked s marks a → ComparesMarked t marks a
  compares_over marks a h =
      record {
        left = h.left;
        right = h.right;
        sort = h.sort;
        left_marked = h.left_marked;
        right_marked = h.right_marked;
        left_sort = subst (λ ds. sort_of ds ts h.left ≡ Some (Free h.sort)) signature h.left_sort;
        right_sort = subst (λ ds. sort_of ds ts h.right ≡ Some (Free h.sort)) signature h.right_sort;
        atom = h.atom;
      }

  leaf_over : (p : ℕ) → IsLeaf ts frames p → IsLeaf ts t.frames p
  leaf_over p h =
      record {
        leaf = h.leaf;
        part = record {
          part = part_over h.leaf h.part.part;
          int = subst (λ ds. tree_sort ds h.leaf ≡ Some Ints) signature h.part.int;
          place_is = h.part.place_is;
        };
        is = h.is;
      }

  of_over : (a : Atom) → IsOf ts frames a → IsOf ts t.frames a
  of_over a h = record { declared = subst (λ ds. All (Contains (map (λ (d : Declaration). d.id) ds)) (symbols_at ts (atom_places a))) signature h.declared; within = h.within }

  atoms_over : (marks : List Bool) (table : List Atom) → AreCheckAtoms s marks table → AreCheckAtoms t marks table
  atoms_over marks table a =
      record {
        size = a.size;
        few = a.few;
        apart = a.apart;
        only = λ x c. elim (a.only x c) [ inl h ↦ inl (of_part_over marks x h) | inr h ↦ inr (compares_over marks x h) ];
        each = λ p h is m n. atoms_of_part table p h is (a.each p h is m n);
        bounds = a.bounds;
        over_parts = a.over_parts;
        leaves = All-weaker (λ (x : Atom). All (IsLeaf ts frames) (bound_terms x)) (λ (x : Atom). All (IsLeaf ts t.frames) (bound_terms x))
            (λ x h. All-weaker (IsLeaf ts frames) (IsLeaf ts t.frames) leaf_over (bound_terms x) h) table a.leaves;
        declared = All-weaker (IsOf ts frames) (IsOf ts t.frames) of_over table a.declared;
      }

  -- ---- what is decided

  module _ (marks : List Bool) (sorts sorts' : List Sort) (law : IsLawful s) (law' : IsLawful t) (parts : AreStackParts s marks) (parts' : AreStackParts t marks) (size : length marks ≡ length ts)
      (sorted : AreSorts (signature_of frames) ts (length ts) sorts) (sorted' : AreSorts (signature_of t.frames) ts (length ts) sorts') where
    sort_same : (p : ℕ) → IsMarked marks p → sort_at sorts p ≡ sort_at sorts' p
    sort_same p m =
        the_some (sort_at sorts p) (sort_at sorts' p)
        (sym (has_sort s marks law parts size sorts sorted p m) ∙ ap (λ ds. tree_sort ds (tree_at ts p)) signature ∙ has_sort t marks law' parts' size sorts' sorted' p m)

    part_held : (table : List Atom) (log : List Signed) → HoldsParts s marks sorts table log → HoldsParts t marks sorts' table log
    part_held table log holds p o is m n =
        let marked : All (IsMarked marks) is = arguments_marked s marks law parts size p (Theory o) is m n.tree n.arguments in
        let same : All (HasSameSort sorts sorts') (p ∷ is) =
        All-cons (HasSameSort sorts sorts') p is (sort_same p m) (All-weaker (IsMarked marks) (HasSameSort sorts sorts') sort_same is marked) in
        let same_back : All (HasSameSort sorts' sorts) (p ∷ is) = λ k d l. sym (same k d l) in
        let part : HoldsPart s sorts table log p o is = holds p o is m n in
        record {
          of_bools = λ bools. part.of_bools (bools_there sorts sorts' (p ∷ is) same bools);
          of_others = λ others. elim (part.of_others (λ bools. others (bools_there sorts' sorts (p ∷ is) same_back bools))) [
            | inl d ↦ inl (distinct_over p (Theory o) is d)
            | inr all ↦ inr (subst (All (IsMadeTrue log)) (clauses_same sorts sorts' ts table o p is same) all)
          ];
        }

    decided_over : (table : List Atom) (log : List Signed) → IsDecided s marks sorts table log → IsDecided t marks sorts' table log
    decided_over table log d = record { first = d.first; more = d.more; table_is = d.table_is; atoms = atoms_over marks d.first d.atoms; holds = part_held d.first log d.holds; asserted = subst (All (IsAssertionTold ts d.first log)) assertions d.asserted }

  marks_same : (marks marks' : List Bool) → IsLawful t → AreStackParts s marks → AreStackParts t marks' → length marks ≡ length ts → length marks' ≡ length ts → marks ≡ marks'
  marks_same marks marks' law parts parts' size size' =
      ext_get_or false marks marks' (size ∙ sym size')
      (λ p h. bools_same (get_or marks p false) (get_or marks' p false)
      (marked_there ts marks marks' (IsPartOfStack frames) (IsPartOfStack t.frames) law.in_order size size' parts.only part_over parts'.each p)
      (marked_there ts marks' marks (IsPartOfStack t.frames) (IsPartOfStack frames) law.in_order size' size parts'.only part_back parts.each p))

-- ---- of a reading

-- the log decides each part of the stack
record Decides (s : Stack) (table : List Atom) (log : List Signed) : Type 0 where
  marks : List Bool
  sorts : List Sort
  lawful : IsLawful s
  parts : AreStackParts s marks
  sorted : AreSorts (signature_of s.frames) s.trees (length s.trees) sorts
  decided : IsDecided s marks sorts table log

decides_over : (frames : List Frame) (given : ℕ) (global : Bool) (t : Stack) (marks : List Bool) (sorts : List Sort) (table : List Atom) (log : List Signed) → signature_of frames ≡ signature_of t.frames
    → assertions_of frames ≡ assertions_of t.frames → Decides (record { frames = frames; given = given; trees = t.trees; global = global }) table log → IsLawful t → AreStackParts t marks
    → length marks ≡ length t.trees → AreSorts (signature_of t.frames) t.trees (length t.trees) sorts → IsDecided t marks sorts table log
decides_over frames given global t marks sorts table log signature assertions d law parts size sorted =
    let same : d.marks ≡ marks = marks_same frames given global t signature assertions d.marks marks law d.parts parts d.decided.atoms.size size in
    subst (λ ms. IsDecided t ms sorts table log) same
    (decided_over frames given global t signature assertions d.marks d.sorts sorts d.lawful law d.parts (subst (AreStackParts t) (sym same) parts) d.decided.atoms.size d.sorted sorted table log d.decided)

pub held_of_each : FlatSaysTheSame → PartsHoldOfEach
held_of_each same r log t marks sorts h trees frames law parts size sorted =
    let s : Stack = h.stack in
    let one : flat s.frames ≡ flat t.frames = h.frames ∙ sym frames in
    let signature : signature_of s.frames ≡ signature_of t.frames = sym (same s.frames).signature ∙ ap signature_of one ∙ (same t.frames).signature in
    let assertions : assertions_of s.frames ≡ assertions_of t.frames = sym (same s.frames).assertions ∙ ap assertions_of one ∙ (same t.frames).assertions in
    let d : Decides s r.table log = record { marks = h.marks; sorts = h.sorts; lawful = h.lawful; parts = h.parts; sorted = h.sorted; decided = h.decided } in
    decides_over s.frames s.given s.global t marks sorts r.table log signature assertions
    (subst (λ ts. Decides (record { frames = s.frames; given = s.given; trees = ts; global = s.global }) r.table log) (h.trees ∙ sym trees) d) law parts size sorted

pub agreed : FirstClausesSayStanding → FirstClausesDecideParts → FirstClausesAgree
agreed say decide s marks sorts table first q log law parts atoms sorted is_first has grown full consistent made =
    record {
      standing = say s marks sorts table first q log law parts atoms sorted is_first has grown consistent made;
      parts = record {
        stack = s;
        marks = marks;
        sorts = sorts;
        trees = sym (trees_stay s table q grown);
        frames = sym (frames_stay s table q grown);
        lawful = law;
        parts = parts;
        sorted = sorted;
        decided = decide s marks sorts table first q log law parts atoms sorted is_first has grown full consistent made;
      };
    }
