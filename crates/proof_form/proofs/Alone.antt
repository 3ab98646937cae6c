-- The cases of what is found exclude one another.
use Rattle.std.proofs.Common.{◌≡◌, ℕ, ◌<◌, List, [], ◌∷◌, ◌++◌, length, Contains, Option, Some, None, refl, sym, ap, ◌∙◌, subst, arith, inl, inr}
use Rattle.std.proofs.lemmas.Bool.{cases_lt}
use Rattle.std.proofs.lemmas.List.{length-append, append-nil}
use Rattle.std.proofs.lemmas.List.Elements.{All-contains, Contains-append_right}
use Rattle.smt_meaning.specs.declared.nodes.Node.{Node}
use Rattle.smt_meaning.specs.declared.clauses.Literal.{Literal}
use Rattle.proof_meaning.specs.declared.proof.Step.{Step}
use Rattle.smt_meaning.specs.Declaration.{Declaration}
use Rattle.smt_meaning.specs.Sexp.{Sexp, Sexps}
use Rattle.smt_meaning.specs.Term.{Tree}
use Rattle.smt_meaning.specs.Stack.{Frame, signature_of, assertions_of}
use Rattle.proof_meaning.specs.Proof.{IsTerm, AreTerms}
use Rattle.proof_meaning.specs.Rules.{Gives, Runs}
use Rattle.proof_meaning.specs.Reading.{node_read, step_read, lists_of, listed, AreRead, IsWrongNode}
use Rattle.proof_terms.specs.Range.{LeavesRange}
use Rattle.proof_form.specs.Found.{ComesTo, IsGoodInRange, IsFaultyAt, IsEndless, IsOutsideAt, IsFound}
use Rattle.proof_form.specs.Alone.{FoundIsOne}
use Rattle.proof_form.specs.declared.found.Found.{Found}
use Rattle.proof_form.specs.declared.found.Found.TheVariants.{Yes, Node as WrongNode, No, Range as OutOfRange, NoProof}
use Rattle.proof_form.proofs.AloneLists.{some_same, heads_same, same_front, longer_front, before_end, read_same, ReadAt, read_at, AreAlike, alike_end}
use Rattle.proof_form.proofs.AloneRules.{gives_over}
use Rattle.proof_form.proofs.AloneRuns.{terms_same, TermAt, term_at, runs_alike, StepAt, step_at}

lists_same : (x : Sexp) (a b c d : Sexps) → lists_of x ≡ Some (a, b) → lists_of x ≡ Some (c, d) → (a ≡ c) × (b ≡ d)
lists_same x a b c d h k =
    let e : (a, b) ≡ (c, d) = some_same (sym h ∙ k) in
    (ap (λ (p : Sexps × Sexps). p.0) e, ap (λ (p : Sexps × Sexps). p.1) e)

-- ---- terms

term_over : (ds : List Declaration) (ts us : List Tree) (n : Node) → ts ≡ us → IsTerm ds ts n → IsTerm ds us n
term_over ds ts us n e t = subst (λ v. IsTerm ds v n) e t

-- where terms before it and it are by their rules, it isn't the wrong one
not_wrong_node : (frames : List Frame) (x : Sexp) (n : ℕ) (w : IsWrongNode frames x n) (terms steps : Sexps) (before after : List Sexp) (nodes : List Node) (trees : List Tree)
    → lists_of x ≡ Some (terms, steps) → listed terms ≡ before ++ after → AreRead (node_read (signature_of frames)) before nodes → AreTerms (signature_of frames) nodes trees
    → n < length before → ⊥
not_wrong_node frames x n w terms steps before after nodes trees lists split read good h =
    let l : (w.terms ≡ terms) × (w.steps ≡ steps) = lists_same x w.terms w.steps terms steps w.lists lists in
    let e : w.before ++ w.at ∷ w.after ≡ before ++ after = sym w.split ∙ ap listed l.0 ∙ split in
    let m : (mid : List Sexp) × (before ≡ w.before ++ w.at ∷ mid) = longer_front w.before w.at w.after before after e (omega (arith, h, w.number)) in
    let r : ReadAt (node_read (signature_of frames)) w.before w.at nodes =
    read_at (node_read (signature_of frames)) w.before w.at m.0 nodes (subst (λ v. AreRead (node_read (signature_of frames)) v nodes) m.1 read) in
    let t : TermAt (signature_of frames) r.front r.this = term_at (signature_of frames) nodes trees good r.front r.this r.back r.split in
    let front : r.front ≡ w.nodes = read_same (node_read (signature_of frames)) w.before r.front w.nodes r.front_read w.read in
    let same : t.trees ≡ w.trees = terms_same (signature_of frames) r.front w.nodes t.trees w.trees t.terms w.good front in
    w.wrong r.this r.this_read (term_over (signature_of frames) t.trees w.trees r.this same t.term)

node_not_come : (frames : List Frame) (x : Sexp) (n : ℕ) → IsWrongNode frames x n → (before after : List Sexp) (done : List Step) (clauses : List (List Literal))
    → ComesTo frames x before after done clauses → ⊥
node_not_come frames x n w before after done clauses c =
    let l : (w.terms ≡ c.terms) × (w.steps ≡ c.steps) = lists_same x w.terms w.steps c.terms c.steps w.lists c.lists in
    let long : n < length (listed c.terms) = omega (arith, w.number, ap length (sym (ap listed l.0) ∙ w.split), length-append w.before (w.at ∷ w.after)) in
    not_wrong_node frames x n w c.terms c.steps (listed c.terms) [] c.nodes c.trees c.lists (sym (append-nil (listed c.terms))) c.nodes_read c.good long

nodes_one : (frames : List Frame) (x : Sexp) (n m : ℕ) → IsWrongNode frames x n → IsWrongNode frames x m → n < m → ⊥
nodes_one frames x n m v w h = not_wrong_node frames x n v w.terms w.steps w.before (w.at ∷ w.after) w.nodes w.trees w.lists w.split w.read w.good (omega (arith, h, w.number))

-- ---- two ways that judging has come

-- both have the same terms and steps
record Agree (frames : List Frame) (x : Sexp) (b1 a1 : List Sexp) (d1 : List Step) (c1 : List (List Literal)) (b2 a2 : List Sexp) (d2 : List Step) (c2 : List (List Literal))
    (C : ComesTo frames x b1 a1 d1 c1) (D : ComesTo frames x b2 a2 d2 c2) : Type 0 where
  nodes : C.nodes ≡ D.nodes
  trees : C.trees ≡ D.trees
  split : b1 ++ a1 ≡ b2 ++ a2
  runs : Runs (signature_of frames) C.nodes C.trees (assertions_of frames) d2 c2

agree : (frames : List Frame) (x : Sexp) (b1 a1 : List Sexp) (d1 : List Step) (c1 : List (List Literal)) (b2 a2 : List Sexp) (d2 : List Step) (c2 : List (List Literal))
    (C : ComesTo frames x b1 a1 d1 c1) (D : ComesTo frames x b2 a2 d2 c2) → Agree frames x b1 a1 d1 c1 b2 a2 d2 c2 C D
agree frames x b1 a1 d1 c1 b2 a2 d2 c2 C D =
    let l : (C.terms ≡ D.terms) × (C.steps ≡ D.steps) = lists_same x C.terms C.steps D.terms D.steps C.lists D.lists in
    let read : AreRead (node_read (signature_of frames)) (listed C.terms) D.nodes = subst (λ v. AreRead (node_read (signature_of frames)) (listed v) D.nodes) (sym l.0) D.nodes_read in
    let ns : C.nodes ≡ D.nodes = read_same (node_read (signature_of frames)) (listed C.terms) C.nodes D.nodes C.nodes_read read in
    let ts : C.trees ≡ D.trees = terms_same (signature_of frames) C.nodes D.nodes C.trees D.trees C.good D.good ns in
    record {
      nodes = ns;
      trees = ts;
      split = sym C.split ∙ ap listed l.1 ∙ D.split;
      runs =
          subst (λ v. Runs (signature_of frames) v C.trees (assertions_of frames) d2 c2) (sym ns)
          (subst (λ v. Runs (signature_of frames) D.nodes v (assertions_of frames) d2 c2) (sym ts) D.runs);
    }

leaves_there : (frames : List Frame) (ns ms : List Node) (ts us : List Tree) (s : Step) → ns ≡ ms → ts ≡ us → LeavesRange (signature_of frames) ns ts s → LeavesRange (signature_of frames) ms us s
leaves_there frames ns ms ts us s e h l = subst (λ v. LeavesRange (signature_of frames) v us s) e (subst (λ v. LeavesRange (signature_of frames) ns v s) h l)

-- the step to which one has come was given by the other
record Given (frames : List Frame) (nodes : List Node) (trees : List Tree) (at : Sexp) (clauses : List (List Literal)) : Type 0 where
  step : Step
  clause : List Literal
  read : step_read at ≡ Some step
  gives : Gives (signature_of frames) nodes trees (assertions_of frames) clauses step clause
  stays : LeavesRange (signature_of frames) nodes trees step → ⊥

given : (frames : List Frame) (x : Sexp) (b1 : List Sexp) (at : Sexp) (a1 : List Sexp) (d1 : List Step) (c1 : List (List Literal)) (b2 a2 : List Sexp) (d2 : List Step) (c2 : List (List Literal))
    (C : ComesTo frames x b1 (at ∷ a1) d1 c1) (D : ComesTo frames x b2 a2 d2 c2) → length b1 < length b2 → Given frames C.nodes C.trees at c1
given frames x b1 at a1 d1 c1 b2 a2 d2 c2 C D h =
    let a : Agree frames x b1 (at ∷ a1) d1 c1 b2 a2 d2 c2 C D = agree frames x b1 (at ∷ a1) d1 c1 b2 a2 d2 c2 C D in
    let m : (mid : List Sexp) × (b2 ≡ b1 ++ at ∷ mid) = longer_front b1 at a1 b2 a2 a.split h in
    let r : ReadAt step_read b1 at d2 = read_at step_read b1 at m.0 d2 (subst (λ v. AreRead step_read v d2) m.1 D.steps_read) in
    let front : r.front ≡ d1 = read_same step_read b1 r.front d1 r.front_read C.steps_read in
    let s : StepAt (signature_of frames) C.nodes C.trees (assertions_of frames) r.front r.this =
    step_at (signature_of frames) C.nodes C.trees (assertions_of frames) d2 c2 a.runs r.front r.this r.back r.split in
    let same : AreAlike s.clauses c1 = runs_alike (signature_of frames) C.nodes C.trees (assertions_of frames) r.front d1 s.clauses c1 s.runs C.runs front in
    record {
      step = r.this;
      clause = s.clause;
      read = r.this_read;
      gives = gives_over (signature_of frames) C.nodes C.trees (assertions_of frames) s.clauses c1 same r.this s.clause s.gives;
      stays = λ l.
          All-contains (λ (p : Step). LeavesRange (signature_of frames) D.nodes D.trees p → ⊥) d2 r.this D.in_range
          (subst (λ v. Contains v r.this) (sym r.split) (Contains-append_right r.front (r.this ∷ r.back) r.this (0, omega arith, refl)))
          (leaves_there frames C.nodes D.nodes C.trees D.trees r.this a.nodes a.trees l);
    }

-- where both have come to one place, their clauses have the same literals
alike_there : (frames : List Frame) (x : Sexp) (b1 a1 : List Sexp) (d1 : List Step) (c1 : List (List Literal)) (b2 a2 : List Sexp) (d2 : List Step) (c2 : List (List Literal))
    (C : ComesTo frames x b1 a1 d1 c1) (D : ComesTo frames x b2 a2 d2 c2) → length b1 ≡ length b2 → AreAlike c1 c2
alike_there frames x b1 a1 d1 c1 b2 a2 d2 c2 C D h =
    let a : Agree frames x b1 a1 d1 c1 b2 a2 d2 c2 C D = agree frames x b1 a1 d1 c1 b2 a2 d2 c2 C D in
    let f : (b1 ≡ b2) × (a1 ≡ a2) = same_front b1 a1 b2 a2 a.split h in
    let e : d1 ≡ d2 = read_same step_read b1 d1 d2 C.steps_read (subst (λ v. AreRead step_read v d2) (sym f.0) D.steps_read) in
    runs_alike (signature_of frames) C.nodes C.trees (assertions_of frames) d1 d2 c1 c2 C.runs a.runs e

-- ---- steps

faulty_later : (frames : List Frame) (x : Sexp) (n : ℕ) → IsFaultyAt frames x n → (b a : List Sexp) (d : List Step) (c : List (List Literal)) → ComesTo frames x b a d c → n < length b → ⊥
faulty_later frames x n f b a d c D h =
    let C : ComesTo frames x f.before (f.at ∷ f.after) f.done f.clauses = f.comes in
    let g : Given frames C.nodes C.trees f.at f.clauses = given frames x f.before f.at f.after f.done f.clauses b a d c C D (omega (arith, h, f.number)) in
    f.wrong g.step g.clause g.read g.gives

outside_later : (frames : List Frame) (x : Sexp) (n : ℕ) → IsOutsideAt frames x n → (b a : List Sexp) (d : List Step) (c : List (List Literal)) → ComesTo frames x b a d c → n < length b → ⊥
outside_later frames x n o b a d c D h =
    let C : ComesTo frames x o.before (o.at ∷ o.after) o.done o.clauses = o.comes in
    let g : Given frames C.nodes C.trees o.at o.clauses = given frames x o.before o.at o.after o.done o.clauses b a d c C D (omega (arith, h, o.number)) in
    g.stays (subst (λ s. LeavesRange (signature_of frames) C.nodes C.trees s) (some_same (sym o.read ∙ g.read)) o.leaves)

-- a step before the end is before all ends
ends_later : (frames : List Frame) (x : Sexp) (b1 : List Sexp) (at : Sexp) (a1 : List Sexp) (d1 : List Step) (c1 : List (List Literal)) (b2 : List Sexp) (d2 : List Step) (c2 : List (List Literal))
    (C : ComesTo frames x b1 (at ∷ a1) d1 c1) (D : ComesTo frames x b2 [] d2 c2) → length b1 < length b2
ends_later frames x b1 at a1 d1 c1 b2 d2 c2 C D = before_end b1 at a1 b2 (agree frames x b1 (at ∷ a1) d1 c1 b2 [] d2 c2 C D).split

faulty_not_ended : (frames : List Frame) (x : Sexp) (n : ℕ) → IsFaultyAt frames x n → (b : List Sexp) (d : List Step) (c : List (List Literal)) → ComesTo frames x b [] d c → ⊥
faulty_not_ended frames x n f b d c D =
    let long : length f.before < length b = ends_later frames x f.before f.at f.after f.done f.clauses b d c f.comes D in
    faulty_later frames x n f b [] d c D (omega (arith, long, f.number))

outside_not_ended : (frames : List Frame) (x : Sexp) (n : ℕ) → IsOutsideAt frames x n → (b : List Sexp) (d : List Step) (c : List (List Literal)) → ComesTo frames x b [] d c → ⊥
outside_not_ended frames x n o b d c D =
    let long : length o.before < length b = ends_later frames x o.before o.at o.after o.done o.clauses b d c o.comes D in
    outside_later frames x n o b [] d c D (omega (arith, long, o.number))

ends_equal : (frames : List Frame) (x : Sexp) (b1 : List Sexp) (d1 : List Step) (c1 : List (List Literal)) (b2 : List Sexp) (d2 : List Step) (c2 : List (List Literal))
    (C : ComesTo frames x b1 [] d1 c1) (D : ComesTo frames x b2 [] d2 c2) → length b1 ≡ length b2
ends_equal frames x b1 d1 c1 b2 d2 c2 C D =
    let a : Agree frames x b1 [] d1 c1 b2 [] d2 c2 C D = agree frames x b1 [] d1 c1 b2 [] d2 c2 C D in
    ap length (sym (append-nil b1) ∙ a.split ∙ append-nil b2)

good_not_endless : (frames : List Frame) (x : Sexp) (n : ℕ) → IsGoodInRange frames x → IsEndless frames x n → ⊥
good_not_endless frames x n g e =
    let long : length e.before ≡ length g.before = ends_equal frames x e.before e.done e.clauses g.before g.done (g.clauses ++ [] ∷ []) e.comes g.comes in
    let same : AreAlike e.clauses (g.clauses ++ [] ∷ []) = alike_there frames x e.before [] e.done e.clauses g.before [] g.done (g.clauses ++ [] ∷ []) e.comes g.comes long in
    let last : (before : List (List Literal)) × (e.clauses ≡ before ++ [] ∷ []) = alike_end e.clauses g.clauses same in
    e.not_empty last.0 last.1

good_not_no : (frames : List Frame) (x : Sexp) (n : ℕ) → IsGoodInRange frames x → IsFound frames x (No n) → ⊥
good_not_no frames x n g (inl f) = faulty_not_ended frames x n f g.before g.done (g.clauses ++ [] ∷ []) g.comes
good_not_no frames x n g (inr e) = good_not_endless frames x n g e

good_not_outside : (frames : List Frame) (x : Sexp) (n : ℕ) → IsGoodInRange frames x → IsOutsideAt frames x n → ⊥
good_not_outside frames x n g o = outside_not_ended frames x n o g.before g.done (g.clauses ++ [] ∷ []) g.comes

-- neither is before the other
neither_first : (n m : ℕ) → (n < m → ⊥) → (m < n → ⊥) → n ≡ m
neither_first n m h k = elim (cases_lt n m) [
  | inl below ↦ absurd (h below)
  | inr above ↦ elim (cases_lt m n) [
    | inl over ↦ absurd (k over)
    | inr under ↦ omega (arith, above, under)
  ]
]

faulty_one : (frames : List Frame) (x : Sexp) (n m : ℕ) → IsFaultyAt frames x n → IsFaultyAt frames x m → n < m → ⊥
faulty_one frames x n m f g h = faulty_later frames x n f g.before (g.at ∷ g.after) g.done g.clauses g.comes (omega (arith, h, g.number))

outside_one : (frames : List Frame) (x : Sexp) (n m : ℕ) → IsOutsideAt frames x n → IsOutsideAt frames x m → n < m → ⊥
outside_one frames x n m o p h = outside_later frames x n o p.before (p.at ∷ p.after) p.done p.clauses p.comes (omega (arith, h, p.number))

no_one : (frames : List Frame) (x : Sexp) (n m : ℕ) → IsFound frames x (No n) → IsFound frames x (No m) → n ≡ m
no_one frames x n m (inl f) (inl g) = neither_first n m (faulty_one frames x n m f g) (faulty_one frames x m n g f)
no_one frames x n m (inl f) (inr e) = absurd (faulty_not_ended frames x n f e.before e.done e.clauses e.comes)
no_one frames x n m (inr e) (inl f) = absurd (faulty_not_ended frames x m f e.before e.done e.clauses e.comes)
no_one frames x n m (inr e) (inr d) = e.number ∙ ends_equal frames x e.before e.done e.clauses d.before d.done d.clauses e.comes d.comes ∙ sym d.number

faulty_not_outside : (frames : List Frame) (x : Sexp) (n m : ℕ) → IsFaultyAt frames x n → IsOutsideAt frames x m → ⊥
faulty_not_outside frames x n m f o =
    let C : ComesTo frames x f.before (f.at ∷ f.after) f.done f.clauses = f.comes in
    let D : ComesTo frames x o.before (o.at ∷ o.after) o.done o.clauses = o.comes in
    let same : n ≡ m =
    neither_first n m (λ h. faulty_later frames x n f o.before (o.at ∷ o.after) o.done o.clauses D (omega (arith, h, o.number)))
    (λ h. outside_later frames x m o f.before (f.at ∷ f.after) f.done f.clauses C (omega (arith, h, f.number))) in
    let a : Agree frames x f.before (f.at ∷ f.after) f.done f.clauses o.before (o.at ∷ o.after) o.done o.clauses C D =
    agree frames x f.before (f.at ∷ f.after) f.done f.clauses o.before (o.at ∷ o.after) o.done o.clauses C D in
    let s : (f.before ≡ o.before) × (f.at ∷ f.after ≡ o.at ∷ o.after) =
    same_front f.before (f.at ∷ f.after) o.before (o.at ∷ o.after) a.split (sym f.number ∙ same ∙ o.number) in
    f.stays o.step (ap step_read (heads_same s.1) ∙ o.read) (leaves_there frames D.nodes C.nodes D.trees C.trees o.step (sym a.nodes) (sym a.trees) o.leaves)

no_not_outside : (frames : List Frame) (x : Sexp) (n m : ℕ) → IsFound frames x (No n) → IsOutsideAt frames x m → ⊥
no_not_outside frames x n m (inl f) o = faulty_not_outside frames x n m f o
no_not_outside frames x n m (inr e) o = outside_not_ended frames x m o e.before e.done e.clauses e.comes

-- ---- terms against steps

node_not_good : (frames : List Frame) (x : Sexp) (n : ℕ) → IsWrongNode frames x n → IsGoodInRange frames x → ⊥
node_not_good frames x n w g = node_not_come frames x n w g.before [] g.done (g.clauses ++ [] ∷ []) g.comes

node_not_no : (frames : List Frame) (x : Sexp) (n m : ℕ) → IsWrongNode frames x n → IsFound frames x (No m) → ⊥
node_not_no frames x n m w (inl f) = node_not_come frames x n w f.before (f.at ∷ f.after) f.done f.clauses f.comes
node_not_no frames x n m w (inr e) = node_not_come frames x n w e.before [] e.done e.clauses e.comes

node_not_outside : (frames : List Frame) (x : Sexp) (n m : ℕ) → IsWrongNode frames x n → IsOutsideAt frames x m → ⊥
node_not_outside frames x n m w o = node_not_come frames x n w o.before (o.at ∷ o.after) o.done o.clauses o.comes

-- ---- no lists

not_both : {A : Type 0} {o : Option A} {a : A} → o ≡ None → o ≡ Some a → ⊥
not_both h k = let e : None ≡ Some _ = sym h ∙ k in absurd (cc)

none_not : (frames : List Frame) (x : Sexp) (f : Found) → lists_of x ≡ None → IsFound frames x f → NoProof ≡ f
none_not frames x Yes h g = absurd (not_both h g.comes.lists)
none_not frames x (WrongNode n) h w = absurd (not_both h w.lists)
none_not frames x (No n) h (inl f) = absurd (not_both h f.comes.lists)
none_not frames x (No n) h (inr e) = absurd (not_both h e.comes.lists)
none_not frames x (OutOfRange n) h o = absurd (not_both h o.comes.lists)
none_not frames x NoProof h k = refl

-- ---- all cases

pub found_alone : FoundIsOne
found_alone frames x NoProof g h k = none_not frames x g h k
found_alone frames x f NoProof h k = sym (none_not frames x f k h)
found_alone frames x Yes Yes h k = refl
found_alone frames x Yes (WrongNode m) h k = absurd (node_not_good frames x m k h)
found_alone frames x Yes (No m) h k = absurd (good_not_no frames x m h k)
found_alone frames x Yes (OutOfRange m) h k = absurd (good_not_outside frames x m h k)
found_alone frames x (WrongNode n) Yes h k = absurd (node_not_good frames x n h k)
found_alone frames x (WrongNode n) (WrongNode m) h k = ap WrongNode (neither_first n m (nodes_one frames x n m h k) (nodes_one frames x m n k h))
found_alone frames x (WrongNode n) (No m) h k = absurd (node_not_no frames x n m h k)
found_alone frames x (WrongNode n) (OutOfRange m) h k = absurd (node_not_outside frames x n m h k)
found_alone frames x (No n) Yes h k = absurd (good_not_no frames x n k h)
found_alone frames x (No n) (WrongNode m) h k = absurd (node_not_no frames x m n k h)
found_alone frames x (No n) (No m) h k = ap No (no_one frames x n m h k)
found_alone frames x (No n) (OutOfRange m) h k = absurd (no_not_outside frames x n m h k)
found_alone frames x (OutOfRange n) Yes h k = absurd (good_not_outside frames x n k h)
found_alone frames x (OutOfRange n) (WrongNode m) h k = absurd (node_not_outside frames x m n k h)
found_alone frames x (OutOfRange n) (No m) h k = absurd (no_not_outside frames x m n k h)
found_alone frames x (OutOfRange n) (OutOfRange m) h k = ap OutOfRange (neither_first n m (outside_one frames x n m h k) (outside_one frames x m n k h))
