-- From one term to the next, and from one step to the next.
use Rattle.std.proofs.Common.{◌≡◌, ℕ, suc, ◌<◌, ◌≤◌, ◌+◌, ◌-◌, ◌^◌, ◌==◌, Bool, true, false, List, [], ◌∷◌, ◌++◌, length, All, Contains, Some, Result, Ok, Err, inl, inr, IfOk, slice_index_or, refl, sym, ap, ◌∙◌, subst, arith}
use Rattle.std.proofs.lemmas.List.Elements.{All-nil, All-push, All-contains, Contains-get_or}
use Rattle.std.proofs.lemmas.List.{append_assoc, length-append}
use Rattle.std.specs.declared.alloc.AllocError.{AllocError}
use Rattle.smt_meaning.specs.declared.nodes.Node.{Node}
use Rattle.smt_meaning.specs.declared.clauses.Atom.{Atom}
use Rattle.smt_meaning.specs.declared.clauses.Literal.{Literal}
use Rattle.proof_meaning.specs.declared.proof.Step.{Step}
use Rattle.smt_meaning.specs.Declaration.{Declaration}
use Rattle.smt_meaning.specs.declared.tokens.Token.{Token}
use Rattle.smt_meaning.specs.Sexp.{Sexp, ◌▸◌, end}
use Rattle.look_ahead.specs.Ahead.{ahead}
use Rattle.smt_meaning.specs.Term.{Tree}
use Rattle.proof_meaning.specs.Proof.{IsTerm, AreTerms, no_terms, next_term, IsLiteral}
use Rattle.proof_meaning.specs.Rules.{no_steps, next_step}
use Rattle.proof_meaning.specs.Reading.{node_read, step_read, listed, AreRead}
use Rattle.proof_read.specs.Written.{numbers_fit}
use Rattle.proof_read.specs.Reads.{IsReadStep, IsNoNode, places_near}
use Rattle.proof_read.specs.declared.read.ReadStep.TheVariants.{Wrong as ReadWrong, Large as ReadLarge}
use Rattle.proof_terms.specs.Terms.{ProofTerms, with_term}
use Rattle.proof_terms.specs.Kept.{Kept, KeepsAll, AreKept, IsKept}
use Rattle.proof_form.specs.Asserted.{asserted_at}
use Rattle.proof_terms.specs.Comes.{Comes, Stays, GoesOn}
use Rattle.proof_form.specs.Whole.{HasAdded, AreAdded, EndsAt, StepComes, AreRun, EndsSo, StepsCome, faulty, outside, ended}
use Rattle.proof_form.specs.declared.found.Found.{Found}
use Rattle.proof_form.specs.declared.found.Found.TheVariants.{No, Range as OutOfRange}
use Rattle.proof_terms.specs.declared.verdict.Verdict.{Verdict}
use Rattle.proof_terms.specs.declared.verdict.Verdict.TheVariants.{Good, Wrong, Range}
use Rattle.proof_form.proofs.Reading.{read_push, far_is_no_term, far_leaves_not, far_gives_not}

-- ---- terms

some_is : {A : Type 0} {a b : A} → Some a ≡ Some b → a ≡ b
some_is e = cc

pub added_node : (x : Sexp) (old new : ProofTerms) (ds : List Declaration) (n : Node) (r : Result Bool AllocError) → ds ≡ old.declared → node_read ds x ≡ Some n
    → (r ≡ Ok true → IsTerm old.declared old.trees n × (new ≡ with_term old n)) → (r ≡ Ok false → (IsTerm old.declared old.trees n → ⊥) × (new ≡ old))
    → IfOk r (HasAdded x old new)
added_node x old new ds n (Ok true) e read so not_so = (n, ap (λ (d : List Declaration). node_read d x) (sym e) ∙ read, (so refl).0, (so refl).1)
added_node x old new ds n (Ok false) e read so not_so =
    ((λ m other t. (not_so refl).0 (subst (IsTerm old.declared old.trees) (some_is (sym other ∙ ap (λ (d : List Declaration). node_read d x) (sym e) ∙ read)) t)), (not_so refl).1)
added_node x old new ds n (Err a) e read so not_so = tt

pub no_node : (x : Sexp) (old : ProofTerms) (ds : List Declaration) → ds ≡ old.declared → IsNoNode ds x → length old.trees ≤ 2 ^ 32 → HasAdded x old old false
no_node x old ds e none few =
    ((λ m other t. far_is_no_term old.declared old.trees m few (none m (ap (λ (d : List Declaration). node_read d x) e ∙ other)) t), refl)

pub none_added : (all : List Sexp) (t : ProofTerms) → t.nodes ≡ [] → t.trees ≡ [] → AreAdded t.declared t.held all all 0 t
none_added all t no_nodes none =
    record {
      before = [];
      split = refl;
      number_is = refl;
      declared = refl;
      held_is = refl;
      read = subst (AreRead (node_read t.declared) []) (sym no_nodes) tt;
      good = subst (λ ns. AreTerms t.declared ns t.trees) (sym no_nodes) (subst (AreTerms t.declared []) (sym none) no_terms);
    }

pub one_added : (ds : List Declaration) (held : List Tree) (all : List Sexp) (x : Sexp) (rest rest_is : List Sexp) (number : ℕ) (old new : ProofTerms)
    → AreAdded ds held all rest_is number old → rest_is ≡ x ∷ rest → HasAdded x old new true → AreAdded ds held all rest (number + 1) new
one_added ds held all x rest rest_is number old new a here h =
    let read : node_read ds x ≡ Some h.0 = ap (λ (d : List Declaration). node_read d x) (sym a.declared) ∙ h.1 in
    let term : IsTerm ds old.trees h.0 = subst (λ (d : List Declaration). IsTerm d old.trees h.0) a.declared h.2 in
    let is : new ≡ with_term old h.0 = h.3 in
    let w : ProofTerms = with_term old h.0 in
    subst (AreAdded ds held all rest (number + 1)) (sym is)
    (record {
      before = a.before ++ x ∷ [];
      split = a.split ∙ ap (λ zs. a.before ++ zs) here ∙ sym (append_assoc a.before (x ∷ []) rest);
      number_is = ap (λ n. n + 1) a.number_is ∙ sym (length-append a.before (x ∷ []));
      declared = a.declared;
      held_is = a.held_is;
      read = read_push (node_read ds) a.before old.nodes x h.0 a.read read;
      good = next_term a.good h.0 term;
    })

pub fault_added : (ds : List Declaration) (held : List Tree) (all : List Sexp) (x : Sexp) (rest rest_is : List Sexp) (number : ℕ) (old new : ProofTerms)
    → AreAdded ds held all rest_is number old → rest_is ≡ x ∷ rest → HasAdded x old new false → EndsAt ds held all number new
fault_added ds held all x rest rest_is number old new a here h =
    subst (EndsAt ds held all number) (sym h.1)
    (record {
      at = x;
      after = rest;
      added = subst (λ zs. AreAdded ds held all zs number old) here a;
      wrong = λ n read t. h.0 n (ap (λ (d : List Declaration). node_read d x) a.declared ∙ read) (subst (λ (d : List Declaration). IsTerm d old.trees n) (sym a.declared) t);
    })

-- ---- steps

pub good_step : (t : ProofTerms) (asserted : List Tree) (old new : Kept) (x : Sexp) (s : Step) (r : Result Verdict AllocError) → step_read x ≡ Some s
    → IfOk r (Comes t asserted old new s) → IfOk r (StepComes t asserted old new x)
good_step t asserted old new x s (Ok Good) read h = (s, read, h)
good_step t asserted old new x s (Ok Wrong) read h = λ u other. subst (λ v. Comes t asserted old new v Wrong) (some_is (sym read ∙ other)) h
good_step t asserted old new x s (Ok Range) read h = (s, read, h)
good_step t asserted old new x s (Err a) read h = tt

pub as_step : (t : ProofTerms) (asserted : List Tree) (old new : Kept) (s r : Step) (v : Result Verdict AllocError) → s ≡ r → IfOk v (Comes t asserted old new r) → IfOk v (Comes t asserted old new s)
as_step t asserted old new s r v e h = subst (λ (x : Step). IfOk v (Comes t asserted old new x)) (sym e) h

kept_count : (atoms : List Atom) (cs : List (List ℕ)) (ls : List (List Literal)) → AreKept atoms cs ls → length cs ≡ length ls
kept_count atoms [] [] h = refl
kept_count atoms (c ∷ cs) (l ∷ ls) h = ap suc (kept_count atoms cs ls h.1)
kept_count atoms [] (l ∷ ls) h = absurd h
kept_count atoms (c ∷ cs) [] h = absurd h

bool_differs : {b : Bool} → b ≡ true → b ≡ false → ⊥
bool_differs e f = let no : true ≡ false = sym e ∙ f in absurd cc

pub wrong_step : (t : ProofTerms) (asserted : List Tree) (old new : Kept) (x : Sexp) → IsReadStep x ReadWrong
    → length t.trees ≤ 2 ^ 32 → length t.trees ≡ length t.nodes → length asserted ≤ 2 ^ 64 → length old.clauses ≤ 2 ^ 64 → StepComes t asserted old new x Wrong
wrong_step t asserted old new x read few same fa fb = λ s is.
    let h : (numbers_fit s ≡ true) × (places_near s ≡ false) = read s is in (
      (λ leaves. elim leaves [ inl e ↦ bool_differs h.0 e | inr rule ↦ far_leaves_not t s few same h.1 rule ]),
      (λ before ls keeps lits gives.
          let count : length old.clauses ≡ length before = kept_count old.atoms old.clauses before keeps in
          far_gives_not t asserted before s ls few same fa (omega (arith, count, fb)) lits h.1 gives),
    )

pub large_step : (t : ProofTerms) (asserted : List Tree) (old new : Kept) (x : Sexp) → IsReadStep x ReadLarge
    → StepComes t asserted old new x Range
large_step t asserted old new x h = (h.0, h.1, inl h.2)

pub none_run : (t : ProofTerms) (asserted : List Tree) (all : List Sexp) (kept : Kept) → kept.clauses ≡ [] → AreRun t asserted all all 0 kept
none_run t asserted all kept none =
    record {
      done = [];
      clauses = [];
      run = record { before = []; split = refl; number_is = refl; read = tt; runs = no_steps; in_range = All-nil (Stays t) };
      keeps = subst (λ cs. AreKept kept.atoms cs []) (sym none) tt;
      literals = All-nil (All (IsLiteral t.declared t.trees));
    }

pub one_run : (t : ProofTerms) (asserted : List Tree) (all : List Sexp) (x : Sexp) (rest rest_is : List Sexp) (number : ℕ) (old new : Kept)
    → AreRun t asserted all rest_is number old → rest_is ≡ x ∷ rest → StepComes t asserted old new x Good → AreRun t asserted all rest (number + 1) new
one_run t asserted all x rest rest_is number old new a here h =
    let on : GoesOn t asserted a.clauses h.0 new = h.2.1 a.clauses a.keeps a.literals in
    record {
      done = a.done ++ h.0 ∷ [];
      clauses = a.clauses ++ on.clause ∷ [];
      run = record {
        before = a.run.before ++ x ∷ [];
        split = a.run.split ∙ ap (λ zs. a.run.before ++ zs) here ∙ sym (append_assoc a.run.before (x ∷ []) rest);
        number_is = ap (λ n. n + 1) a.run.number_is ∙ sym (length-append a.run.before (x ∷ []));
        read = read_push step_read a.run.before a.done x h.0 a.run.read h.1;
        runs = next_step a.run.runs h.0 on.clause on.gives;
        in_range = All-push (Stays t) a.done h.0 a.run.in_range h.2.0;
      };
      keeps = on.keeps;
      literals = All-push (All (IsLiteral t.declared t.trees)) a.clauses on.clause a.literals on.gives.literals;
    }

pub fault_run : (t : ProofTerms) (asserted : List Tree) (all : List Sexp) (x : Sexp) (rest rest_is : List Sexp) (number : ℕ) (old new : Kept)
    → AreRun t asserted all rest_is number old → rest_is ≡ x ∷ rest → StepComes t asserted old new x Wrong → StepsCome t asserted all (No number)
fault_run t asserted all x rest rest_is number old new a here h =
    faulty (record { at = x; after = rest; kept = old; now = new; run = subst (λ zs. AreRun t asserted all zs number old) here a; wrong = h })

pub outside_run : (t : ProofTerms) (asserted : List Tree) (all : List Sexp) (x : Sexp) (rest rest_is : List Sexp) (number : ℕ) (old new : Kept)
    → AreRun t asserted all rest_is number old → rest_is ≡ x ∷ rest → StepComes t asserted old new x Range → StepsCome t asserted all (OutOfRange number)
outside_run t asserted all x rest rest_is number old new a here h =
    outside (record { at = x; after = rest; kept = old; run = subst (λ zs. AreRun t asserted all zs number old) here a; step = h.0; read = h.1; leaves = h.2 })

pub end_run : (t : ProofTerms) (asserted : List Tree) (all : List Sexp) (rest : List Sexp) (number : ℕ) (kept : Kept) (found : Found)
    → AreRun t asserted all rest number kept → rest ≡ [] → ((clauses : List (List Literal)) → KeepsAll kept clauses → EndsSo number clauses found) → StepsCome t asserted all found
end_run t asserted all rest number kept found a here h =
    ended (record { number = number; kept = kept; run = subst (λ zs. AreRun t asserted all zs number kept) here a; end_is = subst_end t asserted all rest number kept found a here h })
  where
    subst_end : (t : ProofTerms) (asserted : List Tree) (all : List Sexp) (rest : List Sexp) (number : ℕ) (kept : Kept) (found : Found) (a : AreRun t asserted all rest number kept) (here : rest ≡ [])
        → ((clauses : List (List Literal)) → KeepsAll kept clauses → EndsSo number clauses found) → EndsSo number (subst (λ zs. AreRun t asserted all zs number kept) here a).clauses found
    subst_end t asserted all rest number kept found a here h = h _ (subst (λ zs. AreRun t asserted all zs number kept) here a).keeps

-- ---- the end

nothing_contained : {A : Type 0} (x : A) → Contains [] x → ⊥
nothing_contained x h = All-contains (λ y. ⊥) [] x (All-nil (λ y. ⊥)) h

-- a clause without codes has no literals
no_codes : (atoms : List Atom) (ls : List Literal) → IsKept atoms [] ls → ls ≡ []
no_codes atoms [] h = refl
no_codes atoms (l ∷ ls) h = absurd (nothing_contained (h.are_codes.coded l (Contains-get_or (l ∷ ls) 0 l (omega arith))).0 (h.are_codes.coded l (Contains-get_or (l ∷ ls) 0 l (omega arith))).1.1)

-- and one without literals no codes
no_literals : (atoms : List Atom) (cs : List ℕ) → IsKept atoms cs [] → cs ≡ []
no_literals atoms [] h = refl
no_literals atoms (c ∷ cs) h = absurd (nothing_contained (h.are_codes.of_literals c (Contains-get_or (c ∷ cs) 0 c (omega arith))).0 (h.are_codes.of_literals c (Contains-get_or (c ∷ cs) 0 c (omega arith))).1.1)

last_empty : (atoms : List Atom) (cs : List (List ℕ)) (ls : List (List Literal)) → AreKept atoms cs ls → 0 < length cs
    → slice_index_or cs (length cs - 1) [] ≡ [] → (front : List (List Literal)) × (ls ≡ front ++ [] ∷ [])
last_empty atoms [] ls h some e = absurd (omega (arith, some))
last_empty atoms (c ∷ []) (l ∷ []) h some e = ([], ap (λ z. z ∷ []) (no_codes atoms l (subst (λ d. IsKept atoms d l) e h.0)))
last_empty atoms (c ∷ []) (l ∷ m ∷ ls) h some e = absurd h.1
last_empty atoms (c ∷ []) [] h some e = absurd h
last_empty atoms (c ∷ d ∷ cs) [] h some e = absurd h
last_empty atoms (c ∷ d ∷ cs) (l ∷ ls) h some e =
    let i : length (c ∷ d ∷ cs) - 1 ≡ suc (length (d ∷ cs) - 1) = omega arith in
    let r : (front : List (List Literal)) × (ls ≡ front ++ [] ∷ []) =
    last_empty atoms (d ∷ cs) ls h.1 (omega arith) (sym (ap (λ m. slice_index_or (c ∷ d ∷ cs) m []) i) ∙ e) in
    (l ∷ r.0, ap (λ z. l ∷ z) r.1)

record LastIsEmpty (cs : List (List ℕ)) : Type 0 where
  some : 0 < length cs
  empty : slice_index_or cs (length cs - 1) [] ≡ []

kept_last : (atoms : List Atom) (cs : List (List ℕ)) (front : List (List Literal)) → AreKept atoms cs (front ++ [] ∷ []) → LastIsEmpty cs
kept_last atoms [] [] h = absurd h
kept_last atoms [] (f ∷ fs) h = absurd h
kept_last atoms (c ∷ []) [] h = record { some = omega arith; empty = no_literals atoms c h.0 }
kept_last atoms (c ∷ d ∷ cs) [] h = absurd h.1
kept_last atoms (c ∷ []) (f ∷ fs) h = let r : LastIsEmpty [] = kept_last atoms [] fs h.1 in absurd (let no : 0 < 0 = r.some in omega (arith, no))
kept_last atoms (c ∷ d ∷ cs) (f ∷ fs) h =
    let r : LastIsEmpty (d ∷ cs) = kept_last atoms (d ∷ cs) fs h.1 in
    let i : length (c ∷ d ∷ cs) - 1 ≡ suc (length (d ∷ cs) - 1) = omega arith in
    record { some = omega arith; empty = ap (λ m. slice_index_or (c ∷ d ∷ cs) m []) i ∙ r.empty }

is_nothing : (xs : List ℕ) → true ≡ (length xs == 0) → xs ≡ []
is_nothing [] e = refl
is_nothing (x ∷ xs) e = absurd (let no : (length (x ∷ xs) == 0) ≡ true = sym e in grind arith)

is_something : (xs : List ℕ) → false ≡ (length xs == 0) → xs ≡ [] → ⊥
is_something xs e none = let t : (length xs == 0) ≡ true = ap (λ (ys : List ℕ). length ys == 0) none in absurd cc

pub ends_empty : (k : Kept) (n : ℕ) (codes : List ℕ) → n ≡ length k.clauses → 0 < n → slice_index_or k.clauses (n - 1) [] ≡ codes → true ≡ (length codes == 0)
    → (all : List (List Literal)) → KeepsAll k all → (front : List (List Literal)) × (all ≡ front ++ [] ∷ [])
ends_empty k n codes count some at empty all keeps =
    last_empty k.atoms k.clauses all keeps (subst (λ m. 0 < m) count some)
    (subst (λ m. slice_index_or k.clauses (m - 1) [] ≡ []) count (at ∙ is_nothing codes empty))

pub ends_full : (k : Kept) (n : ℕ) (codes : List ℕ) → n ≡ length k.clauses → slice_index_or k.clauses (n - 1) [] ≡ codes → false ≡ (length codes == 0)
    → (all : List (List Literal)) → KeepsAll k all → (front : List (List Literal)) → all ≡ front ++ [] ∷ [] → ⊥
ends_full k n codes count at full all keeps front is =
    let r : LastIsEmpty k.clauses = kept_last k.atoms k.clauses front (subst (λ (ls : List (List Literal)). AreKept k.atoms k.clauses ls) is keeps) in
    is_something codes full (sym at ∙ subst (λ m. slice_index_or k.clauses (m - 1) [] ≡ []) (sym count) r.empty)

pub ends_nowhere : (k : Kept) (n : ℕ) → n ≡ length k.clauses → (0 < n → ⊥)
    → (all : List (List Literal)) → KeepsAll k all → (front : List (List Literal)) → all ≡ front ++ [] ∷ [] → ⊥
ends_nowhere k n count none all keeps front is =
    let r : LastIsEmpty k.clauses = kept_last k.atoms k.clauses front (subst (λ (ls : List (List Literal)). AreKept k.atoms k.clauses ls) is keeps) in
    none (subst (λ m. 0 < m) (sym count) r.some)

-- ---- loops

-- terms have been added up to a place
pub record Adds (ds : List Declaration) (held : List Tree) (ts : List Token) (first place number : ℕ) (t : ProofTerms) : Type 0 where
  pub within : place ≤ length ts
  pub few : number ≤ place
  pub added : AreAdded ds held (listed (ahead ts first)) (listed (ahead ts place)) number t

pub adds_on : (ds : List Declaration) (held : List Tree) (ts : List Token) (first place next number : ℕ) (old new : ProofTerms) (x : Sexp) → Adds ds held ts first place number old
    → ahead ts place ≡ x ▸ ahead ts next → place < next → next ≤ length ts → HasAdded x old new true → Adds ds held ts first next (number + 1) new
adds_on ds held ts first place next number old new x a here less within h =
    record {
      within = within;
      few = let f : number ≤ place = a.few in omega (arith, f, less);
      added = one_added ds held (listed (ahead ts first)) x (listed (ahead ts next)) (listed (ahead ts place)) number old new a.added (ap listed here) h;
    }

pub adds_not : (ds : List Declaration) (held : List Tree) (ts : List Token) (first place next number : ℕ) (old new : ProofTerms) (x : Sexp) → Adds ds held ts first place number old
    → ahead ts place ≡ x ▸ ahead ts next → HasAdded x old new false → EndsAt ds held (listed (ahead ts first)) number new
adds_not ds held ts first place next number old new x a here h =
    fault_added ds held (listed (ahead ts first)) x (listed (ahead ts next)) (listed (ahead ts place)) number old new a.added (ap listed here) h

pub adds_all : (ds : List Declaration) (held : List Tree) (ts : List Token) (first place number : ℕ) (t : ProofTerms) → Adds ds held ts first place number t → ahead ts place ≡ end
    → AreAdded ds held (listed (ahead ts first)) [] number t
adds_all ds held ts first place number t a over = subst (λ zs. AreAdded ds held (listed (ahead ts first)) zs number t) (ap listed over) a.added

-- steps have been judged up to a place
pub record Judges (t : ProofTerms) (asserted : List Tree) (ts : List Token) (first place number : ℕ) (kept : Kept) : Type 0 where
  pub within : place ≤ length ts
  pub few : number ≤ place
  pub run : AreRun t asserted (listed (ahead ts first)) (listed (ahead ts place)) number kept

pub judges_on : (t : ProofTerms) (asserted : List Tree) (ts : List Token) (first place next number : ℕ) (old new : Kept) (x : Sexp) → Judges t asserted ts first place number old
    → ahead ts place ≡ x ▸ ahead ts next → place < next → next ≤ length ts → StepComes t asserted old new x Good → Judges t asserted ts first next (number + 1) new
judges_on t asserted ts first place next number old new x a here less within h =
    record {
      within = within;
      few = let f : number ≤ place = a.few in omega (arith, f, less);
      run = one_run t asserted (listed (ahead ts first)) x (listed (ahead ts next)) (listed (ahead ts place)) number old new a.run (ap listed here) h;
    }

-- where the terms are as they were

pub judged_good : (t u : ProofTerms) (is : List ℕ) (ts : List Token) (first place next number : ℕ) (old new : Kept) (x : Sexp) → u ≡ t → Judges t (asserted_at t.held is) ts first place number old
    → ahead ts place ≡ x ▸ ahead ts next → place < next → next ≤ length ts → StepComes u (asserted_at u.held is) old new x Good → Judges t (asserted_at t.held is) ts first next (number + 1) new
judged_good t u is ts first place next number old new x same a here less within h =
    judges_on t (asserted_at t.held is) ts first place next number old new x a here less within (subst (λ (v : ProofTerms). StepComes v (asserted_at v.held is) old new x Good) same h)

pub judged_wrong : (t u : ProofTerms) (is : List ℕ) (ts : List Token) (first place next number : ℕ) (old new : Kept) (x : Sexp) → u ≡ t → Judges t (asserted_at t.held is) ts first place number old
    → ahead ts place ≡ x ▸ ahead ts next → StepComes u (asserted_at u.held is) old new x Wrong → StepsCome t (asserted_at t.held is) (listed (ahead ts first)) (No number)
judged_wrong t u is ts first place next number old new x same a here h =
    fault_run t (asserted_at t.held is) (listed (ahead ts first)) x (listed (ahead ts next)) (listed (ahead ts place)) number old new a.run (ap listed here)
    (subst (λ (v : ProofTerms). StepComes v (asserted_at v.held is) old new x Wrong) same h)

pub judged_outside : (t u : ProofTerms) (is : List ℕ) (ts : List Token) (first place next number : ℕ) (old new : Kept) (x : Sexp) → u ≡ t → Judges t (asserted_at t.held is) ts first place number old
    → ahead ts place ≡ x ▸ ahead ts next → StepComes u (asserted_at u.held is) old new x Range → StepsCome t (asserted_at t.held is) (listed (ahead ts first)) (OutOfRange number)
judged_outside t u is ts first place next number old new x same a here h =
    outside_run t (asserted_at t.held is) (listed (ahead ts first)) x (listed (ahead ts next)) (listed (ahead ts place)) number old new a.run (ap listed here)
    (subst (λ (v : ProofTerms). StepComes v (asserted_at v.held is) old new x Range) same h)

pub judged_all : (t : ProofTerms) (asserted : List Tree) (ts : List Token) (first place number : ℕ) (kept : Kept) (found : Found) → Judges t asserted ts first place number kept → ahead ts place ≡ end
    → ((clauses : List (List Literal)) → KeepsAll kept clauses → EndsSo number clauses found) → StepsCome t asserted (listed (ahead ts first)) found
judged_all t asserted ts first place number kept found a over h = end_run t asserted (listed (ahead ts first)) (listed (ahead ts place)) number kept found a.run (ap listed over) h
