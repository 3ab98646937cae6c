-- What holds after each step of a judgement, where it isn't refused.
use Rattle.std.proofs.Common.{◌≡◌, ℕ, ◌+◌, ◌<◌, List, [], ◌∷◌, ◌++◌, All, ap, sym, subst, ◌∙◌, refl, Bool, true, false, nat_lt, append_assoc, append-nil}
use Rattle.std.proofs.lemmas.List.Elements.{All-nil, All-cons, All-head, All-append, All-weaker}
use Rattle.smt_meaning.specs.declared.values.Sort.{Sort}
use Rattle.smt_meaning.specs.Declaration.{Declaration}
use Rattle.smt_meaning.specs.Term.{Tree}
use Rattle.smt_meaning.specs.Signature.{is_symbol}
use Rattle.smt_meaning.specs.Sorts.{Scope, Outcome, done, refused, Judging, ◌>>◌, with_all, note, found, declare, declare_in, most_symbols, Typed}
use Rattle.smt_laws.proofs.Among.{Among, kept_with_all, among_with_all}
use Rattle.smt_laws.proofs.PlacesLaw.{HasSort, LaterThan, later_more, sort_later}
use Rattle.smt_laws.proofs.Signatures.{Usable, Good, good_more}
use Rattle.smt_laws.proofs.StepLogic.{Logic, Ends, Gives, Nothing}

-- what a judgement may declare: nothing where nothing may be named, else names of terms
abbrev pub Naming : Bool → Declaration → Type 0
Naming true d = is_symbol d ≡ false
Naming false d = ⊥

-- the signature only grows at its end, by what may be declared; the trees stay
pub record After (may : Declaration → Type 0) (s t : Scope) : Type 0 where
  pub names : List Declaration
  pub behind : t.signature ≡ s.signature ++ names
  pub allowed : All may names
  pub kept : (u : Tree) → Among u s.trees → Among u t.trees
  pub later : LaterThan s.signature t.signature

pub grows : (may : Declaration → Type 0) (s t : Scope) (names : List Declaration) → t.signature ≡ s.signature ++ names → All may names
    → ((u : Tree) → Among u s.trees → Among u t.trees) → After may s t
grows may s t names e all kept = record {
  names = names;
  behind = e;
  allowed = all;
  kept = kept;
  later = subst (LaterThan s.signature) (sym e) (later_more s.signature names);
}

pub after_self : (may : Declaration → Type 0) (s : Scope) → After may s s
after_self may s = grows may s s [] (sym (append-nil s.signature)) (All-nil may) (λ u h. h)

pub after_still : (may : Declaration → Type 0) (s t u : Scope) → After may s t → After may t u → After may s u
after_still may s t u h k =
    grows may s u (h.names ++ k.names) (k.behind ∙ ap (λ ds. ds ++ k.names) h.behind ∙ append_assoc s.signature h.names k.names)
    (All-append may h.names k.names h.allowed k.allowed) (λ x m. k.kept x (h.kept x m))

-- more may be declared
pub after_wider : (may might : Declaration → Type 0) (s t : Scope) → ((d : Declaration) → may d → might d) → After may s t → After might s t
after_wider may might s t w h = grows might s t h.names h.behind (All-weaker may might w h.names h.allowed) h.kept

-- where nothing may be declared the signature stays
pub nothing_more : (s t : Scope) → After (Naming false) s t → t.signature ≡ s.signature
nothing_more s t h = go h.names h.behind h.allowed
  where
    go : (names : List Declaration) → t.signature ≡ s.signature ++ names → All (Naming false) names → t.signature ≡ s.signature
    go [] e a = e ∙ append-nil s.signature
    go (d ∷ names) e a = absurd (All-head (Naming false) d names a)

abbrev pub sorting : (Declaration → Type 0) → Logic
sorting may = record { Good = λ t. Good t.given t.signature; After = After may; self = after_self may; still = after_still may }

-- a term's tree has its sort, and stands among the trees
abbrev pub Fine : List Sort → Typed → Scope → Type 0
Fine ps a t = HasSort t.signature ps a.tree a.sort × Among a.tree t.trees

pub fine_after : (may : Declaration → Type 0) (ps : List Sort) (a : Typed) (s t : Scope) → After may s t → Fine ps a s → Fine ps a t
fine_after may ps a s t e h = (sort_later s.signature t.signature ps a.tree a.sort e.later h.0, e.kept a.tree h.1)

pub note_found : (may : Declaration → Type 0) (ps : List Sort) (s : Scope) (us : List Tree) (u : Tree) (x : Sort) → HasSort s.signature ps u x → Among u us → Gives (sorting may) s (note us >> found u x) (Fine ps)
unfolding ◌>>◌ note found
note_found may ps s us u x h m = record {
  gives = λ f. (
    (f, grows may s (record s { trees = with_all s.trees us }) [] (sym (append-nil s.signature)) (All-nil may) (λ y k. kept_with_all y s.trees us k)),
    (h, among_with_all u s.trees us m),
  );
}

pub declare_gives : (may : Declaration → Type 0) (s : Scope) (d : ℕ → Declaration) → ((n : ℕ) → may (d n)) → ((n : ℕ) → (d n).id ≡ n)
    → ((n : ℕ) → All (λ (e : Declaration). e.id < n) s.signature → (d n).is_sort ≡ false → Usable (s.signature ++ d n ∷ []) (d n)) → Gives (sorting may) s (declare d) Nothing
unfolding declare
declare_gives may s d allowed own u = record { gives = λ f. go f (nat_lt s.given most_symbols) }
  where
    go : Good s.given s.signature → (c : Bool) → Ends (sorting may) s Nothing (declare_in (d s.given) c s)
    go f true = (
      (
        good_more s.given s.signature (d s.given) (own s.given) f (u s.given f.below),
        grows may s (record s { signature = s.signature ++ d s.given ∷ []; given = s.given + 1 }) (d s.given ∷ []) refl (All-cons may (d s.given) [] (allowed s.given) (All-nil may)) (λ y k. k),
      ),
      tt,
    )
    go f false = tt

-- less is known of the value, and more might have been declared
pub widen : {A : Type 0} (may might : Declaration → Type 0) (s : Scope) (m : Judging A) (P Q : A → Scope → Type 0) → ((d : Declaration) → may d → might d)
    → ((a : A) (t : Scope) → After may s t → P a t → Q a t) → Gives (sorting may) s m P → Gives (sorting might) s m Q
widen {A} may might s m P Q w f h = record { gives = λ g. go (m s) (h.gives g) }
  where
    go : (x : Outcome A) → Ends (sorting may) s P x → Ends (sorting might) s Q x
    go (done a t) k = ((k.0.0, after_wider may might s t w k.0.1), f a t k.0.1 k.1)
    go (refused r) k = tt
