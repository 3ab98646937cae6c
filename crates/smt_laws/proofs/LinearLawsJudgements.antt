-- What holds after each step of a judgement, where it isn't refused.
use Rattle.std.proofs.Common.{◌≡◌, ◌∙◌, ℕ, ◌+◌, ◌<◌, ◌≤◌, List, [], ◌∷◌, ◌++◌, refl, Bool, true, false, Option, Some, None, nat_lt, arith}
use Rattle.smt_meaning.specs.declared.values.Sort.{Sort}
use Rattle.smt_meaning.specs.Declaration.{Declaration, Body}
use Rattle.smt_meaning.specs.Term.{Tree}
use Rattle.smt_meaning.specs.Sorts.{Scope, ◌>>◌, note, found, declare, declare_in, most_symbols, Typed, Rules}
use Rattle.smt_laws.proofs.Among.{Among, kept_with_all, among_with_all}
use Rattle.smt_laws.proofs.Each.{Each, each_with_all}
use Rattle.smt_laws.proofs.StepLogic.{Logic, Ends, Gives, Nothing}
use Rattle.smt_laws.proofs.Shapes.{Linear, linear_down, Sound, sound_down, each_sound_more}

-- ---- what a scope keeps

-- the body of a definition is one of its trees, whose numerals are in the range, and whose symbols are among the first n
abbrev pub BodyStands : ℕ → Option Body → Type 0
BodyStands n None = Unit {0}
BodyStands n (Some b) = Among b.term b.terms × Each (Sound n) b.terms

-- so is the symbol itself
abbrev pub Stands : ℕ → Declaration → Type 0
Stands n d = (d.id < n) × BodyStands n d.body

abbrev pub AllStand : ℕ → List Declaration → Type 0
AllStand n [] = Unit {0}
AllStand n (d ∷ ds) = Stands n d × AllStand n ds

pub body_more : (n m : ℕ) (o : Option Body) → n ≤ m → BodyStands n o → BodyStands m o
body_more n m None le h = tt
body_more n m (Some b) le h = (h.0, each_sound_more n m b.terms le h.1)

pub stands_more : (n m : ℕ) (d : Declaration) → n ≤ m → Stands n d → Stands m d
stands_more n m d le h = let lt : d.id < n = h.0 in (omega (arith, lt, le), body_more n m d.body le h.1)

pub all_stand_more : (n m : ℕ) (ds : List Declaration) → n ≤ m → AllStand n ds → AllStand m ds
all_stand_more n m [] le h = tt
all_stand_more n m (d ∷ ds) le h = (stands_more n m d le h.0, all_stand_more n m ds le h.1)

pub all_stand_append : (n : ℕ) (ds es : List Declaration) → AllStand n ds → AllStand n es → AllStand n (ds ++ es)
all_stand_append n [] es h k = k
all_stand_append n (d ∷ ds) es h k = (h.0, all_stand_append n ds es h.1 k)

-- the trees are linear where products are judged
pub record Good (closed : Bool) (s : Scope) : Type 0 where
  pub bodies : AllStand s.given s.signature
  pub sound : Each (Sound s.given) s.trees
  pub linear : closed ≡ true → Each Linear s.trees

-- the trees stay, and ids are given only where terms may be named
pub record After (naming : Bool) (s t : Scope) : Type 0 where
  pub kept : (u : Tree) → Among u s.trees → Among u t.trees
  pub given : s.given ≤ t.given
  pub none_given : naming ≡ false → t.given ≡ s.given

pub after_self : (b : Bool) (s : Scope) → After b s s
after_self b s = record { kept = λ u h. h; given = omega arith; none_given = λ e. refl }

pub after_still : (b : Bool) (s t u : Scope) → After b s t → After b t u → After b s u
after_still b s t u h k =
    let first : s.given ≤ t.given = h.given in
    let second : t.given ≤ u.given = k.given in
    record { kept = λ x m. k.kept x (h.kept x m); given = omega (arith, first, second); none_given = λ e. k.none_given e ∙ h.none_given e }

abbrev pub linearity : Rules → Logic
linearity r = record { Good = Good r.closed; After = After r.naming; self = after_self r.naming; still = after_still r.naming }

-- a term's tree stands among the trees
abbrev pub Fine : Typed → Scope → Type 0
Fine a t = Among a.tree t.trees

pub note_found : (r : Rules) (s : Scope) (us : List Tree) (u : Tree) (x : Sort) → Each (Sound s.given) us → (r.closed ≡ true → Each Linear us) → Among u us → Gives (linearity r) s (note us >> found u x) Fine
unfolding ◌>>◌ note found
note_found r s us u x sound linear m = record {
  gives = λ f. (
    (
      record {
        bodies = f.bodies;
        sound = each_with_all (Sound s.given) (sound_down s.given) s.trees us f.sound sound;
        linear = λ e. each_with_all Linear linear_down s.trees us (f.linear e) (linear e);
      },
      record { kept = λ y k. kept_with_all y s.trees us k; given = omega arith; none_given = λ e. refl },
    ),
    among_with_all u s.trees us m,
  );
}

pub declare_gives : (r : Rules) (s : Scope) (d : ℕ → Declaration) → r.naming ≡ true → Stands (s.given + 1) (d s.given) → Gives (linearity r) s (declare d) Nothing
unfolding declare
declare_gives r s d naming stands = record { gives = λ f. go f (nat_lt s.given most_symbols) }
  where
    named : r.naming ≡ false → s.given + 1 ≡ s.given
    named e = absurd cc

    go : Good r.closed s → (b : Bool) → Ends (linearity r) s Nothing (declare_in (d s.given) b s)
    go f true = (
      (
        record {
          bodies = all_stand_append (s.given + 1) s.signature (d s.given ∷ []) (all_stand_more s.given (s.given + 1) s.signature (omega arith) f.bodies) (stands, tt);
          sound = each_sound_more s.given (s.given + 1) s.trees (omega arith) f.sound;
          linear = f.linear;
        },
        record { kept = λ y k. k; given = omega arith; none_given = named },
      ),
      tt,
    )
    go f false = tt
