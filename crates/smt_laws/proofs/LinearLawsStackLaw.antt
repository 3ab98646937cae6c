-- Whatever commands come: the stack's trees are linear, their numerals are in the range, and their symbols were given.
use Rattle.std.proofs.Common.{◌≡◌, ℕ, zero, suc, ◌-◌, ◌<◌, ◌≤◌, All, subst, List, [], ◌∷◌, take, drop, length, refl, Bool, true, false, Option, Some, None}
use Rattle.std.specs.Prelude.{replicate, filter, if◌then◌else◌}
use Rattle.smt_meaning.specs.Declaration.{Declaration}
use Rattle.smt_meaning.specs.Clause.{symbols}
use Rattle.smt_meaning.specs.Sorts.{Scope, Outcome, done, refused, Judging}
use Rattle.smt_meaning.specs.Stack.{Frame, Assertion, signature_of, depth, on_top, with_declared, stays, cleared, pushed, empty_frame}
use Rattle.smt_meaning.specs.StackCommand.{Stack, start, Change, declares, asserts, asks, assumes, sets, pushes, pops, clears, begins_again, is_unsupported, in_assert, stack_command, scope_of, judged, new_declarations, changed, after_outcome, after_command, after, after_all}
use Rattle.smt_meaning.specs.declared.commands.Command.{Command}
use Rattle.smt_laws.specs.Numerals.{numerals_fit}
use Rattle.smt_laws.specs.LinearLaws.{TreesAreLinear, NumeralsAreInRange, SymbolsAreGiven}
use Rattle.smt_laws.proofs.Each.{Each, each_all}
use Rattle.smt_laws.proofs.Shapes.{Linear, Sound, each_fits, each_given}
use Rattle.smt_laws.proofs.StepLogic.{Ends}
use Rattle.smt_laws.proofs.LinearLawsJudgements.{AllStand, all_stand_append, all_stand_more, Good, linearity}
use Rattle.smt_laws.proofs.LinearLawsCommandsLaw.{Unnamed, KeepsIfSome, command_keeps}

-- ---- the definitions of frames

abbrev FramesStand : ℕ → List Frame → Type 0
FramesStand n [] = Unit {0}
FramesStand n (f ∷ frames) = AllStand n f.declared × FramesStand n frames

frames_more : (n m : ℕ) (frames : List Frame) → n ≤ m → FramesStand n frames → FramesStand m frames
frames_more n m [] le h = tt
frames_more n m (f ∷ frames) le h = (all_stand_more n m f.declared le h.0, frames_more n m frames le h.1)

signature_stands : (n : ℕ) (frames : List Frame) → FramesStand n frames → AllStand n (signature_of frames)
signature_stands n [] h = tt
signature_stands n (f ∷ frames) h = all_stand_append n f.declared (signature_of frames) h.0 (signature_stands n frames h.1)

drop_stands : (m : ℕ) (k : ℕ) (ds : List Declaration) → AllStand m ds → AllStand m (drop k ds)
drop_stands m zero ds h = h
drop_stands m (suc k) [] h = tt
drop_stands m (suc k) (d ∷ ds) h = drop_stands m k ds h.1

stand_on_top : (m : ℕ) (ds : List Declaration) (xs : List Assertion) (frames : List Frame) → FramesStand m frames → AllStand m ds → FramesStand m (on_top ds xs frames)
stand_on_top m ds xs [] h k = tt
stand_on_top m ds xs (f ∷ []) h k = (all_stand_append m f.declared ds h.0 k, tt)
stand_on_top m ds xs (f ∷ g ∷ frames) h k = (h.0, stand_on_top m ds xs (g ∷ frames) h.1 k)

stand_declared : (m : ℕ) (b : Bool) (ds : List Declaration) (frames : List Frame) → FramesStand m frames → AllStand m ds → FramesStand m (with_declared b ds frames)
stand_declared m true ds [] h k = tt
stand_declared m true ds (f ∷ frames) h k = (all_stand_append m f.declared ds h.0 k, h.1)
stand_declared m false ds frames h k = stand_on_top m ds [] frames h k

stand_filter : (m : ℕ) (ds : List Declaration) → AllStand m ds → AllStand m (filter stays ds)
stand_filter m [] h = tt
stand_filter m (d ∷ ds) h = by_cases (stand_filter m ds h.1) (stays d)
  where
    by_cases : AllStand m (filter stays ds) → (b : Bool) → AllStand m (if b then d ∷ filter stays ds else filter stays ds)
    by_cases k true = (h.0, k)
    by_cases k false = k

stand_cleared : (m : ℕ) (b : Bool) (frames : List Frame) → FramesStand m frames → FramesStand m (cleared b frames)
stand_cleared m true [] h = (tt, tt)
stand_cleared m true (f ∷ frames) h = (stand_filter m f.declared h.0, tt)
stand_cleared m false frames h = (tt, tt)

stand_take : (m : ℕ) (k : ℕ) (frames : List Frame) → FramesStand m frames → FramesStand m (take k frames)
stand_take m zero frames h = tt
stand_take m (suc k) [] h = tt
stand_take m (suc k) (f ∷ frames) h = (h.0, stand_take m k frames h.1)

stand_empty : (m : ℕ) (n : ℕ) → FramesStand m (replicate n empty_frame)
stand_empty m zero = tt
stand_empty m (suc n) = (tt, stand_empty m n)

stand_pushed : (m : ℕ) (n : ℕ) (frames : List Frame) → FramesStand m frames → FramesStand m (pushed n frames)
stand_pushed m n [] h = stand_empty m n
stand_pushed m n (f ∷ frames) h = (h.0, stand_pushed m n frames h.1)

-- ---- the stack after a command

record GoodStack (s : Stack) : Type 0 where
  pub bodies : FramesStand s.given s.frames
  pub sound : Each (Sound s.given) s.trees
  pub linear : Each Linear s.trees

good_scope : (s : Stack) → GoodStack s → Good true (scope_of s)
good_scope s f = record { bodies = signature_stands s.given s.frames f.bodies; sound = f.sound; linear = λ e. f.linear }

changed_good : (s : Stack) (change : Change) (c : Scope) → GoodStack s → Good true c → s.given ≤ c.given → Unnamed s.given change c → GoodStack (changed s change c)
changed_good s declares c f g le u = record {
  bodies =
      stand_declared c.given s.global (new_declarations s c) s.frames (frames_more s.given c.given s.frames le f.bodies)
      (drop_stands c.given (length (signature_of s.frames)) c.signature g.bodies);
  sound = g.sound;
  linear = g.linear refl;
}
changed_good s (asserts a) c f g le u = record {
  bodies =
      stand_on_top c.given (new_declarations s c) (a ∷ []) s.frames (frames_more s.given c.given s.frames le f.bodies)
      (drop_stands c.given (length (signature_of s.frames)) c.signature g.bodies);
  sound = g.sound;
  linear = g.linear refl;
}
changed_good s (pushes n) c f g le u = record { bodies = stand_pushed s.given n s.frames f.bodies; sound = f.sound; linear = f.linear }
changed_good s (pops n) c f g le u = record { bodies = stand_take s.given (length s.frames - n) s.frames f.bodies; sound = f.sound; linear = f.linear }
changed_good s (asks ts) c f g le u = record { bodies = f.bodies; sound = subst (λ n. Each (Sound n) c.trees) u g.sound; linear = g.linear refl }
changed_good s (assumes xs) c f g le u = record { bodies = f.bodies; sound = subst (λ n. Each (Sound n) c.trees) u g.sound; linear = g.linear refl }
changed_good s (sets o) c f g le u = record { bodies = f.bodies; sound = f.sound; linear = f.linear }
changed_good s clears c f g le u = record { bodies = stand_cleared s.given s.global s.frames f.bodies; sound = f.sound; linear = f.linear }
changed_good s begins_again c f g le u = record { bodies = (tt, tt); sound = tt; linear = tt }
changed_good s is_unsupported c f g le u = f

outcome_good : (s : Stack) (o : Outcome Change) → GoodStack s → Ends (linearity in_assert) (scope_of s) (Unnamed s.given) o → GoodStack (after_outcome s o)
outcome_good s (done change c) f k = changed_good s change c f k.0.0 k.0.1.given k.1
outcome_good s (refused r) f k = f

command_good : (s : Stack) (o : Option (ℕ → Judging Change)) → KeepsIfSome o → GoodStack s → GoodStack (after_command s o)
unfolding judged
command_good s None k f = f
command_good s (Some m) k f = outcome_good s (judged m s) f ((k (depth s.frames) (scope_of s) (good_scope s f)).gives (good_scope s f))

all_good : (s : Stack) (cs : List Command) → GoodStack s → GoodStack (after_all s cs)
all_good s [] f = f
all_good s (c ∷ cs) f = all_good (after s c) cs (command_good s (stack_command c) (command_keeps c) f)

start_good : GoodStack start
start_good = record { bodies = (tt, tt); sound = tt; linear = tt }

-- ---- the laws

pub each_linear : (cs : List Command) → Each Linear (after_all start cs).trees
each_linear cs = (all_good start cs start_good).linear

pub trees_linear : TreesAreLinear
trees_linear cs = each_all Linear (after_all start cs).trees (each_linear cs)

each_sound : (cs : List Command) → Each (Sound (after_all start cs).given) (after_all start cs).trees
each_sound cs = (all_good start cs start_good).sound

pub numerals_in_range : NumeralsAreInRange
numerals_in_range cs =
    each_all (λ t. numerals_fit t ≡ true) (after_all start cs).trees (each_fits (after_all start cs).given (after_all start cs).trees (each_sound cs))

pub symbols_given : SymbolsAreGiven
symbols_given cs =
    each_all (λ t. All (λ f. f < (after_all start cs).given) (symbols t)) (after_all start cs).trees (each_given (after_all start cs).given (after_all start cs).trees (each_sound cs))
