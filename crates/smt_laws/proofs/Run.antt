-- A walk over all tokens.
use Rattle.std.proofs.Common.{◌≡◌, List, [], ◌∷◌, sym, subst, refl}
use Rattle.smt_meaning.specs.declared.tokens.Token.{Token}
use Rattle.smt_meaning.specs.declared.tokens.Token.TheVariants.{Enter, Leave}
use Rattle.smt_meaning.specs.Sexp.{Sexps, end, before, open_lists_of, sexp, IsSexp}
use Rattle.smt_meaning.specs.Sorts.{Outcome, done, refused, Judging, go_on, ◌>>=◌, Variable, Rules, Typed, judge}
use Rattle.smt_laws.specs.Walk.{Frame, whole, answer, continue, step, run, finish, Fits}
use Rattle.smt_laws.specs.TermWalkLaws.{WalkGivesTheJudgement}
use Rattle.smt_laws.proofs.Monad.{Same, other, both, assoc, return_then, then_return}
use Rattle.smt_laws.proofs.Steps.{enter_step, leave_step, word_step}
use Rattle.smt_laws.proofs.Shape.{Holds, Gives, enter_fits, leave_fits, word_fits, never_fits, at_end}

-- what a token does: the whole term stays, and each frame keeps its lists
pub record IsStep (r : Rules) (fs : List Frame) (t : Token) (lists : List Sexps) : Type 0 where
  pub stays : Same (continue r fs (before t lists)) (step r fs t lists >>= (λ gs. continue r gs lists))
  pub fits : Gives (λ gs. Fits gs lists) (step r fs t lists)

pub one_step : (r : Rules) (fs : List Frame) (t : Token) (lists : List Sexps) → Fits fs (before t lists) → IsStep r fs t lists
one_step r fs t [] h = absurd (never_fits fs h)
one_step r fs Enter (inner ∷ []) h = absurd (never_fits fs h)
one_step r fs Enter (inner ∷ outer ∷ lists) h = record { stays = enter_step r fs inner outer lists; fits = enter_fits fs inner outer lists h }
one_step r fs Leave (inner ∷ lists) h = record { stays = leave_step r fs inner lists; fits = leave_fits r fs inner lists h }
one_step r fs t (inner ∷ lists) h = record { stays = word_step r fs t inner lists; fits = word_fits r fs t inner lists h }

pub finished : (r : Rules) (fs : List Frame) → Fits fs (end ∷ []) → Same (continue r fs (end ∷ [])) (finish fs)
finished r fs h =
    let e : (a : Typed) × (fs ≡ answer a ∷ []) = at_end fs h in
    subst (λ gs. Same (continue r gs (end ∷ [])) (finish gs)) (sym e.1) (return_then e.0 _)

same_where : {A : Type 0} (x : Outcome (List Frame)) (lists : List Sexps) (k l : List Frame → Judging A) → Holds (λ gs. Fits gs lists) x → ((gs : List Frame) → Fits gs lists → Same (k gs) (l gs)) → go_on x k ≡ go_on x l
same_where (done gs s) lists k l h g = (g gs h).at s
same_where (refused r) lists k l h g = refl

bind_where : {A : Type 0} (m : Judging (List Frame)) (lists : List Sexps) (k l : List Frame → Judging A) → Gives (λ gs. Fits gs lists) m → ((gs : List Frame) → Fits gs lists → Same (k gs) (l gs)) → Same (m >>= k) (m >>= l)
unfolding ◌>>=◌
bind_where m lists k l h g = record { at = λ s. same_where (m s) lists k l (h.from s) g }

pub all_steps : (r : Rules) (ts : List Token) (fs : List Frame) → Fits fs (open_lists_of ts) → Same (continue r fs (open_lists_of ts)) (run r ts fs >>= finish)
all_steps r [] fs h = both (finished r fs h) (other (return_then fs finish))
all_steps r (t ∷ ts) fs h =
    let one : IsStep r fs t (open_lists_of ts) = one_step r fs t (open_lists_of ts) h in
    both one.stays (both (bind_where (step r fs t (open_lists_of ts)) (open_lists_of ts) _ _ one.fits (λ gs k. all_steps r ts gs k)) (other (assoc (step r fs t (open_lists_of ts)) _ _)))

pub start_fits : (ts : List Token) (vs : List Variable) → IsSexp ts → Fits (whole vs ∷ []) (open_lists_of ts)
start_fits ts vs e = (refl, (sexp ts, e))

pub started : (r : Rules) (vs : List Variable) (ts : List Token) → IsSexp ts → Same (judge r vs (sexp ts)) (continue r (whole vs ∷ []) (open_lists_of ts))
started r vs ts e = subst (λ lists. Same (judge r vs (sexp ts)) (continue r (whole vs ∷ []) lists)) (sym e) (other (then_return (judge r vs (sexp ts))))

pub walk_is_judge : WalkGivesTheJudgement
walk_is_judge r vs ts s e = sym ((both (started r vs ts e) (all_steps r ts (whole vs ∷ []) (start_fits ts vs e))).at s)
