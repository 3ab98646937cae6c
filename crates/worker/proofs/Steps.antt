-- What a pass's calls add to its claim.
use Rattle.std.proofs.Common.{Bor, ◌≡◌, inl, inr, ℕ, ◌+◌, List, [], ◌∷◌, ◌++◌, All, subst, sym, ap, ◌∙◌, arith, refl, append_assoc}
use Rattle.std.specs.Prelude.{Option, Some, None}
use Rattle.std.proofs.lemmas.List.{append-nil}
use Rattle.std.proofs.lemmas.List.Elements.{All-append, All-cons, All-nil}
use Rattle.search_port.specs.Spending.{Spending}
use Rattle.search_port.specs.declared.budget.Lemma.{Lemma}
use Rattle.race_model.specs.declared.shelf.Shelf.{Ghosts}
use Rattle.race_cell.specs.declared.action.Action.{Action}
use Rattle.race_cell.specs.declared.action.Action.TheVariants.{TakeBatch, Win}
use Rattle.race_cell.specs.declared.race.Pass.{Pass}
use Rattle.race_cell.specs.declared.view.Claim.{Claim}
use Rattle.race_cell.specs.Rules.{busier, looks_at, wins}
use Rattle.race_cell.specs.Calls.{Extends, Returns, AskTells}
use Rattle.race_cell.specs.Passes.{claim_of, IsSamePass}
use Rattle.std.proofs.lemmas.List.Elements.{Contains-push}
use Rattle.std.specs.Prelude.{ℤ}
use Rattle.smt_meaning.specs.Stack.{depth}
use Rattle.smt_meaning.specs.StackCommand.{Stack}
use Rattle.worker.specs.declared.racer.Racer.{Racer}
use Rattle.worker.specs.declared.outcome.Answer.{Answer}
use Rattle.worker.specs.declared.outcome.Answer.TheVariants.{Sat, Unsat}
use Rattle.worker.specs.declared.outcome.Outcome.TheVariants.{Answer as Answered}
use Rattle.worker.specs.Endings.{IsHeard}
use Rattle.worker.specs.Outcome.{HasWon, IsOutcome, IsRight}
use Rattle.worker.specs.Racing.{Adds, IsWork, Leads, SharesNext, TakesOne, TakesTurns, Turned}

pub added_both : (xs ys : List Action) (m n : ℕ) (c d e : Claim) → Adds xs m c d → Adds ys n d e → Adds (xs ++ ys) (m + n) c e
added_both xs ys m n c d e h k =
    let a : d.looks ≡ c.looks + m = h.looks in
    let b : e.looks ≡ d.looks + n = k.looks in
    record {
      worker = k.worker ∙ h.worker;
      own = k.own ∙ (ap (λ (es : List Action). es ++ ys) h.own ∙ append_assoc c.own xs ys);
      looks = omega (arith, a, b);
    }

same_looks : (c d : Claim) → d.looks ≡ c.looks → d.looks ≡ c.looks + 0
same_looks c d e = omega (arith, e)

-- ---- each call

found_at : (c d : Claim) (n : ℕ) → d ≡ looks_at c n → Adds [] 1 c d
found_at c d n e = record { worker = ap (λ (x : Claim). x.worker) e; own = ap (λ (x : Claim). x.own) e ∙ sym (append-nil c.own); looks = ap (λ (x : Claim). x.looks) e }

pub looked : (c d : Claim) (r : Option ℕ) → AskTells c r d → Adds [] 1 c d
looked c d None h = found_at c d 0 h.0
looked c d (Some w) h = found_at c d (w + 1) h.0

pub extended : (c d : Claim) (a : Action) → Extends c a d → Adds (a ∷ []) 0 c d
extended c d a h = record { worker = ap (λ (x : Claim). x.worker) h.now; own = ap (λ (x : Claim). x.own) h.now; looks = same_looks c d (ap (λ (x : Claim). x.looks) h.now) }

pub returned : (c d : Claim) → Returns c d → Adds [] 0 c d
returned c d h = record { worker = ap (λ (x : Claim). x.worker) h.now; own = ap (λ (x : Claim). x.own) h.now ∙ sym (append-nil c.own); looks = same_looks c d (ap (λ (x : Claim). x.looks) h.now) }

pub was_busy : (c d : Claim) → d ≡ busier c → Adds [] 0 c d
was_busy c d e = record { worker = ap (λ (x : Claim). x.worker) e; own = ap (λ (x : Claim). x.own) e ∙ sym (append-nil c.own); looks = same_looks c d (ap (λ (x : Claim). x.looks) e) }

pub stays : (c : Claim) → Adds [] 0 c c
stays c = record { worker = refl; own = sym (append-nil c.own); looks = same_looks c c refl }

-- ---- what is work

one_work : (a : Action) → IsWork a → All IsWork (a ∷ [])
one_work a h = All-cons IsWork a [] h (All-nil IsWork)

shares_work : (w level : ℕ) (short : List Lemma) (sent sent' : ℕ) (es : List Action) → SharesNext w level short sent es sent' → All IsWork es
shares_work w level short sent sent' es (inl h) = subst (All IsWork) (sym h.0) (All-nil IsWork)
shares_work w level short sent sent' es (inr h) = subst (All IsWork) (sym (h.2 none).1) (one_work _ tt)
  where
    none : Lemma
    none = record { literals = []; level = 0 }

takes_work : (w : ℕ) (es : List Action) → TakesOne w es → All IsWork es
takes_work w es (inl h) = subst (All IsWork) (sym h) (All-nil IsWork)
takes_work w es (inr h) = subst (All IsWork) (sym h) (one_work (TakeBatch w) tt)

-- ---- a turn

module _ {S : Type 0} {G : Ghosts S} where
  pub only_looked : (level : ℕ) (p q : Pass S G) (sent : ℕ) (b : Spending) → IsSamePass p q → Adds [] 1 (claim_of p) (claim_of q) → Turned level p sent b q sent
  only_looked level p q sent b same h = record { same = same; shared = []; taken = []; adds = h; shares = inl (refl, refl); takes = inl refl }

  pub turned : (level : ℕ) (p q r t : Pass S G) (sent sent' : ℕ) (b : Spending) → IsSamePass p q → Adds [] 1 (claim_of p) (claim_of q)
      → IsSamePass q r → ((es : List Action) × Adds es 0 (claim_of q) (claim_of r) × SharesNext (claim_of q).worker level b.short sent es sent')
      → IsSamePass r t → ((es : List Action) × TakesOne (claim_of r).worker es × Adds es 0 (claim_of r) (claim_of t)) → Turned level p sent b t sent'
  turned level p q r t sent sent' b pq look qr share rt take =
      let all : Adds (share.0 ++ take.0) (1 + (0 + 0)) (claim_of p) (claim_of t) =
      added_both [] (share.0 ++ take.0) 1 (0 + 0) (claim_of p) (claim_of q) (claim_of t) look (added_both share.0 take.0 0 0 (claim_of q) (claim_of r) (claim_of t) share.1 take.2) in
      record {
        same = (rt.0 ∙ (qr.0 ∙ pq.0), rt.1 ∙ (qr.1 ∙ pq.1), rt.2 ∙ (qr.2 ∙ pq.2));
        shared = share.0;
        taken = take.0;
        adds = all;
        shares = subst (λ (w : ℕ). SharesNext w level b.short sent share.0 sent') look.worker share.2;
        takes = subst (λ (w : ℕ). TakesOne w take.0) (share.1.worker ∙ look.worker) take.1;
      }

  -- ---- turns

  -- the pass stays that of its worker, who shares and takes alone
  pub record Goes (p q : Pass S G) : Type 0 where
    pub same : IsSamePass p q
    pub worker : (claim_of q).worker ≡ (claim_of p).worker
    pub works : All IsWork (claim_of p).own → All IsWork (claim_of q).own

  pub goes_on : (p q r : Pass S G) → Goes p q → Goes q r → Goes p r
  goes_on p q r h k = record { same = (k.same.0 ∙ h.same.0, k.same.1 ∙ h.same.1, k.same.2 ∙ h.same.2); worker = k.worker ∙ h.worker; works = λ w. k.works (h.works w) }

  pub one_goes : (level : ℕ) (p q : Pass S G) (sent sent' : ℕ) (b : Spending) → Turned level p sent b q sent' → Goes p q
  one_goes level p q sent sent' b h = record {
    same = h.same;
    worker = h.adds.worker;
    works = λ w. subst (All IsWork) (sym h.adds.own)
        (All-append IsWork (claim_of p).own (h.shared ++ h.taken) w
        (All-append IsWork h.shared h.taken (shares_work (claim_of p).worker level b.short sent sent' h.shared h.shares) (takes_work (claim_of p).worker h.taken h.takes)));
  }

  pub all_go : {X : Type 0} (R : X → Spending → X → Type 0) (pass : X → Pass S G) → ((x y : X) (b : Spending) → R x b y → Goes (pass x) (pass y))
      → (x y : X) (calls : List Spending) → Leads R x calls y → Goes (pass x) (pass y)
  all_go R pass each x y [] h = subst (λ z. Goes (pass x) (pass z)) (sym h) (record { same = (refl, refl, refl); worker = refl; works = λ w. w })
  all_go R pass each x y (b ∷ bs) h = goes_on (pass x) (pass h.0) (pass y) (each x h.0 b h.1) (all_go R pass each h.0 y bs h.2)

module _ {S D : Type 0} {G : Ghosts S} where
  -- one call of the racer's search
  abbrev pub Called : Racer S D G → Spending → Racer S D G → Type 0
  Called v b w = (w.stack ≡ v.stack) × Turned (depth v.stack.now.frames) v.pass v.sent b w.pass w.sent

  pub racer_goes : (x y : Racer S D G) (calls : List Spending) → Leads Called x calls y → Goes x.pass y.pass
  racer_goes x y calls h = all_go Called (λ (v : Racer S D G). v.pass) (λ v w b t. one_goes (depth v.stack.now.frames) v.pass w.pass v.sent w.sent b t.1) x y calls h

  pub racer_turns : (level : ℕ) (x y : Racer S D G) (calls : List Spending) → depth x.stack.now.frames ≡ level → Leads Called x calls y
      → TakesTurns level x.pass x.sent calls y.pass y.sent
  racer_turns level x y [] e h = (ap (λ (v : Racer S D G). v.pass) h, ap (λ (v : Racer S D G). v.sent) h)
  racer_turns level x y (b ∷ bs) e h =
      let z : Racer S D G = h.0 in
      (z.pass, z.sent, subst (λ (n : ℕ). Turned n x.pass x.sent b z.pass z.sent) e h.1.1, racer_turns level z y bs (ap (λ (s : Bor Stack). depth s.now.frames) h.1.0 ∙ e) h.2)

-- what calls led to may be said in other words
pub heard_so : (share : ℕ) (Led Said : List Spending → Type 0) → ((calls : List Spending) → Led calls → Said calls) → IsHeard share Led → IsHeard share Said
heard_so share Led Said so h = record {
  begun = h.begun;
  ended = h.ended;
  units = h.units;
  short = h.short;
  share_is = h.share_is;
  heard = record { calls = h.heard.calls; led = so h.heard.calls h.heard.led; between = h.heard.between; within = h.heard.within; shares = h.heard.shares };
}

-- ---- the end

-- who wins with a right answer has that outcome
pub won : (s : Stack) (limit : ℤ) (c d : Claim) (a : Answer) → d ≡ wins c → IsRight s a → IsOutcome s limit d (Answered a)
won s limit c d (Sat i) e right = (subst HasWon (sym e) (Contains-push c.own (Win c.worker)), right)
won s limit c d Unsat e right = (subst HasWon (sym e) (Contains-push c.own (Win c.worker)), right)
