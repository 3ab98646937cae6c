-- Lists of passes, jobs and claims, in the order of their workers.
use Rattle.std.proofs.Common.{◌≡◌, ℕ, zero, suc, ◌+◌, ◌<◌, List, [], ◌∷◌, ◌++◌, map, length, get_or, take, drop, sym, refl, ap, ◌∙◌, subst, arith, All}
use Rattle.std.specs.Prelude.{reverse, ℤ, Some, IsSomeAnd}
use Rattle.std.specs.List.{range_with_len}
use Rattle.std.proofs.lemmas.List.{append_assoc, append-nil, map-append, reverse-append, length-append, take_all, drop_all}
use Rattle.std.proofs.Math.ListN.{get_or-append}
use Rattle.std.proofs.Math.Seq.{get_or-append_seam}
use Rattle.atomic_table.specs.Seated.{TableId}
use Rattle.smt_meaning.specs.StackCommand.{Stack}
use Rattle.race_model.specs.declared.shelf.Shelf.{Ghosts}
use Rattle.race_model.specs.Shelves.{ShelfState}
use Rattle.race_cell.specs.declared.race.Pass.{Pass}
use Rattle.race_cell.specs.declared.view.Claim.{Claim}
use Rattle.race_cell.specs.Rules.{fresh, fresh_from}
use Rattle.race_cell.specs.Laws.{AreInOrder}
use Rattle.race_cell.specs.Passes.{claim_of, IsOf}
use Rattle.worker.specs.declared.outcome.Outcome.{Outcome}
use Rattle.portfolio.specs.declared.job.Job.{Job}
use Rattle.portfolio.specs.Jobs.{IsFreshPass, HasEnded, IsDone, IsWorked, worker_of, job_worker}

abbrev pub claim_worker : Claim → ℕ
claim_worker c = c.worker

module _ {X : Type 0} (f : X → ℕ) where
  -- what stays at each place stays in the list
  pub same_map : (xs ys : List X) → length ys ≡ length xs → ((i : ℕ) (d : X) → i < length xs → f (get_or ys i d) ≡ f (get_or xs i d)) → map f ys ≡ map f xs
  same_map [] [] e h = refl
  same_map [] (y ∷ ys) e h = cc
  same_map (x ∷ xs) [] e h = cc
  same_map (x ∷ xs) (y ∷ ys) e h =
      ap (λ n. n ∷ map f ys) (h 0 x (omega arith)) ∙ ap (λ l. f x ∷ l) (same_map xs ys (omega (arith, e)) (λ i d lt. h (suc i) d (omega arith)))

-- a slice of a whole list goes back to its place
pub written_back : {X : Type 0} (xs ys : List X) (n : ℕ) → length ys ≡ length xs → length xs ≡ n → take n (ys ++ drop (length ys) xs) ≡ ys
written_back xs ys n e f = ap (λ l. take n (ys ++ l)) (drop_all (length ys) xs (omega (arith, e))) ∙ (ap (take n) (append-nil ys) ∙ take_all n ys (omega (arith, e, f)))

-- the last of one list comes to the front of the other, which is read backwards
pub moves : (ws us vs : List ℕ) (w : ℕ) → ws ≡ us ++ w ∷ [] → us ++ reverse (vs ++ w ∷ []) ≡ ws ++ reverse vs
moves ws us vs w e = ap (λ l. us ++ l) (reverse-append vs (w ∷ [])) ∙ sym (append_assoc us (w ∷ []) (reverse vs)) ∙ ap (λ l. l ++ reverse vs) (sym e)

pub moves_back : (ws us vs : List ℕ) (w : ℕ) → ws ≡ us ++ w ∷ [] → (vs ++ w ∷ []) ++ reverse us ≡ vs ++ reverse ws
moves_back ws us vs w e = append_assoc vs (w ∷ []) (reverse us) ∙ ap (λ l. vs ++ l) (sym (reverse-append us (w ∷ [])) ∙ ap reverse (sym e))

-- ---- the numbers of workers

fresh_workers : (w k : ℕ) → map claim_worker (fresh_from w k) ≡ range_with_len w k
fresh_workers w zero = refl
fresh_workers w (suc k) = let e : suc w ≡ w + 1 = omega arith in ap (λ l. w ∷ l) (fresh_workers (suc w) k ∙ ap (λ n. range_with_len n k) e)

first_in_order : (c : Claim) (cs : List Claim) (w : ℕ) → c.worker ≡ w → ((i : ℕ) (d : Claim) → i < length cs → (get_or cs i d).worker ≡ (w + 1) + i)
    → (i : ℕ) (d : Claim) → i < length (c ∷ cs) → (get_or (c ∷ cs) i d).worker ≡ w + i
first_in_order c cs w first rest zero d lt = let e : w ≡ w + zero = omega arith in first ∙ e
first_in_order c cs w first rest (suc i) d lt = let e : (w + 1) + i ≡ w + suc i = omega arith in rest i d (omega arith) ∙ e

in_order_from : (cs : List Claim) (w n : ℕ) → map claim_worker cs ≡ range_with_len w n → (length cs ≡ n) × ((i : ℕ) (d : Claim) → i < length cs → (get_or cs i d).worker ≡ w + i)
in_order_from [] w zero e = (refl, λ i d lt. absurd (omega arith))
in_order_from [] w (suc n) e = cc
in_order_from (c ∷ cs) w zero e = cc
in_order_from (c ∷ cs) w (suc n) e =
    let first : c.worker ≡ w = cc in
    let tail : map claim_worker cs ≡ range_with_len (w + 1) n = cc in
    let rest = in_order_from cs (w + 1) n tail in
    (ap suc rest.0, first_in_order c cs w first rest.1)

pub in_order : (cs : List Claim) (n : ℕ) → map claim_worker cs ≡ range_with_len 0 n → (length cs ≡ n) × AreInOrder cs
in_order cs n e = let h = in_order_from cs 0 n e in (h.0, λ i d lt. (let r = h.1 i d lt in omega (arith, r)))

module _ {S : Type 0} {G : Ghosts S} where
  pub workers_of_claims : (ps : List (Pass S G)) → map worker_of ps ≡ map claim_worker (map claim_of ps)
  workers_of_claims [] = refl
  workers_of_claims (p ∷ ps) = ap (λ l. worker_of p ∷ l) (workers_of_claims ps)

  pub fresh_in_order : (n : ℕ) (ps : List (Pass S G)) → map claim_of ps ≡ fresh_from 0 n → map worker_of ps ≡ range_with_len 0 n
  fresh_in_order n ps e = workers_of_claims ps ∙ ap (map claim_worker) e ∙ fresh_workers 0 n

  abbrev IsUnstarted : Pass S G → Type 0
  IsUnstarted p = (claim_of p).own ≡ []

  unstarted : (ps : List (Pass S G)) (w n : ℕ) → map claim_of ps ≡ fresh_from w n → All IsUnstarted ps
  unstarted [] w n e k d lt = absurd (omega arith)
  unstarted (p ∷ ps) w zero e k d lt = cc
  unstarted (p ∷ ps) w (suc n) e zero d lt = let first : claim_of p ≡ fresh w = cc in ap (λ (c : Claim). c.own) first
  unstarted (p ∷ ps) w (suc n) e (suc k) d lt = let rest : map claim_of ps ≡ fresh_from (suc w) n = cc in unstarted ps (suc w) n rest k d (omega arith)

  pub fresh_passes : (z : TableId) (s : Stack) (b : ShelfState) (n : ℕ) (ps : List (Pass S G))
      → map claim_of ps ≡ fresh_from 0 n → All (IsOf G.state z b) ps → b.base ≡ record { trees = s.trees; frames = s.frames } → All (IsFreshPass z s) ps
  fresh_passes z s b n ps e of base k d lt = record {
    race = (of k d lt).0;
    base = ap (λ (x : ShelfState). x.base) (of k d lt).1 ∙ base;
    unstarted = unstarted ps 0 n e k d lt;
  }

  pub pass_count : (ps : List (Pass S G)) (w n : ℕ) → map worker_of ps ≡ range_with_len w n → length ps ≡ n
  pass_count [] w zero e = refl
  pass_count [] w (suc n) e = cc
  pass_count (p ∷ ps) w zero e = cc
  pass_count (p ∷ ps) w (suc n) e = let rest : map worker_of ps ≡ range_with_len (w + 1) n = cc in ap suc (pass_count ps (w + 1) n rest)

  -- a pass becomes a job
  pub next_job : (ps qs : List (Pass S G)) (p : Pass S G) (js ks : List (Job S G)) (j : Job S G) (all : List ℕ) → ps ≡ qs ++ p ∷ [] → ks ≡ js ++ j ∷ [] → job_worker j ≡ worker_of p
      → map worker_of ps ++ reverse (map job_worker js) ≡ all → map worker_of qs ++ reverse (map job_worker ks) ≡ all
  next_job ps qs p js ks j all e f same h =
      let front : map worker_of ps ≡ map worker_of qs ++ worker_of p ∷ [] = ap (map worker_of) e ∙ map-append worker_of qs (p ∷ []) in
      let back : map job_worker ks ≡ map job_worker js ++ worker_of p ∷ [] = ap (map job_worker) f ∙ (map-append job_worker js (j ∷ []) ∙ ap (λ n. map job_worker js ++ n ∷ []) same) in
      ap (λ l. map worker_of qs ++ reverse l) back ∙ (moves (map worker_of ps) (map worker_of qs) (map job_worker js) (worker_of p) front ∙ h)

  -- and a job a pass again
  pub next_pass : (js ks : List (Job S G)) (j : Job S G) (ps qs : List (Pass S G)) (p : Pass S G) (all : List ℕ) → js ≡ ks ++ j ∷ [] → qs ≡ ps ++ p ∷ [] → job_worker j ≡ worker_of p
      → map worker_of ps ++ reverse (map job_worker js) ≡ all → map worker_of qs ++ reverse (map job_worker ks) ≡ all
  next_pass js ks j ps qs p all e f same h =
      let front : map worker_of qs ≡ map worker_of ps ++ worker_of p ∷ [] = ap (map worker_of) f ∙ map-append worker_of ps (p ∷ []) in
      let back : map job_worker js ≡ map job_worker ks ++ worker_of p ∷ [] = ap (map job_worker) e ∙ (map-append job_worker ks (j ∷ []) ∙ ap (λ n. map job_worker ks ++ n ∷ []) same) in
      ap (λ l. l ++ reverse (map job_worker ks)) front ∙ (moves_back (map job_worker js) (map job_worker ks) (map worker_of ps) (worker_of p) back ∙ h)

  pub has_ended : (z : TableId) (s : Stack) (limit : ℤ) (j : Job S G) (p : Pass S G) (o : Outcome) → j.pass ≡ Some p → j.outcome ≡ Some o → IsDone z s limit j → HasEnded z s limit p o
  has_ended z s limit j p o e f h =
      subst (λ x. IsSomeAnd x (HasEnded z s limit p)) f (subst (λ x. IsSomeAnd x (λ q. IsSomeAnd j.outcome (HasEnded z s limit q))) e h)

  -- all jobs are done, by the same workers
  pub all_done : (z : TableId) (s : Stack) (limit : ℤ) (xs ys : List (Job S G)) → length ys ≡ length xs → ((i : ℕ) (d : Job S G) → i < length xs → IsWorked z s limit (get_or xs i d) (get_or ys i d))
      → All (IsDone z s limit) ys × (map job_worker ys ≡ map job_worker xs)
  all_done z s limit xs ys e h = (λ i d lt. (h i d (omega (arith, e))).done, same_map job_worker xs ys e (λ i d lt. (h i d lt).worker))

module _ {X : Type 0} (P : X → Type 0) (xs ys : List X) (p : X) where
  pub all_last : ys ≡ xs ++ p ∷ [] → All P ys → P p
  all_last e h = let h' : All P (xs ++ p ∷ []) = subst (All P) e h in subst P (get_or-append_seam xs p [] p) (h' (length xs) p (omega (arith, length-append xs (p ∷ []))))

  pub all_front : ys ≡ xs ++ p ∷ [] → All P ys → All P xs
  all_front e h k d lt = let h' : All P (xs ++ p ∷ []) = subst (All P) e h in subst P (get_or-append xs (p ∷ []) d k lt) (h' k d (omega (arith, length-append xs (p ∷ []))))
