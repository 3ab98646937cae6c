-- What adding clauses keeps, and what a turn that adds them leaves.
use Rattle.std.specs.Prelude.{nat_le, MatchBool, Result, Ok, Err, OnOk, OnErr, ⊤}
use Rattle.std.proofs.Common.{◌≡◌, ℕ, ◌+◌, ◌<◌, ◌≤◌, Bool, true, false, List, [], ◌∷◌, ◌++◌, length, ap, sym, subst, ◌∙◌, refl, inl, inr, arith}
use Rattle.std.proofs.lemmas.List.{length-append}
use Rattle.literals.specs.Signed.{Signed, opposite}
use Rattle.smt_meaning.specs.Forced.{Forces}
use Rattle.clause_store.specs.Stored.{Kept, Stored}
use Rattle.conflict_learn.specs.Learning.{HaveOwnAtoms}
use Rattle.search_port.specs.State.{Reading, TheoryState}
use Rattle.search_port.specs.Valid.{IsOver}
use Rattle.search_port.specs.Spending.{Spending}
use Rattle.search_port.specs.Pivots.{EndsOtherwise}
use Rattle.search_port.specs.declared.budget.Lemma.{Lemma}
use Rattle.search_port.specs.declared.budget.Spent.{Spent as SpentUnit}
use Rattle.search_port.specs.declared.budget.Spent.TheVariants.{Learnt as SpentLearnt}
use Rattle.search_port.specs.declared.budget.Cause.{Cause}
use Rattle.search_port.specs.declared.budget.Cause.TheVariants.{Units, Memory, Cancelled}
use Rattle.cdcl_core.specs.declared.put.Halt.{Halt}
use Rattle.cdcl_core.specs.declared.put.Halt.TheVariants.{False as HaltFalse, Ended as HaltEnded}
use Rattle.cdcl_core.specs.declared.turn.Turn.{Turn}
use Rattle.cdcl_core.specs.declared.turn.Turn.TheVariants.{GoOn, Spent as SpentTurn, Full, False, Ended}
use Rattle.cdcl_core.specs.declared.hook.Between.TheVariants.{Stop}
use Rattle.cdcl_core.specs.declared.solve.Outcome.{Outcome}
use Rattle.cdcl_core.specs.declared.solve.Outcome.TheVariants.{Full as OutcomeFull, False as OutcomeFalse, Ended as OutcomeEnded}
use Rattle.cdcl_core.specs.Search.{AreAmong, GainsClause, HasClause, HasSame, HasSameLiterals, IsAddable, IsNewTo, Stands, literal_lists}
use Rattle.cdcl_core.specs.Turns.{Adds, ChainsPivots, EndsEarly, EndsPut, EndsSearch, GivenBy, GainsBy, GainsOne, HaltedBy, HaltsBy, HasLeapt, IsAccounted, IsDistinct, IsPartly, PaidLeaves, PausedBy, PivotsAdded, PivotsAtEnd, PivotsBy, PivotsHeard, PutsDown, PutsOne, TurnBy, TurnLeaves, Turns, most_units}
use Rattle.cdcl_core.specs.Work.{units_left}
use Rattle.cdcl_core.proofs.Gains.{among-both}
use Rattle.cdcl_core.proofs.Moves.{Called, by-after, inserted, known-atoms, leaps, paid-by, partly, put-turn, turns-both}
use Rattle.cdcl_core.proofs.Pivots.{chains-both, chains-same, ends-learnt, pivots-after, units-learnt}

-- ---- nothing is spent, or one clause is put down

pub partly-same : (b : Spending) → IsPartly b b
partly-same b = record { limit = refl; counts = refl; keeps = refl; share = refl; units = refl; short = refl }

pub partly-both : (b c d : Spending) → IsPartly b c → IsPartly c d → IsPartly b d
partly-both b c d h k = record {
  limit = k.limit ∙ h.limit;
  counts = k.counts ∙ h.counts;
  keeps = k.keeps ∙ h.keeps;
  share = k.share ∙ h.share;
  units = k.units ∙ h.units;
  short = k.short ∙ h.short;
}

pub puts-both : (b c d : Spending) → PutsOne b c → PutsOne c d → PutsOne b d
puts-both b c d (inl p) (inl q) = inl (partly-both b c d p q)
puts-both b c d (inl p) (inr q) = inr record {
  pivot = subst (λ (us : List SpentUnit). EndsOtherwise us → ⊥) p.units q.pivot;
  other = q.other;
  one = q.one ∙ ap (λ (us : List SpentUnit). length us + 1) p.units;
  gains = subst (λ (cs : List Lemma). GainsOne cs d.short) p.short q.gains;
}
puts-both b c d (inr p) (inl q) = inr record {
  pivot = p.pivot;
  other = subst EndsOtherwise (sym q.units) p.other;
  one = ap (λ (us : List SpentUnit). length us) q.units ∙ p.one;
  gains = subst (λ (cs : List Lemma). GainsOne b.short cs) (sym q.short) p.gains;
}
puts-both b c d (inr p) (inr q) = absurd (q.pivot p.other)

pub puts-most : (b c : Spending) → PutsOne b c → length c.units ≤ length b.units + 1
puts-most b c (inl p) = let e : length c.units ≡ length b.units = ap (λ (us : List SpentUnit). length us) p.units in omega arith
puts-most b c (inr p) = let e : length c.units ≡ length b.units + 1 = p.one in omega arith

pub puts-gains : (b c : Spending) → PutsOne b c → GainsOne b.short c.short
puts-gains b c (inl p) = inl p.short
puts-gains b c (inr p) = p.gains

pub puts-none : (b c : Spending) → EndsOtherwise b.units → PutsOne b c → IsPartly b c
puts-none b c ends (inl p) = p
puts-none b c ends (inr p) = absurd (p.pivot ends)

-- ---- clauses are added

pub adds-none : (s : Stored) (t : TheoryState) (b : Spending) → length b.units ≤ b.limit → Stands s t → Adds s s t t b b
adds-none s t b within h = record { turns = known-atoms s s t b within h refl; reading = refl; puts = inl (partly-same b) }

pub adds-both : (old mid new : Stored) (t u v : TheoryState) (b c d : Spending) → Adds old mid t u b c → Adds mid new u v c d → Adds old new t v b d
adds-both old mid new t u v b c d h k = record {
  turns = turns-both AreAmong among-both old mid new t u v b c d h.turns k.turns;
  reading = k.reading ∙ h.reading;
  puts = puts-both b c d h.puts k.puts;
}

pub adds-known : (old new : Stored) (t : TheoryState) (b : Spending) → length b.units ≤ b.limit → Stands new t → new.clauses ≡ old.clauses → Adds old new t t b b
adds-known old new t b within h same = record { turns = known-atoms old new t b within h same; reading = refl; puts = inl (partly-same b) }

pub adds-inserted : (old new : Stored) (t u : TheoryState) (b : Spending) → length b.units ≤ b.limit → Stands new u → u.reading ≡ t.reading → AreAmong old.clauses new.clauses → Adds old new t u b b
adds-inserted old new t u b within h e among = record { turns = inserted old new t u b within h e among; reading = e; puts = inl (partly-same b) }

pub gains-short : (v : Bool) (b c : Spending) (clause : Lemma) → MatchBool v (c.short ≡ b.short ++ clause ∷ []) (c.short ≡ b.short) → GainsOne b.short c.short
gains-short true b c clause e = inr (clause, e)
gains-short false b c clause e = inl e

pub adds-put : (old new : Stored) (t u : TheoryState) (b c : Spending) (clause : Lemma) → length b.units ≤ b.limit → Stands new u → u.reading ≡ t.reading → GainsClause old.clauses new.clauses clause → IsAddable t.reading clause → HaveOwnAtoms clause.literals
    → (Forces opposite (literal_lists old.clauses) clause.literals → ⊥) → b.counts_learnt ≡ true → (EndsOtherwise b.units → ⊥) → IsAccounted b c clause → Adds old new t u b c
adds-put old new t u b c clause within h e gains addable own unforced counts pivot a =
    let units : c.units ≡ b.units ++ SpentLearnt clause ∷ [] = units-learnt b c clause counts a in
    record {
      turns = put-turn old new t u b c clause within h e gains addable own unforced a;
      reading = e;
      puts = inr record {
        pivot = pivot;
        other = subst EndsOtherwise (sym units) (ends-learnt b.units clause);
        one = ap (λ (us : List SpentUnit). length us) units ∙ length-append b.units (SpentLearnt clause ∷ []);
        gains = gains-short (nat_le (length clause.literals) b.share) b c clause a.short;
      };
    }

pub adds-ended : (old new : Stored) (t u : TheoryState) (b c : Spending) (cause : Cause) → length b.units ≤ b.limit → Stands old t → Stands new u → u.reading ≡ t.reading → EndsPut old new t u b c cause → Adds old new t u b c
adds-ended old new t u b c Units within h k e x =
    subst (λ (s : Stored). Adds old s t u b c) (sym x.0) (subst (λ (w : TheoryState). Adds old old t w b c) (sym x.1) (subst (λ (d : Spending). Adds old old t t b d) (sym x.2) (adds-none old t b within h)))
adds-ended old new t u b c Memory within h k e x = record {
  turns = turns-both AreAmong among-both old new new t u u b b c (inserted old new t u b within k e x.0) (partly new u b c k within x.1);
  reading = e;
  puts = inl x.1;
}
adds-ended old new t u b c (Cancelled w) within h k e x = absurd x

pub put-pivots : (old new : Stored) (t u : TheoryState) (b c : Spending) (cause : Cause) → EndsPut old new t u b c cause → PivotsAdded t u b c (Err (HaltEnded cause))
put-pivots old new t u b c Units x = chains-same t u b c x.1 (ap (λ (d : Spending). d.units) x.2)
put-pivots old new t u b c Memory x = tt
put-pivots old new t u b c (Cancelled w) x = absurd x

pub put-halts : (old new : Stored) (t u : TheoryState) (b c : Spending) (cause : Cause) → EndsPut old new t u b c cause → HaltsBy u.reading c (HaltEnded cause)
put-halts old new t u b c Units x = x.3
put-halts old new t u b c Memory x = tt
put-halts old new t u b c (Cancelled w) x = absurd x

pub added-after : (t u v : TheoryState) (b c d : Spending) (r : Result ⊤ Halt) → c.counts_learnt ≡ b.counts_learnt → c.keeps_lines ≡ b.keeps_lines → ChainsPivots t u b c → PivotsAdded u v c d r → PivotsAdded t v b d r
added-after t u v b c d (Ok x) same lines h k = chains-both t u v b c d same lines h k
added-after t u v b c d (Err (HaltFalse level)) same lines h k = tt
added-after t u v b c d (Err (HaltEnded Units)) same lines h k = chains-both t u v b c d same lines h k
added-after t u v b c d (Err (HaltEnded Memory)) same lines h k = tt
added-after t u v b c d (Err (HaltEnded (Cancelled w))) same lines h k = tt

-- ---- as sets of literals

pub over-same : (n : ℕ) (ls ms : List Signed) → HasSameLiterals ms ls → IsOver n ls → IsOver n ms
over-same n ls ms e o = record { within = λ l c. o.within l (e.there l c); no_pair = λ l a b. o.no_pair l (e.there l a) (e.there (opposite l) b) }

pub new-same : (clauses : List Kept) (ls ms : List Signed) → HasSameLiterals ms ls → IsNewTo clauses ls → IsNewTo clauses ms
new-same clauses ls ms e n k c s = n k c record { there = λ l a. e.there l (s.there l a); back = λ l a. s.back l (e.back l a) }

pub has-distinct : (clauses : List Kept) (c d : Lemma) → IsDistinct c d → HasClause clauses d.literals → HasSame clauses c.literals
has-distinct clauses c d h has = record { kept = has.kept; among = has.among; literals = subst (λ (xs : List Signed). HasSameLiterals xs c.literals) (sym has.literals) h.literals }

pub leaps-same : (old new : Stored) (t : TheoryState) (b c : Spending) (ls : List Signed) → Stands old t → units_left c ≤ units_left b → AreAmong old.clauses new.clauses → HasSame new.clauses ls → IsNewTo old.clauses ls → IsOver (length t.reading.table) ls
    → HasLeapt old new t b c
leaps-same old new t b c ls h fewer among has is_new over =
    leaps old new t b c has.kept.literals h fewer among (record { kept = has.kept; among = has.among; literals = refl }) (new-same old.clauses ls has.kept.literals has.literals is_new) (over-same (length t.reading.table) ls has.kept.literals has.literals over)

-- ---- what a turn leaves

pub gains-same : (r : Turn) (cs ds : List Lemma) → ds ≡ cs → GainsBy r cs ds
gains-same GoOn cs ds e = e
gains-same SpentTurn cs ds e = inl e
gains-same (Full tables) cs ds e = inl e
gains-same (False level) cs ds e = inl e
gains-same (Ended cause) cs ds e = inl e

pub added-leaves : (old new : Stored) (t u : TheoryState) (b c : Spending) → Adds old new t u b c → ChainsPivots t u b c → HasLeapt old new t b c → TurnLeaves AreAmong old new t u b c SpentTurn
added-leaves old new t u b c h pivots leap = record { turns = h.turns; by = leap; pivots = pivots; most = puts-most b c h.puts; gains = puts-gains b c h.puts }

pub halted-leaves : (old new : Stored) (t u : TheoryState) (b c : Spending) (halt : Halt) (r : Turn) → Adds old new t u b c → PivotsAdded t u b c (Err halt) → HaltsBy u.reading c halt → HaltedBy halt r → TurnLeaves AreAmong old new t u b c r
halted-leaves old new t u b c (HaltFalse level) r h pivots by e =
    subst (TurnLeaves AreAmong old new t u b c) (sym e) record { turns = h.turns; by = by; pivots = tt; most = puts-most b c h.puts; gains = puts-gains b c h.puts }
halted-leaves old new t u b c (HaltEnded Units) r h pivots by e =
    subst (TurnLeaves AreAmong old new t u b c) (sym e) record { turns = h.turns; by = by; pivots = pivots; most = puts-most b c h.puts; gains = puts-gains b c h.puts }
halted-leaves old new t u b c (HaltEnded Memory) r h pivots by e =
    subst (TurnLeaves AreAmong old new t u b c) (sym e) record { turns = h.turns; by = by; pivots = tt; most = puts-most b c h.puts; gains = puts-gains b c h.puts }
halted-leaves old new t u b c (HaltEnded (Cancelled w)) r h pivots by e =
    subst (TurnLeaves AreAmong old new t u b c) (sym e) record { turns = h.turns; by = by; pivots = tt; most = puts-most b c h.puts; gains = puts-gains b c h.puts }

pub paid-leaves : (old new : Stored) (t u : TheoryState) (b c : Spending) → EndsOtherwise b.units → Adds old new t u b c → ChainsPivots t u b c → PaidLeaves old new t u b c SpentTurn
paid-leaves old new t u b c ends h pivots = record { turns = h.turns; by = tt; pivots = pivots; same = puts-none b c ends h.puts; most = refl }

pub paid-halted : (old new : Stored) (t u : TheoryState) (b c : Spending) (halt : Halt) (r : Turn) → EndsOtherwise b.units → Adds old new t u b c → PivotsAdded t u b c (Err halt) → HaltsBy u.reading c halt → HaltedBy halt r → PaidLeaves old new t u b c r
paid-halted old new t u b c (HaltFalse level) r ends h pivots by e =
    subst (PaidLeaves old new t u b c) (sym e) record { turns = h.turns; by = by; pivots = tt; same = puts-none b c ends h.puts; most = refl }
paid-halted old new t u b c (HaltEnded Units) r ends h pivots by e =
    subst (PaidLeaves old new t u b c) (sym e) record { turns = h.turns; by = by; pivots = pivots; same = puts-none b c ends h.puts; most = refl }
paid-halted old new t u b c (HaltEnded Memory) r ends h pivots by e =
    subst (PaidLeaves old new t u b c) (sym e) record { turns = h.turns; by = by; pivots = tt; same = puts-none b c ends h.puts; most = refl }
paid-halted old new t u b c (HaltEnded (Cancelled w)) r ends h pivots by e =
    subst (PaidLeaves old new t u b c) (sym e) record { turns = h.turns; by = by; pivots = tt; same = puts-none b c ends h.puts; most = refl }

-- after a call of the theory that spent nothing
pub leaves-after : (s new : Stored) (t u v : TheoryState) (b c d : Spending) (r : Turn) → Called s t u b c → length c.units ≤ length b.units → TurnLeaves AreAmong s new u v c d r → TurnLeaves AreAmong s new t v b d r
leaves-after s new t u v b c d r k none h = record {
  turns = turns-both AreAmong among-both s s new t u v b c d k.turns h.turns;
  by = by-after AreAmong s s new t u v b c d r k.turns k.near h.by;
  pivots = pivots-after t u v b c d r k.turns.spends.counts k.turns.spends.keeps k.pivots h.pivots;
  most = (let most : length d.units ≤ length c.units + most_units r = h.most in omega arith);
  gains = subst (λ (cs : List Lemma). GainsBy r cs d.short) k.short h.gains;
}

-- and after one that spent a unit
pub paid-after : (s new : Stored) (t u v : TheoryState) (b c d : Spending) (r : Turn) → Called s t u b c → length b.units < length c.units → length c.units ≤ length b.units + 1 → PaidLeaves s new u v c d r → TurnLeaves AreAmong s new t v b d r
paid-after s new t u v b c d r k some one h =
    let turns : Turns AreAmong s new t v b d = turns-both AreAmong among-both s s new t u v b c d k.turns h.turns in
    let units : length d.units ≡ length c.units = ap (λ (us : List SpentUnit). length us) h.same.units in
    let most : most_units r ≡ 1 = h.most in
    record {
      turns = turns;
      by = paid-by s new t v b d r turns.limit turns.within (omega arith) h.by;
      pivots = pivots-after t u v b c d r k.turns.spends.counts k.turns.spends.keeps k.pivots h.pivots;
      most = omega arith;
      gains = gains-same r b.short d.short (h.same.short ∙ k.short);
    }

-- or where nothing more is done
pub called-leaves : (s : Stored) (t u : TheoryState) (b c : Spending) (r : Turn) → Called s t u b c → TurnBy s s t u b c r → PivotsBy t u b c r → length c.units ≤ length b.units + most_units r → TurnLeaves AreAmong s s t u b c r
called-leaves s t u b c r k by pivots most = record { turns = k.turns; by = by; pivots = pivots; most = most; gains = gains-same r b.short c.short k.short }

pub paused-pivots : (t u : TheoryState) (b c : Spending) (r : Turn) → PausedBy u.reading c r → ChainsPivots t u b c → PivotsBy t u b c r
paused-pivots t u b c GoOn p h = absurd p
paused-pivots t u b c SpentTurn p h = h
paused-pivots t u b c (Full tables) p h = absurd p
paused-pivots t u b c (False level) p h = absurd p
paused-pivots t u b c (Ended Units) p h = h
paused-pivots t u b c (Ended Memory) p h = tt
paused-pivots t u b c (Ended (Cancelled w)) p h = tt

pub early-pivots : (t u : TheoryState) (b c : Spending) (cause : Cause) → EndsEarly u.reading cause → PivotsBy t u b c (Ended cause)
early-pivots t u b c Units e = absurd e
early-pivots t u b c Memory e = tt
early-pivots t u b c (Cancelled w) e = absurd e

pub ended-pivots : (old new : Stored) (t u : TheoryState) (b c : Spending) (cause : Cause) → EndsPut old new t u b c cause → PivotsBy t u b c (Ended cause)
ended-pivots old new t u b c Units x = chains-same t u b c x.1 (ap (λ (d : Spending). d.units) x.2)
ended-pivots old new t u b c Memory x = tt
ended-pivots old new t u b c (Cancelled w) x = absurd x

-- ---- where the search goes on, or ends

pub puts-some : (b c : Spending) → length b.units < length c.units → PutsOne b c → PutsDown b c
puts-some b c lt (inl p) = let e : length c.units ≡ length b.units = ap (λ (us : List SpentUnit). length us) p.units in absurd (omega arith)
puts-some b c lt (inr p) = p

pub puts-nothing : (b c : Spending) → length c.units ≤ length b.units → PutsOne b c → IsPartly b c
puts-nothing b c le (inl p) = p
puts-nothing b c le (inr p) = let e : length c.units ≡ length b.units + 1 = p.one in absurd (omega arith)

pub end-after : (t u v : TheoryState) (b c d : Spending) (o : Outcome) → c.counts_learnt ≡ b.counts_learnt → c.keeps_lines ≡ b.keeps_lines → ChainsPivots t u b c → PivotsAtEnd u v c d o → PivotsAtEnd t v b d o
end-after t u v b c d (OutcomeFull tables) same lines h k = tt
end-after t u v b c d (OutcomeFalse level) same lines h k = tt
end-after t u v b c d (OutcomeEnded Units) same lines h k = chains-both t u v b c d same lines h k
end-after t u v b c d (OutcomeEnded Memory) same lines h k = tt
end-after t u v b c d (OutcomeEnded (Cancelled w)) same lines h k = tt

pub heard-after : (t u v : TheoryState) (b c d : Spending) (r : Result ⊤ Outcome) → c.counts_learnt ≡ b.counts_learnt → c.keeps_lines ≡ b.keeps_lines → ChainsPivots t u b c → PivotsHeard u v c d r → PivotsHeard t v b d r
heard-after t u v b c d (Ok x) same lines h k = chains-both t u v b c d same lines h k
heard-after t u v b c d (Err o) same lines h k = end-after t u v b c d o same lines h k

pub end-of-turn : (t u : TheoryState) (b c : Spending) (cause : Cause) → PivotsBy t u b c (Ended cause) → PivotsAtEnd t u b c (OutcomeEnded cause)
end-of-turn t u b c Units h = h
end-of-turn t u b c Memory h = tt
end-of-turn t u b c (Cancelled w) h = tt

pub end-of-adding : (t u : TheoryState) (b c : Spending) (cause : Cause) → PivotsAdded t u b c (Err (HaltEnded cause)) → PivotsAtEnd t u b c (OutcomeEnded cause)
end-of-adding t u b c Units h = h
end-of-adding t u b c Memory h = tt
end-of-adding t u b c (Cancelled w) h = tt

pub search-of-adding : (r : Reading) (b : Spending) (stopped : Cause → Type 0) (cause : Cause) → HaltsBy r b (HaltEnded cause) → EndsSearch r b stopped cause
search-of-adding r b stopped Units h = h
search-of-adding r b stopped Memory h = tt
search-of-adding r b stopped (Cancelled w) h = absurd h

pub stop-pivots : (r : Reading) (t u : TheoryState) (b c : Spending) (stopped : Cause → Type 0) (cause : Cause) → GivenBy r stopped (Stop cause) → PivotsAtEnd t u b c (OutcomeEnded cause)
stop-pivots r t u b c stopped Units h = absurd h
stop-pivots r t u b c stopped Memory h = tt
stop-pivots r t u b c stopped (Cancelled w) h = tt

pub stop-ends : (r q : Reading) (b : Spending) (stopped : Cause → Type 0) (cause : Cause) → GivenBy r stopped (Stop cause) → EndsSearch q b stopped cause
stop-ends r q b stopped Units h = absurd h
stop-ends r q b stopped Memory h = tt
stop-ends r q b stopped (Cancelled w) h = h

pub on-ok : {A E : Type 0} (P : Type 0) (r : Result A E) → P → OnOk r P
on-ok P (Ok x) p = p
on-ok P (Err x) p = tt

pub on-err : {A E : Type 0} (P : Type 0) (r : Result A E) → P → OnErr r P
on-err P (Ok x) p = tt
on-err P (Err x) p = p

pub ok-map : {A E : Type 0} (P Q : Type 0) (r : Result A E) → (P → Q) → OnOk r P → OnOk r Q
ok-map P Q (Ok x) f p = f p
ok-map P Q (Err x) f p = tt
