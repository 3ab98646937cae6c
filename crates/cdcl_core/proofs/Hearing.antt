-- Calls of a hook, one between any two units.
use Rattle.std.proofs.Common.{◌≡◌, ℕ, ◌+◌, ◌<◌, ◌≤◌, ◌⊎◌, min, MatchBool, Bool, true, false, List, [], ◌∷◌, ◌++◌, All, Contains, length, append_assoc, ap, subst, sym, ◌∙◌, refl, inl, inr, arith}
use Rattle.std.proofs.lemmas.List.{length-append}
use Rattle.std.proofs.lemmas.List.Elements.{All-nil, All-push, All-weaker, Contains-append_left, Contains-push}
use Rattle.search_port.specs.State.{TheoryState}
use Rattle.search_port.specs.Calls.{Goes}
use Rattle.search_port.specs.Spending.{Spending}
use Rattle.search_port.specs.declared.budget.Lemma.{Lemma}
use Rattle.search_port.specs.declared.budget.Spent.{Spent as SpentUnit}
use Rattle.search_port.specs.declared.budget.Spent.TheVariants.{Learnt as SpentLearnt}
use Rattle.cdcl_core.specs.Turns.{GainsByOne, GainsOne, HeardBetween, HearsAll, HearsSome, IsAccounted, IsPartly, PutsDown, PutsOne}
use Rattle.cdcl_core.proofs.Adding.{puts-gains, puts-most}

-- a call at this number of units
abbrev pub HasCall : List Spending → ℕ → Type 0
HasCall calls n = (c : Spending) × Contains calls c × (length c.units ≡ n)

-- the units of a budget are between those of two others
abbrev pub IsBetween : Spending → Spending → Spending → Type 0
IsBetween old new c = (length old.units ≤ length c.units) × (length c.units ≤ length new.units)

-- from one call to the next there is at most one clause more to be shared, and none after the last
abbrev pub ComesTo : List Lemma → List Spending → List Lemma → Type 0
ComesTo cs [] ds = ds ≡ cs
ComesTo cs (b ∷ bs) ds = GainsOne cs b.short × ComesTo b.short bs ds

comes-push : (cs : List Lemma) (bs : List Spending) (ds : List Lemma) (b : Spending) → ComesTo cs bs ds → GainsOne ds b.short → ComesTo cs (bs ++ b ∷ []) b.short
comes-push cs [] ds b h g = (subst (λ xs. GainsOne xs b.short) h g, refl)
comes-push cs (a ∷ bs) ds b h g = (h.0, comes-push a.short bs ds b h.1 g)

comes-on : (cs : List Lemma) (bs : List Spending) (ds es : List Lemma) → ComesTo cs bs ds → es ≡ ds → ComesTo cs bs es
comes-on cs bs ds es h e = subst (λ xs. ComesTo cs bs xs) (sym e) h

comes-end : (cs : List Lemma) (bs : List Spending) (ds es : List Lemma) → ComesTo cs bs ds → GainsOne ds es → GainsByOne cs bs es
comes-end cs [] ds es h g = subst (λ xs. GainsOne xs es) h g
comes-end cs (a ∷ bs) ds es h g = (h.0, comes-end a.short bs ds es h.1 g)

-- so far: one at each number of units above the first
pub record Heard (Led : List Spending → Type 0) (old now : Spending) : Type 0 where
  pub calls : List Spending
  pub led : Led calls
  pub each : (n : ℕ) → length old.units < n → n ≤ length now.units → HasCall calls n
  pub within : All (IsBetween old now) calls
  pub shares : ComesTo old.short calls now.short

pub heard-none : (Led : List Spending → Type 0) (a : Spending) → Led [] → Heard Led a a
heard-none Led a h = record { calls = []; led = h; each = λ n lt le. absurd (omega arith); within = All-nil (IsBetween a a); shares = refl }

within-more : (old now new : Spending) (calls : List Spending) → length now.units ≤ length new.units → All (IsBetween old now) calls → All (IsBetween old new) calls
within-more old now new calls le h = All-weaker (IsBetween old now) (IsBetween old new) (λ c w. more (length c.units) w.0 w.1) calls h
  where
    more : (n : ℕ) → length old.units ≤ n → n ≤ length now.units → (length old.units ≤ n) × (n ≤ length new.units)
    more n a b = (a, omega arith)

-- a call at the next number of units, or at the same one
pub heard-call : (Led Led2 : List Spending → Type 0) (old now new : Spending) → length old.units ≤ length now.units → length now.units ≤ length new.units → length new.units ≤ length now.units + 1 → GainsOne now.short new.short → Heard Led old now
    → ((calls : List Spending) → Led calls → Led2 (calls ++ new ∷ [])) → Heard Led2 old new
heard-call Led Led2 old now new above le next gains h more = record {
  calls = h.calls ++ new ∷ [];
  led = more h.calls h.led;
  each = each;
  within = All-push (IsBetween old new) h.calls new (within-more old now new h.calls le h.within) (omega arith, omega arith);
  shares = comes-push old.short h.calls now.short new h.shares gains;
}
  where
    earlier : (n : ℕ) → HasCall h.calls n → HasCall (h.calls ++ new ∷ []) n
    earlier n k = (k.0, Contains-append_left h.calls (new ∷ []) k.0 k.1, k.2)

    by_place : (n : ℕ) → length old.units < n → (n ≤ length now.units) ⊎ (length new.units ≡ n) → HasCall (h.calls ++ new ∷ []) n
    by_place n lt (inl e) = earlier n (h.each n lt e)
    by_place n lt (inr e) = (new, Contains-push h.calls new, e)

    place : (n : ℕ) → n ≤ length new.units → (n ≤ length now.units) ⊎ (length new.units ≡ n)
    place n e = grind arith

    each : (n : ℕ) → length old.units < n → n ≤ length new.units → HasCall (h.calls ++ new ∷ []) n
    each n lt e = by_place n lt (place n e)

-- none where nothing is spent or learnt
pub heard-on : (Led : List Spending → Type 0) (old now new : Spending) → length now.units ≤ length new.units → length new.units ≤ length now.units → new.short ≡ now.short → Heard Led old now → Heard Led old new
heard-on Led old now new le ge same h = record {
  calls = h.calls;
  led = h.led;
  each = each;
  within = within-more old now new h.calls le h.within;
  shares = comes-on old.short h.calls now.short new.short h.shares same;
}
  where
    each : (n : ℕ) → length old.units < n → n ≤ length new.units → HasCall h.calls n
    each n lt e = h.each n lt (omega arith)

-- at the end one unit more may be spent, and one clause more learnt
pub heard-end : (Led : List Spending → Type 0) (old now new : Spending) → length now.units ≤ length new.units → length new.units ≤ length now.units + 1 → GainsOne now.short new.short → Heard Led old now → HeardBetween Led old new
heard-end Led old now new le next gains h = record {
  calls = h.calls;
  led = h.led;
  between = between;
  within = within-more old now new h.calls le h.within;
  shares = comes-end old.short h.calls now.short new.short h.shares gains;
}
  where
    between : (n : ℕ) → length old.units < n → n < length new.units → HasCall h.calls n
    between n lt e = h.each n lt (omega arith)

-- ---- calls after a turn

heard-two : (Led Led2 : List Spending → Type 0) (old now b m : Spending) → length old.units ≤ length now.units → length now.units ≤ length b.units → length b.units ≤ length now.units + 1 → GainsOne now.short b.short → PutsDown b m → Heard Led old now
    → ((calls : List Spending) → Led calls → Led2 (calls ++ b ∷ m ∷ [])) → Heard Led2 old m
heard-two Led Led2 old now b m above le next gains puts h more =
    let one : length m.units ≡ length b.units + 1 = puts.one in
    heard-call (λ (calls : List Spending). Led2 (calls ++ m ∷ [])) Led2 old b m (omega arith) (omega arith) (omega arith) puts.gains
    (heard-call Led (λ (calls : List Spending). Led2 (calls ++ m ∷ [])) old now b above le next gains h (λ calls led. subst Led2 (sym (append_assoc calls (b ∷ []) (m ∷ []))) (more calls led)))
    (λ calls led. led)

partly-least : (b c : Spending) → IsPartly b c → length b.units ≤ length c.units
partly-least b c p = let e : length c.units ≡ length b.units = ap (λ (us : List SpentUnit). length us) p.units in omega arith

partly-most : (b c : Spending) → IsPartly b c → length c.units ≤ length b.units
partly-most b c p = let e : length c.units ≡ length b.units = ap (λ (us : List SpentUnit). length us) p.units in omega arith

puts-least : (b c : Spending) → PutsOne b c → length b.units ≤ length c.units
puts-least b c (inl p) = partly-least b c p
puts-least b c (inr p) = let e : length c.units ≡ length b.units + 1 = p.one in omega arith

pub heard-all : (Led New Led2 : List Spending → Type 0) (old now b c : Spending) → length old.units ≤ length now.units → length now.units ≤ length b.units → length b.units ≤ length now.units + 1 → GainsOne now.short b.short → Heard Led old now
    → ((ms ns : List Spending) → Led ms → New ns → Led2 (ms ++ ns)) → HearsAll New b c → Heard Led2 old c
heard-all Led New Led2 old now b c above le next gains h both (inl (led, p)) =
    heard-on Led2 old b c (partly-least b c p) (partly-most b c p) p.short (heard-call Led Led2 old now b above le next gains h (λ calls x. both calls (b ∷ []) x led))
heard-all Led New Led2 old now b c above le next gains h both (inr (m, led, puts, p)) =
    heard-on Led2 old m c (partly-least m c p) (partly-most m c p) p.short (heard-two Led Led2 old now b m above le next gains puts h (λ calls x. both calls (b ∷ m ∷ []) x led))

pub heard-some : (Led New Led2 : List Spending → Type 0) (old now b c : Spending) → length old.units ≤ length now.units → length now.units ≤ length b.units → length b.units ≤ length now.units + 1 → GainsOne now.short b.short → Heard Led old now
    → ((ms ns : List Spending) → Led ms → New ns → Led2 (ms ++ ns)) → HearsSome New b c → HeardBetween Led2 old c
heard-some Led New Led2 old now b c above le next gains h both (inl (led, p)) =
    heard-end Led2 old b c (puts-least b c p) (puts-most b c p) (puts-gains b c p) (heard-call Led Led2 old now b above le next gains h (λ calls x. both calls (b ∷ []) x led))
heard-some Led New Led2 old now b c above le next gains h both (inr (m, led, puts, p)) =
    heard-end Led2 old m c (partly-least m c p) (let k : length c.units ≤ length m.units = partly-most m c p in omega arith) (inl p.short) (heard-two Led Led2 old now b m above le next gains puts h (λ calls x. both calls (b ∷ m ∷ []) x led))

-- ---- units that are spent

-- a call that is lent one unit spends at most one
pub called-one : (t u : TheoryState) (b l c : Spending) → l ≡ record { units = b.units; limit = b.limit; bound = min b.limit (length b.units + 1); counts_learnt = b.counts_learnt; keeps_lines = b.keeps_lines; share = b.share; short = b.short }
    → Goes t u l c → length c.units ≤ length b.units + 1
called-one t u b l c e g =
    let bound : l.bound ≡ min b.limit (length b.units + 1) = ap (λ (x : Spending). x.bound) e in
    let before : length l.units ≡ length b.units = ap (λ (x : Spending). length x.units) e in
    let units : length c.units ≡ length l.units + length g.added = ap (λ (x : Spending). length x.units) g.budget ∙ length-append l.units g.added in
    let in_bound : length l.units + length g.added ≤ l.bound = g.in_bound in
    omega arith

learnt-one : (v : Bool) (us vs : List SpentUnit) (clause : Lemma) → MatchBool v (vs ≡ us ++ SpentLearnt clause ∷ []) (vs ≡ us) → length vs ≤ length us + 1
learnt-one true us vs clause e = let k : length vs ≡ length us + 1 = ap length e ∙ length-append us (SpentLearnt clause ∷ []) in omega arith
learnt-one false us vs clause e = let k : length vs ≡ length us = ap length e in omega arith

pub accounted-one : (b c : Spending) (clause : Lemma) → IsAccounted b c clause → length c.units ≤ length b.units + 1
accounted-one b c clause a = learnt-one b.counts_learnt b.units c.units clause a.units
