use Rattle.std.proofs.Common.{◌≡◌, ℕ, Bool, true, false, List, ap, ◌-◌, ◌<◌, length, get_or, map, arith, sym, subst, ◌∙◌}
use Rattle.std.proofs.lemmas.List.{get_or_default, length-map}
use Rattle.model_build.specs.Given.{given_at}
use Rattle.model_build.specs.Keys.{HasKey, hash_at}
use Rattle.model_build.proofs.Kept.{passed_start, passed_on, passed_all}
use Rattle.model_build.proofs.firsts.find.Goals as goal

another : (P : ℕ → Type 0) (ps : List ℕ) (k x : ℕ) (b : Bool) → k < length ps → x ≡ get_or ps k x → (P x → b ≡ true) → b ≡ false → P (get_or ps k 0) → ⊥
another P ps k x b h e found not_found p = let t : b ≡ true = found (subst P (get_or_default ps k 0 x h ∙ sym e) p) in cc

pub loop-link-init : goal.loop-link-init
loop-link-init c =
    passed_start c.args.store.now.trees c.args.given.now c.args.firsts.now.places.items c.args.firsts.now.keys c.args.symbol (map (given_at c.args.given.now) c.args.arguments.now) c.args.hash
    c.requires.hashed c.requires.hash c.last-link.result c.last-link.ensures

pub loop-link-smaller : goal.loop-link-smaller
loop-link-smaller c =
    (passed_on c.args.store.now.trees c.args.given.now c.args.firsts.now.places.items c.args.firsts.now.keys c.args.symbol (map (given_at c.args.given.now) c.args.arguments.now) c.args.hash
    c.requires.hashed c.requires.hash c.loop-link.link c.before-link.result c.loop-link.invariant c.loop-link-test.true
    (another (HasKey c.args.store.now.trees c.args.given.now c.args.symbol (map (given_at c.args.given.now) c.args.arguments.now)) c.args.firsts.now.places.items (c.loop-link.link - 1)
    c.index-place.result.now c.has_key.result (let w = c.loop-link.invariant.is_link.within in omega (arith, ap length c.requires.hashed, length-map c.args.firsts.now.places.items (hash_at c.args.store.now.trees c.args.given.now)))
    c.index-place.ensures c.has_key.ensures.1 c.if-has_key.false) c.before-link.ensures).1

pub loop-link-preserved : goal.loop-link-preserved
loop-link-preserved c =
    (passed_on c.args.store.now.trees c.args.given.now c.args.firsts.now.places.items c.args.firsts.now.keys c.args.symbol (map (given_at c.args.given.now) c.args.arguments.now) c.args.hash
    c.requires.hashed c.requires.hash c.loop-link.link c.before-link.result c.loop-link.invariant c.loop-link-test.true
    (another (HasKey c.args.store.now.trees c.args.given.now c.args.symbol (map (given_at c.args.given.now) c.args.arguments.now)) c.args.firsts.now.places.items (c.loop-link.link - 1)
    c.index-place.result.now c.has_key.result (let w = c.loop-link.invariant.is_link.within in omega (arith, ap length c.requires.hashed, length-map c.args.firsts.now.places.items (hash_at c.args.store.now.trees c.args.given.now)))
    c.index-place.ensures c.has_key.ensures.1 c.if-has_key.false) c.before-link.ensures).0

pub returns-clause-none : goal.returns-clause-none
returns-clause-none c =
    passed_all c.args.store.now.trees c.args.given.now c.args.firsts.now.places.items c.args.firsts.now.keys c.args.symbol (map (given_at c.args.given.now) c.args.arguments.now) c.args.hash
    c.requires.hashed c.requires.hash c.loop-link.link c.loop-link.invariant c.loop-link-test.false
