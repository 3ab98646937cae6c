-- What a check sees of a stack.
use Rattle.std.proofs.Common.{◌≡◌, refl, ap, sym, subst, Bool, ℕ, List, [], ◌∷◌, map}
use Rattle.smt_meaning.specs.declared.values.Sort.{Sort}
use Rattle.smt_meaning.specs.Declaration.{Declaration}
use Rattle.smt_meaning.specs.Term.{Tree}
use Rattle.smt_meaning.specs.Stack.{Frame}
use Rattle.smt_meaning.specs.StackCommand.{Stack}
use Rattle.smt_sorts.specs.Names.{Names}
use Rattle.term_store.specs.Terms.{Terms}
use Rattle.scope_stack.specs.declared.answers.Assertion.{Assertion}
use Rattle.scope_stack.specs.Inside.{frames_by, stack_by, IsStack}
use Rattle.scope_stack.specs.Facts.{IsKept}
use Rattle.scope_stack.specs.Seen.{AreAssertions, IsSeen, names_of, IsPartOf}
use Rattle.scope_stack.specs.Shown.{ReachedStacksAreLawful}

pub assertions_of_kept : {global : Bool} (t : Names) (store : Terms) (xss : List (List Assertion)) → IsStack global t store xss → AreAssertions t store xss
assertions_of_kept t store xss h = record { limit = h.limit; as_many = h.as_many; some = h.some; few = h.few; within = h.within }

pub seen_of_kept : ReachedStacksAreLawful → {global : Bool} (t : Names) (store : Terms) (xss : List (List Assertion)) (rs : List Sort) (ls : List ℕ) → IsKept global t store xss rs ls → IsSeen global t store xss rs ls
seen_of_kept law {global = global} t store xss rs ls h =
    record {
      stack = assertions_of_kept t store xss h.stack;
      lawful = law (stack_by global t store.trees xss) h.stack.reached;
      facts = h.facts;
      levels = h.levels;
    }

declared_frames : (ts : List Tree) (dss : List (List Declaration)) (xss : List (List Assertion)) → map (λ (f : Frame). f.declared) (frames_by ts dss xss) ≡ dss
declared_frames ts [] xss = refl
declared_frames ts (ds ∷ dss) [] = ap (λ r. ds ∷ r) (declared_frames ts dss [])
declared_frames ts (ds ∷ dss) (xs ∷ xss) = ap (λ r. ds ∷ r) (declared_frames ts dss xss)

-- the names of a stack are those that it is made by
pub names_back : (global : Bool) (t : Names) (ts : List Tree) (xss : List (List Assertion)) → names_of (stack_by global t ts xss) ≡ t
names_back global t ts xss = ap (λ dss. record { levels = dss; given = t.given }) (declared_frames ts t.levels xss)

-- where declarations are global or not
module _ {global : Bool} where
  pub kept_again_by : (t : Names) (ts : List Tree) (yss : List (List Assertion)) (s : Stack) (store : Terms) (xss : List (List Assertion)) (rs : List Sort) (ls : List ℕ)
      → stack_by global t ts yss ≡ s → IsPartOf s store xss rs ls → IsKept global t store xss rs ls
  kept_again_by t ts yss s store xss rs ls e h = subst (λ n. IsKept global n store xss rs ls) (names_back global t ts yss) (subst (λ (u : Stack). IsKept u.global (names_of u) store xss rs ls) (sym e) h.kept)

  pub names_again : (t : Names) (ts : List Tree) (yss : List (List Assertion)) (s : Stack) → stack_by global t ts yss ≡ s → names_of s ≡ t
  names_again t ts yss s e = subst (λ u. names_of u ≡ t) e (names_back global t ts yss)
