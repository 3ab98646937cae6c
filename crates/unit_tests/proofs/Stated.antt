-- What asserting a proposition owes, and its negation.
use Rattle.std.proofs.Common.{◌≡◌, ℕ, Bool, true, false, ◌<◌, List, [], ◌∷◌, ◌++◌, length, refl, sym, ap, subst, ◌∙◌, arith}
use Rattle.std.specs.Prelude.{map, IsTrue}
use Rattle.smt_meaning.specs.declared.tokens.Token.{Token}
use Rattle.smt_meaning.specs.Sorts.{◌>>=◌, ◌>>◌, return, refuse, require, required, the_scope, note, found}
use Rattle.smt_meaning.specs.Stack.{Frame, on_top, with_declared, signature_of}
use Rattle.smt_meaning.specs.Term.{Tree, tree_at}
use Rattle.race_model.specs.declared.event.Addition.{Addition}
use Rattle.race_model.specs.declared.event.Event.TheVariants.{Assert}
use Rattle.race_model.specs.declared.levels.Level.{Level}
use Rattle.race_model.specs.declared.levels.Levels.{Levels}
use Rattle.race_model.specs.Base.{Base, assertion_of, base_of, frame_of}
use Rattle.race_model.specs.Race.{State, after, IsBoolTerm, IsStated, formulas_of, is_new}
use Rattle.race_model.specs.Shelves.{ShelfState, racing}
use Rattle.lemma_pool.specs.Pools.{Grows, IsAsserted, cut_base, levels, members, on_base, with_more}
use Rattle.unit_tests.specs.Proposition.{asserting, declared, not_p_text, not_p_tree, p, p_text, p_tree, raised, stated}

p_is_stated : IsBoolTerm (p ∷ []) p_text p_tree []
unfolding ◌>>=◌ ◌>>◌ return refuse require required the_scope note found
p_is_stated = record { given = 1; after = record { signature = p ∷ []; given = 1; trees = p_tree ∷ [] }; judged = refl; names_are = refl }

not_p_is_stated : IsBoolTerm (p ∷ []) not_p_text not_p_tree []
unfolding ◌>>=◌ ◌>>◌ return refuse require required the_scope note found
not_p_is_stated = record { given = 1; after = record { signature = p ∷ []; given = 1; trees = p_tree ∷ not_p_tree ∷ [] }; judged = refl; names_are = refl }

-- without declarations the levels stay, whether these are global or not
declared_still : (g : Bool) → with_declared g [] declared.frames ≡ declared.frames
declared_still true = refl
declared_still false = refl

raised_still : (g : Bool) → with_declared g [] raised.frames ≡ raised.frames
raised_still true = refl
raised_still false = refl

-- an assertion is owed as soon as its text is a Bool term over the levels
owes : (s : State) (b : Base) (text : List Token) (i : ℕ) (a : Addition) → s.base ≡ b → a ≡ asserting text i → with_declared s.global [] b.frames ≡ b.frames
    → IsBoolTerm (signature_of b.frames) text (tree_at b.trees i) [] → IsStated s a a.formula
owes s b text i a same is still h =
    subst (λ (x : Addition). IsStated s x x.formula) (sym is)
    (subst (λ (x : Base). IsBoolTerm (signature_of (with_declared s.global [] x.frames)) text (tree_at x.trees i) []) (sym same)
    (subst (λ (fs : List Frame). IsBoolTerm (signature_of fs) text (tree_at b.trees i) []) (sym still) h))

pub owes_p : (s : State) (a : Addition) → s.base ≡ declared → a ≡ asserting p_text 0 → IsStated s a a.formula
owes_p s a same is = owes s declared p_text 0 a same is (declared_still s.global) p_is_stated

pub owes_not_p : (s : State) (a : Addition) → s.base ≡ raised → a ≡ asserting not_p_text 1 → IsStated s a a.formula
owes_not_p s a same is = owes s raised not_p_text 1 a same is (raised_still s.global) not_p_is_stated

-- what an assertion makes of the levels
asserted_as : (s : State) (b : Base) (a : Addition) (text : List Token) (i : ℕ) → s.base ≡ b → a ≡ asserting text i → with_declared s.global [] b.frames ≡ b.frames
    → (after s (Assert a)).base ≡ record b { frames = on_top [] (record { text = text; term = tree_at b.trees i } ∷ []) b.frames }
asserted_as s b a text i same is still =
    ap (λ (x : Addition). (after s (Assert x)).base) is
    ∙ ap (λ (x : Base). record x { frames = on_top [] (record { text = text; term = tree_at x.trees i } ∷ []) (with_declared s.global [] x.frames) }) same
    ∙ ap (λ (fs : List Frame). record b { frames = on_top [] (record { text = text; term = tree_at b.trees i } ∷ []) fs }) still

p_is_asserted : (s : State) (a : Addition) → s.base ≡ declared → a ≡ asserting p_text 0 → (after s (Assert a)).base ≡ stated
p_is_asserted s a same is = asserted_as s declared a p_text 0 same is (declared_still s.global)

-- levels with these terms and this one level are what p is declared in
pub base_is : (l : Levels) → l.terms ≡ declared.trees → l.levels.items ≡ record { declared = p ∷ []; asserted = [] } ∷ [] → base_of l ≡ declared
base_is l same_terms same_levels =
    ap (λ (ts : List Tree). record { trees = ts; frames = map (frame_of ts) l.levels.items }) same_terms
    ∙ ap (λ (ls : List Level). record { trees = declared.trees; frames = map (frame_of declared.trees) ls }) same_levels

-- ---- a pool that goes with its levels

-- levels with these trees and frames
whole : (l : Levels) (b : Base) → l.terms ≡ b.trees → (base_of l).frames ≡ b.frames → base_of l ≡ b
whole l b trees frames =
    ap (λ (ts : List Tree). record { trees = ts; frames = (base_of l).frames }) trees ∙ ap (λ (fs : List Frame). record { trees = b.trees; frames = fs }) frames

-- what an assertion makes of frames
abbrev with_addition : Bool → Addition → Base → List Frame
with_addition g a b = on_top a.named (map (assertion_of b.trees) (formulas_of a.formula)) (with_declared g a.declared b.frames)

pub stated_after : (l m : Levels) (a : Addition) → base_of l ≡ declared → a ≡ asserting p_text 0 → m.terms ≡ l.terms → (base_of m).frames ≡ on_top a.named (map (assertion_of l.terms) (formulas_of a.formula)) (with_declared false a.declared (base_of l).frames) → base_of m ≡ stated
stated_after l m a same is terms frames =
    whole m stated (terms ∙ ap (λ (b : Base). b.trees) same) (frames ∙ ap (with_addition false a) same ∙ ap (λ (x : Addition). with_addition false x declared) is)

-- no more trees
abbrev still : Base → Base
still b = record { trees = b.trees ++ []; frames = b.frames }

pub asserts_p : (s : ShelfState) (b : Base) → s.base ≡ declared → b ≡ stated → IsAsserted s (on_base b s)
asserts_p s b same is =
    let a : Addition = asserting p_text 0 in (
      a,
      record {
        more = [];
        allowed = (
          subst (λ (x : Base). (0 < length x.frames) × IsTrue (is_new (signature_of x.frames) a)) (sym same) (omega arith, refl),
          owes_p (racing 0 (with_more [] s)) a (ap still same) refl,
        );
        base = is ∙ sym (p_is_asserted (racing 0 (with_more [] s)) a (ap still same) refl);
        entries = refl;
        ended = refl;
        room = refl;
        global = refl;
      },
    )

pub grows : (b : Base) → b ≡ declared → Grows (cut_base 0 b) b
grows b same =
    subst (λ (x : Base). Grows (cut_base 0 x) x) (sym same) (record { steps = levels 1 ∷ members (p ∷ []) [] ∷ []; frames = refl; more = []; trees = refl })
