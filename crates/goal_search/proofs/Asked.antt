-- What is asked of a goal is judged to be assumed.
use Rattle.std.proofs.Common.{◌≡◌, ◌∙◌, refl, ap, sym, subst, ℕ, ◌+◌, ◌-◌, ◌^◌, ◌<◌, ◌≤◌, ℤ, pos, negsuc, ◌≤ℤ◌, Bool, true, false, List, [], ◌∷◌, ◌++◌, length, nat_lt, append_assoc, append-nil, arith}
use Rattle.std.specs.Prelude.{codes, if◌then◌else◌}
use Rattle.std.specs.Fmt.{decimal}
use Rattle.std.proofs.lemmas.Bool.{lt-ltb, le-leb}
use Rattle.std.proofs.lemmas.Int.{ints}
use Rattle.std.proofs.lemmas.List.{length-append}
use Rattle.smt_meaning.specs.declared.refusals.Refusal.TheVariants.{NumeralTooLarge, NotBool, TooManyTerms, TooManyLevels}
use Rattle.smt_meaning.specs.declared.terms.Head.TheVariants.{Numeral as Number, Theory}
use Rattle.smt_meaning.specs.declared.terms.Operator.{Operator}
use Rattle.smt_meaning.specs.declared.terms.Operator.TheVariants.{Equal, AtMost, Less, Subtract}
use Rattle.smt_meaning.specs.declared.tokens.Token.{Token}
use Rattle.smt_meaning.specs.declared.tokens.Token.TheVariants.{Numeral, Symbol}
use Rattle.smt_meaning.specs.declared.values.Sort.TheVariants.{Bool as Truths, Int as Ints}
use Rattle.smt_meaning.specs.Least.{terms_asked}
use Rattle.smt_meaning.specs.Signature.{all_of}
use Rattle.smt_meaning.specs.Goal.{least_number, number_text, number_tree, pair_text, pair_tree}
use Rattle.smt_meaning.specs.Sexp.{Sexp, word, group, end, ◌▸◌, tokens, sexp, is_proper}
use Rattle.smt_meaning.specs.Sorts.{Scope, Outcome, done, go_on, ◌>>=◌, ◌>>◌, return, refuse, require, required, the_scope, note, found, with_all, Typed, Known, operator, known, can_be_applied, judge, sorts_of, judge_all, judge_application, judge_numeral}
use Rattle.smt_meaning.specs.Stack.{depth}
use Rattle.smt_meaning.specs.StackCommand.{Stack, assumes, assertions_from, assume_terms, in_question, judge_terms, judged, most_levels, most_terms, require_room, scope_of}
use Rattle.smt_meaning.specs.Term.{Tree, node, none, more, tree_at}
use Rattle.smt_meaning.specs.TreeShape.{is_among, with_tree, with_parts}
use Rattle.smt_laws.specs.Again.{NotedOnce}
use Rattle.smt_laws.specs.TermLaws.{TokensReadBack, SExprsReadBack, JudgedAgain}
use Rattle.goal_search.specs.declared.text.Ask.{Ask}
use Rattle.goal_search.specs.declared.text.Ask.TheVariants.{Itself, AtMost as IsAtMost, BelowLeast}
use Rattle.goal_search.specs.Asks.{AsksAreAssumed, IsInRange, asked, asked_texts}
use Rattle.goal_search.specs.Goals.{IsGoal}
use Rattle.goal_search.proofs.Texts.{digits_read, number_sexp, number_tokens, number_proper, pair_sexp, pair_reads}

-- ---- lists that grow by a tree

record Grown (count : ℕ) (ts us : List Tree) : Type 0 where
  joined : List Tree
  is : us ≡ ts ++ joined
  few : length joined ≤ count

still_grown : (m n : ℕ) (ts us vs : List Tree) → Grown m ts us → Grown n us vs → Grown (m + n) ts vs
still_grown m n ts us vs g h = record {
  joined = g.joined ++ h.joined;
  is = h.is ∙ ap (λ xs. xs ++ h.joined) g.is ∙ append_assoc ts g.joined h.joined;
  few = omega (arith, length-append g.joined h.joined, g.few, h.few);
}

grown_tree : (ts : List Tree) (t : Tree) → Grown 1 ts (with_tree ts t)
grown_tree ts t = go (is_among t ts)
  where
    go : (b : Bool) → Grown 1 ts (if b then ts else ts ++ t ∷ [])
    go true = record { joined = []; is = sym (append-nil ts); few = omega arith }
    go false = record { joined = t ∷ []; is = refl; few = omega arith }

-- ---- applications to two terms, and numbers

module _ (n : List ℕ) (o : Operator) (x y : Sexp) (a b c : Typed) (s t u v : Scope) (first : judge in_question [] x s ≡ done a t) (second : judge in_question [] y t ≡ done b u) where
  both_judged : judge_all in_question [] (x ▸ y ▸ end) s ≡ done (a ∷ b ∷ []) u
  unfolding ◌>>=◌ return
  both_judged =
      ap (λ (z : Outcome Typed). go_on z (λ (d : Typed). λ w. go_on (judge_all in_question [] (y ▸ end) w) (λ ts. λ w'. done (d ∷ ts) w'))) first
      ∙ ap (λ (z : Outcome Typed). go_on (go_on z (λ (d : Typed). λ w. done (d ∷ []) w)) (λ ts. λ w'. done (a ∷ ts) w')) second

  pair_judged : known [] n s ≡ operator o → judge_application in_question n (operator o) (a ∷ b ∷ []) u ≡ done c v → judge in_question [] (pair_sexp n x y) s ≡ done c v
  unfolding ◌>>=◌ ◌>>◌ return the_scope
  pair_judged k e =
      ap (λ (z : Known). go_on (can_be_applied n z s) (λ w'. λ w. go_on (judge_all in_question [] (x ▸ y ▸ end) w) (judge_application in_question n z))) k
      ∙ ap (λ (z : Outcome (List Typed)). go_on z (judge_application in_question n (operator o))) both_judged
      ∙ e

abbrev integer : Tree → Typed
integer t = record { tree = t; sort = Ints }

abbrev truth : Tree → Typed
truth t = record { tree = t; sort = Truths }

-- with this tree and its parts
abbrev joined_by : Tree → Scope → Scope
joined_by t s = record s { trees = with_parts s.trees t }

abbrev IsSmall : ℤ → Type 0
IsSmall (pos n) = n < 2 ^ 127
IsSmall (negsuc n) = n + 1 < 2 ^ 127

small : (k : ℤ) → least_number ≤ℤ k → k ≤ℤ pos (2 ^ 127 - 1) → IsSmall k
small (pos n) a b = omega (arith, ints)
small (negsuc n) a b = omega (arith, ints)

digits_judged : (n : ℕ) → n < 2 ^ 127 → (s : Scope) → judge in_question [] (word (Numeral (decimal n))) s ≡ done (integer (node (Number (pos n)) none)) (joined_by (node (Number (pos n)) none) s)
unfolding ◌>>◌ return refuse require note found
digits_judged n h s =
    ap (λ m. judge_numeral m s) (digits_read n h)
    ∙ ap (λ b. go_on (require b NumeralTooLarge s) (λ w'. λ w. go_on (note (node (Number (pos n)) none ∷ []) w) (λ w''. found (node (Number (pos n)) none) Ints))) (lt-ltb n (2 ^ 127) h)

module _ (x : Sexp) (a : Typed) (s t : Scope) (first : judge in_question [] x s ≡ done a t) where
  one_judged : judge_all in_question [] (x ▸ end) s ≡ done (a ∷ []) t
  unfolding ◌>>=◌ return
  one_judged = ap (λ (z : Outcome Typed). go_on z (λ (d : Typed). λ w. done (d ∷ []) w)) first

module _ (noted : NotedOnce) where
  again : (ts : List Tree) (t : Tree) → with_parts (with_parts ts t) t ≡ with_parts ts t
  again ts t = ap (λ us. with_parts us t) (sym (append-nil (with_parts ts t))) ∙ noted ts [] (t ∷ []) ∙ append-nil (with_parts ts t)

  negated_judged : (x : Sexp) (t : Tree) (s : Scope) → judge in_question [] x s ≡ done (integer t) (joined_by t s)
      → judge in_question [] (group (word (Symbol (codes "-")) ▸ x ▸ end)) s ≡ done (integer (node (Theory Subtract) (more t none))) (joined_by (node (Theory Subtract) (more t none)) s)
  unfolding ◌>>=◌ ◌>>◌ return refuse require required the_scope note found
  negated_judged x t s e =
      ap (λ (z : Outcome (List Typed)). go_on z (judge_application in_question (codes "-") (operator Subtract))) (one_judged x (integer t) s (joined_by t s) e)
      ∙ ap (λ us. done (integer (node (Theory Subtract) (more t none))) (record s { trees = with_tree us (node (Theory Subtract) (more t none)) })) (again s.trees t)

  pub number_judged : (k : ℤ) → IsSmall k → (s : Scope) → judge in_question [] (number_sexp k) s ≡ done (integer (number_tree k)) (joined_by (number_tree k) s)
  number_judged (pos n) h s = digits_judged n h s
  number_judged (negsuc n) h s = negated_judged (word (Numeral (decimal (n + 1)))) (node (Number (pos (n + 1))) none) s (digits_judged (n + 1) h s)

number_grown : (ts : List Tree) (k : ℤ) → Grown 2 ts (with_parts ts (number_tree k))
number_grown ts (pos n) = let g = grown_tree ts (node (Number (pos n)) none) in record { joined = g.joined; is = g.is; few = omega (arith, g.few) }
number_grown ts (negsuc n) =
    still_grown 1 1 ts (with_tree ts (node (Number (pos (n + 1))) none)) (with_parts ts (number_tree (negsuc n))) (grown_tree ts (node (Number (pos (n + 1))) none))
    (grown_tree (with_tree ts (node (Number (pos (n + 1))) none)) (number_tree (negsuc n)))

-- ---- what is asked of a term whose parts are in the list

module _ (noted : NotedOnce) (judged_again : JudgedAgain) (s : Scope) (t : Tree) (x : Sexp) (first : judge in_question [] x s ≡ done (integer t) s) (complete : with_parts s.trees t ≡ s.trees) where
  abbrev itself : Tree
  itself = pair_tree Equal t t

  abbrev first_trees : List Tree
  first_trees = with_parts s.trees itself

  equal_judged : judge in_question [] (pair_sexp (codes "=") x x) s ≡ done (truth itself) (joined_by itself s)
  unfolding ◌>>=◌ ◌>>◌ return refuse require required note found
  equal_judged = pair_judged (codes "=") Equal x x (integer t) (integer t) (truth itself) s s s (joined_by itself s) first first refl refl

  itself_fits : first_trees ≡ with_tree s.trees itself
  itself_fits = ap (λ us. with_tree (with_parts us t) itself) complete ∙ ap (λ us. with_tree us itself) complete

  itself_grown : Grown 1 s.trees first_trees
  itself_grown = subst (Grown 1 s.trees) (sym itself_fits) (grown_tree s.trees itself)

  -- however the list goes on
  later_complete : (ts : List Tree) (n : ℕ) → Grown n s.trees ts → with_parts ts t ≡ ts
  later_complete ts n g =
      let more' : with_parts (s.trees ++ g.joined) t ≡ s.trees ++ g.joined =
      ap (λ us. with_parts (us ++ g.joined) t) (sym complete) ∙ noted s.trees g.joined (t ∷ []) ∙ ap (λ us. us ++ g.joined) complete in
      subst (λ us. with_parts us t ≡ us) (sym g.is) more'

  later_judged : (ts : List Tree) (n : ℕ) → Grown n s.trees ts → judge in_question [] x (record s { trees = ts }) ≡ done (integer t) (record s { trees = ts })
  later_judged ts n g =
      subst (λ us. judge in_question [] x (record s { trees = us }) ≡ done (integer t) (record s { trees = us })) (sym g.is)
      ((judged_again [] x s s (integer t) first).again g.joined)

  module _ (k : ℤ) (o : Operator) where
    abbrev compared : Tree
    compared = pair_tree o t (number_tree k)

    abbrev second_trees : List Tree
    second_trees = with_parts first_trees (number_tree k)

    second_grown : Grown 3 s.trees second_trees
    second_grown = still_grown 1 2 s.trees first_trees second_trees itself_grown (number_grown first_trees k)

    compared_after : with_parts second_trees compared ≡ with_tree second_trees compared
    compared_after =
        ap (λ us. with_tree (with_parts us (number_tree k)) compared) (later_complete second_trees 3 second_grown)
        ∙ ap (λ us. with_tree us compared) (again noted first_trees (number_tree k))

    compared_fits : with_parts first_trees compared ≡ with_tree second_trees compared
    compared_fits = ap (λ us. with_tree (with_parts us (number_tree k)) compared) (later_complete first_trees 1 itself_grown)

    compared_grown : Grown 4 s.trees (with_parts first_trees compared)
    compared_grown =
        subst (Grown 4 s.trees) (sym compared_fits) (still_grown 3 1 s.trees second_trees (with_tree second_trees compared) second_grown (grown_tree second_trees compared))

    module _ (n : List ℕ) (small_k : IsSmall k) (is : known [] n (joined_by itself s) ≡ operator o)
        (comes : (u : Scope) → judge_application in_question n (operator o) (integer t ∷ integer (number_tree k) ∷ []) u ≡ done (truth compared) (joined_by compared u)) where
      compared_judged : judge in_question [] (pair_sexp n x (number_sexp k)) (joined_by itself s) ≡ done (truth compared) (record s { trees = with_parts first_trees compared })
      compared_judged =
          pair_judged n o x (number_sexp k) (integer t) (integer (number_tree k)) (truth compared) (joined_by itself s) (joined_by itself s) (record s { trees = second_trees })
          (record s { trees = with_parts second_trees compared }) (later_judged first_trees 1 itself_grown) (number_judged noted k small_k (joined_by itself s)) is
          (comes (record s { trees = second_trees }))
          ∙ ap (λ us. done (truth compared) (record s { trees = us })) (compared_after ∙ sym compared_fits)

-- ---- assumptions

one_term : (text : List Token) (a : Typed) (s t : Scope) → judge in_question [] (sexp text) s ≡ done a t → judge_terms (text ∷ []) s ≡ done (a ∷ []) t
unfolding ◌>>=◌ return
one_term text a s t e = ap (λ (z : Outcome Typed). go_on z (λ (d : Typed). λ w. done (d ∷ []) w)) e

two_terms : (text other : List Token) (a b : Typed) (s t u : Scope) → judge in_question [] (sexp text) s ≡ done a t → judge in_question [] (sexp other) t ≡ done b u
    → judge_terms (text ∷ other ∷ []) s ≡ done (a ∷ b ∷ []) u
unfolding ◌>>=◌ return
two_terms text other a b s t u e f =
    ap (λ (z : Outcome Typed). go_on z (λ (d : Typed). λ w. go_on (judge_terms (other ∷ []) w) (λ ts. λ w'. done (d ∷ ts) w'))) e
    ∙ ap (λ (z : Outcome (List Typed)). go_on z (λ ts. λ w'. done (a ∷ ts) w')) (one_term other b t u f)

terms_assumed : (level : ℕ) (texts : List (List Token)) (us : List Typed) (s t : Scope) → judge_terms texts s ≡ done us t → all_of Truths (sorts_of us) ≡ true → length t.trees ≤ most_terms → level < most_levels
    → assume_terms level texts s ≡ done (assumes (assertions_from texts us)) t
unfolding ◌>>=◌ ◌>>◌ return refuse require the_scope
terms_assumed level texts us s t e all room high =
    ap (λ (z : Outcome (List Typed)). go_on z (λ ts. require (all_of Truths (sorts_of ts)) NotBool >> (require_room >> (require (nat_lt level most_levels) TooManyLevels >> return (assumes (assertions_from texts ts)))))) e
    ∙ ap (λ b. go_on (require b NotBool t) (λ w. require_room >> (require (nat_lt level most_levels) TooManyLevels >> return (assumes (assertions_from texts us))))) all
    ∙ ap (λ b. go_on (require b TooManyTerms t) (λ w. require (nat_lt level most_levels) TooManyLevels >> return (assumes (assertions_from texts us)))) (le-leb (length t.trees) most_terms room)
    ∙ ap (λ b. go_on (require b TooManyLevels t) (λ w. return (assumes (assertions_from texts us)))) (lt-ltb level most_levels high)

-- ---- the law

module _ (back : TokensReadBack) (read : SExprsReadBack) (judged_again : JudgedAgain) (noted : NotedOnce) (s : Stack) (text : List Token) (place : ℕ) (goal : IsGoal s text place) where
  abbrev tree : Tree
  tree = tree_at s.trees place

  complete : with_parts s.trees tree ≡ s.trees
  complete = goal.complete place goal.within

  written_again : tokens (sexp text) ≡ text
  written_again = (read text goal.written).1

  proper : is_proper (sexp text) ≡ true
  proper = (read text goal.written).2

  itself_reads : sexp (pair_text (codes "=") text text) ≡ pair_sexp (codes "=") (sexp text) (sexp text)
  itself_reads =
      subst (λ u. sexp (pair_text (codes "=") u u) ≡ pair_sexp (codes "=") (sexp text) (sexp text)) written_again (pair_reads back (codes "=") (sexp text) (sexp text) proper proper)

  compared_reads : (o : List ℕ) (k : ℤ) → sexp (pair_text o text (number_text k)) ≡ pair_sexp o (sexp text) (number_sexp k)
  compared_reads o k =
      subst (λ u. sexp (pair_text o u (number_text k)) ≡ pair_sexp o (sexp text) (number_sexp k)) written_again
      (subst (λ u. sexp (pair_text o (tokens (sexp text)) u) ≡ pair_sexp o (sexp text) (number_sexp k)) (number_tokens k)
      (pair_reads back o (sexp text) (number_sexp k) proper (number_proper k)))

  itself_judged : judge in_question [] (sexp (pair_text (codes "=") text text)) (scope_of s) ≡ done (truth (pair_tree Equal tree tree)) (joined_by (pair_tree Equal tree tree) (scope_of s))
  itself_judged =
      ap (λ y. judge in_question [] y (scope_of s)) itself_reads
      ∙ equal_judged noted judged_again (scope_of s) tree (sexp text) goal.is_judged complete

  few : (ts : List Tree) (n : ℕ) → n ≤ 4 → Grown n s.trees ts → length ts ≤ most_terms
  few ts n le g = omega (arith, ap length g.is ∙ length-append s.trees g.joined, g.few, goal.room)

  two_asked : (o : List ℕ) (op : Operator) (k : ℤ) → IsSmall k → known [] o (joined_by (pair_tree Equal tree tree) (scope_of s)) ≡ operator op
      → ((u : Scope) → judge_application in_question o (operator op) (integer tree ∷ integer (number_tree k) ∷ []) u ≡ done (truth (pair_tree op tree (number_tree k))) (joined_by (pair_tree op tree (number_tree k)) u))
      → assume_terms (depth s.frames) (pair_text (codes "=") text text ∷ pair_text o text (number_text k) ∷ []) (scope_of s)
      ≡ done (assumes (record { text = pair_text (codes "=") text text; term = pair_tree Equal tree tree } ∷ record { text = pair_text o text (number_text k); term = pair_tree op tree (number_tree k) } ∷ []))
      (record (scope_of s) { trees = with_parts (with_parts s.trees (pair_tree Equal tree tree)) (pair_tree op tree (number_tree k)) })
  two_asked o op k small_k is comes =
      terms_assumed (depth s.frames) (pair_text (codes "=") text text ∷ pair_text o text (number_text k) ∷ []) (truth (pair_tree Equal tree tree) ∷ truth (pair_tree op tree (number_tree k)) ∷ []) (scope_of s)
      (record (scope_of s) { trees = with_parts (with_parts s.trees (pair_tree Equal tree tree)) (pair_tree op tree (number_tree k)) })
      (two_terms (pair_text (codes "=") text text) (pair_text o text (number_text k)) (truth (pair_tree Equal tree tree)) (truth (pair_tree op tree (number_tree k))) (scope_of s)
      (joined_by (pair_tree Equal tree tree) (scope_of s)) (record (scope_of s) { trees = with_parts (with_parts s.trees (pair_tree Equal tree tree)) (pair_tree op tree (number_tree k)) }) itself_judged
      (ap (λ y. judge in_question [] y (joined_by (pair_tree Equal tree tree) (scope_of s))) (compared_reads o k)
      ∙ compared_judged noted judged_again (scope_of s) tree (sexp text) goal.is_judged complete k op o small_k is comes))
      refl
      (few (with_parts (with_parts s.trees (pair_tree Equal tree tree)) (pair_tree op tree (number_tree k))) 4 (omega arith)
      (compared_grown noted judged_again (scope_of s) tree (sexp text) goal.is_judged complete k op)) goal.level

  asked_is : (ask : Ask) → IsInRange ask
      → assume_terms (depth s.frames) (asked_texts text ask) (scope_of s)
      ≡ done (assumes (asked text tree ask)) (record (scope_of s) { trees = with_all s.trees (terms_asked (asked text tree ask)) })
  unfolding ◌>>=◌ ◌>>◌ return refuse require required note found
  asked_is Itself h =
      terms_assumed (depth s.frames) (pair_text (codes "=") text text ∷ []) (truth (pair_tree Equal tree tree) ∷ []) (scope_of s) (joined_by (pair_tree Equal tree tree) (scope_of s))
      (one_term (pair_text (codes "=") text text) (truth (pair_tree Equal tree tree)) (scope_of s) (joined_by (pair_tree Equal tree tree) (scope_of s)) itself_judged) refl
      (few (with_parts s.trees (pair_tree Equal tree tree)) 1 (omega arith) (itself_grown noted judged_again (scope_of s) tree (sexp text) goal.is_judged complete)) goal.level
  asked_is (IsAtMost k) h = two_asked (codes "<=") AtMost k (small k h.0 h.1) refl (λ u. refl)
  asked_is BelowLeast h = two_asked (codes "<") Less least_number (omega arith) refl (λ u. refl)

pub asks_are_assumed : TokensReadBack → SExprsReadBack → JudgedAgain → NotedOnce → AsksAreAssumed
unfolding judged
asks_are_assumed back read judged_again noted s text place ask goal range = asked_is back read judged_again noted s text place goal ask range
