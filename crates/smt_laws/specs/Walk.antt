-- Judging a term in one pass over its tokens, with a stack of frames in place of recursion.
use Rattle.std.specs.Prelude.{◌≡◌, ℕ, zero, suc, Bool, true, false, List, [], ◌∷◌, ◌++◌, bytes_eq, codes}
use Rattle.smt_meaning.specs.declared.tokens.Token.{Token}
use Rattle.smt_meaning.specs.declared.tokens.Token.TheVariants.{Enter, Leave, Symbol, Reserved, Keyword}
use Rattle.smt_meaning.specs.declared.tokens.Word.TheVariants.{Exclamation, Let}
use Rattle.smt_meaning.specs.declared.refusals.Refusal.TheVariants.{WrongArguments, UnknownSymbol}
use Rattle.smt_meaning.specs.Sexp.{Sexp, Sexps, word, group, end, ◌▸◌, open_lists_of}
use Rattle.smt_meaning.specs.Sorts.{Judging, ◌>>=◌, ◌>>◌, return, refuse, require, the_scope, Typed, Variable, Rules, Known, known, can_be_applied, judge_application, judge_token, head_number, judge_head, judge_divisible, bound_names, check_bindings, are_attributes, has_free, name_by, name_term, judge_attributes, variable_names, judge, judge_all}

-- ---- where the reading of a term stands

pub data Frame : Type 0 where
  -- nothing is read yet, under these variables
  whole : (outer : List Variable) → Frame
  -- all is read
  answer : (term : Typed) → Frame
  -- after `(`
  opened : Frame
  -- after the head and some arguments
  application : (name : List ℕ) (head : Known) (arguments : List Typed) → Frame
  -- in a head that divides by this number, in so many lists of it
  dividing : (number : ℕ) (depth : ℕ) → Frame
  -- after such a head and some arguments
  division : (number : ℕ) (arguments : List Typed) → Frame
  -- after `(let`
  let_open : Frame
  -- among the bindings, after some
  bindings : (bound : List Variable) → Frame
  -- after the `(` of a binding
  binding_open : (bound : List Variable) → Frame
  -- after the name of a binding
  binding : (bound : List Variable) (name : List ℕ) → Frame
  -- after the term of a binding
  bound_to : (bound : List Variable) (name : List ℕ) (term : Typed) → Frame
  -- after the bindings
  body : (bound : List Variable) → Frame
  -- after the body
  result : (term : Typed) → Frame
  -- after `(!`, and whether the term has a variable bound outside
  annotation : (open_term : Bool) → Frame
  -- among the attributes, in so many lists of a value
  attributes : (term : Typed) (open_term : Bool) (depth : ℕ) → Frame
  -- after `:named`
  naming : (term : Typed) (open_term : Bool) → Frame

-- the variables under which a term stands
abbrev pub variables : List Frame → List Variable
variables [] = []
variables (whole vs ∷ fs) = vs
variables (body xs ∷ fs) = xs ++ variables fs
variables (_ ∷ fs) = variables fs

-- the frame after the term for which it waits
abbrev pub given : Frame → Typed → Frame
given (whole vs) a = answer a
given (application n k ts) a = application n k (ts ++ a ∷ [])
given (division n ts) a = division n (ts ++ a ∷ [])
given (binding xs n) a = bound_to xs n a
given (body xs) a = result a
given (annotation o) a = attributes a o 0
given f a = f

abbrev pub give : Typed → List Frame → List Frame
give a [] = answer a ∷ []
give a (f ∷ fs) = given f a ∷ fs

-- ---- what is still to be done, from what is left of the open lists, the innermost first

-- the terms of bindings, each token judged at its place
abbrev pub ended : List ℕ → Typed → Sexps → Judging Variable
ended n a end = return (record { name = n; term = a })
ended n a (s ▸ ss) = refuse WrongArguments

abbrev pub named_so : Rules → List Variable → List ℕ → Sexps → Judging Variable
named_so r vs n end = refuse WrongArguments
named_so r vs n (t ▸ rest) = judge r vs t >>= (λ a. ended n a rest)

abbrev pub one_binding : Rules → List Variable → Sexps → Judging Variable
one_binding r vs (word (Symbol n) ▸ rest) = named_so r vs n rest
one_binding r vs _ = refuse WrongArguments

abbrev pub taken : Rules → List Variable → Sexps → Judging (List Variable)
taken r vs end = return []
taken r vs (word t ▸ rest) = refuse WrongArguments
taken r vs (group p ▸ rest) = one_binding r vs p >>= (λ x. taken r vs rest >>= (λ xs. return (x ∷ xs)))

-- a list that is to end here
abbrev pub closed : Typed → List Sexps → Judging Typed
closed a (end ∷ lists) = return a
closed a _ = refuse WrongArguments

abbrev pub in_body : Rules → List Variable → List Sexps → Judging Typed
in_body r vs ((b ▸ rest) ∷ lists) = judge r vs b >>= (λ a. closed a (rest ∷ lists))
in_body r vs _ = refuse WrongArguments

abbrev pub with_taken : Rules → List Variable → List Variable → Sexps → List Sexps → Judging Typed
with_taken r vs xs bs lists = taken r vs bs >>= (λ ys. in_body r ((xs ++ ys) ++ vs) lists)

abbrev pub with_binding : Rules → List Variable → List Variable → Judging Variable → List Sexps → Judging Typed
with_binding r vs xs m (bs ∷ lists) = m >>= (λ x. with_taken r vs (xs ++ x ∷ []) bs lists)
with_binding r vs xs m [] = m >>= (λ x. refuse WrongArguments)

abbrev pub attributes_of : Rules → Typed → Bool → ℕ → List Sexps → Judging Typed
attributes_of r a o zero (rest ∷ lists) = judge_attributes r o a rest >> return a
attributes_of r a o (suc d) (rest ∷ lists) = attributes_of r a o d lists
attributes_of r a o d [] = refuse WrongArguments

abbrev pub after_head : Rules → List Variable → ℕ → ℕ → List Sexps → Judging Typed
after_head r vs n zero (hs ∷ (ss ∷ lists)) = judge_all r vs ss >>= judge_divisible r n
after_head r vs n (suc d) (l ∷ lists) = after_head r vs n d lists
after_head r vs n d _ = refuse WrongArguments

-- the term of the innermost list
abbrev pub yields : Rules → Frame → List Variable → List Sexps → Judging Typed
yields r (whole us) vs ((x ▸ rest) ∷ lists) = judge r us x
yields r (answer a) vs lists = return a
yields r opened vs (ss ∷ lists) = judge r vs (group ss)
yields r (application n k ts) vs (ss ∷ lists) = judge_all r vs ss >>= (λ us. judge_application r n k (ts ++ us))
yields r (dividing n d) vs lists = after_head r vs n d lists
yields r (division n ts) vs (ss ∷ lists) = judge_all r vs ss >>= (λ us. judge_divisible r n (ts ++ us))
yields r let_open vs ((group bs ▸ rest) ∷ lists) = with_taken r vs [] bs (rest ∷ lists)
yields r (bindings xs) vs (bs ∷ lists) = with_taken r vs xs bs lists
yields r (binding_open xs) vs (p ∷ lists) = with_binding r vs xs (one_binding r vs p) lists
yields r (binding xs n) vs (p ∷ lists) = with_binding r vs xs (named_so r vs n p) lists
yields r (bound_to xs n a) vs (p ∷ lists) = with_binding r vs xs (ended n a p) lists
yields r (body xs) vs lists = in_body r (xs ++ vs) lists
yields r (result a) vs lists = closed a lists
yields r (annotation o) vs ((t ▸ rest) ∷ lists) = judge r vs t >>= (λ a. judge_attributes r o a rest >> return a)
yields r (attributes a o d) vs lists = attributes_of r a o d lists
yields r (naming a o) vs (rest ∷ lists) = (name_by r o a rest >> judge_attributes r o a rest) >> return a
yields r _ vs lists = refuse WrongArguments

abbrev pub drop_lists : ℕ → List Sexps → List Sexps
drop_lists zero lists = lists
drop_lists (suc n) [] = []
drop_lists (suc n) (l ∷ lists) = drop_lists n lists

-- the lists outside a frame's own
abbrev pub below : Frame → List Sexps → List Sexps
below (whole vs) lists = []
below (answer a) lists = []
below (dividing n d) lists = drop_lists (suc (suc d)) lists
below (bindings xs) lists = drop_lists 2 lists
below (binding_open xs) lists = drop_lists 3 lists
below (binding xs n) lists = drop_lists 3 lists
below (bound_to xs n a) lists = drop_lists 3 lists
below (attributes a o d) lists = drop_lists (suc d) lists
below _ lists = drop_lists 1 lists

-- the whole term, where the innermost frame's term is done
abbrev pub resume : Rules → List Frame → List Sexps → Typed → Judging Typed
resume r [] lists a = return a
resume r (f ∷ fs) lists a = yields r (given f a) (variables fs) lists >>= resume r fs (below f lists)

-- the whole term
abbrev pub continue : Rules → List Frame → List Sexps → Judging Typed
continue r [] lists = refuse WrongArguments
continue r (f ∷ fs) lists = yields r f (variables fs) lists >>= resume r fs (below f lists)

-- ---- one token

-- the form of `let`, before its terms
abbrev pub check_let : Sexps → Judging (Unit {0})
check_let (group bs ▸ b ▸ end) = check_bindings (bound_names bs)
check_let _ = refuse WrongArguments

-- the form of `!`, before its term
abbrev pub check_annotation : Sexps → Judging (Unit {0})
check_annotation (t ▸ rest) = require (are_attributes rest) WrongArguments
check_annotation end = refuse WrongArguments

abbrev pub has_free_first : List Variable → Sexps → Bool
has_free_first vs (t ▸ rest) = has_free (variable_names vs) t
has_free_first vs end = false

-- a list begins, and what is ahead of it in that list
abbrev pub on_enter : List Frame → Sexps → Judging (List Frame)
on_enter (whole vs ∷ fs) ahead = return (opened ∷ whole vs ∷ fs)
on_enter (answer a ∷ fs) ahead = return (answer a ∷ fs)
on_enter (opened ∷ fs) ahead = judge_head (head_number ahead) >>= (λ n. return (dividing n 0 ∷ fs))
on_enter (application n k ts ∷ fs) ahead = return (opened ∷ application n k ts ∷ fs)
on_enter (dividing n d ∷ fs) ahead = return (dividing n (suc d) ∷ fs)
on_enter (division n ts ∷ fs) ahead = return (opened ∷ division n ts ∷ fs)
on_enter (let_open ∷ fs) ahead = return (bindings [] ∷ fs)
on_enter (bindings xs ∷ fs) ahead = return (binding_open xs ∷ fs)
on_enter (binding xs n ∷ fs) ahead = return (opened ∷ binding xs n ∷ fs)
on_enter (body xs ∷ fs) ahead = return (opened ∷ body xs ∷ fs)
on_enter (annotation o ∷ fs) ahead = return (opened ∷ annotation o ∷ fs)
on_enter (attributes a o d ∷ fs) ahead = return (attributes a o (suc d) ∷ fs)
on_enter _ ahead = refuse WrongArguments

abbrev pub on_leave : Rules → List Frame → Judging (List Frame)
on_leave r (answer a ∷ fs) = return (answer a ∷ fs)
on_leave r (application n k ts ∷ fs) = judge_application r n k ts >>= (λ a. return (give a fs))
on_leave r (dividing n zero ∷ fs) = return (division n [] ∷ fs)
on_leave r (dividing n (suc d) ∷ fs) = return (dividing n d ∷ fs)
on_leave r (division n ts ∷ fs) = judge_divisible r n ts >>= (λ a. return (give a fs))
on_leave r (bindings xs ∷ fs) = return (body xs ∷ fs)
on_leave r (bound_to xs n a ∷ fs) = return (bindings (xs ++ record { name = n; term = a } ∷ []) ∷ fs)
on_leave r (result a ∷ fs) = return (give a fs)
on_leave r (attributes a o zero ∷ fs) = return (give a fs)
on_leave r (attributes a o (suc d) ∷ fs) = return (attributes a o d ∷ fs)
on_leave r _ = refuse WrongArguments

-- the head of a list, and what is ahead of it in the list
abbrev pub on_head : Rules → List Variable → Token → Sexps → Judging Frame
on_head r vs (Symbol n) ahead = the_scope >>= (λ s. can_be_applied n (known vs n s) >> return (application n (known vs n s) []))
on_head r vs (Reserved Let) ahead = check_let ahead >> return let_open
on_head r vs (Reserved Exclamation) ahead = check_annotation ahead >> return (annotation (has_free_first vs ahead))
on_head r vs (Reserved w) ahead = refuse (UnknownSymbol (Reserved w))
on_head r vs _ ahead = refuse WrongArguments

abbrev pub after_keyword : Bool → Typed → Bool → Frame
after_keyword true a o = naming a o
after_keyword false a o = attributes a o 0

abbrev pub on_attribute : Typed → Bool → Token → Frame
on_attribute a o (Keyword k) = after_keyword (bytes_eq k (codes "named")) a o
on_attribute a o _ = attributes a o 0

abbrev pub on_name : Rules → Typed → Bool → Token → Judging Frame
on_name r a o (Symbol n) = name_term r o a n >> return (attributes a o 0)
on_name r a o _ = refuse WrongArguments

abbrev pub on_bound_name : List Variable → Token → Judging Frame
on_bound_name xs (Symbol n) = return (binding xs n)
on_bound_name xs _ = refuse WrongArguments

abbrev pub on_word : Rules → Frame → List Variable → Token → Sexps → Judging Frame
on_word r (whole us) vs t ahead = judge_token r us t >>= (λ a. return (answer a))
on_word r (answer a) vs t ahead = return (answer a)
on_word r opened vs t ahead = on_head r vs t ahead
on_word r (application n k ts) vs t ahead = judge_token r vs t >>= (λ a. return (application n k (ts ++ a ∷ [])))
on_word r (dividing n d) vs t ahead = return (dividing n d)
on_word r (division n ts) vs t ahead = judge_token r vs t >>= (λ a. return (division n (ts ++ a ∷ [])))
on_word r (binding_open xs) vs t ahead = on_bound_name xs t
on_word r (binding xs n) vs t ahead = judge_token r vs t >>= (λ a. return (bound_to xs n a))
on_word r (body xs) vs t ahead = judge_token r (xs ++ vs) t >>= (λ a. return (result a))
on_word r (annotation o) vs t ahead = judge_token r vs t >>= (λ a. return (attributes a o 0))
on_word r (attributes a o zero) vs t ahead = return (on_attribute a o t)
on_word r (attributes a o (suc d)) vs t ahead = return (attributes a o (suc d))
on_word r (naming a o) vs t ahead = on_name r a o t
on_word r _ vs t ahead = refuse WrongArguments

abbrev pub on_words : Rules → List Frame → Token → Sexps → Judging (List Frame)
on_words r [] t ahead = refuse WrongArguments
on_words r (f ∷ fs) t ahead = on_word r f (variables fs) t ahead >>= (λ g. return (g ∷ fs))

abbrev pub first_list : List Sexps → Sexps
first_list [] = end
first_list (l ∷ lists) = l

-- the frames after a token, from what is left of the open lists after it
abbrev pub step : Rules → List Frame → Token → List Sexps → Judging (List Frame)
step r fs Enter lists = on_enter fs (first_list lists)
step r fs Leave lists = on_leave r fs
step r fs t lists = on_words r fs t (first_list lists)

-- ---- all tokens

-- the frames after these tokens
abbrev pub run : Rules → List Token → List Frame → Judging (List Frame)
run r [] fs = return fs
run r (t ∷ ts) fs = step r fs t (open_lists_of ts) >>= run r ts

-- what comes out
abbrev pub finish : List Frame → Judging Typed
finish (answer a ∷ []) = return a
finish _ = refuse WrongArguments

-- below the innermost frame each frame has its lists, and nothing is left beside the whole term
abbrev pub Waits : List Frame → List Sexps → Type 0
Waits [] lists = ⊥
Waits (whole vs ∷ fs) lists = (fs ≡ []) × (lists ≡ end ∷ [])
Waits (answer a ∷ fs) lists = ⊥
Waits (f ∷ fs) lists = Waits fs (below f lists)

abbrev pub Fits : List Frame → List Sexps → Type 0
Fits [] lists = ⊥
Fits (whole vs ∷ fs) lists = (fs ≡ []) × ((x : Sexp) × (lists ≡ (x ▸ end) ∷ []))
Fits (answer a ∷ fs) lists = (fs ≡ []) × (lists ≡ end ∷ [])
Fits (f ∷ fs) lists = Waits fs (below f lists)
