-- A tree as a list of numbers: how a proof stores one. No definition speaks of it.
use Rattle.std.specs.Prelude.{◌≡◌, ℕ, zero, suc, List, [], ◌∷◌, ◌++◌, ℤ, pos, negsuc, refl}
use Rattle.std.specs.Coded.{Coded, code_by, coded×, coded_ℕ, coded_ℤ, coded_list}
use Rattle.std.proofs.Common.{ap, ◌∙◌, append_assoc, append-nil, sym}
use Rattle.smt_meaning.specs.declared.terms.Operator.{Operator}
use Rattle.smt_meaning.specs.declared.terms.Operator.TheVariants.{True, False, Not, And, Or, Xor, Implies, Equal, Distinct, Ite, Add, Subtract, Multiply, AtMost, Less, AtLeast, Greater, Divide, Modulo, Absolute, Divisible}
use Rattle.smt_meaning.specs.declared.terms.Head.{Head}
use Rattle.smt_meaning.specs.declared.terms.Head.TheVariants.{Numeral, Theory, Symbol, Place}
use Rattle.smt_meaning.specs.Term.{Tree, Trees, node, none, more}
use Rattle.smt_meaning.specs.TreeShape.{operator_number}

-- ---- operators by their numbers

abbrev operator_in : ℕ → List Operator → Operator
operator_in k [] = True
operator_in zero (o ∷ os) = o
operator_in (suc k) (o ∷ os) = operator_in k os

-- the operator that has this number
abbrev pub operator_at : ℕ → Operator
operator_at k =
    operator_in k (True ∷ False ∷ Not ∷ And ∷ Or ∷ Xor ∷ Implies ∷ Equal ∷ Distinct ∷ Ite ∷ Add ∷ Subtract ∷ Multiply ∷ AtMost ∷ Less ∷ AtLeast ∷ Greater ∷ Divide ∷ Modulo ∷ Absolute ∷ Divisible ∷ [])

pub operator_back : (o : Operator) → operator_at (operator_number o) ≡ o
operator_back True = refl
operator_back False = refl
operator_back Not = refl
operator_back And = refl
operator_back Or = refl
operator_back Xor = refl
operator_back Implies = refl
operator_back Equal = refl
operator_back Distinct = refl
operator_back Ite = refl
operator_back Add = refl
operator_back Subtract = refl
operator_back Multiply = refl
operator_back AtMost = refl
operator_back Less = refl
operator_back AtLeast = refl
operator_back Greater = refl
operator_back Divide = refl
operator_back Modulo = refl
operator_back Absolute = refl
operator_back Divisible = refl

-- ---- heads

abbrev number_in : ℤ → ℕ
number_in (pos n) = n
number_in (negsuc n) = n

abbrev head_code : Head → ℕ × ℤ
head_code (Numeral n) = (0, n)
head_code (Theory o) = (1, pos (operator_number o))
head_code (Symbol f) = (2, pos f)
head_code (Place k) = (3, pos k)

abbrev head_at : ℕ → ℤ → Head
head_at zero n = Numeral n
head_at (suc zero) n = Theory (operator_at (number_in n))
head_at (suc (suc zero)) n = Symbol (number_in n)
head_at (suc (suc (suc k))) n = Place (number_in n)

abbrev head_back : ℕ × ℤ → Head
head_back p = head_at p.0 p.1

pub head_code_back : (h : Head) → head_back (head_code h) ≡ h
head_code_back (Numeral n) = refl
head_code_back (Theory o) = ap Theory (operator_back o)
head_code_back (Symbol f) = refl
head_code_back (Place k) = refl

abbrev pub coded_head : Coded Head
coded_head = code_by (ℕ × ℤ) (coded× coded_ℕ coded_ℤ) head_code head_back head_code_back

-- ---- a tree in prefix order, each head with the number of its arguments

abbrev count : Trees → ℕ
count none = 0
count (more t ts) = suc (count ts)

abbrev mutual
  flat : Tree → List (Head × ℕ)
  flat (node h ts) = (h, count ts) ∷ flat_all ts

  flat_all : Trees → List (Head × ℕ)
  flat_all none = []
  flat_all (more t ts) = flat t ++ flat_all ts

abbrev first : ℕ → Trees → Trees
first zero ts = none
first (suc n) none = none
first (suc n) (more t ts) = more t (first n ts)

abbrev after_first : ℕ → Trees → Trees
after_first zero ts = ts
after_first (suc n) none = none
after_first (suc n) (more t ts) = after_first n ts

abbrev built : List (Head × ℕ) → Trees
built [] = none
built (p ∷ ps) = more (node p.0 (first p.1 (built ps))) (after_first p.1 (built ps))

abbrev joined : Trees → Trees → Trees
joined none us = us
joined (more t ts) us = more t (joined ts us)

abbrev top : Trees → Tree
top none = node (Theory True) none
top (more t ts) = t

first_joined : (ts us : Trees) → first (count ts) (joined ts us) ≡ ts
first_joined none us = refl
first_joined (more t ts) us = ap (more t) (first_joined ts us)

after_joined : (ts us : Trees) → after_first (count ts) (joined ts us) ≡ us
after_joined none us = refl
after_joined (more t ts) us = after_joined ts us

mutual
  built_flat : (t : Tree) (ps : List (Head × ℕ)) → built (flat t ++ ps) ≡ more t (built ps)
  built_flat (node h ts) ps =
      ap (λ us. more (node h (first (count ts) us)) (after_first (count ts) us)) (built_flat_all ts ps)
      ∙ ap (λ us. more (node h us) (after_first (count ts) (joined ts (built ps)))) (first_joined ts (built ps))
      ∙ ap (λ us. more (node h ts) us) (after_joined ts (built ps))

  built_flat_all : (ts : Trees) (ps : List (Head × ℕ)) → built (flat_all ts ++ ps) ≡ joined ts (built ps)
  built_flat_all none ps = refl
  built_flat_all (more t ts) ps =
      ap built (append_assoc (flat t) (flat_all ts) ps) ∙ built_flat t (flat_all ts ++ ps) ∙ ap (more t) (built_flat_all ts ps)

abbrev back : List (Head × ℕ) → Tree
back ps = top (built ps)

pub flat_back : (t : Tree) → back (flat t) ≡ t
flat_back t = ap back (sym (append-nil (flat t))) ∙ ap top (built_flat t [])

abbrev pub coded_tree : Coded Tree
coded_tree = code_by (List (Head × ℕ)) (coded_list (coded× coded_head coded_ℕ)) flat back flat_back

abbrev pub coded_trees : Coded (List Tree)
coded_trees = coded_list coded_tree
