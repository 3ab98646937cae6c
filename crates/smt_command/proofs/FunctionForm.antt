-- The form of `define-fun`, from how its first parts are read.
use Rattle.std.proofs.Common.{◌≡◌, ℕ, List, [], Option, Some, None, refl, ap, sym, ◌∙◌}
use Rattle.smt_meaning.specs.declared.tokens.Token.TheVariants.{Symbol}
use Rattle.smt_meaning.specs.declared.commands.Parameter.{Parameter}
use Rattle.smt_meaning.specs.Sexp.{Sexps, word, group, end, ◌▸◌}
use Rattle.smt_meaning.specs.Command.{each, symbol, parameter, written_sort, define_fun, define_fun_of}
use Rattle.smt_command.specs.Arguments.{first_by, parts, rest_of}
use Rattle.smt_command.specs.Values.{with_body}

abbrev name_in : Option (List ℕ) → List ℕ
name_in None = []
name_in (Some n) = n

abbrev list_in : Option Sexps → Sexps
list_in None = end
list_in (Some xs) = xs

with_parameters : (n m : List ℕ) (ps : List Parameter) (xs rest : Sexps) → n ≡ m → Some ps ≡ each parameter xs
    → define_fun (word (Symbol m) ▸ group xs ▸ rest) ≡ with_body n ps rest
with_parameters n m ps xs (s ▸ t ▸ end) e h = ap (λ o. define_fun_of m o (written_sort s) t) (sym h) ∙ ap (λ k. define_fun_of k (Some ps) (written_sort s) t) (sym e)
with_parameters n m ps xs _ e h = refl

with_list : (n m : List ℕ) (ps : List Parameter) (xs rest : Sexps) → n ≡ m → Some xs ≡ first_by parts rest → Some ps ≡ each parameter xs
    → define_fun (word (Symbol m) ▸ rest) ≡ with_body n ps (rest_of rest)
with_list n m ps xs end e g h = cc
with_list n m ps xs (word t ▸ rest) e g h = cc
with_list n m ps xs (group ys ▸ rest) e g h = with_parameters n m ps ys rest e (h ∙ ap (λ o. each parameter (list_in o)) g)

pub with_name : (ss : Sexps) (n : List ℕ) (xs : Sexps) (ps : List Parameter) → Some n ≡ first_by symbol ss → Some xs ≡ first_by parts (rest_of ss) → Some ps ≡ each parameter xs
    → define_fun ss ≡ with_body n ps (rest_of (rest_of ss))
with_name end n xs ps e g h = cc
with_name (word (Symbol m) ▸ rest) n xs ps e g h = with_list n m ps xs rest (ap name_in e) g h
with_name _ n xs ps e g h = cc
