-- What an s-expression is as a command, from how its parts are read.
use Rattle.std.proofs.Common.{◌≡◌, ℕ, List, [], ◌∷◌, map, Bool, cond, true, false, Option, Some, None, Err, refl, ap, sym, ◌∙◌}
use Rattle.std.specs.Option.{option_map}
use Rattle.std.specs.Str.{bytes_eq}
use Rattle.smt_meaning.specs.declared.tokens.Token.TheVariants.{Symbol}
use Rattle.smt_meaning.specs.declared.errors.Error.TheVariants.{NotCommand, UnknownCommand}
use Rattle.smt_meaning.specs.Sexp.{Sexp, Sexps, word, group, end, ◌▸◌}
use Rattle.smt_meaning.specs.Signature.{look_up}
use Rattle.smt_meaning.specs.Command.{Form, forms, formed, within, symbol, command}
use Rattle.smt_command.specs.declared.names.CommandName.{CommandName}
use Rattle.smt_command.specs.Arguments.{first_by, parts, rest_of}
use Rattle.smt_command.specs.Names.{command_names}
use Rattle.smt_command.specs.FormOf.{form_of}

pub not_list : (s : Sexp) (ss : Sexps) → ss ≡ s ▸ end → None ≡ first_by parts ss → Err NotCommand ≡ command s
unfolding command
not_list (word t) ss e h = refl
not_list (group xs) ss e h = absurd (differ (h ∙ ap (first_by parts) e))
  where
    differ : {xs : Sexps} → None ≡ Some xs → ⊥
    differ g = cc

abbrev inside : Option Sexps → Sexps
inside None = end
inside (Some xs) = xs

pub list_of : (s : Sexp) (ss xs : Sexps) → ss ≡ s ▸ end → Some xs ≡ first_by parts ss → s ≡ group xs
list_of (word t) ss xs e h = absurd (differ (h ∙ ap (first_by parts) e))
  where
    differ : {ys : Sexps} → Some ys ≡ None → ⊥
    differ g = cc
list_of (group ys) ss xs e h = ap (λ o. group (inside o)) (sym (h ∙ ap (first_by parts) e))

pub no_symbol : (xs : Sexps) → None ≡ first_by symbol xs → Err NotCommand ≡ command (group xs)
unfolding command
no_symbol (word (Symbol n) ▸ ss) h = cc
no_symbol _ h = refl

abbrev name_in : Option (List ℕ) → List ℕ
name_in None = []
name_in (Some n) = n

with_symbol : (xs : Sexps) (n : List ℕ) → Some n ≡ first_by symbol xs → command (group xs) ≡ formed n (look_up n forms) (rest_of xs)
unfolding command
with_symbol end n h = cc
with_symbol (word (Symbol m) ▸ ss) n h = ap (λ o. formed (name_in o) (look_up (name_in o) forms) ss) (sym h)
with_symbol _ n h = cc

-- ---- the form that a name stands for

abbrev with_form : List ℕ × CommandName → List ℕ × Form
with_form p = (p.0, form_of p.1)

chosen : (b : Bool) (k : CommandName) (o : Option CommandName) → cond b (Some (form_of k)) (option_map form_of o) ≡ option_map form_of (cond b (Some k) o)
chosen true k o = refl
chosen false k o = refl

look_up-map : (n : List ℕ) (ps : List (List ℕ × CommandName)) → look_up n (map with_form ps) ≡ option_map form_of (look_up n ps)
look_up-map n [] = refl
look_up-map n (p ∷ ps) =
    ap (λ o. cond (bytes_eq n p.0) (Some (form_of p.1)) o) (look_up-map n ps) ∙ chosen (bytes_eq n p.0) p.1 (look_up n ps)

every_form : map with_form command_names ≡ forms
unfolding command_names
every_form = refl

form_found : (n : List ℕ) → look_up n forms ≡ option_map form_of (look_up n command_names)
form_found n = ap (look_up n) (sym every_form) ∙ look_up-map n command_names

pub unknown : (xs : Sexps) (n : List ℕ) → Some n ≡ first_by symbol xs → None ≡ look_up n command_names → Err (UnknownCommand n) ≡ command (group xs)
unknown xs n h e = sym (with_symbol xs n h ∙ ap (λ f. formed n f (rest_of xs)) (form_found n ∙ ap (option_map form_of) (sym e)))

pub known : (xs : Sexps) (n : List ℕ) (k : CommandName) → Some n ≡ first_by symbol xs → Some k ≡ look_up n command_names → command (group xs) ≡ within n (form_of k (rest_of xs))
known xs n k h e = with_symbol xs n h ∙ ap (λ f. formed n f (rest_of xs)) (form_found n ∙ ap (option_map form_of) (sym e))
