-- Annotations, and what is left of their attributes.
use Rattle.std.specs.Prelude.{ℕ, suc, Option, Some, None, List}
use Rattle.smt_meaning.specs.declared.tokens.Token.TheVariants.{Reserved}
use Rattle.smt_meaning.specs.declared.tokens.Word.TheVariants.{Exclamation}
use Rattle.smt_meaning.specs.Sexp.{Sexp, Sexps, word, group, end, ◌▸◌, nested}
use Rattle.smt_meaning.specs.Core.{name_of}

-- the annotated term and the attributes
abbrev pub annotated : Sexp → Option Sexps
annotated (group (word (Reserved Exclamation) ▸ t ▸ rest)) = Some (t ▸ rest)
annotated _ = None

-- how many s-expressions there are
abbrev pub count : Sexps → ℕ
count end = 0
count (s ▸ ss) = suc (count ss)

-- the name of the first, where there is one
abbrev pub name_of_first : Sexps → Option (List ℕ)
name_of_first end = None
name_of_first (s ▸ ss) = name_of s

-- how deep the first is nested
abbrev pub depth_of_first : Sexps → ℕ
depth_of_first end = 0
depth_of_first (s ▸ ss) = nested s
