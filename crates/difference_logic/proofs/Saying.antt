-- What a literal on a bound says.
use Rattle.std.proofs.Common.{◌≡◌, true, List, [], ◌∷◌, ℤ, sym, ap, ◌∙◌}
use Rattle.std.specs.Prelude.{Contains, Option, Some, None, IfSome}
use Rattle.std.proofs.lemmas.List.Elements.{All-head, All-tail, All-cons, All-nil, All-contains}
use Rattle.literals.specs.Signed.{Signed, sign, literal_true}
use Rattle.smt_meaning.specs.declared.clauses.Summand.{Summand}
use Rattle.smt_meaning.specs.declared.clauses.Atom.{Atom}
use Rattle.smt_meaning.specs.declared.clauses.Atom.TheVariants.{AtMost}
use Rattle.smt_meaning.specs.Clause.{atom_true}
use Rattle.search_port.specs.State.{atom_at}
use Rattle.congruence.specs.Justified.{truth_by}
use Rattle.difference_logic.specs.declared.difference.Difference.{Difference}
use Rattle.difference_logic.specs.Differences.{SaysOf, Follows}

pub of_atom : (table : List Atom) (l : Signed) (sum : List Summand) (k : ℤ) (d : Difference) → atom_at table l.atom ≡ AtMost sum k → SaysOf sum k l.positive d → Follows table (l ∷ []) d
of_atom table l sum k d is says ts I all =
    says ts I (sym (ap (λ (a : Atom). sign l.positive (atom_true ts I a)) is) ∙ All-head (λ (m : Signed). literal_true (truth_by ts table I) m ≡ true) l [] all)

-- what follows from one literal follows from all that have it
pub among : (table : List Atom) (l : Signed) (ls : List Signed) (d : Difference) → Follows table (l ∷ []) d → Contains ls l → Follows table ls d
among table l ls d follows c ts I all =
    let P : Signed → Type 0 = λ (m : Signed). literal_true (truth_by ts table I) m ≡ true in
    follows ts I (All-cons P l [] (All-contains P ls l all c) (All-nil P))

-- and from those with one more
pub with_more : (table : List Atom) (m : Signed) (ls : List Signed) (d : Difference) → Follows table ls d → Follows table (m ∷ ls) d
with_more table m ls d follows ts I all = follows ts I (All-tail (λ (l : Signed). literal_true (truth_by ts table I) l ≡ true) m ls all)

pub says_some : (table : List Atom) (l : Signed) (sum : List Summand) (k : ℤ) (o : Option Difference) → atom_at table l.atom ≡ AtMost sum k → IfSome o (SaysOf sum k l.positive) → IfSome o (Follows table (l ∷ []))
says_some table l sum k None is h = tt
says_some table l sum k (Some d) is h = of_atom table l sum k d is h

pub some_among : (table : List Atom) (l : Signed) (ls : List Signed) (o : Option Difference) → Contains ls l → IfSome o (Follows table (l ∷ [])) → IfSome o (Follows table ls)
some_among table l ls None c h = tt
some_among table l ls (Some d) c h = among table l ls d h c

pub some_next : (table : List Atom) (l : Signed) (ls : List Signed) (path : Difference) (o : Option Difference) → Follows table ls path → Contains ls l
    → IfSome o (λ d. (ms : List Signed) → Follows table ms path → Contains ms l → Follows table ms d) → IfSome o (Follows table ls)
some_next table l ls path None follows c h = tt
some_next table l ls path (Some d) follows c h = h ls follows c
