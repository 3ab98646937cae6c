-- What propagation over the axioms reaches.
use Rattle.std.specs.Prelude.{◌≡◌, List, Contains, ◌≤ℤ◌}
use Rattle.literals.specs.Signed.{Signed, opposite}
use Rattle.smt_meaning.specs.declared.clauses.Atom.{Atom}
use Rattle.smt_meaning.specs.Forced.{Reaches}
use Rattle.order_clauses.specs.declared.links.Link.{Link}
use Rattle.order_clauses.specs.Links.{literal_of}
use Rattle.order_clauses.specs.Axioms.{AreAxioms}

-- where propagation reaches that the first is true, it reaches that the second is, and where it reaches that the second is false, it reaches that the first is
pub record Leads (cs : List (List Signed)) (x y : Link) : Type 0 where
  pub on : (given : List Signed) → Reaches opposite cs given (literal_of x) → Reaches opposite cs given (literal_of y)
  pub back : (given : List Signed) → Reaches opposite cs given (opposite (literal_of y)) → Reaches opposite cs given (opposite (literal_of x))

-- so it is of any two links of one sum of which the first says that the sum is at most a number that isn't above the other's
abbrev pub AxiomsReachAll : Type 0
AxiomsReachAll =
    (table : List Atom) (cs : List (List Signed)) (a : AreAxioms table cs) (x y : Link) → Contains a.links x → Contains a.links y
    → x.group ≡ y.group → x.threshold ≤ℤ y.threshold → Leads cs x y
