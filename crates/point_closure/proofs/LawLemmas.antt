-- Of a closure at rest the classes are the closure of the merged pairs.
use Rattle.std.proofs.Common.{◌≡◌, ℕ, length, sym, subst}
use Rattle.point_closure.specs.Closure.{Equal}
use Rattle.point_closure.specs.Explained.{merged}
use Rattle.point_closure.specs.Laws.{ClassesAreTheClosure}
use Rattle.point_closure.specs.Unions.{root_of, AreUnions}
use Rattle.point_closure.specs.declared.closure.Closure.{Closure}
use Rattle.point_closure.specs.Whole.{IsWhole, state_of}
use Rattle.point_closure.proofs.GoingLemmas.{rest_is}

pub unions_of : (c : Closure) → IsWhole c → AreUnions c.classes.count c.classes.unions → AreUnions (length c.graph) c.classes.unions
unions_of c w are = subst (λ n. AreUnions n c.classes.unions) (sym w.closure.sized.points) are

pub root_then_equal : (c : Closure) → ClassesAreTheClosure → IsWhole c → AreUnions c.classes.count c.classes.unions → (i j : ℕ) → root_of c.classes.unions i ≡ root_of c.classes.unions j → Equal c.graph (merged c.steps.items) i j
root_then_equal c law w are i j =
    (law c.graph c.steps.items c.classes.unions i j (unions_of c w are) w.closure.parts.alike w.closure.parts.merges (rest_is c.graph c.steps.items (state_of c) w.rest)).0

pub equal_then_root : (c : Closure) → ClassesAreTheClosure → IsWhole c → AreUnions c.classes.count c.classes.unions → (i j : ℕ) → Equal c.graph (merged c.steps.items) i j → root_of c.classes.unions i ≡ root_of c.classes.unions j
equal_then_root c law w are i j =
    (law c.graph c.steps.items c.classes.unions i j (unions_of c w are) w.closure.parts.alike w.closure.parts.merges (rest_is c.graph c.steps.items (state_of c) w.rest)).1
