use Rattle.std.proofs.Common.{ℕ, ℤ, List, Result, rules}
use Rattle.smt_meaning.specs.StackCommand.{Stack, declare_sort}
use Rattle.scope_stack.specs.declared.answers.Carried.{Carried}
use Rattle.scope_stack.specs.declared.answers.StackError.{StackError}
use Rattle.scope_stack.specs.Carries.{Carries}
use Rattle.session.specs.Effects.{DeclaresSort}
use Rattle.session.proofs.carry.carry.Goals as goal

declared : (n : List ℕ) (a : ℤ) (old : Stack) (r : Result Carried StackError) (new : Stack)
    → DeclaresSort n a old r new → Carries (λ level. declare_sort n a) old r new
unfolding DeclaresSort
declared n a old r new h = h

pub returns-in-DeclareSort : goal.returns-in-DeclareSort
returns-in-DeclareSort c =
    let h : DeclaresSort c.in-DeclareSort.name c.in-DeclareSort.arity c.args.stack.now c.declare_sort.result c.declare_sort.new.stack = search rules in
    rw c.in-DeclareSort.is (declared _ _ _ _ _ h)

pub returns-in-DefineSort : goal.returns-in-DefineSort
returns-in-DefineSort c =
    rw (c.in-DefineSort.is, ← c.as_slice.ensures, ← c.as_slice-in-DefineSort.ensures) c.define_sort.ensures

pub returns-in-DeclareConst : goal.returns-in-DeclareConst
returns-in-DeclareConst c = rw (c.in-DeclareConst.is, ← c.as_slice-in-DeclareConst.ensures) c.declare_function.ensures

pub returns-in-DeclareFun : goal.returns-in-DeclareFun
returns-in-DeclareFun c =
    rw (c.in-DeclareFun.is, ← c.as_slice-in-DeclareFun.ensures, ← c.as_slice-in-DeclareFun-2.ensures) c.declare_function-in-DeclareFun.ensures

pub returns-in-DefineFun : goal.returns-in-DefineFun
returns-in-DefineFun c =
    rw (c.in-DefineFun.is, ← c.as_slice-in-DefineFun.ensures, ← c.as_slice-in-DefineFun-2.ensures) c.define_function.ensures

pub returns-in-Push : goal.returns-in-Push
returns-in-Push c = rw c.in-Push.is (search rules)

pub returns-in-Pop : goal.returns-in-Pop
returns-in-Pop c = rw c.in-Pop.is (search rules)
