-- The value of a term depends on its symbols alone.
use Rattle.std.proofs.Common.{◌≡◌, List, ◌++◌, ap, ◌∙◌, arith, refl}
use Rattle.std.proofs.lemmas.List.Elements.{Contains-append_left, Contains-append_right}
use Rattle.std.specs.Prelude.{ℕ}
use Rattle.smt_meaning.specs.declared.values.Value.{Value}
use Rattle.smt_meaning.specs.declared.terms.Head.{Head}
use Rattle.smt_meaning.specs.declared.terms.Head.TheVariants.{Numeral, Theory, Symbol, Place}
use Rattle.smt_meaning.specs.Term.{Tree, Trees, node, none, more, Interpretation, value, values, apply}
use Rattle.smt_meaning.specs.Clause.{symbols, symbols_of, head_symbols}
use Rattle.smt_laws.specs.TermLaws.{AgreeOn}

agree_left : (I J : Interpretation) (fs gs : List ℕ) → AgreeOn I J (fs ++ gs) → AgreeOn I J fs
agree_left I J fs gs h f c = h f (Contains-append_left fs gs f c)

agree_right : (I J : Interpretation) (fs gs : List ℕ) → AgreeOn I J (fs ++ gs) → AgreeOn I J gs
agree_right I J fs gs h f c = h f (Contains-append_right fs gs f c)

same_apply : (I J : Interpretation) (h : Head) (vs : List Value) → AgreeOn I J (head_symbols h) → apply I h vs ≡ apply J h vs
same_apply I J (Numeral n) vs a = refl
same_apply I J (Theory o) vs a = refl
same_apply I J (Symbol f) vs a = a f (0, omega arith, refl) vs
same_apply I J (Place k) vs a = refl

mutual
  pub value-agree : (I J : Interpretation) (t : Tree) → AgreeOn I J (symbols t) → value I t ≡ value J t
  value-agree I J (node h ts) a =
      ap (apply I h) (values-agree I J ts (agree_right I J (head_symbols h) (symbols_of ts) a))
      ∙ same_apply I J h (values J ts) (agree_left I J (head_symbols h) (symbols_of ts) a)

  pub values-agree : (I J : Interpretation) (ts : Trees) → AgreeOn I J (symbols_of ts) → values I ts ≡ values J ts
  values-agree I J none a = refl
  values-agree I J (more t ts) a = cc (value-agree I J t (agree_left I J (symbols t) (symbols_of ts) a), values-agree I J ts (agree_right I J (symbols t) (symbols_of ts) a))
