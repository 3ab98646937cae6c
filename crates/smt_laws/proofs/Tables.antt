-- The tables of a signature interpret it.
use Rattle.std.proofs.Common.{◌≡◌, List, [], ◌∷◌, All, subst, sym, ◌∙◌, refl, true, false, nat_eq, eq-eqb, ne_eqb, get_or}
use Rattle.std.specs.Prelude.{IsTrue, MatchBool, if◌then◌else◌}
use Rattle.std.proofs.lemmas.List.Elements.{All-head, All-tail, All-cons, All-nil, All-weaker}
use Rattle.smt_meaning.specs.declared.values.Value.{Value}
use Rattle.smt_meaning.specs.declared.values.Sort.{Sort}
use Rattle.smt_meaning.specs.declared.values.Row.{Row}
use Rattle.smt_meaning.specs.declared.values.Table.{Table}
use Rattle.smt_meaning.specs.Declaration.{Declaration}
use Rattle.smt_meaning.specs.Term.{Interpretation}
use Rattle.smt_meaning.specs.Signature.{is_symbol, HasNoIdTwice}
use Rattle.smt_meaning.specs.Interpretation.{has_sort, have_sorts, IsFunctionFor, Interprets, look, meaning, same_values, IsTableFor, AreTablesFor}

look_sort : (rs : List Row) (v : Value) (vs : List Value) (s : Sort) → All (λ (r : Row). IsTrue (has_sort r.value s)) rs → IsTrue (has_sort v s) → IsTrue (has_sort (look rs v vs) s)
look_sort [] v vs s h k = k
look_sort (r ∷ rs) v vs s h k =
    elim (same_values vs r.arguments) as (λ b. IsTrue (has_sort (if b then r.value else look rs v vs) s)) [
      | true ↦ All-head (λ (q : Row). IsTrue (has_sort q.value s)) r rs h
      | false ↦ look_sort rs v vs s (All-tail (λ (q : Row). IsTrue (has_sort q.value s)) r rs h) k
    ]

at_own : (t : Table) (ts : List Table) (d : Declaration) → IsTableFor t d → IsFunctionFor (meaning (t ∷ ts)) d
at_own t ts d h is_sym vs sorts =
    let same : nat_eq d.id t.symbol ≡ true = eq-eqb d.id t.symbol (sym h.symbol) in
    subst (λ b. IsTrue (has_sort (if b then look t.rows t.default vs else meaning ts d.id vs) d.rank.result)) (sym same)
    (look_sort t.rows t.default vs d.rank.result (All-weaker (λ (r : Row). IsTrue (have_sorts r.arguments d.rank.arguments) × IsTrue (has_sort r.value d.rank.result)) (λ (r : Row). IsTrue (has_sort r.value d.rank.result)) (λ r p. p.1) t.rows h.rows) h.default)

further : (t : Table) (ts : List Table) (e : Declaration) → nat_eq e.id t.symbol ≡ false → IsFunctionFor (meaning ts) e → IsFunctionFor (meaning (t ∷ ts)) e
further t ts e differ h is_sym vs sorts =
    subst (λ b. IsTrue (has_sort (if b then look t.rows t.default vs else meaning ts e.id vs) e.rank.result)) (sym differ) (h is_sym vs sorts)

no_symbol : (I : Interpretation) (d : Declaration) → (IsTrue (is_symbol d) → ⊥) → IsFunctionFor I d
no_symbol I d never is_sym = absurd (never is_sym)

pub tables_interpret : (ds : List Declaration) (ts : List Table) → HasNoIdTwice ds → AreTablesFor ds ts → Interprets ds (meaning ts)
unfolding Interprets
tables_interpret [] [] fresh h = All-nil (IsFunctionFor (meaning []))
tables_interpret [] (t ∷ ts) fresh h = absurd h
tables_interpret (d ∷ ds) [] fresh h =
    All-cons (IsFunctionFor (meaning [])) d ds (no_symbol (meaning []) d h.0) (tables_interpret ds [] fresh.1 h.1)
tables_interpret (d ∷ ds) (t ∷ ts) fresh h =
    (elim (is_symbol d) as (λ b. is_symbol d ≡ b → MatchBool b (IsTableFor t d × AreTablesFor ds ts) (AreTablesFor ds (t ∷ ts)) → Interprets (d ∷ ds) (meaning (t ∷ ts))) [
      | true ↦ λ e k.
          All-cons (IsFunctionFor (meaning (t ∷ ts))) d ds (at_own t ts d k.0)
          (λ i x short. further t ts (get_or ds i x) (ne_eqb _ _ (λ same. fresh.0 i x short (sym k.0.symbol ∙ sym same))) (tables_interpret ds ts fresh.1 k.1 i x short))
      | false ↦ λ e k.
          All-cons (IsFunctionFor (meaning (t ∷ ts))) d ds (no_symbol (meaning (t ∷ ts)) d (λ yes'. cc)) (tables_interpret ds (t ∷ ts) fresh.1 k)
    ]) refl h
