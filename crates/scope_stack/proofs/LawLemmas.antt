-- What is true of each stack that commands give.
use Rattle.std.proofs.Common.{◌<◌, All, subst}
use Rattle.std.proofs.lemmas.List.Elements.{All-get_or}
use Rattle.smt_meaning.specs.declared.terms.Operator.TheVariants.{False}
use Rattle.smt_meaning.specs.declared.terms.Head.TheVariants.{Theory}
use Rattle.smt_meaning.specs.Clause.{symbols}
use Rattle.smt_meaning.specs.Term.{Tree, node, none}
use Rattle.smt_meaning.specs.StackCommand.{Stack, start, after_all}
use Rattle.smt_laws.specs.TermLaws.{NoIdTwice}
use Rattle.smt_laws.specs.SortLaws.{AssertionsAreTruths, TreesAreInOrder, PartsAreAmongTheTrees}
use Rattle.smt_laws.specs.LinearLaws.{NumeralsAreInRange, SymbolsAreGiven, TreesAreLinear}
use Rattle.scope_stack.specs.Facts.{HaveGivenSymbols}
use Rattle.scope_stack.specs.Inside.{IsReached}
use Rattle.scope_stack.specs.Shown.{IsLawful, ReachedStacksAreLawful}

pub reached_lawful : NoIdTwice → AssertionsAreTruths → TreesAreInOrder → PartsAreAmongTheTrees → NumeralsAreInRange → TreesAreLinear → ReachedStacksAreLawful
unfolding IsReached
reached_lawful ids truths order parts numerals linear s h =
    subst IsLawful h.1 (record { no_id_twice = ids h.0; truths = truths h.0; in_order = order h.0; parts = parts h.0; numerals = numerals h.0; linear = linear h.0 })

-- the symbols of its terms were given
pub reached_given : (s : Stack) → IsReached s → SymbolsAreGiven → HaveGivenSymbols s.given s.trees
unfolding IsReached
reached_given s h law =
    subst (λ (t : Stack). HaveGivenSymbols t.given t.trees) h.1
    (λ p lt. let t = after_all start h.0 in All-get_or (λ (u : Tree). All (λ f. f < t.given) (symbols u)) t.trees p (node (Theory False) none) lt (law h.0))
