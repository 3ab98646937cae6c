use Rattle.std.proofs.Common.{◌≡◌, ◌++◌, ◌∷◌, [], List, length, All, sym, ap, subst, arith}
use Rattle.std.specs.Prelude.{ℕ, Option}
use Rattle.std.proofs.lemmas.List.{length_push}
use Rattle.smt_meaning.specs.declared.clauses.Atom.{Atom}
use Rattle.smt_meaning.specs.declared.clauses.Atom.TheVariants.{Same}
use Rattle.search_port.specs.Calls.{IsLemma}
use Rattle.closure_log.specs.Seen.{state_of}
use Rattle.theory_combine.specs.Numbering.{table_of, IsNumbered, IsWhole}
use Rattle.theory_combine.proofs.Comparing.{same_to_show}
use Rattle.theory_combine.proofs.Marking.{marked_is_of}
use Rattle.theory_combine.proofs.Tying.{pair_is_marked, tied_lemmas}
use Rattle.theory_combine.proofs.pairs.tie.Goals as goal

pub number_new-requires-clause-of_stack : goal.number_new-requires-clause-of_stack
number_new-requires-clause-of_stack c =
    let s = c.args.parts.now.stack.now in
    let marks = c.args.parts.now.marks.items in
    let marked = pair_is_marked s marks c.args.pair.left c.args.pair.right c.requires.wanted.left c.requires.wanted.right in
    record {
      terms = (c.requires.wanted.left.within, c.requires.wanted.right.within);
      declared = marked_is_of c.symbols_are_declared.ensures c.flat_says_the_same.ensures s marks c.requires.ready.parts.0 (Same c.args.pair.left c.args.pair.right) marked;
      marked = marked;
      proper = tt;
    }

pub number_new-requires-clause-to_show : goal.number_new-requires-clause-to_show
number_new-requires-clause-to_show c =
    same_to_show c.flat_says_the_same.ensures c.args.parts.now.stack.now c.args.parts.now.marks.items c.requires.ready.parts.2.only c.requires.ready.under_way.0.different c.args.pair.left c.args.pair.right c.requires.wanted.left
    c.requires.wanted.right c.args.progress.now.branches

pub tie_lemmas-requires-clause-same : goal.tie_lemmas-requires-clause-same
tie_lemmas-requires-clause-same c =
    let size : length c.number_new.new.progress.atoms.atoms ≡ length (c.args.progress.now.atoms.atoms ++ Same c.args.pair.left c.args.pair.right ∷ []) = ap (λ (table : List Atom). length table) c.in-Ok.ensures.added in
    omega (arith, size, length_push c.args.progress.now.atoms.atoms (Same c.args.pair.left c.args.pair.right), c.len-same.ensures.count, c.len-few.ensures.count, c.len-few.ensures.few)

pub returns-in-Ok-tie_lemmas : goal.returns-in-Ok-tie_lemmas
returns-in-Ok-tie_lemmas c =
    let s = c.args.parts.now.stack.now in
    let marks = c.args.parts.now.marks.items in
    let new = c.number_new.new.progress in
    let whole : IsWhole s marks new.atoms new.held = subst (λ (o : Option ℕ). IsNumbered s marks o new.atoms new.held) c.in-Ok.ensures.kept c.number_new.ensures.went.0.1 in
    record {
      went = c.number_new.ensures.went;
      found = (
        subst (λ (o : Option ℕ). All (IsLemma (state_of s (table_of o new.atoms.atoms) new.held.closure.log.items).reading) c.in-Ok-tie_lemmas.lemmas) (sym c.in-Ok.ensures.kept)
            (tied_lemmas c.flat_says_the_same.ensures c.value_has_its_sort.ensures s marks c.args.progress.now.atoms new.atoms new.held c.args.pair.left c.args.pair.right c.len-same.result
            c.args.low c.args.high c.in-Ok-tie_lemmas.lemmas whole c.in-Ok.ensures.added c.len-same.ensures.count c.requires.wanted.left c.requires.wanted.right c.requires.low c.requires.high
            c.in-Ok-tie_lemmas.ensures.lemmas),
        omega (arith, c.in-Ok.ensures.spent),
      );
    }

pub returns-in-Err : goal.returns-in-Err
returns-in-Err c = record { went = c.number_new.ensures.went; found = c.in-Err.ensures.ended }

pub returns : goal.returns
returns c = record { went = c.number_new.ensures.went; found = tt }
