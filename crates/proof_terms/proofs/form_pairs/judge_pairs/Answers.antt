use Rattle.std.proofs.Common.{length, nat_eq, Ok, ap, sym, ◌∙◌, subst, refl}
use Rattle.std.specs.HashMap.{get}
use Rattle.std.specs.List.Sorted.{IsNonDecreasing}
use Rattle.std.proofs.lemmas.List.Sorted.{IsNonDecreasingBy-from_sort}
use Rattle.smt_meaning.specs.declared.clauses.Atom.TheVariants.{Truth}
use Rattle.proof_terms.specs.FormPairs.{AreFirstPlaces, IsBackward}
use Rattle.proof_terms.proofs.FormLists.{permuted_to}
use Rattle.proof_terms.proofs.FormNumbers.{number_kept}
use Rattle.proof_terms.proofs.FormLifting.{codes_permuted, codes_later}
use Rattle.proof_terms.proofs.FormPairsLaw.{true_pairs, false_pairs, on_pairs, off_pairs}
use Rattle.proof_terms.proofs.form_pairs.judge_pairs.Goals as goal

pub returns-then-not-are_on_pairs : goal.returns-then-not-are_on_pairs
returns-then-not-are_on_pairs c = λ coded t.
    off_pairs c.args.literals.now c.args.place c.args.arguments.now c.deref.result.now (subst (IsBackward c.args.arguments.now) (sym c.deref.ensures.value) c.in_ok-backward.ensures)
    (get nat_eq c.in_ok-fronts.fronts.place_of) (get nat_eq c.in_ok-rears.rears.place_of) c.in_ok-fronts.fronts.places.items c.in_ok-rears.rears.places.items c.in_ok-fronts.ensures c.in_ok-rears.ensures
    (c.are_on_pairs.ensures.no c.if-not-are_on_pairs.true) t.on

pub are_true_pairs-requires-clause-codes : goal.are_true_pairs-requires-clause-codes
are_true_pairs-requires-clause-codes c = subst IsNonDecreasing (sym c.deref-2.ensures.value) (IsNonDecreasingBy-from_sort (λ x. x) c.sort_unstable.new.self.items c.sort_unstable.ensures.sorted)

pub returns-then-not-is_true : goal.returns-then-not-is_true
returns-then-not-is_true c = λ coded t.
    let new = c.are_true_pairs.new.clauses in
    let seen = codes_permuted new.atoms c.args.codes.now.items c.deref-2.result.now c.args.literals.now
    (permuted_to c.args.codes.now.items c.args.codes.now.items c.sort_unstable.new.self.items c.deref-2.result.now refl c.sort_unstable.ensures.permutation c.deref-2.ensures.value)
    (codes_later c.args.clauses.now new c.args.codes.now.items c.args.literals.now c.are_true_pairs.ensures.more coded) in
    let fronts = subst (AreFirstPlaces c.args.arguments.now (length c.args.arguments.now) (get nat_eq c.in_ok-fronts.fronts.place_of)) (sym c.deref-4.ensures.value) c.in_ok-fronts.ensures in
    let same = c.deref.ensures.value ∙ sym c.deref-3.ensures.value in
    let rears = subst (AreFirstPlaces c.deref-3.result.now (length c.deref-3.result.now) (get nat_eq c.in_ok-rears.rears.place_of)) (sym c.deref-5.ensures.value)
    (subst (λ ys. AreFirstPlaces ys (length ys) (get nat_eq c.in_ok-rears.rears.place_of) c.in_ok-rears.rears.places.items) same c.in_ok-rears.ensures) in
    false_pairs new.atoms c.len-count.ensures.apart c.deref-2.result.now c.args.literals.now seen c.args.place c.args.own
    (number_kept c.args.clauses.now new c.args.own (Truth c.args.place) c.are_true_pairs.ensures.more c.requires) c.args.arguments.now c.deref-3.result.now
    (subst (IsBackward c.args.arguments.now) (sym c.deref-3.ensures.value) c.in_ok-backward.ensures) (get nat_eq c.in_ok-fronts.fronts.place_of) (get nat_eq c.in_ok-rears.rears.place_of) c.deref-4.result.now
    c.deref-5.result.now fronts rears (c.in_ok-is_true.ensures.no (ap Ok c.if-not-is_true.true)) t.always

pub returns : goal.returns
returns c = λ coded.
    let new = c.are_true_pairs.new.clauses in
    let later = codes_later c.args.clauses.now new c.args.codes.now.items c.args.literals.now c.are_true_pairs.ensures.more coded in
    let seen = codes_permuted new.atoms c.args.codes.now.items c.deref-2.result.now c.args.literals.now
    (permuted_to c.args.codes.now.items c.args.codes.now.items c.sort_unstable.new.self.items c.deref-2.result.now refl c.sort_unstable.ensures.permutation c.deref-2.ensures.value) later in
    let fronts = subst (AreFirstPlaces c.args.arguments.now (length c.args.arguments.now) (get nat_eq c.in_ok-fronts.fronts.place_of)) (sym c.deref-4.ensures.value) c.in_ok-fronts.ensures in
    let same = c.deref.ensures.value ∙ sym c.deref-3.ensures.value in
    let rears = subst (AreFirstPlaces c.deref-3.result.now (length c.deref-3.result.now) (get nat_eq c.in_ok-rears.rears.place_of)) (sym c.deref-5.ensures.value)
    (subst (λ ys. AreFirstPlaces ys (length ys) (get nat_eq c.in_ok-rears.rears.place_of) c.in_ok-rears.rears.places.items) same c.in_ok-rears.ensures) in
    let on = on_pairs c.args.literals.now c.args.place c.args.arguments.now c.deref.result.now (subst (IsBackward c.args.arguments.now) (sym c.deref.ensures.value) c.in_ok-backward.ensures)
    (get nat_eq c.in_ok-fronts.fronts.place_of) (get nat_eq c.in_ok-rears.rears.place_of) c.in_ok-fronts.fronts.places.items c.in_ok-rears.rears.places.items c.in_ok-fronts.ensures c.in_ok-rears.ensures
    (c.are_on_pairs.ensures.yes c.if-not-are_on_pairs.false) in (
      record {
        on = on;
        always = true_pairs new.atoms c.len-count.ensures.apart c.deref-2.result.now c.args.literals.now seen c.args.place c.args.own
            (number_kept c.args.clauses.now new c.args.own (Truth c.args.place) c.are_true_pairs.ensures.more c.requires) c.args.arguments.now c.deref-3.result.now
            (subst (IsBackward c.args.arguments.now) (sym c.deref-3.ensures.value) c.in_ok-backward.ensures) (get nat_eq c.in_ok-fronts.fronts.place_of) (get nat_eq c.in_ok-rears.rears.place_of)
            c.deref-4.result.now c.deref-5.result.now fronts rears (c.in_ok-is_true.ensures.yes (ap Ok c.if-not-is_true.false)) on;
      },
      record {
        keeps = λ before k.
            c.in_ok-keep.ensures.kept before c.args.literals.now (c.are_true_pairs.ensures.more.kept before k)
            (codes_permuted new.atoms c.args.codes.now.items c.sort_unstable.new.self.items c.args.literals.now c.sort_unstable.ensures.permutation later);
      },
    )
