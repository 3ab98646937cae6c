-- What is known of atoms, where variables keep their sums.
use Rattle.std.proofs.Common.{◌≡◌, ◌+◌, ◌<◌, List, [], ◌∷◌, ◌++◌, length, ℤ, sym, ap, ◌∙◌, subst, inl, inr, arith}
use Rattle.std.proofs.lemmas.Bool.{cases_lt}
use Rattle.std.proofs.lemmas.List.{length_push, get_or_append_left, get_or_push}
use Rattle.fraction128.specs.declared.Summand.{Summand}
use Rattle.smt_meaning.specs.declared.clauses.Atom.{Atom}
use Rattle.smt_meaning.specs.declared.clauses.Summand as Places
use Rattle.smt_meaning.specs.declared.clauses.Atom.TheVariants.{Truth as TruthAtom, AtMost}
use Rattle.search_port.specs.State.{atom_at}
use Rattle.sum_bounds.specs.declared.writing.SumVariable.{SumVariable}
use Rattle.sum_bounds.specs.Bounds as Bounds
use Rattle.sum_bounds.specs.Bounds.{StandsFor}
use Rattle.bound_log.specs.declared.said.Said.{Said}
use Rattle.bound_log.specs.declared.said.Said.TheVariants.{Nothing, Bound}
use Rattle.bound_log.specs.Told.{State, said_at}
use Rattle.bound_log.specs.Atoms.{Says, SaysNothing, KnowsTheSame, KnowsOneMore}
use Rattle.bound_log.proofs.Growing.{KeepsSums}

stands_kept : (b c : Bounds.State) (ps : List Summand) (v : SumVariable) → KeepsSums b c → StandsFor b ps v → StandsFor c ps v
stands_kept b c ps v k h = record { known = let le = k.fewer in let less = h.known in omega arith; sign = h.sign; sum = k.each v.variable h.known ∙ h.sum }

pub says_kept : (b c : Bounds.State) (a : Atom) (s : Said) → KeepsSums b c → Says b a s → Says c a s
says_kept b c a Nothing k h = h
says_kept b c a (Bound v n) k h = record { sum = h.sum; atom = h.atom; variable = stands_kept b c _ v k h.variable }

pub knows_kept : (s u : State) → u.said ≡ s.said → KeepsSums s.bounds u.bounds → KnowsTheSame s u
knows_kept s u said keeps table h = record {
  as_many = ap length said ∙ h.as_many;
  each = λ n less.
      subst (Says u.bounds (atom_at table n)) (ap (λ xs. said_at xs n) (sym said)) (says_kept s.bounds u.bounds (atom_at table n) (said_at s.said n) keeps (h.each n less));
}

pub knows_more : (s u : State) (a : Atom) (one : Said) → u.said ≡ s.said ++ one ∷ [] → KeepsSums s.bounds u.bounds → Says u.bounds a one → KnowsOneMore s a u
knows_more s u a one said keeps says table h = record {
  as_many = ap length said ∙ length_push s.said one ∙ ap (λ n. n + 1) h.as_many ∙ sym (length_push table a);
  each = λ n less. elim (cases_lt n (length table)) [
    | inl before ↦
        let short : n < length s.said = omega (arith, h.as_many) in
        let e : said_at u.said n ≡ said_at s.said n = ap (λ xs. said_at xs n) said ∙ get_or_append_left s.said (one ∷ []) Nothing n short in
        subst (λ b. Says u.bounds b (said_at u.said n)) (sym (get_or_append_left table (a ∷ []) (TruthAtom 0) n before))
        (subst (Says u.bounds (atom_at table n)) (sym e) (says_kept s.bounds u.bounds (atom_at table n) (said_at s.said n) keeps (h.each n before)))
    | inr past ↦
        let last : length table ≡ n = omega (arith, length_push table a) in
        let e : said_at u.said n ≡ one = ap (λ xs. said_at xs n) said ∙ get_or_push s.said one Nothing n (h.as_many ∙ last) in
        subst (λ b. Says u.bounds b (said_at u.said n)) (sym (get_or_push table a (TruthAtom 0) n last)) (subst (Says u.bounds a) (sym e) says)
  ];
}

pub says_nothing : (sum : List Places.Summand) (k : ℤ) → length sum ≡ 0 → SaysNothing (AtMost sum k)
says_nothing [] k none qs j is = let e : [] ≡ qs = cc in sym e
says_nothing (p ∷ ps) k none qs j is = absurd (omega (arith, none))
