-- What a link, and a bound that is divided, come to.
use Rattle.std.proofs.Common.{◌≡◌, inl, inr, ℕ, zero, suc, ◌<◌, true, false, ◌&&◌, List, [], ◌∷◌, ◌++◌, length, All, get_or, ap, sym, subst, ◌∙◌, refl, arith}
use Rattle.std.specs.Prelude.{ℤ, pos, AllPairs}
use Rattle.std.proofs.lemmas.List.Elements.{All-nil, All-cons, All-head, All-tail}
use Rattle.smt_meaning.specs.declared.nodes.Node.{Node}
use Rattle.smt_meaning.specs.declared.clauses.Summand.{Summand}
use Rattle.smt_meaning.specs.declared.clauses.Atom.{Atom}
use Rattle.smt_meaning.specs.declared.clauses.Atom.TheVariants.{AtMost, Same}
use Rattle.smt_meaning.specs.declared.clauses.Literal.{Literal}
use Rattle.proof_meaning.specs.declared.proof.Step.TheVariants.{Link, Round}
use Rattle.smt_meaning.specs.Declaration.{Declaration}
use Rattle.smt_meaning.specs.Term.{Tree}
use Rattle.smt_meaning.specs.Linear.{summand, sum_fits}
use Rattle.smt_meaning.specs.Atoms.{divided, each_divided}
use Rattle.proof_meaning.specs.Proof.{AreTerms, IsSummand, IsAtom, IsLiteral, IsIntAt, literal}
use Rattle.smt_meaning.specs.Atoms.{DividesEach}
use Rattle.proof_meaning.specs.Rules.{IsRound, IsLink, folded_bound, link_clause}
use Rattle.proof_terms.specs.declared.verdict.Verdict.TheVariants.{Good, Wrong, Range}
use Rattle.proof_terms.specs.Comes.{Comes, Stays}
use Rattle.proof_terms.specs.Kept.{Kept, KeepsAll}
use Rattle.fraction128.specs.Whole.{InRange, is_in_range}
use Rattle.smt_laws.proofs.Both.{and_left, and_right}
use Rattle.linear_forms.proofs.SumLemmas.{fits_in_range}
use Rattle.proof_read.specs.Written.{numbers_fit, atom_fits, is_small}
use Rattle.proof_terms.specs.Range.{link_fits, LinkLeaves}
use Rattle.proof_terms.specs.Terms.{ProofTerms}
use Rattle.proof_terms.specs.BoundCodes.{LinksInts, IsDivided, round_clause}
use Rattle.pair_bounds.proofs.NormalLemmas.{quotient_not_zero}
use Rattle.proof_terms.proofs.BoundLeaves.{folded_atom}

-- ---- bounds divided

pub quotient_summands : (ds : List Declaration) (ts : List Tree) (g : ℕ) (ps : List Summand) → DividesEach g ps → All (IsSummand ds ts) ps → All (IsSummand ds ts) (each_divided (pos g) ps)
quotient_summands ds ts g [] d all = All-nil (IsSummand ds ts)
quotient_summands ds ts g (p ∷ ps) d all =
    let here : IsSummand ds ts p = All-head (IsSummand ds ts) p ps all in
    All-cons (IsSummand ds ts) (summand p.term (divided p.coefficient (pos g))) (each_divided (pos g) ps)
    (record { int = here.int; leaf = here.leaf; not_zero = quotient_not_zero p.coefficient g d.0 here.not_zero })
    (quotient_summands ds ts g ps d.1 (All-tail (IsSummand ds ts) p ps all))

abbrev pub Ascend : List Summand → Type 0
Ascend ps = AllPairs (λ (p q : Summand). p.term < q.term) ps

quotient_term : (g : ℕ) (ps : List Summand) (i : ℕ) (d : Summand) → i < length ps → (get_or (each_divided (pos g) ps) i d).term ≡ (get_or ps i d).term
quotient_term g [] i d h = absurd (omega arith)
quotient_term g (p ∷ ps) zero d h = refl
quotient_term g (p ∷ ps) (suc i) d h = quotient_term g ps i d (omega arith)

quotient_count : (g : ℕ) (ps : List Summand) → length (each_divided (pos g) ps) ≡ length ps
quotient_count g [] = refl
quotient_count g (p ∷ ps) = let e = quotient_count g ps in omega (arith, e)

pub quotients_ascend : (g : ℕ) (ps : List Summand) → Ascend ps → Ascend (each_divided (pos g) ps)
quotients_ascend g ps h = λ i j d l m.
    (let e = quotient_count g ps in
    let k : (get_or ps i d).term < (get_or ps j d).term = h i j d l (omega arith) in
    let a = quotient_term g ps i d (omega arith) in
    let b = quotient_term g ps j d (omega arith) in
    omega (arith, a, b, k))

module _ (t : ProofTerms) (asserted : List Tree) (old new : Kept) (l : Literal) (g : ℕ) (fit : numbers_fit (Round l g) ≡ true) where
  round_stays : Stays t (Round l g)
  round_stays (inl e) = let x : true ≡ false = sym fit ∙ e in cc
  round_stays (inr h) = h

  round_literal : (ls : List Literal) → IsRound l g ls → All (IsLiteral t.declared t.trees) ls → IsLiteral t.declared t.trees l
  round_literal ls h all =
      let here : IsLiteral t.declared t.trees (literal false (AtMost h.sum h.most)) = All-head (IsLiteral t.declared t.trees) (literal false (AtMost h.sum h.most)) (literal true (AtMost (each_divided (pos g) h.sum) (divided h.most (pos g))) ∷ []) (subst (All (IsLiteral t.declared t.trees)) h.clause all) in
      subst (λ (m : Literal). IsAtom t.declared t.trees m.atom) (sym h.literal_is) here

  pub no_literal : (IsLiteral t.declared t.trees l → ⊥) → Comes t asserted old new (Round l g) Wrong
  no_literal h = (round_stays, λ before ls kept literals gives. h (round_literal ls gives.by_rule gives.literals))

  pub not_divided : (IsDivided l g → ⊥) → Comes t asserted old new (Round l g) Wrong
  not_divided h = (
    round_stays,
    λ before ls kept literals gives.
        (let r : IsRound l g ls = gives.by_rule in
        h (record { sum = r.sum; limit = r.most; literal_is = r.literal_is; above = r.above; divides = r.divides })),
  )

  pub round_good : (sum : List Summand) (limit : ℤ) → l.atom ≡ AtMost sum limit → IsLiteral t.declared t.trees l → IsDivided l g
      → ((before : List (List Literal)) → KeepsAll old before → KeepsAll new (before ++ round_clause sum limit (pos g) ∷ [])) → Comes t asserted old new (Round l g) Good
  round_good sum limit e is d keeps =
      let same : AtMost sum limit ≡ AtMost d.sum d.limit = sym e ∙ ap (λ (m : Literal). m.atom) d.literal_is in
      let sums : d.sum ≡ sum = cc in
      let limits : d.limit ≡ limit = cc in
      let whole : l ≡ literal true (AtMost sum limit) = d.literal_is ∙ ap (literal true) (sym same) in
      let divides : DividesEach g sum = subst (DividesEach g) sums d.divides in
      let atom : IsAtom t.declared t.trees (AtMost sum limit) = subst (IsAtom t.declared t.trees) e is in (
        round_stays,
        λ before kept literals.
            record {
              clause = round_clause sum limit (pos g);
              gives = record {
                by_rule = record { sum = sum; most = limit; literal_is = whole; above = d.above; divides = divides; clause = refl };
                literals =
                    All-cons (IsLiteral t.declared t.trees) (literal false (AtMost sum limit)) (literal true (AtMost (each_divided (pos g) sum) (divided limit (pos g))) ∷ []) atom
                    (All-cons (IsLiteral t.declared t.trees) (literal true (AtMost (each_divided (pos g) sum) (divided limit (pos g)))) []
                    (quotient_summands t.declared t.trees g sum divides atom.0, quotients_ascend g sum atom.1) (All-nil (IsLiteral t.declared t.trees)));
              };
              keeps = keeps before kept;
            },
      )

-- ---- links

same_atom : (ds : List Declaration) (ts : List Tree) (i j : ℕ) → IsIntAt ds ts i → IsIntAt ds ts j → IsAtom ds ts (Same i j)
same_atom ds ts i j hi hj = (hi.0, hj.0, hi.1 ∙ sym hj.1)

link_literals : (ds : List Declaration) (ns : List Node) (ts : List Tree) → AreTerms ds ns ts → (i j which : ℕ) → IsIntAt ds ts i → IsIntAt ds ts j → All (IsLiteral ds ts) (link_clause ts i j which)
link_literals ds ns ts terms i j zero hi hj =
    All-cons (IsLiteral ds ts) (literal false (Same i j)) (literal true (folded_bound ts i j) ∷ []) (same_atom ds ts i j hi hj)
    (All-cons (IsLiteral ds ts) (literal true (folded_bound ts i j)) [] (folded_atom ds ns ts terms i j hi hj) (All-nil (IsLiteral ds ts)))
link_literals ds ns ts terms i j (suc zero) hi hj =
    All-cons (IsLiteral ds ts) (literal false (Same i j)) (literal true (folded_bound ts j i) ∷ []) (same_atom ds ts i j hi hj)
    (All-cons (IsLiteral ds ts) (literal true (folded_bound ts j i)) [] (folded_atom ds ns ts terms j i hj hi) (All-nil (IsLiteral ds ts)))
link_literals ds ns ts terms i j (suc (suc n)) hi hj =
    All-cons (IsLiteral ds ts) (literal false (folded_bound ts i j)) (literal false (folded_bound ts j i) ∷ literal true (Same i j) ∷ []) (folded_atom ds ns ts terms i j hi hj)
    (All-cons (IsLiteral ds ts) (literal false (folded_bound ts j i)) (literal true (Same i j) ∷ []) (folded_atom ds ns ts terms j i hj hi)
    (All-cons (IsLiteral ds ts) (literal true (Same i j)) [] (same_atom ds ts i j hi hj) (All-nil (IsLiteral ds ts))))

module _ (t : ProofTerms) (asserted : List Tree) (old new : Kept) (i j which : ℕ) where
  link_stays : (LinkLeaves t.declared t.trees i j which → ⊥) → Stays t (Link i j which)
  link_stays h (inl e) = let x : true ≡ false = e in cc
  link_stays h (inr leaves) = h leaves

  pub link_wrong : (LinksInts t i j which → ⊥) → Comes t asserted old new (Link i j which) Wrong
  link_wrong h = (
    link_stays (λ leaves. h (record { which_is = leaves.which_is; left_int = leaves.left; right_int = leaves.right })),
    λ before ls kept literals gives.
        (let r : IsLink t.declared t.trees i j which ls = gives.by_rule in
        h (record { which_is = r.which_is; left_int = r.left; right_int = r.right })),
  )

  pub link_range : LinksInts t i j which → link_fits t.trees i j which ≡ false → Comes t asserted old new (Link i j which) Range
  link_range h e = inr (record { which_is = h.which_is; left = h.left_int; right = h.right_int; outside = e })

  pub link_good : AreTerms t.declared t.nodes t.trees → LinksInts t i j which → link_fits t.trees i j which ≡ true
      → ((before : List (List Literal)) → KeepsAll old before → KeepsAll new (before ++ link_clause t.trees i j which ∷ [])) → Comes t asserted old new (Link i j which) Good
  link_good terms h fits keeps = (
    link_stays (λ leaves. (let e : link_fits t.trees i j which ≡ false = leaves.outside in let x : true ≡ false = sym fits ∙ e in cc)),
    λ before kept literals.
        record {
          clause = link_clause t.trees i j which;
          gives = record {
            by_rule = record { which_is = h.which_is; left = h.left_int; right = h.right_int; clause = refl };
            literals = link_literals t.declared t.nodes t.trees terms i j which h.left_int h.right_int;
          };
          keeps = keeps before kept;
        },
  )

pub round_ranges : (a : Atom) (sum : List Summand) (limit : ℤ) (g : ℕ) → a ≡ AtMost sum limit → (atom_fits a && is_small g) ≡ true → InRange limit × InRange (pos g)
round_ranges a sum limit g e fit =
    let atom_in : (sum_fits sum && is_in_range limit) ≡ true = ap atom_fits (sym e) ∙ and_left (atom_fits a) (is_small g) fit in
    (fits_in_range limit (and_right (sum_fits sum) (is_in_range limit) atom_in), fits_in_range (pos g) (and_right (atom_fits a) (is_small g) fit))
