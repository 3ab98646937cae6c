-- A link more.
use Rattle.std.proofs.Common.{◌≡◌, ◌≢◌, ◌⊎◌, inl, inr, ℕ, ◌+◌, ◌<◌, ◌≤◌, List, [], ◌∷◌, ◌++◌, length, get_or, All, Contains, refl, sym, ap, subst, ◌∙◌, arith}
use Rattle.std.specs.Prelude.{ℤ, int_le}
use Rattle.std.proofs.lemmas.Bool.{cases_lt}
use Rattle.std.proofs.lemmas.List.{get_or_append_left, get_or_push, length_push, length-append}
use Rattle.std.proofs.lemmas.List.Elements.{All-push, All-weaker, All-nil, Contains-append_left, Contains-append_right}
use Rattle.literals.specs.Signed.{sign}
use Rattle.smt_meaning.specs.declared.clauses.Summand.{Summand}
use Rattle.smt_meaning.specs.declared.clauses.Atom.{Atom}
use Rattle.smt_meaning.specs.declared.clauses.Atom.TheVariants.{Truth, Same, AtMost}
use Rattle.smt_meaning.specs.Term.{Tree, Interpretation}
use Rattle.smt_meaning.specs.Clause.{atom_true, sum_value}
use Rattle.search_port.specs.State.{atom_at}
use Rattle.atom_form.specs.AtomTableNumbers.{IsAt}
use Rattle.pair_bounds.specs.Turning.{turned}
use Rattle.order_clauses.specs.declared.links.Link.{Link}
use Rattle.order_clauses.specs.Links.{sum_at, IsLink, HasLink}
use Rattle.order_clauses.specs.Gathered.{AreDistinct, AreGathered, GoesOn, IsLinkOf, AddsLink}

pub nothing_gathered : (table : List Atom) (sums : List (List Summand)) → AreGathered table 0 sums []
nothing_gathered table sums = record {
  mean = All-nil (IsLink table sums);
  each = λ n s t less. absurd (omega (arith, less));
  below = All-nil (λ (l : Link). l.number < 0);
  distinct = λ i j d a b. absurd (omega (arith, b));
}

-- ---- an atom more, that is no bound or a bound of the empty sum

abbrev IsSkipped : Atom → Type 0
IsSkipped a = (s : List Summand) (t : ℤ) → a ≡ AtMost s t → s ≡ []

module _ (table : List Atom) (k : ℕ) where
  same_atom : (a : Atom) (n : ℕ) (s : List Summand) (t : ℤ) → IsAt table k a → IsAt table n (AtMost s t) → n ≡ k → a ≡ AtMost s t
  same_atom a n s t at other e = sym (at.1 a) ∙ ap (λ m. get_or table m a) (sym e) ∙ other.1 a

  earlier : (n : ℕ) → n < k + 1 → (n ≡ k → ⊥) → n < k
  earlier n l h = elim (cases_lt n k) [ inl less ↦ less | inr more ↦ absurd (h (omega arith)) ]

  skip : (sums : List (List Summand)) (links : List Link) (a : Atom) → IsAt table k a → IsSkipped a → AreGathered table k sums links → AreGathered table (k + 1) sums links
  skip sums links a at skipped g = record {
    mean = g.mean;
    each = λ n s t less other some. g.each n s t (earlier n less (λ e. some (skipped s t (same_atom a n s t at other e)))) other some;
    below = All-weaker (λ (l : Link). l.number < k) (λ (l : Link). l.number < k + 1) (λ l h. omega arith) links g.below;
    distinct = g.distinct;
  }

  pub skip_truth : (sums : List (List Summand)) (links : List Link) (p : ℕ) → IsAt table k (Truth p) → AreGathered table k sums links → AreGathered table (k + 1) sums links
  skip_truth sums links p at g = skip sums links (Truth p) at (λ s t e. cc) g

  pub skip_same : (sums : List (List Summand)) (links : List Link) (i j : ℕ) → IsAt table k (Same i j) → AreGathered table k sums links → AreGathered table (k + 1) sums links
  skip_same sums links i j at g = skip sums links (Same i j) at (λ s t e. cc) g

  sum_of : (s s' : List Summand) (t t' : ℤ) → AtMost s t ≡ AtMost s' t' → s ≡ s'
  sum_of s s' t t' e = cc

  -- ---- a bound more

  module _ (old new : List (List Summand)) (on : GoesOn old new) where
    same_sum : (g : ℕ) → g < length old → sum_at new g ≡ sum_at old g
    same_sum g l = ap (λ xs. get_or xs g []) on.1 ∙ get_or_append_left old on.0 [] g l

    longer : (g : ℕ) → g < length old → g < length new
    longer g l = let size : length new ≡ length old + length on.0 = ap length on.1 ∙ length-append old on.0 in omega arith

    link_stays : (l : Link) → IsLink table old l → IsLink table new l
    link_stays l h = record {
      numbered = h.numbered;
      group = longer l.group h.group;
      says = λ ts I. h.says ts I ∙ ap (λ s. int_le (sum_value ts I s) l.threshold) (sym (same_sum l.group h.group));
    }

    module _ (links : List Link) (g : AreGathered table k old links) where
      sums_grown : AreGathered table k new links
      sums_grown = record {
        mean = All-weaker (IsLink table old) (IsLink table new) link_stays links g.mean;
        each = λ n s t less other some.
            let h : HasLink old links n s = g.each n s t less other some in
            record { link = h.link; among = h.among; number = h.number; turned_sum = same_sum h.link.group (All-in h.link h.among) ∙ h.turned_sum };
        below = g.below;
        distinct = g.distinct;
      }
        where
          All-in : (l : Link) → Contains links l → l.group < length old
          All-in l c = subst (λ (x : Link). x.group < length old) c.2 (g.mean c.0 l c.1).group

  distinct_push : (links : List Link) (l : Link) → AreDistinct links → All (λ (x : Link). x.number < k) links → l.number ≡ k → AreDistinct (links ++ l ∷ [])
  distinct_push links l distinct below e i j d less within = by (cases_lt j (length links))
    where
      at : (m : ℕ) → m < length links → get_or (links ++ l ∷ []) m d ≡ get_or links m d
      at m h = get_or_append_left links (l ∷ []) d m h

      by : (j < length links) ⊎ (length links ≤ j) → (get_or (links ++ l ∷ []) i d).number ≢ (get_or (links ++ l ∷ []) j d).number
      by (inl inside) = λ same. distinct i j d less inside (ap (λ (x : Link). x.number) (sym (at i (omega arith))) ∙ same ∙ ap (λ (x : Link). x.number) (at j inside))
      by (inr last) = λ same.
          let before : i < length links = omega (arith, length_push links l) in
          let own : (get_or links i d).number ≡ k =
          ap (λ (x : Link). x.number) (sym (at i before)) ∙ same ∙ ap (λ (x : Link). x.number) (get_or_push links l d j (omega (arith, length_push links l))) ∙ e in
          let small : (get_or links i d).number < k = below i d before in
          omega arith

  pub add : (old new : List (List Summand)) (links links' : List Link) (sum : List Summand) (t : ℤ) → IsAt table k (AtMost sum t) → AddsLink old new links links' sum t k
      → AreGathered table k old links → AreGathered table (k + 1) new links'
  add old new links links' sum t at adds g = by adds.links
    where
      grown : AreGathered table k new links
      grown = sums_grown old new adds.sums links g

      by : ((sum ≡ []) × (links' ≡ links)) ⊎ ((l : Link) × (links' ≡ links ++ l ∷ []) × IsLinkOf new sum t k l) → AreGathered table (k + 1) new links'
      by (inl none) = subst (AreGathered table (k + 1) new) (sym none.1) (skip new links (AtMost sum t) at (λ s u e. sym (sum_of sum s t u e) ∙ none.0) grown)
      by (inr one) = subst (AreGathered table (k + 1) new) (sym one.1) (record {
        mean = All-push (IsLink table new) links one.0 grown.mean link;
        each = λ n s u less other some. each n s u less other some (cases_lt n k);
        below = All-push (λ (x : Link). x.number < k + 1) links one.0 (All-weaker (λ (x : Link). x.number < k) (λ (x : Link). x.number < k + 1) (λ x h. omega arith) links grown.below) own;
        distinct = distinct_push links one.0 grown.distinct grown.below one.2.number;
      })
        where
          own : one.0.number < k + 1
          own = let e : one.0.number ≡ k = one.2.number in omega arith

          read : (ts : List Tree) (I : Interpretation) → atom_true ts I (atom_at table one.0.number) ≡ atom_true ts I (AtMost sum t)
          read ts I = ap (λ n. atom_true ts I (atom_at table n)) one.2.number ∙ ap (atom_true ts I) (at.1 (Truth 0))

          link : IsLink table new one.0
          link = record {
            numbered = subst (λ n. n < length table) (sym one.2.number) at.0;
            group = one.2.group;
            says = λ ts I. ap (sign one.0.positive) (read ts I) ∙ one.2.says ts I ∙ ap (λ s. int_le (sum_value ts I s) one.0.threshold) (sym one.2.turned_sum);
          }

          each : (n : ℕ) (s : List Summand) (u : ℤ) → n < k + 1 → IsAt table n (AtMost s u) → s ≢ [] → (n < k) ⊎ (k ≤ n) → HasLink new (links ++ one.0 ∷ []) n s
          each n s u less other some (inl before) =
              let h : HasLink new links n s = grown.each n s u before other some in
              record { link = h.link; among = Contains-append_left links (one.0 ∷ []) h.link h.among; number = h.number; turned_sum = h.turned_sum }
          each n s u less other some (inr here) =
              let e : n ≡ k = omega arith in
              record {
                link = one.0;
                among = Contains-append_right links (one.0 ∷ []) one.0 (0, omega arith, refl);
                number = one.2.number ∙ sym e;
                turned_sum = one.2.turned_sum ∙ ap turned (sum_of sum s t u (same_atom (AtMost sum t) n s u at other e));
              }
