-- The tokens of the next s-expression.
use Rattle.std.proofs.Common.{◌≡◌, ⊎_elim, ℕ, ◌-◌, ◌≤◌, ◌<◌, List, [], ◌∷◌, ◌++◌, drop, take, length, length-append, length-drop, sym, ap, subst, ◌∙◌, refl, arith, true, false, Some, append-nil}
use Rattle.std.proofs.lemmas.Bool.{cases_lt}
use Rattle.std.proofs.Math.Seq.{take-append_seam}
use Rattle.std.specs.List.{slice_range}
use Rattle.smt_meaning.specs.declared.tokens.Token.{Token}
use Rattle.smt_meaning.specs.declared.tokens.Token.TheVariants.{Enter, Leave}
use Rattle.smt_meaning.specs.Reading.{IsSExpr, IsInner, most_open}
use Rattle.smt_meaning.specs.Sexp.{Sexp, Sexps, group, end, ◌▸◌, tokens, open_lists_of, is_proper, are_proper, nested}
use Rattle.smt_laws.proofs.Both.{and_left, and_both}
use Rattle.smt_laws.proofs.SExprLaw.{written, written_more, written_back, are_sexprs}
use Rattle.smt_command.specs.declared.arguments.Arguments.{Arguments}
use Rattle.smt_command.specs.Arguments.{left, innermost, open_lists, IsInList, is_end, rest_of, first_by, term}
use Rattle.smt_command.proofs.OpenLists.{Fine, fine_at}
use Rattle.smt_command.proofs.Left.{IsBehind, left_past, left_lists}

-- an s-expression that may stand in a list
inner_of : (s : Sexp) → is_proper s ≡ true → nested s < most_open → IsInner (tokens s)
inner_of s p h =
    subst (λ ts. IsSExpr (Enter ∷ (ts ++ Leave ∷ []))) (append-nil (tokens s)) (are_sexprs (group (s ▸ end)) (and_both (is_proper s) true p refl) (omega (arith, h)))

-- ---- what stands before the lists that are left behind the next s-expression

record Splits (lists : List Sexps) (before behind : List Token) : Type 0 where
  pub tree : Sexp
  pub first : first_by term (innermost lists) ≡ Some (tokens tree)
  pub split : before ≡ tokens tree ++ behind
  pub is_sexpr : IsSExpr (tokens tree)
  pub inner : 2 ≤ length lists → IsInner (tokens tree)

splits : (lists lists' : List Sexps) (ts us : List Token) → written lists ≡ ts → written lists' ≡ us → Fine lists → false ≡ is_end (innermost lists)
    → lists' ≡ rest_of (innermost lists) ∷ drop 1 lists → Splits lists ts us
splits [] lists' ts us p q f e b = absurd f.some
splits (end ∷ rest) lists' ts us p q f e b = absurd (cc)
splits ((s ▸ x) ∷ rest) lists' ts us p q f e b = record {
  tree = s;
  first = refl;
  split = sym p ∙ written_more s x rest ∙ ap (λ w. tokens s ++ w) (sym (ap written b) ∙ q);
  is_sexpr = are_sexprs s (and_left (is_proper s) (are_proper x) f.all.0) (omega (arith, f.all.1));
  inner = λ l. inner_of s (and_left (is_proper s) (are_proper x) f.all.0) (omega (arith, f.all.1, l));
}

same_part : (front rest all : List Token) (n : ℕ) → all ≡ front ++ rest → n ≡ length front → take n all ≡ front
same_part front rest all n e h = rw (e, h) (take-append_seam front rest)

-- a place at which something is left
pub not_past : (a : Arguments) → false ≡ is_end (left a) → a.place < length a.sexpr.now
not_past a h = ⊎_elim (λ l. l) (λ l. absurd (differ (h ∙ ap is_end (left_past a l)))) (cases_lt a.place (length a.sexpr.now))
  where
    differ : false ≡ true → ⊥
    differ e = cc

pub record IsPart (a b : Arguments) : Type 0 where
  pub first : first_by term (left a) ≡ Some (slice_range b.sexpr.now a.place b.place)
  pub matched : IsSExpr (slice_range b.sexpr.now a.place b.place)
  pub inner : IsInList a → IsInner (slice_range b.sexpr.now a.place b.place)

part_of : (a b : Arguments) (ts : List Token) → a.sexpr.now ≡ ts → b.sexpr.now ≡ ts → IsSExpr ts → false ≡ is_end (left a) → IsBehind a b → a.place ≤ b.place → b.place ≤ length ts → IsPart a b
unfolding open_lists
part_of a b ts p q m e h o w =
    let la : open_lists a ≡ open_lists_of (drop a.place ts) = ap (λ us. open_lists_of (drop a.place us)) p in
    let lb : open_lists b ≡ open_lists_of (drop b.place ts) = ap (λ us. open_lists_of (drop b.place us)) q in
    let fa = fine_at ts m a.place in
    let fb = fine_at ts m b.place in
    let e' : false ≡ is_end (innermost (open_lists_of (drop a.place ts))) = e ∙ ap is_end (left_lists a) ∙ ap (λ l. is_end (innermost l)) la in
    let h' : open_lists_of (drop b.place ts) ≡ rest_of (innermost (open_lists_of (drop a.place ts))) ∷ drop 1 (open_lists_of (drop a.place ts)) =
    sym lb ∙ h ∙ ap (λ x. rest_of x ∷ drop 1 (open_lists a)) (left_lists a) ∙ ap (λ l. rest_of (innermost l) ∷ drop 1 l) la in
    let s : Splits (open_lists_of (drop a.place ts)) (drop a.place ts) (drop b.place ts) =
    splits (open_lists_of (drop a.place ts)) (open_lists_of (drop b.place ts)) (drop a.place ts) (drop b.place ts) (written_back (drop a.place ts) fa.some) (written_back (drop b.place ts) fb.some) fa e' h' in
    let sizes : b.place - a.place ≡ length (tokens s.tree) =
    omega (arith, ap length s.split, length-append (tokens s.tree) (drop b.place ts), length-drop a.place ts, length-drop b.place ts) in
    let same : take (b.place - a.place) (drop a.place ts) ≡ tokens s.tree = same_part (tokens s.tree) (drop b.place ts) (drop a.place ts) (b.place - a.place) s.split sizes in
    let whole : slice_range b.sexpr.now a.place b.place ≡ tokens s.tree = ap (λ us. take (b.place - a.place) (drop a.place us)) q ∙ same in
    record {
      first = ap (first_by term) (left_lists a) ∙ ap (λ l. first_by term (innermost l)) la ∙ s.first ∙ ap Some (sym whole);
      matched = subst IsSExpr (sym whole) s.is_sexpr;
      inner = λ l. subst IsInner (sym whole) (s.inner (subst (λ x. 2 ≤ length x) la l));
    }

pub is_part : (a b : Arguments) → b.sexpr.now ≡ a.sexpr.now → IsSExpr a.sexpr.now → false ≡ is_end (left a) → IsBehind a b → a.place ≤ b.place
    → (a.place ≤ length a.sexpr.now → b.place ≤ length a.sexpr.now) → IsPart a b
is_part a b q m e h o w = let l : a.place < length a.sexpr.now = not_past a e in part_of a b a.sexpr.now refl q m e h o (w (omega arith))
