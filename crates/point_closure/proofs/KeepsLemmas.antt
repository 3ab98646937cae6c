-- What a step of closing keeps, one after another.
use Rattle.std.proofs.Common.{◌≡◌, ◌≢◌, ℕ, ◌+◌, ◌<◌, ◌++◌, ◌∷◌, [], length, get_or, ◌∙◌, ap, sym, refl, subst, inl, inr, arith}
use Rattle.std.proofs.lemmas.Bool.{cases_lt}
use Rattle.std.proofs.lemmas.List.{length_push, get_or_read}
use Rattle.point_closure.specs.declared.classes.Union.{Union}
use Rattle.point_closure.specs.Unions.{root_of, after}
use Rattle.point_closure.proofs.UnionLemmas.{root_push, after_other, after_gone}
use Rattle.point_closure.specs.declared.pending.Pending.{Pending}
use Rattle.point_closure.specs.Rest.{Begins}
use Rattle.point_closure.proofs.RestLemmas.{same_on, begins_get}
use Rattle.point_closure.specs.declared.closure.Closure.{Closure}
use Rattle.point_closure.specs.Whole.{Keeps, IsUnited, state_of}
use Rattle.point_closure.proofs.StateLemmas.{grows_more, grows_itself}

pub keeps_itself : (c : Closure) → Keeps c c
keeps_itself c = record { graph = refl; steps = refl; marks = refl; grows = grows_itself (state_of c) }

pub keeps_more : (a b c : Closure) → Keeps a b → Keeps b c → Keeps a c
keeps_more a b c k l = record {
  graph = l.graph ∙ k.graph;
  steps = l.steps ∙ k.steps;
  marks = l.marks ∙ k.marks;
  grows = grows_more (state_of a) (state_of b) (state_of c) k.grows l.grows;
}

-- ---- a union of two points' classes

united : (before now : Closure) (u : Union) (i j : ℕ) → now.classes.unions ≡ before.classes.unions ++ u ∷ [] → u.gone ≢ u.kept → root_of before.classes.unions i ≡ u.gone → root_of before.classes.unions j ≡ u.kept
    → root_of now.classes.unions i ≡ root_of now.classes.unions j
united before now u i j e different at_gone at_kept =
    let us = before.classes.unions in
    let first : root_of (us ++ u ∷ []) i ≡ u.kept = root_push us u i ∙ after_gone u (root_of us i) (sym at_gone) in
    let second : root_of (us ++ u ∷ []) j ≡ u.kept = root_push us u j ∙ ap (after u) at_kept ∙ after_other u u.kept different in
    ap (λ vs. root_of vs i) e ∙ first ∙ sym second ∙ ap (λ vs. root_of vs j) (sym e)

keeps_classes : (before now : Closure) (u : Union) → now.classes.unions ≡ before.classes.unions ++ u ∷ [] → (a b : ℕ) → root_of before.classes.unions a ≡ root_of before.classes.unions b → root_of now.classes.unions a ≡ root_of now.classes.unions b
keeps_classes before now u e a b same = ap (λ vs. root_of vs a) e ∙ same_on before.classes.unions u a b same ∙ ap (λ vs. root_of vs b) (sym e)

pub united_left : (before now : Closure) (u : Union) (i j : ℕ) → now.classes.unions ≡ before.classes.unions ++ u ∷ [] → u.gone ≢ u.kept → root_of before.classes.unions i ≡ u.gone → root_of before.classes.unions j ≡ u.kept → IsUnited before now i j
united_left before now u i j e different at_gone at_kept = record {
  same = united before now u i j e different at_gone at_kept;
  kept = keeps_classes before now u e;
  goes = inr (ap length e ∙ length_push before.classes.unions u);
}

pub united_right : (before now : Closure) (u : Union) (i j : ℕ) → now.classes.unions ≡ before.classes.unions ++ u ∷ [] → u.gone ≢ u.kept → root_of before.classes.unions j ≡ u.gone → root_of before.classes.unions i ≡ u.kept → IsUnited before now i j
united_right before now u i j e different at_gone at_kept = record {
  same = sym (united before now u j i e different at_gone at_kept);
  kept = keeps_classes before now u e;
  goes = inr (ap length e ∙ length_push before.classes.unions u);
}

pub united_already : (c : Closure) (i j : ℕ) → root_of c.classes.unions i ≡ root_of c.classes.unions j → IsUnited c c i j
united_already c i j e = record { same = e; kept = λ a b h. h; goes = inl (refl, refl) }

-- ---- one more pair is done

pub done_step : (before now : Closure) (head : ℕ) (next : Pending) → head < length before.pending.items → next ≡ get_or before.pending.items head next → Begins before.pending.items now.pending.items → IsUnited before now next.left next.right
    → ((k : ℕ) (d : Pending) → k < head → k < length before.pending.items → root_of before.classes.unions (get_or before.pending.items k d).left ≡ root_of before.classes.unions (get_or before.pending.items k d).right)
    → (k : ℕ) (d : Pending) → k < head + 1 → k < length now.pending.items → root_of now.classes.unions (get_or now.pending.items k d).left ≡ root_of now.classes.unions (get_or now.pending.items k d).right
done_step before now head next within is b u done k d less less_now =
    let old : get_or now.pending.items k d ≡ get_or before.pending.items k d = begins_get before.pending.items now.pending.items k d b (omega arith) in
    subst (λ (p : Pending). root_of now.classes.unions p.left ≡ root_of now.classes.unions p.right) (sym old)
    (elim (cases_lt k head) [
      | inl early ↦ u.kept (get_or before.pending.items k d).left (get_or before.pending.items k d).right (done k d early (omega arith))
      | inr late ↦
          let here : get_or before.pending.items k d ≡ next = ap (λ n. get_or before.pending.items n d) (let last : k ≡ head = omega arith in last) ∙ sym (get_or_read before.pending.items head next within is d) in
          subst (λ (p : Pending). root_of now.classes.unions p.left ≡ root_of now.classes.unions p.right) (sym here) u.same
    ])
