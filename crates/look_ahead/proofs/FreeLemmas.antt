-- Looking through a term for free names.
use Rattle.std.proofs.Common.{◌≡◌, ℕ, zero, suc, ◌+◌, ◌≤◌, ◌<◌, List, [], ◌∷◌, ◌++◌, ap, sym, subst, ◌∙◌, refl, take, length, reverse, arith, Bool, true, false, ◌||◌, Option, Some}
use Rattle.std.specs.Prelude.{if◌then◌else◌, bytes_eq}
use Rattle.std.specs.Borrow.{Bor}
use Rattle.std.proofs.lemmas.List.{reverse-append}
use Rattle.smt_meaning.specs.declared.tokens.Token.{Token}
use Rattle.smt_meaning.specs.declared.tokens.Token.TheVariants.{Reserved}
use Rattle.smt_meaning.specs.declared.tokens.TokenView.{TokenView}
use Rattle.smt_meaning.specs.declared.tokens.TokenView.TheVariants.{Reserved as ReservedSeen}
use Rattle.smt_meaning.specs.declared.tokens.Word.{Word}
use Rattle.smt_meaning.specs.declared.tokens.Word.TheVariants.{Exclamation, Let}
use Rattle.smt_meaning.specs.Seen.{seen}
use Rattle.smt_meaning.specs.Sexp.{Sexps, word, group, end, ◌▸◌}
use Rattle.smt_meaning.specs.Signature.{is_one_of}
use Rattle.smt_meaning.specs.Sorts.{Variable, variable_names, bound_names, names_or_none, without, has_free, some_has_free, binding_has_free}
use Rattle.look_ahead.specs.declared.free.Job.{Job}
use Rattle.look_ahead.specs.declared.free.Job.TheVariants.{Rest, First, Inside, Bindings, Body, Unhide}
use Rattle.look_ahead.specs.declared.lets.LetPlaces.{LetPlaces}
use Rattle.look_ahead.specs.declared.free.Form.{Form}
use Rattle.look_ahead.specs.declared.free.Form.TheVariants.{Other}
use Rattle.look_ahead.specs.Ahead.{ahead, IsList}
use Rattle.smt_laws.specs.Walk.{has_free_first}
use Rattle.look_ahead.proofs.LetLemmas.{names_append}
use Rattle.look_ahead.specs.Lets.{is_let, HasLet, names_of}
use Rattle.look_ahead.specs.Free.{first_free, todo, weight, weights, first_weight, Replaces, Follows, is_pair, HasSecond, Looks, form_of, FormAt}

-- ---- jobs that are pushed

one_pushed : (js ks : List Job) (a : Job) → ks ≡ js ++ a ∷ [] → reverse ks ≡ a ∷ reverse js
one_pushed js ks a e = ap reverse e ∙ reverse-append js (a ∷ [])

two_pushed : (js ks ls : List Job) (a b : Job) → ks ≡ js ++ a ∷ [] → ls ≡ ks ++ b ∷ [] → reverse ls ≡ b ∷ a ∷ reverse js
two_pushed js ks ls a b e f = one_pushed ks ls b f ∙ ap (λ x. b ∷ x) (one_pushed js ks a e)

or_assoc : (x y z : Bool) → ((x || y) || z) ≡ (x || (y || z))
or_assoc true y z = refl
or_assoc false y z = refl

first_less : (l : Sexps) → first_weight l ≤ weights l
first_less end = omega arith
first_less (t ▸ rest) = omega arith

-- ---- the inside of a list

inside_let : (ts : List Token) (i : ℕ) (w : LetPlaces) (js : List Job) → ahead ts i ≡ word (Reserved Let) ▸ ahead ts (i + 1) → HasLet ts (i + 1) w
    → Replaces ts (Inside i ∷ js) (Bindings w.bindings ∷ Body w ∷ js)
inside_let ts i w js e h =
    let whole : ahead ts i ≡ word (Reserved Let) ▸ group (ahead ts w.bindings) ▸ h.body ▸ end = e ∙ ap (λ x. word (Reserved Let) ▸ x) h.is in
    let heavy : weights (ahead ts i) ≡ weights (word (Reserved Let) ▸ group (ahead ts w.bindings) ▸ h.body ▸ end) = ap weights whole in
    let light : first_weight (ahead ts w.body) ≡ weight h.body = ap first_weight h.body_is in
    record {
      same = λ ns hidden.
          ap (λ x. has_free (without hidden ns) (group x) || todo ts ns hidden js) whole
          ∙ or_assoc (binding_has_free (without hidden ns) (ahead ts w.bindings)) _ (todo ts ns hidden js)
          ∙ ap (λ x. binding_has_free (without hidden ns) (ahead ts w.bindings) || (first_free (without (names_or_none (bound_names (ahead ts w.bindings))) (without hidden ns)) x || todo ts ns hidden js)) (sym h.body_is);
      less = omega arith;
    }

after_mark : (ns : List (List ℕ)) (l : Sexps) → has_free ns (group (word (Reserved Exclamation) ▸ l)) ≡ first_free ns l
after_mark ns end = refl
after_mark ns (t ▸ rest) = refl

pub inside_annotation : (ts : List Token) (i : ℕ) (js ks : List Job) → ahead ts i ≡ word (Reserved Exclamation) ▸ ahead ts (i + 1) → ks ≡ js ++ First (i + 1) ∷ []
    → Replaces ts (Inside i ∷ reverse js) (reverse ks)
inside_annotation ts i js ks e f =
    let heavy : weights (ahead ts i) ≡ weights (word (Reserved Exclamation) ▸ ahead ts (i + 1)) = ap weights e in
    let light : first_weight (ahead ts (i + 1)) ≤ weights (ahead ts (i + 1)) = first_less (ahead ts (i + 1)) in
    subst (Replaces ts (Inside i ∷ reverse js)) (sym (one_pushed js ks (First (i + 1)) f))
    (record {
      same = λ ns hidden.
          ap (λ x. has_free (without hidden ns) (group x) || todo ts ns hidden (reverse js)) e
          ∙ ap (λ b. b || todo ts ns hidden (reverse js)) (after_mark (without hidden ns) (ahead ts (i + 1)));
      less = omega arith;
    })

pub inside_other : (ts : List Token) (i : ℕ) (js ks : List Job) → ((ns : List (List ℕ)) → has_free ns (group (ahead ts i)) ≡ some_has_free ns (ahead ts i)) → ks ≡ js ++ Rest i ∷ []
    → Replaces ts (Inside i ∷ reverse js) (reverse ks)
inside_other ts i js ks plain f =
    subst (Replaces ts (Inside i ∷ reverse js)) (sym (one_pushed js ks (Rest i) f))
    (record { same = λ ns hidden. ap (λ b. b || todo ts ns hidden (reverse js)) (plain (without hidden ns)); less = omega arith })

pub inside_head : (ts : List Token) (i close : ℕ) (js ks : List Job) → IsList ts i close → ks ≡ js ++ Rest (close + 1) ∷ []
    → Replaces ts (Inside i ∷ reverse js) (reverse ks)
inside_head ts i close js ks h f =
    let heavy : weights (ahead ts i) ≡ weights (group (ahead ts (i + 1)) ▸ ahead ts (close + 1)) = ap weights h.is in
    subst (Replaces ts (Inside i ∷ reverse js)) (sym (one_pushed js ks (Rest (close + 1)) f))
    (record { same = λ ns hidden. ap (λ x. has_free (without hidden ns) (group x) || todo ts ns hidden (reverse js)) h.is; less = omega arith })

pub word_has_form : (ts : List Token) (i : ℕ) (v : TokenView) (f : Form) → (i < length ts) × (ahead ts i ≡ word (seen v) ▸ ahead ts (i + 1)) → f ≡ form_of (seen v) → FormAt ts i f
word_has_form ts i v f h e = subst (FormAt ts i) (sym e) (go v h)
  where
    go : (v : TokenView) → (i < length ts) × (ahead ts i ≡ word (seen v) ▸ ahead ts (i + 1)) → FormAt ts i (form_of (seen v))
    go (ReservedSeen Let) h = h
    go (ReservedSeen Exclamation) h = h
    go (ReservedSeen _) h = λ ns. subst (λ l. has_free ns (group l) ≡ some_has_free ns l) (sym h.1) refl
    go _ h = λ ns. subst (λ l. has_free ns (group l) ≡ some_has_free ns l) (sym h.1) refl

pub no_form : (v : TokenView) → ((w : Word) → v ≡ ReservedSeen w → ⊥) → Other ≡ form_of (seen v)
no_form (ReservedSeen w) h = absurd (h w refl)
no_form _ h = refl

pub end_has_form : (ts : List Token) (i : ℕ) → ahead ts i ≡ end → (ns : List (List ℕ)) → has_free ns (group (ahead ts i)) ≡ some_has_free ns (ahead ts i)
end_has_form ts i e ns = subst (λ l. has_free ns (group l) ≡ some_has_free ns l) (sym e) refl

malformed : (ns : List (List ℕ)) (l : Sexps) → is_let l ≡ false → has_free ns (group (word (Reserved Let) ▸ l)) ≡ some_has_free ns (word (Reserved Let) ▸ l)
malformed ns (group bs ▸ b ▸ end) e = absurd (cc)
malformed ns _ e = refl

pub inside_malformed : (ts : List Token) (i : ℕ) (js ks : List Job) → ahead ts i ≡ word (Reserved Let) ▸ ahead ts (i + 1) → is_let (ahead ts (i + 1)) ≡ false → ks ≡ js ++ Rest i ∷ []
    → Replaces ts (Inside i ∷ reverse js) (reverse ks)
inside_malformed ts i js ks e h f = inside_other ts i js ks (λ ns. subst (λ l. has_free ns (group l) ≡ some_has_free ns l) (sym e) (malformed ns (ahead ts (i + 1)) h)) f

pub inside_right : (ts : List Token) (i : ℕ) (w : LetPlaces) (js ks ls : List Job) → ahead ts i ≡ word (Reserved Let) ▸ ahead ts (i + 1) → HasLet ts (i + 1) w → ks ≡ js ++ Body w ∷ [] → ls ≡ ks ++ Bindings w.bindings ∷ []
    → Replaces ts (Inside i ∷ reverse js) (reverse ls)
inside_right ts i w js ks ls e h f g = subst (Replaces ts (Inside i ∷ reverse js)) (sym (two_pushed js ks ls (Body w) (Bindings w.bindings) f g)) (inside_let ts i w (reverse js) e h)

-- ---- bindings

pub binding_right : (ts : List Token) (i j close : ℕ) (js ks ls : List Job) → ahead ts i ≡ group (ahead ts (i + 1)) ▸ ahead ts (close + 1) → HasSecond ts (i + 1) j → ks ≡ js ++ Bindings (close + 1) ∷ [] → ls ≡ ks ++ First j ∷ []
    → Replaces ts (Bindings i ∷ reverse js) (reverse ls)
binding_right ts i j close js ks ls e h f g =
    let whole : ahead ts i ≡ group (h.first ▸ h.second ▸ end) ▸ ahead ts (close + 1) = e ∙ ap (λ x. group x ▸ ahead ts (close + 1)) h.is in
    let heavy : weights (ahead ts i) ≡ weights (group (h.first ▸ h.second ▸ end) ▸ ahead ts (close + 1)) = ap weights whole in
    let light : first_weight (ahead ts j) ≡ weight h.second = ap first_weight h.second_is in
    subst (Replaces ts (Bindings i ∷ reverse js)) (sym (two_pushed js ks ls (Bindings (close + 1)) (First j) f g))
    (record {
      same = λ ns hidden.
          ap (λ x. binding_has_free (without hidden ns) x || todo ts ns hidden (reverse js)) whole
          ∙ or_assoc (has_free (without hidden ns) h.second) (binding_has_free (without hidden ns) (ahead ts (close + 1))) (todo ts ns hidden (reverse js))
          ∙ ap (λ x. first_free (without hidden ns) x || (binding_has_free (without hidden ns) (ahead ts (close + 1)) || todo ts ns hidden (reverse js))) (sym h.second_is);
      less = omega arith;
    })

no_pair : (ns : List (List ℕ)) (g r : Sexps) → is_pair g ≡ false → binding_has_free ns (group g ▸ r) ≡ binding_has_free ns r
no_pair ns (x ▸ t ▸ end) r e = absurd (cc)
no_pair ns _ r e = refl

pub binding_wrong : (ts : List Token) (i close : ℕ) (js ks : List Job) → ahead ts i ≡ group (ahead ts (i + 1)) ▸ ahead ts (close + 1) → is_pair (ahead ts (i + 1)) ≡ false → ks ≡ js ++ Bindings (close + 1) ∷ []
    → Replaces ts (Bindings i ∷ reverse js) (reverse ks)
binding_wrong ts i close js ks e h f =
    let heavy : weights (ahead ts i) ≡ weights (group (ahead ts (i + 1)) ▸ ahead ts (close + 1)) = ap weights e in
    subst (Replaces ts (Bindings i ∷ reverse js)) (sym (one_pushed js ks (Bindings (close + 1)) f))
    (record {
      same = λ ns hidden.
          ap (λ x. binding_has_free (without hidden ns) x || todo ts ns hidden (reverse js)) e
          ∙ ap (λ b. b || todo ts ns hidden (reverse js)) (no_pair (without hidden ns) (ahead ts (i + 1)) (ahead ts (close + 1)) h);
      less = omega arith;
    })

-- ---- names that are hidden

is_one_of_both : (n : List ℕ) (ms ns : List (List ℕ)) → is_one_of n (ms ++ ns) ≡ (if is_one_of n ms then true else is_one_of n ns)
is_one_of_both n [] ns = refl
is_one_of_both n (m ∷ ms) ns = go (bytes_eq n m) (is_one_of_both n ms ns)
  where
    go : (b : Bool) → is_one_of n (ms ++ ns) ≡ (if is_one_of n ms then true else is_one_of n ns)
        → (if b then true else is_one_of n (ms ++ ns)) ≡ (if (if b then true else is_one_of n ms) then true else is_one_of n ns)
    go true e = refl
    go false e = e

without_both : (ms ks ns : List (List ℕ)) → without (ms ++ ks) ns ≡ without ks (without ms ns)
without_both ms ks [] = refl
without_both ms ks (n ∷ ns) = ap (λ b. if b then without (ms ++ ks) ns else n ∷ without (ms ++ ks) ns) (is_one_of_both n ms ks) ∙ go (is_one_of n ms) (is_one_of n ks) refl (without_both ms ks ns)
  where
    go : (a b : Bool) → is_one_of n ks ≡ b → without (ms ++ ks) ns ≡ without ks (without ms ns)
        → (if (if a then true else b) then without (ms ++ ks) ns else n ∷ without (ms ++ ks) ns) ≡ without ks (if a then without ms ns else n ∷ without ms ns)
    go true b e f = f
    go false true e f = f ∙ sym (ap (λ c. if c then without ks (without ms ns) else n ∷ without ks (without ms ns)) e)
    go false false e f = ap (λ x. n ∷ x) f ∙ sym (ap (λ c. if c then without ks (without ms ns) else n ∷ without ks (without ms ns)) e)

names_count : (bs : List (Bor (List ℕ))) → length (names_of bs) ≡ length bs
names_count [] = refl
names_count (b ∷ bs) = let e = names_count bs in omega arith

taken_back : (ms ks : List (List ℕ)) → take (length ms) (ms ++ ks) ≡ ms
taken_back [] ks = refl
taken_back (m ∷ ms) ks = ap (λ x. m ∷ x) (taken_back ms ks)

nothing_hidden : (ns : List (List ℕ)) → without [] ns ≡ ns
nothing_hidden [] = refl
nothing_hidden (n ∷ ns) = ap (λ x. n ∷ x) (nothing_hidden ns)

names_taken : (k : ℕ) (bs : List (Bor (List ℕ))) → names_of (take k bs) ≡ take k (names_of bs)
names_taken zero bs = refl
names_taken (suc k) [] = refl
names_taken (suc k) (b ∷ bs) = ap (λ x. b.now ∷ x) (names_taken k bs)

pub hidden_more : (xs ys zs ns : List (Bor (List ℕ))) (o : Option (List (List ℕ))) → zs ≡ xs ++ ys → ys ≡ ns → o ≡ Some (names_of ns) → names_of zs ≡ names_of xs ++ names_or_none o
hidden_more xs ys zs ns o e f g = ap names_of (e ∙ ap (λ x. xs ++ x) f) ∙ names_append xs ns ∙ ap (λ x. names_of xs ++ names_or_none x) (sym g)

pub body_opened : (ts : List Token) (w : LetPlaces) (bs cs : List (Bor (List ℕ))) (count : ℕ) (js ks ls : List Job) → names_of cs ≡ names_of bs ++ names_or_none (bound_names (ahead ts w.bindings)) → count ≡ length bs
    → ks ≡ js ++ Unhide count ∷ [] → ls ≡ ks ++ First w.body ∷ [] → Follows ts (names_of bs) (Body w ∷ reverse js) (names_of cs) (reverse ls)
body_opened ts w bs cs count js ks ls e c f g =
    let ms : List (List ℕ) = names_or_none (bound_names (ahead ts w.bindings)) in
    let back : take count (names_of cs) ≡ names_of bs = ap (take count) e ∙ ap (λ k. take k (names_of bs ++ ms)) (c ∙ sym (names_count bs)) ∙ taken_back (names_of bs) ms in
    subst (Follows ts (names_of bs) (Body w ∷ reverse js) (names_of cs)) (sym (two_pushed js ks ls (Unhide count) (First w.body) f g))
    (record {
      same = λ ns.
          ap (λ x. first_free x (ahead ts w.body) || todo ts ns (names_of bs) (reverse js)) (sym (without_both (names_of bs) ms ns) ∙ ap (λ x. without x ns) (sym e))
          ∙ ap (λ x. first_free (without (names_of cs) ns) (ahead ts w.body) || todo ts ns x (reverse js)) (sym back);
      less = omega arith;
    })

pub unhidden : (ts : List Token) (ns : List (List ℕ)) (job : Job) (k : ℕ) (bs cs : List (Bor (List ℕ))) (js : List Job) → job ≡ Unhide k → cs ≡ take k bs → Looks ts ns (names_of bs) (job ∷ js) (names_of cs) js false
unhidden ts ns job k bs cs js e f = subst (λ j. Looks ts ns (names_of bs) (j ∷ js) (names_of cs) js false) (sym e) (ap (λ x. todo ts ns x js) (sym (ap names_of f ∙ names_taken k bs)), omega arith)

or_false : (b : Bool) → (b || false) ≡ b
or_false true = refl
or_false false = refl

pub begun : (ts : List Token) (ns : List (List ℕ)) (p : ℕ) (hs : List (Bor (List ℕ))) (is js : List Job) → hs ≡ [] → is ≡ [] → js ≡ is ++ First p ∷ [] → first_free ns (ahead ts p) ≡ todo ts ns (names_of hs) (reverse js)
begun ts ns p hs is js e f g =
    sym (ap (λ x. todo ts ns (names_of x) (reverse js)) e ∙ ap (λ x. todo ts ns [] x) (one_pushed is js (First p) g ∙ ap (λ x. First p ∷ reverse x) f) ∙ or_false (first_free (without [] ns) (ahead ts p)) ∙ ap (λ x. first_free x (ahead ts p)) (nothing_hidden ns))

pub first_asked : (vs : List Variable) (l : Sexps) (ns : List (List ℕ)) (b : Bool) → first_free ns l ≡ b → variable_names vs ≡ ns → has_free_first vs l ≡ b
first_asked vs end ns b e f = e
first_asked vs (t ▸ rest) ns b e f = ap (λ x. has_free x t) f ∙ e
