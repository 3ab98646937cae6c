-- The applications that are kept, a place at a time.
use Rattle.std.proofs.Common.{◌≡◌, ℕ, ◌+◌, ◌-◌, ◌<◌, ◌≤◌, List, [], ◌∷◌, ◌++◌, length, get_or, map, All, refl, sym, ap, subst, ◌∙◌, inl, inr, arith}
use Rattle.std.specs.Prelude.{AllPairs, Contains, ◌⊎◌, MatchOption, IfSome, IfNone, Option, Some, None}
use Rattle.term_store.specs.Latest.{last_place}
use Rattle.std.proofs.lemmas.Bool.{cases_lt}
use Rattle.std.proofs.lemmas.List.Elements.{All-push, All-contains, Contains-append_left, Contains-push}
use Rattle.std.proofs.lemmas.List.Quantifiers.{all_pairs_push}
use Rattle.std.proofs.lemmas.List.{length_push, get_or_default, get_or-map, length-map}
use Rattle.smt_meaning.specs.Term.{Tree}
use Rattle.model_build.specs.declared.given.Given.{Given}
use Rattle.model_build.specs.Given.{given_at, arguments_given, IsApplication, AreAlike, IsClash, HasNoClash}
use Rattle.model_build.specs.Keys.{symbol_of, symbol_at, hash_at, key_hash, IsApplicationOf, HasKey, HaveOneKey, IsKeptFor, AreFirst}
use Rattle.model_build.proofs.Alike.{alike_back, alike_along, alike_self, alike_hash}
use Rattle.term_store.proofs.Links.{IsLink, Goes, goes, goes_on}

pub symbol_is : (ts : List Tree) (gs : List Given) (f p : ℕ) → IsApplication ts gs f p → symbol_at ts p ≡ f
symbol_is ts gs f p a = ap symbol_of a.symbol

pub own_symbol : (ts : List Tree) (gs : List Given) (f p : ℕ) → IsApplication ts gs f p → IsApplication ts gs (symbol_at ts p) p
own_symbol ts gs f p a = subst (λ g. IsApplication ts gs g p) (sym (symbol_is ts gs f p a)) a

pub key_back : (ts : List Tree) (gs : List Given) (p q : ℕ) → HaveOneKey ts gs p q → HaveOneKey ts gs q p
key_back ts gs p q k = record { symbol = sym k.symbol; alike = alike_back (arguments_given ts gs p) (arguments_given ts gs q) k.alike }

pub key_along : (ts : List Tree) (gs : List Given) (p q r : ℕ) → HaveOneKey ts gs p q → HaveOneKey ts gs q r → HaveOneKey ts gs p r
key_along ts gs p q r a b =
    record { symbol = b.symbol ∙ a.symbol; alike = alike_along (arguments_given ts gs p) (arguments_given ts gs q) (arguments_given ts gs r) a.alike b.alike }

-- one key, one hash
pub hash_is : (ts : List Tree) (gs : List Given) (f q : ℕ) (arguments : List Given) → HasKey ts gs f arguments q → hash_at ts gs q ≡ key_hash f arguments
hash_is ts gs f q arguments k = ap (λ g. key_hash g (arguments_given ts gs q)) k.symbol ∙ sym (alike_hash f arguments (arguments_given ts gs q) k.alike)

-- the key of an application that is read
pub read_key : (ts : List Tree) (gs : List Given) (p f q : ℕ) (is : List ℕ) → IsApplicationOf ts gs p f is → HasKey ts gs f (map (given_at gs) is) q → HaveOneKey ts gs p q
read_key ts gs p f q is a k =
    record { symbol = k.symbol ∙ sym (symbol_is ts gs f p a.application); alike = subst (λ xs. AreAlike xs (arguments_given ts gs q)) (sym a.arguments) k.alike }

pub unread_key : (ts : List Tree) (gs : List Given) (p f q : ℕ) (is : List ℕ) → IsApplicationOf ts gs p f is → HaveOneKey ts gs p q → HasKey ts gs f (map (given_at gs) is) q
unread_key ts gs p f q is a k =
    record { symbol = k.symbol ∙ symbol_is ts gs f p a.application; alike = subst (λ xs. AreAlike xs (arguments_given ts gs q)) a.arguments k.alike }

module _ (ts : List Tree) (gs : List Given) where
  kept_more : (ps : List ℕ) (x p : ℕ) → IsKeptFor ts gs ps p → IsKeptFor ts gs (ps ++ x ∷ []) p
  kept_more ps x p k = record { kept = k.kept; member = Contains-append_left ps (x ∷ []) k.kept k.member; key = k.key; same = k.same }

  pub first_none : AreFirst ts gs 0 []
  first_none = record {
    few = omega arith;
    applications = λ k d h. absurd (omega arith);
    apart = λ i j d h g. absurd (omega arith);
    all = λ f p h a. absurd (omega arith);
  }

  -- at a place for which one is kept, or that isn't an application
  first_on : (top : ℕ) (ps : List ℕ) → AreFirst ts gs top ps → ((f : ℕ) → IsApplication ts gs f top → IsKeptFor ts gs ps top) → AreFirst ts gs (top + 1) ps
  first_on top ps first here = record {
    few = (let few = first.few in omega arith);
    applications = first.applications;
    apart = first.apart;
    all = λ f p below a. at f p below a (cases_lt p top);
  }
    where
      at : (f p : ℕ) → p < top + 1 → IsApplication ts gs f p → (p < top) ⊎ (top ≤ p) → IsKeptFor ts gs ps p
      at f p below a (inl less) = first.all f p less a
      at f p below a (inr above) = let e : p ≡ top = omega arith in subst (λ q. IsKeptFor ts gs ps q) (sym e) (here f (subst (λ q. IsApplication ts gs f q) e a))

  pub first_skip : (top : ℕ) (ps : List ℕ) → AreFirst ts gs top ps → ((f : ℕ) → IsApplication ts gs f top → ⊥) → AreFirst ts gs (top + 1) ps
  first_skip top ps first none = first_on top ps first (λ f a. absurd (none f a))

  pub first_same : (top : ℕ) (ps : List ℕ) (q f : ℕ) (is : List ℕ) → AreFirst ts gs top ps → IsApplicationOf ts gs top f is → Contains ps q → HasKey ts gs f (map (given_at gs) is) q
      → given_at gs q ≡ given_at gs top → AreFirst ts gs (top + 1) ps
  first_same top ps q f is first a member key same =
      first_on top ps first (λ g b. record { kept = q; member = member; key = read_key ts gs top f q is a key; same = sym same })

  pub first_push : (top : ℕ) (ps : List ℕ) (f : ℕ) (is : List ℕ) → AreFirst ts gs top ps → IsApplicationOf ts gs top f is → All (λ q. HasKey ts gs f (map (given_at gs) is) q → ⊥) ps
      → AreFirst ts gs (top + 1) (ps ++ top ∷ [])
  first_push top ps f is first a new = record {
    few = (let few = first.few in omega (arith, length_push ps top));
    applications = All-push (λ p. IsApplication ts gs (symbol_at ts p) p) ps top first.applications (own_symbol ts gs f top a.application);
    apart = all_pairs_push (λ p q. HaveOneKey ts gs p q → ⊥) ps top first.apart
        (λ k d h one. new k d h (unread_key ts gs top f (get_or ps k d) is a (key_back ts gs (get_or ps k d) top one)));
    all = λ g p below b. at g p below b (cases_lt p top);
  }
    where
      at : (g p : ℕ) → p < top + 1 → IsApplication ts gs g p → (p < top) ⊎ (top ≤ p) → IsKeptFor ts gs (ps ++ top ∷ []) p
      at g p below b (inl less) = kept_more ps top p (first.all g p less b)
      at g p below b (inr above) =
          let e : p ≡ top = omega arith in
          subst (λ q. IsKeptFor ts gs (ps ++ top ∷ []) q) (sym e) (record { kept = top; member = Contains-push ps top; key = itself; same = refl })
        where
          itself : HaveOneKey ts gs top top
          itself = record { symbol = refl; alike = alike_self (arguments_given ts gs top) }

  -- two that are given different values
  pub clash_here : (top : ℕ) (ps : List ℕ) (q f : ℕ) (is : List ℕ) → AreFirst ts gs top ps → IsApplicationOf ts gs top f is → Contains ps q → HasKey ts gs f (map (given_at gs) is) q
      → (given_at gs q ≡ given_at gs top → ⊥) → IsClash ts gs q top
  clash_here top ps q f is first a member key differ =
      let one : HaveOneKey ts gs q top = key_back ts gs top q (read_key ts gs top f q is a key) in
      record {
        symbol = f;
        first = subst (λ g. IsApplication ts gs g q) key.symbol (All-contains (λ p. IsApplication ts gs (symbol_at ts p) p) ps q first.applications member);
        second = a.application;
        alike = one.alike;
        differ = differ;
      }

  pub one_of : (ps : List ℕ) (j k : ℕ) → AllPairs (λ p q. HaveOneKey ts gs p q → ⊥) ps → Contains ps j → Contains ps k → HaveOneKey ts gs j k → j ≡ k
  one_of ps j k apart a b one =
      elim (cases_lt a.0 b.0) [
        | inl less ↦ absurd (at a.0 b.0 j k less b.1 a.2 b.2 one)
        | inr above ↦ elim (cases_lt b.0 a.0) [
          | inl less ↦ absurd (at b.0 a.0 k j less a.1 b.2 a.2 (key_back ts gs j k one))
          | inr below ↦
              let e : a.0 ≡ b.0 = omega arith in
              sym a.2 ∙ ap (λ n. get_or ps n j) e ∙ get_or_default ps b.0 j k b.1 ∙ b.2
        ]
      ]
    where
      at : (m n x y : ℕ) → m < n → n < length ps → get_or ps m x ≡ x → get_or ps n y ≡ y → HaveOneKey ts gs x y → ⊥
      at m n x y less within ex ey k =
          apart m n 0 less within
          (subst (λ u. HaveOneKey ts gs u (get_or ps n 0)) (sym (get_or_default ps m 0 x (omega arith) ∙ ex)) (subst (λ u. HaveOneKey ts gs x u) (sym (get_or_default ps n 0 y within ∙ ey)) k))

  -- where each application is given what the one that is kept for it is given, there is no clash
  pub no_clash : (ps : List ℕ) → AreFirst ts gs (length ts) ps → HasNoClash ts gs
  no_clash ps first p q clash =
      let kp = first.all clash.symbol p clash.first.within clash.first in
      let kq = first.all clash.symbol q clash.second.within clash.second in
      let pq : HaveOneKey ts gs p q = record { symbol = symbol_is ts gs clash.symbol q clash.second ∙ sym (symbol_is ts gs clash.symbol p clash.first); alike = clash.alike } in
      let one = key_along ts gs kp.kept p kq.kept (key_back ts gs p kp.kept kp.key) (key_along ts gs p q kq.kept pq kq.key) in
      clash.differ (kp.same ∙ ap (given_at gs) (one_of ps kp.kept kq.kept first.apart kp.member kq.member one) ∙ sym kq.same)

-- ---- the search for one that is kept

-- no place from the link on has the key
pub record Passed (ts : List Tree) (gs : List Given) (ps keys : List ℕ) (f : ℕ) (arguments : List Given) (hash link : ℕ) : Type 0 where
  pub is_link : IsLink keys hash link
  pub passed : (k : ℕ) → link ≤ k → k < length ps → HasKey ts gs f arguments (get_or ps k 0) → ⊥

module _ (ts : List Tree) (gs : List Given) (ps keys : List ℕ) (f : ℕ) (arguments : List Given) (hash : ℕ) (hashed : keys ≡ map (hash_at ts gs) ps) (is_hash : hash ≡ key_hash f arguments) where
  length-keys : length keys ≡ length ps
  length-keys = ap length hashed ∙ length-map ps (hash_at ts gs)

  key_at : (k : ℕ) → k < length ps → HasKey ts gs f arguments (get_or ps k 0) → get_or keys k 0 ≡ hash
  key_at k h key = ap (λ xs. get_or xs k 0) hashed ∙ get_or-map (hash_at ts gs) ps k 0 0 h ∙ hash_is ts gs f (get_or ps k 0) arguments key ∙ sym is_hash

  pub passed_start : (link : ℕ) → link ≡ last_place keys hash (length keys) → Passed ts gs ps keys f arguments hash link
  passed_start link e =
      let g = goes keys hash (length keys) link (omega arith) e in
      record { is_link = g.is_link; passed = λ k above less key. g.others k above (omega (arith, length-keys)) (key_at k less key) }

  pub passed_on : (link next : ℕ) → Passed ts gs ps keys f arguments hash link → 0 < link → (HasKey ts gs f arguments (get_or ps (link - 1) 0) → ⊥) → next ≡ last_place keys (get_or keys (link - 1) 0) (link - 1)
      → Passed ts gs ps keys f arguments hash next × (next < link)
  passed_on link next p some other e =
      let g = goes_on keys hash link next p.is_link some e in
      let down = g.down in
      (record { is_link = g.is_link; passed = λ k above less key. at g k above less key (cases_lt k (link - 1)) (cases_lt k link) }, omega arith)
    where
      at : Goes keys hash (link - 1) next → (k : ℕ) → next ≤ k → k < length ps → HasKey ts gs f arguments (get_or ps k 0) → (k < link - 1) ⊎ (link - 1 ≤ k) → (k < link) ⊎ (link ≤ k) → ⊥
      at g k above less key (inl below) u = g.others k above below (key_at k less key)
      at g k above less key (inr from) (inl below) = let same : k ≡ link - 1 = omega arith in other (subst (λ n. HasKey ts gs f arguments (get_or ps n 0)) same key)
      at g k above less key (inr from) (inr beyond) = p.passed k beyond less key

  pub passed_all : (link : ℕ) → Passed ts gs ps keys f arguments hash link → link ≤ 0 → All (λ q. HasKey ts gs f arguments q → ⊥) ps
  passed_all link p none k d h = subst (λ q. HasKey ts gs f arguments q → ⊥) (get_or_default ps k 0 d h) (p.passed k (omega arith) h)

-- what follows where values are compared
pub compared : (r : Option ℕ) (q : ℕ) (S A : Type 0) (B : ℕ → Type 0) → IfNone r S → IfSome r (λ x. (x ≡ q) × (S → ⊥)) → (S → A) → ((S → ⊥) → B q) → MatchOption r A B
compared None q S A B s d a b = a s
compared (Some x) q S A B s d a b = subst B (sym d.0) (b d.1)
