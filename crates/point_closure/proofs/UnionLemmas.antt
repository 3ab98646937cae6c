-- Roots of points in a list of unions, and how a walk up the links finds them.
use Rattle.std.proofs.Common.{◌≡◌, ◌≢◌, ℕ, zero, suc, ◌+◌, ◌-◌, ◌^◌, ◌<◌, ◌≤◌, Bool, true, false, List, [], ◌∷◌, ◌++◌, length, take, drop, get_or, set, refl, sym, ap, ◌∙◌, subst, inl, inr, arith}
use Rattle.std.proofs.lemmas.Bool.{cases_lt, cases_eq, eq-eqb}
use Rattle.std.proofs.lemmas.Bool.Decides.{eqb_tells}
use Rattle.std.specs.Prelude.{if◌then◌else◌}
use Rattle.point_closure.specs.declared.classes.Reason.TheVariants.{Alike}
use Rattle.std.proofs.lemmas.List.{take-append-drop, get_or-take, length-take-le, take_all, length_push, get_or_push, get_or_append_left, take-append-le, get_or-set_same, get_or-set_other, length-set, get_or_read}
use Rattle.std.proofs.Math.Seq.{take-suc, take-append_seam}
use Rattle.point_closure.specs.declared.classes.Union.{Union}
use Rattle.point_closure.specs.declared.classes.Link.{Link}
use Rattle.point_closure.specs.Unions.{after, root_of, IsUnion, AreUnions, IsNewest}
use Rattle.point_closure.specs.Links.{link_at, IsLink, AreLinks}

pub root_append : (us vs : List Union) (n : ℕ) → root_of (us ++ vs) n ≡ root_of vs (root_of us n)
unfolding root_of
root_append [] vs n = refl
root_append (u ∷ us) vs n = root_append us vs (after u n)

pub root_one : (u : Union) (n : ℕ) → root_of (u ∷ []) n ≡ after u n
unfolding root_of
root_one u n = refl

pub root_push : (us : List Union) (u : Union) (n : ℕ) → root_of (us ++ u ∷ []) n ≡ after u (root_of us n)
root_push us u n = root_append us (u ∷ []) n ∙ root_one u (root_of us n)

pub root_split : (k : ℕ) (us : List Union) (n : ℕ) → root_of us n ≡ root_of (drop k us) (root_of (take k us) n)
root_split k us n = ap (λ vs. root_of vs n) (sym (take-append-drop k us)) ∙ root_append (take k us) (drop k us) n

pub root_suc : (us : List Union) (k : ℕ) (d : Union) (n : ℕ) → k < length us → root_of (take (suc k) us) n ≡ after (get_or us k d) (root_of (take k us) n)
root_suc us k d n less = ap (λ vs. root_of vs n) (take-suc us k d less) ∙ root_push (take k us) (get_or us k d) n

pub after_other : (u : Union) (n : ℕ) → u.gone ≢ n → after u n ≡ n
after_other u n other = elim (eqb_tells n u.gone) [
  | inl equal ↦ absurd (other (sym equal.1))
  | inr unequal ↦ ap (λ (b : Bool). if b then u.kept else n) unequal.0
]

pub after_gone : (u : Union) (n : ℕ) → u.gone ≡ n → after u n ≡ u.kept
after_gone u n e = ap (λ (b : Bool). if b then u.kept else n) (eq-eqb n u.gone (sym e))

-- a point that no union took away is its own root
pub root_not_gone : (us : List Union) (n : ℕ) → ((j : ℕ) (d : Union) → j < length us → (get_or us j d).gone ≢ n) → root_of us n ≡ n
unfolding root_of
root_not_gone [] n h = refl
root_not_gone (u ∷ us) n h =
    ap (root_of us) (after_other u n (h 0 u (omega arith))) ∙ root_not_gone us n (λ j d less. h (suc j) d (omega arith))

-- a root stays one up to the union that takes it away
pub root_stays : (us : List Union) (i k x p : ℕ) → i ≤ k → k ≤ length us → root_of (take i us) x ≡ p
    → ((j : ℕ) (d : Union) → j < k → (get_or us j d).gone ≢ p) → root_of (take k us) x ≡ p
root_stays us i zero x p i_le within e h = let z : i ≡ zero = omega arith in subst (λ m. root_of (take m us) x ≡ p) z e
root_stays us i (suc k) x p i_le within e h = elim (cases_lt k i) [
  | inl past ↦ let z : i ≡ suc k = omega arith in subst (λ m. root_of (take m us) x ≡ p) z e
  | inr le ↦
      let d : Union = record { gone = 0; kept = 0; from = 0; to = 0; reason = Alike } in
      let before : root_of (take k us) x ≡ p = root_stays us i k x p le (omega arith) e (λ j d less. h j d (omega arith)) in
      root_suc us k d x within ∙ ap (after (get_or us k d)) before ∙ after_other (get_or us k d) p (h k d (omega arith))
]

-- ---- links

abbrev pub nothing : Union
nothing = record { gone = 0; kept = 0; from = 0; to = 0; reason = Alike }

-- a point that is taken away at a union isn't taken away before
pub not_before : (us : List Union) (ls : List Link) (n k : ℕ) → AreLinks us ls → k ≤ (link_at ls n).edge → k ≤ length us
    → (j : ℕ) (d : Union) → j < k → (get_or us j d).gone ≢ n
not_before us ls n k links le within j d less e =
    let at : (link_at ls (get_or us j d).gone).edge ≡ j = links.gone j d (omega arith) in
    let here : (link_at ls n).edge ≡ j = subst (λ m. (link_at ls m).edge ≡ j) e at in
    omega arith

pub root_before : (us : List Union) (ls : List Link) (n k : ℕ) → AreLinks us ls → k ≤ (link_at ls n).edge → k ≤ length us → root_of (take k us) n ≡ n
root_before us ls n k links le within =
    root_not_gone (take k us) n (λ j d less.
    let less' : j < k = omega (arith, length-take-le k us within) in
    subst (λ (u : Union). u.gone ≢ n) (sym (get_or-take k us j d less')) (not_before us ls n k links le within j d less'))

pub root_at_root : (us : List Union) (ls : List Link) (n : ℕ) → AreLinks us ls → length us ≤ (link_at ls n).edge → root_of us n ≡ n
root_at_root us ls n links le = subst (λ vs. root_of vs n ≡ n) (take_all (length us) us (omega arith)) (root_before us ls n (length us) links le (omega arith))

-- ---- a walk up

pub record GoesUp (us : List Union) (ls : List Link) (n : ℕ) : Type 0 where
  pub within : (link_at ls n).up < length ls
  pub same : root_of us n ≡ root_of us (link_at ls n).up
  pub later : (link_at ls n).edge < (link_at ls (link_at ls n).up).edge

union_of : (us : List Union) (ls : List Link) (n : ℕ) → AreLinks us ls → n < length ls → (link_at ls n).edge < length us
    → ((get_or us (link_at ls n).edge nothing).gone ≡ n) × ((get_or us (link_at ls n).edge nothing).kept ≡ (link_at ls n).up)
union_of us ls n links within less = (links.at n within).lower less nothing

pub goes_up : (us : List Union) (ls : List Link) (n : ℕ) → AreLinks us ls → n < length ls → (link_at ls n).edge < length us → GoesUp us ls n
goes_up us ls n links within less =
    let k : ℕ = (link_at ls n).edge in
    let up : ℕ = (link_at ls n).up in
    let u : Union = get_or us k nothing in
    let is : (u.gone ≡ n) × (u.kept ≡ up) = union_of us ls n links within less in
    let later : k < (link_at ls up).edge = subst (λ m. k < (link_at ls m).edge) is.1 (links.later k nothing less) in
    let first : root_of (take (suc k) us) n ≡ up =
    root_suc us k nothing n less ∙ ap (after u) (root_before us ls n k links (omega arith) (omega arith)) ∙ after_gone u n is.0 ∙ is.1 in
    let second : root_of (take (suc k) us) up ≡ up = root_before us ls up (suc k) links (omega arith) (omega arith) in
    record {
      within = subst (λ m. m < length ls) is.1 (links.unions.at k nothing less).kept_within;
      same = root_split (suc k) us n ∙ ap (root_of (drop (suc k) us)) (first ∙ sym second) ∙ sym (root_split (suc k) us up);
      later = later;
    }

-- ---- roots

-- what a union took away is never a root again
pub never_again : (count : ℕ) (us : List Union) → AreUnions count us → (j : ℕ) (d : Union) → j < length us → (i : ℕ) → j < i → i ≤ length us
    → (x : ℕ) → root_of (take i us) x ≢ (get_or us j d).gone
never_again count us unions j d less zero j_less within x e = absurd (omega arith)
never_again count us unions j d less (suc i) j_less within x e =
    let u : Union = get_or us i d in
    let is : IsUnion count (take i us) u = unions.at i d within in
    let here : after u (root_of (take i us) x) ≡ (get_or us j d).gone = sym (root_suc us i d x within) ∙ e in
    elim (cases_eq (root_of (take i us) x) u.gone) [
      | inl gone ↦
          let kept : u.kept ≡ (get_or us j d).gone = sym (after_gone u (root_of (take i us) x) (sym gone)) ∙ here in
          elim (cases_lt j i) [
            | inl before ↦ never_again count us unions j d less i before (omega arith) u.to (is.to_root ∙ kept)
            | inr above ↦
                let same : j ≡ i = omega arith in
                is.different (sym (subst (λ m. u.kept ≡ (get_or us m d).gone) same kept))
          ]
      | inr other ↦
          let stays : root_of (take i us) x ≡ (get_or us j d).gone = sym (after_other u (root_of (take i us) x) (λ f. other (sym f))) ∙ here in
          elim (cases_lt j i) [
            | inl before ↦ never_again count us unions j d less i before (omega arith) x stays
            | inr above ↦
                let same : j ≡ i = omega arith in
                other (subst (λ m. root_of (take i us) x ≡ (get_or us m d).gone) same stays)
          ]
    ]

-- a root is what no union took away
pub root_kept : (count : ℕ) (us : List Union) → AreUnions count us → (x p : ℕ) → root_of us x ≡ p → (j : ℕ) (d : Union) → j < length us → (get_or us j d).gone ≢ p
root_kept count us unions x p e j d less same =
    never_again count us unions j d less (length us) less (omega arith) x (ap (λ vs. root_of vs x) (take_all (length us) us (omega arith)) ∙ e ∙ sym same)

abbrev pub no_edge : ℕ
no_edge = 2 ^ 32 - 1

pub edge_at_root : (us : List Union) (ls : List Link) → AreLinks us ls → (x p : ℕ) → p < length ls → root_of us x ≡ p → (link_at ls p).edge ≡ no_edge
edge_at_root us ls links x p within e = elim (cases_lt (link_at ls p).edge (length us)) [
  | inl less ↦ absurd (root_kept (length ls) us links.unions x p e (link_at ls p).edge nothing less (union_of us ls p links within less).0)
  | inr le ↦ ((links.at p within).root le).0
]

pub edge_small : (us : List Union) (ls : List Link) → AreLinks us ls → (p : ℕ) → p < length ls → (link_at ls p).edge ≤ no_edge
edge_small us ls links p within = elim (cases_lt (link_at ls p).edge (length us)) [
  | inl less ↦ let few : length us < no_edge = links.few in omega arith
  | inr le ↦ let e : (link_at ls p).edge ≡ no_edge = ((links.at p within).root le).0 in omega arith
]

-- ---- one more union, and one less

pub unions_wider : (m n : ℕ) (us : List Union) → m ≤ n → AreUnions m us → AreUnions n us
unions_wider m n us le unions = record {
  at = λ k d less.
      let is : IsUnion m (take k us) (get_or us k d) = unions.at k d less in
      record {
        from_within = (let h : (get_or us k d).from < m = is.from_within in omega arith);
        to_within = (let h : (get_or us k d).to < m = is.to_within in omega arith);
        kept_within = (let h : (get_or us k d).kept < m = is.kept_within in omega arith);
        gone_within = (let h : (get_or us k d).gone < m = is.gone_within in omega arith);
        from_root = is.from_root;
        to_root = is.to_root;
        different = is.different;
      };
}

pub unions_push : (m : ℕ) (us : List Union) (u : Union) → AreUnions m us → IsUnion m us u → AreUnions m (us ++ u ∷ [])
unions_push m us u unions is = record {
  at = λ k d less.
      let less' : k < length us + 1 = subst (λ n. k < n) (length_push us u) less in
      elim (cases_lt k (length us)) [
        | inl before ↦
            subst (λ vs. IsUnion m vs (get_or (us ++ u ∷ []) k d)) (sym (take-append-le k us (u ∷ []) (omega arith)))
            (subst (λ (v : Union). IsUnion m (take k us) v) (sym (get_or_append_left us (u ∷ []) d k before)) (unions.at k d before))
        | inr above ↦
            let e : k ≡ length us = omega arith in
            subst (λ n. IsUnion m (take n (us ++ u ∷ [])) (get_or (us ++ u ∷ []) n d)) (sym e)
            (subst (λ vs. IsUnion m vs (get_or (us ++ u ∷ []) (length us) d)) (sym (take-append_seam us (u ∷ [])))
            (subst (λ (v : Union). IsUnion m us v) (sym (get_or_push us u d (length us) refl)) is))
      ];
}

pub unions_pop : (m : ℕ) (us : List Union) (u : Union) → AreUnions m (us ++ u ∷ []) → AreUnions m us × IsUnion m us u
unions_pop m us u unions =
    let longer : length (us ++ u ∷ []) ≡ length us + 1 = length_push us u in (
      record {
        at = λ k d less.
            subst (λ vs. IsUnion m vs (get_or us k d)) (take-append-le k us (u ∷ []) (omega arith))
            (subst (λ (v : Union). IsUnion m (take k (us ++ u ∷ [])) v) (get_or_append_left us (u ∷ []) d k less) (unions.at k d (omega arith)));
      },
      subst (λ vs. IsUnion m vs u) (take-append_seam us (u ∷ []))
          (subst (λ (v : Union). IsUnion m (take (length us) (us ++ u ∷ [])) v) (get_or_push us u u (length us) refl) (unions.at (length us) u (omega arith))),
    )

pub links_add : (us : List Union) (ls : List Link) → AreLinks us ls → AreLinks us (ls ++ record { up = length ls; edge = no_edge } ∷ [])
links_add us ls links =
    let new : Link = record { up = length ls; edge = no_edge } in
    let d : Link = record { up = 0; edge = 0 } in
    let longer : length (ls ++ new ∷ []) ≡ length ls + 1 = length_push ls new in
    let few : length us < no_edge = links.few in
    record {
      few = links.few;
      unions = unions_wider (length ls) (length (ls ++ new ∷ [])) us (omega arith) links.unions;
      at = λ n within. elim (cases_lt n (length ls)) [
        | inl less ↦ subst (λ (l : Link). IsLink us n l) (sym (get_or_append_left ls (new ∷ []) d n less)) (links.at n less)
        | inr above ↦
            let e : n ≡ length ls = omega arith in
            subst (λ (l : Link). IsLink us n l) (sym (get_or_push ls new d n (sym e)))
            (record { lower = λ lower c. absurd (omega arith); root = λ le. (refl, sym e) })
      ];
      gone = λ k c less. ap (λ (l : Link). l.edge) (get_or_append_left ls (new ∷ []) d (get_or us k c).gone (links.unions.at k c less).gone_within) ∙ links.gone k c less;
      later = λ k c less. subst (λ (l : Link). k < l.edge) (sym (get_or_append_left ls (new ∷ []) d (get_or us k c).kept (links.unions.at k c less).kept_within)) (links.later k c less);
    }

pub links_shorten : (us : List Union) (ls : List Link) (m : ℕ) → AreLinks us ls → AreUnions m us → m ≤ length ls → AreLinks us (take m ls)
links_shorten us ls m links unions le =
    let d : Link = record { up = 0; edge = 0 } in
    let shorter : length (take m ls) ≡ m = length-take-le m ls le in
    record {
      few = links.few;
      unions = subst (λ n. AreUnions n us) (sym shorter) unions;
      at = λ n within.
          let less : n < m = omega arith in
          subst (λ (l : Link). IsLink us n l) (sym (get_or-take m ls n d less)) (links.at n (omega arith));
      gone = λ k c less. ap (λ (l : Link). l.edge) (get_or-take m ls (get_or us k c).gone d (unions.at k c less).gone_within) ∙ links.gone k c less;
      later = λ k c less. subst (λ (l : Link). k < l.edge) (sym (get_or-take m ls (get_or us k c).kept d (unions.at k c less).kept_within)) (links.later k c less);
    }

link_set_other : (ls : List Link) (n m : ℕ) (l : Link) → m ≢ n → link_at (set ls n l) m ≡ link_at ls m
link_set_other ls n m l other = get_or-set_other ls n m l (record { up = 0; edge = 0 }) other

link_set_same : (ls : List Link) (n : ℕ) (l : Link) → n < length ls → link_at (set ls n l) n ≡ l
link_set_same ls n l within = get_or-set_same ls n l (record { up = 0; edge = 0 }) within

join_at : (us : List Union) (ls : List Link) (u : Union) (n : ℕ) → AreLinks us ls → length us + 1 < no_edge → u.gone ≢ n → IsLink us n (link_at ls n) → IsLink (us ++ u ∷ []) n (link_at ls n)
join_at us ls u n links few other is =
    let longer : length (us ++ u ∷ []) ≡ length us + 1 = length_push us u in
    record {
      lower = λ less d. elim (cases_lt (link_at ls n).edge (length us)) [
        | inl before ↦ subst (λ (v : Union). (v.gone ≡ n) × (v.kept ≡ (link_at ls n).up)) (sym (get_or_append_left us (u ∷ []) d (link_at ls n).edge before)) (is.lower before d)
        | inr above ↦ let e : (link_at ls n).edge ≡ no_edge = (is.root above).0 in absurd (omega arith)
      ];
      root = λ le. is.root (omega arith);
    }

pub links_join : (us : List Union) (ls : List Link) (u : Union) → AreLinks us ls → length us + 1 < no_edge → IsUnion (length ls) us u
    → AreLinks (us ++ u ∷ []) (set ls u.gone (record { up = u.kept; edge = length us }))
links_join us ls u links few is =
    let new : Link = record { up = u.kept; edge = length us } in
    let now : List Link = set ls u.gone new in
    let longer : length (us ++ u ∷ []) ≡ length us + 1 = length_push us u in
    let same_length : length now ≡ length ls = length-set ls u.gone new in
    let here : link_at now u.gone ≡ new = link_set_same ls u.gone new is.gone_within in
    record {
      few = omega arith;
      unions = subst (λ m. AreUnions m (us ++ u ∷ [])) (sym same_length) (unions_push (length ls) us u links.unions is);
      at = λ n within. elim (cases_eq n u.gone) [
        | inl e ↦
            subst (λ m. IsLink (us ++ u ∷ []) m (link_at now m)) (sym e)
            (subst (λ (l : Link). IsLink (us ++ u ∷ []) u.gone l) (sym here)
            (record {
              lower = λ less d. subst (λ (v : Union). (v.gone ≡ u.gone) × (v.kept ≡ u.kept)) (sym (get_or_push us u d (length us) refl)) (refl, refl);
              root = λ le. absurd (omega arith);
            }))
        | inr ne ↦
            subst (λ (l : Link). IsLink (us ++ u ∷ []) n l) (sym (link_set_other ls u.gone n new ne))
            (join_at us ls u n links few (λ f. ne (sym f)) (links.at n (omega arith)))
      ];
      gone = λ k d less. elim (cases_lt k (length us)) [
        | inl before ↦
            let kept : (get_or us k d).gone ≢ u.gone = root_kept (length ls) us links.unions u.from u.gone is.from_root k d before in
            subst (λ (v : Union). (link_at now v.gone).edge ≡ k) (sym (get_or_append_left us (u ∷ []) d k before))
            (ap (λ (l : Link). l.edge) (link_set_other ls u.gone (get_or us k d).gone new kept) ∙ links.gone k d before)
        | inr above ↦
            let e : k ≡ length us = omega arith in
            subst (λ m. (link_at now (get_or (us ++ u ∷ []) m d).gone).edge ≡ m) (sym e)
            (subst (λ (v : Union). (link_at now v.gone).edge ≡ length us) (sym (get_or_push us u d (length us) refl)) (ap (λ (l : Link). l.edge) here))
      ];
      later = λ k d less. elim (cases_lt k (length us)) [
        | inl before ↦
            subst (λ (v : Union). k < (link_at now v.kept).edge) (sym (get_or_append_left us (u ∷ []) d k before))
            (elim (cases_eq (get_or us k d).kept u.gone) [
              | inl e ↦ subst (λ m. k < (link_at now m).edge) (sym e) (subst (λ (l : Link). k < l.edge) (sym here) before)
              | inr ne ↦ subst (λ (l : Link). k < l.edge) (sym (link_set_other ls u.gone (get_or us k d).kept new ne)) (links.later k d before)
            ])
        | inr above ↦
            let e : k ≡ length us = omega arith in
            let other : u.kept ≢ u.gone = λ f. is.different (sym f) in
            let edge : (link_at ls u.kept).edge ≡ no_edge = edge_at_root us ls links u.to u.kept is.kept_within is.to_root in
            subst (λ m. m < (link_at now (get_or (us ++ u ∷ []) m d).kept).edge) (sym e)
            (subst (λ (v : Union). length us < (link_at now v.kept).edge) (sym (get_or_push us u d (length us) refl))
            (subst (λ (l : Link). length us < l.edge) (sym (link_set_other ls u.gone u.kept new other)) (omega arith)))
      ];
    }

pub links_part : (us : List Union) (ls : List Link) (u : Union) → AreLinks (us ++ u ∷ []) ls → AreLinks us (set ls u.gone (record { up = u.gone; edge = no_edge }))
links_part us ls u links =
    let new : Link = record { up = u.gone; edge = no_edge } in
    let now : List Link = set ls u.gone new in
    let longer : length (us ++ u ∷ []) ≡ length us + 1 = length_push us u in
    let few : length (us ++ u ∷ []) < no_edge = links.few in
    let popped : AreUnions (length ls) us × IsUnion (length ls) us u = unions_pop (length ls) us u links.unions in
    let is : IsUnion (length ls) us u = popped.1 in
    let same_length : length now ≡ length ls = length-set ls u.gone new in
    let here : link_at now u.gone ≡ new = link_set_same ls u.gone new is.gone_within in
    let edge : (link_at ls u.gone).edge ≡ length us =
    subst (λ (v : Union). (link_at ls v.gone).edge ≡ length us) (get_or_push us u u (length us) refl) (links.gone (length us) u (omega arith)) in
    record {
      few = omega arith;
      unions = subst (λ m. AreUnions m us) (sym same_length) popped.0;
      at = λ n within. elim (cases_eq n u.gone) [
        | inl e ↦
            subst (λ m. IsLink us m (link_at now m)) (sym e)
            (subst (λ (l : Link). IsLink us u.gone l) (sym here) (record { lower = λ less d. absurd (omega arith); root = λ le. (refl, refl) }))
        | inr ne ↦
            let is_n : IsLink (us ++ u ∷ []) n (link_at ls n) = links.at n (omega arith) in
            subst (λ (l : Link). IsLink us n l) (sym (link_set_other ls u.gone n new ne))
            (record {
              lower = λ less d. subst (λ (v : Union). (v.gone ≡ n) × (v.kept ≡ (link_at ls n).up)) (get_or_append_left us (u ∷ []) d (link_at ls n).edge less) (is_n.lower (omega arith) d);
              root = λ le. elim (cases_lt (link_at ls n).edge (length (us ++ u ∷ []))) [
                | inl less ↦
                    let e : (link_at ls n).edge ≡ length us = omega arith in
                    absurd (ne (sym (subst (λ (v : Union). v.gone ≡ n) (ap (λ m. get_or (us ++ u ∷ []) m u) e ∙ get_or_push us u u (length us) refl) (is_n.lower less u).0)))
                | inr above ↦ is_n.root above
              ];
            })
      ];
      gone = λ k d less.
          let at : (link_at ls (get_or us k d).gone).edge ≡ k =
          subst (λ (v : Union). (link_at ls v.gone).edge ≡ k) (get_or_append_left us (u ∷ []) d k less) (links.gone k d (omega arith)) in
          elim (cases_eq (get_or us k d).gone u.gone) [
            | inl e ↦ let bad : (link_at ls u.gone).edge ≡ k = subst (λ m. (link_at ls m).edge ≡ k) e at in absurd (omega arith)
            | inr ne ↦ ap (λ (l : Link). l.edge) (link_set_other ls u.gone (get_or us k d).gone new ne) ∙ at
          ];
      later = λ k d less.
          let at : k < (link_at ls (get_or us k d).kept).edge =
          subst (λ (v : Union). k < (link_at ls v.kept).edge) (get_or_append_left us (u ∷ []) d k less) (links.later k d (omega arith)) in
          elim (cases_eq (get_or us k d).kept u.gone) [
            | inl e ↦ subst (λ m. k < (link_at now m).edge) (sym e) (subst (λ (l : Link). k < l.edge) (sym here) (omega arith))
            | inr ne ↦ subst (λ (l : Link). k < l.edge) (sym (link_set_other ls u.gone (get_or us k d).kept new ne)) at
          ];
    }

pub no_links : AreLinks [] []
no_links = record {
  few = omega arith;
  unions = record { at = λ k d less. absurd (omega arith) };
  at = λ n less. absurd (omega arith);
  gone = λ k d less. absurd (omega arith);
  later = λ k d less. absurd (omega arith);
}

-- ---- two walks up

-- two different points that the walks from two points have come to: the roots of these before some union, and nothing earlier put them into one class
pub record AreMeeting (us : List Union) (ls : List Link) (left right one other : ℕ) : Type 0 where
  pub one_within : one < length ls
  pub other_within : other < length ls
  pub different : one ≢ other
  pub same : root_of us one ≡ root_of us other
  pub time : ℕ
  pub time_within : time ≤ length us
  pub left_root : root_of (take time us) left ≡ one
  pub right_root : root_of (take time us) right ≡ other
  pub one_later : time ≤ (link_at ls one).edge
  pub other_later : time ≤ (link_at ls other).edge

pub meet_start : (us : List Union) (ls : List Link) (left right : ℕ) → left < length ls → right < length ls → left ≢ right → root_of us left ≡ root_of us right → AreMeeting us ls left right left right
unfolding root_of
meet_start us ls left right l r different same = record {
  one_within = l;
  other_within = r;
  different = different;
  same = same;
  time = 0;
  time_within = omega arith;
  left_root = refl;
  right_root = refl;
  one_later = omega arith;
  other_later = omega arith;
}

-- what holds where the first walk goes up by a union
pub record GoesOn (us : List Union) (ls : List Link) (left right one other : ℕ) : Type 0 where
  pub within : (link_at ls one).edge < length us
  pub union : ((get_or us (link_at ls one).edge nothing).gone ≡ one) × ((get_or us (link_at ls one).edge nothing).kept ≡ (link_at ls one).up)
  pub left_root : root_of (take (link_at ls one).edge us) left ≡ one
  pub right_root : root_of (take (link_at ls one).edge us) right ≡ other
  pub other_later : (link_at ls one).edge < (link_at ls other).edge
  pub up : GoesUp us ls one

pub goes_on : (us : List Union) (ls : List Link) (left right one other : ℕ) → AreLinks us ls → AreMeeting us ls left right one other → (link_at ls one).edge ≤ (link_at ls other).edge
    → GoesOn us ls left right one other
goes_on us ls left right one other links m le =
    let k : ℕ = (link_at ls one).edge in
    let small : (link_at ls other).edge ≤ no_edge = edge_small us ls links other m.other_within in
    elim (cases_lt k (length us)) [
      | inl less ↦
          let union : ((get_or us k nothing).gone ≡ one) × ((get_or us k nothing).kept ≡ (link_at ls one).up) = union_of us ls one links m.one_within less in
          record {
            within = less;
            union = union;
            left_root = root_stays us m.time k left one m.one_later (omega arith) m.left_root (not_before us ls one k links (omega arith) (omega arith));
            right_root = root_stays us m.time k right other (let h : m.time ≤ k = m.one_later in omega arith) (omega arith) m.right_root (not_before us ls other k links le (omega arith));
            other_later = elim (cases_eq k (link_at ls other).edge) [
              | inl e ↦
                  let less' : (link_at ls other).edge < length us = omega arith in
                  let gone : (get_or us (link_at ls other).edge nothing).gone ≡ other = (union_of us ls other links m.other_within less').0 in
                  absurd (m.different (sym union.0 ∙ ap (λ n. (get_or us n nothing).gone) e ∙ gone))
              | inr ne ↦ omega arith
            ];
            up = goes_up us ls one links m.one_within less;
          }
      | inr above ↦
          let e : k ≡ no_edge = ((links.at one m.one_within).root above).0 in
          let few : length us < no_edge = links.few in
          absurd (m.different (sym (root_at_root us ls one links above) ∙ m.same ∙ root_at_root us ls other links (omega arith)))
    ]

pub meet_turned : (us : List Union) (ls : List Link) (left right one other : ℕ) → AreMeeting us ls left right one other → AreMeeting us ls right left other one
meet_turned us ls left right one other m = record {
  one_within = m.other_within;
  other_within = m.one_within;
  different = λ e. m.different (sym e);
  same = sym m.same;
  time = m.time;
  time_within = m.time_within;
  left_root = m.right_root;
  right_root = m.left_root;
  one_later = m.other_later;
  other_later = m.one_later;
}

pub meet_more : (us : List Union) (ls : List Link) (left right one other : ℕ) → AreLinks us ls → AreMeeting us ls left right one other → GoesOn us ls left right one other
    → (link_at ls one).up ≢ other → AreMeeting us ls left right (link_at ls one).up other
meet_more us ls left right one other links m on ne =
    let k : ℕ = (link_at ls one).edge in
    let u : Union = get_or us k nothing in
    let unlike : u.gone ≢ other = λ e. m.different (sym on.union.0 ∙ e) in
    record {
      one_within = on.up.within;
      other_within = m.other_within;
      different = ne;
      same = sym on.up.same ∙ m.same;
      time = suc k;
      time_within = on.within;
      left_root = root_suc us k nothing left on.within ∙ ap (after u) on.left_root ∙ after_gone u one on.union.0 ∙ on.union.1;
      right_root = root_suc us k nothing right on.within ∙ ap (after u) on.right_root ∙ after_other u other unlike;
      one_later = on.up.later;
      other_later = on.other_later;
    }

pub nothing_else : (us : List Union) (k : ℕ) (c d : Union) → k < length us → get_or us k c ≡ get_or us k d
nothing_else [] k c d less = absurd (omega arith)
nothing_else (u ∷ us) zero c d less = refl
nothing_else (u ∷ us) (suc k) c d less = nothing_else us k c d (omega arith)

pub meet_left : (us : List Union) (ls : List Link) (left right one other : ℕ) → GoesOn us ls left right one other → (link_at ls one).up ≡ other
    → IsNewest us left right (record { union = (link_at ls one).edge; turned = false })
meet_left us ls left right one other on e = record {
  within = on.within;
  left_root = λ d. on.left_root ∙ sym on.union.0 ∙ ap (λ (u : Union). u.gone) (nothing_else us (link_at ls one).edge nothing d on.within);
  right_root = λ d. on.right_root ∙ sym e ∙ sym on.union.1 ∙ ap (λ (u : Union). u.kept) (nothing_else us (link_at ls one).edge nothing d on.within);
}

pub meet_right : (us : List Union) (ls : List Link) (left right one other : ℕ) → GoesOn us ls right left other one → (link_at ls other).up ≡ one
    → IsNewest us left right (record { union = (link_at ls other).edge; turned = true })
meet_right us ls left right one other on e = record {
  within = on.within;
  left_root = λ d. on.right_root ∙ sym e ∙ sym on.union.1 ∙ ap (λ (u : Union). u.kept) (nothing_else us (link_at ls other).edge nothing d on.within);
  right_root = λ d. on.left_root ∙ sym on.union.0 ∙ ap (λ (u : Union). u.gone) (nothing_else us (link_at ls other).edge nothing d on.within);
}

-- ---- links as they are read

pub link_read : (ls : List Link) (n : ℕ) (r : Link) → n < length ls → r ≡ get_or ls n r → link_at ls n ≡ r
link_read ls n r within e = sym (get_or_read ls n r within e (record { up = 0; edge = 0 }))

pub not_root : (us : List Union) (ls : List Link) (n : ℕ) → AreLinks us ls → n < length ls → (link_at ls n).edge ≢ no_edge → (link_at ls n).edge < length us
not_root us ls n links within ne = elim (cases_lt (link_at ls n).edge (length us)) [
  | inl less ↦ less
  | inr above ↦ absurd (ne ((links.at n within).root above).0)
]

pub record ReadsUp (us : List Union) (ls : List Link) (n up : ℕ) : Type 0 where
  pub within : up < length ls
  pub same : root_of us up ≡ root_of us n
  pub later : (link_at ls n).edge < (link_at ls up).edge
  pub small : (link_at ls n).edge < no_edge

pub reads_up : (us : List Union) (ls : List Link) (n : ℕ) (r : Link) → AreLinks us ls → n < length ls → r ≡ get_or ls n r → r.edge ≢ no_edge → ReadsUp us ls n r.up
reads_up us ls n r links within e ne =
    let is : link_at ls n ≡ r = link_read ls n r within e in
    let less : (link_at ls n).edge < length us = not_root us ls n links within (λ f. ne (sym (ap (λ (l : Link). l.edge) is) ∙ f)) in
    let few : length us < no_edge = links.few in
    let up : GoesUp us ls n = goes_up us ls n links within less in
    subst (λ (l : Link). ReadsUp us ls n l.up) is (record { within = up.within; same = sym up.same; later = up.later; small = omega arith })

pub reads_root : (us : List Union) (ls : List Link) (n : ℕ) (r : Link) → AreLinks us ls → n < length ls → r ≡ get_or ls n r → r.edge ≡ no_edge → root_of us n ≡ n
reads_root us ls n r links within e root =
    let is : link_at ls n ≡ r = link_read ls n r within e in
    let few : length us < no_edge = links.few in
    root_at_root us ls n links (let f : (link_at ls n).edge ≡ no_edge = ap (λ (l : Link). l.edge) is ∙ root in omega arith)

-- one step of two walks
pub record ReadsOn (us : List Union) (ls : List Link) (left right one other : ℕ) (r : Link) : Type 0 where
  pub found : r.up ≡ other → IsNewest us left right (record { union = r.edge; turned = false })
  pub found_turned : r.up ≡ other → IsNewest us right left (record { union = r.edge; turned = true })
  pub more : r.up ≢ other → AreMeeting us ls left right r.up other
  pub later : (link_at ls one).edge < (link_at ls r.up).edge
  pub small : (link_at ls one).edge < no_edge

pub reads_on : (us : List Union) (ls : List Link) (left right one other : ℕ) (r s : Link) → AreLinks us ls → AreMeeting us ls left right one other
    → r ≡ get_or ls one r → s ≡ get_or ls other s → r.edge ≤ s.edge → ReadsOn us ls left right one other r
reads_on us ls left right one other r s links m e f le =
    let is : link_at ls one ≡ r = link_read ls one r m.one_within e in
    let is' : link_at ls other ≡ s = link_read ls other s m.other_within f in
    let a : (link_at ls one).edge ≡ r.edge = ap (λ (l : Link). l.edge) is in
    let b : (link_at ls other).edge ≡ s.edge = ap (λ (l : Link). l.edge) is' in
    let on : GoesOn us ls left right one other = goes_on us ls left right one other links m (omega arith) in
    let few : length us < no_edge = links.few in
    subst (λ (l : Link). ReadsOn us ls left right one other l) is (record {
      found = meet_left us ls left right one other on;
      found_turned = meet_right us ls right left other one on;
      more = meet_more us ls left right one other links m on;
      later = on.up.later;
      small = (let w : (link_at ls one).edge < length us = on.within in omega arith);
    })
