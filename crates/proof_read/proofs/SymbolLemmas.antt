-- The first function of each name is filed.
use Rattle.std.proofs.Common.{◌≡◌, ℕ, ◌+◌, ◌<◌, List, [], ◌∷◌, ◌++◌, length, get_or, take, ap, sym, subst, ◌∙◌, refl, arith, Bool, true, false, not, ◌&&◌, Option, Some, None}
use Rattle.std.specs.Prelude.{if◌then◌else◌, bytes_eq}
use Rattle.std.specs.Option.{option_map}
use Rattle.std.proofs.lemmas.List.{take_more, reverse-append, map-append}
use Rattle.std.proofs.lemmas.Slice.Eq.{bytes_eq-Decides}
use Rattle.smt_meaning.specs.Declaration.{Declaration}
use Rattle.smt_meaning.specs.Signature.{find_function}
use Rattle.term_store.specs.Newest.{first_named, newest_named, IsNewest, name_hash, hashes_of}
use Rattle.proof_read.specs.declared.symbols.Function.{Function}
use Rattle.proof_read.specs.SymbolTable.{name_of, filed, or_this, Files, FilesMore}

and_false : (b : Bool) → (b && false) ≡ false
and_false true = refl
and_false false = refl

this_is : (n : List ℕ) (d : Declaration) (b : Bool) → (bytes_eq n d.name && not d.is_sort) ≡ b → or_this n d None ≡ (if b then Some d else None)
this_is n d b e = ap (λ c. if c then Some d else None) e

-- where one is found, or this is none of the name, nothing is added
stays : (n : List ℕ) (d : Declaration) (o : Option Declaration) → (o ≡ None → (bytes_eq n d.name && not d.is_sort) ≡ false) → o ≡ or_this n d o
stays n d (Some e) h = refl
stays n d None h = sym (this_is n d false (h refl))

-- a sort changes nothing
pub files_sort : (fs : List Function) (d : Declaration) (hashes : List ℕ) → hashes ≡ hashes_of name_of fs → d.is_sort ≡ true → FilesMore fs d fs hashes
files_sort fs d hashes h e = record { hashed = h; found = λ n. stays n d (filed n fs) (λ f. ap (λ b. bytes_eq n d.name && not b) e ∙ and_false (bytes_eq n d.name)) }

found_is : (fs : List Function) (n : List ℕ) (i : ℕ) → IsNewest name_of n fs i → filed n fs ≡ None → ⊥
found_is [] n i h e = let short : i < 0 = h.within in absurd (omega arith)
found_is (f ∷ fs) n i h e = let g = ap (option_map (λ (x : Function). x.declaration.now)) (h.newest f) in absurd (cc)

-- nor does a function of a name that is filed
files_found : (fs : List Function) (d : Declaration) (hashes : List ℕ) (i : ℕ) → hashes ≡ hashes_of name_of fs → IsNewest name_of d.name fs i → FilesMore fs d fs hashes
files_found fs d hashes i h k = record { hashed = h; found = λ n. stays n d (filed n fs) (λ f. go n (bytes_eq n d.name) refl f) }
  where
    go : (n : List ℕ) (b : Bool) → bytes_eq n d.name ≡ b → filed n fs ≡ None → (b && not d.is_sort) ≡ false
    go n false e f = refl
    go n true e f = let same : n ≡ d.name = (bytes_eq-Decides n d.name).0 e in absurd (found_is fs d.name i k (ap (λ m. filed m fs) (sym same) ∙ f))

pub files_found_at : (fs gs : List Function) (d : Declaration) (n : List ℕ) (hashes : List ℕ) (i : ℕ) → hashes ≡ hashes_of name_of fs → gs ≡ fs → n ≡ d.name → IsNewest name_of n gs i → FilesMore fs d fs hashes
files_found_at fs gs d n hashes i h e f k = files_found fs d hashes i h (subst (λ m. IsNewest name_of m fs i) f (subst (λ xs. IsNewest name_of n xs i) e k))

newest_more : (n : List ℕ) (fs : List Function) (f : Function) → newest_named name_of n (fs ++ f ∷ []) ≡ (if bytes_eq n (name_of f) then Some f else newest_named name_of n fs)
newest_more n fs f = ap (first_named name_of n) (reverse-append fs (f ∷ []))

pub files_new : (fs new : List Function) (d : Declaration) (f : Function) (old hashes : List ℕ) (h : ℕ) → old ≡ hashes_of name_of fs → d.is_sort ≡ false → newest_named name_of d.name fs ≡ None → f.declaration.now ≡ d
    → new ≡ fs ++ f ∷ [] → h ≡ name_hash d.name → hashes ≡ old ++ h ∷ [] → FilesMore fs d new hashes
files_new fs new d f old hashes h e s none is more hash filed_too = record {
  hashed =
      filed_too ∙ ap (λ hs. hs ++ h ∷ []) e ∙ ap (λ k. hashes_of name_of fs ++ k ∷ []) (hash ∙ ap (λ (x : Declaration). name_hash x.name) (sym is))
      ∙ sym (ap (hashes_of name_of) more ∙ map-append (λ (x : Function). name_hash (name_of x)) fs (f ∷ []));
  found =
      λ n.
      ap (filed n) more ∙ ap (option_map (λ (x : Function). x.declaration.now)) (newest_more n fs f) ∙ ap (λ m. option_map (λ (x : Function). x.declaration.now) (if bytes_eq n m then Some f else newest_named name_of n fs)) (ap (λ (x : Declaration). x.name) is)
      ∙ go n (bytes_eq n d.name) refl;
}
  where
    kind : (not d.is_sort) ≡ true
    kind = ap not s

    after : (n : List ℕ) (o : Option Declaration) → o ≡ None → Some d ≡ (if (true && not d.is_sort) then Some d else None) → bytes_eq n d.name ≡ true → Some d ≡ or_this n d o
    after n (Some x) a b c = absurd (cc)
    after n None a b c = b ∙ ap (λ t. if (t && not d.is_sort) then Some d else None) (sym c)

    go : (n : List ℕ) (b : Bool) → bytes_eq n d.name ≡ b → option_map (λ (x : Function). x.declaration.now) (if b then Some f else newest_named name_of n fs) ≡ or_this n d (filed n fs)
    go n false g = stays n d (filed n fs) (λ _. ap (λ t. t && not d.is_sort) g)
    go n true g =
        let same : n ≡ d.name = (bytes_eq-Decides n d.name).0 g in
        ap Some is
        ∙ after n (filed n fs) (ap (λ m. filed m fs) same ∙ ap (option_map (λ (x : Function). x.declaration.now)) none) (ap (λ t. if t then Some d else None) (sym kind)) g

-- ---- all declarations

function_after : (n : List ℕ) (ds : List Declaration) (d : Declaration) → find_function n (ds ++ d ∷ []) ≡ or_this n d (find_function n ds)
function_after n [] d = refl
function_after n (x ∷ ds) d = ap (λ o. if bytes_eq n x.name && not x.is_sort then Some x else o) (function_after n ds d) ∙ go (bytes_eq n x.name && not x.is_sort)
  where
    go : (b : Bool) → (if b then Some x else or_this n d (find_function n ds)) ≡ or_this n d (if b then Some x else find_function n ds)
    go true = refl
    go false = refl

pub files_more : (ds : List Declaration) (i : ℕ) (d : Declaration) (fs new : List Function) (old hashes : List ℕ) → i < length ds → d ≡ get_or ds i d → Files (take i ds) fs old → FilesMore fs d new hashes
    → Files (take (i + 1) ds) new hashes
files_more ds i d fs new old hashes lt is h k = record {
  hashed = k.hashed;
  found =
      λ n. k.found n ∙ ap (or_this n d) (h.found n) ∙ sym (function_after n (take i ds) d) ∙ ap (find_function n) (ap (λ x. take i ds ++ x ∷ []) is ∙ sym (take_more ds i d lt));
}
