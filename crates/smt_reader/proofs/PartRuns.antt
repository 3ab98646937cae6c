-- Bytes that are read, one after another.
use Rattle.std.proofs.Common.{◌≡◌, ◌<◌, ℕ, ◌+◌, Bool, true, false, List, [], ◌∷◌, ◌++◌, length, take, drop, get_or, cond, arith, refl, sym, ◌∙◌, ap, subst, append_assoc, length-drop}
use Rattle.std.specs.List.{prefix_len}
use Rattle.std.proofs.lemmas.List.{append-nil, drop-drop, drop_more}
use Rattle.std.proofs.Math.Seq.{take-add}
use Rattle.smt_reader.specs.declared.part.Part.{Part}
use Rattle.smt_reader.specs.declared.part.Turn.TheVariants.{Adds}
use Rattle.smt_reader.specs.Parts.{goes_on, GoesOnTo, IsPart, Turns, Reads, Passes, Extends}

-- bytes taken behind those that were
taken_further : (bytes : List ℕ) (first more : ℕ) (front : List ℕ) → (front ++ take first bytes) ++ take more (drop first bytes) ≡ front ++ take (first + more) bytes
taken_further bytes first more front = append_assoc front (take first bytes) (take more (drop first bytes)) ∙ ap (λ xs. front ++ xs) (sym (take-add first more bytes))

-- by no byte the content stays, and by bytes and more bytes it becomes what it does by all of them
pub record Growth (grown : List ℕ → List ℕ → List ℕ) : Type 0 where
  by_none : (content : List ℕ) → grown content [] ≡ content
  by_more : (content xs ys : List ℕ) → grown (grown content xs) ys ≡ grown content (xs ++ ys)

pub stays : Growth (λ content front. content)
stays = record { by_none = λ content. refl; by_more = λ content xs ys. refl }

pub gains : Growth (λ content front. content ++ front)
gains = record { by_none = append-nil; by_more = append_assoc }

module _ {grown : List ℕ → List ℕ → List ℕ} (growth : Growth grown) where
  -- no byte is read
  reads_none : (part : Part) (bytes : List ℕ) → Reads grown part part bytes 0
  reads_none part bytes = record {
    within = omega arith;
    part = λ start is. subst (IsPart part) (sym (append-nil start)) is;
    rest = λ start content more.
        ap (λ s. goes_on part s content (bytes ++ more)) (sym (append-nil start))
        ∙ ap (λ c. goes_on part (start ++ []) c (bytes ++ more)) (sym (growth.by_none content));
  }

  -- further bytes are read
  pub reads_more : (old mid later : Part) (bytes : List ℕ) (first more : ℕ) → Reads grown old mid bytes first → Reads grown mid later (drop first bytes) more → Reads grown old later bytes (first + more)
  reads_more old mid later bytes first more p q =
      let taken = taken_further bytes first more in
      record {
        within = omega (arith, p.within, q.within, length-drop first bytes);
        part = λ start is. subst (IsPart later) (taken start) (q.part (start ++ take first bytes) (p.part start is));
        rest = λ start content after.
            p.rest start content after
            ∙ q.rest (start ++ take first bytes) (grown content (take first bytes)) after
            ∙ ap (λ s. goes_on later s (grown (grown content (take first bytes)) (take more (drop first bytes))) (drop more (drop first bytes) ++ after)) (taken start)
            ∙ ap (λ c. goes_on later (start ++ take (first + more) bytes) c (drop more (drop first bytes) ++ after))
            (growth.by_more content (take first bytes) (take more (drop first bytes)) ∙ ap (grown content) (sym (take-add first more bytes)))
            ∙ ap (λ xs. goes_on later (start ++ take (first + more) bytes) (grown content (take (first + more) bytes)) (xs ++ after)) (drop-drop more first bytes);
      }

  -- bytes of a kind are read
  pub reads_while : (part : Part) (is : ℕ → Bool) → ((b : ℕ) (bytes : List ℕ) → is b ≡ true → Reads grown part part (b ∷ bytes) 1) → (bytes : List ℕ) → Reads grown part part bytes (prefix_len is bytes)
  reads_while part is one [] = reads_none part []
  reads_while part is one (b ∷ bytes) = by_test (is b) refl (reads_while part is one bytes) where
    by_test : (t : Bool) → is b ≡ t → Reads grown part part bytes (prefix_len is bytes) → Reads grown part part (b ∷ bytes) (cond t (1 + prefix_len is bytes) 0)
    by_test true e again = reads_more part part part (b ∷ bytes) 1 (prefix_len is bytes) (one b bytes e) again
    by_test false e again = reads_none part (b ∷ bytes)

-- a byte is passed over
pub passes_one : (old later : Part) (b : ℕ) (bytes : List ℕ) → GoesOnTo old b later → Passes old later (b ∷ bytes) 1
passes_one old later b bytes goes = record {
  within = omega arith;
  part = goes.is_part;
  rest = λ start content more. goes.rest start content (bytes ++ more);
}

-- and one more
pub passes_next : (old mid later : Part) (bytes : List ℕ) (passed : ℕ) → passed < length bytes → Passes old mid bytes passed → GoesOnTo mid (get_or bytes passed 0) later → Passes old later bytes (passed + 1)
passes_next old mid later bytes passed lt p goes =
    reads_more stays old mid later bytes passed 1 p
    (subst (λ left. Passes mid later left 1) (sym (drop_more bytes passed 0 lt)) (passes_one mid later (get_or bytes passed 0) (drop (passed + 1) bytes) goes))

-- bytes of a kind are passed over
pub passes_while : (part : Part) (is : ℕ → Bool) → ((b : ℕ) → is b ≡ true → GoesOnTo part b part) → (bytes : List ℕ) → Passes part part bytes (prefix_len is bytes)
passes_while part is goes = reads_while stays part is (λ b bytes e. passes_one part part b bytes (goes b e))

-- a byte is added
extends_one : (old later : Part) (b : ℕ) (bytes : List ℕ) → Turns old b (Adds later) → Extends old later (b ∷ bytes) 1
extends_one old later b bytes adds = record {
  within = omega arith;
  part = adds.0;
  rest = λ start content more. adds.1 start content (bytes ++ more);
}

-- bytes of a kind are added
pub extends_while : (part : Part) (is : ℕ → Bool) → ((b : ℕ) → is b ≡ true → Turns part b (Adds part)) → (bytes : List ℕ) → Extends part part bytes (prefix_len is bytes)
extends_while part is adds = reads_while gains part is (λ b bytes e. extends_one part part b bytes (adds b e))

-- a byte, and those of a kind behind it
pub extends_on : (old later : Part) (b : ℕ) (rest : List ℕ) (more : ℕ) → Turns old b (Adds later) → Extends later later rest more → Extends old later (b ∷ rest) (1 + more)
extends_on old later b rest more adds on = reads_more gains old later later (b ∷ rest) 1 more (extends_one old later b rest adds) on
