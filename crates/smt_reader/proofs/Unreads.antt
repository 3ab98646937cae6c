-- What the reader keeps and answers.
use Rattle.std.proofs.Common.{◌≡◌, ◌≤◌, ◌<◌, ◌^◌, ℕ, ◌+◌, Bool, false, List, ◌++◌, length, drop, take, ◌-◌, arith, sym, ◌∙◌, ap, subst, length-append, length-drop}
use Rattle.std.proofs.lemmas.List.{drop-drop, drop-append-le, take_rest}
use Rattle.smt_meaning.specs.Reading.{Lexes, Answer, ready, fault, Unread, HasFault, IsSettled, Takes}
use Rattle.smt_meaning.specs.declared.tokens.Token.{Token}
use Rattle.smt_meaning.specs.declared.tokens.FaultKind.{FaultKind}
use Rattle.smt_reader.specs.declared.scan.Scan.{Scan}
use Rattle.smt_reader.specs.declared.scan.Found.{Found}
use Rattle.smt_reader.specs.declared.scan.Found.TheVariants.{Ready, Fault, NeedMore}
use Rattle.smt_reader.specs.Scan.{IsScan, IsUnsettled, Finds, IsReading}
use Rattle.smt_reader.proofs.Scanned.{scan_fed}

-- a piece is behind the bytes
pub reading_fed : (items piece : List ℕ) (base at : ℕ) (s : Scan) → IsReading items base at s → base + length items + length piece < 2 ^ 64 → IsReading (items ++ piece) base at s
reading_fed items piece base at s r room = record {
  within = omega (arith, r.within, length-append items piece);
  room = omega (arith, length-append items piece);
  scan = subst (λ bytes. IsScan bytes s) (sym (drop-append-le at items piece r.within)) (scan_fed (drop at items) piece s r.scan);
}

pub fed_room : (items : List ℕ) (base at n : ℕ) (finished : Bool) (now old : Unread) → at ≤ length items → record { place = base + at; bytes = drop at items; finished = finished } ≡ now → now ≡ old
    → old.place + length old.bytes + n < 2 ^ 64 → base + length items + n < 2 ^ 64
fed_room items base at n finished now old within is same room =
    let e = is ∙ same in
    omega (arith, ap (λ u. u.place) e, ap (λ u. length u.bytes) e, length-drop at items)

-- what was found in the bytes behind a place
pub found_in : (all items : List ℕ) (at : ℕ) (f g : Bool) (x y : Found) → all ≡ items → f ≡ g → x ≡ y → Finds (take (length all - at) (drop at all)) f x → Finds (drop at items) g y
found_in all items at f g x y e h i found =
    let here = subst (λ bytes. Finds bytes f x) (take_rest all at ∙ ap (drop at) e) found in
    subst (Finds (drop at items) g) i (subst (λ b. Finds (drop at items) b x) h here)

module _ (u : Unread) (items : List ℕ) (base at : ℕ) (bytes : drop at items ≡ u.bytes) (place : base + at ≡ u.place) (within : at ≤ length items) where
  pub answers_ready : (s : List Token) (used : ℕ) → Finds (drop at items) u.finished (Ready s used) → IsSettled u (ready s)
  answers_ready s used (sexpr, some, short, lexes) more may = (sexpr, drop used (drop at items) ++ more, subst (λ b. Lexes (b ++ more) s (drop used (drop at items) ++ more)) bytes (lexes more may))

  pub answers_fault : (kind : FaultKind) (i : ℕ) → Finds (drop at items) u.finished (Fault kind i) → IsSettled u (fault kind (base + (at + i)))
  answers_fault kind i (from, is, has) more may = (
    from ++ more,
    subst (λ b. HasFault kind (b ++ more) (from ++ more)) bytes (has more may),
    omega (arith, ap length bytes, length-append from more, length-append u.bytes more),
  )

  pub answers_need_more : Finds (drop at items) u.finished NeedMore → (u.finished ≡ false) × ((a : Answer) → IsSettled u a → ⊥)
  answers_need_more (going, none) = (going, λ a settled. subst (λ b. IsUnsettled b) bytes none u.place a (subst (λ f. IsSettled (record { place = u.place; bytes = u.bytes; finished = f }) a) going settled))

  pub takes : (s : List Token) (used : ℕ) (finished : Bool) → finished ≡ u.finished → Finds (drop at items) u.finished (Ready s used)
      → Takes u s (record { place = base + (at + used); bytes = drop (at + used) items; finished = finished })
  takes s used finished same (sexpr, some, short, lexes) = record {
    lexes = λ more may. subst (λ r. Lexes (u.bytes ++ more) s (r ++ more)) (drop-drop used at items) (subst (λ b. Lexes (b ++ more) s (drop used (drop at items) ++ more)) bytes (lexes more may));
    place = omega (arith, ap length bytes, length-drop at items, length-drop (at + used) items, short);
    finished = same;
    some = omega (arith, ap length bytes, length-drop at items, length-drop (at + used) items, short, some);
  }
