-- The places that a hash index goes through.
use Rattle.std.proofs.Common.{◌≡◌, ◌≢◌, ℕ, suc, ◌-◌, ◌<◌, ◌≤◌, List, length, get_or, sym, ap, ◌∙◌, arith}
use Rattle.term_store.specs.Latest.{latest, last_place}
use Rattle.term_store.proofs.LatestLemmas.{latest_le, latest_sent, latest_again, latest_finds}

-- one more than the last place below itself with this hash
pub record IsLink (hs : List ℕ) (h link : ℕ) : Type 0 where
  pub within : link ≤ length hs
  pub from : link ≡ last_place hs h link

-- a link after the places below m, of which those above have other hashes
pub record Goes (hs : List ℕ) (h m link : ℕ) : Type 0 where
  pub is_link : IsLink hs h link
  pub down : link ≤ m
  pub others : (k : ℕ) → link ≤ k → k < m → get_or hs k 0 ≢ h

pub goes : (hs : List ℕ) (h m link : ℕ) → m ≤ length hs → link ≡ last_place hs h m → Goes hs h m link
goes hs h m link short e =
    let g : ℕ → ℕ = λ k. get_or hs k 0 in
    let below : latest g h m ≤ m = latest_le g h m in
    record {
      is_link = record { within = omega arith; from = e ∙ sym (latest_again g h m) ∙ ap (latest g h) (sym e) };
      down = omega arith;
      others = λ k above less same. (let found : k < latest g h m = latest_finds g h m k less same in omega arith);
    }

pub hash_there : (hs : List ℕ) (h link j : ℕ) → IsLink hs h link → link ≡ suc j → get_or hs j 0 ≡ h
hash_there hs h link j l e = latest_sent (λ k. get_or hs k 0) h link j (sym l.from ∙ e)

-- the next one
pub goes_on : (hs : List ℕ) (h link next : ℕ) → IsLink hs h link → 0 < link → next ≡ last_place hs (get_or hs (link - 1) 0) (link - 1) → Goes hs h (link - 1) next
goes_on hs h link next l some e =
    let within = l.within in
    goes hs h (link - 1) next (omega arith) (e ∙ ap (λ x. last_place hs x (link - 1)) (hash_there hs h link (link - 1) l (omega arith)))
