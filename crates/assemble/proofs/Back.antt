-- There and back by the calls: what `disassemble_image` and `list_bytes` write is assembled to the words, or bytes, that were listed (02, Change 4).
-- Assumes nothing.
use Prim.Native.Nat.{ℕ, zero, suc, ◌*◌, ◌/◌, ◌%◌, ◌≤◌, ◌<◌}
use native.Mathlib.Omega.{arith}
use mathlib.Core.Path.{◌≡◌, refl, sym, ap, ◌∙◌}
use mathlib.Core.Bool.{Bool, true, false, cond}
use mathlib.Core.List.{List}
use borrow.Author.Tests.{ltb-false, eqb-true, eqb-false}
use lib.Dec.{eqb, ltb}
use lib.ListN.{length, get_or, take}
use lib.Seq.{take_all}
use Rattle.encoding.specs.Answer.{Outcome, outcome, Told, unless_refused}
use Rattle.encoding.specs.Bytes.{over, big_endians, numbers}
use Rattle.encoding.proofs.Numbers.{length-numbers, big_endians-numbers, numbers-below}
use Rattle.encoding.proofs.Written.{take-over}
use Rattle.std.specs.Prelude.{Ok}
use Rattle.encoding.specs.Refusal.{told}
use Rattle.listing.specs.Listing.{listing_words, listing_length, listing_of, listing_refusal, listing_outcome, bytes_refusal, bytes_listing, bytes_outcome}
use Rattle.listing.proofs.Listings.{length_listing, length-bytes}
use Rattle.assemble.specs.Assembly.{refusal}
use Rattle.assemble.specs.Answer.{answered, assembled, image_bytes}
use Rattle.assemble.proofs.RoundTrip.{round_trip}
use Rattle.assemble.proofs.Answers.{listing_answer}

-- ---- what a call that is not refused writes: the listing, from the start of the buffer

-- the first bytes that such a call leaves, as many as it answers
abbrev firsts : Outcome Told → List ℕ
firsts o = take o.answer.length o.buffer

written : (n k : ℕ) (out s : List ℕ) → n ≡ 0 → length s ≡ k → firsts (unless_refused n out (outcome (told (Ok k)) (over out 0 s))) ≡ s
written zero k out s e l = rw (← l) (take-over out s)
written (suc n) k out s e l = absurd (omega arith)

told-number : (n k : ℕ) (out s : List ℕ) → (unless_refused n out (outcome (told (Ok k)) s)).answer.refused ≡ n
told-number zero k out s = refl
told-number (suc n) k out s = refl

few : (n room : ℕ) → listing_refusal n room ≡ 0 → n ≤ listing_words
few n room = go (ltb listing_words n) refl
  where
    go : (v : Bool) → ltb listing_words n ≡ v → ◌≡◌ {A = ℕ} (cond v 1 (cond (ltb room (listing_length n)) 5 0)) 0 → n ≤ listing_words
    go true q e = absurd (omega arith)
    go false q e = ltb-false listing_words n q

-- the words that were listed
pub image_back : (ws out : List ℕ) → (listing_outcome ws out).answer.refused ≡ 0 → ((a : ℕ) → get_or ws a 0 < 65536)
    → assembled (take (listing_outcome ws out).answer.length (listing_outcome ws out).buffer) ≡ answered 0 ws
unfolding listing_outcome
image_back ws out e fit =
    let n = listing_refusal (length ws) (length out) in
    let z : n ≡ 0 = sym (told-number n (listing_length (length ws)) out (over out 0 (listing_of ws))) ∙ e in
    ap assembled (written n (listing_length (length ws)) out (listing_of ws) z (length_listing ws)) ∙ listing_answer ws (few (length ws) (length out) z) fit

-- ---- the same of words in bytes

-- whole words, and few
even : (n room : ℕ) → bytes_refusal n room ≡ 0 → (n / 2 ≤ listing_words) × (n % 2 ≡ 0)
even n room = go (listing_refusal (n / 2) room) refl
  where
    tested : (r : ℕ) → (v : Bool) → eqb r 0 ≡ v → (u : Bool) → eqb (n % 2) 0 ≡ u → cond v (cond u 0 6) r ≡ 0 → (r ≡ 0) × (n % 2 ≡ 0)
    tested r true p true q e = (eqb-true r 0 p, eqb-true (n % 2) 0 q)
    tested r true p false q e = absurd (omega arith)
    tested r false p u q e = absurd (eqb-false r 0 p e)

    go : (r : ℕ) → listing_refusal (n / 2) room ≡ r → cond (eqb r 0) (cond (eqb (n % 2) 0) 0 6) r ≡ 0 → (n / 2 ≤ listing_words) × (n % 2 ≡ 0)
    go r q e = let t = tested r (eqb r 0) refl (eqb (n % 2) 0) refl e in (few (n / 2) room (q ∙ t.0), t.1)

-- the bytes that were listed
pub bytes_back : (bs out : List ℕ) → (bytes_outcome bs out).answer.refused ≡ 0 → ((i : ℕ) → get_or bs i 0 < 256)
    → (refusal (take (bytes_outcome bs out).answer.length (bytes_outcome bs out).buffer) ≡ 0) × (image_bytes (take (bytes_outcome bs out).answer.length (bytes_outcome bs out).buffer) ≡ bs)
unfolding bytes_outcome
bytes_back bs out e b =
    let n = bytes_refusal (length bs) (length out) in
    let z : n ≡ 0 = sym (told-number n (listing_length (length bs / 2)) out (over out 0 (bytes_listing bs))) ∙ e in
    let v = even (length bs) (length out) z in
    let ws = numbers 2 (length bs / 2) bs in
    let r = round_trip ws (rw length-numbers v.0) (numbers-below 2 (length bs / 2) bs b) in
    let w : 2 * (length bs / 2) ≡ length bs = omega (arith, v.1) in
    let a : big_endians 2 ws ≡ bs = big_endians-numbers 2 (length bs / 2) bs (omega arith) b ∙ take_all (2 * (length bs / 2)) bs (omega arith) in
    let t = written n (listing_length (length bs / 2)) out (bytes_listing bs) z (length-bytes bs) in
    (ap refusal t ∙ r.0, ap image_bytes t ∙ ap (big_endians 2) r.1 ∙ a)
