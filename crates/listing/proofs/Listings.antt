-- The laws of whole listings: the head, the length, and the answers.
-- Assumes nothing.
use Prim.Native.Nat.{ℕ, zero, suc, ◌+◌, ◌*◌, ◌/◌, ◌%◌, ◌≤◌, ◌<◌}
use Prim.Native.Char.{code}
use native.Mathlib.Omega.{arith}
use mathlib.Core.Bool.{Bool, true, false, cond}
use Rattle.std.specs.Prelude.{Ok, Err}
use mathlib.Core.Path.{◌≡◌, refl, ap, ◌∙◌}
use mathlib.Core.List.{List, [], ◌∷◌, ◌++◌}
use borrow.Author.Tests.{eqb-true, eq-eqb, ne_eqb, lt-ltb, le-ltb, le-leb, ltb-true, ltb-false}
use lib.Dec.{eqb, ltb, lit≤}
use lib.ListN.{length, take, drop, length-append}
use lib.Seq.{length-take-le, take_at}
use Rattle.isa.specs.Text.{Text}
use Rattle.isa.specs.Text.{text, text_of}
use Rattle.isa.specs.Format.{decimal}
use Rattle.isa.proofs.Texts.{text_of-text}
use Rattle.encoding.specs.Bytes.{over, written, each_from, numbers, read_words}
use Rattle.encoding.specs.Answer.{outcome, unless_refused}
use Rattle.encoding.proofs.Written.{length_over, over-over, written-fits, overs_eq, length_each}
use Rattle.encoding.proofs.Numbers.{length-numbers}
use Rattle.encoding.specs.declared.refusal.Refusal.TheVariants.{LongImage, ShortBuffer, InputLength}
use Rattle.listing.specs.Listing.{listing_words, line_of, words_text, head_start, head_end, head_length, head_of, listing_of, listing_length}
use Rattle.encoding.specs.Refusal.{told}
use Rattle.listing.specs.Listing.{listing_outcome, bytes_refusal, bytes_listing, bytes_outcome}
use Rattle.listing.proofs.Lines.{text-length, length-line_of}

-- ---- the head

length_of_cond : (b : Bool) (x y : List ℕ) → length (cond b x y) ≡ cond b (length x) (length y)
length_of_cond true x y = refl
length_of_cond false x y = refl

-- three digits at most
digits-length : (a b c : Bool) (p q r s t u : ℕ) → length (cond a (p ∷ []) (cond b (q ∷ []) (cond c (r ∷ []) (s ∷ []) ++ (t ∷ [])) ++ (u ∷ []))) ≡ cond a 1 (cond b 2 3)
digits-length true b c p q r s t u = refl
digits-length false true c p q r s t u = refl
digits-length false false true p q r s t u = refl
digits-length false false false p q r s t u = refl

tenth_below : (n : ℕ) → ltb (n / 10) 10 ≡ ltb n 100
tenth_below n = go (ltb n 100) refl
  where
    go : (b : Bool) → ltb n 100 ≡ b → ltb (n / 10) 10 ≡ b
    go true e = let h : n < 100 = ltb-true n 100 e in lt-ltb (n / 10) 10 (omega arith)
    go false e = let h : 100 ≤ n = ltb-false n 100 e in le-ltb (n / 10) 10 (omega arith)

decimal-length : (n : ℕ) → length (decimal 3 n) ≡ cond (ltb n 10) 1 (cond (ltb n 100) 2 3)
unfolding decimal
decimal-length n =
    let z : ℕ = code "0" in
    let m : ℕ = n / 10 in
    digits-length (ltb n 10) (ltb m 10) (ltb (m / 10) 10) (z + n) (z + m) (z + m / 10) (z + m / 10 % 10) (z + m % 10) (z + n % 10)
    ∙ ap (λ (b : Bool). cond (ltb n 10) 1 (cond b 2 3)) (tenth_below n)

words-length : (n : ℕ) → length (words_text n) ≡ cond (eqb n 1) 23 24
unfolding words_text
words-length n = length_of_cond (eqb n 1) _ _

-- the parts' lengths add up
head_sum : (n : ℕ) → 20 + (length (decimal 3 n) + (length (words_text n) + 142)) ≡ head_length n
head_sum n = rw (decimal-length, words-length) (go (eqb n 1) refl)
  where
    tens : (a b : Bool) → 20 + (cond a 1 (cond b 2 3) + (24 + 142)) ≡ cond a 187 (cond b 188 189)
    tens true b = refl
    tens false true = refl
    tens false false = refl

    go : (b : Bool) → eqb n 1 ≡ b → 20 + (cond (ltb n 10) 1 (cond (ltb n 100) 2 3) + (cond b 23 24 + 142)) ≡ cond b 186 (cond (ltb n 10) 187 (cond (ltb n 100) 188 189))
    go true e = rw (eqb-true n 1 e)
    go false e = tens (ltb n 10) (ltb n 100)

start-length : length head_start ≡ 20
unfolding head_start
start-length = refl

end_length_lem : length head_end ≡ 142
unfolding head_end
end_length_lem = refl

pub length_head : (n : ℕ) → length (head_of n) ≡ head_length n
unfolding head_of
length_head n =
    let a : length head_start ≡ 20 = start-length in
    let b : length head_end ≡ 142 = end_length_lem in
    let s : 20 + (length (decimal 3 n) + (length (words_text n) + 142)) ≡ head_length n = head_sum n in
    simp length-append (omega arith)

pub head_at_least : (n : ℕ) → 186 ≤ head_length n
head_at_least n = go (eqb n 1) (ltb n 10) (ltb n 100)
  where
    go : (a b c : Bool) → 186 ≤ cond a 186 (cond b 187 (cond c 188 189))
    go true b c = lit≤ tt
    go false true c = lit≤ tt
    go false false true = lit≤ tt
    go false false false = lit≤ tt

pub decimal-short : (n : ℕ) → length (decimal 3 n) ≤ 3
decimal-short n = rw decimal-length (go (ltb n 10) (ltb n 100))
  where
    go : (a b : Bool) → cond a 1 (cond b 2 3) ≤ 3
    go true b = lit≤ tt
    go false true = lit≤ tt
    go false false = lit≤ tt

pub words-short : (n : ℕ) → length (words_text n) ≤ 24
words-short n = rw words-length (go (eqb n 1))
  where
    go : (b : Bool) → cond b 23 24 ≤ 24
    go true = lit≤ tt
    go false = lit≤ tt

-- what the four calls leave
pub head_over : (d : List ℕ) (n : ℕ) {t u : Text} {p q : ℕ} {o₁ o₂ o₃ o₄ : List ℕ} → head_length n ≤ length d
    → t ≡ text (decimal 3 n) → u ≡ text (words_text n)
    → o₁ ≡ written d 0 head_start → (p ≡ 20 + t.len) × (o₂ ≡ over o₁ 20 (text_of t)) → (q ≡ p + u.len) × (o₃ ≡ over o₂ p (text_of u)) → o₄ ≡ written o₃ q head_end
    → (q + 142 ≡ head_length n) × (o₄ ≡ over d 0 (head_of n))
unfolding head_of
head_over d n {t} {u} {p} {q} {o₁} {o₂} {o₃} {o₄} h e f c₁ c₂ c₃ c₄ =
    let a : length head_start ≡ 20 = start-length in
    let b : length head_end ≡ 142 = end_length_lem in
    let s : 20 + (length (decimal 3 n) + (length (words_text n) + 142)) ≡ head_length n = head_sum n in
    let l : t.len ≡ length (decimal 3 n) = text-length (decimal 3 n) e in
    let m : u.len ≡ length (words_text n) = text-length (words_text n) f in
    let x = length (decimal 3 n) in
    let y = length (words_text n) in
    let p₁ : o₁ ≡ over d 0 head_start = c₁ ∙ written-fits d 0 head_start (omega arith) in
    let l₁ : length o₁ ≡ length d = ap length p₁ ∙ length_over d 0 head_start (omega arith) in
    let p₂ : o₂ ≡ over o₁ 20 (decimal 3 n) = c₂.1 ∙ ap (over o₁ 20) (ap text_of e ∙ text_of-text (decimal 3 n)) in
    let l₂ : length o₂ ≡ length d = ap length p₂ ∙ length_over o₁ 20 (decimal 3 n) (omega arith) ∙ l₁ in
    let p₃ : o₃ ≡ over o₂ (20 + x) (words_text n) = c₃.1 ∙ rw (c₂.0, l) (ap (over o₂ (20 + x)) (ap text_of f ∙ text_of-text (words_text n))) in
    let l₃ : length o₃ ≡ length d = ap length p₃ ∙ length_over o₂ (20 + x) (words_text n) (omega arith) ∙ l₂ in
    let k : q ≡ 20 + x + y = omega arith in
    let p₄ : o₄ ≡ over o₃ (20 + x + y) head_end = c₄ ∙ rw k (written-fits o₃ (20 + x + y) head_end (omega arith)) in
    let w : over (over (over (over d 0 head_start) 20 (decimal 3 n)) (20 + x) (words_text n)) (20 + x + y) head_end ≡ over d 0 (head_start ++ (decimal 3 n ++ (words_text n ++ head_end))) =
    overs_eq d 0 ((20, head_start) ∷ (x, decimal 3 n) ∷ (y, words_text n) ∷ (142, head_end) ∷ []) (a, (refl, (refl, (b, tt)))) (omega arith) in
    (omega arith, rw (p₄, p₃, p₂, p₁) w)

-- ---- the length

pub length_listing : (ws : List ℕ) → length (listing_of ws) ≡ listing_length (length ws)
unfolding listing_of
length_listing ws =
    length-append (head_of (length ws)) (each_from (line_of ws) 0 (length ws))
    ∙ rw (length_head, length_each 45 (line_of ws) 0 (length ws) (length-line_of ws))

-- the longest listing
pub longest : listing_length listing_words ≡ 11709
longest = refl

head_at_most : (a b c : Bool) → cond a 186 (cond b 187 (cond c 188 189)) ≤ 189
head_at_most true b c = lit≤ tt
head_at_most false true c = lit≤ tt
head_at_most false false true = lit≤ tt
head_at_most false false false = lit≤ tt

pub listing_at_most : (n : ℕ) → n ≤ listing_words → listing_length n ≤ 11709
listing_at_most n h =
    let k : head_length n ≤ 189 = head_at_most (eqb n 1) (ltb n 10) (ltb n 100) in
    omega arith

-- ---- the answers

module _ (ws out : List ℕ) where
  pub refused_1 : listing_words < length ws → outcome (told (Err LongImage)) out ≡ listing_outcome ws out
  unfolding listing_outcome
  refused_1 h = simp (lt-ltb listing_words (length ws) h)

  pub refused_5 : {size : ℕ} → length ws ≤ listing_words → size ≡ listing_length (length ws) → length out < size → outcome (told (Err ShortBuffer)) out ≡ listing_outcome ws out
  unfolding listing_outcome
  refused_5 g e h = simp (le-ltb listing_words (length ws) g, lt-ltb (length out) (listing_length (length ws)) (rw e at h))

  list_served : length ws ≤ listing_words → listing_length (length ws) ≤ length out → outcome (told (Ok (listing_length (length ws)))) (over out 0 (listing_of ws)) ≡ listing_outcome ws out
  unfolding listing_outcome
  list_served g h = simp (le-ltb listing_words (length ws) g, le-ltb (length out) (listing_length (length ws)) h)

  -- the head, and the lines right behind it
  pub whole : {size at : ℕ} {o₁ o₂ : List ℕ} → length ws ≤ listing_words → size ≡ listing_length (length ws) → size ≤ length out
      → (at ≡ head_length (length ws)) × (o₁ ≡ over out 0 (head_of (length ws))) → o₂ ≡ over o₁ at (each_from (line_of ws) 0 (length ws))
      → outcome (told (Ok size)) o₂ ≡ listing_outcome ws out
  unfolding listing_of
  whole {size} {at} {o₁} {o₂} g e h c₁ c₂ =
      let l : length (head_of (length ws)) ≡ head_length (length ws) = length_head (length ws) in
      let p : o₂ ≡ over out 0 (head_of (length ws) ++ each_from (line_of ws) 0 (length ws)) =
      c₂ ∙ rw c₁.1 (over-over out 0 (head_of (length ws)) (each_from (line_of ws) 0 (length ws)) at (omega (arith, c₁.0)) (omega (arith, c₁.0))) in
      (λ i. outcome (told (Ok (e i))) (p i)) ∙ list_served g (omega arith)

-- ---- words in bytes

-- as many words as the bytes have
pub words_read : (image zs : List ℕ) {ws : List ℕ} → length image / 2 ≤ length zs → ws ≡ read_words image 0 (take (length image / 2) zs) → ws ≡ numbers 2 (length image / 2) image
unfolding read_words
words_read image zs h e =
    let l : length (take (length image / 2) zs) ≡ length image / 2 = length-take-le (length image / 2) zs h in
    e ∙ rw l (simp (le-leb (0 + 2 * (length image / 2)) (length image) (omega arith)))

-- a front part that was lent has come back
pub part_back : (n : ℕ) (zs ws : List ℕ) → length ws ≡ n → take n (ws ++ drop n zs) ≡ ws
part_back n zs ws e = take_at ws (drop n zs) n e

module _ (image out : List ℕ) where
  pub bytes_1 : listing_words < length image / 2 → outcome (told (Err LongImage)) out ≡ bytes_outcome image out
  unfolding bytes_outcome
  bytes_1 h = simp (lt-ltb listing_words (length image / 2) h)

  pub bytes_5 : {size : ℕ} → length image / 2 ≤ listing_words → size ≡ listing_length (length image / 2) → length out < size → outcome (told (Err ShortBuffer)) out ≡ bytes_outcome image out
  unfolding bytes_outcome
  bytes_5 g e h = simp (le-ltb listing_words (length image / 2) g, lt-ltb (length out) (listing_length (length image / 2)) (rw e at h))

  pub bytes_6 : {size : ℕ} → length image / 2 ≤ listing_words → size ≡ listing_length (length image / 2) → size ≤ length out → (length image % 2 ≡ 0 → ⊥) → outcome (told (Err InputLength)) out ≡ bytes_outcome image out
  unfolding bytes_outcome
  bytes_6 g e h k = simp (le-ltb listing_words (length image / 2) g, le-ltb (length out) (listing_length (length image / 2)) (rw e at h), ne_eqb (length image % 2) 0 k)

  pub bytes_listed : {size : ℕ} → length image / 2 ≤ listing_words → size ≡ listing_length (length image / 2) → size ≤ length out → length image % 2 ≡ 0
      → listing_outcome (numbers 2 (length image / 2) image) out ≡ bytes_outcome image out
  unfolding listing_outcome bytes_outcome
  bytes_listed g e h k =
      rw (length-numbers 2 (length image / 2) image)
      (simp (le-ltb listing_words (length image / 2) g, le-ltb (length out) (listing_length (length image / 2)) (rw e at h), eq-eqb (length image % 2) 0 k))

-- the listing of words in bytes
pub length-bytes : (image : List ℕ) → length (bytes_listing image) ≡ listing_length (length image / 2)
length-bytes image = length_listing (numbers 2 (length image / 2) image) ∙ ap listing_length (length-numbers 2 (length image / 2) image)

-- what is told of words in bytes: the refusal's number, and a length that is at most that of the longest
module _ (image out : List ℕ) where
  told-refusal : (n k : ℕ) (o : List ℕ) → (unless_refused n out (outcome (told (Ok k)) o)).answer.refused ≡ n
  told-refusal zero k o = refl
  told-refusal (suc n) k o = refl

  pub bytes-refused : (bytes_outcome image out).answer.refused ≡ bytes_refusal (length image) (length out)
  unfolding bytes_outcome
  bytes-refused = told-refusal (bytes_refusal (length image) (length out)) (listing_length (length image / 2)) (over out 0 (bytes_listing image))

  at_most : (a b e : Bool) → ltb listing_words (length image / 2) ≡ a
      → (unless_refused (cond (eqb (cond a 1 (cond b 5 0)) 0) (cond e 0 6) (cond a 1 (cond b 5 0))) out (outcome (told (Ok (listing_length (length image / 2)))) (over out 0 (bytes_listing image)))).answer.length ≤ 11709
  at_most true b e q = lit≤ tt
  at_most false true e q = lit≤ tt
  at_most false false false q = lit≤ tt
  at_most false false true q = listing_at_most (length image / 2) (ltb-false listing_words (length image / 2) q)

  pub bytes_at_most : (bytes_outcome image out).answer.length ≤ 11709
  unfolding bytes_outcome
  bytes_at_most = at_most (ltb listing_words (length image / 2)) (ltb (length out) (listing_length (length image / 2))) (eqb (length image % 2) 0) refl

  -- the listing of a call that is served has room
  room : (a b e : Bool) → ltb (length out) (listing_length (length image / 2)) ≡ b → ◌≡◌ {A = ℕ} (cond (eqb (cond a 1 (cond b 5 0)) 0) (cond e 0 6) (cond a 1 (cond b 5 0))) 0 → listing_length (length image / 2) ≤ length out
  room true b e q z = absurd (omega arith)
  room false true e q z = absurd (omega arith)
  room false false e q z = ltb-false (length out) (listing_length (length image / 2)) q

  pub bytes-room : bytes_refusal (length image) (length out) ≡ 0 → listing_length (length image / 2) ≤ length out
  bytes-room z = room (ltb listing_words (length image / 2)) (ltb (length out) (listing_length (length image / 2))) (eqb (length image % 2) 0) refl z
