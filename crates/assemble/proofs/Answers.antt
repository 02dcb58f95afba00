-- The answer from what is collected: every word of the image has 16 bits.
-- Assumes nothing.
use Prim.Native.Nat.{ℕ, zero, suc, ◌+◌, ◌*◌, ◌-◌, ◌≤◌, ◌<◌}
use native.Mathlib.Omega.{arith}
use native.Mathlib.Nat.{mul-le-mul_left}
use mathlib.Core.Path.{◌≡◌, refl, sym, ap, ◌∙◌}
use mathlib.Core.Bool.{Bool, true, false, cond}
use mathlib.Core.List.{List, [], ◌∷◌, ◌++◌, map}
use borrow.Author.Tests.{ne_eqb, ltb-true, lt-ltb, le-ltb}
use borrow.Table.Steps.{cases}
use lib.Dec.{eqb, ltb}
use lib.ListN.{length, get_or, take, drop, replicate, length-take, length-append, length-replicate}
use lib.Seq.{take-append_seam}
use Rattle.isa.specs.Text.{padded}
use Rattle.assemble.specs.Grammar.{Token, letter, blank, digit, name, forms, form_at, counted, referred, Digits, Instruction}
use Rattle.assemble.specs.Lines.{Line, bad, empty, word, read_line}
use Rattle.assemble.specs.Assembly.{lines, words_of, labels_of, refers_of, Accepted, faulty, key, doubled}
use Rattle.assemble.specs.Assembly.{lines_refusal, refusal, placed, resolved, lines_image, image, Image}
use Rattle.assemble.specs.Reading.{lines_from, entries_of, labels_in, Held, Linkable, resolved_as, linked}
use Rattle.assemble.specs.declared.lines.Entry.{Entry}
use Rattle.encoding.specs.Bytes.{over, written}
use Rattle.encoding.proofs.Numbers.{length-big_endians}
use Rattle.encoding.proofs.Written.{written-fits}
use Rattle.listing.specs.Listing.{listing_of}
use Rattle.encoding.specs.Answer.{outcome}
use Rattle.encoding.specs.Answer.{unless_refused}
use Rattle.encoding.specs.Refusal.{refusal_number, refused_by, told}
use Rattle.encoding.specs.declared.refusal.Refusal.{Refusal}
use Rattle.encoding.specs.declared.refusal.Refusal.TheVariants.{LongImage, OwnerCount, BreakpointCount, LargeBudget, ShortBuffer, InputLength, ShortStore, NoMachine, FullCounter, NoHistory, Grammar, Label, WordCount}
use Rattle.std.specs.Prelude.{Ok, Err}
use Rattle.assemble.specs.Answer.{answered, assembled, image_bytes, bytes_outcome}
use Rattle.assemble.specs.declared.Assembled.{Assembled}
use mathlib.Core.Logic.{inl, inr}
use Rattle.listing.specs.Listing.{listing_words}
use Rattle.assemble.proofs.Scans.{false-true, rest-digits}
use Rattle.assemble.proofs.Refusals.{refusals}
use Rattle.isa.proofs.Truths.{tested}
use Rattle.assemble.proofs.Exact.{word-line_exact}
use Rattle.assemble.proofs.Texts.{served_accepted, accepted_served, even-labels, even-refers, accepted_image}
use Rattle.assemble.proofs.RoundTrip.{round_trip}
use Rattle.assemble.proofs.Linking.{length-resolved, length_in, labels_lem, words_lem, refers_lem}

-- ---- how large a word is

-- what the address of a label can add
abbrev spare : ℕ → ℕ
spare k = cond (eqb k 0) 0 256

spare_most : (k : ℕ) → spare k ≤ 256
spare_most k = cases (eqb k 0) (λ e. rw e (omega arith)) (λ e. rw e (omega arith))

-- what the digits and the label of a form can add
unfoldable heft : List Token → ℕ
heft [] = 0
heft (letter c ∷ t) = heft t
heft (blank ∷ t) = heft t
heft (digit k ∷ t) = k * 15 + heft t
heft (name ∷ t) = 256 + heft t

counted_most : (t : List Token) (ds l r : List ℕ) (w : ℕ) → Digits ds → counted t ds w + spare (key (referred t l r)) ≤ w + spare (key r) + heft t
unfolding counted referred heft
counted_most [] ds l r w h = omega arith
counted_most (letter c ∷ t) ds l r w h = counted_most t ds l r w h
counted_most (blank ∷ t) ds l r w h = counted_most t ds l r w h
counted_most (digit k ∷ t) ds l r w h =
    let i = counted_most t (drop 1 ds) l r (w + k * get_or ds 0 0) (rest-digits ds h) in
    let m : k * get_or ds 0 0 ≤ k * 15 = mul-le-mul_left k (omega (arith, h 0)) in
    omega arith
counted_most (name ∷ t) ds l r w h =
    let i = counted_most t ds l l w h in
    let m = spare_most (key l) in
    omega arith

form-light : (f : ℕ) → f < 17 → (form_at forms f).base + heft (form_at forms f).pattern < 65536
unfolding forms heft
form-light f h = ltb-true _ 65536 (tested (λ (k : ℕ). ltb ((form_at forms k).base + heft (form_at forms k).pattern) 65536) 17 refl f h)

instruction-small : {s : List ℕ} {w : ℕ} {r : List ℕ} → Instruction s w r → w + spare (key r) < 65536
unfolding key forms
instruction-small i =
    let f = form_at forms i.which in
    let m = counted_most f.pattern i.fits.digits i.fits.label [] f.base i.fits.hexadecimal in
    rw (i.fits.word, i.fits.refers) (omega (arith, m, form-light i.which i.known))

-- every word has 16 bits, also with an address added where it refers to a label
abbrev Small : List Line → Type 0
Small ls = (i : ℕ) → get_or (words_of ls) i 0 + spare (get_or (map key (refers_of ls)) i 0) < 65536

lines-small : (ss : List (List ℕ)) → Small (map read_line ss)
lines-small [] = λ i. omega arith
lines-small (s ∷ ss) = go (read_line s) refl (lines-small ss)
  where
    go : (l : Line) → read_line s ≡ l → Small (map read_line ss) → Small (l ∷ map read_line ss)
    go bad e f i = f i
    go empty e f i = f i
    go (word l w r) e f zero = instruction-small ((word-line_exact s l w r).0 e).instructs
    go (word l w r) e f (suc i) = f i

placed_most : (k : ℕ) (xs : List ℕ) → placed k xs ≤ length xs
unfolding placed
placed_most k [] = omega arith
placed_most k (x ∷ xs) = cases (eqb x k) (λ e. rw e (omega arith)) (λ e. rw e (omega (arith, placed_most k xs)))

resolved-small : (ks : List ℕ) (w r : ℕ) → length ks ≤ 256 → w + spare r < 65536 → resolved ks w r < 65536
resolved-small ks w r h k = cases (eqb r 0) (λ e. rw e (rw e at k)) (λ e. rw e (omega (arith, placed_most r ks, rw e at k)))

-- ---- the answer

module _ (t : List ℕ) (n : ℕ) (es : List Entry) (h : Held (lines_from t 0) n es) where
  pub held_linkable : Linkable (take n es)
  held_linkable =
      let ls = lines_from t 0 in
      let ks = map key (labels_of ls) in
      let rs = map key (refers_of ls) in
      let l : length (entries_of ls) ≤ 256 = rw (← h.entries, length-take) (omega (arith, h.few)) in
      let m : length (words_of ls) ≤ 256 = rw (← (words_lem ls), length_in (λ (e : Entry). e.word) (entries_of ls)) l in
      let f : length ks ≤ 256 = omega (arith, even-labels ls, m) in
      let b : Small ls = lines-small (lines t) in
      rw h.entries (record { few = l; small = λ i g. rw (labels_lem ls, words_lem ls, refers_lem ls) (resolved-small ks (get_or (words_of ls) i 0) (get_or rs i 0) f (b i)) })

  pub held-answer : 0 ≡ faulty 0 (lines_from t 0) → linked (take n es) ≡ assembled t
  unfolding linked assembled refusal lines_refusal image lines_image
  held-answer e = let ls = lines_from t 0 in rw (h.entries, labels_lem ls, words_lem ls, refers_lem ls, ← e)

-- ---- refusals by their numbers

abbrev text_number : ℕ → Bool
text_number n = cond (eqb n 0) true (cond (eqb n 11) true (cond (eqb n 12) true (eqb n 13)))

is_text_number : (t : List ℕ) → text_number (refusal t) ≡ true
is_text_number t = elim (refusals t) [ inl e ↦ rw e | inr (inl e) ↦ rw e | inr (inr (inl e)) ↦ rw e | inr (inr (inr e)) ↦ rw e ]

-- the refusal that is answered has this number
pub answer_number : (t : List ℕ) → refused_by (assembled t) ≡ refusal t
unfolding assembled answered
answer_number t = elim (refusals t) [ inl e ↦ rw e | inr (inl e) ↦ rw e | inr (inr (inl e)) ↦ rw e | inr (inr (inr e)) ↦ rw e ]

-- no refusal has the number 0
pub number-suc : (b : Refusal) → (n : ℕ) × (refusal_number b ≡ suc n)
number-suc LongImage = (0, refl)
number-suc OwnerCount = (1, refl)
number-suc BreakpointCount = (2, refl)
number-suc LargeBudget = (3, refl)
number-suc ShortBuffer = (4, refl)
number-suc InputLength = (5, refl)
number-suc ShortStore = (6, refl)
number-suc NoMachine = (7, refl)
number-suc FullCounter = (8, refl)
number-suc NoHistory = (9, refl)
number-suc Grammar = (10, refl)
number-suc Label = (11, refl)
number-suc WordCount = (12, refl)

refused_as : (t : List ℕ) (b : Refusal) → refusal t ≡ refusal_number b → Err b ≡ assembled t
unfolding assembled answered
refused_as t LongImage e = false-true (rw e at (is_text_number t))
refused_as t OwnerCount e = false-true (rw e at (is_text_number t))
refused_as t BreakpointCount e = false-true (rw e at (is_text_number t))
refused_as t LargeBudget e = false-true (rw e at (is_text_number t))
refused_as t ShortBuffer e = false-true (rw e at (is_text_number t))
refused_as t InputLength e = false-true (rw e at (is_text_number t))
refused_as t ShortStore e = false-true (rw e at (is_text_number t))
refused_as t NoMachine e = false-true (rw e at (is_text_number t))
refused_as t FullCounter e = false-true (rw e at (is_text_number t))
refused_as t NoHistory e = false-true (rw e at (is_text_number t))
refused_as t Grammar e = rw e
refused_as t Label e = rw e
refused_as t WordCount e = rw e

-- a fault in a line
pub fault-answer : (t : List ℕ) (b : Refusal) → refusal_number b ≡ faulty 0 (lines_from t 0) → Err b ≡ assembled t
unfolding refusal lines_refusal
fault-answer t b e =
    let k = number-suc b in
    let f : faulty 0 (lines_from t 0) ≡ suc k.0 = sym e ∙ k.1 in
    refused_as t b (rw f (sym k.1))

-- whether a label stands on two lines
pub linked_by : (es : List Entry) (v : Bool) → doubled (labels_in es) ≡ v → cond v (Err Label) (resolved_as es) ≡ linked es
unfolding linked resolved_as answered
linked_by es true e = rw e
linked_by es false e = rw e

-- ---- what a caller reads off the answer

pub image-few : (t : List ℕ) → refusal t ≡ 0 → length (image t) ≤ 256
unfolding image lines_image
image-few t e =
    let ls : List Line = map read_line (lines t) in
    let f = (served_accepted t e).few in
    rw (length-resolved (map key (labels_of ls)) (words_of ls) (map key (refers_of ls)) (even-refers ls)) f

-- where nothing is refused, the answer a has the words of the image in front
pub record Said (t : List ℕ) (a : Assembled) : Type 0 where
  pub clean : refusal t ≡ 0
  pub long : a.count ≡ length (image t)
  pub few : a.count ≤ 256
  pub room : length a.words ≡ 256
  pub words : take a.count a.words ≡ image t

pub said : (t : List ℕ) (a : Assembled) → Ok a ≡ assembled t → Said t a
unfolding assembled answered padded
said t a e =
    let q : refusal t ≡ 0 = sym (answer_number t) ∙ sym (ap refused_by e) in
    let f = image-few t q in
    let o : Ok a ≡ Ok (record { words = padded listing_words (image t); count = length (image t) }) = rw q at e in
    let i : a ≡ record { words = padded listing_words (image t); count = length (image t) } = cc o in
    let c : a.count ≡ length (image t) = ap (λ (x : Assembled). x.count) i in
    let w : a.words ≡ image t ++ replicate (256 - length (image t)) 0 = ap (λ (x : Assembled). x.words) i in
    record {
      clean = q;
      long = c;
      few = rw c f;
      room = rw (w, length-append, length-replicate) (omega arith);
      words = rw (c, w) (take-append_seam (image t) (replicate (256 - length (image t)) 0));
    }

-- ---- the answer of assembling into a buffer

module _ (t out : List ℕ) where
  pub bytes-refused : (b : Refusal) → Err b ≡ assembled t → outcome (told (Err b)) out ≡ bytes_outcome t out
  unfolding bytes_outcome
  bytes-refused b e =
      let k = number-suc b in
      let n : refusal t ≡ suc k.0 = sym (answer_number t) ∙ sym (ap refused_by e) ∙ k.1 in
      rw (n, k.1, ne_eqb (suc k.0) 0 (λ q. omega arith))

  pub bytes-short : refusal t ≡ 0 → length out < 2 * length (image t) → outcome (told (Err ShortBuffer)) out ≡ bytes_outcome t out
  unfolding bytes_outcome
  bytes-short z h = rw (z, lt-ltb (length out) (2 * length (image t)) h)

  pub bytes-written : refusal t ≡ 0 → 2 * length (image t) ≤ length out → outcome (told (Ok (2 * length (image t)))) (written out 0 (image_bytes t)) ≡ bytes_outcome t out
  unfolding bytes_outcome
  bytes-written z h = rw (z, le-ltb (length out) (2 * length (image t)) h, written-fits out 0 (image_bytes t) (rw length-big_endians (omega arith)))

-- ---- texts that are accepted, and listings

-- an accepted text is answered with the image that its lines say
pub accepted_answer : (t : List ℕ) (ls : List Line) → Accepted t ls → (ws : List ℕ) × Image ls ws × (assembled t ≡ answered 0 ws)
unfolding assembled
accepted_answer t ls a = (image t, accepted_image t ls a, rw (accepted_served t ls a).0)

-- the listing of an image is assembled to that image
pub listing_answer : (ws : List ℕ) → length ws ≤ 256 → ((a : ℕ) → get_or ws a 0 < 65536) → assembled (listing_of ws) ≡ answered 0 ws
unfolding assembled
listing_answer ws h b = let r = round_trip ws h b in rw (r.0, r.1)

-- a length that is told is at most that of 256 words
told_most : (n k : ℕ) (out o : List ℕ) → k ≤ 512 → (unless_refused n out (outcome (told (Ok k)) o)).answer.length ≤ 512
told_most zero k out o h = h
told_most (suc n) k out o h = omega arith

pub bytes_at_most : (t out : List ℕ) → (bytes_outcome t out).answer.length ≤ 512
unfolding bytes_outcome
bytes_at_most t out = go (refusal t) refl
  where
    go : (r : ℕ) → refusal t ≡ r
        → (unless_refused (cond (eqb r 0) (cond (ltb (length out) (2 * length (image t))) 5 0) r) out (outcome (told (Ok (2 * length (image t)))) (over out 0 (image_bytes t)))).answer.length ≤ 512
    go zero e = told_most (cond (ltb (length out) (2 * length (image t))) 5 0) (2 * length (image t)) out (over out 0 (image_bytes t)) (omega (arith, image-few t e))
    go (suc n) e = rw (ne_eqb (suc n) 0 (λ q. omega arith)) (omega arith)
