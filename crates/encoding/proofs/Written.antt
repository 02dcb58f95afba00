-- The laws of `over`, `written` and `each_from` of `specs/Bytes.antt`: lengths, one piece behind the other, what is read back. Assumes nothing.
use mathlib.Core.Path.{◌≡◌, refl, sym, ◌∙◌}
use mathlib.Core.Bool.{Bool, true, false, cond}
use mathlib.Core.List.{List, [], ◌∷◌, ◌++◌, append_assoc, append-nil}
use Prim.Native.Nat.{ℕ, zero, suc, ◌+◌, ◌-◌, ◌*◌, ◌≤◌, ◌<◌}
use native.Mathlib.Nat.{add-zero, add_assoc, mul-zero, mul-le-mul_left}
use native.Mathlib.Numerals.{add-one}
use native.Mathlib.Omega.{arith}
use borrow.Author.Tests.{le-leb, lt-leb, leb-true}
use lib.ListN.{length, take, drop, length-append, length-take, length-drop, take-append-drop, drop_of_length-le}
use lib.Seq.{take-append_seam, drop-append-add, drop_at, drop-drop, length-take-le}
use borrow.Rule.Slice.PartMut.{mid_of, put_mid, mid_len, Post-is}
use Rattle.encoding.specs.Bytes.{over, within, written, each_from}

-- ---- written over

pub over_nil : (d : List ℕ) (at : ℕ) → over d at [] ≡ d
unfolding over
over_nil d at = rw add-zero (take-append-drop at d)

pub length_over : (d : List ℕ) (at : ℕ) (bs : List ℕ) → at + length bs ≤ length d → length (over d at bs) ≡ length d
unfolding over
length_over d at bs h = simp (length-append, length-take, length-drop) (omega arith)

seam : (p r b : List ℕ) (n : ℕ) → length p ≡ n → take n (p ++ r) ++ (b ++ drop (n + length b) (p ++ r)) ≡ p ++ (b ++ drop (length b) r)
seam p r b n e = rw (← e, take-append_seam, drop-append-add)

-- one piece, and the next right behind it, are the two in one
pub over-over : (d : List ℕ) (at : ℕ) (a b : List ℕ) (n : ℕ) → at + length a ≤ length d → at + length a ≡ n → over (over d at a) n b ≡ over d at (a ++ b)
unfolding over
over-over d at a b n h e =
    rw (← append_assoc (take at d) a (drop (at + length a) d))
    (seam (take at d ++ a) (drop (at + length a) d) b n (simp (length-append, length-take) (omega arith))
    ∙ simp (append_assoc, drop-drop, length-append, add_assoc))

-- from its index on, what was written stands first
pub over_from : (d : List ℕ) (at : ℕ) (bs : List ℕ) → at ≤ length d → drop at (over d at bs) ≡ bs ++ drop (at + length bs) d
unfolding over
over_from d at bs h = drop_at (take at d) (bs ++ drop (at + length bs) d) at (length-take-le at d h)

pub take-over : (d bs : List ℕ) → take (length bs) (over d 0 bs) ≡ bs
unfolding over
take-over d bs = take-append_seam bs (drop (0 + length bs) d)

-- the bytes past it are kept
pub drop-over : (d : List ℕ) (at : ℕ) (bs : List ℕ) → at + length bs ≤ length d → drop (at + length bs) (over d at bs) ≡ drop (at + length bs) d
drop-over d at bs h =
    let k : at ≤ length d = omega arith in
    sym (drop-drop (length bs) at (over d at bs)) ∙ rw (over_from d at bs k) (drop_at bs (drop (at + length bs) d) (length bs) refl)

-- ---- written where it fits

pub written-fits : (d : List ℕ) (at : ℕ) (bs : List ℕ) → at + length bs ≤ length d → written d at bs ≡ over d at bs
unfolding written
written-fits d at bs h = rw (le-leb (at + length bs) (length d) h)

pub written_cut : (d : List ℕ) (at : ℕ) (bs : List ℕ) → length d < at + length bs → written d at bs ≡ d
unfolding written
written_cut d at bs h = rw (lt-leb (at + length bs) (length d) h)

pub written_from : (d : List ℕ) (at : ℕ) (bs : List ℕ) → at + length bs ≤ length d → drop at (written d at bs) ≡ bs ++ drop (at + length bs) d
written_from d at bs h = rw (written-fits d at bs h) (over_from d at bs (omega arith))

-- a part of a list that is made equal to bytes of its length
pub part_over : (d : List ℕ) (at : ℕ) (bs : List ℕ) {p : List ℕ} → at + length bs ≤ length d → p ≡ bs → put_mid at (at + length bs - at) d p ≡ over d at bs
unfolding over
part_over d at bs h e = rw (e, Post-is at (at + length bs) d (omega arith))

-- bytes written into a part of a list that has just their length
pub part_written : (d : List ℕ) (at e : ℕ) (bs : List ℕ) {p : List ℕ} → at + length bs ≡ e → e ≤ length d → p ≡ written (mid_of at (e - at) d) 0 bs
    → put_mid at (e - at) d p ≡ written d at bs
unfolding over
part_written d at e bs {p} s h q =
    let l : length (mid_of at (e - at) d) ≡ e - at = mid_len at e d h in
    let z : drop (0 + length bs) (mid_of at (e - at) d) ≡ [] = drop_of_length-le (mid_of at (e - at) d) {i = 0 + length bs} (omega arith) in
    let f : p ≡ bs = q ∙ written-fits (mid_of at (e - at) d) 0 bs (omega arith) ∙ rw (z, append-nil) in
    rw (f, Post-is at e d (omega arith)) (sym (written-fits d at bs (omega arith) ∙ rw s))

pub length-written : (d : List ℕ) (at : ℕ) (bs : List ℕ) → length (written d at bs) ≡ length d
unfolding written
length-written d at bs = go (within d at (length bs)) refl
  where
    go : (b : Bool) → within d at (length bs) ≡ b → length (cond b (over d at bs) d) ≡ length d
    go true e = length_over d at bs (leb-true (at + length bs) (length d) e)
    go false e = refl

-- ---- pieces one behind the other, each with its length

-- `ps` one behind the other from index `at`. On a list that is written out it computes to what the calls leave
abbrev pub overs : List ℕ → ℕ → List (ℕ × List ℕ) → List ℕ
overs d at [] = d
overs d at (p ∷ ps) = overs (over d at p.1) (at + p.0) ps

-- the same by `written`
abbrev pub writtens : List ℕ → ℕ → List (ℕ × List ℕ) → List ℕ
writtens d at [] = d
writtens d at (p ∷ ps) = writtens (written d at p.1) (at + p.0) ps

-- the pieces in one; the last is not followed by an empty one, so that it computes to what a definition writes out
abbrev pub joined : List (ℕ × List ℕ) → List ℕ
joined [] = []
joined (p ∷ []) = p.1
joined (p ∷ q ∷ ps) = p.1 ++ joined (q ∷ ps)

-- the sum of their lengths
abbrev pub total : List (ℕ × List ℕ) → ℕ
total [] = 0
total (p ∷ ps) = p.0 + total ps

-- each has the length that stands with it
abbrev pub Sized : List (ℕ × List ℕ) → Type 0
Sized [] = Unit {0}
Sized (p ∷ ps) = (length p.1 ≡ p.0) × Sized ps

pub length-joined : (ps : List (ℕ × List ℕ)) → Sized ps → length (joined ps) ≡ total ps
length-joined [] z = refl
length-joined (p ∷ []) z = z.0 ∙ sym (add-zero p.0)
length-joined (p ∷ q ∷ ps) z = length-append p.1 (joined (q ∷ ps)) ∙ rw (z.0, length-joined (q ∷ ps) z.1)

pub overs_eq : (d : List ℕ) (at : ℕ) (ps : List (ℕ × List ℕ)) → Sized ps → at + total ps ≤ length d → overs d at ps ≡ over d at (joined ps)
overs_eq d at [] z h = sym (over_nil d at)
overs_eq d at (p ∷ []) z h = refl
overs_eq d at (p ∷ q ∷ ps) z h =
    let l : length p.1 ≡ p.0 = z.0 in
    let o : length (over d at p.1) ≡ length d = length_over d at p.1 (omega arith) in
    overs_eq (over d at p.1) (at + p.0) (q ∷ ps) z.1 (omega arith) ∙ over-over d at p.1 (joined (q ∷ ps)) (at + p.0) (omega arith) (omega arith)

-- where all fit, each is written
writtens_overs : (d : List ℕ) (at : ℕ) (ps : List (ℕ × List ℕ)) → Sized ps → at + total ps ≤ length d → writtens d at ps ≡ overs d at ps
writtens_overs d at [] z h = refl
writtens_overs d at (p ∷ ps) z h =
    let l : length p.1 ≡ p.0 = z.0 in
    let o : length (over d at p.1) ≡ length d = length_over d at p.1 (omega arith) in
    rw (written-fits d at p.1 (omega arith)) (writtens_overs (over d at p.1) (at + p.0) ps z.1 (omega arith))

pub writtens_eq : (d : List ℕ) (at : ℕ) (ps : List (ℕ × List ℕ)) → Sized ps → at + total ps ≤ length d → writtens d at ps ≡ over d at (joined ps)
writtens_eq d at ps z h = writtens_overs d at ps z h ∙ overs_eq d at ps z h

-- ---- numbered pieces of one length

pub length_each : (w : ℕ) (f : ℕ → List ℕ) (i k : ℕ) → ((j : ℕ) → length (f j) ≡ w) → length (each_from f i k) ≡ w * k
unfolding each_from
length_each w f i zero l = sym (mul-zero w)
length_each w f i (suc k) l = length-append (f i) (each_from f (suc i) k) ∙ rw (l i, length_each w f (suc i) k l) (omega arith)

-- a turn of a loop that writes n pieces of w bytes, piece i at the place of number i
pub each_turn : (w : ℕ) (f : ℕ → List ℕ) (d : List ℕ) (at i n : ℕ) → length (f i) ≡ w → i < n → at + w * n ≤ length d
    → over (over d (at + w * i) (f i)) (at + w * (i + 1)) (each_from f (i + 1) (n - (i + 1))) ≡ over d (at + w * i) (each_from f i (n - i))
unfolding each_from
each_turn w f d at i n l h k =
    let m : w * suc i ≤ w * n = mul-le-mul_left w h in
    let e : n - i ≡ suc (n - suc i) = omega arith in
    rw (add-one, e) (over-over d (at + w * i) (f i) (each_from f (suc i) (n - suc i)) (at + w * suc i) (omega arith) (omega arith))

-- the loop's end
pub each_done : (f : ℕ → List ℕ) (d : List ℕ) (p i n : ℕ) → i ≡ n → over d p (each_from f i (n - i)) ≡ d
unfolding each_from
each_done f d p i n e =
    let z : n - i ≡ 0 = omega arith in
    rw z (over_nil d p)
