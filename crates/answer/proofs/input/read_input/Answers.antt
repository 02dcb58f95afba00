-- Bytes read into the rest of the buffer stand behind those that were there.
use Rattle.std.proofs.Common.{◌≡◌, ℕ, ◌+◌, ◌≤◌, List, ◌++◌, rules, length, take, sym, ap, ◌∙◌, subst, length-take-le}
use Rattle.std.specs.Io.KnownBytes.{Consumes}
use Rattle.std.proofs.KnownBytes.{Consumes-trans}
use borrow.Rule.Slice.PartMut.{put_mid, post_of}
use lib.Seq.{take-append-le, take-append-add}
use Rattle.answer.proofs.input.read_input.Goals as goal

take-put_mid : (a k n : ℕ) (xs ys : List ℕ) → a ≤ length xs → n ≤ length ys → take (a + n) (put_mid a k xs ys) ≡ take a xs ++ take n ys
take-put_mid a k n xs ys within fits =
    let front : length (take a xs) ≡ a = length-take-le a xs within in
    let behind = ys ++ post_of a k xs in
    ap (λ (m : ℕ). take (m + n) (take a xs ++ behind)) (sym front)
    ∙ take-append-add (take a xs) behind n
    ∙ ap (λ (l : List ℕ). take a xs ++ l) (take-append-le n ys (post_of a k xs) fits)

pub loop-len-preserved : goal.loop-len-preserved
loop-len-preserved g c =
    let before = c.loop-len.invariant in
    let read = c.in-Ok.ensures in
    record {
      in_bounds = search rules;
      bytes = subst (Consumes _ _) (sym (take-put_mid c.loop-len.len _ c.in-Ok.more c.loop-len.buf c.read.new.buf before.in_bounds read.bound.0)) (Consumes-trans _ _ _ _ _ before.bytes read.bytes.0);
    }
