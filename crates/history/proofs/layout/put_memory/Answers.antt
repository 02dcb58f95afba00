-- `put_memory` meets its contract: the pieces lie one behind the other. Assumes nothing.
use mathlib.Core.Path.{◌∙◌, ap}
use mathlib.Core.List.{[], ◌∷◌}
use Prim.Native.Nat.{ℕ, ◌*◌}
use native.Mathlib.Omega.{arith}
use Rattle.encoding.specs.Bytes.{big_endian, big_endians}
use Rattle.encoding.proofs.Written.{writtens_eq}
use Rattle.encoding.proofs.Numbers.{length-big_endian, length-big_endians}
use Rattle.isa.specs.Sizes.{memory_words}
use Rattle.history.specs.Record.{word_width, padding_width, memory_at, memory_bytes}
use Rattle.history.proofs.layout.put_memory.Goals as goal

pub returns : goal.returns
unfolding memory_bytes
returns c =
    let p = c in
    let q = p in
    let s = q in
    let m = s.args.memory.now in
    rw (p.put_number.ensures, q.put_words.ensures)
    (writtens_eq s.args.part.now memory_at
    ((word_width * memory_words, big_endians word_width m) ∷ (padding_width, big_endian padding_width 0) ∷ [])
    (length-big_endians word_width m ∙ ap (λ (n : ℕ). word_width * n) s.requires.0, (length-big_endian padding_width 0, tt))
    (omega (arith, s.requires.1)))
