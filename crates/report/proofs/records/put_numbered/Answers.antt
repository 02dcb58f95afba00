-- `put_numbered` meets its contract: the number lies behind the kind.
-- Assumes nothing.
use Prim.Native.Nat.{ℕ, ◌<◌, ◌%◌}
use mathlib.Core.Path.{◌≡◌, ap, ◌∙◌}
use mathlib.Core.List.{[], ◌∷◌}
use native.Mathlib.Omega.{arith}
use Rattle.encoding.specs.Bytes.{over, big_endian}
use Rattle.encoding.proofs.Written.{writtens_eq}
use Rattle.encoding.proofs.Numbers.{length-big_endian}
use Rattle.secret.specs.Widths.{kind_width}
use borrow.Author.Rules.{rules}
use Rattle.report.proofs.records.put_numbered.Goals as goal

pub returns : goal.returns
unfolding big_endian
returns c =
    let byte : c.args.kind < 256 =
    search rules in
    let a = c.args in
    let b : a.kind % 256 ≡ a.kind = omega (arith, byte) in
    rw (c.put_number-2.ensures, c.put_number.ensures)
    (writtens_eq a.out.now a.at
    ((kind_width, big_endian kind_width a.kind) ∷ (a.width, big_endian a.width a.number) ∷ [])
    (length-big_endian kind_width a.kind, (length-big_endian a.width a.number, tt))
    (omega (arith, c.requires))
    ∙ ap (λ (k : ℕ). over a.out.now a.at (k ∷ big_endian a.width a.number)) b)
