-- The table of unused digits agrees with the Rust's `encoding`, which shows a 0 for each of them, as 20xy.
-- Assumes nothing.
use Prim.Native.Nat.{ℕ, ◌+◌, ◌-◌}
use Prim.Native.Char.{code}
use mathlib.Core.Bool.{cond}
use mathlib.Core.Path.{◌≡◌, refl}
use lib.Dec.{eqb}
use lib.ListN.{get_or}
use Rattle.isa.specs.declared.opcode.Opcode.{Opcode}
use Rattle.isa.specs.Text.{ascii}
use Rattle.isa.specs.Opcode.{encoding_of}
use Rattle.isa.specs.Nibbles.{unused_of}
use Rattle.isa.proofs.Tables.{each}

-- F in each of x, y and z that `encoding` shows as a 0
abbrev zeros : Opcode → ℕ
zeros o =
    cond (eqb (get_or (ascii (encoding_of o)) 1 0) (code "0")) 0xF00 0
    + cond (eqb (get_or (ascii (encoding_of o)) 2 0) (code "0")) 0xF0 0
    + cond (eqb (get_or (ascii (encoding_of o)) 3 0) (code "0")) 0xF 0

-- all of these are unused, and no other
pub shown-unused : (o : Opcode) → (unused_of o (zeros o) ≡ zeros o) × (unused_of o (0xFFF - zeros o) ≡ 0)
shown-unused = each (λ (o : Opcode). (unused_of o (zeros o) ≡ zeros o) × (unused_of o (0xFFF - zeros o) ≡ 0))
    ((refl, refl), (refl, refl), (refl, refl), (refl, refl), (refl, refl), (refl, refl), (refl, refl), (refl, refl), (refl, refl), (refl, refl), (refl, refl), (refl, refl), (refl, refl))
