-- Tables with a row for each opcode, filled up with spaces: what a row holds, and the text that is read from it.
-- Assumes nothing.
use Prim.Native.Nat.{ℕ}
use Prim.Native.String.{String}
use mathlib.Core.Path.{◌≡◌, refl}
use mathlib.Core.List.{List, [], map}
use lib.ListN.{length, get_or, take}
use Rattle.isa.specs.declared.opcode.Opcode.{Opcode}
use Rattle.isa.specs.declared.opcode.Opcode.TheVariants.{LoadImmediate, LoadRegister, LoadMemory, StoreMemory, Add, Negate, ShiftRight, ShiftLeft, And, Or, Xor, Jump, Halt}
use Rattle.isa.specs.Text.{ascii, spaced, trimmed}
use Rattle.isa.specs.Opcode.{opcodes, index_of}

-- what holds of each opcode, and so of any
abbrev pub Each : (Opcode → Type 0) → Type 0
Each p = p LoadImmediate × p LoadRegister × p LoadMemory × p StoreMemory × p Add × p Negate × p ShiftRight × p ShiftLeft × p And × p Or × p Xor × p Jump × p Halt

pub each : (p : Opcode → Type 0) → Each p → (o : Opcode) → p o
each p h LoadImmediate = h.0
each p h LoadRegister = h.1
each p h LoadMemory = h.2
each p h StoreMemory = h.3
each p h Add = h.4
each p h Negate = h.5
each p h ShiftRight = h.6
each p h ShiftLeft = h.7
each p h And = h.8
each p h Or = h.9
each p h Xor = h.10
each p h Jump = h.11
each p h Halt = h.12

-- a table of the texts s, in rows of w bytes
abbrev pub table : ℕ → (Opcode → String) → List (List ℕ)
table w s = map (λ (o : Opcode). spaced w (ascii (s o))) opcodes

row : (f : Opcode → List ℕ) (o : Opcode) → get_or (map f opcodes) (index_of o) [] ≡ f o
row f = each (λ (o : Opcode). get_or (map f opcodes) (index_of o) [] ≡ f o) (refl, refl, refl, refl, refl, refl, refl, refl, refl, refl, refl, refl, refl)

-- the row of an opcode, where each text fits its row and ends in no space
pub record Table (limit w : ℕ) (s : Opcode → String) : Type 0 where
  pub whole : Each (λ (o : Opcode). w ≡ length (spaced w (ascii (s o))))
  pub reads : Each (λ (o : Opcode). take limit (trimmed (spaced w (ascii (s o)))) ≡ ascii (s o))

module _ {limit w : ℕ} {s : Opcode → String} (t : Table limit w s) (o : Opcode) {i : ℕ} (e : i ≡ index_of o) where
  pub row-length : w ≡ length (get_or (table w s) i [])
  row-length = rw (e, row (λ (k : Opcode). spaced w (ascii (s k))) o) (each (λ (k : Opcode). w ≡ length (spaced w (ascii (s k)))) t.whole o)

  pub row-text : take limit (trimmed (get_or (table w s) i [])) ≡ ascii (s o)
  row-text = rw (e, row (λ (k : Opcode). spaced w (ascii (s k))) o) (each (λ (k : Opcode). take limit (trimmed (spaced w (ascii (s k)))) ≡ ascii (s k)) t.reads o)
