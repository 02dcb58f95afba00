-- A table with 1 for each byte of a list, in place of a search: breakpoints, and the touched addresses. A reader need not believe it: `proofs/Tables.antt`
-- shows what it says, and that `touch_seen` is `touched_by`.
-- Assumes nothing.
use Rattle.std.specs.Prelude.{◌≡◌, ℕ, ◌+◌, ◌<◌, cond, List, [], ◌∷◌, length, set, replicate, ◌==◌, nat_lt, slice_index, slice_set, Option, Some, None}
use Rattle.isa.specs.Sizes.{memory_words}
use Rattle.encoding.specs.Bytes.{member}
use Rattle.control.specs.declared.control.BusTransfer.{BusTransfer}
use Rattle.control.specs.declared.control.BusTransfer.TheVariants.{Read, Write}
use Rattle.trace.specs.Forms.{Lent, Places, places_of}

-- a table with the bytes of one list more
unfoldable pub table_from : List ℕ → List ℕ → List ℕ
table_from t [] = t
table_from t (x ∷ xs) = table_from (slice_set t x 1) xs

abbrev pub table_of : List ℕ → List ℕ
table_of p = table_from (replicate memory_words 0) p

-- what it says
pub record Table (p seen : List ℕ) : Type 0 where
  pub long : length seen ≡ memory_words
  pub says : (a : ℕ) → a < memory_words → slice_index seen a ≡ cond (member a p) 1 0

-- ---- the touched addresses with their table

pub record Noted : Type 0 where
  pub places : Places
  pub seen : List ℕ

abbrev pub noted_of : ℕ → List ℕ → List ℕ → Noted
noted_of n t s = record { places = places_of n t; seen = s }

-- what came to a call, and what it leaves
abbrev pub noted_at_first : ℕ → Lent → Lent → Noted
noted_at_first n t s = noted_of n t.entry.now s.entry.now

abbrev pub noted_at_last : ℕ → Lent → Lent → Noted
noted_at_last n t s = noted_of n t.exit.now s.exit.now

-- an address written into the next place, unless the table has it; the table has it then, also where there is no place
unfoldable pub note_seen : ℕ → Noted → Noted
note_seen a q =
    let n = q.places.count in
    let t = set q.seen a 1 in
    cond (slice_index q.seen a == 1)
    q
    (cond (nat_lt n memory_words) (noted_of (n + 1) (slice_set q.places.items n a) t) (noted_of n q.places.items t))

abbrev pub touch_seen : Option BusTransfer → Noted → Noted
touch_seen None q = q
touch_seen (Some (Read a v)) q = q
touch_seen (Some (Write a v)) q = note_seen a q
