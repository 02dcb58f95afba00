-- What the code's helper functions compute on lent arrays. A reader need not believe it: the proofs show that it is what the other files say, `Writes` that
-- `registers_by` is `registers_after`, `Places` that `touch_in` is `touched_by`, `Rings` that `push_into` is `pushed`.
-- Assumes nothing.
use Rattle.std.specs.Prelude.{ℕ, ◌+◌, ◌*◌, ◌%◌, cond, ltb, List, [], ◌∷◌, take, nat_lt, slice_set, Option, Some, None}
use Rattle.std.specs.Borrow.{MutBor}
use denote.Triple.Both.{Both}
use Rattle.isa.specs.Sizes.{memory_words, register_count, text_width}
use Rattle.isa.specs.Text.{Text}
use Rattle.encoding.specs.Bytes.{member, over}
use Rattle.control.specs.declared.control.BusTransfer.{BusTransfer}
use Rattle.control.specs.declared.control.BusTransfer.TheVariants.{Read, Write}
use Rattle.control.specs.declared.control.RegisterWrite.{RegisterWrite}
use Rattle.trace.specs.declared.records.TraceRecord.{TraceRecord}
use Rattle.trace.specs.declared.records.Ring.{Ring}
use Rattle.trace.specs.Trace.{trace_limit, addresses_at, phases_at, Arrays, arrays_of}

-- ---- of a register's number the low digit counts

abbrev pub registers_by : Option RegisterWrite → List ℕ → List ℕ
registers_by None r = r
registers_by (Some w) r = slice_set r (w.register % register_count) w.value

-- ---- the touched addresses: their array, and how many of its places are live

pub record Places : Type 0 where
  pub count : ℕ
  pub items : List ℕ

abbrev pub places_of : ℕ → List ℕ → Places
places_of n t = record { count = n; items = t }

-- an address written into the next place, unless it is there or there is none
unfoldable pub note_in : ℕ → Places → Places
note_in a q =
    cond (nat_lt q.count memory_words)
    (cond (member a (take q.count q.items)) q (places_of (q.count + 1) (slice_set q.items q.count a)))
    q

unfoldable pub touch_in : Option BusTransfer → Places → Places
touch_in None q = q
touch_in (Some (Read a v)) q = q
touch_in (Some (Write a v)) q = note_in a q

-- ---- the trace: the ring with its three arrays

-- an array that is lent to a call: as it came, and as it is left
abbrev pub Lent : Type 0
Lent = Both (MutBor (List ℕ)) (MutBor (List ℕ))

-- the ring and the arrays that came to a call, and those that it leaves: columns, numbers, lengths
abbrev pub arrays_at_first : Ring → Lent → Lent → Lent → Arrays
arrays_at_first g k i l = arrays_of g k.entry.now i.entry.now l.entry.now

abbrev pub arrays_at_last : Ring → Lent → Lent → Lent → Arrays
arrays_at_last g k i l = arrays_of g k.exit.now i.exit.now l.exit.now

-- the slot of the next record: the one past the newest, and of 512 the oldest one's
abbrev pub slot_of : Ring → ℕ
slot_of g = (g.start % trace_limit + g.len % trace_limit) % trace_limit

-- the ring with one record more
unfoldable pub next_ring : Ring → Ring
next_ring g =
    let from = g.start % trace_limit in
    let room = ltb g.len trace_limit in
    record { start = cond room from ((from + 1) % trace_limit); len = cond room (g.len + 1) g.len }

-- a record's bytes written into the columns at slot k
unfoldable pub put_columns : TraceRecord → ℕ → List ℕ → List ℕ
put_columns e k c = slice_set (slice_set (over c (k * text_width) e.text.bytes) (addresses_at + k) e.address) (phases_at + k) e.phase

-- a record written into its slot
unfoldable pub push_into : TraceRecord → Arrays → Arrays
push_into e q =
    let k = slot_of q.ring in
    arrays_of (next_ring q.ring) (put_columns e k q.columns) (slice_set q.numbers k e.number) (slice_set q.lengths k e.text.len)

-- the same of a record's fields: number, address, phase, text
abbrev pub push_fields : ℕ → ℕ → ℕ → Text → Arrays → Arrays
push_fields number address phase text q = push_into (record { number = number; address = address; phase = phase; text = text }) q

-- records written one after the other
unfoldable pub logged_in : List TraceRecord → Arrays → Arrays
logged_in [] q = q
logged_in (e ∷ es) q = logged_in es (push_into e q)
