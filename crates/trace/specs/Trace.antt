-- The trace (01, section 3): the records of the last 512 register transfers, the oldest first, and the ring of slots that holds them.
-- Assumes nothing.
use Rattle.std.specs.Prelude.{◌≡◌, ℕ, zero, suc, ◌+◌, ◌-◌, ◌*◌, ◌%◌, ◌≤◌, Bool, true, false, cond, List, [], ◌∷◌, ◌++◌, length, take, drop, nat_lt, slice_index}
use Rattle.isa.specs.Sizes.{text_width}
use Rattle.isa.specs.Text.{Text}
use Rattle.plan.specs.Plan.{phase_number, phase_of}
use Rattle.trace.specs.declared.records.TraceRecord.{TraceRecord}
use Rattle.trace.specs.declared.records.Ring.{Ring}

-- the most records
abbrev pub trace_limit : ℕ
trace_limit = 512

-- the number of a tick's phase: 0 in a fetch tick, 2 in an execute tick
abbrev pub tick_phase : ℕ → ℕ
tick_phase t = phase_number (phase_of t)

-- one record more; of 512 the oldest goes
unfoldable pub pushed : {A : Type 0} → A → List A → List A
pushed e t = cond (nat_lt (length t) trace_limit) t (drop 1 t) ++ (e ∷ [])

-- the n values of f, from 0 on
unfoldable pub slots : {A : Type 0} → ℕ → (ℕ → A) → List A
slots zero f = []
slots (suc n) f = f 0 ∷ slots n (λ k. f (suc k))

-- a list read from s on, round its end
abbrev pub turn : {A : Type 0} → List A → ℕ → List A
turn l s = drop s l ++ take s l

-- the text in a slot: texts, lengths
abbrev pub text_at : List ℕ → List ℕ → ℕ → Text
text_at x l k = record { bytes = take text_width (drop (k * text_width) x); len = slice_index l k }

-- the record in a slot: texts, numbers, addresses, phases, lengths
abbrev pub record_at : List ℕ → List ℕ → List ℕ → List ℕ → List ℕ → ℕ → TraceRecord
record_at x i a p l k = record { number = slice_index i k; address = slice_index a k; phase = slice_index p k; text = text_at x l k }

-- the live records: the oldest one's slot, taken round the ring, and how many there are
unfoldable pub live_trace : ℕ → ℕ → List ℕ → List ℕ → List ℕ → List ℕ → List ℕ → List TraceRecord
live_trace start n x i a p l = take n (turn (slots trace_limit (record_at x i a p l)) (start % trace_limit))

-- their texts alone, and the lengths of those
unfoldable pub live_texts : ℕ → ℕ → List ℕ → List ℕ → List Text
live_texts start n x l = take n (turn (slots trace_limit (text_at x l)) (start % trace_limit))

unfoldable pub live_lengths : ℕ → ℕ → List ℕ → List ℕ
live_lengths start n l = take n (turn l (start % trace_limit))

-- the last n of a list
abbrev pub take_last : {A : Type 0} → ℕ → List A → List A
take_last n t = drop (length t - n) t

-- no text is over 32 bytes
unfoldable pub short_texts : List ℕ → Bool
short_texts [] = true
short_texts (n ∷ l) = cond (nat_lt text_width n) false (short_texts l)

-- ---- the ring with its three arrays, as they are lent: columns of bytes, one behind the other; the numbers; the lengths of the texts

-- where the addresses begin, behind the texts, and the phases; and how long the columns are
abbrev pub addresses_at : ℕ
addresses_at = text_width * trace_limit

abbrev pub phases_at : ℕ
phases_at = addresses_at + trace_limit

abbrev pub columns_length : ℕ
columns_length = phases_at + trace_limit

-- a column of 512 bytes, from index at on
unfoldable pub column : ℕ → List ℕ → List ℕ
column at k = take trace_limit (drop at k)

-- texts, addresses, phases
unfoldable pub texts_in : List ℕ → List ℕ
texts_in k = take addresses_at k

abbrev pub addresses_in : List ℕ → List ℕ
addresses_in k = column addresses_at k

abbrev pub phases_in : List ℕ → List ℕ
phases_in k = column phases_at k

pub record Arrays : Type 0 where
  pub ring : Ring
  pub columns : List ℕ
  pub numbers : List ℕ
  pub lengths : List ℕ

abbrev pub arrays_of : Ring → List ℕ → List ℕ → List ℕ → Arrays
arrays_of g k i l = record { ring = g; columns = k; numbers = i; lengths = l }

-- the live records of these arrays: the oldest one's slot, how many there are, columns, numbers, lengths
abbrev pub live_in : ℕ → ℕ → List ℕ → List ℕ → List ℕ → List TraceRecord
live_in start n k i l = live_trace start n (texts_in k) i (addresses_in k) (phases_in k) l

abbrev pub live : Arrays → List TraceRecord
live q = live_in q.ring.start q.ring.len q.columns q.numbers q.lengths

-- what they are between two ticks
pub record TraceFit (start n : ℕ) (k i l : List ℕ) : Type 0 where
  pub count : n ≤ trace_limit
  pub columns : length k ≡ columns_length
  pub numbers : length i ≡ trace_limit
  pub lengths : length l ≡ trace_limit
  pub short : short_texts (live_lengths start n l) ≡ true

abbrev pub ArraysFit : Arrays → Type 0
ArraysFit q = TraceFit q.ring.start q.ring.len q.columns q.numbers q.lengths
