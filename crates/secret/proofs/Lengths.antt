-- The length of a report (01, section 6): a function of the numbers of breakpoints, trace records and touched addresses. No accepted one is over `report_limit`, 33,934 bytes.
-- Assumes nothing.
use Prim.Native.Nat.{ℕ, ◌+◌, ◌*◌, ◌≤◌, ◌<◌}
use native.Mathlib.Omega.{arith}
use mathlib.Core.Path.{◌≡◌, refl, sym, ap, ◌∙◌}
use mathlib.Core.Bool.{Bool}
use mathlib.Core.List.{List, ◌++◌, append_assoc}
use lib.ListN.{length, take, drop, get_or, length-append, length-drop}
use lib.Seq.{length-take-le, drop_at}
use Rattle.encoding.specs.Bytes.{big_endian}
use Rattle.encoding.proofs.Numbers.{length-big_endian}
use Rattle.encoding.proofs.Written.{length_each}
use Rattle.isa.specs.Text.{padded, text_of}
use Rattle.isa.proofs.Texts.{length-padded}
use Rattle.control.specs.declared.control.State.{State}
use Rattle.control.specs.declared.counters.Counters.{Counters}
use Rattle.trace.specs.declared.records.TraceRecord.{TraceRecord}
use Rattle.vm.specs.Calls.{image_words}
use Rattle.vm.specs.Machine.{Machine}
use Rattle.marks.specs.Owners.{hidden_from}
use Rattle.marks.specs.Marks.{Marks}
use Rattle.marks.specs.Total.{hidden_count}
use Rattle.vm.specs.Guard.{GuardedEnd, guarded_of}
use Rattle.guard.specs.Input.{Input, break_limit}
use Rattle.guard.specs.Stops.{stop_number}
use Rattle.trace.specs.Trace.{trace_limit, addresses_at, phases_at, columns_length}
use Rattle.isa.specs.Sizes.{memory_words, register_count, text_width}
use Rattle.control.specs.Codes.{fault_bytes}
use Rattle.secret.specs.Report.{head_of, start_record, start_records, index_bytes, address_bytes, break_record, touched_record, each_record, trace_bytes, trace_record, no_record, trace_records, value_record, value_records, count_bytes, control_bytes, end_record, hidden_record, end_records, end_bytes, report_on, report_bytes}
use Rattle.secret.specs.Forms.{slot_bytes}
use Rattle.control.specs.Address.{address_width}
use Rattle.secret.specs.Widths.{index_width, head_length, start_length, break_length, trace_length, value_length, touched_length, end_length, hidden_length, last_length, starts_length, run_length, report_length, report_limit}
use Rattle.secret.specs.Public.{report_refusal}
use Rattle.secret.proofs.Accepts.{accepted}
use Rattle.secret.proofs.Bounds.{live-fits, guarded_bounded, touched-few}
use Rattle.secret.proofs.Shows.{length_head, length-touched, length-value, length-start}

-- every text of a trace fits its field
abbrev pub TextsFit : List TraceRecord → Type 0
TextsFit t = (i : ℕ) → length (text_of (get_or t i no_record).text) ≤ text_width

-- ---- the records

pub length-trace_bytes : (n a p : ℕ) (x : List ℕ) → length x ≡ text_width → length (trace_bytes n a p x) ≡ trace_length
unfolding trace_bytes
length-trace_bytes n a p x h = simp (length-append, length-big_endian, h)

pub length-trace : (r : TraceRecord) → length (text_of r.text) ≤ text_width → length (trace_record r) ≡ trace_length
unfolding trace_record
length-trace r h = length-trace_bytes r.number r.address r.phase (padded text_width (text_of r.text)) (length-padded text_width (text_of r.text) h)

pub length_slot : (k i : List ℕ) (j : ℕ) → length k ≡ columns_length → j < trace_limit → length (slot_bytes k i j) ≡ trace_length
length_slot k i j e h =
    let l : text_width ≤ length (drop (j * text_width) k) = simp length-drop (omega arith) in
    length-trace_bytes (get_or i j 0) (get_or k (addresses_at + j) 0) (get_or k (phases_at + j) 0) (take text_width (drop (j * text_width) k)) (length-take-le text_width (drop (j * text_width) k) l)

pub length_end : (hid : ℕ → Bool) (stop : ℕ) (s : State) (k : Counters) (mark : ℕ) → length (end_record hid stop s k mark) ≡ end_length
unfolding end_record control_bytes count_bytes fault_bytes big_endian
length_end hid stop s k mark = refl

pub length-hidden : (n : ℕ) → length (hidden_record n) ≡ hidden_length
unfolding hidden_record
length-hidden n = simp length-big_endian

-- ---- the rows

pub length-starts : (hid : ℕ → Bool) (words marks : List ℕ) → length (start_records hid words marks) ≡ starts_length
unfolding start_records
length-starts hid words marks = length_each start_length (λ a. start_record hid a (get_or marks a 0) (get_or words a 0)) 0 memory_words (λ a. length-start hid a (get_or marks a 0) (get_or words a 0))

-- of w bytes each
pub length_list : (w : ℕ) (f : ℕ → List ℕ) (l : List ℕ) → ((x : ℕ) → length (f x) ≡ w) → length (each_record f l) ≡ w * length l
unfolding each_record
length_list w f l h = length_each w (λ i. f (get_or l i 0)) 0 (length l) (λ i. h (get_or l i 0))

pub length-breaks : (l : List ℕ) → length (each_record break_record l) ≡ break_length * length l
length-breaks l = length_list break_length break_record l (λ b. refl)

pub length_touches : (l : List ℕ) → length (each_record touched_record l) ≡ touched_length * length l
length_touches l = length_list touched_length touched_record l length-touched

pub length_traces : (t : List TraceRecord) → TextsFit t → length (trace_records t) ≡ trace_length * length t
unfolding trace_records
length_traces t h = length_each trace_length (λ i. trace_record (get_or t i no_record)) 0 (length t) (λ i. length-trace (get_or t i no_record) (h i))

-- an index has w bytes
pub length_values : (hid : ℕ → Bool) (kind w n : ℕ) (values marks : List ℕ) → length (value_records hid kind (big_endian w) n values marks) ≡ value_length w * n
unfolding value_records
length_values hid kind w n values marks =
    length_each (value_length w) (λ i. value_record hid kind (big_endian w i) (get_or marks i 0) (get_or values i 0)) 0 n
    (λ i. length-value hid kind (big_endian w i) (get_or marks i 0) (get_or values i 0) (length-big_endian w i))

-- ---- the whole

module _ (hid : ℕ → Bool) where
  length_records : (stop : ℕ) (m : Machine) (k : Marks) → TextsFit m.trace
      → length (end_records hid stop m k) ≡ run_length (length m.trace) (length m.touched)
  unfolding end_records
  length_records stop m k h = simp (
    length-append,
    length_traces m.trace h,
    length_values hid 5 index_width register_count m.registers k.registers,
    length_values hid 6 address_width memory_words m.memory k.memory,
    length_touches m.touched,
    length_end hid stop m.state m.counters k.mdr,
    length-hidden (hidden_count hid k.memory),
  )

  -- its last two records: that of the run's end, and how many words are hidden there
  abbrev pub last_records : GuardedEnd → List ℕ
  last_records e =
      let k = e.guarded.marks in
      end_record hid (stop_number e.stop) e.guarded.machine.state e.guarded.machine.counters k.mdr ++ hidden_record (hidden_count hid k.memory)

  length_last_records : (e : GuardedEnd) → length (last_records e) ≡ last_length
  length_last_records e =
      let k = e.guarded.marks in
      simp (length-append, length_end hid (stop_number e.stop) e.guarded.machine.state e.guarded.machine.counters k.mdr, length-hidden (hidden_count hid k.memory))

pub length_head_of : (i : Input) → length (head_of i) ≡ head_length
length_head_of i = length_head (length i.image) i.budget (length i.breaks) i.clearance

module _ (i : Input) where
  abbrev hides : ℕ → Bool
  hides = hidden_from i.clearance

  length_with : TextsFit (guarded_of i).guarded.machine.trace
      → length (report_bytes i) ≡ report_length (length i.breaks) (length (guarded_of i).guarded.machine.trace) (length (guarded_of i).guarded.machine.touched)
  unfolding report_bytes report_on end_bytes
  length_with h =
      let e = guarded_of i in
      simp (
        length-append,
        length_head_of i,
        length-starts hides (image_words i.image) i.marks,
        length-breaks i.breaks,
        length_records hides (stop_number e.stop) e.guarded.machine e.guarded.marks h,
      )

  -- of every guarded run
  pub length_report : length (report_bytes i) ≡ report_length (length i.breaks) (length (guarded_of i).guarded.machine.trace) (length (guarded_of i).guarded.machine.touched)
  length_report = length_with (λ n. live-fits _ ((guarded_bounded i).texts n))

  pub last_records_lem : (n : ℕ) → n + last_length ≡ length (report_bytes i) → drop n (report_bytes i) ≡ last_records hides (guarded_of i)
  unfolding report_bytes report_on end_bytes end_records
  last_records_lem n h =
      let e = guarded_of i in
      let m = e.guarded.machine in
      let k = e.guarded.marks in
      let last = last_records hides e in
      let front =
      head_of i
      ++ (start_records hides (image_words i.image) i.marks
      ++ (each_record break_record i.breaks
      ++ (trace_records m.trace
      ++ (value_records hides 5 index_bytes register_count m.registers k.registers
      ++ (value_records hides 6 address_bytes memory_words m.memory k.memory ++ each_record touched_record m.touched))))) in
      let parts : front ++ last ≡ report_bytes i = simp append_assoc in
      let size : length front + last_length ≡ length (report_bytes i) = sym (ap (λ (x : ℕ). length front + x) (length_last_records hides e)) ∙ sym (length-append front last) ∙ ap length parts in
      ap (drop n) (sym parts) ∙ drop_at front last n (omega arith)

-- none is empty
pub report_some : (i : Input) → 0 < length (report_bytes i)
report_some i = rw (length_report i) (omega arith)

-- the limit as a number
pub limit_number : report_limit ≡ 33934
limit_number = refl

-- no larger length comes of numbers that are not larger
pub limit_holds : (breaks trace touched : ℕ) → breaks ≤ break_limit → trace ≤ trace_limit → touched ≤ memory_words → report_length breaks trace touched ≤ report_limit
limit_holds breaks trace touched b t a = omega arith

-- a report that is not refused fits its buffer
pub report_fits : (i : Input) (room : ℕ) → report_refusal i room ≡ 0 → (length (report_bytes i) ≤ report_limit) × (report_limit ≤ room)
report_fits i room e =
    let a = accepted i room e in
    let b = guarded_bounded i in
    let m = (guarded_of i).guarded.machine in
    (rw (length_report i) (limit_holds (length i.breaks) (length m.trace) (length m.touched) a.0.few b.trace (touched-few m b)), a.1)
