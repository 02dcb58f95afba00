-- The records of kinds 04 to 08 and 0A from a machine's struct: the arrays of its trace hold them, the oldest in its slot.
-- Assumes nothing.
use Prim.Native.Nat.{ℕ, ◌+◌, ◌*◌, ◌%◌, ◌≤◌, ◌<◌}
use native.Mathlib.Omega.{arith}
use mathlib.Core.Path.{◌≡◌, sym, ap, ◌∙◌}
use mathlib.Core.Bool.{Bool}
use mathlib.Core.List.{List, [], ◌∷◌, ◌++◌, append_assoc}
use lib.ListN.{length, take, get_or, length-append}
use lib.Seq.{get_or-take, length-take-le}
use Rattle.encoding.specs.Bytes.{over, each_from}
use Rattle.encoding.proofs.Written.{length_each, length-joined, overs_eq}
use Rattle.isa.specs.Text.{padded, text_of}
use Rattle.vm.specs.declared.machine.Machine.{Machine as Code}
use Rattle.trace.specs.declared.records.TraceRecord.{TraceRecord}
use Rattle.vm.specs.Calls.{view_of}
use Rattle.marks.specs.Total.{hidden_count}
use Rattle.trace.specs.Trace.{slots, turn, record_at, live_trace, texts_in, addresses_in, phases_in, columns_length, trace_limit, addresses_at, phases_at}
use Rattle.trace.proofs.Rings.{length-slots, column_at, text_at_lem}
use Rattle.vm.proofs.Newest.{get_d_slots, get_d_turn, trace-length}
use Rattle.secret.specs.Report.{trace_bytes, trace_record, no_record, trace_records, value_records, index_bytes, address_bytes, touched_record, each_record, end_record, hidden_record, end_records}
use Rattle.secret.specs.Forms.{slot_bytes, slot_records, Reportable}
use Rattle.isa.specs.Sizes.{memory_words, register_count, text_width}
use Rattle.control.specs.Address.{address_width}
use Rattle.secret.specs.Widths.{index_width, trace_length, touched_length, last_length, cells_length, run_length}
use Rattle.secret.proofs.Cut.{each_same}
use Rattle.secret.proofs.Lengths.{length_slot, length_values, length_touches, length_end, length-hidden}

-- record j of a trace
live_at : (start n : ℕ) (x i a p l : List ℕ) (j : ℕ) → n ≤ trace_limit → j < n → get_or (live_trace start n x i a p l) j no_record ≡ record_at x i a p l ((start % trace_limit + j) % trace_limit)
unfolding live_trace
live_at start n x i a p l j h k =
    let q = slots trace_limit (record_at x i a p l) in
    get_or-take n (turn q (start % trace_limit)) j no_record k
    ∙ get_d_turn q (start % trace_limit) j no_record (omega arith) (omega arith) (length-slots trace_limit (record_at x i a p l))
    ∙ get_d_slots trace_limit ((start % trace_limit + j) % trace_limit) (record_at x i a p l) no_record (omega arith)

-- the bytes of a slot are those of its record, where zeros stand behind its text
slot_record : (k i l : List ℕ) (j : ℕ) (r : TraceRecord) → j < trace_limit → length k ≡ columns_length → r ≡ record_at (texts_in k) i (addresses_in k) (phases_in k) l j → padded text_width (text_of r.text) ≡ r.text.bytes → slot_bytes k i j ≡ trace_record r
unfolding trace_record
slot_record k i l j r h long e z =
    (λ y. trace_bytes (get_or i j 0) (sym (column_at k addresses_at j h) y) (sym (column_at k phases_at j h) y) (sym (text_at_lem k j h (omega arith)) y))
    ∙ ap (λ (q : TraceRecord). trace_bytes q.number q.address q.phase q.text.bytes) (sym e)
    ∙ ap (λ (y : List ℕ). trace_bytes r.number r.address r.phase y) (sym z)

abbrev slots_of : Code → List ℕ
slots_of m = slot_records m.trace_start m.trace_len m.columns m.numbers

trace-slots : (m : Code) → Reportable m → slots_of m ≡ trace_records (view_of m).trace
unfolding slot_records trace_records
trace-slots m r =
    let t = (view_of m).trace in
    let at : (j : ℕ) → j < m.trace_len → get_or t j no_record ≡ record_at (texts_in m.columns) m.numbers (addresses_in m.columns) (phases_in m.columns) m.lengths ((m.trace_start % trace_limit + j) % trace_limit) =
    λ j h. live_at m.trace_start m.trace_len (texts_in m.columns) m.numbers (addresses_in m.columns) (phases_in m.columns) m.lengths j r.trace h in
    each_same (λ j. slot_bytes m.columns m.numbers ((m.trace_start % trace_limit + j) % trace_limit)) (λ j. trace_record (get_or t j no_record)) 0 m.trace_len
    (λ j h. slot_record m.columns m.numbers m.lengths ((m.trace_start % trace_limit + j) % trace_limit) (get_or t j no_record) (omega arith) r.columns (at j (omega arith)) (r.texts j))
    ∙ ap (λ (n : ℕ). each_from (λ j. trace_record (get_or t j no_record)) 0 n) (sym (trace-length m.trace_start m.trace_len (texts_in m.columns) m.numbers (addresses_in m.columns) (phases_in m.columns) m.lengths r.trace))

length-slots_of : (m : Code) → length m.columns ≡ columns_length → length (slots_of m) ≡ trace_length * m.trace_len
unfolding slot_records
length-slots_of m e =
    length_each trace_length (λ j. slot_bytes m.columns m.numbers ((m.trace_start % trace_limit + j) % trace_limit)) 0 m.trace_len
    (λ j. length_slot m.columns m.numbers ((m.trace_start % trace_limit + j) % trace_limit) e (omega arith))

module _ (hid : ℕ → Bool) (m : Code) (r : Reportable m) (stop mark : ℕ) (rm mm : List ℕ) where
  abbrev cells : List ℕ
  cells = value_records hid 5 index_bytes register_count m.registers rm ++ value_records hid 6 address_bytes memory_words m.memory mm

  abbrev last : List ℕ
  last = each_record touched_record (take m.touched_len m.touched) ++ (end_record hid stop m.state m.counters mark ++ hidden_record (hidden_count hid mm))

  -- the pieces in one
  run-bytes : slots_of m ++ (cells ++ last) ≡ end_records hid stop (view_of m) (record { memory = mm; registers = rm; mdr = mark })
  unfolding end_records
  run-bytes = rw (trace-slots m r, append_assoc (value_records hid 5 index_bytes register_count m.registers rm))

  pub length_cells : length cells ≡ cells_length
  length_cells = simp (length-append, length_values hid 5 index_width register_count m.registers rm, length_values hid 6 address_width memory_words m.memory mm)

  pub length_last : length last ≡ touched_length * m.touched_len + last_length
  length_last =
      let h = r.touched in
      let e = r.places in
      let l : length (take m.touched_len m.touched) ≡ m.touched_len = length-take-le m.touched_len m.touched (omega arith) in
      simp (length-append, length_touches (take m.touched_len m.touched), l, length_end hid stop m.state m.counters mark, length-hidden (hidden_count hid mm))

  -- as the three calls leave them
  pub run-over : (d : List ℕ) (at : ℕ) → at + run_length m.trace_len m.touched_len ≤ length d
      → over (over (over d at (slots_of m)) (at + trace_length * m.trace_len) cells) (at + trace_length * m.trace_len + cells_length) last
      ≡ over d at (end_records hid stop (view_of m) (record { memory = mm; registers = rm; mdr = mark }))
  run-over d at h =
      overs_eq d at ((trace_length * m.trace_len, slots_of m) ∷ (cells_length, cells) ∷ (touched_length * m.touched_len + last_length, last) ∷ [])
      (length-slots_of m r.columns, (length_cells, (length_last, tt))) (omega arith)
      ∙ ap (over d at) run-bytes

  pub length_run : length (end_records hid stop (view_of m) (record { memory = mm; registers = rm; mdr = mark })) ≡ run_length m.trace_len m.touched_len
  length_run =
      ap length (sym run-bytes)
      ∙ length-joined ((trace_length * m.trace_len, slots_of m) ∷ (cells_length, cells) ∷ (touched_length * m.touched_len + last_length, last) ∷ []) (length-slots_of m r.columns, (length_cells, (length_last, tt)))
      ∙ omega arith
