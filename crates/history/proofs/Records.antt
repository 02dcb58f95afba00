-- The laws of a record: its pieces lie one behind the other, its own bytes are enough to read it, and what is written is read back.
-- Assumes nothing.
use native.Mathlib.Nat.{zero-add}
use Rattle.isa.proofs.Truths.{both}
use mathlib.Core.Path.{◌≡◌, refl, sym, ap, ◌∙◌}
use mathlib.Core.Bool.{Bool, true, false, ◌&&◌}
use mathlib.Core.List.{List, [], ◌∷◌, ◌++◌, append_assoc}
use Prim.Native.Nat.{ℕ, ◌+◌, ◌-◌, ◌^◌, ◌≤◌, ◌<◌}
use Rattle.std.proofs.Common.{Some}
use Rattle.std.specs.Int.{from_bool}
use lib.Dec.{eqb, leb, lit<, lit≤}
use lib.ListN.{length, take, drop, get_or, length-append}
use lib.Seq.{drop-append-add, get_or-drop}
use Rattle.isa.specs.Sizes.{memory_words, register_count}
use Rattle.encoding.specs.Bytes.{over, big_endian, big_endians, number, numbers}
use Rattle.encoding.proofs.Written.{Sized, length-joined, overs_eq}
use Rattle.encoding.proofs.Numbers.{length-big_endian, length-big_endians, length-numbers, number-below, numbers-below, number-big_endian, numbers-big_endians}
use Rattle.control.specs.Address.{address_width}
use Rattle.control.specs.Control.{fresh_control, with_pc, with_ir, with_mar, with_mdr, with_address, to_tick, with_execute_ticks, with_halted}
use Rattle.control.specs.Lawful.{lawful}
use Rattle.control.specs.Codes.{fault_code, fault_bytes, fault_of}
use Rattle.control.proofs.Faults.{fault_back, kind_known, fault-word-below, fault-address-below}
use Rattle.control.specs.declared.control.Control.{Control}
use Rattle.history.specs.Record.{byte_width, word_width, counter_width, padding_width}
use Rattle.history.specs.Record.{pc_at, ir_at, registers_at, mar_at, mdr_at, instruction_address_at, tick_at, execute_ticks_at, halted_at}
use Rattle.history.specs.Record.{fault_kind_at, fault_word_at, fault_address_at, instructions_at, micro_operations_at, memory_at, record_length}
use Rattle.history.specs.Record.{front_bytes, state_bytes, count_bytes, memory_bytes, record_bytes, control_in, fault_in, snapshot_in, is_record, record_in, Fits, is_good}
use Rattle.history.specs.declared.snapshot.Snapshot.{Snapshot}
use Rattle.history.proofs.Parts.{number_cut, numbers_cut}

-- ---- its pieces

abbrev front_of : Snapshot → List ℕ
front_of s = front_bytes s.control.pc s.control.ir s.registers

abbrev counts_of : Snapshot → List ℕ
counts_of s = count_bytes s.fault s.instructions s.micro_operations

abbrev pieces : Snapshot → List (ℕ × List ℕ)
pieces s = (mar_at - pc_at, front_of s) ∷ (fault_kind_at - mar_at, state_bytes s.control) ∷ (memory_at - fault_kind_at, counts_of s) ∷ (record_length - memory_at, memory_bytes s.memory) ∷ []

length_front : (s : Snapshot) → length s.registers ≡ register_count → length (front_of s) ≡ mar_at - pc_at
unfolding front_bytes big_endian
length_front s e = rw (length-big_endians word_width s.registers, e)

length-state : (c : Control) → length (state_bytes c) ≡ fault_kind_at - mar_at
unfolding state_bytes big_endian
length-state c = refl

length-counts : (s : Snapshot) → length (counts_of s) ≡ memory_at - fault_kind_at
unfolding count_bytes fault_bytes big_endian
length-counts s = refl

length-memory : (m : List ℕ) → length m ≡ memory_words → length (memory_bytes m) ≡ record_length - memory_at
unfolding memory_bytes
length-memory m e = length-append (big_endians word_width m) (big_endian padding_width 0) ∙ rw (length-big_endians word_width m, length-big_endian padding_width 0, e)

sized : (s : Snapshot) → length s.registers ≡ register_count → length s.memory ≡ memory_words → Sized (pieces s)
sized s e f = (length_front s e, (length-state s.control, (length-counts s, (length-memory s.memory f, tt))))

-- what the four calls of `encode` leave
pub record_over : (s : Snapshot) (d : List ℕ) → length s.registers ≡ register_count → length s.memory ≡ memory_words → record_length ≤ length d
    → over (over (over (over d pc_at (front_of s)) mar_at (state_bytes s.control)) fault_kind_at (counts_of s)) memory_at (memory_bytes s.memory) ≡ over d pc_at (record_bytes s)
unfolding record_bytes
record_over s d e f h = overs_eq d pc_at (pieces s) (sized s e f) h

pub length_record : (s : Snapshot) → Fits s → length (record_bytes s) ≡ record_length
unfolding record_bytes
length_record s f = length-joined (pieces s) (sized s f.sixteen f.many)

-- ---- its own bytes are enough

module _ (l : List ℕ) where
  byte_cut : (at : ℕ) → at + byte_width ≤ record_length → number byte_width (drop at (take record_length l)) ≡ number byte_width (drop at l)
  byte_cut at h = number_cut byte_width at record_length l h

  word_cut : (at : ℕ) → at + word_width ≤ record_length → number word_width (drop at (take record_length l)) ≡ number word_width (drop at l)
  word_cut at h = number_cut word_width at record_length l h

  control_cut : control_in (take record_length l) ≡ control_in l
  unfolding control_in
  control_cut = λ i.
      with_pc (byte_cut pc_at (lit≤ tt) i)
      (with_ir (word_cut ir_at (lit≤ tt) i)
      (with_mar (number_cut address_width mar_at record_length l (lit≤ tt) i)
      (with_mdr (word_cut mdr_at (lit≤ tt) i)
      (with_address (byte_cut instruction_address_at (lit≤ tt) i)
      (to_tick (byte_cut tick_at (lit≤ tt) i)
      (with_execute_ticks (byte_cut execute_ticks_at (lit≤ tt) i)
      (with_halted (eqb (byte_cut halted_at (lit≤ tt) i) 1) fresh_control)))))))

  fault_cut : fault_in (take record_length l) ≡ fault_in l
  unfolding fault_in
  fault_cut = λ i. fault_of (byte_cut fault_kind_at (lit≤ tt) i) (word_cut fault_word_at (lit≤ tt) i) (byte_cut fault_address_at (lit≤ tt) i)

  snapshot_cut : snapshot_in (take record_length l) ≡ snapshot_in l
  unfolding snapshot_in
  snapshot_cut = λ i. record {
    registers = numbers_cut word_width register_count registers_at record_length l (lit≤ tt) i;
    memory = numbers_cut word_width memory_words memory_at record_length l (lit≤ tt) i;
    control = control_cut i;
    fault = fault_cut i;
    instructions = number_cut counter_width instructions_at record_length l (lit≤ tt) i;
    micro_operations = number_cut counter_width micro_operations_at record_length l (lit≤ tt) i;
  }

  good_cut : is_record (take record_length l) ≡ is_record l
  unfolding is_record
  good_cut = λ i. leb (byte_cut halted_at (lit≤ tt) i) 1 && (leb (byte_cut fault_kind_at (lit≤ tt) i) 2 && lawful (control_cut i))

  pub record_cut : record_in (take record_length l) ≡ record_in l
  unfolding record_in
  record_cut = rw (good_cut, snapshot_cut)

-- ---- what is written is read back

bit_back : (b : Bool) → eqb (from_bool b) 1 ≡ b
bit_back true = refl
bit_back false = refl

bit-known : (b : Bool) → leb (from_bool b) 1 ≡ true
bit-known true = refl
bit-known false = refl

bit-small : (b : Bool) → from_bool b < 256
bit-small true = lit< tt
bit-small false = lit< tt

module _ (s : Snapshot) (f : Fits s) (rest : List ℕ) where
  -- the bytes of the record and what stands behind it
  abbrev bytes : List ℕ
  bytes = record_bytes s ++ rest

  -- the bytes from MAR on
  abbrev behind : List ℕ
  behind = state_bytes s.control ++ (counts_of s ++ (memory_bytes s.memory ++ rest))

  split : bytes ≡ front_of s ++ behind
  unfolding record_bytes
  split = simp append_assoc

  past : (k : ℕ) → drop (mar_at + k) bytes ≡ drop k behind
  past k =
      ap (λ (l : List ℕ). drop (mar_at + k) l) split
      ∙ ap (λ (n : ℕ). drop (n + k) (front_of s ++ behind)) (sym (length_front s f.sixteen))
      ∙ drop-append-add (front_of s) behind k

  -- each field where it is read
  pc_back : number byte_width (drop pc_at bytes) ≡ s.control.pc
  unfolding front_bytes big_endian
  pc_back = ap (λ (l : List ℕ). number byte_width (drop pc_at l)) split ∙ number-big_endian byte_width s.control.pc _ f.pc

  ir_back : number word_width (drop ir_at bytes) ≡ s.control.ir
  unfolding front_bytes big_endian
  ir_back = ap (λ (l : List ℕ). number word_width (drop ir_at l)) split ∙ number-big_endian word_width s.control.ir _ f.ir

  registers_back : numbers word_width register_count (drop registers_at bytes) ≡ s.registers
  unfolding front_bytes big_endian
  registers_back =
      ap (λ (l : List ℕ). numbers word_width register_count (drop registers_at l)) split
      ∙ ap (λ (n : ℕ). numbers word_width n (big_endians word_width s.registers ++ behind)) (sym f.sixteen)
      ∙ numbers-big_endians word_width s.registers behind f.registers

  halted_byte : number byte_width (drop halted_at bytes) ≡ from_bool s.control.halted
  unfolding state_bytes big_endian
  halted_byte = ap (number byte_width) (past (halted_at - mar_at)) ∙ number-big_endian byte_width (from_bool s.control.halted) _ (bit-small s.control.halted)

  control_back : control_in bytes ≡ s.control
  unfolding control_in state_bytes big_endian
  control_back =
      let c = s.control in
      λ i.
      with_pc (pc_back i)
      (with_ir (ir_back i)
      (with_mar ((ap (number address_width) (past 0) ∙ number-big_endian address_width c.mar _ f.mar) i)
      (with_mdr ((ap (number word_width) (past (mdr_at - mar_at)) ∙ number-big_endian word_width c.mdr _ f.mdr) i)
      (with_address ((ap (number byte_width) (past (instruction_address_at - mar_at)) ∙ number-big_endian byte_width c.instruction_address _ f.address) i)
      (to_tick ((ap (number byte_width) (past (tick_at - mar_at)) ∙ number-big_endian byte_width c.tick _ f.tick) i)
      (with_execute_ticks ((ap (number byte_width) (past (execute_ticks_at - mar_at)) ∙ number-big_endian byte_width c.execute_ticks _ f.ticks) i)
      (with_halted ((ap (λ (n : ℕ). eqb n 1) halted_byte ∙ bit_back c.halted) i) fresh_control)))))))

  kind_back : number byte_width (drop fault_kind_at bytes) ≡ (fault_code s.fault).kind
  unfolding state_bytes count_bytes fault_bytes big_endian number
  kind_back = ap (number byte_width) (past (fault_kind_at - mar_at)) ∙ zero-add (fault_code s.fault).kind

  word_back : number word_width (drop fault_word_at bytes) ≡ (fault_code s.fault).word
  unfolding state_bytes count_bytes fault_bytes big_endian
  word_back = ap (number word_width) (past (fault_word_at - mar_at)) ∙ number-big_endian word_width (fault_code s.fault).word _ f.fault-word

  address_back : number byte_width (drop fault_address_at bytes) ≡ (fault_code s.fault).address
  unfolding state_bytes count_bytes fault_bytes big_endian number
  address_back = ap (number byte_width) (past (fault_address_at - mar_at)) ∙ zero-add (fault_code s.fault).address

  instructions_back : number counter_width (drop instructions_at bytes) ≡ s.instructions
  unfolding state_bytes count_bytes fault_bytes big_endian
  instructions_back = ap (number counter_width) (past (instructions_at - mar_at)) ∙ number-big_endian counter_width s.instructions _ f.instructions

  operations_back : number counter_width (drop micro_operations_at bytes) ≡ s.micro_operations
  unfolding state_bytes count_bytes fault_bytes big_endian
  operations_back = ap (number counter_width) (past (micro_operations_at - mar_at)) ∙ number-big_endian counter_width s.micro_operations _ f.operations

  memory_back : numbers word_width memory_words (drop memory_at bytes) ≡ s.memory
  unfolding state_bytes count_bytes fault_bytes memory_bytes big_endian
  memory_back =
      ap (numbers word_width memory_words) (past (memory_at - mar_at) ∙ append_assoc (big_endians word_width s.memory) (big_endian padding_width 0) rest)
      ∙ ap (λ (n : ℕ). numbers word_width n (big_endians word_width s.memory ++ (big_endian padding_width 0 ++ rest))) (sym f.many)
      ∙ numbers-big_endians word_width s.memory _ f.memory

  -- the snapshot that was written is read, whatever stands behind it
  pub snapshot_back : snapshot_in bytes ≡ s
  unfolding snapshot_in fault_in
  snapshot_back = λ i. record {
    registers = registers_back i;
    memory = memory_back i;
    control = control_back i;
    fault = ((λ j. fault_of (kind_back j) (word_back j) (address_back j)) ∙ fault_back s.fault) i;
    instructions = instructions_back i;
    micro_operations = operations_back i;
  }

  -- its bytes are a record's just where its tick is not refused 8
  pub good_back : is_record bytes ≡ is_good s
  unfolding is_record
  good_back =
      (λ i. leb (halted_byte i) 1 && (leb (kind_back i) 2 && lawful (control_back i)))
      ∙ rw (bit-known s.control.halted, kind_known s.fault)

  pub round_trip : is_good s ≡ true → record_in bytes ≡ Some s
  unfolding record_in
  round_trip g = rw (good_back ∙ g, snapshot_back)

-- ---- what is read from bytes fits its fields, and `undo` takes it

module _ (l : List ℕ) (b : (i : ℕ) → get_or l i 0 < 256) where
  read : (w at : ℕ) → number w (drop at l) < 256 ^ w
  read w at = number-below w (drop at l) (λ j. rw get_or-drop (b (at + j)))

  pub snapshot_fits : Fits (snapshot_in l)
  unfolding snapshot_in control_in fault_in
  snapshot_fits = record {
    pc = read byte_width pc_at;
    ir = read word_width ir_at;
    sixteen = length-numbers word_width register_count (drop registers_at l);
    registers = numbers-below word_width register_count (drop registers_at l) (λ j. rw get_or-drop (b (registers_at + j)));
    mar = read address_width mar_at;
    mdr = read word_width mdr_at;
    address = read byte_width instruction_address_at;
    tick = read byte_width tick_at;
    ticks = read byte_width execute_ticks_at;
    fault-word = fault-word-below (number byte_width (drop fault_kind_at l)) (number word_width (drop fault_word_at l)) (number byte_width (drop fault_address_at l)) 65536 (lit< tt) (read word_width fault_word_at);
    fault-address = fault-address-below (number byte_width (drop fault_kind_at l)) (number word_width (drop fault_word_at l)) (number byte_width (drop fault_address_at l)) 256 (lit< tt) (read byte_width fault_address_at);
    instructions = read counter_width instructions_at;
    operations = read counter_width micro_operations_at;
    many = length-numbers word_width memory_words (drop memory_at l);
    memory = numbers-below word_width memory_words (drop memory_at l) (λ j. rw get_or-drop (b (memory_at + j)));
  }

pub snapshot_good : (l : List ℕ) → is_record l ≡ true → is_good (snapshot_in l) ≡ true
unfolding is_record snapshot_in
snapshot_good l g = (both (leb (number byte_width (drop fault_kind_at l)) 2) _ (both (leb (number byte_width (drop halted_at l)) 1) _ g).1).1
