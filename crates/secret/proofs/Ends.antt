-- The records of how a run ended, kinds 04 to 08 and 0A: two ends that no mark tells apart have the same; and so start two runs of the same public input.
-- Assumes nothing.
use Prim.Native.Nat.{ℕ, ◌<◌}
use native.Mathlib.Omega.{arith}
use mathlib.Core.Path.{◌≡◌, refl, sym, ◌∙◌}
use mathlib.Core.Bool.{Bool}
use mathlib.Core.List.{List, ◌∷◌, ◌++◌}
use lib.ListN.{length, get_or, replicate}
use Rattle.isa.specs.Sizes.{memory_words, register_count}
use Rattle.vm.specs.Calls.{restarted, image_words}
use Rattle.marks.specs.Marks.{Marks, shown}
use Rattle.marks.specs.Total.{hidden_count}
use Rattle.vm.specs.Guard.{GuardedEnd, guarded_start}
use Rattle.guard.specs.Stops.{stop_number}
use Rattle.vm.proofs.Steps.{Public, public_of}
use Rattle.secret.proofs.Levels.{Twin, Twins, Level, LevelEnd}
use Rattle.control.specs.Codes.{fault_bytes}
use Rattle.secret.specs.Report.{trace_records, index_bytes, address_bytes, touched_record, each_record, control_bytes, count_bytes, value_record, start_record, start_records, value_records, end_record, hidden_record, end_records, end_bytes}
use Rattle.secret.proofs.Twins.{twin_refl, twins_get, twins_of}
use Rattle.secret.proofs.Cut.{each_same}
use Rattle.secret.proofs.Shows.{shown_same, value_same, start_same}

module _ {hid : ℕ → Bool} where
  twins_same : (k : List ℕ) (v : List ℕ) → length v ≡ length k → Twins hid k v v
  twins_same k v e = twins_of k v v e e (λ i l. twin_refl)

module _ (hid : ℕ → Bool) where
  -- ---- the ends

  -- the end's bytes from what is public of a machine, MDR and its mark
  end_parts : ℕ → Public → ℕ → ℕ → List ℕ
  end_parts stop p mdr mark = 8 ∷ stop ∷ (control_bytes p.pc p.ir p.mar mark (shown hid mark mdr) ++ (count_bytes p.counters ++ fault_bytes p.fault))

  -- all the records: stop, what is public, memory, registers, MDR, marks
  all_parts : ℕ → Public → List ℕ → List ℕ → ℕ → Marks → List ℕ
  all_parts stop p memory registers mdr k =
      trace_records p.trace
      ++ (value_records hid 5 index_bytes register_count registers k.registers
      ++ (value_records hid 6 address_bytes memory_words memory k.memory
      ++ (each_record touched_record p.touched ++ (end_parts stop p mdr k.mdr ++ hidden_record (hidden_count hid k.memory)))))

  abbrev parts_of : GuardedEnd → List ℕ
  parts_of e = let m = e.guarded.machine in all_parts (stop_number e.stop) (public_of m) m.memory m.registers m.state.control.mdr e.guarded.marks

  in_parts : (e : GuardedEnd) → end_bytes hid e ≡ parts_of e
  unfolding end_bytes end_records end_record all_parts end_parts
  in_parts e = refl

  values_same : (kind : ℕ) (bytes : ℕ → List ℕ) (n : ℕ) {k v w : List ℕ} → Twins hid k v w → value_records hid kind bytes n v k ≡ value_records hid kind bytes n w k
  unfolding value_records
  values_same kind bytes n {k} {v} {w} t =
      each_same (λ i. value_record hid kind (bytes i) (get_or k i 0) (get_or v i 0)) (λ i. value_record hid kind (bytes i) (get_or k i 0) (get_or w i 0)) 0 n
      (λ i l. value_same hid kind (bytes i) (twins_get t i))

  -- other values behind the same marks
  cells_same : (stop : ℕ) (p : Public) (k : Marks) {m n r s : List ℕ} {d e : ℕ} → Twins hid k.memory m n → Twins hid k.registers r s → Twin hid k.mdr d e
      → all_parts stop p m r d k ≡ all_parts stop p n s e k
  unfolding all_parts end_parts
  cells_same stop p k tm tr td = rw (values_same 5 index_bytes register_count tr, values_same 6 address_bytes memory_words tm, shown_same hid td)

  pub ends_same : (a b : GuardedEnd) → LevelEnd hid a b → end_bytes hid a ≡ end_bytes hid b
  ends_same a b l =
      let m = b.guarded.machine in
      in_parts a
      ∙ cells_same (stop_number a.stop) (public_of a.guarded.machine) a.guarded.marks l.level.memory l.level.registers l.level.mdr
      ∙ (λ i. all_parts (stop_number (l.stop i)) (l.level.public i) m.memory m.registers m.state.control.mdr (l.level.marks i))
      ∙ sym (in_parts b)

  -- ---- the starts

  -- the words of two images under the marks k
  pub starts_same : (v w k : List ℕ) → ((a : ℕ) → a < memory_words → Twin hid (get_or k a 0) (get_or v a 0) (get_or w a 0)) → start_records hid v k ≡ start_records hid w k
  unfolding start_records
  starts_same v w k t = each_same (λ a. start_record hid a (get_or k a 0) (get_or v a 0)) (λ a. start_record hid a (get_or k a 0) (get_or w a 0)) 0 memory_words (λ a l. start_same hid a (t a (omega arith)))

  pub start_level : (x y k : List ℕ) → length (image_words x) ≡ length k → length (image_words y) ≡ length k
      → ((a : ℕ) → a < length k → Twin hid (get_or k a 0) (get_or (image_words x) a 0) (get_or (image_words y) a 0)) → Level hid (guarded_start x k) (guarded_start y k)
  unfolding guarded_start restarted
  start_level x y k lx ly t = record {
    public = refl;
    marks = refl;
    memory = twins_of k (image_words x) (image_words y) lx ly t;
    registers = twins_same (replicate register_count 0) (replicate register_count 0) refl;
    mdr = twin_refl;
  }

  pub start-tick : (x k : List ℕ) → (guarded_start x k).machine.state.control.tick ≡ 0
  unfolding guarded_start restarted
  start-tick x k = refl
