-- Laws of the calls on the history (`specs/History.antt`): that an undo gives back what the last push kept, and that a served call leaves a machine.
-- Assumes nothing.
use Prim.Native.Nat.{ℕ, suc, ◌-◌, ◌≤◌, ◌<◌}
use native.Mathlib.Omega.{arith}
use mathlib.Core.Path.{◌≡◌, refl, ap, ◌∙◌}
use mathlib.Core.Bool.{Bool, true, false, cond}
use mathlib.Core.List.{List, [], ◌∷◌}
use borrow.Author.Tests.{ltb-false, le-ltb, le-leb, ne_eqb}
use lib.Dec.{leb, ltb}
use lib.ListN.{length}
use Rattle.isa.specs.Sizes.{memory_words}
use Rattle.control.specs.Lawful.{lawful}
use Rattle.isa.proofs.Truths.{both}
use Rattle.history.specs.declared.snapshot.Snapshot.{Snapshot}
use Rattle.history.specs.Record.{record_length, Fits}
use Rattle.history.specs.Store.{limit_of, push_count, push_store, record_at, newest}
use Rattle.history.specs.Differences.{Ascending}
use Rattle.history.proofs.Stores.{push_served, length_push, newest-pushed, newest-good}
use Rattle.history.proofs.Records.{snapshot_good}
use Rattle.std.proofs.Common.{Option, Some, None, is_some, Result, Ok, Err}
use Rattle.encoding.specs.declared.refusal.Refusal.{Refusal}
use Rattle.encoding.specs.declared.refusal.Refusal.TheVariants.{ShortStore, NoMachine}
use Rattle.history.proofs.Collects.{differences_ascending, differences_count, differences_live}
use Rattle.vm.specs.declared.machine.Machine.{Machine as Code}
use Rattle.trace.specs.Trace.{live_lengths, short_texts}
use Rattle.trace.specs.Touched.{distinct}
use Rattle.encoding.specs.Bytes.{member}
use Rattle.vm.specs.Refusal.{parts_ok}
use Rattle.vm.specs.Calls.{is_machine, answered, serve}
use Rattle.vm.specs.History.{store_refusal, undo_refusal, snapshot_of, saved, saved_store, restored, restored_by, undone}

-- ---- a served push

-- what it was tested for
pub store_served : (n : ℕ) (m : Code) → store_refusal n m ≡ Ok tt → (record_length ≤ n) × ((is_machine m ≡ true) × (m.history_len ≤ limit_of n))
unfolding store_refusal
store_served n m e = go (ltb n record_length) (is_machine m) (ltb (limit_of n) m.history_len) refl refl refl e
  where
    go : (a b c : Bool) → ltb n record_length ≡ a → is_machine m ≡ b → ltb (limit_of n) m.history_len ≡ c
        → ◌≡◌ {A = Result (Unit {0}) Refusal} (cond a (Err ShortStore) (cond b (cond c (Err NoMachine) (Ok tt)) (Err NoMachine))) (Ok tt)
        → (record_length ≤ n) × ((is_machine m ≡ true) × (m.history_len ≤ limit_of n))
    go true b c p q r z = absurd (cc)
    go false false c p q r z = absurd (cc)
    go false true true p q r z = absurd (cc)
    go false true false p q r z = (ltb-false n record_length p, (q, ltb-false (limit_of n) m.history_len r))

-- and where the tests pass it is served
store_fine : (n : ℕ) (m : Code) → record_length ≤ n → is_machine m ≡ true → m.history_len ≤ limit_of n → store_refusal n m ≡ Ok tt
unfolding store_refusal
store_fine n m h e l = rw (le-ltb n record_length h, e, le-ltb (limit_of n) m.history_len l)

undo_fine : (n : ℕ) (m : Code) → store_refusal n m ≡ Ok tt → (m.history_len ≡ 0 → ⊥) → undo_refusal n true m ≡ Ok tt
unfolding undo_refusal
undo_fine n m e h = rw (e, ne_eqb m.history_len 0 h)

-- the number of records that it leaves
pub saved-count : (n : ℕ) (m : Code) → store_refusal n m ≡ Ok tt → (saved n m).machine.history_len ≡ push_count n m.history_len
unfolding saved
saved-count n m e = rw e

-- an undo gives back the fields of the snapshot that the last push kept, below the limit and at it, whatever became of the machine in between
module _ (d : List ℕ) (m later : Code) (f : Fits (snapshot_of m)) (e : store_refusal (length d) m ≡ Ok tt) (ok : is_machine later ≡ true) (same : later.history_len ≡ (saved (length d) m).machine.history_len) where
  pub undo_restores : undone (saved_store d m) later ≡ answered (Ok tt) (restored (snapshot_of m) later)
  unfolding saved_store undone parts_ok
  undo_restores =
      let h = store_served (length d) m e in
      let s = snapshot_of m in
      let k = m.history_len in
      let p = push_served d k s h.0 h.1.1 in
      let n : length (push_store d k s) ≡ length d = length_push d k s f h.0 h.1.1 in
      let c : later.history_len ≡ push_count (length d) k = same ∙ saved-count (length d) m e in
      let w : newest (push_store d k s) later.history_len ≡ Some s = ap (newest (push_store d k s)) c ∙ newest-pushed d k s f h.0 h.1.1 (both (lawful m.state.control) _ h.1.0).0 in
      let fine : store_refusal (length (push_store d k s)) later ≡ Ok tt = store_fine (length (push_store d k s)) later (omega (arith, n, h.0)) ok (omega (arith, n, c, p.count_is, p.room)) in
      let r : undo_refusal (length (push_store d k s)) true later ≡ Ok tt = undo_fine (length (push_store d k s)) later fine (λ z. omega (arith, z, c, p.count_is)) in
      rw (e, w, r)

-- ---- served calls leave a machine

below-not : (x low high : ℕ) (l : List ℕ) → x < low → Ascending low high l → member x l ≡ false
unfolding member
below-not x low high [] h a = refl
below-not x low high (y ∷ l) h a = rw (ne_eqb y x (λ e. omega (arith, h, a.0, e))) (below-not x (suc y) high l (omega (arith, h, a.0)) a.1.1)

all-differ : (low high : ℕ) (l : List ℕ) → Ascending low high l → distinct l ≡ true
unfolding distinct
all-differ low high [] a = refl
all-differ low high (x ∷ l) a = rw (below-not x (suc x) high l (omega arith) a.1.1) (all-differ (suc x) high l a.1.1)

-- the control unit that is read is a machine's
newest-lawful : (d : List ℕ) (k : ℕ) {s : Snapshot} → newest d k ≡ Some s → lawful s.control ≡ true
newest-lawful d k e =
    let n = newest-good d k e in
    rw n.1 (snapshot_good (record_at d (k - 1)) n.0)

-- a call leaves a machine where it leaves the new one or the old one
serve-lasts : (r : Result (Unit {0}) Refusal) (new old : Code) → is_machine new ≡ true → is_machine old ≡ true → is_machine (serve r new old).machine ≡ true
serve-lasts (Ok u) new old a b = a
serve-lasts (Err e) new old a b = b

pub saved-lasts : (n : ℕ) (m : Code) → is_machine m ≡ true → is_machine (saved n m).machine ≡ true
unfolding saved
saved-lasts n m e = serve-lasts (store_refusal n m) _ m e e

-- the image's array has 256 words, as its type tells
restored_ok : (s : Snapshot) (m : Code) → length m.image ≡ memory_words → lawful s.control ≡ true → is_machine m ≡ true → is_machine (restored s m) ≡ true
unfolding restored parts_ok
restored_ok s m z law e =
    let e1 = both (lawful m.state.control) _ e in
    let e2 = both (leb m.image_len memory_words) _ e1.1 in
    let e3 = both (leb m.trace_len 512) _ e2.1 in
    let e4 = both (short_texts (live_lengths m.trace_start m.trace_len m.lengths)) _ e3.1 in
    let few : length m.image ≤ memory_words = omega (arith, z) in
    rw (law, e2.0, e3.0, e4.0, le-leb _ _ (differences_count m.image s.memory few), differences_live m.image s.memory few)
    (all-differ 0 memory_words _ (differences_ascending m.image s.memory few))

pub undone-lasts : (d : List ℕ) (m : Code) → length m.image ≡ memory_words → is_machine m ≡ true → is_machine (undone d m).machine ≡ true
unfolding undone
undone-lasts d m z e = go (newest d m.history_len) refl
  where
    go : (o : Option Snapshot) → newest d m.history_len ≡ o → is_machine (serve (undo_refusal (length d) (is_some o) m) (restored_by o m) m).machine ≡ true
    go None f = serve-lasts (undo_refusal (length d) false m) _ m e e
    go (Some s) f = serve-lasts (undo_refusal (length d) true m) _ m (restored_ok s m z (newest-lawful d m.history_len f) e) e
