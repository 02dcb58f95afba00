-- The laws of push and of the newest record: each by its cases, where the records lie, and that `undo` takes what was pushed.
-- Assumes nothing.
use mathlib.Core.Path.{◌≡◌, refl, sym, ap, ◌∙◌}
use mathlib.Core.Bool.{Bool, true, false, cond}
use mathlib.Core.List.{List, [], append-nil}
use Rattle.std.proofs.Common.{Some, None}
use Rattle.std.proofs.lemmas.Option.{none-some, same_Some}
use Prim.Native.Nat.{ℕ, ◌+◌, ◌-◌, ◌*◌, ◌≤◌, ◌<◌}
use native.Mathlib.Nat.{add-zero}
use native.Mathlib.Omega.{arith}
use borrow.Author.Tests.{lt-ltb, le-ltb, le-leb, eq-eqb, ltb-true, ltb-false}
use lib.Dec.{ltb}
use lib.ListN.{length, take, drop, get_or, length-append, length-take, length-drop}
use lib.Seq.{drop-drop, get_or-drop, length-take-le, take_at}
use Rattle.encoding.specs.Bytes.{over}
use Rattle.encoding.proofs.Written.{length_over, over_from}
use Rattle.history.specs.Record.{record_length, record_bytes, snapshot_in, is_record, record_in, Fits, is_good}
use Rattle.history.specs.Store.{limit_of, record_at, with_record, moved_down, push_count, push_store, is_held, newest}
use Rattle.history.specs.declared.snapshot.Snapshot.{Snapshot}
use Rattle.history.proofs.Parts.{part_same, take_below}
use Rattle.history.proofs.Records.{length_record, round_trip, snapshot_fits, snapshot_good}

-- ---- push, by whether the store has room or is full

pub count-below : (n count : ℕ) → count < limit_of n → push_count n count ≡ count + 1
count-below n count h = rw (lt-ltb count (limit_of n) h)

pub count_else : (n count : ℕ) → limit_of n ≤ count → push_count n count ≡ count
count_else n count h = rw (le-ltb count (limit_of n) h)

module _ (d : List ℕ) (count : ℕ) (s : Snapshot) where
  pub store_below : count < limit_of (length d) → push_store d count s ≡ with_record d count s
  unfolding push_store
  store_below h = rw (lt-ltb count (limit_of (length d)) h)

  pub store-full : 0 < count → count ≡ limit_of (length d) → push_store d count s ≡ with_record (moved_down d (count - 1)) (count - 1) s
  unfolding push_store
  store-full h e = rw (le-ltb count (limit_of (length d)) (omega arith), eq-eqb count (limit_of (length d)) e, lt-ltb 0 count h)

-- ---- the newest record

bytes_at : (d : List ℕ) (k : ℕ) → ((i : ℕ) → get_or d i 0 < 256) → (i : ℕ) → get_or (record_at d k) i 0 < 256
unfolding record_at
bytes_at d k b i = take_below record_length (drop (k * record_length) d) (λ j. rw get_or-drop (b (k * record_length + j))) i

module _ (d : List ℕ) (count : ℕ) where
  pub newest-held : 0 < count → count ≤ limit_of (length d) → newest d count ≡ record_in (record_at d (count - 1))
  unfolding newest
  newest-held h k = rw (le-leb count (limit_of (length d)) k, lt-ltb 0 count h)

  pub newest-none : count ≡ 0 → newest d count ≡ None
  unfolding newest
  newest-none e = rw (le-leb count (limit_of (length d)) (omega arith), le-ltb 0 count (omega arith))

  -- where there is one, it is what the record's bytes hold
  pub newest-good : {s : Snapshot} → newest d count ≡ Some s → (is_record (record_at d (count - 1)) ≡ true) × (s ≡ snapshot_in (record_at d (count - 1)))
  unfolding newest record_in
  newest-good {s} = go (is_held (length d) count) (is_record (record_at d (count - 1))) (snapshot_in (record_at d (count - 1)))
    where
      go : (t u : Bool) (x : Snapshot) → cond t (cond u (Some x) None) None ≡ Some s → (u ≡ true) × (s ≡ x)
      go true true x e = (refl, sym (same_Some x s e))
      go true false x e = absurd (none-some s e)
      go false u x e = absurd (none-some s e)

-- what `undo` takes from a store of bytes fits its fields, and its tick is not refused 8
pub newest-fits : (d : List ℕ) (count : ℕ) {s : Snapshot} → ((i : ℕ) → get_or d i 0 < 256) → newest d count ≡ Some s → Fits s × (is_good s ≡ true)
newest-fits d count b e =
    let n = newest-good d count e in
    rw n.1 (snapshot_fits (record_at d (count - 1)) (bytes_at d (count - 1) b), snapshot_good (record_at d (count - 1)) n.0)

-- ---- where the records lie

-- a store that holds k records and more has room for record k
module _ (d : List ℕ) (k : ℕ) (s : Snapshot) (f : Fits s) (room : k < limit_of (length d)) where
  pub length_with : length (with_record d k s) ≡ length d
  unfolding with_record
  length_with =
      let r : length (record_bytes s) ≡ record_length = length_record s f in
      length_over d (k * record_length) (record_bytes s) (omega arith)

  pub record_put : record_at (with_record d k s) k ≡ record_bytes s
  unfolding record_at with_record
  record_put = rw (over_from d (k * record_length) (record_bytes s) (omega arith)) (take_at (record_bytes s) _ record_length (length_record s f))

  with_front : take (k * record_length) (with_record d k s) ≡ take (k * record_length) d
  unfolding with_record over
  with_front = take_at (take (k * record_length) d) _ (k * record_length) (length-take-le (k * record_length) d (omega arith))

  pub record_kept : (j : ℕ) → j < k → record_at (with_record d k s) j ≡ record_at d j
  unfolding record_at
  record_kept j h =
      let l : length (with_record d k s) ≡ length d = length_with in
      part_same (k * record_length) (with_record d k s) d (omega arith) (omega arith) with_front (j * record_length) record_length (omega arith)

module _ (d : List ℕ) (k : ℕ) (room : k < limit_of (length d)) where
  pub length_moved : length (moved_down d k) ≡ length d
  unfolding moved_down
  length_moved = simp (length-append, length-take, length-drop) (omega arith)

  moved_front : take (k * record_length) (moved_down d k) ≡ take (k * record_length) (drop record_length d)
  unfolding moved_down
  moved_front =
      let b : length (drop record_length d) ≡ length d - record_length = length-drop record_length d in
      take_at (take (k * record_length) (drop record_length d)) _ (k * record_length) (length-take-le (k * record_length) (drop record_length d) (omega arith))

  pub record_moved : (j : ℕ) → j < k → record_at (moved_down d k) j ≡ record_at d (j + 1)
  unfolding record_at
  record_moved j h =
      let l : length (moved_down d k) ≡ length d = length_moved in
      let b : length (drop record_length d) ≡ length d - record_length = length-drop record_length d in
      let e : record_length + j * record_length ≡ (j + 1) * record_length = omega arith in
      part_same (k * record_length) (moved_down d k) (drop record_length d) (omega arith) (omega arith) moved_front (j * record_length) record_length (omega arith)
      ∙ rw (drop-drop, e)

-- ---- a push that is served, with and without room

-- the records that stay lie in `base`, `gone` of the oldest are missing there, and the snapshot goes behind them
pub record Served (d : List ℕ) (count : ℕ) (s : Snapshot) : Type 0 where
  pub base : List ℕ
  pub place : ℕ
  pub gone : ℕ
  pub store_is : push_store d count s ≡ with_record base place s
  pub count_is : push_count (length d) count ≡ place + 1
  pub count_was : count ≡ place + gone
  pub gone_is : gone ≡ count + 1 - limit_of (length d)
  pub length_is : length base ≡ length d
  pub room : place < limit_of (length d)
  pub stay : (j : ℕ) → j < place → record_at base j ≡ record_at d (j + gone)

pub push_served : (d : List ℕ) (count : ℕ) (s : Snapshot) → record_length ≤ length d → count ≤ limit_of (length d) → Served d count s
push_served d count s some held = go (ltb count (limit_of (length d))) refl
  where
    go : (t : Bool) → ltb count (limit_of (length d)) ≡ t → Served d count s
    go true e =
        let h : count < limit_of (length d) = ltb-true count (limit_of (length d)) e in
        record {
          base = d;
          place = count;
          gone = 0;
          store_is = store_below d count s h;
          count_is = count-below (length d) count h;
          count_was = omega arith;
          gone_is = omega arith;
          length_is = refl;
          room = h;
          stay = λ j k. ap (record_at d) (sym (add-zero j));
        }
    go false e =
        let h : limit_of (length d) ≤ count = ltb-false count (limit_of (length d)) e in
        let k : count - 1 < limit_of (length d) = omega arith in
        record {
          base = moved_down d (count - 1);
          place = count - 1;
          gone = 1;
          store_is = store-full d count s (omega arith) (omega arith);
          count_is = count_else (length d) count h ∙ omega arith;
          count_was = omega arith;
          gone_is = omega arith;
          length_is = length_moved d (count - 1) k;
          room = k;
          stay = record_moved d (count - 1) k;
        }

module _ (d : List ℕ) (count : ℕ) (s : Snapshot) (f : Fits s) (some : record_length ≤ length d) (held : count ≤ limit_of (length d)) where
  push-room : (push_served d count s some held).place < limit_of (length (push_served d count s some held).base)
  push-room = rw (push_served d count s some held).length_is (push_served d count s some held).room

  pub length_push : length (push_store d count s) ≡ length d
  length_push =
      let p = push_served d count s some held in
      rw p.store_is (length_with p.base p.place s f push-room ∙ p.length_is)

  -- the new record is the pushed one's bytes, and each other is one that was there
  pub push-newest : record_at (push_store d count s) (push_served d count s some held).place ≡ record_bytes s
  push-newest =
      let p = push_served d count s some held in
      rw p.store_is (record_put p.base p.place s f push-room)

  pub push_others : (j : ℕ) → j < (push_served d count s some held).place → record_at (push_store d count s) j ≡ record_at d (j + (push_served d count s some held).gone)
  push_others j h =
      let p = push_served d count s some held in
      rw p.store_is (record_kept p.base p.place s f push-room j h ∙ p.stay j h)

  -- what `undo` takes after a push is what was pushed
  pub newest-pushed : is_good s ≡ true → newest (push_store d count s) (push_count (length d) count) ≡ Some s
  newest-pushed g =
      let p = push_served d count s some held in
      let k : ℕ = p.place in
      let l : length (push_store d count s) ≡ length d = length_push in
      let e : k + 1 - 1 ≡ k = omega arith in
      let r : k < limit_of (length d) = p.room in
      rw p.count_is
      (newest-held (push_store d count s) (k + 1) (omega arith) (omega arith)
      ∙ ap (λ (n : ℕ). record_in (record_at (push_store d count s) n)) e
      ∙ ap record_in (push-newest ∙ sym (append-nil (record_bytes s)))
      ∙ round_trip s f [] g)
