-- The history in a lent store (01, section 7): records one behind the other, the oldest at byte 0.
-- Assumes nothing.
use Rattle.std.specs.Prelude.{ℕ, zero, suc, ◌+◌, ◌-◌, ◌*◌, ◌/◌, ◌<◌, min, ◌≡◌, Bool, true, cond, ◌&&◌, List, [], ◌∷◌, ◌++◌, eqb, leb, ltb, length, take, drop, Option, None}
use Rattle.encoding.specs.Bytes.{over}
use Rattle.history.specs.Record.{record_length, record_bytes, snapshot_in, is_record, record_in}
use Rattle.history.specs.declared.snapshot.Snapshot.{Snapshot}

abbrev pub history_limit : ℕ
history_limit = 20000

-- how many records a store of n bytes holds
abbrev pub limit_of : ℕ → ℕ
limit_of n = min history_limit (n / record_length)

-- the bytes of record k
unfoldable pub record_at : List ℕ → ℕ → List ℕ
record_at d k = take record_length (drop (k * record_length) d)

-- ---- push

-- `s` at the place of record k
unfoldable pub with_record : List ℕ → ℕ → Snapshot → List ℕ
with_record d k s = over d (k * record_length) (record_bytes s)

-- the oldest record goes, and the k behind it move down
unfoldable pub moved_down : List ℕ → ℕ → List ℕ
moved_down d k = take (k * record_length) (drop record_length d) ++ drop (k * record_length) d

-- one record more below the limit, at it as many as there were
abbrev pub push_count : ℕ → ℕ → ℕ
push_count n count = cond (ltb count (limit_of n)) (count + 1) count

-- whether a store of n bytes is full: it holds records, and `count` is as many
abbrev pub is_full : ℕ → ℕ → Bool
is_full n count = eqb count (limit_of n) && ltb 0 count

-- `s` behind the newest record; a full store makes room, and one that holds fewer than `count` is kept
unfoldable pub push_store : List ℕ → ℕ → Snapshot → List ℕ
push_store d count s =
    cond (ltb count (limit_of (length d))) (with_record d count s)
    (cond (is_full (length d) count) (with_record (moved_down d (count - 1)) (count - 1) s) d)

-- ---- undo

-- whether there is a newest record: there is one, and the store holds them all
abbrev pub is_held : ℕ → ℕ → Bool
is_held n count = leb count (limit_of n) && ltb 0 count

unfoldable pub newest : List ℕ → ℕ → Option Snapshot
newest d count = cond (is_held (length d) count) (record_in (record_at d (count - 1))) None

-- ---- the whole history

-- the snapshots of k records, from record i on
unfoldable pub records_from : List ℕ → ℕ → ℕ → List Snapshot
records_from d i zero = []
records_from d i (suc k) = snapshot_in (record_at d i) ∷ records_from d (suc i) k

abbrev pub records_of : List ℕ → ℕ → List Snapshot
records_of d count = records_from d 0 count

-- each of the records is one that `undo` takes
abbrev pub AllGood : List ℕ → ℕ → Type 0
AllGood d count = (j : ℕ) → j < count → is_record (record_at d j) ≡ true
