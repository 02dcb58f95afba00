-- Example 11* of document 01 (section 9) as two pasts (02, Change 5): by one run; and by ticks, with a push before them and an undo behind them, and then by a
-- run. One theorem says that the definitions give each row: the bus counters, and the ticks of each kind.
-- Assumes nothing.
use Rattle.std.specs.Prelude.{ℕ, List, [], ◌∷◌, ◌++◌, length, replicate}
use Rattle.history.specs.Record.{record_length}
use Rattle.vm.specs.declared.machine.Machine.{Machine as Code}
use Rattle.vm.specs.Calls.{restarted, image_words}
use Rattle.vm.specs.History.{saved_store}
use Rattle.past.specs.Past.{second_fetch, second_load, third_store, count, Call, tick, run, push, undo}
use Rattle.past.specs.Played.{played, ticks_of}

-- 11*, with an invented value in word 10, on a machine just switched on
abbrev pub program : List ℕ
program = 0x3110 ∷ 0x4111 ∷ 0x1105 ∷ 0x4112 ∷ 0xE000 ∷ replicate 11 0 ++ (0x1234 ∷ [])

unfoldable pub start : Code
start = restarted (image_words program) (length program) 0

-- a store for one record, and the same with what the push keeps
abbrev pub store : List ℕ
store = replicate record_length 0

abbrev pub kept : List ℕ
kept = saved_store store start

-- the bus counters; of the ticks made, those of the three kinds
pub record Seen : Type 0 where
  pub reads : ℕ
  pub writes : ℕ
  pub fetches : ℕ
  pub loads : ℕ
  pub stores : ℕ

unfoldable pub seen : List Call → Seen
seen l =
    let k = (played l start).counters in
    let t = ticks_of l start in
    record { reads = k.bus_reads; writes = k.bus_writes; fetches = count second_fetch t; loads = count second_load t; stores = count third_store t }

pub record Row : Type 0 where
  pub calls : List Call
  pub answer : Seen

-- calls; reads, writes; second fetch ticks, second LOAD [yz] ticks, third STORE ticks
abbrev pub row : List Call → ℕ → ℕ → ℕ → ℕ → ℕ → Row
row l a b f g h = record { calls = l; answer = record { reads = a; writes = b; fetches = f; loads = g; stores = h } }

-- LOAD and STORE have seven ticks each: fourteen ticks make both, and are undone
unfoldable pub rows : List Row
rows =
    row (run [] 9 ∷ []) 6 2 5 1 2
    ∷ row (push store ∷ replicate 14 tick ++ (undo kept ∷ run [] 9 ∷ [])) 9 3 7 2 3
    ∷ []
