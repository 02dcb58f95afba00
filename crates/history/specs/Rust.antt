-- The Rust's history (vm.rs, `push_history` and `undo`): a list of snapshots, oldest first; and lists of calls on it and on the store.
-- Assumes nothing.
use Rattle.std.specs.Prelude.{ℕ, ◌+◌, ◌-◌, ◌≤◌, ◌≡◌, true, cond, List, [], ◌∷◌, ◌++◌, leb, length, drop, Option, Some, None, is_some}
use Rattle.history.specs.Record.{record_length, Fits, is_good}
use Rattle.history.specs.Store.{limit_of, push_count, push_store, newest, records_of, AllGood}
use Rattle.history.specs.declared.snapshot.Snapshot.{Snapshot}

-- ---- the Rust

-- `drain` of the excess at the limit, then `push`
unfoldable pub rust_push : ℕ → Snapshot → List Snapshot → List Snapshot
rust_push limit s l = cond (leb limit (length l)) (drop (length l - limit + 1) l) l ++ (s ∷ [])

-- what `pop` leaves
unfoldable pub rust_pop : List Snapshot → List Snapshot
rust_pop [] = []
rust_pop (s ∷ []) = []
rust_pop (s ∷ t ∷ l) = s ∷ rust_pop (t ∷ l)

-- what `pop` gives
unfoldable pub rust_last : List Snapshot → Option Snapshot
rust_last [] = None
rust_last (s ∷ []) = Some s
rust_last (s ∷ t ∷ l) = rust_last (t ∷ l)

-- ---- lists of calls

pub data Call : Type 0 where
  push : Snapshot → Call
  undo : Call

-- the history after the calls
unfoldable pub play_rust : ℕ → List Call → List Snapshot → List Snapshot
play_rust limit [] l = l
play_rust limit (push s ∷ calls) l = play_rust limit calls (rust_push limit s l)
play_rust limit (undo ∷ calls) l = play_rust limit calls (rust_pop l)

-- what each undo among them takes
unfoldable pub undone_rust : ℕ → List Call → List Snapshot → List (Option Snapshot)
undone_rust limit [] l = []
undone_rust limit (push s ∷ calls) l = undone_rust limit calls (rust_push limit s l)
undone_rust limit (undo ∷ calls) l = rust_last l ∷ undone_rust limit calls (rust_pop l)

-- ---- the same on a store

pub record History : Type 0 where
  pub store : List ℕ
  pub count : ℕ

-- nothing kept yet, whatever the store holds
abbrev pub empty : List ℕ → History
empty d = record { store = d; count = 0 }

abbrev pub pushed : Snapshot → History → History
pushed s h = record { store = push_store h.store h.count s; count = push_count (length h.store) h.count }

-- an undo that finds no record changes nothing
abbrev pub undone : History → History
undone h = record { store = h.store; count = cond (is_some (newest h.store h.count)) (h.count - 1) h.count }

unfoldable pub play : List Call → History → History
play [] h = h
play (push s ∷ calls) h = play calls (pushed s h)
play (undo ∷ calls) h = play calls (undone h)

unfoldable pub undone_store : List Call → History → List (Option Snapshot)
undone_store [] h = []
undone_store (push s ∷ calls) h = undone_store calls (pushed s h)
undone_store (undo ∷ calls) h = newest h.store h.count ∷ undone_store calls (undone h)

-- the snapshots that are pushed fit their types, and `undo` takes them
abbrev pub Pushable : List Call → Type 0
Pushable [] = Unit {0}
Pushable (push s ∷ calls) = Fits s × ((is_good s ≡ true) × Pushable calls)
Pushable (undo ∷ calls) = Pushable calls

-- the store holds the list, under the limit of its length, and `undo` takes each of its records
pub record Same (limit : ℕ) (h : History) (l : List Snapshot) : Type 0 where
  pub some : record_length ≤ length h.store
  pub limit_is : limit_of (length h.store) ≡ limit
  pub held : h.count ≤ limit_of (length h.store)
  pub good : AllGood h.store h.count
  pub list_is : records_of h.store h.count ≡ l
