-- The records in the store are the Rust's list of snapshots: `history_is_rust`, from an empty history after any list of calls; and each
-- undo takes what the Rust's `pop` gives. Assumes nothing.
use mathlib.Core.Path.{◌≡◌, refl, sym, ap, ◌∙◌}
use mathlib.Core.Bool.{Bool, true, false, cond}
use mathlib.Core.List.{List, [], ◌∷◌, ◌++◌, append-nil}
use Prim.Native.Nat.{ℕ, zero, suc, ◌+◌, ◌-◌, ◌≤◌, ◌<◌}
use native.Mathlib.Nat.{add-zero, zero-add, not-suc-le-zero}
use native.Mathlib.Numerals.{add-one}
use native.Mathlib.Omega.{arith}
use borrow.Author.Tests.{leb-true, leb-false, ltb-true, ltb-false}
use Rattle.std.proofs.Common.{Some, is_some}
use lib.Dec.{leb, ltb}
use lib.ListN.{length, drop}
use Rattle.history.specs.Record.{record_length, record_bytes, snapshot_in, is_record, record_in, Fits, is_good}
use Rattle.history.specs.Store.{limit_of, record_at, push_count, push_store, newest, records_from, records_of, AllGood}
use Rattle.history.specs.Rust.{rust_push, rust_pop, rust_last, Call, play_rust, undone_rust, History, empty, pushed, undone, play, undone_store, Pushable, Same}
use Rattle.history.specs.declared.snapshot.Snapshot.{Snapshot}
use Rattle.history.proofs.Records.{snapshot_back, good_back}
use Rattle.history.proofs.Stores.{push_served, length_push, push-newest, push_others, newest-held, newest-none}

-- ---- the records as a list

length_records : (d : List ℕ) (i k : ℕ) → length (records_from d i k) ≡ k
unfolding records_from
length_records d i zero = refl
length_records d i (suc k) = ap suc (length_records d (suc i) k)

-- the last of them
records_last : (d : List ℕ) (i k : ℕ) → records_from d i (suc k) ≡ records_from d i k ++ (snapshot_in (record_at d (i + k)) ∷ [])
unfolding records_from
records_last d i zero = rw add-zero
records_last d i (suc k) =
    let e : suc i + k ≡ i + suc k = omega arith in
    ap (λ (l : List Snapshot). snapshot_in (record_at d i) ∷ l) (records_last d (suc i) k ∙ rw e)

-- without the first g
records_drop : (d : List ℕ) (g i k : ℕ) → drop g (records_from d i (g + k)) ≡ records_from d (i + g) k
unfolding records_from
records_drop d zero i k = rw (zero-add, add-zero)
records_drop d (suc g) i k =
    let e : suc g + k ≡ suc (g + k) = omega arith in
    let f : suc i + g ≡ i + suc g = omega arith in
    rw e (records_drop d g (suc i) k ∙ rw f)

-- they depend on the records' bytes alone
records_same : (x y : List ℕ) (i j k : ℕ) → ((n : ℕ) → n < k → record_at x (i + n) ≡ record_at y (j + n)) → records_from x i k ≡ records_from y j k
unfolding records_from
records_same x y i j zero h = refl
records_same x y i j (suc k) h =
    let first : record_at x i ≡ record_at y j = ap (record_at x) (sym (add-zero i)) ∙ h 0 (omega arith) ∙ ap (record_at y) (add-zero j) in
    rw (first, records_same x y (suc i) (suc j) k rest)
  where
    rest : (n : ℕ) → n < k → record_at x (suc i + n) ≡ record_at y (suc j + n)
    rest n l =
        let a : suc i + n ≡ i + suc n = omega arith in
        let b : suc j + n ≡ j + suc n = omega arith in
        rw (a, b) (h (suc n) (omega arith))

-- ---- push

rust_drops : (limit : ℕ) (s : Snapshot) (l : List Snapshot) (gone : ℕ) → gone ≡ length l + 1 - limit → rust_push limit s l ≡ drop gone l ++ (s ∷ [])
unfolding rust_push
rust_drops limit s l gone e = go (leb limit (length l)) refl
  where
    go : (t : Bool) → leb limit (length l) ≡ t → cond t (drop (length l - limit + 1) l) l ++ (s ∷ []) ≡ drop gone l ++ (s ∷ [])
    go true t =
        let h : limit ≤ length l = leb-true limit (length l) t in
        let g : length l - limit + 1 ≡ gone = omega arith in
        rw g
    go false t =
        let h : length l < limit = leb-false limit (length l) t in
        let g : gone ≡ 0 = omega arith in
        rw g

module _ (d : List ℕ) (count : ℕ) (s : Snapshot) (f : Fits s) (some : record_length ≤ length d) (held : count ≤ limit_of (length d)) where
  -- the records after a push are the Rust's list after its push
  pub records_pushed : records_of (push_store d count s) (push_count (length d) count) ≡ rust_push (limit_of (length d)) s (records_of d count)
  records_pushed =
      let p = push_served d count s some held in
      let k : ℕ = p.place in
      let g : ℕ = p.gone in
      let x : List ℕ = push_store d count s in
      let new : snapshot_in (record_at x (0 + k)) ≡ s =
      rw (zero-add, push-newest d count s f some held, ← append-nil (record_bytes s)) (snapshot_back s f []) in
      let old : records_from x 0 k ≡ records_from d (0 + g) k = records_same x d 0 (0 + g) k others in
      let n : count ≡ g + k = omega arith in
      let rust : rust_push (limit_of (length d)) s (records_of d count) ≡ drop g (records_of d count) ++ (s ∷ []) =
      rust_drops (limit_of (length d)) s (records_of d count) g (rw length_records p.gone_is) in
      rw (p.count_is, add-one, records_last x 0 k, new, old)
      (sym (rust ∙ ap (λ (l : List Snapshot). l ++ (s ∷ [])) (ap (λ (m : ℕ). drop g (records_from d 0 m)) n ∙ records_drop d g 0 k)))
    where
      others : (n : ℕ) → n < (push_served d count s some held).place → record_at (push_store d count s) (0 + n) ≡ record_at d (0 + (push_served d count s some held).gone + n)
      others n h =
          let e : n + (push_served d count s some held).gone ≡ 0 + (push_served d count s some held).gone + n = omega arith in
          rw (zero-add n) (push_others d count s f some held n h ∙ ap (record_at d) e)

-- ---- pop

pop_last : (l : List Snapshot) (s : Snapshot) → rust_pop (l ++ (s ∷ [])) ≡ l
unfolding rust_pop
pop_last [] s = refl
pop_last (x ∷ []) s = refl
pop_last (x ∷ y ∷ l) s = ap (λ (r : List Snapshot). x ∷ r) (pop_last (y ∷ l) s)

last_last : (l : List Snapshot) (s : Snapshot) → rust_last (l ++ (s ∷ [])) ≡ Some s
unfolding rust_last
last_last [] s = refl
last_last (x ∷ []) s = refl
last_last (x ∷ y ∷ l) s = last_last (y ∷ l) s

-- one record less is the list without its last
pub records_popped : (d : List ℕ) (count : ℕ) → records_of d (count - 1) ≡ rust_pop (records_of d count)
unfolding records_from rust_pop
records_popped d zero = refl
records_popped d (suc k) =
    let e : suc k - 1 ≡ k = omega arith in
    ap (records_of d) e ∙ sym (ap rust_pop (records_last d 0 k) ∙ pop_last (records_of d k) (snapshot_in (record_at d (0 + k))))

good-found : (l : List ℕ) → is_record l ≡ true → record_in l ≡ Some (snapshot_in l)
unfolding record_in
good-found l g = rw g

rust_last_lem : (d : List ℕ) (k : ℕ) → rust_last (records_of d (suc k)) ≡ Some (snapshot_in (record_at d (0 + k)))
rust_last_lem d k = ap rust_last (records_last d 0 k) ∙ last_last (records_of d k) (snapshot_in (record_at d (0 + k)))

-- a newest record that is good is the last of the list
newest-found : (d : List ℕ) (k : ℕ) → suc k ≤ limit_of (length d) → is_record (record_at d (0 + k)) ≡ true → newest d (suc k) ≡ rust_last (records_of d (suc k))
newest-found d k held good =
    let e : suc k - 1 ≡ 0 + k = omega arith in
    newest-held d (suc k) (omega arith) held ∙ ap (λ (n : ℕ). record_in (record_at d n)) e ∙ good-found (record_at d (0 + k)) good ∙ sym (rust_last_lem d k)

-- so `undo` takes what `pop` gives
pub newest_last : (d : List ℕ) (count : ℕ) → count ≤ limit_of (length d) → AllGood d count → newest d count ≡ rust_last (records_of d count)
unfolding records_from rust_last
newest_last d zero held good = newest-none d 0 refl
newest_last d (suc k) held good = newest-found d k held (good (0 + k) (omega arith))

-- ---- lists of calls

module _ (d : List ℕ) (count : ℕ) (s : Snapshot) (f : Fits s) (g : is_good s ≡ true) (some : record_length ≤ length d) (held : count ≤ limit_of (length d)) where
  abbrev place : ℕ
  place = (push_served d count s some held).place

  -- a push leaves records that `undo` takes
  good-pushed : AllGood d count → AllGood (push_store d count s) (push_count (length d) count)
  good-pushed good j h = go (ltb j place) refl
    where
      go : (t : Bool) → ltb j place ≡ t → is_record (record_at (push_store d count s) j) ≡ true
      go true t =
          let p = push_served d count s some held in
          let k : j < place = ltb-true j place t in
          let w : count ≡ place + p.gone = p.count_was in
          rw (push_others d count s f some held j k) (good (j + p.gone) (omega arith))
      go false t =
          let k : place ≤ j = ltb-false j place t in
          let c : push_count (length d) count ≡ place + 1 = (push_served d count s some held).count_is in
          let e : j ≡ place = omega arith in
          rw (e, push-newest d count s f some held, ← append-nil (record_bytes s)) (good_back s f [] ∙ g)

same_pushed : {limit : ℕ} {h : History} {l : List Snapshot} (s : Snapshot) → Fits s → is_good s ≡ true → Same limit h l → Same limit (pushed s h) (rust_push limit s l)
same_pushed {limit} {h} {l} s f g m =
    let d : List ℕ = h.store in
    let n : length (push_store d h.count s) ≡ length d = length_push d h.count s f m.some m.held in
    let p = push_served d h.count s m.some m.held in
    let r : p.place < limit_of (length d) = p.room in
    let c : push_count (length d) h.count ≡ p.place + 1 = p.count_is in
    record {
      some = rw n m.some;
      limit_is = rw n m.limit_is;
      held = rw n (rw c (omega arith));
      good = good-pushed d h.count s f g m.some m.held m.good;
      list_is = records_pushed d h.count s f m.some m.held ∙ rw (m.limit_is, m.list_is);
    }

-- an undo takes a record away, if there is one
undone-count : (d : List ℕ) (count : ℕ) → count ≤ limit_of (length d) → AllGood d count → cond (is_some (newest d count)) (count - 1) count ≡ count - 1
undone-count d zero held good = rw (newest-none d 0 refl)
undone-count d (suc k) held good = rw (newest_last d (suc k) held good ∙ rust_last_lem d k)

same_undone : {limit : ℕ} {h : History} {l : List Snapshot} → Same limit h l → Same limit (undone h) (rust_pop l)
same_undone {limit} {h} {l} m =
    let u : (undone h).count ≡ h.count - 1 = undone-count h.store h.count m.held m.good in
    record {
      some = m.some;
      limit_is = m.limit_is;
      held = rw u (omega (arith, m.held));
      good = rw u (λ j k. m.good j (omega arith));
      list_is = rw u (records_popped h.store h.count ∙ ap rust_pop m.list_is);
    }

-- the calls on the store and on the Rust's list, side by side
pub same_played : {limit : ℕ} {h : History} {l : List Snapshot} (calls : List Call) → Pushable calls → Same limit h l
    → Same limit (play calls h) (play_rust limit calls l) × (undone_store calls h ≡ undone_rust limit calls l)
unfolding play play_rust undone_store undone_rust
same_played [] p m = (m, refl)
same_played {limit} {h} {l} (Call.push s ∷ calls) p m = same_played {h = pushed s h} calls p.1.1 (same_pushed s p.0 p.1.0 m)
same_played {limit} {h} {l} (Call.undo ∷ calls) p m =
    let r = same_played calls p (same_undone m) in
    let taken : newest h.store h.count ≡ rust_last l = newest_last h.store h.count m.held m.good ∙ ap rust_last m.list_is in
    (r.0, λ i. taken i ∷ r.1 i)

-- whatever was in the store, after any list of calls from an empty history the records are the Rust's list, and each undo took what the
-- Rust's `pop` gave
pub history_is_rust : (d : List ℕ) (calls : List Call) → record_length ≤ length d → Pushable calls
    → (records_of (play calls (empty d)).store (play calls (empty d)).count ≡ play_rust (limit_of (length d)) calls [])
    × (undone_store calls (empty d) ≡ undone_rust (limit_of (length d)) calls [])
unfolding records_from
history_is_rust d calls some p =
    let start : Same (limit_of (length d)) (empty d) [] = record { some = some; limit_is = refl; held = omega arith; good = λ j k. absurd (not-suc-le-zero k); list_is = refl } in
    let r = same_played calls p start in
    (r.0.list_is, r.1)
