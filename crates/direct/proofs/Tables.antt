-- A table with 1 for each byte of a list, and an address noted by it.
-- Assumes nothing.
use Rattle.std.proofs.Common.{◌≡◌, ℕ, suc, ◌+◌, ◌<◌, ◌≤◌, Bool, true, false, cond, eqb, List, [], ◌∷◌, ◌++◌, length, get_or, take, drop, set, replicate, sym, refl, ap, ◌∙◌, append_assoc, add-one, arith, length-set, length-take-le, drop-cons, get_or-take, lt-ltb, eq-eqb, ne_eqb, eqb-true, Option, Some, None}
use borrow.Author.Tests.{eqb-false}
use Rattle.isa.specs.Sizes.{memory_words}
use Rattle.encoding.specs.Bytes.{member}
use Rattle.control.specs.declared.control.BusTransfer.{BusTransfer}
use Rattle.control.specs.declared.control.BusTransfer.TheVariants.{Read, Write}
use Rattle.guard.specs.Stops.{reached}
use Rattle.trace.specs.Touched.{noted, touched_by, Addressed, TouchFit}
use Rattle.trace.specs.Forms.{places_of, note_in, touch_in}
use Rattle.trace.proofs.Lists.{below_of, full}
use Rattle.trace.proofs.Places.{touched-live}
use Rattle.trace.proofs.Checks.{seen_next, is_seen, not_seen, empty_table, none_there}
use Rattle.direct.specs.Table.{Table, table_from, table_of, Noted, noted_of, note_seen, touch_seen}

-- ---- the loop that fills it

pub table_turn : (t items : List ℕ) (i : ℕ) → i < length items → table_from t (drop i items) ≡ table_from (set t (get_or items i 0) 1) (drop (i + 1) items)
unfolding table_from
table_turn t items i h = rw (add-one, drop-cons items i 0 h)

pub table_end : (t items : List ℕ) (i : ℕ) → length items ≤ i → table_from t (drop i items) ≡ t
unfolding table_from
table_end t items i h = ap (table_from t) (past items i h)
  where
    past : (l : List ℕ) (n : ℕ) → length l ≤ n → drop n l ≡ []
    past [] Prim.Native.Nat.zero h = refl
    past [] (suc n) h = refl
    past (x ∷ l) Prim.Native.Nat.zero h = absurd (omega arith)
    past (x ∷ l) (suc n) h = past l n (omega arith)

-- ---- what it says

table_next : (p t : List ℕ) (x : ℕ) → Table p t → Table (p ++ (x ∷ [])) (set t x 1)
table_next p t x f = record { long = simp length-set f.long; says = seen_next t p x f.long f.says }

table_more : (p s t : List ℕ) → Table p t → Table (p ++ s) (table_from t s)
unfolding table_from
table_more p [] t f = rw (append-nil p) f
  where
    append-nil : (l : List ℕ) → l ++ [] ≡ l
    append-nil [] = refl
    append-nil (x ∷ l) = ap (λ (k : List ℕ). x ∷ k) (append-nil l)
table_more p (x ∷ s) t f = rw (append_assoc p (x ∷ []) s) at (table_more (p ++ (x ∷ [])) s (set t x 1) (table_next p t x f))

pub table_is : (p : List ℕ) → Table p (table_of p)
table_is p = table_more [] p (replicate memory_words 0) (record { long = refl; says = λ a h. rw (none_there a) (empty_table a) })

-- no breakpoint stands where the table has 0
pub unbroken : (b t : List ℕ) (k pc : ℕ) → Table b t → pc < memory_words → get_or t pc 0 ≡ 0 → reached b k pc ≡ false
unbroken b t k pc f h e = go (member pc b) (sym (f.says pc h) ∙ e) (eqb k 0)
  where
    go : (m : Bool) → ◌≡◌ {A = ℕ} (cond m 1 0) 0 → (z : Bool) → cond z false m ≡ false
    go true q z = absurd (omega arith)
    go false q true = refl
    go false q false = refl

-- ---- the touched addresses

-- what is live of them, and that the table is theirs
pub record Live (q : Noted) (p : List ℕ) : Type 0 where
  pub same : take q.places.count q.places.items ≡ p
  pub fit : TouchFit q.places.count q.places.items
  pub table : Table p q.seen

module _ (items t : List ℕ) (n a : ℕ) (f : TouchFit n items) (g : Table (take n items) t) (of_memory : a < memory_words) where
  -- an address that the table has is noted already
  there : get_or t a 0 ≡ 1 → Live (note_seen a (noted_of n items t)) (noted a (take n items))
  unfolding note_seen noted
  there e = rw (eq-eqb _ 1 e, is_seen t (take n items) a g.long of_memory g.says e) (record { same = refl; fit = f; table = g })

  module _ (e : get_or t a 0 ≡ 1 → ⊥) where
    absent : member a (take n items) ≡ false
    absent = not_seen t (take n items) a g.long of_memory g.says e

    -- one that it does not have has room
    room : n < memory_words
    room =
        let l = length-take-le n items (omega (arith, f.count, f.long)) in
        let b = below_of memory_words (take n items) (λ i h. rw (get_or-take n items i 0 (omega arith)) (f.below i)) in
        omega (arith, full memory_words a (take n items) f.differ b of_memory absent)

    written : places_of (n + 1) (set items n a) ≡ touch_in (Some (Write a 0)) (places_of n items)
    unfolding touch_in note_in
    written = rw (lt-ltb n memory_words room, absent)

    added : noted a (take n items) ≡ take n items ++ (a ∷ [])
    unfolding noted
    added = rw absent

    new : Live (note_seen a (noted_of n items t)) (noted a (take n items))
    unfolding note_seen
    new =
        let y = touched-live (Some (Write a 0)) (places_of n items) written of_memory f in
        rw (ne_eqb _ 1 e, lt-ltb n memory_words room) (record { same = y.0; fit = y.1; table = rw added (table_next (take n items) t a g) })

  noted-live : Live (note_seen a (noted_of n items t)) (noted a (take n items))
  noted-live = go (eqb (get_or t a 0) 1) refl
    where
      go : (b : Bool) → eqb (get_or t a 0) 1 ≡ b → Live (note_seen a (noted_of n items t)) (noted a (take n items))
      go true e = there (eqb-true _ 1 e)
      go false e = new (eqb-false _ 1 e)

pub touch_live : (b : Option BusTransfer) (n : ℕ) (items t : List ℕ) → Addressed b → TouchFit n items → Table (take n items) t → Live (touch_seen b (noted_of n items t)) (touched_by b (take n items))
touch_live None n items t h f g = record { same = refl; fit = f; table = g }
touch_live (Some (Read a v)) n items t h f g = record { same = refl; fit = f; table = g }
touch_live (Some (Write a v)) n items t h f g = noted-live items t n a f g h
