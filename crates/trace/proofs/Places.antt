-- The array of the touched addresses: one address more.
-- Assumes nothing.
use Rattle.std.proofs.Common.{◌≡◌, ℕ, ◌+◌, ◌<◌, Bool, true, false, cond, ltb, List, [], ◌∷◌, ◌++◌, take, set, refl, add-one, arith, length-set, length-take-le, get_or, get_or-take, take-suc-set, lt-ltb, Option, Some, None}
use Rattle.isa.specs.Sizes.{memory_words}
use Rattle.encoding.specs.Bytes.{member}
use Rattle.control.specs.declared.control.BusTransfer.{BusTransfer}
use Rattle.control.specs.declared.control.BusTransfer.TheVariants.{Read, Write}
use Rattle.trace.specs.Touched.{noted, touched_by, Addressed, TouchFit}
use Rattle.trace.specs.Forms.{Places, places_of, note_in, touch_in}
use Rattle.trace.proofs.Lists.{below_of, full, distinct_snoc, below_set}

-- every place has an address of memory, those past the live ones too
pub all-below : {n : ℕ} {t : List ℕ} → TouchFit n t → (i : ℕ) → get_or t i 0 < memory_words
all-below f = f.below

module _ (items : List ℕ) (n a : ℕ) (f : TouchFit n items) (of_memory : a < memory_words) where
  -- an address that is not there has room
  room : member a (take n items) ≡ false → n < memory_words
  room m =
      let e = length-take-le n items (omega (arith, f.count, f.long)) in
      let b = below_of memory_words (take n items) (λ i h. rw (get_or-take n items i 0 (omega arith)) (f.below i)) in
      omega (arith, full memory_words a (take n items) f.differ b of_memory m)

  added : n < memory_words → take (n + 1) (set items n a) ≡ take n items ++ (a ∷ [])
  added h = rw (add-one, take-suc-set items n a (omega (arith, f.long)))

  fits : n < memory_words → member a (take n items) ≡ false → TouchFit (n + 1) (set items n a)
  fits h m = record {
    count = omega arith;
    long = simp length-set f.long;
    below = below_set memory_words items n a f.below of_memory;
    differ = rw (added h) (distinct_snoc a (take n items) f.differ m);
  }

  abbrev Shows : List ℕ → Places → Type 0
  Shows l q = (take q.count q.items ≡ l) × TouchFit q.count q.items

  notes : Shows (noted a (take n items)) (note_in a (places_of n items))
  unfolding noted note_in
  notes = go (member a (take n items)) refl
    where
      same : (t : Bool) → Shows (take n items) (cond t (places_of n items) (places_of n items))
      same true = (refl, f)
      same false = (refl, f)

      go : (m : Bool) → member a (take n items) ≡ m → Shows (noted a (take n items)) (note_in a (places_of n items))
      go true m = rw m (same (ltb n memory_words))
      go false m = let h = room m in rw (lt-ltb n memory_words h, m) (added h, fits h m)

-- an address written into the next place is noted in the live ones
pub touched-live : (b : Option BusTransfer) (q : Places) {q' : Places} → q' ≡ touch_in b q → Addressed b → TouchFit q.count q.items
    → (take q'.count q'.items ≡ touched_by b (take q.count q.items)) × TouchFit q'.count q'.items
unfolding touch_in
touched-live None q e h f = rw e (refl, f)
touched-live (Some (Read a v)) q e h f = rw e (refl, f)
touched-live (Some (Write a v)) q e h f = rw e (notes q.items q.count a f h)

-- and where all places have addresses of memory, those past the count too, all have them after it
pub touched-below : (b : Option BusTransfer) (q : Places) {q' : Places} → q' ≡ touch_in b q → Addressed b → ((i : ℕ) → get_or q.items i 0 < memory_words)
    → (i : ℕ) → get_or q'.items i 0 < memory_words
unfolding touch_in note_in
touched-below None q e h f = rw e f
touched-below (Some (Read a v)) q e h f = rw e f
touched-below (Some (Write a v)) q e h f = rw e (go (ltb q.count memory_words) (member a (take q.count q.items)))
  where
    go : (s t : Bool) (i : ℕ) → get_or (cond s (cond t q (places_of (q.count + 1) (set q.items q.count a))) q).items i 0 < memory_words
    go true true = f
    go true false = below_set memory_words q.items q.count a f h
    go false t = f
