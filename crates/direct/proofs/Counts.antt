-- The counters after a whole instruction: so many more at once, and one by one; and room for a stretch of instructions.
-- Assumes nothing.
use Rattle.std.proofs.Common.{◌≡◌, ℕ, zero, suc, ◌+◌, ◌-◌, ◌*◌, ◌%◌, ◌^◌, ◌≤◌, Bool, true, false, cond, ◌&&◌, refl, ap, ◌∙◌, arith, le-ltb, leb-true, Option, Some, None}
use Rattle.isa.specs.declared.opcode.Opcode.{Opcode}
use Rattle.plan.specs.Plan.{execute_ticks_of}
use Rattle.control.specs.declared.control.BusTransfer.{BusTransfer}
use Rattle.control.specs.declared.control.BusTransfer.TheVariants.{Read, Write}
use Rattle.control.specs.declared.counters.Counters.{Counters}
use Rattle.control.specs.Count.{counter_limit, over_counted, one_more, more}
use Rattle.direct.specs.Work.{counts, reads_by, writes_by, count_whole}
use Rattle.direct.specs.Lane.{stretch_length, roomy, length_for}
use Rattle.plan.proofs.Plans.{ticks-few}

one_on : (a : ℕ) → (a % 2 ^ 64 + 1) % 2 ^ 64 ≡ (a + 1) % 2 ^ 64
one_on a = omega arith

-- one or more at once
more-some : (n k : ℕ) → more (suc n) k ≡ (k + suc n) % 2 ^ 64
more-some zero k = refl
more-some (suc n) k = let z : k + suc n + 1 ≡ k + suc (suc n) = omega arith in ap (λ (x : ℕ). (x + 1) % 2 ^ 64) (more-some n k) ∙ one_on (k + suc n) ∙ ap (λ (x : ℕ). x % 2 ^ 64) z

pub more_four : (n k : ℕ) → more (4 + n) k ≡ (k + (4 + n)) % 2 ^ 64
more_four n k = let z : 4 + n ≡ suc (3 + n) = omega arith in ap (λ (x : ℕ). more x k) z ∙ more-some (3 + n) k ∙ ap (λ (x : ℕ). (k + x) % 2 ^ 64) (let y : suc (3 + n) ≡ 4 + n = omega arith in y)

-- ---- room for n instructions, none of which counts more than 7

pub record Room (n : ℕ) (k : Counters) : Type 0 where
  pub instructions : k.instructions + 7 * n ≤ counter_limit
  pub ticks : k.micro_operations + 7 * n ≤ counter_limit
  pub reads : k.bus_reads + 7 * n ≤ counter_limit
  pub writes : k.bus_writes + 7 * n ≤ counter_limit

pub room_now : (n : ℕ) (k : Counters) → Room n k → over_counted k ≡ false
unfolding over_counted
room_now n k r = rw (le-ltb _ _ (few r.instructions), le-ltb _ _ (few r.ticks), le-ltb _ _ (few r.reads), le-ltb _ _ (few r.writes))
  where
    few : {x : ℕ} → x + 7 * n ≤ counter_limit → x ≤ counter_limit
    few h = omega arith

one_counts : (c : Bool) (n x : ℕ) → x + 7 * suc n ≤ counter_limit → cond c (one_more x) x + 7 * n ≤ counter_limit
one_counts true n x h = omega arith
one_counts false n x h = omega arith

reads-count : (b : Option BusTransfer) (n x : ℕ) → x + 7 * suc n ≤ counter_limit → more (reads_by b) x + 7 * n ≤ counter_limit
reads-count None n x h = omega arith
reads-count (Some (Read a v)) n x h = omega arith
reads-count (Some (Write a v)) n x h = omega arith

writes-count : (b : Option BusTransfer) (n x : ℕ) → x + 7 * suc n ≤ counter_limit → more (writes_by b) x + 7 * n ≤ counter_limit
writes-count None n x h = omega arith
writes-count (Some (Read a v)) n x h = omega arith
writes-count (Some (Write a v)) n x h = omega arith

pub room_next : (n : ℕ) (d : Option Opcode) (b : Option BusTransfer) (k : Counters) → Room (suc n) k → Room n (count_whole d b k)
room_next n d b k r =
    let e = more_four (execute_ticks_of d) k.micro_operations in
    record {
      instructions = one_counts (counts d) n k.instructions r.instructions;
      ticks = omega (arith, e, ticks-few d, r.ticks);
      reads = reads-count b n k.bus_reads r.reads;
      writes = writes-count b n k.bus_writes r.writes;
    }

-- a stretch that may be made whole
pub room_whole : (k : Counters) → (length_for k ≡ 0 → ⊥) → (length_for k ≡ stretch_length) × Room stretch_length k
room_whole k h = go (roomy k.instructions) (roomy k.micro_operations) (roomy k.bus_reads) (roomy k.bus_writes) refl refl refl refl h
  where
    go : (a b c d : Bool) → roomy k.instructions ≡ a → roomy k.micro_operations ≡ b → roomy k.bus_reads ≡ c → roomy k.bus_writes ≡ d
        → (cond (a && (b && (c && d))) stretch_length 0 ≡ 0 → ⊥)
        → (cond (a && (b && (c && d))) stretch_length 0 ≡ stretch_length) × Room stretch_length k
    go true true true true x y z w g = (refl, record { instructions = omega (arith, leb-true k.instructions (counter_limit - 7 * stretch_length) x); ticks = omega (arith, leb-true k.micro_operations (counter_limit - 7 * stretch_length) y); reads = omega (arith, leb-true k.bus_reads (counter_limit - 7 * stretch_length) z); writes = omega (arith, leb-true k.bus_writes (counter_limit - 7 * stretch_length) w) })
    go true true true false x y z w g = absurd (g refl)
    go true true false d x y z w g = absurd (g refl)
    go true false c d x y z w g = absurd (g refl)
    go false b c d x y z w g = absurd (g refl)
