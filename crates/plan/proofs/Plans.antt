-- The laws of the texts of ticks: by the tick's number, and the number of ticks.
-- Assumes nothing.
use Rattle.std.specs.Prelude.{None, Option, Some}
use Rattle.isa.specs.declared.opcode.Opcode.{Opcode}
use Prim.Native.Nat.{ℕ, zero, suc, ◌+◌, ◌-◌, ◌≤◌, ◌<◌}
use native.Mathlib.Omega.{arith}
use mathlib.Core.Bool.{Bool, true}
use mathlib.Core.List.{List, [], ◌∷◌, map}
use lib.ListN.{set, replicate}
use mathlib.Core.Path.{◌≡◌, refl}
use lib.Dec.{lit≤}
use Rattle.isa.specs.declared.opcode.Opcode.TheVariants.{LoadImmediate, LoadRegister, LoadMemory, StoreMemory, Add, Negate, ShiftRight, ShiftLeft, And, Or, Xor, Jump, Halt}
use Rattle.isa.specs.Text.{Text, text, ascii}
use Rattle.isa.specs.Word.{decode_word}
use Rattle.isa.specs.Format.{hex4, fill, fill_byte}
use Rattle.plan.specs.Plan.{execute_ticks_of, fetch_text, execute_text, tick_template, tick_text, plan_text}

-- what holds at 2 and every number above it, and at 3
pub from_two : {A : Type 0} (f : ℕ → A) → ((n : ℕ) → f 2 ≡ f (suc (suc n))) → (n : ℕ) → 2 ≤ n → f 2 ≡ f n
from_two f h zero a = absurd (omega arith)
from_two f h (suc zero) a = absurd (omega arith)
from_two f h (suc (suc n)) a = h n

pub from_three : {A : Type 0} (f : ℕ → A) → ((n : ℕ) → f 3 ≡ f (suc (suc (suc n)))) → (n : ℕ) → 3 ≤ n → f 3 ≡ f n
from_three f h zero a = absurd (omega arith)
from_three f h (suc zero) a = absurd (omega arith)
from_three f h (suc (suc zero)) a = absurd (omega arith)
from_three f h (suc (suc (suc n))) a = h n

-- no instruction has more than seven ticks
pub ticks-few : (d : Option Opcode) → execute_ticks_of d ≤ 3
ticks-few (Some LoadImmediate) = lit≤ tt
ticks-few (Some LoadRegister) = lit≤ tt
ticks-few (Some LoadMemory) = lit≤ tt
ticks-few (Some StoreMemory) = lit≤ tt
ticks-few (Some Add) = lit≤ tt
ticks-few (Some Negate) = lit≤ tt
ticks-few (Some ShiftRight) = lit≤ tt
ticks-few (Some ShiftLeft) = lit≤ tt
ticks-few (Some And) = lit≤ tt
ticks-few (Some Or) = lit≤ tt
ticks-few (Some Xor) = lit≤ tt
ticks-few (Some Jump) = lit≤ tt
ticks-few (Some Halt) = lit≤ tt
ticks-few None = lit≤ tt

-- the text of a fetch tick, which has no digit in it
pub fetched_text : (t : ℕ) (taken : Bool) (w : ℕ) → t < 4 → ascii (fetch_text t) ≡ tick_text t taken w
unfolding tick_text tick_template fetch_text fill
fetched_text zero taken w h = refl
fetched_text (suc zero) taken w h = refl
fetched_text (suc (suc zero)) taken w h = refl
fetched_text (suc (suc (suc zero))) taken w h = refl
fetched_text (suc (suc (suc (suc t)))) taken w h = absurd (omega arith)

-- and of an execute tick
pub executed-text : (t : ℕ) (taken : Bool) (w : ℕ) {digits : List ℕ} {d : Option Opcode} → 4 ≤ t → digits ≡ hex4 w → decode_word w ≡ d
    → map (fill_byte digits) (ascii (execute_text d (t - 4) taken)) ≡ tick_text t taken w
unfolding tick_text tick_template fill
executed-text zero taken w h e f = absurd (omega arith)
executed-text (suc zero) taken w h e f = absurd (omega arith)
executed-text (suc (suc zero)) taken w h e f = absurd (omega arith)
executed-text (suc (suc (suc zero))) taken w h e f = absurd (omega arith)
executed-text (suc (suc (suc (suc t)))) taken w h e f =
    let n : suc (suc (suc (suc t))) - 4 ≡ t = omega arith in
    rw (e, ← f, n)

-- ---- a loop that puts a plan's texts in their places

-- the first n are there
abbrev pub planned : ℕ → ℕ → List Text
planned n w = map (λ (t : ℕ). text (plan_text t n w)) (0 ∷ 1 ∷ 2 ∷ 3 ∷ 4 ∷ 5 ∷ 6 ∷ [])

pub planned_none : (w : ℕ) {t : Text} → t ≡ text [] → replicate 7 t ≡ planned 0 w
unfolding plan_text
planned_none w e = rw e

pub planned_next : (i w : ℕ) {t : Text} {now : List Text} → i < 7 → t ≡ text (tick_text i true w) → now ≡ planned i w → set now i t ≡ planned (i + 1) w
unfolding plan_text
planned_next zero w h e n = rw (n, e)
planned_next (suc zero) w h e n = rw (n, e)
planned_next (suc (suc zero)) w h e n = rw (n, e)
planned_next (suc (suc (suc zero))) w h e n = rw (n, e)
planned_next (suc (suc (suc (suc zero)))) w h e n = rw (n, e)
planned_next (suc (suc (suc (suc (suc zero))))) w h e n = rw (n, e)
planned_next (suc (suc (suc (suc (suc (suc zero)))))) w h e n = rw (n, e)
planned_next (suc (suc (suc (suc (suc (suc (suc i))))))) w h e n = absurd (omega arith)
