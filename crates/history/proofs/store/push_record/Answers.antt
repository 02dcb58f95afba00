-- `push_record` meets its contract: where the store has room, and where it is full. Assumes nothing.
use mathlib.Core.Path.{◌≡◌, sym, ap, ◌∙◌}
use mathlib.Core.List.{List, ◌++◌}
use Prim.Native.Nat.{ℕ, ◌-◌, ◌*◌, ◌<◌}
use native.Mathlib.Omega.{arith}
use lib.ListN.{length, take, drop}
use native.Mathlib.Nat.{zero-add}
use lib.Seq.{paste}
use Rattle.encoding.specs.Bytes.{over}
use Rattle.history.specs.Record.{record_length, record_bytes}
use Rattle.history.specs.Store.{limit_of, with_record, moved_down}
use Rattle.history.proofs.Stores.{store_below, store-full}
use Rattle.history.proofs.store.push_record.Goals as goal

pub returns-then-count-limit-clause-left : goal.returns-then-count-limit-clause-left
unfolding with_record
returns-then-count-limit-clause-left c =
    let a = c.args in
    let d = a.store.now in
    let h : a.count < limit_of (length d) = omega (arith, c.if-count-limit.true, c.history_limit-limit.ensures) in
    c.put_record.ensures ∙ sym (store_below d a.count a.snapshot h)

pub returns-then-count-gt0-clause-left : goal.returns-then-count-gt0-clause-left
unfolding with_record moved_down
returns-then-count-gt0-clause-left c =
    let a = c.args in
    let d = a.store.now in
    let k : ℕ = a.count - 1 in
    let l : a.count * record_length - record_length ≡ k * record_length = omega (arith, c.if-count-gt0.true) in
    let e : a.count ≡ limit_of (length d) = omega (arith, c.if-count-limit-2.true, c.history_limit-limit.ensures) in
    c.put_record-then-count-gt0.ensures ∙ ap (λ (x : List ℕ). over x (k * record_length) (record_bytes a.snapshot)) (c.copy_within.ensures.after ∙ ap (λ (n : ℕ). paste d 0 (drop record_length d) n) l ∙ ap (λ (n : ℕ). take (k * record_length) (drop record_length d) ++ drop n d) (zero-add (k * record_length))) ∙ sym (store-full d a.count a.snapshot c.if-count-gt0.true e)
