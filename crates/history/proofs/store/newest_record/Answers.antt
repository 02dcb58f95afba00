-- `newest_record` meets its contract where there is a record. Assumes nothing.
use mathlib.Core.Path.{sym, ap, ◌∙◌}
use Prim.Native.Nat.{ℕ, ◌-◌, ◌*◌, ◌≤◌, ◌<◌}
use native.Mathlib.Omega.{arith}
use lib.ListN.{length, take, drop}
use lib.Seq.{take-take}
use Rattle.history.specs.Record.{record_length, record_in}
use Rattle.history.specs.Store.{limit_of, record_at}
use Rattle.history.proofs.Records.{record_cut}
use Rattle.history.proofs.Stores.{newest-held}
use Rattle.history.proofs.store.newest_record.Goals as goal

pub returns : goal.returns
unfolding record_at
returns c =
    let a = c.args in
    let d = a.store.now in
    let at : ℕ = (a.count - 1) * record_length in
    let p : 0 < a.count = omega (arith, c.if-count-eq0.false) in
    let h : a.count ≤ limit_of (length d) = omega (arith, c.if-history_limit-count.false, c.history_limit.ensures) in
    c.decode.ensures
    ∙ sym (record_cut (take (length d - at) (drop at d)))
    ∙ ap record_in (take-take record_length (length d - at) (drop at d) (omega arith))
    ∙ sym (newest-held d a.count p h)
