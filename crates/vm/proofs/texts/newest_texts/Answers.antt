-- Assumes nothing.
use Prim.Native.Nat.{ℕ}
use native.Mathlib.Omega.{arith}
use mathlib.Core.Path.{◌≡◌, ap, sym, ◌∙◌}
use lib.ListN.{length}
use Rattle.trace.specs.Trace.{live_texts, take_last, texts_in}
use Rattle.vm.proofs.Newest.{texts-length, length-newest, placed, placed_none, placed_next, placed_all}
use Rattle.vm.proofs.texts.newest_texts.Goals as goal

pub loop-i-init : goal.loop-i-init
loop-i-init c =
    let a = c.args in
    placed_none (take_last a.n (live_texts a.ring.start a.ring.len (texts_in a.columns.now) a.lengths.now)) c.from_bytes-texts.ensures

pub loop-i-preserved : goal.loop-i-preserved
loop-i-preserved c =
    let a = c.args in
    let l = c.loop-i in
    placed_next l.i (take_last a.n (live_texts a.ring.start a.ring.len (texts_in a.columns.now) a.lengths.now)) (omega arith) c.newest_text.ensures l.invariant

pub returns : goal.returns
returns c =
    let a = c.args in
    let l = c.loop-i in
    let all = live_texts a.ring.start a.ring.len (texts_in a.columns.now) a.lengths.now in
    let t = take_last a.n all in
    let n : length t ≡ a.n = length-newest a.n all (omega (arith, texts-length a.ring.start a.ring.len (texts_in a.columns.now) a.lengths.now c.requires.2)) in
    let e : l.i ≡ length t = omega arith in
    let b = l.invariant ∙ ap (λ (k : ℕ). placed k t) e ∙ placed_all t in
    λ j. record { texts = b j; count = sym n j }
