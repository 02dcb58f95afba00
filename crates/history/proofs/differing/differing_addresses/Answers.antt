use Rattle.std.proofs.Common.{rules}
use Rattle.isa.specs.Sizes.{memory_words}
use Rattle.history.specs.Differences.{differ, differences_of}
use Rattle.history.proofs.Collects.{found_none, found-more, found_all, differ_same, differ_other, differ_end}
use Rattle.history.proofs.differing.differing_addresses.Goals as goal

pub loop-i-init : goal.loop-i-init
loop-i-init c =
    let e = c.enumerate-i-items.ensures in
    let z = c.zip.ensures in
    (search rules, search rules, rw (c.into_iter-i-iterator.ensures.into_iter_gives, e.source, e.count, z.first, z.second.0, c.iter.ensures.rest) (found_none memory_words (differ 0 c.args.image c.args.memory)))

pub loop-i-preserved-then-before-now : goal.loop-i-preserved-then-before-now
loop-i-preserved-then-before-now c =
    let l = c.loop-i in
    let s = c.in-Some.ensures.steps in
    let more = rw (differ_other s.0.0 s.0.1 s.1 s.2 c.if-before-now.true) at l.invariant.2 in
    (search rules, search rules, found-more memory_words (search rules) more)

pub loop-i-preserved : goal.loop-i-preserved
loop-i-preserved c =
    let s = c.in-Some.ensures.steps in
    (search rules, search rules, rw (differ_same s.0.0 s.0.1 s.1 s.2 c.if-before-now.false) at c.loop-i.invariant.2)

pub returns : goal.returns
unfolding differences_of
returns c =
    let l = c.loop-i in
    let f = found_all memory_words (rw (differ_end l.i-iterator.count l.i-iterator.iter.a.rest.now l.i-iterator.iter.b.rest.now c.in-None.ensures.steps.0) at l.invariant.2) in
    λ i. record { addresses = f.0 i; count = f.1 i }
