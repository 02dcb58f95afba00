use Prim.Native.Nat.{ℕ, ◌<◌, ◌-◌}
use mathlib.Core.List.{List}
use lib.ListN.{length, take, drop}
use Rattle.std.specs.Prelude.{Option, Some}
use Rattle.assemble.specs.Lines.{read_line}
use Rattle.assemble.specs.Reading.{row, LineAt}
use Rattle.assemble.specs.declared.lines.Entry.{Entry}
use Rattle.assemble.specs.declared.lines.Row.{Row}
use Rattle.assemble.specs.declared.text.Bounds.{Bounds}
use native.Mathlib.Omega.{arith}
use mathlib.Core.Path.{◌≡◌, refl, sym, ap, ◌∙◌}
use Rattle.assemble.proofs.Rows.{lines_next, Going, Turn, going_turn, going_end}
use borrow.Author.Rules.{rules}
use Rattle.assemble.proofs.text.collect.Goals as goal

-- what follows for the row that was read
turn : (t : List ℕ) (at n : ℕ) (es : List Entry) {b : Bounds} {r : Option Row} → at < length t → Going t at n es → LineAt t at b
    → r ≡ row (read_line (take (b.end - at) (drop at t))) → Turn t n es b.next r
turn t at n es {b} h g l f = rw f (going_turn t at n es g b.next _ (lines_next t at b h l))

pub loop-at-init : goal.loop-at-init
loop-at-init c = (search rules, record { few = omega arith; room = c.requires; faults = refl; entries = refl })

pub returns-in_default-clause-refusal : goal.returns-in_default-clause-refusal
returns-in_default-clause-refusal c =
    let l = c.loop-at in
    sym (turn c.args.text.now l.at l.n l.entries c.loop-at-test.true l.invariant.1 c.line_at-line.ensures (sym c.in_default.is ∙ c.line_row.ensures))

pub loop-at-preserved : goal.loop-at-preserved
loop-at-preserved c =
    let l = c.loop-at in
    (c.line_at-line.ensures.within, turn c.args.text.now l.at l.n l.entries c.loop-at-test.true l.invariant.1 c.line_at-line.ensures (sym (c.in-Some.is ∙ ap (λ (r : Row). Some r) c.in_default-row.is) ∙ c.line_row.ensures))

pub returns-then-n-eq-LISTING_WORDS-clause-refusal : goal.returns-then-n-eq-LISTING_WORDS-clause-refusal
returns-then-n-eq-LISTING_WORDS-clause-refusal c =
    let l = c.loop-at in
    let u = turn c.args.text.now l.at l.n l.entries c.loop-at-test.true l.invariant.1 c.line_at-line.ensures (sym (c.in-Some.is ∙ ap (λ (r : Row). Some r) c.in-Word.is) ∙ c.line_row.ensures) in
    sym (u.0 c.if-n-eq-LISTING_WORDS.true)

pub loop-at-preserved-in-Word : goal.loop-at-preserved-in-Word
loop-at-preserved-in-Word c =
    let l = c.loop-at in
    let u = turn c.args.text.now l.at l.n l.entries c.loop-at-test.true l.invariant.1 c.line_at-line.ensures (sym (c.in-Some.is ∙ ap (λ (r : Row). Some r) c.in-Word.is) ∙ c.line_row.ensures) in
    (c.line_at-line.ensures.within, u.1 c.if-n-eq-LISTING_WORDS.false)

pub returns : goal.returns
returns c =
    let e = going_end c.args.text.now c.loop-at.at c.loop-at.n c.loop-at.entries c.loop-at.invariant.1 c.loop-at-test.false in
    record { refusal = e.0; held = e.1 }
