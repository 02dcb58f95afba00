use Prim.Native.Nat.{ℕ, ◌+◌, ◌-◌}
use mathlib.Core.Bool.{Bool, true, false, cond}
use mathlib.Core.List.{List}
use mathlib.Core.Path.{◌≡◌, refl, sym, ap, ◌∙◌}
use borrow.Author.Tests.{eq-eqb, ne_eqb}
use lib.ListN.{length, get_or, take, drop, drop_of_length-le}
use Rattle.std.specs.Prelude.{Option, Some, None, is_some}
use Rattle.encoding.specs.Bytes.{member}
use Rattle.assemble.specs.Assembly.{placed, doubled}
use Rattle.assemble.specs.Reading.{entry, labels_in, place_of}
use Rattle.assemble.specs.declared.lines.Entry.{Entry}
use Rattle.assemble.proofs.Steps.{tail_whole}
use Rattle.assemble.proofs.Linking.{length_in, labels-drop, get_or-in, doubled-turn}
use Rattle.assemble.proofs.links.twice.Goals as goal
use Rattle.assemble.proofs.links.twice.Goals.{else-entry-ne0-via-then-entry-ne0+else-is_some, else-entry-ne0-via-else-entry-ne0}

has_place : (v : Bool) (n : ℕ) → is_some (cond v (Some n) None) ≡ v
has_place true n = refl
has_place false n = refl

label_at : (es : List Entry) (i : ℕ) → get_or (labels_in es) i 0 ≡ (get_or es i (entry 0 0 0)).label
label_at es i = get_or-in (λ (e : Entry). e.label) es i (entry 0 0 0)

-- whether the key stands further on
further_on : (es : List Entry) (i : ℕ) {o : Option ℕ} {r : Bool} → o ≡ place_of (get_or es i (entry 0 0 0)).label (labels_in (take (length es - (i + 1)) (drop (i + 1) es)))
    → r ≡ is_some o → r ≡ member (get_or (labels_in es) i 0) (drop (i + 1) (labels_in es))
further_on es i e f =
    let k = (get_or es i (entry 0 0 0)).label in
    let xs = drop (i + 1) (labels_in es) in
    f ∙ ap (λ (p : Option ℕ). is_some p) e
    ∙ ap (λ (ys : List ℕ). is_some (place_of k ys)) (ap (λ (ds : List Entry). labels_in ds) (tail_whole es (i + 1)) ∙ labels-drop (i + 1) es)
    ∙ has_place (member k xs) (placed k xs)
    ∙ ap (λ (n : ℕ). member n xs) (sym (label_at es i))

pub returns-then-is_some : goal.returns-then-is_some
returns-then-is_some c =
    let es = c.args.entries.now in
    let i = c.loop-i.i in
    let l = length_in (λ (e : Entry). e.label) es in
    let further = further_on es i c.place.ensures c.is_some.ensures in
    sym (doubled-turn (labels_in es) i (rw l c.loop-i-test.true) false true (ne_eqb _ 0 (λ e. c.if-entry-ne0.true (sym (label_at es i) ∙ e))) (sym further ∙ c.if-is_some.true)) ∙ c.loop-i.invariant

pub loop-i-preserved : goal.loop-i-preserved
loop-i-preserved c =
    let es = c.args.entries.now in
    let i = c.loop-i.i in
    let l = length_in (λ (e : Entry). e.label) es in
    elim c.else-entry-ne0.branch [
      | else-entry-ne0-via-then-entry-ne0+else-is_some w ↦
          let further = further_on es i w.place.ensures w.is_some.ensures in
          sym (doubled-turn (labels_in es) i (rw l c.loop-i-test.true) false false (ne_eqb _ 0 (λ e. w.if-entry-ne0.true (sym (label_at es i) ∙ e))) (sym further ∙ w.if-is_some.false)) ∙ c.loop-i.invariant
      | else-entry-ne0-via-else-entry-ne0 w ↦
          sym (doubled-turn (labels_in es) i (rw l c.loop-i-test.true) true _ (eq-eqb _ 0 (label_at es i ∙ w.if-entry-ne0.false)) refl) ∙ c.loop-i.invariant
    ]

pub returns : goal.returns
unfolding doubled
returns c =
    let es = c.args.entries.now in
    let l = length_in (λ (e : Entry). e.label) es in
    rw (drop_of_length-le (labels_in es) {i = c.loop-i.i} (rw l c.loop-i-test.false)) at c.loop-i.invariant
