use Prim.Native.Nat.{ℕ}
use mathlib.Core.Bool.{Bool, true, false, cond}
use mathlib.Core.Path.{◌≡◌, refl, ap, ◌∙◌}
use borrow.Author.Tests.{ne_eqb}
use Rattle.std.specs.Prelude.{Option, Some, None, Ok, Err}
use Rattle.std.specs.Option.{ok_or}
use Rattle.encoding.specs.Bytes.{member}
use Rattle.encoding.specs.declared.refusal.Refusal.TheVariants.{Label}
use Rattle.assemble.specs.Assembly.{placed}
use Rattle.assemble.specs.Reading.{labels_in}
use Rattle.assemble.proofs.links.address_of.Goals as goal

or_label : (v : Bool) (n : ℕ) → ok_or (cond v (Some n) None) Label ≡ cond v (Ok n) (Err Label)
or_label true n = refl
or_label false n = refl

pub returns : goal.returns
returns c =
    let ks = labels_in c.args.entries.now in
    let k = c.args.key in
    rw (ne_eqb k 0 c.if-key-eq0.false) (c.ok_or.ensures.value ∙ ap (λ (o : Option ℕ). ok_or o Label) c.place.ensures ∙ or_label (member k ks) (placed k ks))
