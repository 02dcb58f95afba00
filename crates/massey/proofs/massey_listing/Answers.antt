-- Assumes nothing.
use Prim.Native.Nat.{ℕ, ◌≤◌}
use native.Mathlib.Omega.{arith}
use mathlib.Core.Path.{◌≡◌, ap, ◌∙◌}
use Rattle.encoding.specs.Answer.{Outcome, Told}
use Rattle.listing.specs.Listing as listing
use Rattle.listing.proofs.Listings.{bytes_at_most}
use Rattle.secret.specs.Widths.{report_limit}
use Rattle.massey.specs.Calls.{number_of, listing_outcome}
use Rattle.massey.proofs.Answers.{numbered, small, length_read, refusal_read}
use Rattle.massey.proofs.massey_listing.Goals as goal
use Rattle.massey.proofs.massey_listing.Goals.{In-Ok}

most : (c : In-Ok) → c.in-Ok.size ≤ report_limit
most c =
    let s = c.args in
    let size : c.in-Ok.size ≡ (listing.bytes_outcome s.image.now s.out.now).answer.length = ap (λ (o : Outcome Told). o.answer.length) c.in-Ok.ensures in
    omega (arith, bytes_at_most s.image.now s.out.now)

pub overflow_cast-result : goal.overflow_cast-result
overflow_cast-result c = small (most c)

pub returns-in-Ok : goal.returns-in-Ok
unfolding listing_outcome
returns-in-Ok c = numbered (length_read (most c)) c.in-Ok.ensures

pub returns-in-Err : goal.returns-in-Err
unfolding listing_outcome
returns-in-Err c = numbered (refusal_read (omega (arith, c.number.type_inv)) ∙ ap (λ (n : ℕ). number_of n 0) c.number.ensures) c.in-Err.ensures
