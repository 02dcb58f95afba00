-- The laws of `specs/Refusal.antt`: no refusal has the number 0, which is that of a call that is served.
-- Assumes nothing.
use Rattle.std.proofs.Common.{◌≡◌, arith}
use Rattle.encoding.specs.declared.refusal.Refusal.{Refusal}
use Rattle.encoding.specs.declared.refusal.Refusal.TheVariants.{LongImage, OwnerCount, BreakpointCount, LargeBudget, ShortBuffer, InputLength, ShortStore, NoMachine, FullCounter, NoHistory, Grammar, Label, WordCount}
use Rattle.encoding.specs.Refusal.{refusal_number}

pub numbered : (r : Refusal) → refusal_number r ≡ 0 → ⊥
numbered LongImage e = omega (arith, e)
numbered OwnerCount e = omega (arith, e)
numbered BreakpointCount e = omega (arith, e)
numbered LargeBudget e = omega (arith, e)
numbered ShortBuffer e = omega (arith, e)
numbered InputLength e = omega (arith, e)
numbered ShortStore e = omega (arith, e)
numbered NoMachine e = omega (arith, e)
numbered FullCounter e = omega (arith, e)
numbered NoHistory e = omega (arith, e)
numbered Grammar e = omega (arith, e)
numbered Label e = omega (arith, e)
numbered WordCount e = omega (arith, e)
