-- What the test of a control unit says, and when it holds.
-- Assumes nothing.
use Rattle.std.proofs.Common.{◌≡◌, ℕ, ◌-◌, ◌<◌, ◌≤◌, Bool, true, false, cond, ◌&&◌, eqb, ltb, leb, sym, refl, arith, le-ltb, lt-ltb, eq-eqb, eqb-true, le-leb, leb-true}
use Rattle.isa.specs.Word.{decode_word}
use Rattle.isa.proofs.Truths.{both}
use Rattle.plan.specs.Plan.{execute_ticks_of}
use Rattle.control.specs.declared.control.Control.{Control}
use Rattle.control.specs.Lawful.{lawful}

pub true-false : true ≡ false → ⊥
true-false e = let z : ◌≡◌ {A = ℕ} 0 1 = cc in omega arith

-- between instructions, or in the fetch
pub lawful_fetch : (c : Control) → c.tick < 4 → lawful c ≡ true
unfolding lawful
lawful_fetch c h = go c.halted
  where
    small : c.tick ≤ 6
    small = omega arith

    go : (b : Bool) → leb c.tick 6 && cond b true (cond (ltb c.tick 4) true (eqb c.execute_ticks (execute_ticks_of (decode_word c.ir)) && ltb (c.tick - 4) c.execute_ticks)) ≡ true
    go true = rw (le-leb _ _ small)
    go false = rw (le-leb _ _ small, lt-ltb _ _ h)

-- in the execute ticks
pub lawful_execute : (c : Control) → c.tick ≤ 6 → c.execute_ticks ≡ execute_ticks_of (decode_word c.ir) → c.tick - 4 < c.execute_ticks → lawful c ≡ true
unfolding lawful
lawful_execute c h e l = go c.halted (ltb c.tick 4)
  where
    go : (b d : Bool) → leb c.tick 6 && cond b true (cond d true (eqb c.execute_ticks (execute_ticks_of (decode_word c.ir)) && ltb (c.tick - 4) c.execute_ticks)) ≡ true
    go true d = rw (le-leb _ _ h)
    go false true = rw (le-leb _ _ h)
    go false false = rw (le-leb _ _ h, eq-eqb _ _ e, lt-ltb _ _ l)

-- what a lawful control unit says of an execute tick
facts : (a h f x y : Bool) → a && cond h true (cond f true (x && y)) ≡ true → h ≡ false → f ≡ false → x ≡ true
facts true false false true y e p q = refl
facts true false false false y e p q = absurd (true-false (sym e))
facts true false true x y e p q = absurd (true-false q)
facts true true f x y e p q = absurd (true-false p)
facts false h f x y e p q = absurd (true-false (sym e))

-- the tick's number is small, and in an execute tick the count is that of IR's opcode
pub lawful-small : (c : Control) → lawful c ≡ true → c.tick ≤ 6
unfolding lawful
lawful-small c ok = leb-true c.tick 6 (both (leb c.tick 6) _ ok).0

pub lawful-count : (c : Control) → lawful c ≡ true → c.halted ≡ false → 4 ≤ c.tick → c.execute_ticks ≡ execute_ticks_of (decode_word c.ir)
unfolding lawful
lawful-count c ok r h = eqb-true c.execute_ticks (execute_ticks_of (decode_word c.ir)) (facts (leb c.tick 6) c.halted (ltb c.tick 4) _ _ ok r (le-ltb c.tick 4 h))
