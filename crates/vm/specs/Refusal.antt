-- What is refused of a state (01, section 1, numbers 8 and 9).
-- Assumes nothing.
use Rattle.std.specs.Prelude.{ℕ, Bool, cond, ◌&&◌, List, leb, take, Result, Ok, Err}
use Rattle.encoding.specs.declared.refusal.Refusal.{Refusal}
use Rattle.encoding.specs.declared.refusal.Refusal.TheVariants.{NoMachine, FullCounter}
use Rattle.isa.specs.Sizes.{memory_words}
use Rattle.control.specs.Lawful.{lawful}
use Rattle.control.specs.Count.{over_counted}
use Rattle.vm.specs.declared.parts.Core.{Core}
use Rattle.trace.specs.Trace.{live_lengths, short_texts, trace_limit}
use Rattle.trace.specs.Touched.{distinct}

-- 8: the control unit; the image's length; the number of trace records and the lengths of their texts; the touched addresses, and none twice
unfoldable pub parts_ok : Core → ℕ → List ℕ → List ℕ → Bool
parts_ok c n t l =
    lawful c.state.control
    && (leb n memory_words
    && (leb c.trace_len trace_limit
    && (short_texts (live_lengths c.trace_start c.trace_len l)
    && (leb c.touched_len memory_words && distinct (take c.touched_len t)))))

-- the answer of a call on a machine, by whether it is one
abbrev pub served : {A : Type 0} → Bool → A → Result A Refusal
served ok a = cond ok (Ok a) (Err NoMachine)

-- the answer with f of its value
abbrev pub result_map : {A B : Type 0} → (A → B) → Result A Refusal → Result B Refusal
result_map f (Ok a) = Ok (f a)
result_map f (Err r) = Err r

-- 9 is for a running machine with a counter near its end
abbrev pub step_refusal_if : Bool → Bool → Bool → Result (Unit {0}) Refusal
step_refusal_if ok halted far = cond ok (cond halted (Ok tt) (cond far (Err FullCounter) (Ok tt))) (Err NoMachine)

unfoldable pub step_refusal : Core → ℕ → List ℕ → List ℕ → Result (Unit {0}) Refusal
step_refusal c n t l = step_refusal_if (parts_ok c n t l) c.state.control.halted (over_counted c.counters)
