-- The report program's input in bytes, numbers high byte first (01, section 6; 02, Change 7), which inputs are refused (01, section 1, numbers 1 to 6), and
-- what is answered. In order: image length 2, the words 2 each, 256 owner bytes, budget 8, breakpoint count 2, the breakpoints 1 each, clearance 1.
-- Assumes nothing.
use Rattle.std.specs.Prelude.{ℕ, ◌+◌, ◌*◌, Bool, cond, List, eqb, ltb, length, take, drop, get_or}
use Rattle.isa.specs.Sizes.{memory_words}
use Rattle.encoding.specs.Bytes.{numbers, read_number}
use Rattle.guard.specs.Input.{Input, break_limit, budget_limit}
use Rattle.secret.specs.Report.{report_bytes}
use Rattle.secret.specs.Widths.{count_width, value_width, number_width, mark_width, report_limit}
use Rattle.encoding.specs.Answer.{Outcome, Told, unless_refused}
use Rattle.secret.specs.Outcome.{delivered}

-- where the parts behind n words begin
abbrev pub marks_at : ℕ → ℕ
marks_at n = count_width + value_width * n

abbrev pub budget_at : ℕ → ℕ
budget_at n = marks_at n + memory_words

abbrev pub count_at : ℕ → ℕ
count_at n = budget_at n + number_width

abbrev pub breaks_at : ℕ → ℕ
breaks_at n = count_at n + count_width

-- the same behind b breakpoints too
abbrev pub clearance_at : ℕ → ℕ → ℕ
clearance_at n b = breaks_at n + b

-- so many bytes decide every answer (`first_decide`): the most that are served, and one more
abbrev pub input_length : ℕ
input_length = clearance_at memory_words break_limit + mark_width + 1

-- the three numbers: one that is not wholly there reads as 0, which no test below refuses, so that it is left to 6
abbrev pub image_length : List ℕ → ℕ
image_length b = read_number b 0 count_width

abbrev pub budget_in : List ℕ → ℕ
budget_in b = read_number b (budget_at (image_length b)) number_width

abbrev pub break_count : List ℕ → ℕ
break_count b = read_number b (count_at (image_length b)) count_width

-- the guarded run's input that the bytes are
unfoldable pub input_of : List ℕ → Input
input_of b =
    let n = image_length b in
    record {
      image = numbers value_width n (drop count_width b);
      marks = take memory_words (drop (marks_at n) b);
      budget = budget_in b;
      breaks = take (break_count b) (drop (breaks_at n) b);
      clearance = get_or b (clearance_at n (break_count b)) 0;
    }

-- how many bytes there are due, by the two counts
abbrev pub length_due : ℕ → ℕ → ℕ
length_due n b = clearance_at n b + mark_width

-- the first test that refuses, by its number, whatever the order of the parts; 0 for none. Every byte is a mark, and where the marks are not all there 6 says
-- so: 2 is never met
-- image length, breakpoint count, budget, length of the buffer, whether the bytes are as many as their counts say
unfoldable pub first_refusal : ℕ → ℕ → ℕ → ℕ → Bool → ℕ
first_refusal words count budget room whole =
    cond (ltb memory_words words) 1
    (cond (ltb break_limit count) 3
    (cond (ltb budget_limit budget) 4
    (cond (ltb room report_limit) 5
    (cond whole 0 6))))

-- the bytes, the length of the buffer
unfoldable pub bytes_refusal : List ℕ → ℕ → ℕ
bytes_refusal b room =
    let n = image_length b in
    first_refusal n (break_count b) (budget_in b) room (eqb (length b) (length_due n (break_count b)))

unfoldable pub bytes_outcome : List ℕ → List ℕ → Outcome Told
bytes_outcome b out = unless_refused (bytes_refusal b (length out)) out (delivered (report_bytes (input_of b)) out)
