-- Demand 3, as `specs/Demand.antt` states it: of reports, of the calls, and of the calls on the report program's input; and that there are inputs of which it speaks.
-- Assumes nothing.
use mathlib.Core.Path.{◌≡◌, refl, sym, ap, ◌∙◌}
use mathlib.Core.Logic.{◌↔◌}
use mathlib.Core.List.{List, [], ◌∷◌, ◌++◌}
use Prim.Native.Nat.{ℕ, ◌<◌}
use mathlib.Core.Bool.{Bool}
use lib.ListN.{length, get_or, replicate}
use lib.Seq.{ext_get_or}
use Rattle.isa.specs.Sizes.{memory_words}
use Rattle.encoding.specs.Bytes.{big_endian, number, read_number}
use Rattle.vm.specs.Calls.{image_words}
use Rattle.marks.specs.Owners.{hidden_from}
use Rattle.marks.specs.Marks.{shown}
use Rattle.vm.specs.Guard.{guarded_start, guarded_run, guarded_of}
use Rattle.guard.specs.Input.{Input, guard_refusal}
use Rattle.secret.proofs.Levels.{Twin, Level}
use Rattle.secret.proofs.Runs.{run_same}
use Rattle.secret.specs.Report.{start_records, break_record, each_record, end_bytes, report_on, report_bytes}
use Rattle.secret.specs.Widths.{report_limit}
use Rattle.secret.specs.Public.{report_refusal, SamePublic}
use Rattle.secret.specs.Program.{input_of, first_refusal, bytes_refusal}
use Rattle.secret.specs.Demand.{Words, DemandThree, DemandThreeCalls, DemandThreeBytes}
use Rattle.secret.proofs.Accepts.{Accepted, accepted, length-words, words-below, clearance_joins}
use Rattle.secret.proofs.Shows.{shown-seen}
use Rattle.secret.proofs.Fronts.{head_cut, starts_cut, breaks_cut}
use Rattle.secret.proofs.Calls.{report_left}
use Rattle.secret.proofs.Programs.{bytes_accepted, bytes_report, image-below}
use Rattle.secret.proofs.Ends.{ends_same, starts_same, start_level, start-tick}

-- there are accepted inputs: HALT, and any word behind it, which has an owner that the clearance lacks
abbrev pub with_secret : ℕ → Input
with_secret w = record { image = 57344 ∷ w ∷ []; marks = 0 ∷ 3 ∷ replicate 254 0; budget = 1; breaks = []; clearance = 1 }

pub secret_accepted : (w : ℕ) → report_refusal (with_secret w) report_limit ≡ 0
unfolding report_refusal guard_refusal
secret_accepted w = refl

-- equal reports come from the same public input
report→same : (i j : Input) → Accepted i → Accepted j → Words i → Words j → report_bytes i ≡ report_bytes j → SamePublic i j
unfolding report_bytes report_on
report→same i j A B v w e =
    let front = head_cut i j A B e in
    let c = front.0.clearance in
    let hid = hidden_from i.clearance in
    -- the records behind the head of j, as those for i's reader, who is the same
    let behind = front.1 ∙ (λ x. start_records (hidden_from (sym c x)) (image_words j.image) j.marks ++ (each_record break_record j.breaks ++ end_bytes (hidden_from j.clearance) (guarded_of j))) in
    let rest = starts_cut hid (image_words i.image) i.marks (image_words j.image) j.marks (words-below i.image v) (words-below j.image w) behind in
    record {
      image = front.0.image;
      budget = front.0.budget;
      breaks = breaks_cut i.breaks j.breaks _ _ front.0.breaks rest.1;
      clearance = c;
      marks = ext_get_or 0 i.marks j.marks (A.full ∙ sym B.full) (λ a l. (rest.0 a (rw A.full at l)).0);
      words = λ a l p. shown-seen hid (get_or i.marks a 0) (get_or (image_words i.image) a 0) (get_or (image_words j.image) a 0) p
          ((rest.0 a l).1 ∙ ap (λ (m : ℕ). shown hid m (get_or (image_words j.image) a 0)) (sym (rest.0 a l).0));
    }

-- the same public input gives the same report
same→report : (i j : Input) → Accepted i → SamePublic i j → report_bytes i ≡ report_bytes j
unfolding report_bytes report_on guarded_of
same→report i j A S =
    (rw (S.image, starts_same hid (image_words i.image) (image_words j.image) i.marks twin, outcome))
    ∙ (λ x. report_bytes (record { image = j.image; marks = S.marks x; budget = S.budget x; breaks = S.breaks x; clearance = S.clearance x }))
  where
    hid : ℕ → Bool
    hid = hidden_from i.clearance

    twin : (a : ℕ) → a < memory_words → Twin hid (get_or i.marks a 0) (get_or (image_words i.image) a 0) (get_or (image_words j.image) a 0)
    twin a l = record { seen = S.words a l }

    level : Level hid (guarded_start i.image i.marks) (guarded_start j.image i.marks)
    level = start_level hid i.image j.image i.marks (length-words i.image ∙ sym A.full) (length-words j.image ∙ sym A.full) (λ a l. twin a (rw A.full at l))

    outcome : end_bytes hid (guarded_run hid i.breaks 0 i.budget (guarded_start i.image i.marks))
        ≡ end_bytes hid (guarded_run hid i.breaks 0 i.budget (guarded_start j.image i.marks))
    outcome = ends_same hid _ _ (run_same hid (clearance_joins i.clearance) i.breaks 0 i.budget (guarded_start i.image i.marks) (guarded_start j.image i.marks) level (start-tick hid i.image i.marks))

pub demand_three : DemandThree
demand_three i j m n p q v w =
    let A = (accepted i m p).0 in
    (report→same i j A (accepted j n q).0 v w, same→report i j A)

-- reports as the calls leave them
left : {r s r' s' : List ℕ} {S : Type 0} → r' ≡ r → s' ≡ s → (r ≡ s) ↔ S → (r' ≡ s') ↔ S
left p q t = (λ e. t.0 (sym p ∙ e ∙ q), λ x. p ∙ t.1 x ∙ sym q)

pub demand_three_calls : DemandThreeCalls
demand_three_calls i j b d p q v w = left (report_left i b p) (report_left j d q) (demand_three i j (length b) (length d) p q v w)

-- ---- the report program's inputs

pub demand_three_bytes : DemandThreeBytes
demand_three_bytes x y b d p q v w =
    left (bytes_report x b p) (bytes_report y d q)
    (demand_three (input_of x) (input_of y) (length b) (length d) (bytes_accepted x (length b) p) (bytes_accepted y (length d) q) (image-below x v) (image-below y w))

-- some are not: the bytes of `with_secret`, whose hidden word has the bytes h and l
abbrev pub secret_bytes : ℕ → ℕ → List ℕ
secret_bytes h l = 0 ∷ 2 ∷ 224 ∷ 0 ∷ h ∷ l ∷ 0 ∷ 3 ∷ (replicate 254 0 ++ (big_endian 8 1 ++ (0 ∷ 0 ∷ 1 ∷ [])))

pub secret_bytes_accepted : (h l : ℕ) → bytes_refusal (secret_bytes h l) report_limit ≡ 0
unfolding bytes_refusal first_refusal read_number number big_endian
secret_bytes_accepted h l = refl
