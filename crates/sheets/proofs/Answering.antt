-- Why it holds: The checks find a fault, or every test has passed. Then the answer follows from the
-- room.
-- What would break it: A refusal that counted zones, or room compared with anything but the sheet,
-- would be caught here.
use mathlib.Core.Path.{◌≡◌, sym, ap, ◌∙◌}
use mathlib.Core.List.{List}
use Prim.Native.Nat.{ℕ, ◌/◌, ◌≤◌, ◌<◌}
use native.Mathlib.Omega.{arith}
use lib.ListN.{length}
use Rattle.answers.specs.Answer.{TAKEN, ROOM}
use Rattle.answers.specs.Output.{written, answer_of, output_of}
use Rattle.answers.specs.declared.verdict.Counted.{Counted}
use Rattle.answers.specs.declared.verdict.Verdict.{Verdict}
use Rattle.answers.specs.Verdict.{ANCESTORS, verdict, taken, counted}
use Rattle.answers.proofs.OutputLaws.{answer_fault, answer_room, if_refused}
use Rattle.nodes.specs.Words.{nodes, count}
use Rattle.sheets.specs.Sheet.{sheet_in, check_sheet, sheet_of, sheet_output}
use Rattle.sheets.proofs.Answered.{check_taken, sheet_length, fault_answered, room_told, taken_told, rows_written}

module _ (zones samples hundredths out : List ℕ) where
  -- What a call answers and leaves: a fault's verdict, ROOM, or the sheet.
  abbrev pub Answers : Counted → List ℕ → Type 0
  Answers r after = record { answer : r ≡ sheet_of zones samples hundredths out; output : after ≡ sheet_output zones samples hundredths out }

  abbrev fault : ℕ
  fault = (check_sheet zones samples hundredths).answer

  abbrev sheet : List ℕ
  sheet = sheet_in zones samples hundredths

  -- A refusal counts nothing and leaves the output as it was.
  nothing_written : (v : Verdict) → (sheet_of zones samples hundredths out).verdict ≡ v → (answer_of fault sheet out ≡ TAKEN → ⊥) → Answers (counted v 0) out
  unfolding sheet_of sheet_output output_of
  nothing_written v e n =
      let k = if_refused fault sheet out (length (nodes zones)) 0 n in record {
        answer = λ t. counted (sym e t) (sym k t);
        output = sym (if_refused fault sheet out (written sheet out) out n);
      }

  module _ (v : Verdict) (q : v ≡ check_sheet zones samples hundredths) where
    pub refused : (v.answer ≡ TAKEN → ⊥) → Answers (counted v 0) out
    refused h =
        let f : fault ≡ TAKEN → ⊥ = λ z. h (ap (λ w. w.answer) q ∙ z) in
        nothing_written v (fault_answered zones samples hundredths out f ∙ sym q) (λ z. f (sym (answer_fault fault sheet out f) ∙ z))

    module _ (h : v.answer ≡ TAKEN) where
      fault_none : fault ≡ TAKEN
      fault_none = sym (ap (λ w. w.answer) q) ∙ h

      none_found : check_sheet zones samples hundredths ≡ taken
      none_found = (check_taken zones samples hundredths fault_none).1

      pub no_room : (r : Counted) → length out / 3 < count zones → r ≡ counted (verdict ROOM ANCESTORS 0) 0 → Answers r out
      no_room r l e =
          let long = sheet_length zones samples hundredths in
          let a = answer_room fault sheet out fault_none (omega (arith, long)) in
          let w = nothing_written (verdict ROOM ANCESTORS 0) (room_told zones samples hundredths out none_found (omega arith)) (λ z. omega (arith, sym a ∙ z)) in
          record { answer = e ∙ w.answer; output = w.output }

      pub all_written : count zones ≤ length out / 3 → (n : ℕ) → n ≡ count zones → (r : Counted) → r ≡ counted taken n → (after : List ℕ)
          → after ≡ written sheet out → Answers r after
      all_written l n m r e after w = record {
        answer = e ∙ ap (counted taken) m ∙ sym (taken_told zones samples hundredths out none_found (omega arith));
        output = w ∙ sym (rows_written zones samples hundredths out none_found (omega arith));
      }
