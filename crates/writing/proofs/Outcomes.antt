-- Why it holds: A call is refused for what its check finds, then for want of room. Only a call that
-- is taken writes and counts.
-- What would break it: A refusal with a count, a refusal that altered the output, or a count or
-- room other than the book's length would be caught here.
use mathlib.Core.Path.{◌≡◌, sym, subst, ◌∙◌}
use mathlib.Core.List.{List}
use Prim.Native.Nat.{ℕ, ◌≤◌, ◌<◌}
use native.Mathlib.Omega.{arith}
use lib.ListN.{length}
use Rattle.answers.specs.Answer.{TAKEN, ROOM}
use Rattle.answers.specs.Output.{written, answer_of, output_of}
use Rattle.answers.proofs.OutputLaws.{answer_fault, answer_room, answer_taken, if_taken_lem, if_refused}
use Rattle.answers.specs.declared.verdict.Verdict.{Verdict}
use Rattle.answers.specs.Verdict.{ANCESTORS, verdict, taken}
use Rattle.writing.specs.WriteCall.{check_wanted, bytes_for, written_of_up_to, written_of, written_output_up_to, written_output}
use Rattle.writing.proofs.Checking.{taken_all}

-- A call that writes a book.
abbrev pub WritesBook : List ℕ → List ℕ → List ℕ → List ℕ → Type 0
WritesBook entries list out book =
    (written_of entries list out ≡ record { verdict = taken; count = length book }) × (written_output entries list out ≡ written book out)

-- A call that is refused with a verdict.
abbrev pub Refuses : List ℕ → List ℕ → List ℕ → Verdict → Type 0
Refuses entries list out v = (written_of entries list out ≡ record { verdict = v; count = 0 }) × (written_output entries list out ≡ out)

module _ (entries list out : List ℕ) where
  refused : (answer : ℕ) → (answer ≡ TAKEN → ⊥)
      → answer_of (check_wanted entries list).answer (bytes_for entries list) out ≡ answer
      → Refuses entries list out (verdict answer (check_wanted entries list).list (check_wanted entries list).index)
  unfolding written_of_up_to written_output_up_to output_of
  refused answer h a =
      let v = check_wanted entries list in
      let b = bytes_for entries list in
      let n : answer_of v.answer b out ≡ TAKEN → ⊥ = λ z. h (sym a ∙ z) in (
        λ k. record { verdict = verdict (a k) v.list v.index; count = if_refused v.answer b out (length b) 0 n k },
        if_refused v.answer b out (written b out) out n,
      )

  pub write_refused : ((check_wanted entries list).answer ≡ TAKEN → ⊥) → Refuses entries list out (check_wanted entries list)
  write_refused h = refused (check_wanted entries list).answer h (answer_fault (check_wanted entries list).answer (bytes_for entries list) out h)

  module _ (t : (check_wanted entries list).answer ≡ TAKEN) where
    pub write_room : length out < length (bytes_for entries list) → Refuses entries list out (verdict ROOM ANCESTORS 0)
    write_room room =
        let e = taken_all entries list t in
        subst (λ v. Refuses entries list out (verdict ROOM v.list v.index)) e
        (refused ROOM (λ z. omega arith) (answer_room (check_wanted entries list).answer (bytes_for entries list) out t room))

    pub write_taken : length (bytes_for entries list) ≤ length out → WritesBook entries list out (bytes_for entries list)
    unfolding written_of_up_to written_output_up_to output_of
    write_taken room =
        let v = check_wanted entries list in
        let b = bytes_for entries list in
        let a = answer_taken v.answer b out t room in
        let e = taken_all entries list t in (
          λ k. record { verdict = verdict (a k) (e k).list (e k).index; count = if_taken_lem v.answer b out (length b) 0 a k },
          if_taken_lem v.answer b out (written b out) out a,
        )
