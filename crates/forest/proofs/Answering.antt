-- Why it holds: The check of one list names the ancestors and carries index 0 when the list is
-- taken. The call's answer follows from the list's fault and the room.
-- What would break it: A refusal that counted nodes, or room compared with anything but the result,
-- would be caught here.
use mathlib.Core.Path.{◌≡◌, sym, ap, ◌∙◌}
use mathlib.Core.List.{List}
use Prim.Native.Nat.{ℕ, ◌/◌, ◌≤◌, ◌<◌}
use native.Mathlib.Omega.{arith}
use lib.ListN.{length}
use Rattle.answers.specs.Answer.{TAKEN, ROOM}
use Rattle.nodes.specs.Words.{nodes, count}
use Rattle.answers.specs.Output.{written, answer_of, output_of}
use Rattle.nodes.proofs.WordLaws.{length_nodes}
use Rattle.answers.proofs.OutputLaws.{answer_fault, answer_room, answer_taken, if_taken_lem, if_refused}
use Rattle.answers.specs.declared.verdict.Verdict.{Verdict}
use Rattle.lists.specs.Check.{check_words}
use Rattle.answers.specs.Verdict.{ANCESTORS, verdict, taken, counted}
use Rattle.lists.proofs.Naming.{single}
use Rattle.answers.specs.declared.verdict.Counted.{Counted}
use Rattle.forest.specs.Linked.{links_in, linked_of, links_output}
use Rattle.forest.proofs.LinkLaws.{links_length}

module _ (list out : List ℕ) (v : Verdict) (q : v ≡ check_words list) where
  -- What a call answers and leaves: a faulty list's verdict, ROOM, or the links.
  abbrev Answers : Counted → List ℕ → Type 0
  Answers r after = record { answer : r ≡ linked_of list out; output : after ≡ links_output list out }

  pub refused : (v.answer ≡ TAKEN → ⊥) → Answers (counted v 0) out
  unfolding linked_of links_output output_of
  refused h =
      let c = check_words list in
      let f : c.answer ≡ TAKEN → ⊥ = λ z. h (ap (λ w. w.answer) q ∙ z) in
      let a = answer_fault c.answer (links_in list) out f in
      let n : answer_of c.answer (links_in list) out ≡ TAKEN → ⊥ = λ z. f (sym a ∙ z) in
      let k = if_refused c.answer (links_in list) out (length (nodes list)) 0 n in record {
        answer = ap (λ w. counted w 0) q ∙ λ t. counted (verdict (sym a t) ((single list).0 t) c.index) (sym k t);
        output = sym (if_refused c.answer (links_in list) out (written (links_in list) out) out n);
      }

  module _ (h : v.answer ≡ TAKEN) where
    fault_none : (check_words list).answer ≡ TAKEN
    fault_none = sym (ap (λ w. w.answer) q) ∙ h

    pub no_room : (r : Counted) → length out / 3 < count list → r ≡ counted (verdict ROOM ANCESTORS 0) 0 → Answers r out
    unfolding linked_of links_output output_of
    no_room r l e =
        let c = check_words list in
        let a = answer_room c.answer (links_in list) out fault_none (omega (arith, links_length list)) in
        let n : answer_of c.answer (links_in list) out ≡ TAKEN → ⊥ = λ z. omega (arith, sym a ∙ z) in
        let k = if_refused c.answer (links_in list) out (length (nodes list)) 0 n in record {
          answer = e ∙ λ t. counted (verdict (sym a t) ANCESTORS (sym ((single list).1 fault_none) t)) (sym k t);
          output = sym (if_refused c.answer (links_in list) out (written (links_in list) out) out n);
        }

    pub all_linked : count list ≤ length out / 3 → (n : ℕ) → n ≡ count list → (s : Counted) → s ≡ counted taken n → (after : List ℕ)
        → after ≡ written (links_in list) out → Answers s after
    unfolding linked_of links_output output_of
    all_linked l n r s e after w =
        let c = check_words list in
        let a = answer_taken c.answer (links_in list) out fault_none (omega (arith, links_length list)) in
        let k = if_taken_lem c.answer (links_in list) out (length (nodes list)) 0 a in record {
          answer = e ∙ λ t. counted (verdict (sym a t) ANCESTORS (sym ((single list).1 fault_none) t)) ((r ∙ sym (k ∙ length_nodes list)) t);
          output = w ∙ sym (if_taken_lem c.answer (links_in list) out (written (links_in list) out) out a);
        }
