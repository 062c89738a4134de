-- Why it holds: A body that the contents name has sixteen bytes for each of its nodes, and not too
-- many of them. So its bytes are judged as its nodes are, and the first body that isn't accepted
-- decides on the book.
-- What would break it: A body checked out of turn, or one that reaches beyond the book, would be
-- caught here.
use mathlib.Core.Path.{◌≡◌, refl, sym, ap, ◌∙◌}
use mathlib.Core.Logic.{inl, inr}
use mathlib.Core.List.{List, [], ◌∷◌, map}
use Prim.Native.Nat.{ℕ, suc, ◌+◌, ◌*◌, ◌≤◌, ◌<◌}
use native.Mathlib.Numerals.{add-one}
use native.Mathlib.Omega.{arith}
use lib.Dec.{eqb}
use lib.ListN.{length, drop, length-drop}
use lib.Seq.{length-take-le}
use borrow.Author.Tests.{eqb-false}
use Rattle.nodes.specs.declared.node.Node.{Node}
use Rattle.answers.specs.Answer.{TAKEN}
use Rattle.nodes.specs.Words.{MOST_NODES}
use Rattle.laws.proofs.Tests.{either, never}
use Rattle.numbers.specs.Little.{NODE_BYTES}
use Rattle.numbers.specs.Part.{part_of}
use Rattle.contents.specs.declared.entry.Entry.{Entry}
use Rattle.contents.specs.Contents.{lists_in, entry_at, contents_of, contents_fault}
use Rattle.contents.proofs.ContentLaws.{entry_within}
use Rattle.std.specs.Prelude.{Result, Ok, Err}
use Rattle.std.specs.Result.{MatchResult, IsErrAnd}
use Rattle.answers.specs.declared.refusal.Fault.{Fault}
use Rattle.answers.specs.declared.verdict.Verdict.{Verdict}
use Rattle.answers.specs.Refusal.{fault, verdict_of, verdict_in}
use Rattle.answers.proofs.RefusalLaws.{never_taken}
use Rattle.lists.specs.Check.{check_nodes, check_bytes}
use Rattle.answers.specs.Verdict.{refusedb, in_list, taken}
use Rattle.answers.proofs.VerdictLaws.{refuses, accepts}
use Rattle.lists.proofs.InBytes.{whole_bytes}
use Rattle.books.specs.Book.{body_of, nodes_of, check_bodies, check_parts, book_verdict_up_to, book_verdict, check_book_up_to, check_book, opened_in}

-- The bodies left decide the whole, and the next body's verdict v is known: where it is taken, the
-- later bodies decide; where it isn't, it decides itself.
module _ (list : ℕ) (ns : List Node) (later : List (List Node)) (whole : Verdict) (l : check_bodies list (ns ∷ later) ≡ whole)
    (v : Verdict) (q : v ≡ check_nodes ns) where
  pub bodies_on : v.answer ≡ TAKEN → check_bodies (list + 1) later ≡ whole
  unfolding check_bodies
  bodies_on h = rw (add-one list) (rw (← q, accepts v h) at l)

  pub bodies_stop : (v.answer ≡ TAKEN → ⊥) → in_list list v ≡ whole
  unfolding check_bodies
  bodies_stop h = rw (← q, refuses v h) at l

-- What the check of one list answered, where its fault is then given the number `list`: the same,
-- naming that list.
abbrev pub Named : ℕ → Result (Unit {0}) Fault → Result (Unit {0}) Fault → Type 0
Named list checked named = MatchResult checked (λ x. named ≡ Ok x) (λ e. IsErrAnd named (λ f. f ≡ fault e.refusal list e.index))

pub passed_on : (list : ℕ) (checked named : Result (Unit {0}) Fault) → Named list checked named
    → (x : Unit {0}) → named ≡ Ok x → (verdict_in checked).answer ≡ TAKEN
passed_on list (Ok _) named h x q = refl
passed_on list (Err e) named h x q = absurd (rw q at h)

pub named_in : (list : ℕ) (checked named : Result (Unit {0}) Fault) → Named list checked named
    → (f : Fault) → named ≡ Err f → (verdict_of f ≡ in_list list (verdict_in checked)) × ((verdict_in checked).answer ≡ TAKEN → ⊥)
named_in list (Ok x) named h f q = absurd (never_taken f.refusal (ap (λ r. (verdict_in r).answer) (sym q ∙ h)))
named_in list (Err e) named h f q = (ap verdict_of (rw q at h), never_taken e.refusal)

pub bodies_end : (list : ℕ) (whole : Verdict) → check_bodies list [] ≡ whole → taken ≡ whole
unfolding check_bodies
bodies_end list whole l = l

-- A body within the book has all its bytes.
pub length_body : (book : List ℕ) (e : Entry) → e.offset + NODE_BYTES * e.count ≤ length book → length (body_of book e) ≡ NODE_BYTES * e.count
unfolding body_of part_of
length_body book e h = length-take-le (NODE_BYTES * e.count) (drop e.offset book) (omega (arith, length-drop e.offset book))

-- So its bytes are judged as its nodes are.
pub body_verdict : (book : List ℕ) (e : Entry) → e.count ≤ MOST_NODES → e.offset + NODE_BYTES * e.count ≤ length book
    → check_bytes (body_of book e) ≡ check_nodes (nodes_of book e)
unfolding nodes_of
body_verdict book e m h =
    let l = length_body book e h in
    whole_bytes (body_of book e) (omega arith) (omega arith)

-- The same for each body of a book whose contents keep the rules.
pub whole_body : (book : List ℕ) → contents_fault book ≡ TAKEN → (i : ℕ) → i < lists_in book
    → check_bytes (body_of book (entry_at book i)) ≡ check_nodes (nodes_of book (entry_at book i))
whole_body book good i h = let w = entry_within book good i h in body_verdict book (entry_at book i) w.0 w.1

-- Where the answer is TAKEN, the whole verdict is `taken`.
bodies_taken : (list : ℕ) (bodies : List (List Node)) → (check_bodies list bodies).answer ≡ TAKEN → check_bodies list bodies ≡ taken
unfolding check_bodies
bodies_taken list [] t = refl
bodies_taken list (ns ∷ later) t =
    elim (either (refusedb (check_nodes ns))) [
      | inl h ↦ absurd (never h (accepts (check_nodes ns) (rw h at t)))
      | inr h ↦ rw h (bodies_taken (suc list) later (rw h at t))
    ]

pub parts_taken : (fault : ℕ) (bodies : List (List Node)) → (check_parts fault bodies).answer ≡ TAKEN → check_parts fault bodies ≡ taken
unfolding check_parts
parts_taken fault bodies t =
    elim (either (eqb fault TAKEN)) [
      | inl h ↦ rw h (bodies_taken 0 bodies (rw h at t))
      | inr h ↦ absurd (eqb-false fault TAKEN h (rw h at t))
    ]

-- The verdict and the number of lists that an opened book carries.
module _ (book : List ℕ) where
  pub book_taken : (book_verdict book).answer ≡ TAKEN → book_verdict book ≡ taken
  unfolding book_verdict_up_to
  book_taken t = parts_taken (contents_fault book) (map (nodes_of book) (contents_of book)) t

  pub opened_verdict : (check_book book).verdict ≡ book_verdict book
  unfolding check_book_up_to
  opened_verdict = refl

  pub opened_lists : (book_verdict book).answer ≡ TAKEN → (check_book book).lists ≡ lists_in book
  unfolding check_book_up_to
  opened_lists h = rw (accepts (book_verdict book) h)

  -- What a caller knows who opened the book: it is taken, and has that number of lists,
  pub opened_ok : (lists : ℕ) → opened_in (Ok lists) ≡ check_book book → ((book_verdict book).answer ≡ TAKEN) × (lists ≡ lists_in book)
  opened_ok lists e =
      let t = sym (ap (λ o. o.verdict.answer) e ∙ ap (λ v. v.answer) opened_verdict) in
      (t, ap (λ o. o.lists) e ∙ opened_lists t)

  -- or it is refused, for the reason that the fault gives.
  pub opened_err : (f : Fault) → opened_in (Err f) ≡ check_book book
      → (verdict_of f ≡ book_verdict book) × ((book_verdict book).answer ≡ TAKEN → ⊥)
  opened_err f e =
      let v = ap (λ o. o.verdict) e ∙ opened_verdict in
      (v, λ t. never_taken f.refusal (ap (λ u. u.answer) v ∙ t))
