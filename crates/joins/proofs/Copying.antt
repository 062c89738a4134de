-- Why it holds: The answer is ABSENT unless both tags are there, and then ROOM unless both lists
-- fit. If they do, all their numbers are copied.
-- What would break it: A list that is cut short, or words that a refusal leaves changed, would be
-- caught here.
use mathlib.Core.Path.{◌≡◌, refl, sym, ap, ◌∙◌}
use mathlib.Core.Bool.{true, false}
use mathlib.Core.List.{List}
use Prim.Native.Nat.{ℕ, ◌≤◌, ◌<◌}
use native.Mathlib.Omega.{arith}
use lib.ListN.{length}
use borrow.Author.Tests.{ne_eqb, le-leb, lt-leb}
use Rattle.answers.specs.Answer.{TAKEN}
use Rattle.answers.specs.Output.{written}
use Rattle.numbers.specs.Little.{numbers, number_count}
use Rattle.numbers.specs.Part.{copied}
use Rattle.numbers.proofs.LittleLaws.{length_numbers, copied_whole}
use Rattle.std.specs.Prelude.{Result, Ok}
use Rattle.answers.specs.declared.refusal.Refusal.{Refusal}
use Rattle.answers.specs.declared.refusal.Refusal.TheVariants.{Absent, Room}
use Rattle.answers.specs.Refusal.{number_of, answer_in}
use Rattle.answers.proofs.RefusalLaws.{never_taken}
use Rattle.joins.proofs.Joined.{copy_answered}
use Rattle.books.specs.Find.{has_tag, tag_body}
use Rattle.joins.specs.declared.copy.Lengths.{Lengths}
use Rattle.joins.specs.Join.{tag_words, lengths, refused, thereb, fitb, copy_answer, lengths_of, first_after, second_after}

-- A tag's list has as many words as its body has numbers.
tag_length : (book : List ℕ) (lists tag : ℕ) (body : List ℕ) → body ≡ tag_body book lists tag → number_count body ≡ length (tag_words book lists tag)
unfolding tag_words
tag_length book lists tag body e = sym (length_numbers body) ∙ ap (λ b. length (numbers b)) e

tag_copied : (book : List ℕ) (lists tag : ℕ) (body words : List ℕ) → body ≡ tag_body book lists tag → number_count body ≤ length words
    → copied body words ≡ written (tag_words book lists tag) words
unfolding tag_words
tag_copied book lists tag body words e h = copied_whole body words h ∙ ap (λ b. written (numbers b) words) e

module _ (book : List ℕ) (lists ancestors descendants : ℕ) (first second : List ℕ) where
  -- What is returned, and the words on return, are as defined.
  abbrev pub Answered : Result Lengths Refusal → List ℕ → List ℕ → Type 0
  Answered r f s = record {
    answer : r ≡ lengths_of book lists ancestors descendants first second;
    first_output : f ≡ first_after book lists ancestors descendants first second;
    second_output : s ≡ second_after book lists ancestors descendants first second;
  }

  refuses : (r : Refusal) → lengths_of book lists ancestors descendants first second ≡ refused r → Answered (refused r) first second
  unfolding first_after second_after
  refuses r e =
      let q = ap answer_in e in
      rw (sym (copy_answered book lists ancestors descendants first second), q, ne_eqb (number_of r) TAKEN (never_taken r))
      (record { answer = sym e; first_output = refl; second_output = refl })

  -- One of the tags isn't there.
  pub absent_first : has_tag book lists ancestors ≡ false → Answered (refused Absent) first second
  unfolding lengths_of thereb
  absent_first h = refuses Absent (rw h refl)

  module _ (one : has_tag book lists ancestors ≡ true) where
    pub absent_second : has_tag book lists descendants ≡ false → Answered (refused Absent) first second
    unfolding lengths_of thereb
    absent_second h = refuses Absent (rw (one, h) refl)

    module _ (two : has_tag book lists descendants ≡ true) (a d : List ℕ) (p : a ≡ tag_body book lists ancestors) (q : d ≡ tag_body book lists descendants) where
      -- One of the lists doesn't fit.
      pub full_first : length first < number_count a → Answered (refused Room) first second
      unfolding lengths_of thereb fitb
      full_first h =
          let l = tag_length book lists ancestors a p in
          refuses Room (rw (one, two, lt-leb (length (tag_words book lists ancestors)) (length first) (omega arith)) refl)

      module _ (f : number_count a ≤ length first) where
        pub full_second : length second < number_count d → Answered (refused Room) first second
        unfolding lengths_of thereb fitb
        full_second h =
            let l = tag_length book lists ancestors a p in
            let m = tag_length book lists descendants d q in
            refuses Room (rw (
              one,
              two,
              le-leb (length (tag_words book lists ancestors)) (length first) (omega arith),
              lt-leb (length (tag_words book lists descendants)) (length second) (omega arith),
            ) refl)

        -- Both lists fit.
        pub copies : number_count d ≤ length second
            → Answered (Ok (lengths (number_count a) (number_count d))) (copied a first) (copied d second)
        unfolding lengths_of first_after second_after copy_answer thereb fitb
        copies s =
            let l = tag_length book lists ancestors a p in
            let m = tag_length book lists descendants d q in
            rw (
              one,
              two,
              le-leb (length (tag_words book lists ancestors)) (length first) (omega arith),
              le-leb (length (tag_words book lists descendants)) (length second) (omega arith),
            )
            (record {
              answer = λ i. Ok (lengths (l i) (m i));
              first_output = tag_copied book lists ancestors a first p f;
              second_output = tag_copied book lists descendants d second q s;
            })
