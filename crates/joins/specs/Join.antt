-- Two lists of a book by their tags, as words. The answer is ABSENT if one isn't there.
use Rattle.std.specs.Prelude.{ℕ, Bool, cond, ◌&&◌, List, Result, Ok, Err, leb, eqb, length}
use Rattle.answers.specs.declared.refusal.Refusal.{Refusal}
use Rattle.answers.specs.declared.refusal.Refusal.TheVariants.{Absent, Room}
use Rattle.answers.specs.Answer.{TAKEN, ROOM, ABSENT}
use Rattle.answers.specs.Output.{written}
use Rattle.numbers.specs.Little.{numbers}
use Rattle.books.specs.Find.{has_tag, tag_body}
use Rattle.joins.specs.declared.copy.Lengths.{Lengths}

-- The words of a tag's list.
unfoldable pub tag_words : List ℕ → ℕ → ℕ → List ℕ
tag_words book lists tag = numbers (tag_body book lists tag)

-- How many words each of two copied lists has.
abbrev pub lengths : ℕ → ℕ → Lengths
lengths ancestors descendants = record { ancestors = ancestors; descendants = descendants }

-- A call that is refused, with the reason.
abbrev pub refused : Refusal → Result Lengths Refusal
refused refusal = Err refusal

-- How many words of the ancestors, and of the descendants, a call copied that returns these
-- lengths, or a refusal.
abbrev pub ancestors_in : Result Lengths Refusal → ℕ
ancestors_in (Ok l) = l.ancestors
ancestors_in (Err _) = 0

abbrev pub descendants_in : Result Lengths Refusal → ℕ
descendants_in (Ok l) = l.descendants
descendants_in (Err _) = 0

-- Both tags are there, in a book that was opened before and has `lists` lists.
unfoldable pub thereb : List ℕ → ℕ → ℕ → ℕ → Bool
thereb book lists ancestors descendants = has_tag book lists ancestors && has_tag book lists descendants

-- Copying the lists under two tags of such a book into the words lent for each list.
module _ (book : List ℕ) (lists ancestors descendants : ℕ) (first second : List ℕ) where
  -- Neither list has more words than were lent for it.
  unfoldable pub fitb : Bool
  fitb = leb (length (tag_words book lists ancestors)) (length first) && leb (length (tag_words book lists descendants)) (length second)

  -- The answer is ABSENT, then ROOM, or else TAKEN.
  unfoldable pub copy_answer : ℕ
  copy_answer = cond (thereb book lists ancestors descendants) (cond fitb TAKEN ROOM) ABSENT

  -- How many words each list has, or the refusal with that answer's number.
  unfoldable pub lengths_of : Result Lengths Refusal
  lengths_of =
      cond (thereb book lists ancestors descendants)
      (cond fitb (Ok (lengths (length (tag_words book lists ancestors)) (length (tag_words book lists descendants)))) (refused Room))
      (refused Absent)

  -- The words lent for the ancestors on return: they begin with the list's words; on refusal they
  -- are as they were.
  unfoldable pub first_after : List ℕ
  first_after = cond (eqb copy_answer TAKEN) (written (tag_words book lists ancestors) first) first

  -- The words lent for the descendants on return.
  unfoldable pub second_after : List ℕ
  second_after = cond (eqb copy_answer TAKEN) (written (tag_words book lists descendants) second) second
