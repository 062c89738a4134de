-- docs/SCOPE.md, "The field book": the rules of the contents, list by list, as the step along them
-- answers.
use Rattle.std.specs.Prelude.{ℕ, ◌+◌, ◌*◌, Bool, true, cond, ◌&&◌, ltb, leb, eqb, Option, None, Some, Result, Ok, Err}
use Rattle.answers.specs.declared.refusal.Refusal.{Refusal}
use Rattle.answers.specs.declared.refusal.Refusal.TheVariants.{Contents}
use Rattle.answers.specs.Answer.{TAKEN, CONTENTS}
use Rattle.answers.specs.Refusal.{number_of}
use Rattle.nodes.specs.Words.{MOST_NODES}
use Rattle.numbers.specs.Little.{NODE_BYTES}
use Rattle.contents.specs.declared.entry.Entry.{Entry}
use Rattle.contents.specs.declared.step.ContentsPlace.{ContentsPlace}
use Rattle.contents.specs.Contents.{contents_end}

-- A place of the walk: the tag of the list that was passed last, if any, and where its body ended.
abbrev pub contents_place : Option ℕ → ℕ → ContentsPlace
contents_place tag end = record { tag = tag; end = end }

-- The place before the first of `lists` lists: the first body starts right after the contents.
unfoldable pub start_of : ℕ → ContentsPlace
start_of lists = contents_place None (contents_end lists)

-- A tag is above that of the list that was passed last, if any.
abbrev pub aboveb : Option ℕ → ℕ → Bool
aboveb None tag = true
aboveb (Some last) tag = ltb last tag

-- The next list keeps the rules: its body starts where the last ended, it isn't too long, and its
-- tag is above the last one's.
unfoldable pub passesb : ContentsPlace → Entry → Bool
passesb p e = eqb e.offset p.end && (leb e.count MOST_NODES && aboveb p.tag e.tag)

-- The place after the next list.
unfoldable pub after_entry : ContentsPlace → Entry → ContentsPlace
after_entry p e = contents_place (Some e.tag) (p.end + NODE_BYTES * e.count)

-- What the step answers: the place after the next list, or the refusal CONTENTS.
unfoldable pub step_of : ContentsPlace → Entry → Result ContentsPlace Refusal
step_of p e = cond (passesb p e) (Ok (after_entry p e)) (Err Contents)

-- The answer number of a walk whose last step this is, for a book of `size` bytes. A place reached
-- is TAKEN where the last body ends with the book, and CONTENTS where it doesn't. A refusal has its
-- own number.
abbrev pub step_answer : Result ContentsPlace Refusal → ℕ → ℕ
step_answer (Ok last) size = cond (eqb last.end size) TAKEN CONTENTS
step_answer (Err refusal) size = number_of refusal
