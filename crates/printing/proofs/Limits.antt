-- Why it holds: The program looks at the number of bytes first, and then at the book's own answer.
-- Only that answer depends on the limit of lists.
-- What would break it: A book opened before its bytes are counted, or a line printed before the
-- book's answer, would be caught here.
use mathlib.Core.Path.{◌≡◌}
use mathlib.Core.List.{List}
use Prim.Native.Nat.{ℕ, ◌≤◌, ◌<◌}
use lib.ListN.{length}
use borrow.Author.Tests.{lt-ltb, le-ltb}
use Rattle.answers.specs.Answer.{LONG, CONTENTS}
use Rattle.answers.specs.Verdict.{refusedb}
use Rattle.contents.specs.Contents.{lists_in}
use Rattle.books.proofs.Limits.{many_at, at_alike}
use Rattle.lines.specs.Line.{refusal_line}
use Rattle.printing.specs.Print.{MOST_BYTES, printed_answer_up_to, printed_up_to}

module _ (most : ℕ) (book : List ℕ) where
  pub prints_long : MOST_BYTES < length book → printed_up_to most book ≡ refusal_line LONG
  unfolding printed_up_to printed_answer_up_to
  prints_long h = rw (lt-ltb MOST_BYTES (length book) h)

  pub prints_contents : length book ≤ MOST_BYTES → most < lists_in book → printed_up_to most book ≡ refusal_line CONTENTS
  unfolding printed_up_to printed_answer_up_to refusedb
  prints_contents short h = rw (le-ltb MOST_BYTES (length book) short, many_at most book h 1)

pub prints_alike : (fewer more : ℕ) (book : List ℕ) → lists_in book ≤ fewer → lists_in book ≤ more → printed_up_to fewer book ≡ printed_up_to more book
unfolding printed_up_to printed_answer_up_to
prints_alike fewer more book h k = rw (at_alike fewer more book h k 1)
