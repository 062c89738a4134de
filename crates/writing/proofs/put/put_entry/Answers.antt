-- Function: `put_entry` (src/put.rt).
-- Why it holds: Each of the three stores puts the number that comes next.
-- What would break it: A number stored one place off, or two of them exchanged, would be caught at
-- the return.
use mathlib.Core.Path.{◌≡◌}
use mathlib.Core.List.{List}
use Prim.Native.Nat.{ℕ, ◌+◌, ◌*◌, ◌≤◌}
use native.Mathlib.Omega.{arith}
use lib.Seq.{sets}
use Rattle.answers.specs.Output.{words_in}
use Rattle.numbers.specs.Little.{bytes_of, number_count, put_number}
use Rattle.contents.specs.declared.entry.Entry.{Entry}
use Rattle.contents.specs.Contents.{entry_numbers}
use Rattle.writing.proofs.Putting.{put_three}
use Rattle.writing.proofs.put.put_entry.Goals as goal

three : (bs : List ℕ) (at : ℕ) (e : Entry) (one two last : List ℕ) → at + 3 ≤ number_count bs → one ≡ put_number bs at e.tag
    → two ≡ put_number one (at + 1) e.offset → last ≡ put_number two (at + 2) e.count
    → last ≡ sets bs (4 * at) (words_in bytes_of (entry_numbers e))
three bs at e one two last h p q r = rw (r, q, p) (put_three bs at e h)

pub returns : goal.returns
returns c =
    three _ _ c.args.entry _ _ _ (omega arith)
    c.put_number.ensures c.put_number-2.ensures c.put_number-3.ensures
