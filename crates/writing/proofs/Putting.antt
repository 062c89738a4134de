-- Why it holds: A number stored where the bytes to come begin is the first of them. So at every
-- turn what is still to be stored completes the whole.
-- What would break it: A number stored one place off, or a number left out, would be caught here.
use mathlib.Core.Path.{◌≡◌, refl, ◌∙◌}
use mathlib.Core.List.{List, [], ◌∷◌, ◌++◌, flat_map}
use Prim.Native.Nat.{ℕ, ◌+◌, ◌*◌, ◌≤◌, ◌<◌}
use native.Mathlib.Omega.{arith}
use lib.ListN.{length}
use lib.Seq.{sets, length-sets}
use borrow.Author.Tests.{lt-ltb}
use Rattle.answers.specs.Output.{words_in}
use Rattle.numbers.specs.Little.{NODE_BYTES, bytes_of, number_count, put_number}
use Rattle.numbers.proofs.LittleLaws.{length_bytes}
use Rattle.contents.specs.declared.entry.Entry.{Entry}
use Rattle.contents.specs.Contents.{entry, entry_numbers, contents_end}
use Rattle.answers.proofs.OutputLaws.{sets_more}
use Rattle.writing.specs.declared.wanted.Wanted.{Wanted}
use Rattle.writing.specs.Wanted.{laid_out, contents_for}
use Rattle.writing.proofs.BodyOffsets.{length_contents}

-- A number stored, and then the bytes after it.
pub put_on : (bs : List ℕ) (i n next : ℕ) (rest : List ℕ) → i < number_count bs → next ≡ 4 * i + 4
    → sets (put_number bs i n) next rest ≡ sets bs (4 * i) (bytes_of n ++ rest)
unfolding put_number bytes_of
put_on bs i n next rest h q = rw (lt-ltb i (number_count bs) h) (sets_more (bytes_of n) rest bs (4 * i) next q)

pub length_put : (bs : List ℕ) (i n : ℕ) → i < number_count bs → length (put_number bs i n) ≡ length bs
unfolding put_number
length_put bs i n h = rw (lt-ltb i (number_count bs) h) (length-sets bs (4 * i) (bytes_of n))

-- The three numbers of an entry, stored one by one.
pub put_three : (bs : List ℕ) (at : ℕ) (e : Entry) → at + 3 ≤ number_count bs
    → put_number (put_number (put_number bs at e.tag) (at + 1) e.offset) (at + 2) e.count ≡ sets bs (4 * at) (words_in bytes_of (entry_numbers e))
unfolding words_in flat_map entry_numbers
put_three bs at e h =
    let one = put_number bs at e.tag in
    let two = put_number one (at + 1) e.offset in
    let l = length_put bs at e.tag (omega arith) in
    let m = length_put one (at + 1) e.offset (omega arith) in
    let first : 4 * (at + 1) ≡ 4 * at + 4 = omega arith in
    let second : 4 * (at + 2) ≡ 4 * (at + 1) + 4 = omega arith in
    put_on two (at + 2) e.count (4 * (at + 2) + 4) [] (omega arith) refl
    ∙ put_on one (at + 1) e.offset (4 * (at + 2)) (bytes_of e.count ++ []) (omega arith) second
    ∙ put_on bs at e.tag (4 * (at + 1)) (bytes_of e.offset ++ (bytes_of e.count ++ [])) (omega arith) first

-- The bytes of contents whose first body starts at a place.
abbrev pub laid_bytes : ℕ → List Wanted → List ℕ
laid_bytes at ws = words_in bytes_of (words_in entry_numbers (laid_out at ws))

-- The entry of a list stored, and then those after it.
pub laid_on : (bs : List ℕ) (at next end : ℕ) (w : Wanted) (ws : List Wanted) → next ≡ at + 12
    → sets (sets bs at (words_in bytes_of (entry_numbers (entry w.tag end w.count)))) next (laid_bytes (end + NODE_BYTES * w.count) ws)
    ≡ sets bs at (laid_bytes end (w ∷ ws))
unfolding words_in flat_map entry_numbers laid_out bytes_of
laid_on bs at next end w ws q =
    sets_more (words_in bytes_of (entry_numbers (entry w.tag end w.count))) (laid_bytes (end + NODE_BYTES * w.count) ws) bs at next q

-- The number of lists and their contents are as many bytes as the contents have.
pub length_front : (ws : List Wanted) → length (words_in bytes_of (length ws ∷ words_in entry_numbers (contents_for ws))) ≡ contents_end (length ws)
unfolding contents_end
length_front ws = length_bytes (length ws ∷ words_in entry_numbers (contents_for ws)) ∙ (let l = length_contents ws in omega arith)
