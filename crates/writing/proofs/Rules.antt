-- Why it holds: If nothing is broken, the contents that a book will have keep the rules. Then there
-- are few lists, none too long, each after the last.
-- What would break it: A count that no rule bounds, or an offset that a number could not hold,
-- would be caught here.
use mathlib.Core.Path.{◌≡◌}
use mathlib.Core.Bool.{Bool, true, false, cond, not}
use mathlib.Core.List.{List, [], ◌∷◌, ◌++◌, flat_map}
use Prim.Native.Nat.{ℕ, ◌+◌, ◌*◌, ◌/◌, ◌≤◌, ◌<◌}
use native.Mathlib.Omega.{arith}
use lib.Dec.{ltb}
use lib.ListN.{length}
use borrow.Author.Tests.{ltb-false}
use Rattle.nodes.specs.declared.node.Node.{Node}
use Rattle.answers.specs.Answer.{TAKEN, CONTENTS}
use Rattle.laws.specs.Choose.{All, any}
use Rattle.nodes.specs.Words.{MOST_NODES}
use Rattle.answers.specs.Output.{words_in}
use Rattle.laws.proofs.Choices.{all_map, any_none}
use Rattle.laws.proofs.Tests.{or_none, not_none}
use Rattle.numbers.specs.Little.{NODE_BYTES}
use Rattle.contents.specs.declared.entry.Entry.{Entry}
use Rattle.contents.specs.Contents.{MOST_LISTS, entry_numbers, lists_in, contents_of, contents_end, ascendb, laidb, brokenb, contents_fault_up_to, contents_fault}
use Rattle.lists.proofs.Faults.{skip}
use Rattle.writing.specs.declared.wanted.Wanted.{Wanted}
use Rattle.writing.specs.Wanted.{WANTED_WORDS, wanted, laid_out, contents_for, size_for, wanted_fault_up_to, wanted_fault}
use Rattle.writing.proofs.WantedLaws.{length_wanted}

-- The rules that bound the numbers of a book.
pub record Rules (lists : ℕ) (es : List Entry) (size : ℕ) : Type 0 where
  pub few : lists ≤ MOST_LISTS
  pub short : All (λ e. e.count ≤ MOST_NODES) es
  pub laid : laidb (contents_end lists) es size ≡ true

rules : (lists : ℕ) (es : List Entry) (size : ℕ) → brokenb MOST_LISTS lists es size ≡ false → Rules lists es size
unfolding brokenb
rules lists es size h =
    let p = or_none (ltb MOST_LISTS lists) h in
    let q = or_none (any (λ e. ltb MOST_NODES e.count) es) p.1 in
    let r = or_none (not (ascendb es)) q.1 in
    record {
      few = ltb-false _ _ p.0;
      short = all_map (λ e k. ltb-false _ _ k) es (any_none (λ e. ltb MOST_NODES e.count) es q.0);
      laid = not_none _ r.1;
    }

-- If there is no fault, nothing is broken; CONTENTS is 15, the number after 14.
unbroken : (broken : Bool) → cond broken CONTENTS TAKEN ≡ TAKEN → broken ≡ false
unbroken broken h = ((skip broken 14 TAKEN).0 h).0

-- The rules of a book that is read, and of one that is to be written.
pub rules_read : (book : List ℕ) → contents_fault book ≡ TAKEN → Rules (lists_in book) (contents_of book) (length book)
unfolding contents_fault_up_to
rules_read book good = rules (lists_in book) (contents_of book) (length book) (unbroken _ good)

pub rules_written : (ws : List Wanted) (ns : List Node) → wanted_fault ws ns ≡ TAKEN → Rules (length ws) (contents_for ws) (size_for ws ns)
unfolding wanted_fault_up_to
rules_written ws ns good = rules (length ws) (contents_for ws) (size_for ws ns) (unbroken _ good)

-- So there are few lists, and their counts, which are those of the contents, are small.
counts_laid : (at : ℕ) (ws : List Wanted) → All (λ e. e.count ≤ MOST_NODES) (laid_out at ws) → All (λ w. w.count ≤ MOST_NODES) ws
unfolding laid_out
counts_laid at [] h = tt
counts_laid at (w ∷ ws) h = (h.0, counts_laid (at + NODE_BYTES * w.count) ws h.1)

pub wanted_short : (ws : List Wanted) (ns : List Node) → wanted_fault ws ns ≡ TAKEN → All (λ w. w.count ≤ MOST_NODES) ws
unfolding contents_for
wanted_short ws ns good = counts_laid (contents_end (length ws)) ws (rules_written ws ns good).short

pub wanted_few : (entries : List ℕ) (ns : List Node) → wanted_fault (wanted entries) ns ≡ TAKEN → length entries / WANTED_WORDS ≤ MOST_LISTS
wanted_few entries ns good = omega (arith, length_wanted entries, (rules_written (wanted entries) ns good).few)

-- A number that four bytes hold.
abbrev pub Small : ℕ → Type 0
Small n = n < 4294967296

-- The numbers of contents, and those after them, are small.
pub small_laid : (at : ℕ) (ws : List Wanted) (rest : List ℕ) → at + 65536 * length ws < 4294967296 → All (λ w. Small w.tag) ws
    → All (λ w. w.count ≤ MOST_NODES) ws → All Small rest → All Small (words_in entry_numbers (laid_out at ws) ++ rest)
unfolding words_in flat_map entry_numbers laid_out
small_laid at [] rest h t c r = r
small_laid at (w ∷ ws) rest h t c r =
    let m = c.0 in
    (t.0, (omega arith, (omega arith, small_laid (at + NODE_BYTES * w.count) ws rest (omega arith) t.1 c.1 r)))
