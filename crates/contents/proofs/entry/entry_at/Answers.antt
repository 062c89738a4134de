-- Function: `entry_at` (src/entry.rt).
-- Why it holds: After the book's first number each entry takes three numbers, so those that start
-- at `1 + 3 * index` are the entry's. From the number of entries on, the definition gives zeros.
-- What would break it: A number one off, or two exchanged, would be caught at the last return.
use mathlib.Core.Path.{◌≡◌, sym, ◌∙◌}
use mathlib.Core.List.{List}
use Prim.Native.Nat.{ℕ, ◌+◌, ◌*◌, ◌<◌}
use native.Mathlib.Omega.{arith}
use Rattle.numbers.specs.Little.{number_at}
use Rattle.contents.specs.declared.entry.Entry.{Entry}
use Rattle.contents.specs.Contents.{entry, entry_count, entry_at}
use Rattle.contents.proofs.ContentLaws.{entry_there, entry_beyond}
use Rattle.contents.proofs.entry.entry_at.Goals as goal

three : (book : List ℕ) (i t o c : ℕ) → i < entry_count book
    → t ≡ number_at book (1 + 3 * i) → o ≡ number_at book (1 + 3 * i + 1) → c ≡ number_at book (1 + 3 * i + 2) → entry t o c ≡ entry_at book i
three book i t o c h p q r = (λ k. entry (p k) (q k) (r k)) ∙ sym (entry_there book i h)

zeros : (e : Entry) → (e.tag ≡ 0) × ((e.offset ≡ 0) × (e.count ≡ 0)) → e ≡ entry 0 0 0
zeros e h = λ k. entry (h.0 k) (h.1.0 k) (h.1.1 k)

pub returns-then-entry_count-index : goal.returns-then-entry_count-index
returns-then-entry_count-index c = zeros c.default.result c.default.ensures ∙ sym (entry_beyond _ _ (omega arith))

pub returns : goal.returns
returns c =
    three _ _ _ _ _ (omega arith) c.number_at.ensures c.number_at-2.ensures c.number_at-3.ensures
