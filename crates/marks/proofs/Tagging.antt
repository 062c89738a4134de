-- Why it holds: Every row of a table starts at one of its marks, so the tags stay within the closes
-- put before. The output holds the marks, and after them what it held.
-- What would break it: A tag put before the first mark, or after the last, would be caught here.
use mathlib.Core.Path.{◌≡◌, refl, sym, ap, ◌∙◌}
use mathlib.Core.Logic.{inl, inr}
use mathlib.Core.Bool.{true}
use mathlib.Core.List.{List, [], ◌∷◌, ◌++◌}
use Prim.Native.Nat.{ℕ, zero, suc, ◌+◌, ◌-◌, ◌≤◌, ◌<◌}
use native.Mathlib.Nat.{not-suc-le-zero, le_of_suc-le-suc}
use native.Mathlib.Omega.{arith}
use lib.ListN.{length, drop, set, replicate, length-set, length-replicate}
use lib.Seq.{set-append_left}
use Rattle.laws.specs.Choose.{All}
use Rattle.answers.specs.Output.{written}
use Rattle.laws.proofs.Tests.{either}
use Rattle.marks.specs.declared.row.Row.{Row}
use Rattle.marks.specs.Back.{Numbering, tagged, marks_of, numberedb}
use Rattle.marks.specs.Mark.{CLOSE, closeb, open_after}
use Rattle.marks.specs.Table.{rows_from, table_of, row_in}
use Rattle.marks.proofs.Inverse.{tell_last, numbered_read}

-- A row starts at one of the first `count` marks.
abbrev pub Within : ℕ → Row → Type 0
Within count r = (0 < r.node.start) × (r.node.start ≤ count)

pub within_at : (count : ℕ) (rs : List Row) (i : ℕ) → All (Within count) rs → i < length rs → Within count (row_in rs i)
unfolding row_in
within_at count [] i a h = absurd (not-suc-le-zero h)
within_at count (r ∷ rs) zero a h = a.0
within_at count (r ∷ rs) (suc i) a h = within_at count rs i a.1 (le_of_suc-le-suc h)

pub length_tagged : (rs : List Row) (marks : List ℕ) → length (tagged rs marks) ≡ length marks
unfolding tagged
length_tagged [] marks = refl
length_tagged (r ∷ rs) marks = length_tagged rs (set marks (r.node.start - 1) r.tag) ∙ length-set marks (r.node.start - 1) r.tag

-- Tags put into an output that begins with marks change those marks only.
tagged_front : (rs : List Row) (count : ℕ) (marks rest : List ℕ) → length marks ≡ count → All (Within count) rs
    → tagged rs (marks ++ rest) ≡ tagged rs marks ++ rest
unfolding tagged
tagged_front [] count marks rest l a = refl
tagged_front (r ∷ rs) count marks rest l a =
    let s = a.0 in
    ap (tagged rs) (set-append_left marks rest (r.node.start - 1) r.tag (omega (arith, s.0, s.1)))
    ∙ tagged_front rs count (set marks (r.node.start - 1) r.tag) rest (length-set marks (r.node.start - 1) r.tag ∙ l) a.1

-- The rows of marks start at them.
starts_in : (document position depth last : ℕ) (marks : List ℕ) → 0 < position → position + length marks ≤ last + 1
    → All (Within last) (rows_from document position depth marks)
unfolding rows_from
starts_in document position depth last [] p h = tt
starts_in document position depth last (mark ∷ marks) p h =
    let on = starts_in document (position + 1) (open_after depth mark) last marks (omega arith) (omega arith) in
    elim (either (closeb mark)) [ inl c ↦ rw c on | inr c ↦ rw c ((p, omega arith), on) ]

all_within : (rs : List Row) (n : Numbering rs) → All (Within (row_in rs 0).node.end) rs
unfolding table_of
all_within rs n = rw (tell_last rs n, ← n.table) (starts_in n.document 1 0 (length n.marks) n.marks (omega arith) (omega arith))

module _ (rs : List Row) (h : numberedb rs ≡ true) where
  pub table_within : All (Within (row_in rs 0).node.end) rs
  table_within = all_within rs (numbered_read rs h)

  -- So putting closes and then tags puts the marks.
  pub puts_marks : (out : List ℕ) → tagged rs (written (replicate (row_in rs 0).node.end CLOSE) out) ≡ written (marks_of rs) out
  unfolding written marks_of
  puts_marks out =
      let marks = replicate (row_in rs 0).node.end CLOSE in
      tagged_front rs (row_in rs 0).node.end marks (drop (length marks) out) (length-replicate (row_in rs 0).node.end CLOSE) table_within
      ∙ ap (λ k. tagged rs marks ++ drop k out) (sym (length_tagged rs marks))
