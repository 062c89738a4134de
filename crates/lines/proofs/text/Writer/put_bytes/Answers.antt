-- Function: `put_bytes` (src/text.rt).
-- Why it holds: The bytes are copied over the part of the text that begins at the place and is as
-- long as they are.
-- What would break it: A part that begins one place off, or a place not after it, would be caught
-- at the return.
use mathlib.Core.Path.{◌≡◌, refl, sym, ap, ◌∙◌}
use mathlib.Core.List.{List, append_assoc}
use Prim.Native.Nat.{ℕ, ◌+◌, ◌≤◌}
use native.Mathlib.Omega.{arith}
use lib.ListN.{length, take}
use lib.Seq.{sets, sets-eq, length-sets, drop-drop}
use borrow.Rule.Slice.PartMut.{put_mid}
use Rattle.lines.proofs.text.Writer.put_bytes.Goals as goal

copied : (text : List ℕ) (at k : ℕ) (ys bytes : List ℕ) → ys ≡ bytes → k ≡ length bytes → at + length bytes ≤ length text
    → put_mid at k text ys ≡ sets text at bytes
copied text at k ys bytes e q h =
    rw (e, q, sets-eq bytes text at h, drop-drop (length bytes) at text) (sym (append_assoc (take at text) bytes _))

pub returns : goal.returns
returns c =
    let a = c.args in
    let shows = copied a.self.now.text.now a.self.now.at _ _ a.bytes.now c.copy_from_slice.ensures.after (omega arith) (omega arith) in
    record {
      same = refl;
      long = ap length shows ∙ length-sets a.self.now.text.now a.self.now.at a.bytes.now;
      next = refl;
      shows = shows;
    }
