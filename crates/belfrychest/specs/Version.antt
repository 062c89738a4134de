-- The number of the interface, which is that of the file VERSION and of the constant in
-- `src/version.rt`.
use Rattle.std.specs.Prelude.{ℕ}

abbrev pub VERSION : ℕ
VERSION = 6
