-- Document 01: N, of a task table and of a ring, is 1 to 64.
use Rattle.std.specs.Prelude.{Bool, ◌&&◌, ℕ, leb}

abbrev pub MOST : ℕ
MOST = 64

abbrev pub listed : ℕ → Bool
listed n = leb 1 n && leb n MOST
