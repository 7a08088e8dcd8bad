-- A term written into a table.
-- Assumes nothing.
use Rattle.std.specs.Prelude.{cond, List, ℕ, ◌+◌, ◌*◌, leb, length, set}
use Rattle.table.specs.declared.words.Term.{Term}
use Rattle.table.specs.Terms.{words}

-- term k written into a table that has room for it
unfoldable pub placed : List ℕ → ℕ → Term → List ℕ
placed t k x =
    cond (leb (k * words + words) (length t))
    (set (set (set (set (set (set t (k * words) x.op) (k * words + 1) x.sort.m) (k * words + 2) x.sort.n) (k * words + 3) x.p) (k * words + 4) x.q) (k * words + 5) x.r)
    t
