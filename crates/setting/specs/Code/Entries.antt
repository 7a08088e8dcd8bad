-- The entries of a table's array slots, as the check of the cells keeps them.
-- Assumes nothing.
use Rattle.std.specs.Prelude.{◌≡◌, List, ℕ, ◌<◌, length, get_or}
use Rattle.setting.specs.Arrays.{array_entry}

-- the entries of the first k terms, by slot
pub record Entries (w : List ℕ) (k : ℕ) (entries : List ℕ) : Type 0 where
  pub size : length entries ≡ 256
  pub is : (slot : ℕ) → slot < 256 → get_or entries slot 0 ≡ array_entry w k slot
