-- Looking ahead in a text for a byte that fails a test.
-- Assumes nothing.
use mathlib.Core.Path.{◌≡◌, sym, ap, ◌∙◌}
use mathlib.Core.Bool.{Bool, true, false, cond}
use mathlib.Core.List.{List, [], ◌∷◌}
use Prim.Native.Nat.{ℕ, suc, ◌+◌, ◌<◌, ◌≤◌}
use native.Mathlib.Numerals.{add-one}
use native.Mathlib.Omega.{arith}
use lib.ListN.{length, drop, get_or, drop_of_length-le, length-drop}
use lib.Seq.{drop-cons}
use Rattle.parser.specs.Words.{ahead, past}

module _ (test : ℕ → Bool) (text : List ℕ) (at i : ℕ) (so_far : past test text i ≡ past test text at) where
  -- the search ends at a byte that fails, or at the text's end
  pub found : i < length text → test (get_or text i 0) ≡ false → i ≡ past test text at
  unfolding ahead
  found b e = sym (sym so_far ∙ ap (λ (l : List ℕ). i + ahead test l) (drop-cons text i 0 b) ∙ rw e (omega arith))

  pub ended : length text ≤ i → i ≡ past test text at
  unfolding ahead
  ended b = sym (sym so_far ∙ ap (λ (l : List ℕ). i + ahead test l) (drop_of_length-le text b) ∙ omega arith)

  -- or goes on
  pub passed : i < length text → test (get_or text i 0) ≡ true → past test text (i + 1) ≡ past test text at
  unfolding ahead
  passed b e = sym (sym so_far ∙ ap (λ (l : List ℕ). i + ahead test l) (drop-cons text i 0 b) ∙ rw (e, add-one i) (omega arith))

-- it ends at or after where it began, and in the text where it began there
pub not_before : (test : ℕ → Bool) (text : List ℕ) (at : ℕ) → at ≤ past test text at
not_before test text at = omega arith

short : (test : ℕ → Bool) (l : List ℕ) → ahead test l ≤ length l
unfolding ahead
short test [] = omega arith
short test (b ∷ bs) = go (test b) (short test bs)
  where
    go : (t : Bool) → ahead test bs ≤ length bs → cond t (suc (ahead test bs)) 0 ≤ suc (length bs)
    go true h = omega arith
    go false h = omega arith

pub not-past_end : (test : ℕ → Bool) (text : List ℕ) (at : ℕ) → at ≤ length text → past test text at ≤ length text
not-past_end test text at h = let s = short test (drop at text) in let e = length-drop at text in omega arith
