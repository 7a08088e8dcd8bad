-- Going over the words of a text that begin before a place.
-- Assumes nothing.
use mathlib.Core.Path.{◌≡◌, refl, ap}
use mathlib.Core.Bool.{Bool, true, false, cond}
use mathlib.Core.List.{List, [], ◌∷◌}
use Prim.Native.Nat.{ℕ, zero, suc, ◌≤◌, ◌<◌}
use native.Mathlib.Omega.{arith}
use lib.Dec.{ltb}
use lib.ListN.{length}
use borrow.Author.Tests.{lt-ltb, le-ltb, ltb-true, ltb-false}
use Rattle.parser.specs.declared.words.Token.{Token}
use Rattle.parser.specs.Words.{token_at}
use Rattle.outline.specs.declared.scan.Scan.{Scan}
use Rattle.outline.specs.Scanning.{words_from, step, scanned}

-- the words of a list up to the first that begins at a place or later
pub before : ℕ → List Token → List Token
before stop [] = []
before stop (t ∷ ts) = cond (ltb t.from stop) (t ∷ before stop ts) []

pub before_is : (n : ℕ) (text : List ℕ) (stop at : ℕ) → stop ≤ length text → before stop (words_from n text (length text) at) ≡ words_from n text stop at
unfolding words_from before
before_is zero text stop at h = refl
before_is (suc n) text stop at h = go (ltb (token_at text at).from (length text)) (ltb (token_at text at).from stop) refl refl (before_is n text stop (token_at text at).next h)
  where
    t : Token
    t = token_at text at

    go : (a b : Bool) → ltb t.from (length text) ≡ a → ltb t.from stop ≡ b
        → before stop (words_from n text (length text) t.next) ≡ words_from n text stop t.next
        → before stop (cond a (t ∷ words_from n text (length text) t.next) []) ≡ cond b (t ∷ words_from n text stop t.next) []
    go true true e f r = rw f (ap (λ (l : List Token). t ∷ l) r)
    go true false e f r = rw f
    go false true e f r = absurd (omega (arith, ltb-true t.from stop f, ltb-false t.from (length text) e))
    go false false e f r = refl

-- a scan over them
module _ (stop : ℕ) (s : Scan) (left : List Token) where
  pub scan_none : left ≡ [] → scanned s (before stop left) ≡ s
  unfolding before scanned
  scan_none e = rw e

  module _ (t : Token) (others : List Token) (is : left ≡ t ∷ others) where
    pub scan_stop : stop ≤ t.from → scanned s (before stop left) ≡ s
    unfolding before scanned
    scan_stop h = rw (is, le-ltb t.from stop h)

    pub scan_more : t.from < stop → scanned s (before stop left) ≡ scanned (step s t) (before stop others)
    unfolding before scanned
    scan_more h = rw (is, lt-ltb t.from stop h)
