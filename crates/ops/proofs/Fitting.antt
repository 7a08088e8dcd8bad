-- Values fit their sort; on vectors not, and, or are bit by bit.
-- Assumes nothing.
use Rattle.std.proofs.Common.{◌≡◌, ℕ, ◌-◌, Bool, true, false, cond, refl, ap, mod-eq_of_lt, pow_pos}
use lib.Bits.{and_lt, or_lt}
use Rattle.ops.specs.declared.Op.TheVariants.{Constant, Variable, Apply, Ite, Select, Store, Unknown}
use Rattle.ops.specs.Meaning.{holds, ones, apply}
use Rattle.ops.specs.Fits.{fits}
use Rattle.ops.specs.Laws.{Fitting, Bitwise}
use Rattle.ops.proofs.Widths.{fits_below}
use Rattle.ops.proofs.Absorption.{lawful}

pub fits-cond : (b : Bool) (m y z : ℕ) → fits m y ≡ true → fits m z ≡ true → fits m (cond b y z) ≡ true
fits-cond true m y z p q = p
fits-cond false m y z p q = q

pub fitting : Fitting
unfolding apply
fitting Constant n m x y z h = fits_below n 0 (pow_pos n)
fitting Variable n m x y z h = fits_below n 0 (pow_pos n)
fitting (Apply f) n m x y z h = (lawful f n).fitted x y
fitting Ite n m x y z h = fits-cond (holds x) m y z (h refl).0 (h refl).1
fitting Select n m x y z h = fits_below n 0 (pow_pos n)
fitting Store n m x y z h = fits_below n 0 (pow_pos n)
fitting Unknown n m x y z h = fits_below n 0 (pow_pos n)

pub bitwise : Bitwise
bitwise n x y h k =
    record {
      bvnot = ap (λ (v : ℕ). ones n - v) (mod-eq_of_lt h);
      bvand = mod-eq_of_lt (and_lt n x y h k);
      bvor = mod-eq_of_lt (or_lt n x y h k);
    }
