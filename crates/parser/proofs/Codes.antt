-- What a word is not, by its code.
-- Assumes nothing.
use Rattle.std.specs.Prelude.{◌≡◌, false, None, Some, eqb}
use mathlib.Core.Path.{refl}
use Rattle.parser.specs.declared.words.Keyword.{Keyword as OwnWord}
use Rattle.parser.specs.declared.words.Keyword.TheVariants.{DeclareConst, Assert, CheckSat, Underscore}
use Rattle.parser.specs.declared.words.SortName.TheVariants as sort_name
use Rattle.parser.specs.declared.words.Word.{Word}
use Rattle.parser.specs.declared.words.Word.TheVariants.{Open, Close, Keyword, Operator, Literal, Width, Name, Other, End}
use Rattle.parser.specs.Rules.{code_of}

pub not_open : (w : Word) → (w ≡ Open → ⊥) → eqb (code_of w) 1 ≡ false
not_open Open n = absurd (n refl)
not_open Close n = refl
not_open (Keyword DeclareConst) n = refl
not_open (Keyword Assert) n = refl
not_open (Keyword CheckSat) n = refl
not_open (Keyword Underscore) n = refl
not_open (Operator op) n = refl
not_open (Literal m v) n = refl
not_open (Width m) n = refl
not_open (Name None) n = refl
not_open (Name (Some sort_name.Bool)) n = refl
not_open (Name (Some sort_name.BitVec)) n = refl
not_open (Name (Some sort_name.Array)) n = refl
not_open Other n = refl
not_open End n = refl

-- none of the codes of keywords
pub record NoKeyword (w : Word) : Type 0 where
  pub declare_const : eqb (code_of w) 3 ≡ false
  pub assert : eqb (code_of w) 4 ≡ false
  pub check_sat : eqb (code_of w) 5 ≡ false

abbrev none_of : {w : Word} → eqb (code_of w) 3 ≡ false → eqb (code_of w) 4 ≡ false → eqb (code_of w) 5 ≡ false → NoKeyword w
none_of e f g = record { declare_const = e; assert = f; check_sat = g }

pub no_keyword : (w : Word) → ((k : OwnWord) → w ≡ Keyword k → ⊥) → NoKeyword w
no_keyword Open n = none_of refl refl refl
no_keyword Close n = none_of refl refl refl
no_keyword (Keyword k) n = absurd (n k refl)
no_keyword (Operator op) n = none_of refl refl refl
no_keyword (Literal m v) n = none_of refl refl refl
no_keyword (Width m) n = none_of refl refl refl
no_keyword (Name None) n = none_of refl refl refl
no_keyword (Name (Some sort_name.Bool)) n = none_of refl refl refl
no_keyword (Name (Some sort_name.BitVec)) n = none_of refl refl refl
no_keyword (Name (Some sort_name.Array)) n = none_of refl refl refl
no_keyword Other n = none_of refl refl refl
no_keyword End n = none_of refl refl refl
