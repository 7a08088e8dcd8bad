-- What a step that may fail came from.
-- Assumes nothing.
use Rattle.std.proofs.Common.{◌≡◌, Bool, true, false, cond, Result, Ok, Err, refl}
use Rattle.cases.specs.Parsing.{then_on}

pub then_ok : {A B E P : Type 0} (r : Result A E) (f : A → Result B E) (b : B) → then_on r f ≡ Ok b → ((a : A) → r ≡ Ok a → f a ≡ Ok b → P) → P
then_ok (Ok a) f b e k = k a refl e
then_ok (Err x) f b e k = absurd cc

pub then_err : {A B E P : Type 0} (r : Result A E) (f : A → Result B E) (x : E) → then_on r f ≡ Err x → (r ≡ Err x → P) → ((a : A) → r ≡ Ok a → f a ≡ Err x → P) → P
then_err (Ok a) f x e k later = later a refl e
then_err (Err y) f x e k later = k cc

-- a test that refuses was passed
pub passed_on : {A E P : Type 0} (b : Bool) (x : E) (r : Result A E) (a : A) → cond b (Err x) r ≡ Ok a → (b ≡ false → r ≡ Ok a → P) → P
passed_on true x r a e k = absurd cc
passed_on false x r a e k = k refl e

pub met : {A E P : Type 0} (b : Bool) (x : E) (r : Result A E) (a : A) → cond b r (Err x) ≡ Ok a → (b ≡ true → r ≡ Ok a → P) → P
met true x r a e k = k refl e
met false x r a e k = absurd cc

pub unmet : {A E P : Type 0} (b : Bool) (x : E) (r : Result A E) (kind : E) → cond b r (Err x) ≡ Err kind → (x ≡ kind → P) → (r ≡ Err kind → P) → P
unmet true x r kind e k later = later e
unmet false x r kind e k later = k cc
