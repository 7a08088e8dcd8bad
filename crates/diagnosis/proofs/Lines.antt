-- What lines tell, one after the other.
-- Assumes nothing.
use mathlib.Core.Path.{◌≡◌, refl, sym, ap, ◌∙◌}
use mathlib.Core.Bool.{Bool, true, false, cond, not}
use mathlib.Core.List.{List, [], ◌∷◌, ◌++◌}
use Prim.Native.Nat.{ℕ}
use Rattle.std.proofs.Common.{None, Some}
use Rattle.table.specs.declared.words.Term.{Term}
use Rattle.diagnosis.specs.declared.asking.Asking.{Asking}
use Rattle.diagnosis.specs.declared.reason.Part.{Part}
use Rattle.std.specs.List.{find}
use Rattle.std.specs.Option.{option_or, option_map}
use Rattle.diagnosis.specs.declared.reason.Reason.{Reason}
use Rattle.diagnosis.specs.Telling.{Line, tell}
use Rattle.diagnosis.specs.Reasons.{sort_line, sort_lines}

-- of two lists of lines the second tells where the first doesn't
pub tell_append : (xs ys : List Line) → tell (xs ++ ys) ≡ option_or (tell xs) (tell ys)
tell_append [] ys = refl
tell_append (x ∷ xs) ys = go x.ok (tell_append xs ys)
  where
    go : (b : Bool) → tell (xs ++ ys) ≡ option_or (tell xs) (tell ys) → cond b (tell (xs ++ ys)) (Some x.told) ≡ option_or (cond b (tell xs) (Some x.told)) (tell ys)
    go true e = e
    go false e = refl

-- the first of what is asked that is not met tells
module _ (t : List ℕ) (i : ℕ) (x : Term) where
  abbrev unmet : Part × Asking → Bool
  unmet ask = not (sort_line t 0 x ask.0 ask.1).ok

  abbrev told : Part × Asking → Reason
  told ask = (sort_line t i x ask.0 ask.1).told

  sort_tells : (asks : List (Part × Asking)) → tell (sort_lines asks t i x) ≡ option_map told (find unmet asks)
  sort_tells [] = refl
  sort_tells (ask ∷ asks) = go (sort_line t 0 x ask.0 ask.1).ok (sort_tells asks)
    where
      go : (b : Bool) → tell (sort_lines asks t i x) ≡ option_map told (find unmet asks)
          → cond b (tell (sort_lines asks t i x)) (Some (told ask)) ≡ option_map told (cond (not b) (Some ask) (find unmet asks))
      go true e = e
      go false e = refl

  pub none_unmet : (asks : List (Part × Asking)) → find unmet asks ≡ None → None ≡ tell (sort_lines asks t i x)
  none_unmet asks e = sym (sort_tells asks ∙ ap (option_map told) e)

  pub one_unmet : (asks : List (Part × Asking)) (ask : Part × Asking) → find unmet asks ≡ Some ask → Some (told ask) ≡ tell (sort_lines asks t i x)
  one_unmet asks ask e = sym (sort_tells asks ∙ ap (option_map told) e)
