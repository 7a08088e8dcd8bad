-- What a rule meets, part by part.
-- Assumes nothing.
use mathlib.Core.Path.{◌≡◌}
use mathlib.Core.Bool.{true, ◌&&◌}
use lib.Dec.{ltb}
use lib.ListN.{length}
use Rattle.smtlib.proofs.Cuts.{and_left, and_right}
use Rattle.parser.specs.Grammar.{Rule}
use Rattle.parser.specs.Trees.{names_of, distinct, knows, within, counted, every_tree, meets}

pub record Met (r : Rule) : Type 0 where
  pub apart : distinct (names_of r.declarations) ≡ true
  pub known : every_tree (knows (names_of r.declarations)) r.asserts ≡ true
  pub deep : every_tree (within 64) r.asserts ≡ true
  pub full : every_tree counted r.asserts ≡ true
  pub some : ltb 0 (length r.asserts) ≡ true

pub met_parts : (r : Rule) → meets r ≡ true → Met r
met_parts r m =
    let a = distinct (names_of r.declarations) in
    let b = every_tree (knows (names_of r.declarations)) r.asserts in
    let c = every_tree (within 64) r.asserts in
    let d = every_tree counted r.asserts in
    let e = ltb 0 (length r.asserts) in
    let m₃ = and_left (a && b && c && d) e m in
    let m₂ = and_left (a && b && c) d m₃ in
    let m₁ = and_left (a && b) c m₂ in
    record {
      apart = and_left a b m₁;
      known = and_right a b m₁;
      deep = and_right (a && b) c m₂;
      full = and_right (a && b && c) d m₃;
      some = and_right (a && b && c && d) e m;
    }
