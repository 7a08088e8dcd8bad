-- The promise of parsing, from the laws.
-- Assumes nothing.
use Rattle.std.specs.Prelude.{Ok, Err}
use mathlib.Core.Path.{◌≡◌, refl, ap, subst, ◌∙◌}
use mathlib.Core.List.{List}
use Prim.Native.Nat.{ℕ}
use Rattle.table.specs.Admission.{admission}
use Rattle.parser.specs.Parsing.{Parsing}
use Rattle.parser.specs.Parsing.{parsing}
use Rattle.meanings.specs.Numbers.{parse_numbers, NotParsedBy}
use Rattle.meanings.specs.Promise.{ParsingPromise}
use Rattle.meanings.proofs.Parsed.{built_is, parsed_just}
use Rattle.meanings.proofs.Conjunctions.{rule_means_asserts}
use Rattle.meanings.proofs.Numbers.{parsing-numbers}

pub promised : (text : List ℕ) (room : ℕ) → ParsingPromise text (parsing text room)
promised text room = go (parsing text room) refl
  where
    go : (a : Parsing) → parsing text room ≡ a → ParsingPromise text a
    go (Ok n) e = λ small.
        let t = (parsed_just text small room n).sound e in
        let table = built_is text t.rule small t.reads t.met room n e in
        record {
          rule = t.rule;
          reads = t.reads;
          met = t.met;
          table = table;
          count = t.count;
          admitted = ap admission table ∙ t.admitted;
          means = rule_means_asserts text small room n e t.rule t.reads;
        }
    go (Err r) e = subst (NotParsedBy parse_numbers) e (parsing-numbers text room)
