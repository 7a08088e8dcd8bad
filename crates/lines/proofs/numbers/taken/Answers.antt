use Rattle.std.proofs.Common.{◌∙◌, sym, ap}
use Rattle.lines.specs.Parts.{number}
use Rattle.lines.specs.Parts as Parts
use Rattle.lines.proofs.ByNumber.{by_number}
use Rattle.lines.proofs.numbers.taken.Goals as goal

-- src/numbers.rt:35:1
pub returns-in_default : goal.returns-in_default
returns-in_default c =
    let stands = by_number c.args.numbers.now c.args.part in
    let to = sym c.next_of.ensures in
    let valued = ap (λ x. number (Parts.part_after c.args.numbers.now x c.args.token)) to in
    record {
      value = sym (stands.value c.args.token c.in_default.not-Nothing ∙ valued ∙ ap number (sym c.take.ensures.value) ∙ sym c.number.ensures);
      numbers_after = c.take.ensures.numbers_after ∙ sym (stands.row c.args.token c.in_default.not-Nothing ∙ ap (λ x. Parts.after c.args.numbers.now x c.args.token) to);
    }
