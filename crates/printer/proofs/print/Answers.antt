use Rattle.std.proofs.Common.{◌≡◌, ◌∙◌, List, ℕ, length, Err, ap, sym, subst, rules}
use Rattle.table.specs.Answers.{Acceptance}
use Rattle.table.specs.Admission.{and_then}
use Rattle.table.proofs.Admitted.{admission-sound}
use Rattle.printer.specs.Printed.{text}
use Rattle.printer.specs.Printing.{Printing, fitting, room_after}
use Rattle.printer.specs.Meaning.{PrintingPromise}
use Rattle.printer.proofs.Answers.{promised, asked}
use Rattle.printer.proofs.print.Goals as goal

pub fit-requires : goal.fit-requires
fit-requires c = admission-sound 80000 c.args.table.now (sym c.admit_within.ensures ∙ c.in_ok-admit_within.was)

pub returns-in_err-admit_within : goal.returns-in_err-admit_within
returns-in_err-admit_within c =
    let e : c.from_residual.result ≡ Err c.in_err-admit_within.field-0.0 = search rules in
    record {
      value = e ∙ ap (λ (a : Acceptance). and_then Err a (fitting (length (text c.args.table.now)) (length c.args.room.now))) (sym c.in_err-admit_within.was ∙ c.admit_within.ensures);
      room_after = ap (λ (p : Printing). room_after p c.args.table.now c.args.room.now) (sym e);
      printing_promise = subst (PrintingPromise c.args.table.now c.args.room.now) (sym e) tt;
    }

pub returns : goal.returns
returns c =
    let t = c.args.table.now in
    let f = c.fit.ensures in
    let ok = admission-sound 80000 t (sym c.admit_within.ensures ∙ c.in_ok-admit_within.was) in
    record {
      value = f.value ∙ ap (λ (a : Acceptance). and_then Err a (fitting (length (text t)) (length c.args.room.now))) (sym c.in_ok-admit_within.was ∙ c.admit_within.ensures);
      room_after = f.room_after;
      printing_promise = subst (λ (z : List ℕ). PrintingPromise t z c.fit.result) (sym f.room_after) (promised t c.args.room.now (asked t ok) _ f.value);
    }
