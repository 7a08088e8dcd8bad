-- The promise of finishing, of evaluating through the record entrance: that of the cells laid flat.
-- Assumes nothing.
use Rattle.std.specs.Prelude.{Ok, Err}
use mathlib.Core.Path.{sym, ap, subst, ◌∙◌}
use mathlib.Core.List.{List}
use Prim.Native.Nat.{ℕ}
use Prim.{tt}
use lib.ListN.{length}
use Rattle.table.specs.Admission.{and_then}
use Rattle.evaluate.specs.Evaluation.{afford, room_in}
use Rattle.finish.specs.declared.Extent.{Extent}
use Rattle.finish.specs.Laws.{SameAnswers, Faithful}
use Rattle.records.specs.Rows.{flattened}
use Rattle.records.proofs.Flattened.{laid_interpret, laid_check, equal-evaluation, equal-judgement}
use Rattle.hiranthok.specs.Laws.{RecordFaithful, FinishedForRecords}

of_records : (w f : List ℕ) (e : Extent) → Faithful w f e → RecordFaithful w f e
of_records w f e p =
    record {
      evaluated = λ values cells allowance room.
          equal-evaluation f values cells allowance room
          ∙ p.evaluated values (flattened cells) allowance room
          ∙ ap (λ c. and_then Err c (afford f 1 allowance room)) (laid_check cells w values);
      agrees = λ sheet values cells allowance room v leaves h allowance' work s g.
          subst (λ I. SameAnswers w e v (room_in (Ok s) f I work)) (laid_interpret cells values)
          (p.agrees sheet values (flattened cells) allowance room v leaves (sym (equal-judgement w sheet values cells allowance room) ∙ h) allowance' work s
          (sym (equal-evaluation f values cells allowance' (length work)) ∙ g));
    }

pub finished_for_records : FinishedForRecords
finished_for_records w room (Ok e) p = of_records w _ e p
finished_for_records w room (Err r) p = tt
