use Rattle.std.proofs.Common.{Ok, Err, rules}
use Prim.Native.Nat.{ℕ, pred, ◌-◌, ◌*◌, ◌≤◌, ◌<◌}
use Prim.{tt}
use mathlib.Core.Path.{◌≡◌, refl, sym, ap, subst, ◌∙◌}
use mathlib.Core.List.{List}
use native.Mathlib.Omega.{arith}
use lib.ListN.{length}
use Rattle.table.specs.Terms.{terms}
use Rattle.table.proofs.Admitted.{admission-sound}
use Rattle.finish.specs.declared.Extent.{Extent}
use Rattle.finish.specs.Finished.{Finishing}
use Rattle.finish.specs.Finished.{not_finished, extent, finished, room_after}
use Rattle.finish.specs.Laws.{FinishingPromise}
use Rattle.finish.proofs.Answers.{refused-is, too_short, long-enough}
use Rattle.finish.proofs.Fills.{count_some}
use Rattle.finish.proofs.Promises.{promise}
use Rattle.finish.proofs.finish.Goals as goal

pub returns-in_err-admit : goal.returns-in_err-admit
returns-in_err-admit c =
    let w = c.args.table.now in
    let e : c.from_residual.result ≡ Err c.in_err-admit.field-0.0 = search rules in
    record {
      value = e ∙ refused-is w c.args.room.now c.admit.ensures c.in_err-admit.was;
      room_after = ap (λ (z : Finishing). room_after z w c.args.room.now) (sym e);
      finishing_promise = subst (FinishingPromise w c.args.room.now) (sym e) tt;
    }

pub needed-terms-requires : goal.needed-terms-requires
needed-terms-requires c =
    let w = c.args.table.now in
    admission-sound 512 w (sym c.admit.ensures ∙ c.in_ok-admit.was)

pub returns-then-room-terms : goal.returns-then-room-terms
returns-then-room-terms c =
    let w = c.args.table.now in
    let h = (sym c.admit.ensures ∙ c.in_ok-admit.was) in
    let n = c.needed-terms.ensures in
    record { value = ap (not_finished 21) n ∙ too_short w c.args.room.now h (subst (λ (k : ℕ). length c.args.room.now < k * 6) n c.if-room-terms.true); room_after = refl; finishing_promise = tt }

pub fill-condition-requires : goal.fill-condition-requires
fill-condition-requires c =
    let w = c.args.table.now in
    record { well_formed = admission-sound 512 w (sym c.admit.ensures ∙ c.in_ok-admit.was); words_in_bounds = subst (λ (k : ℕ). k * 6 ≤ length c.args.room.now) c.needed-terms.ensures c.if-room-terms.false }

pub overflow_sub-result : goal.overflow_sub-result
overflow_sub-result c =
    let w = c.args.table.now in
    omega (arith, c.needed-terms.ensures, count_some w (admission-sound 512 w (sym c.admit.ensures ∙ c.in_ok-admit.was)))

pub returns : goal.returns
returns c =
    let w = c.args.table.now in
    let h = (sym c.admit.ensures ∙ c.in_ok-admit.was) in
    let n = c.needed-terms.ensures in
    let full = subst (λ (k : ℕ). k * 6 ≤ length c.args.room.now) n c.if-room-terms.false in
    let e : Extent = record { terms = c.needed-terms.result; condition = c.fill-condition.result; last = c.needed-terms.result - 1 } in
    let last : c.needed-terms.result - 1 ≡ pred (terms (finished w)) = omega (arith, n) in
    let same : e ≡ extent w = λ i. record { terms = n i; condition = c.fill-condition.ensures.value i; last = last i } in
    let is : Ok e ≡ Ok (extent w) = ap Ok same in
    record { value = is ∙ long-enough w c.args.room.now h full; room_after = c.fill-condition.ensures.room_after ∙ ap (λ (z : Finishing). room_after z w c.args.room.now) (sym is); finishing_promise = subst (λ (z : Finishing). FinishingPromise w c.fill-condition.new.room z) (sym is) (subst (λ (l : List ℕ). FinishingPromise w l (Ok (extent w))) (sym c.fill-condition.ensures.room_after) (promise w c.args.room.now h)) }
