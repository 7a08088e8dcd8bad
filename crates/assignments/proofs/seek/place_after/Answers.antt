use mathlib.Core.Path.{sym, ap, ◌∙◌}
use Rattle.assignments.specs.Seeking.{valued}
use Rattle.assignments.proofs.Ways.{place_none, place_here, place_next, place_on}
use Rattle.assignments.proofs.seek.place_after.Goals as goal
use Rattle.assignments.proofs.seek.place_after.Goals.{then-valued+else-left-eq0, else-valued}

pub returns-then-left-eq0 : goal.returns-then-left-eq0
returns-then-left-eq0 c =
    place_here c.args.text.now c.args.sought.now c.args.equals c.loop-token.left c.loop-token.met _ c.in-Some.token _ c.in-Some.ensures.steps
    (sym (c.valued.ensures ∙ ap (valued c.args.equals c.loop-token.met) c.of-word.ensures) ∙ c.if-valued.true) c.if-left-eq0.true
    ∙ c.loop-token.invariant.1

pub loop-token-preserved : goal.loop-token-preserved
loop-token-preserved c =
    let said = c.valued.ensures ∙ ap (valued c.args.equals c.loop-token.met) c.of-word.ensures in (
      (tt, tt),
      rw (c.after-met.ensures, c.of-word.ensures) (elim c.if-valued.branch [
        | then-valued+else-left-eq0 w ↦
            rw w.left-is (place_next c.args.text.now c.args.sought.now c.args.equals c.loop-token.left c.loop-token.met _ c.in-Some.token _ c.in-Some.ensures.steps (sym said ∙ w.if-valued.true) w.if-left-eq0.false
            ∙ c.loop-token.invariant.1)
        | else-valued w ↦
            rw w.left-is (place_on c.args.text.now c.args.sought.now c.args.equals c.loop-token.left c.loop-token.met _ c.in-Some.token _ c.in-Some.ensures.steps (sym said ∙ w.if-valued.false)
            ∙ c.loop-token.invariant.1)
      ]),
    )

pub returns : goal.returns
returns c = place_none c.args.text.now c.args.sought.now c.args.equals c.loop-token.left c.loop-token.met _ c.in-None.ensures.steps.0 ∙ c.loop-token.invariant.1
