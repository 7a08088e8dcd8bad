use Rattle.outline.specs.Scanning.{step}
use Rattle.outline.proofs.scan.Scan.step.Goals as goal

pub returns : goal.returns
unfolding step
returns c =
    rw (
      c.command_after.ensures,
      c.depth_after.ensures,
      c.words_after.ensures,
      c.terms_after.ensures,
      c.asserts_after.ensures,
      c.bare_after.ensures,
      c.begun_after.ensures,
      c.last_after.ensures,
      c.kind_of-kind.ensures,
    )
