use Rattle.setting.proofs.Latest.{sort_past, sort_none, sort_some}
use mathlib.Core.Path.{◌∙◌}
use Rattle.setting.proofs.arrays.slot_sort.Goals as goal

pub returns-then-entry-ne0 : goal.returns-then-entry-ne0
returns-then-entry-ne0 c = c.sort_at.ensures ∙ sort_some c.args.table.now c.args.slot _ (c.requires.is c.args.slot c.if-slot-lt256.true) c.if-entry-ne0.true

pub returns-else-entry-ne0 : goal.returns-else-entry-ne0
returns-else-entry-ne0 c = sort_none c.args.table.now c.args.slot _ (c.requires.is c.args.slot c.if-slot-lt256.true) c.if-entry-ne0.false

pub returns-else-slot-lt256 : goal.returns-else-slot-lt256
returns-else-slot-lt256 c = sort_past c.args.table.now c.args.slot c.if-slot-lt256.false
