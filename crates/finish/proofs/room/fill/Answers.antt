use mathlib.Core.Path.{ap}
use lib.ListN.{length}
use Rattle.groups.specs.declared.groups.Written.{Written}
use Rattle.finish.proofs.Fills.{own-fits, filled}
use Rattle.finish.proofs.room.fill.Goals as goal

pub copy-requires : goal.copy-requires
copy-requires c = own-fits c.args.table.now c.requires.well_formed (length c.args.room.now) c.requires.words_in_bounds

pub returns : goal.returns
returns c = record {
  value = ap (λ (y : Written). y.condition) c.write_groups-rule.ensures.value;
  room_after = filled c.args.table.now c.requires.well_formed c.args.room.now c.requires.words_in_bounds c.count-terms.result c.write_groups-rule.result _ _ _ _ _ c.count-terms.ensures c.write_groups-rule.ensures.value
      c.copy.ensures c.put_constant.ensures c.put_constant-2.ensures c.write_groups-rule.ensures.room_after c.put_and.ensures;
}
