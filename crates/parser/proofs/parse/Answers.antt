use mathlib.Core.Path.{sym}
use native.Mathlib.Omega.{arith}
use Rattle.parser.proofs.Endings.{parse_is, within, front, enough, filled}
use Rattle.parser.proofs.parse.Goals as goal

pub answer-r-requires : goal.answer-r-requires
answer-r-requires c = omega (arith, c.rule.auto.room)

pub slice_bounds-table-end : goal.slice_bounds-table-end
slice_bounds-table-end c = within c.args.text.now c.args.room.now c.rule.result c.rule.new.room c.rule.ensures c.answer-r.result c.answer-r.ensures c.rule.auto.room c.given-end.result c.given-end.ensures

pub slice_bounds-copy-end : goal.slice_bounds-copy-end
slice_bounds-copy-end c = sym (front c.args.text.now c.args.room.now c.rule.result c.rule.new.room c.rule.ensures c.answer-r.result c.answer-r.ensures c.rule.auto.room c.given-end.result c.given-end.ensures)

pub copy-requires : goal.copy-requires
copy-requires c = enough c.args.text.now c.args.room.now c.rule.result c.rule.new.room c.rule.ensures c.answer-r.result c.answer-r.ensures c.rule.auto.room c.given-end.result c.given-end.ensures

pub returns : goal.returns
returns c = record {
  value = parse_is c.args.text.now c.args.room.now c.rule.result c.rule.new.room c.rule.ensures c.answer-r.result c.answer-r.ensures;
  room_after = filled c.args.text.now c.args.room.now c.rule.result c.rule.new.room c.rule.ensures c.answer-r.result c.answer-r.ensures c.rule.auto.room c.given-end.result c.given-end.ensures c.copy.new.room c.copy.ensures;
}
