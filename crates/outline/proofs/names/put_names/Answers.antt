use mathlib.Core.Path.{◌≡◌, subst}
use mathlib.Core.List.{List, [], ◌∷◌, ◌++◌}
use Prim.Native.Nat.{ℕ, ◌+◌}
use lib.ListN.{length}
use native.Mathlib.Omega.{arith}
use Rattle.outline.specs.NameLines.{name_line}
use Rattle.outline.specs.Spans.{span_of}
use Rattle.outline.specs.declared.scan.Span.{Span}
use Rattle.smtlib.specs.Bytes.{part}
use Rattle.outline.proofs.Writing.{Filled, filled_length, filled_all, filled_stop, filled_more}
use Rattle.outline.proofs.names.put_names.Goals as goal

-- a name and its line feed are its line
name_is : (text name : List ℕ) (k : ℕ) (s : Span) → s ≡ span_of text k → name ≡ part text s.from s.to → name ++ (10 ∷ []) ≡ name_line text k
name_is text name k s e f = rw (f, e)

pub overflow_sub-room : goal.overflow_sub-room
overflow_sub-room c =
    let kept = filled_length c.args.text.now c.args.room.now c.args.names c.loop-k.room c.loop-k.at c.loop-k.k c.loop-k.invariant in
    let fits = c.loop-k.invariant.fits in
    omega (arith, kept, fits)

pub returns-then-room-at : goal.returns-then-room-at
returns-then-room-at c =
    let line = name_is c.args.text.now c.of-name.result.now c.loop-k.k c.span_of.result c.span_of.ensures c.of-name.ensures in
    let kept = filled_length c.args.text.now c.args.room.now c.args.names c.loop-k.room c.loop-k.at c.loop-k.k c.loop-k.invariant in
    let r = filled_stop c.args.text.now c.args.room.now c.args.names c.loop-k.room c.loop-k.at c.loop-k.k c.loop-k.invariant c.loop-k-test.true _ line (omega (arith, kept, c.if-room-at.true)) in
    record { value = r.count; room_after = r.room_is }

pub loop-k-preserved : goal.loop-k-preserved
loop-k-preserved c =
    let line = name_is c.args.text.now c.of-name.result.now c.loop-k.k c.span_of.result c.span_of.ensures c.of-name.ensures in
    let kept = filled_length c.args.text.now c.args.room.now c.args.names c.loop-k.room c.loop-k.at c.loop-k.k c.loop-k.invariant in
    let more = filled_more c.args.text.now c.args.room.now c.args.names c.loop-k.room c.loop-k.at c.loop-k.k c.loop-k.invariant c.loop-k-test.true _ line (omega (arith, kept, c.if-room-at.false)) _ c.put_line.ensures in
    let sum : c.loop-k.at + length c.of-name.result.now + 1 ≡ c.loop-k.at + (length c.of-name.result.now + 1) = omega arith in
    subst (λ (n : ℕ). Filled c.args.text.now c.args.room.now c.args.names c.put_line.new.room n (c.loop-k.k + 1)) sum more

pub returns : goal.returns
returns c =
    let r = filled_all c.args.text.now c.args.room.now c.args.names c.loop-k.room c.loop-k.at c.loop-k.k c.loop-k.invariant c.loop-k-test.false in
    record { value = r.count; room_after = r.room_is }
