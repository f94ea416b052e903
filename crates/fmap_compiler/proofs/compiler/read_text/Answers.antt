use Rattle.std.proofs.Common.{◌<◌, ◌≤◌, ◌++◌, ap, length, take, arith, length-append, length-take, rules}
use Rattle.std.proofs.KnownBytes.{Consumes-trans}
use Rattle.fmap_compiler.specs.Outcome.{reading_limit}
use Rattle.fmap_compiler.proofs.Prefixes.{IsPrefixOf-end, IsPrefixOf-full}
use Rattle.fmap_compiler.proofs.compiler.read_text.Goals as goal

pub returns-then-count-eq0-clause-text : goal.returns-then-count-eq0-clause-text
returns-then-count-eq0-clause-text g c =
    let read = c.in_ok-count.ensures in
    let so_far = c.loop-buffer.invariant in
    let taken = length-take c.min-room.result c.loop-buffer.buffer in
    let room : 0 < length c.read_some.new.room =
    omega (arith, c.read_some.auto.room, taken, so_far.room, c.min-room.ensures, c.loop-buffer-test.true, c.len.ensures) in
    let none = c.if-count-eq0.true in
    IsPrefixOf-end _ _ _ c.loop-buffer.text.items (take c.in_ok-count.count c.read_some.new.room) so_far.consumed read.bytes.0
    (ap (λ n. take n c.read_some.new.room) none) (read.bytes.1 none room) so_far.within

pub returns-in_err-extend_from_slice-clause-reader : goal.returns-in_err-extend_from_slice-clause-reader
returns-in_err-extend_from_slice-clause-reader g c =
    let read = c.in_ok-count.ensures in
    let so_far = c.loop-buffer.invariant in
    let more = take c.in_ok-count.count c.read_some.new.room in
    let len = length-append c.loop-buffer.text.items more in
    let room = length-take c.min-room.result c.loop-buffer.buffer in
    let fits : length (c.loop-buffer.text.items ++ more) ≤ reading_limit = omega (arith, len, read.bound.1, c.read_some.auto.room, room) in
    record {
      given = search rules;
      read = (c.loop-buffer.text.items ++ more, Consumes-trans _ _ _ c.loop-buffer.text.items more so_far.consumed read.bytes.0, fits);
      faults = omega (arith, so_far.faults, read.faults);
    }

pub returns-clause-text : goal.returns-clause-text
returns-clause-text g c =
    let so_far = c.loop-buffer.invariant in
    IsPrefixOf-full _ _ c.loop-buffer.text.items so_far.consumed
    (omega (arith, so_far.within, c.loop-buffer-test.false, c.len.ensures))
