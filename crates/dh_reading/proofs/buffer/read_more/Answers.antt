use Rattle.std.proofs.Common.{◌-◌, length, subst, arith}
use Rattle.std.specs.Io.KnownBytes.{Consumes}
use Rattle.std.proofs.KnownBytes.{Consumes-trans}
use Rattle.dh_reading.proofs.BufferLemmas.{take_read}
use Rattle.dh_reading.proofs.buffer.read_more.Goals as goal

pub returns-clause-bytes : goal.returns-clause-bytes
returns-clause-bytes g c start before =
    subst (Consumes _ _)
    (take_read c.args.filled (length c.args.buffer.now - c.args.filled) c.in_ok-count.count c.args.buffer.now c.read_again.new.buf (omega arith)
    c.in_ok-count.ensures.bound.0)
    (Consumes-trans _ _ _ _ _ before c.in_ok-count.ensures.ok)
