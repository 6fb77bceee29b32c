use Rattle.std.proofs.Common.{◌≡◌, ◌≤◌, length, Contains}
use Rattle.byte_lines.specs.LineReaders.{lines_left}
use Rattle.byte_lines.proofs.LineSteps.{IsMidway}
use Rattle.byte_lines.proofs.lines.LineReader.next_line.Given as goal

abbrev pub invariant-loop-next : goal.invariant-loop-next
invariant-loop-next g l =
    IsMidway l.initial.self l.self (g.S.ByteSource.remaining l.initial.source) (g.S.ByteSource.remaining l.source)
    × (Contains l.initial.self.ahead 10 → l.source ≡ l.initial.source)
    × (g.S.ByteSource.faults l.source ≡ g.S.ByteSource.faults l.initial.source)
    × (length l.initial.self.ahead ≤ g.S.ByteSource.last_read l.initial.source → length l.self.ahead ≤ g.S.ByteSource.last_read l.source)
    × (lines_left l.self (g.S.ByteSource.reads_left l.source) ≤ lines_left l.initial.self (g.S.ByteSource.reads_left l.initial.source))

abbrev pub decreases-loop-next : goal.decreases-loop-next
decreases-loop-next g l = g.S.ByteSource.reads_left l.source
