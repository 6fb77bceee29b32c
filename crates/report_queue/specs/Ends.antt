-- Which ring an end of it is of.
use Rattle.rtrb.specs.declared.end.End.{End}
use Rattle.rtrb.specs.declared.AnyItems.{AnyItems}
use Rattle.std.specs.declared.alloc.Global.{Global}
use Rattle.report_queue.specs.declared.entries.Entry.{Entry}
use Rattle.report_queue.specs.Rings.{RingId}

-- the ring of an end
abbrev pub ring_of : End Entry Global AnyItems → RingId
ring_of end = record { words = end.words; slots = end.slots; names = end.names; heap = end.heap }
