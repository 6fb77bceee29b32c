-- What contracts see of a ring's ends.
use Rattle.std.specs.Prelude.{ℕ, List}
use denote.RawPtr.{Ptr}
use Rattle.std.specs.declared.alloc.Global.{Global}
use Rattle.report_queue.specs.declared.entries.Entry.{Entry}

-- which ring it is: what no other has
pub record RingId : Type 0 where
  pub words : Ptr
  pub slots : Ptr
  pub names : ℕ × (ℕ × ℕ)
  pub heap : Global

-- of a sender: its ring, how many places it knows to be free, and what was sent, in order
pub record Sending : Type 0 where
  pub ring : RingId
  pub free : ℕ
  pub sent : List Entry

-- of what is left of a sender: its ring, and all that was sent, in order
pub record Ended : Type 0 where
  pub ring : RingId
  pub sent : List Entry

-- of a reader: its ring, what was received, in order, and what it knows to wait, in order
pub record Receiving : Type 0 where
  pub ring : RingId
  pub received : List Entry
  pub waiting : List Entry
