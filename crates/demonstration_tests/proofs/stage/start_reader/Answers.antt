use contract.Lifetimes.{Lfts}
use denote.Param.{param}
use denote.Param.Send.{IsSend, IsSync, sendable}
use Rattle.std.proofs.Crossing.{crosses}
use Rattle.atomic_table.proofs.shared.Seat.TheSendSync as seat
use Rattle.report_queue.specs.contracts.seats.ReaderSeat as ReaderSeat
use Rattle.demonstration.proofs.Sending.{reader_send}
use Rattle.demonstration_tests.specs.contracts.stage.ReaderSide as ReaderSide
use Rattle.demonstration_tests.specs.contracts.stage.start_reader.{R-row, P-row}
use Rattle.demonstration_tests.proofs.stage.Hall.TheSendSync as hall
use Rattle.demonstration_tests.proofs.stage.start_reader.Given as given
use Rattle.demonstration_tests.proofs.stage.start_reader.Goals as goal
use Rattle.demonstration_tests.proofs.stage.start_reader.Lts as lts

-- what the reader's thread takes with it of its own
seat_send : IsSend ReaderSeat.the_field.row
seat_send = search (sendable, crosses, seat.the_send) depth 30 fits 20000

side_send : IsSend ReaderSide.the_row
side_send = search (sendable, crosses, reader_send, seat_send) depth 30 fits 20000

-- all that it takes may cross threads: a statement of its own, since beside all that is known at the call the search ends early
taken_send : (g : given.Over) (κs : Lfts 8) → IsSync (R-row g.row.E g.row.R g.row.P) → IsSync (P-row g.row.E g.row.R g.row.P)
    → IsSend (param 1 (lts.arg-0-1 g.row.E g.row.R g.row.P g.E.laws g.R.laws g.P.laws g.R.Threads-dict g.R.Wait-dict g.P.Play-dict κs))
taken_send g κs rt play = search (sendable, crosses, side_send, hall.the_field_sync) depth 30 fits 20000

pub spawn-requires-send-F : goal.spawn-requires-send-F
spawn-requires-send-F g c κs within = taken_send g κs c.type_bounds.sync-R c.type_bounds.sync-P
