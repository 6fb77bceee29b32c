use contract.Lifetimes.{Lfts}
use denote.Exit.{yes}
use denote.Param.{param}
use denote.Param.Send.{IsSend, IsSync, arg_send, param_send, sendable}
use Rattle.std.proofs.Crossing.{crosses}
use Rattle.demonstration.specs.contracts.threads.start_reader.{R-row}
use Rattle.demonstration.proofs.halls.Hall.TheSendSync as hall
use Rattle.demonstration.proofs.Sending.{heard_send, reader_send}
use Rattle.demonstration.proofs.threads.start_reader.Given as given
use Rattle.demonstration.proofs.threads.start_reader.Goals as goal
use Rattle.demonstration.proofs.threads.start_reader.Lts as lts

-- what the reader's thread takes with it may cross threads: a statement of its own, since beside all that is known at the call the search ends early
taken_send : (g : given.Over) (κs : Lfts 8) → IsSync (R-row g.row.E g.row.R) → IsSend (param 2 (lts.arg-1-2 g.row.E g.row.R g.E.laws g.R.laws g.R.Threads-dict g.R.Wait-dict κs))
taken_send g κs sync = search (sendable, crosses, reader_send, hall.the_field_sync) depth 30 fits 20000

pub spawn_with-requires-send-T : goal.spawn_with-requires-send-T
spawn_with-requires-send-T g c κs within = param_send 3 _ (arg_send _ yes _ heard_send)

pub spawn_with-requires-send-F : goal.spawn_with-requires-send-F
spawn_with-requires-send-F g c κs within = taken_send g κs c.type_bounds.sync-R
