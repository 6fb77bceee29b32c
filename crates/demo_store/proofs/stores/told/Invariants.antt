-- The answers so far are of the keys so far.
use Rattle.std.proofs.Common.{take}
use Rattle.std.specs.Prelude.{IsNone, All}
use Rattle.std.specs.Option.{ForSome}
use Rattle.demo_store.specs.Faults.{IsToldBut}
use Rattle.demo_store.specs.Logs.{AreOfKeys, IsSourceIn}
use Rattle.demo_store.proofs.stores.told.Given as goal

abbrev pub invariant-loop-key : goal.invariant-loop-key
invariant-loop-key l = record {
  keys_are : AreOfKeys (take l.key-index l.keys) l.reads;
  lies : ForSome l.lie (λ lie. All (IsToldBut l.log lie.key lie.source) l.reads);
  sources_are : IsNone l.lie → All (λ read. IsSourceIn l.log read.0 read.1) l.reads;
}
