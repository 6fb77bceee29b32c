-- Why a demonstration ended without its text.
use Rattle.byte_lines.specs.declared.failures.Failure.{Failure}
use Rattle.byte_lines.specs.declared.failures.Failure.TheVariants as failure
use Rattle.demonstration.specs.declared.failures.DemoFailure.{DemoFailure}
use Rattle.demonstration.specs.declared.failures.DemoFailure.TheVariants.{Device, NoMemory}

-- what a failure to read or write is to the demonstration
abbrev pub failure_of : Failure → DemoFailure
failure_of failure.Device = Device
failure_of failure.NoMemory = NoMemory
