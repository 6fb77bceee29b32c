use Rattle.std.proofs.Common.{[]}
use Rattle.std.proofs.KnownBytes.{Appends-nil}
use Rattle.cobra.specs.Outputs.{StopsForMemory}
use Rattle.cobra.proofs.ServedLines.{where_told, stops_first}
use Rattle.cobra.proofs.serving.serve.Goals as goal

pub returns-in_err-reader-clause-stops_for_memory : goal.returns-in_err-reader-clause-stops_for_memory
returns-in_err-reader-clause-stops_for_memory g c = λ memory.
    where_told StopsForMemory _ _ _ _ (λ input told. ([], stops_first input _ told, Appends-nil _))
